use Rattle.std.proofs.Common.{◌++◌, ◌∙◌, List, ℕ, drop, length, ap}
use Rattle.std.proofs.lemmas.List.{drop-replicate}
use Rattle.std.proofs.Math.Seq.{drop-append_seam}
use Rattle.crypto_services.proofs.wrapping.lay.Goals as goal

pub returns-clause-rest : goal.returns-clause-rest
returns-clause-rest c =
    let n : ℕ = length c.args.bytes.now in
    let behind : List ℕ = drop n c.args.buf.now in
    ap (λ (xs : List ℕ). drop n (xs ++ behind)) c.copy_from_slice.ensures.after ∙ drop-append_seam c.args.bytes.now behind
    ∙ ap (λ (xs : List ℕ). drop n xs) c.requires.zero ∙ drop-replicate n 80 0
