use Rattle.std.proofs.Common.{arith, ◌∷◌, [], sym, ◌∙◌, refl, get_or}
use Rattle.std.proofs.lemmas.Nat.{be_bytes_4}
use Rattle.module_frames.proofs.Headers.{body_length-bytes, length_bytes-bytes, four_fit}
use Rattle.module_frames.proofs.frames.body_length.Goals as goal

pub returns-clause-known : goal.returns-clause-known
returns-clause-known c = c.from_be_bytes.ensures ∙ sym (body_length-bytes c.args.header.now c.requires)

pub returns-clause-encoded : goal.returns-clause-encoded
returns-clause-encoded c =
    let header = c.args.header.now in
    rw (length_bytes-bytes header c.requires)
    (be_bytes_4 (get_or header 4 0 ∷ get_or header 5 0 ∷ get_or header 6 0 ∷ get_or header 7 0 ∷ []) c.from_be_bytes.result refl (four_fit _ _ _ _ (omega (arith, c.type_inv.header 4)) (omega (arith, c.type_inv.header 5)) (omega (arith, c.type_inv.header 6)) (omega (arith, c.type_inv.header 7))) c.from_be_bytes.ensures)
