use Rattle.std.proofs.Common.{◌≡◌, ◌≤◌, ◌+◌, ◌*◌, ℕ, List, ◌++◌, length, take, drop, sym, ap, ◌∙◌, arith}
use Rattle.std.specs.Int.{w64, to_be_bytes}
use Rattle.bits_core.specs.ByteList.{xor_bytes}
use Rattle.aes_core.specs.Aes.{IsState}
use Rattle.aes_core.specs.Key.{aes, aes_inverse}
use Rattle.aes_spec.proofs.EncryptionUndoes.{aes-aes_inverse}
use Rattle.key_wrap.specs.InPlace.{stepped}
use Rattle.bits_core.proofs.Bytes.{IsBytes-take, IsBytes-drop}
use Rattle.key_wrap.proofs.BlockBytes.{bytes-xor, bytes-number, two_semiblocks}
use Rattle.key_wrap.proofs.Undone.{take-half, drop-half, sum-half, stepped_again, block-long, block-halves}
use Rattle.key_wrap.proofs.semiblocks.unstep.Goals as goal

pub returns-clause-opened : goal.returns-clause-opened
returns-clause-opened c = λ key is.
    let i = c.args.i in
    let text = c.args.text.now in
    let block = c.gather-block.result in
    let small = c.gather-block.ensures.bytes in
    let sum = c.xor_into.new.a in
    let number : List ℕ = to_be_bytes w64 c.args.t in
    let opened = c.decrypt.new.block in
    let within : 8 * i + 16 ≤ length text = c.requires.within in
    let long : length block ≡ 16 = ap (length {A = ℕ}) c.gather-block.ensures.block ∙ block-long i text within in
    let added : sum ≡ xor_bytes (take 8 block) number = c.xor_into.ensures ∙ ap (xor_bytes (take 8 block)) c.to_be_bytes.ensures in
    let given : sum ++ drop 8 block ≡ xor_bytes (take 8 block) number ++ drop 8 block = ap (λ (u : List ℕ). u ++ drop 8 block) added in
    let state : IsState (xor_bytes (take 8 block) number ++ drop 8 block) =
    two_semiblocks (xor_bytes (take 8 block) number) (drop 8 block) (sum-half block c.args.t long) (drop-half block long)
    (bytes-xor (take 8 block) number (sym (take-half block long)) (IsBytes-take 8 block small) (bytes-number c.args.t)) (IsBytes-drop 8 block small) in
    let closed : aes key opened ≡ xor_bytes (take 8 text) number ++ take 8 (drop (8 * i + 8) text) =
    ap (aes key) (c.decrypt.ensures key is ∙ ap (aes_inverse key) given)
    ∙ aes-aes_inverse key (xor_bytes (take 8 block) number ++ drop 8 block) is.bytes state
    ∙ block-halves (λ (u v : List ℕ). xor_bytes u number ++ v) i text block within c.gather-block.ensures.block in
    sym (ap (stepped (aes key) c.args.t i) c.scatter.ensures ∙ stepped_again (aes key) c.args.t i text opened within c.decrypt.array_long closed)

pub returns-clause-bytes : goal.returns-clause-bytes
returns-clause-bytes c = λ n. omega (arith, c.type_inv.text n)
