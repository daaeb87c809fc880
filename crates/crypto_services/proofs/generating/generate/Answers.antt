use Rattle.std.proofs.Common.{◌≡◌, ◌≤◌, ◌∷◌, List, [], ℕ, length, take, sym, subst}
use Rattle.bits_core.specs.ByteList.{zeros}
use Rattle.noise_health.specs.Counts.{Counts}
use Rattle.outside.specs.Explained.{Explained}
use Rattle.random_bits.specs.Draws.{drawn}
use Rattle.service_table.specs.declared.service.Service.TheVariants as service
use Rattle.ssp_slots.proofs.WellFormedSlots.{length_fits-le}
use Rattle.crypto_services.specs.Drawing.{after_draw, generate_result, ServesDrawn}
use Rattle.crypto_services.proofs.ZeroWork.{front_of_zeros, length_front_of_zeros}
use Rattle.crypto_services.proofs.generating.generate.Goals as goal

pub generate_in-requires-clause-zero : goal.generate_in-requires-clause-zero
generate_in-requires-clause-zero g c = front_of_zeros c.args.length 64

pub returns-clause-serves : goal.returns-clause-serves
returns-clause-serves g c =
    let Served : ℕ → List ℕ → Type 0 = λ count payload. Explained (g.N.Noise.left c.args.noise.now) (g.N.Noise.left c.generate_in.new.noise)
    (λ events left. (samples : List ℕ) → Counts c.args.parts.now.health samples →
    ServesDrawn {V = g.row.E.Denot} (record { service = service.Generate; mac_length = 0; named = c.args.target ∷ [] })
    (drawn g.E.Engine.calls c.args.parts.now.engine c.args.parts.now.drbg [] count samples events)
    (after_draw (drawn g.E.Engine.calls c.args.parts.now.engine c.args.parts.now.drbg [] count samples events) c.args.parts.now.vault.slots
    (generate_result {V = g.row.E.Denot} c.args.target c.args.header.now))
    c.args.parts.now c.generate_in.new.parts c.generate_in.result payload left) in
    let most : c.args.length ≤ 64 = length_fits-le c.args.header.now.kind c.args.header.now.domain c.args.length c.requires.fits in
    let long : length (take c.args.length (zeros 64)) ≡ c.args.length = length_front_of_zeros c.args.length 64 most in
    let silent : Served c.args.length [] = subst (λ (count : ℕ). Served count []) long c.generate_in.ensures.serves in
    subst (λ (payload : List ℕ). Served c.args.length payload) (sym c.requires.empty) silent
