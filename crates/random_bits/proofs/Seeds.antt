-- What seeds and draws leave, by what was taken of the noise.
use Rattle.std.proofs.Common.{◌≡◌, ◌≤◌, ◌<◌, ◌++◌, ◌+◌, ℕ, List, [], length, Option, Some, None, Bool, true, false, nat_lt, refl, sym, ◌∙◌, ap, subst, arith, Result, Ok, Err, OnOk, if◌then◌else◌}
use Rattle.std.proofs.lemmas.Bool.{lt-ltb, le-ltb}
use Rattle.std.specs.Bool.{⊤}
use Rattle.drbg_core.specs.declared.generator.Drbg.{Drbg}
use Rattle.noise_health.specs.Counts.{Counts}
use Rattle.noise_health.specs.declared.health.Health.{Health}
use Rattle.outside.specs.declared.traits.Sample.{Sample}
use Rattle.service_table.specs.declared.failure.Failure.{Failure}
use Rattle.tested_noise.specs.Taken.{Taken, taken_after, AreTaken, FailsWithin}
use Rattle.engine_core.specs.Calls.{Calls}
use Rattle.random_bits.specs.Draws.{Drawn, with_noise, seeded_from, instantiated, reseeded_from, reseeded, refreshed, generated_by, drawn, IsDrawn}

-- so many samples were taken
abbrev pub all_taken : List ℕ → List ℕ → List Sample → Taken
all_taken samples bytes left = record { samples = samples ++ bytes; left = left; bytes = bytes; failure = None }

taken_of : (samples bytes : List ℕ) (events left : List Sample) (count : ℕ) → length bytes ≡ count → AreTaken samples bytes events left
    → taken_after samples events count ≡ all_taken samples bytes left
taken_of samples bytes events left count long taken = subst (λ n. taken_after samples events n ≡ all_taken samples bytes left) long taken

-- what failed isn't nothing
abbrev where_none : Type 0 → Option Failure → Type 0
where_none A None = A
where_none A (Some why) = Unit {0}

not_none : {A : Type 0} (found : Option Failure) (why : Failure) → found ≡ Some why → found ≡ None → A
not_none {A} found why is none = subst (where_none A) (sym is ∙ none) tt

-- it is so of equal values
drawn_alike : {V : Type 0} (after value : Drawn V) (engine : V) (generator : Drbg) (health : Health) (answer : Result ⊤ Failure) (left : List Sample)
    → after ≡ value → IsDrawn value engine generator health answer left → IsDrawn after engine generator health answer left
drawn_alike after value engine generator health answer left is holds = subst (λ x. IsDrawn x engine generator health answer left) (sym is) holds

pub instantiated_ok : {V : Type 0} (calls : Calls V) (engine new : V) (generator fresh : Drbg) (health : Health) (samples bytes : List ℕ) (events left : List Sample)
    → length bytes ≡ 1408 → AreTaken samples bytes events left → Counts health (samples ++ bytes)
    → new ≡ (seeded_from calls engine generator (all_taken samples bytes left) None).engine → fresh ≡ (seeded_from calls engine generator (all_taken samples bytes left) None).generator
    → IsDrawn (instantiated calls engine generator samples events) new fresh health (Ok tt) left
instantiated_ok calls engine new generator fresh health samples bytes events left long taken counts engine' generator' =
    drawn_alike _ (seeded_from calls engine generator (all_taken samples bytes left) None) new fresh health (Ok tt) left
    (ap (λ (t : Taken). seeded_from calls engine generator t t.failure) (taken_of samples bytes events left 1408 long taken))
    (record { same_engine = engine'; same_generator = generator'; same_answer = refl; counts = λ _. counts; events_left = refl })

pub instantiated_err : {V : Type 0} (calls : Calls V) (engine : V) (generator : Drbg) (health : Health) (why : Failure) (samples : List ℕ) (count : ℕ) (events left : List Sample)
    → count ≡ 1408 → FailsWithin samples count why events left → IsDrawn (instantiated calls engine generator samples events) engine generator health (Err why) left
instantiated_err calls engine generator health why samples count events left long failed =
    let fails : FailsWithin samples 1408 why events left = subst (λ n. FailsWithin samples n why events left) long failed in
    drawn_alike _ (with_noise engine generator (taken_after samples events 1408)) engine generator health (Err why) left
    (ap (seeded_from calls engine generator (taken_after samples events 1408)) fails.reason)
    (record { same_engine = refl; same_generator = refl; same_answer = fails.reason; counts = λ none. not_none _ why fails.reason none; events_left = fails.events_left })

pub reseeded_ok : {V : Type 0} (calls : Calls V) (engine new : V) (generator fresh : Drbg) (health : Health) (additional samples bytes : List ℕ) (events left : List Sample)
    → length bytes ≡ 256 → AreTaken samples bytes events left → Counts health (samples ++ bytes)
    → new ≡ calls.reseed_after engine generator bytes additional → fresh ≡ calls.reseed engine generator bytes additional
    → IsDrawn (reseeded calls engine generator additional samples events) new fresh health (Ok tt) left
reseeded_ok calls engine new generator fresh health additional samples bytes events left long taken counts engine' generator' =
    drawn_alike _ (reseeded_from calls engine generator additional (all_taken samples bytes left) None) new fresh health (Ok tt) left
    (ap (λ (t : Taken). reseeded_from calls engine generator additional t t.failure) (taken_of samples bytes events left 256 long taken))
    (record { same_engine = engine'; same_generator = generator'; same_answer = refl; counts = λ _. counts; events_left = refl })

pub reseeded_err : {V : Type 0} (calls : Calls V) (engine : V) (generator : Drbg) (health : Health) (why : Failure) (additional samples : List ℕ) (count : ℕ) (events left : List Sample)
    → count ≡ 256 → FailsWithin samples count why events left → IsDrawn (reseeded calls engine generator additional samples events) engine generator health (Err why) left
reseeded_err calls engine generator health why additional samples count events left long failed =
    let fails : FailsWithin samples 256 why events left = subst (λ n. FailsWithin samples n why events left) long failed in
    drawn_alike _ (with_noise engine generator (taken_after samples events 256)) engine generator health (Err why) left
    (ap (reseeded_from calls engine generator additional (taken_after samples events 256)) fails.reason)
    (record { same_engine = refl; same_generator = refl; same_answer = fails.reason; counts = λ none. not_none _ why fails.reason none; events_left = fails.events_left })

-- a generator that is due is reseeded
due : {A : Type 0} (count : ℕ) (x y : A) → 1024 < count → (if nat_lt 1024 count then x else y) ≡ x
due count x y more = ap (λ (b : Bool). if b then x else y) (lt-ltb 1024 count more)

fresh : {A : Type 0} (count : ℕ) (x y : A) → count ≤ 1024 → (if nat_lt 1024 count then x else y) ≡ y
fresh count x y most = ap (λ (b : Bool). if b then x else y) (le-ltb 1024 count most)

pub refreshed_due : {V : Type 0} (calls : Calls V) (engine new : V) (generator fresh' : Drbg) (health : Health) (answer : Result ⊤ Failure) (samples : List ℕ) (events left : List Sample)
    → 1024 < generator.counter → IsDrawn (reseeded calls engine generator [] samples events) new fresh' health answer left
    → IsDrawn (refreshed calls engine generator samples events) new fresh' health answer left
refreshed_due calls engine new generator fresh' health answer samples events left more holds =
    drawn_alike _ _ new fresh' health answer left (due generator.counter _ _ more) holds

pub refreshed_still : {V : Type 0} (calls : Calls V) (engine : V) (generator : Drbg) (health : Health) (samples : List ℕ) (events : List Sample)
    → generator.counter ≤ 1024 → Counts health samples → IsDrawn (refreshed calls engine generator samples events) engine generator health (Ok tt) events
refreshed_still calls engine generator health samples events most counts =
    drawn_alike _ (record { engine = engine; generator = generator; samples = samples; left = events; bytes = []; failure = None }) engine generator health (Ok tt) events
    (fresh generator.counter _ _ most) (record { same_engine = refl; same_generator = refl; same_answer = refl; counts = λ _. counts; events_left = refl })

-- a draw from what is ready
pub drawn_ok : {V : Type 0} (calls : Calls V) (ready : Drawn V) (engine new : V) (generator next : Drbg) (health : Health) (additional out : List ℕ) (n : ℕ) (left : List Sample)
    → IsDrawn ready engine generator health (Ok tt) left → new ≡ calls.generate_after engine generator additional n → next ≡ (calls.generate engine generator additional n).after
    → out ≡ (calls.generate engine generator additional n).bytes
    → let after = generated_by calls ready additional n ready.failure in IsDrawn after new next health (Ok tt) left × (out ≡ after.bytes)
drawn_ok calls ready engine new generator next health additional out n left is new' next' out' =
    let same : generated_by calls ready additional n ready.failure ≡ generated_by calls ready additional n None = ap (generated_by calls ready additional n) is.same_answer in (
      drawn_alike _ (generated_by calls ready additional n None) new next health (Ok tt) left same (record {
        same_engine = rw (sym is.same_engine) (rw (sym is.same_generator) new');
        same_generator = rw (sym is.same_engine) (rw (sym is.same_generator) next');
        same_answer = is.same_answer;
        counts = is.counts;
        events_left = is.events_left;
      }),
      rw same (rw (sym is.same_engine) (rw (sym is.same_generator) out')),
    )

pub drawn_err : {V : Type 0} (calls : Calls V) (ready : Drawn V) (engine : V) (generator : Drbg) (health : Health) (why : Failure) (additional : List ℕ) (n : ℕ) (left : List Sample)
    → IsDrawn ready engine generator health (Err why) left → IsDrawn (generated_by calls ready additional n ready.failure) engine generator health (Err why) left
drawn_err calls ready engine generator health why additional n left is =
    drawn_alike _ ready engine generator health (Err why) left (ap (generated_by calls ready additional n) is.same_answer) is

-- a new seed answers requests
pub seeded_once : (answer : Result ⊤ Failure) (counter : ℕ) → OnOk answer (counter ≡ 1) → OnOk answer ((1 ≤ counter) × (counter ≤ 1024))
seeded_once (Ok done) counter is = (omega (arith, is), omega (arith, is))
seeded_once (Err why) counter is = tt
