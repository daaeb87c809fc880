use Rattle.std.proofs.Common.{◌≡◌, ◌-◌, ◌+◌, ◌++◌, ◌≢◌, ℕ, List, [], Some, get_or, length, take, arith, refl, sym, ◌∙◌, ap}
use Rattle.std.specs.Prelude.{min}
use Rattle.module_frames.specs.Fragments.{Fragment}
use Rattle.module_frames.specs.CommandFrames.{CommandFrame}
use Rattle.module_frames.specs.Streams.{header_length}
use Rattle.module_frames.proofs.Headers.{first_fault-nil, header_range, not_whole}
use Rattle.module_frames.proofs.Holding.{Filled, unheaded, with_piece, filled_broken, filled_reader, filled_answer}
use Rattle.module_frames.proofs.Feeding.{nothing_taken}
use Rattle.module_frames.proofs.frames.Frames.take_header.Goals as goal

pub returns-then-is_headed : goal.returns-then-is_headed
returns-then-is_headed c = nothing_taken c.args.self.now c.args.piece.now (c.if-is_headed.ensures.yes refl)

pub fill-taken-requires-clause-within : goal.fill-taken-requires-clause-within
fill-taken-requires-clause-within c =
    let part = c.if-is_headed.ensures.short refl in
    let held = rw (← c.self.view_is) at part in
    let short = unheaded c.self.inside c.self.invariant held in
    omega (arith, with_piece c.self.inside c.args.piece.now c.self.invariant short, c.length_with-size.ensures)

pub fill-taken-requires-clause-fits : goal.fill-taken-requires-clause-fits
fill-taken-requires-clause-fits c = omega (arith, c.length_with-size.ensures, header_range (take c.self.inside.count c.self.inside.header ++ c.args.piece.now))

pub shared_ref_as_front-first_fault : goal.shared_ref_as_front-first_fault
shared_ref_as_front-first_fault c =
    omega (arith, c.self.invariant.few, c.fill-taken.ensures.taken, c.length_with-size.ensures, header_range (take c.self.inside.count c.self.inside.header ++ c.args.piece.now))

pub invariant_of-self : goal.invariant_of-self
invariant_of-self c =
    let part = c.if-is_headed.ensures.short refl in
    let held = rw (← c.self.view_is) at part in
    let short = unheaded c.self.inside c.self.invariant held in
    let empty = c.self.invariant.headless short in
    record {
      room = refl;
      few = omega arith;
      most = omega arith;
      spare = refl;
      no_fault = first_fault-nil;
      headless = λ h. empty;
      service = λ h. absurd (not_whole _ h);
      sequence = λ h. absurd (not_whole _ h);
      within = λ h. absurd (not_whole _ h);
      fresh = λ offset h. refl;
      short = rw empty (omega (arith, c.self.invariant.short));
    }

broken_fragment : {a b offset : ℕ} {xs : List ℕ} (body : xs ≡ []) (start : a ≡ b)
    → ◌≡◌ {A = Fragment} (record { start = a; bytes = xs; fault = Some offset }) (record { start = b; bytes = []; fault = Some offset })
broken_fragment body start = rw (body, start) refl

pub returns-in-Some : goal.returns-in-Some
returns-in-Some c =
    let part = c.if-is_headed.ensures.short refl in
    let held = rw (← c.self.view_is) at part in
    let short = unheaded c.self.inside c.self.invariant held in
    let filled : Filled c.self.inside c.args.piece.now c.fill-taken.new.header c.fill-taken.result = record {
      short = short;
      taken = c.fill-taken.ensures.taken ∙ ap (λ n. min (n - c.self.inside.count) (length c.args.piece.now)) c.length_with-size.ensures;
      bytes = c.fill-taken.ensures.bytes;
    } in
    let body : c.self.inside.command.body ≡ [] = ap (λ (command : CommandFrame). command.body) (c.self.invariant.headless short) in
    let start : c.self.inside.start ≡ c.args.self.now.start = ap (λ (held : Fragment). held.start) c.self.view_is in (
      broken_fragment body start,
      rw (← c.self.view_is)
          (filled_broken c.self.inside c.args.piece.now c.fill-taken.new.header c.fill-taken.result c.self.invariant filled c.in-Some.within (sym c.in-Some.ensures.offset)),
    )

pub invariant_of-self-then-self-size : goal.invariant_of-self-then-self-size
invariant_of-self-then-self-size c =
    let part = c.if-is_headed.ensures.short refl in
    let held = rw (← c.self.view_is) at part in
    let short = unheaded c.self.inside c.self.invariant held in
    let filled : Filled c.self.inside c.args.piece.now c.fill-taken.new.header c.fill-taken.result = record {
      short = short;
      taken = c.fill-taken.ensures.taken ∙ ap (λ n. min (n - c.self.inside.count) (length c.args.piece.now)) c.length_with-size.ensures;
      bytes = c.fill-taken.ensures.bytes;
    } in
    let fresh = ap (λ (held : Fragment). held.fault) c.self.view_is ∙ c.requires.no_fault in
    let total = rw (← c.self.view_is) at c.requires.short in
    let full = c.if-self-size.true ∙ c.length_with-size.ensures in
    rw c.begin.ensures
    (filled_reader c.self.inside c.args.piece.now c.fill-taken.new.header c.fill-taken.result _ c.self.invariant filled fresh total (sym c.in_default.ensures.offset)
    (record { same = λ other. absurd (other full); body = λ _. refl; service = λ _. refl; sequence = λ _. c.sequence_of.ensures }))

pub invariant_of-self-else-self-size : goal.invariant_of-self-else-self-size
invariant_of-self-else-self-size c =
    let part = c.if-is_headed.ensures.short refl in
    let held = rw (← c.self.view_is) at part in
    let short = unheaded c.self.inside c.self.invariant held in
    let filled : Filled c.self.inside c.args.piece.now c.fill-taken.new.header c.fill-taken.result = record {
      short = short;
      taken = c.fill-taken.ensures.taken ∙ ap (λ n. min (n - c.self.inside.count) (length c.args.piece.now)) c.length_with-size.ensures;
      bytes = c.fill-taken.ensures.bytes;
    } in
    let fresh = ap (λ (held : Fragment). held.fault) c.self.view_is ∙ c.requires.no_fault in
    let total = rw (← c.self.view_is) at c.requires.short in
    let other : c.self.inside.count + c.fill-taken.result ≢ header_length (take c.self.inside.count c.self.inside.header ++ c.args.piece.now) =
    λ full. c.if-self-size.false (full ∙ sym c.length_with-size.ensures) in
    filled_reader c.self.inside c.args.piece.now c.fill-taken.new.header c.fill-taken.result c.self.inside.command c.self.invariant filled fresh total (sym c.in_default.ensures.offset)
    (record { same = λ _. refl; body = λ full. absurd (other full); service = λ full. absurd (other full); sequence = λ full. absurd (other full) })

pub returns-then-self-size : goal.returns-then-self-size
returns-then-self-size c =
    let part = c.if-is_headed.ensures.short refl in
    let held = rw (← c.self.view_is) at part in
    let short = unheaded c.self.inside c.self.invariant held in
    let filled : Filled c.self.inside c.args.piece.now c.fill-taken.new.header c.fill-taken.result = record {
      short = short;
      taken = c.fill-taken.ensures.taken ∙ ap (λ n. min (n - c.self.inside.count) (length c.args.piece.now)) c.length_with-size.ensures;
      bytes = c.fill-taken.ensures.bytes;
    } in
    rw (← c.self.view_is, c.begin.ensures)
    (filled_answer c.self.inside c.args.piece.now c.fill-taken.new.header c.fill-taken.result
    (record { service = get_or c.fill-taken.new.header 2 0; sequence = c.sequence_of.result; body = [] }) c.self.invariant filled refl)

pub returns-else-self-size : goal.returns-else-self-size
returns-else-self-size c =
    let part = c.if-is_headed.ensures.short refl in
    let held = rw (← c.self.view_is) at part in
    let short = unheaded c.self.inside c.self.invariant held in
    let filled : Filled c.self.inside c.args.piece.now c.fill-taken.new.header c.fill-taken.result = record {
      short = short;
      taken = c.fill-taken.ensures.taken ∙ ap (λ n. min (n - c.self.inside.count) (length c.args.piece.now)) c.length_with-size.ensures;
      bytes = c.fill-taken.ensures.bytes;
    } in
    let empty = ap (λ (command : CommandFrame). command.body) (c.self.invariant.headless short) in
    rw (← c.self.view_is)
    (filled_answer c.self.inside c.args.piece.now c.fill-taken.new.header c.fill-taken.result c.self.inside.command c.self.invariant filled empty)
