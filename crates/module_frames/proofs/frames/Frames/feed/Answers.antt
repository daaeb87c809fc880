use Rattle.std.proofs.Common.{arith, sym, ◌∙◌, ap, refl}
use Rattle.std.proofs.lemmas.List.{take_rest}
use Rattle.module_frames.specs.Fragments.{Fragment}
use Rattle.module_frames.proofs.Feeding.{TakenTwice, feeds_whole, feeds_more, feeds_header, header_taken, all_taken}
use Rattle.module_frames.proofs.frames.Frames.feed.Goals as goal

pub returns-then-not-is_headed : goal.returns-then-not-is_headed
returns-then-not-is_headed c =
    let no_fault = ap (λ (held : Fragment). held.fault) (sym c.self.view_is) ∙ c.in_default.is in
    let part = c.if-not-is_headed.ensures.short refl in
    feeds_header no_fault c.in-Ok.ensures.1 (header_taken c.args.self.now c.take_header.new.self c.args.piece.now c.in-Ok.head c.in-Ok.ensures.1 c.in-Ok.ensures.0 part) (c.if-not-is_headed.ensures.incomplete refl)

pub returns-then-is_whole : goal.returns-then-is_whole
returns-then-is_whole c =
    let no_fault = ap (λ (held : Fragment). held.fault) (sym c.self.view_is) ∙ c.in_default.is in
    let remainder = take_rest c.args.piece.now c.in-Ok.head in
    let held = rw remainder at c.take_body.ensures.held in
    let many = rw remainder at c.take_body.ensures.taken in
    let taken : TakenTwice c.args.self.now c.take_header.new.self c.take_body.new.self c.args.piece.now c.in-Ok.head c.take_body.result =
    record { within = omega (arith, c.in-Ok.ensures.0); first = c.in-Ok.ensures.1; fits = omega (arith, many); second = held } in
    feeds_whole no_fault taken (c.if-is_whole.ensures.whole refl)

pub returns-else-is_whole : goal.returns-else-is_whole
returns-else-is_whole c =
    let no_fault = ap (λ (held : Fragment). held.fault) (sym c.self.view_is) ∙ c.in_default.is in
    let remainder = take_rest c.args.piece.now c.in-Ok.head in
    let held = rw remainder at c.take_body.ensures.held in
    let many = rw remainder at c.take_body.ensures.taken in
    let taken : TakenTwice c.args.self.now c.take_header.new.self c.take_body.new.self c.args.piece.now c.in-Ok.head c.take_body.result =
    record { within = omega (arith, c.in-Ok.ensures.0); first = c.in-Ok.ensures.1; fits = omega (arith, many); second = held } in
    let headed = c.if-not-is_headed.ensures.yes refl in
    feeds_more no_fault taken (all_taken taken headed many (c.if-is_whole.ensures.short refl)) (c.if-is_whole.ensures.incomplete refl)
