-- What a reader of frames answers to a piece.
use Rattle.std.proofs.Common.{◌≡◌, ◌≤◌, ◌<◌, ◌+◌, ◌-◌, ◌++◌, ℕ, List, [], None, Some, length, take, drop, inl, inr, refl, sym, ◌∙◌, ap, arith, length-append}
use Rattle.std.specs.Prelude.{min}
use Rattle.std.proofs.lemmas.List.{append-nil, append_assoc, length-take-le, length-drop, take_all}
use Rattle.std.proofs.lemmas.Bool.{cases_lt}
use Rattle.std.proofs.Math.Seq.{take-add}
use Rattle.module_frames.specs.declared.frames.Fed.TheVariants as fed
use Rattle.module_frames.specs.Streams.{body_length, header_length}
use Rattle.module_frames.specs.Fragments.{Fragment, Feeds, IsIncomplete, IsBrokenAt, IsComplete}
use Rattle.module_frames.proofs.Headers.{body_length-append, header_length-append, header_range, cut_piece}

-- a piece was taken in two steps: so many bytes for the header, and so many of those behind for the body
pub record TakenTwice (old mid new : Fragment) (piece : List ℕ) (head body : ℕ) : Type 0 where
  pub within : head ≤ length piece
  pub first : mid ≡ record old { bytes = old.bytes ++ take head piece }
  pub fits : body ≤ length (drop head piece)
  pub second : new ≡ record mid { bytes = mid.bytes ++ take body (drop head piece) }

-- both steps are one
pub taken_once : {old mid new : Fragment} {piece : List ℕ} {head body : ℕ} → TakenTwice old mid new piece head body
    → new ≡ record old { bytes = old.bytes ++ take (head + body) piece }
taken_once {old} {mid} {new} {piece} {head} {body} taken =
    taken.second ∙ ap (λ (m : Fragment). record m { bytes = m.bytes ++ take body (drop head piece) }) taken.first
    ∙ ap (λ xs. record old { bytes = xs })
    (append_assoc old.bytes (take head piece) (take body (drop head piece)) ∙ ap (λ xs. old.bytes ++ xs) (sym (take-add head body piece)))

pub feeds_whole : {old mid new : Fragment} {piece : List ℕ} {head body : ℕ} → old.fault ≡ None → TakenTwice old mid new piece head body → IsComplete new
    → Feeds old piece (fed.Whole (head + body)) new
feeds_whole {old} {mid} {new} {piece} {head} {body} no_fault taken stands = record {
  before_fault = λ _. (omega (arith, taken.within, taken.fits, length-drop head piece), taken_once taken, stands);
  after_fault = λ offset broken. cc;
}

pub feeds_more : {old mid new : Fragment} {piece : List ℕ} {head body : ℕ} → old.fault ≡ None → TakenTwice old mid new piece head body
    → head + body ≡ length piece → IsIncomplete new.bytes → Feeds old piece fed.More new
feeds_more {old} {mid} {new} {piece} {head} {body} no_fault taken all incomplete = record {
  before_fault = λ _. (taken_once taken ∙ ap (λ xs. record old { bytes = old.bytes ++ xs }) (take_all (head + body) piece (omega (arith, all))), incomplete);
  after_fault = λ offset broken. cc;
}

pub feeds_fault : {old new : Fragment} {piece : List ℕ} {offset : ℕ} → old.fault ≡ None → new ≡ record old { bytes = []; fault = Some offset }
    → IsBrokenAt old.start (old.bytes ++ piece) offset → Feeds old piece (fed.BadFrame offset) new
feeds_fault no_fault gone fault = record { before_fault = λ _. (gone, fault); after_fault = λ other broken. cc }

pub feeds_broken : {old : Fragment} {piece : List ℕ} {offset : ℕ} → old.fault ≡ Some offset → Feeds old piece (fed.BadFrame offset) old
feeds_broken broken = record { before_fault = λ no_fault. cc; after_fault = λ other same. (cc, refl) }

-- where the body isn't whole, all of the piece was taken
pub all_taken : {old mid new : Fragment} {piece : List ℕ} {head body : ℕ} → TakenTwice old mid new piece head body → header_length mid.bytes ≤ length mid.bytes
    → body ≡ min (header_length mid.bytes + body_length mid.bytes - length mid.bytes) (length (drop head piece))
    → length new.bytes < header_length new.bytes + body_length new.bytes → head + body ≡ length piece
all_taken {old} {mid} {new} {piece} {head} {body} taken headed many less =
    let bytes : new.bytes ≡ mid.bytes ++ take body (drop head piece) = ap (λ (f : Fragment). f.bytes) taken.second in
    let long : length new.bytes ≡ length mid.bytes + body =
    ap length bytes ∙ length-append mid.bytes (take body (drop head piece)) ∙ ap (λ n. length mid.bytes + n) (length-take-le body (drop head piece) taken.fits) in
    let least = header_range mid.bytes in
    let known : body_length new.bytes ≡ body_length mid.bytes = ap body_length bytes ∙ body_length-append mid.bytes (take body (drop head piece)) (omega (arith, least, headed)) in
    let size : header_length new.bytes ≡ header_length mid.bytes =
    ap header_length bytes ∙ header_length-append mid.bytes (take body (drop head piece)) (omega (arith, least, headed)) in
    omega (arith, long, known, size, less, many, length-drop head piece, taken.within)

-- where the header isn't whole, all of the piece was taken
pub header_taken : (old new : Fragment) (piece : List ℕ) (count : ℕ) → new ≡ record old { bytes = old.bytes ++ take count piece }
    → count ≡ min (header_length (old.bytes ++ piece) - length old.bytes) (length piece) → length new.bytes < header_length new.bytes → count ≡ length piece
header_taken old new piece count is many less =
    let bytes : new.bytes ≡ old.bytes ++ take count piece = ap (λ (f : Fragment). f.bytes) is in
    let long : length new.bytes ≡ length old.bytes + count =
    ap length bytes ∙ length-append old.bytes (take count piece) ∙ ap (λ n. length old.bytes + n) (length-take-le count piece (omega (arith, many))) in
    elim (cases_lt count (length piece)) [
      | inl cut ↦
          let more : header_length new.bytes ≡ header_length (old.bytes ++ piece) =
          ap header_length bytes ∙ cut_piece old.bytes piece count (omega (arith, cut)) (λ few. omega (arith, few, many, header_range (old.bytes ++ piece))) in
          omega (arith, cut, many, long, less, more)
      | inr all ↦ omega (arith, all, many)
    ]

pub feeds_header : {old new : Fragment} {piece : List ℕ} {count : ℕ} → old.fault ≡ None → new ≡ record old { bytes = old.bytes ++ take count piece }
    → count ≡ length piece → IsIncomplete new.bytes → Feeds old piece fed.More new
feeds_header {old} {new} {piece} {count} no_fault is all incomplete = record {
  before_fault = λ _. (is ∙ ap (λ xs. record old { bytes = old.bytes ++ xs }) (take_all count piece (omega (arith, all))), incomplete);
  after_fault = λ offset broken. cc;
}

-- where a whole header is held already, none of the piece is taken for it
pub nothing_taken : (old : Fragment) (piece : List ℕ) → header_length old.bytes ≤ length old.bytes
    → (0 ≡ min (header_length (old.bytes ++ piece) - length old.bytes) (length piece)) × (old ≡ record old { bytes = old.bytes ++ take 0 piece })
nothing_taken old piece whole =
    let same = header_length-append old.bytes piece (omega (arith, whole, header_range old.bytes)) in
    (omega (arith, same, whole), ap (λ xs. record old { bytes = xs }) (sym (append-nil old.bytes)))
