-- All that is tainted stays in the tree of the slot into which secrets were entered, so that one ZeroiseTree ends it.
use Rattle.std.proofs.Common.{◌≡◌, ◌≢◌, ◌<◌, ℕ, Bool, true, false, List, [], ◌∷◌, Option, Some, None, length, refl, sym, ap, subst, ◌∙◌, arith, inl, inr, if◌then◌else◌}
use Rattle.std.specs.Prelude.{◌==◌, ◌&&◌, ◌||◌, not, IfSome, slice_index}
use Rattle.std.specs.Option.{option_map_or}
use Rattle.std.specs.Str.{bytes_eq}
use Rattle.std.proofs.lemmas.Bool.{cases_eq}
use Rattle.std.proofs.lemmas.Bool.Decides.{nat_tests}
use Rattle.std.proofs.lemmas.List.{length-set, get_or-set_other}
use Rattle.std.proofs.lemmas.List.FromFn.{length-map-range_with_len}
use Rattle.service_table.specs.declared.state.State.{State}
use Rattle.service_table.specs.declared.state.State.TheVariants as state
use Rattle.service_table.specs.declared.status.Status.{Status}
use Rattle.service_table.specs.declared.status.Status.TheVariants as status
use Rattle.service_table.specs.Services.{is_permitted}
use Rattle.ssp_slots.specs.declared.slot.Slot.{Slot}
use Rattle.ssp_slots.specs.Slots.{Contents}
use Rattle.ssp_slots.specs.Ancestry.{holds, descendants, linked}
use Rattle.ssp_slots.proofs.SlotSets.{holds-linked}
use Rattle.ssp_slots.proofs.Trees.{tree_spared}
use Rattle.outside.specs.declared.traits.Sample.{Sample}
use Rattle.module_frames.specs.CommandFrames.{CommandFrame}
use Rattle.module_frames.specs.PublicState.{no_block}
use Rattle.module_frames.specs.PublicEffects.{is_period_over, sent_to_tests}
use Rattle.module_frames.specs.Requests.{RequestValue, CryptographicRequest, IsCryptographicInRange, IsInRange, service_for, cryptographic_service_for}
use Rattle.module_frames.specs.Requests as request
use Rattle.engine_core.specs.Calls.{Calls}
use Rattle.crypto_services.specs.AtSlots.{slot_at}
use Rattle.state_model.specs.declared.entry.Entry.{Entry}
use Rattle.state_model.specs.declared.entry.Target.{Target}
use Rattle.state_model.specs.Commit.{entered}
use Rattle.state_model.specs.Cryptographic.{Link, Ready, link_of, with_link, before_slots, at_slots, after_slots, served}
use Rattle.state_model.specs.Entries.{with_piece}
use Rattle.state_model.specs.MachineState.{Shared, MachineState, state_of}
use Rattle.state_model.specs.Management.{Stepped, refused, done, after_test, with_seeded, tests_forgotten, entry_bytes}
use Rattle.state_model.specs.SelfTesting.{step_tested, seeded_when, is_seed_due, noise_judgement}
use Rattle.state_model.specs.Permission.{IsPermittedIn}
use Rattle.state_model.specs.Step.{step, perform, number_taken}
use Rattle.state_model.proofs.Permitted.{entering_for_entry_bytes}
use Rattle.state_model.proofs.Readiness.{ready_cases, is_ready, is_untested, is_without_noise}
use Rattle.information_flow.specs.Tainted.{Tainted, untainted, IsUntainted, EqualOutside}
use Rattle.information_flow.specs.Taint.{is_empty, is_taken, may_fill, taint_linked, taint_for, taint_requested, taint_after, taint_ready, admitted}
use Rattle.information_flow.specs.Variants.{CommandPair, AreSecretVariants}
use Rattle.information_flow.specs.Flow.{SecretsStayInside}
use Rattle.information_flow.specs.OneCommand.{CommitsInto, AllCommitInto, IsTaintInTree, TreeHoldsTaint, OneCommandSuffices}
use Rattle.information_flow.proofs.Admitting.{by_admitted}
use Rattle.information_flow.proofs.Running.{same_machines, untainted_equal}

-- each tainted slot is in the tree of slot k, only an entry that is underway is tainted, and there are sixteen rows
record IsWithin {V : Type 0} (k : ℕ) (T : Tainted) (s : MachineState V) : Type 0 where
  pub tree : IsTaintInTree k T s
  pub entering : T.entry ≡ true → state_of s ≡ state.Entry
  pub rows : length s.shared.ancestry ≡ 16

-- what is both
both_left : (a b : Bool) → (a && b) ≡ true → a ≡ true
both_left true b h = refl
both_left false b h = cc

both_right : (a b : Bool) → (a && b) ≡ true → b ≡ true
both_right true b h = h
both_right false b h = cc

negated : (b : Bool) → not b ≡ true → b ≡ false
negated true h = cc
negated false h = refl

-- rows and state are as they were
kept : {V : Type 0} (k : ℕ) (T : Tainted) (s t : MachineState V) → IsWithin k T s → t.shared.ancestry ≡ s.shared.ancestry → (T.entry ≡ true → state_of s ≡ state.Entry → state_of t ≡ state.Entry) → IsWithin k T t
kept k T s t within rows entering = record {
  tree = λ id tainted. ap (λ all. descendants all k id) rows ∙ within.tree id tainted;
  entering = λ tainted. entering tainted (within.entering tainted);
  rows = ap (λ all. length all) rows ∙ within.rows;
}

-- so is more that is tainted no more
fewer : {V : Type 0} (k : ℕ) (T U : Tainted) (s : MachineState V) → ((id : ℕ) → U.slot id ≡ true → T.slot id ≡ true) → (U.entry ≡ true → T.entry ≡ true) → IsWithin k T s → IsWithin k U s
fewer k T U s slot entry within = record { tree = λ id tainted. within.tree id (slot id tainted); entering = λ tainted. within.entering (entry tainted); rows = within.rows }

-- a service that isn't permitted while a parameter is entered
not_entering : (what : RequestValue) (found : State) → is_permitted (service_for what) state.Entry ≡ false → IsPermittedIn what found → found ≢ state.Entry
not_entering what found never may is = let no : true ≡ false = sym may ∙ ap (λ at. is_permitted (service_for what) at) is ∙ never in cc

cryptographic_not_entering : (what : CryptographicRequest) → is_permitted (cryptographic_service_for what) state.Entry ≡ false
cryptographic_not_entering (request.Hash alg text) = refl
cryptographic_not_entering (request.Mac slot alg mac_length text) = refl
cryptographic_not_entering (request.MacVerify slot alg tag text) = refl
cryptographic_not_entering (request.Seal slot tag_length aad text) = refl
cryptographic_not_entering (request.SealIv slot tag_length iv aad text) = refl
cryptographic_not_entering (request.Open slot iv aad text tag) = refl
cryptographic_not_entering (request.Wrap true kek second) = refl
cryptographic_not_entering (request.Wrap false kek second) = refl
cryptographic_not_entering (request.Unwrap true kek target kind export uses wrapped) = refl
cryptographic_not_entering (request.Unwrap false kek target kind export uses wrapped) = refl
cryptographic_not_entering (request.Derive source target kind export uses long label context) = refl
cryptographic_not_entering (request.Random long additional) = refl
cryptographic_not_entering (request.Generate target header long) = refl
cryptographic_not_entering (request.Reseed additional) = refl

-- a row that has gained others still holds what it held
row_grows : (rows : List ℕ) (source target k id : ℕ) → target < length rows → descendants rows k id ≡ true → descendants (linked rows source target) k id ≡ true
row_grows rows source target k id within member = elim (cases_eq id target) [
  | inl same ↦
      let gained = holds-linked (record { slots = []; rows = rows }) source target k within in
      let there : descendants rows k target ≡ true = subst (λ at. descendants rows k at ≡ true) same member in
      subst (λ at. descendants (linked rows source target) k at ≡ true) (sym same)
      (ap (λ more. (target == k) || more) gained ∙ gained_or (target == k) (holds (slice_index rows target) k) (k == source || holds (slice_index rows source) k) there)
  | inr other ↦ ap (λ row. (id == k) || holds row k) (get_or-set_other rows target id _ 0 other) ∙ member
]
  where
    gained_or : (a b c : Bool) → (a || b) ≡ true → (a || (b || c)) ≡ true
    gained_or true b c h = refl
    gained_or false true c h = refl
    gained_or false false c h = cc

-- and the target of a link is in the tree where the source is
target_joins : (rows : List ℕ) (source target k : ℕ) → target < length rows → descendants rows k source ≡ true → descendants (linked rows source target) k target ≡ true
target_joins rows source target k within member =
    ap (λ more. (target == k) || more) (holds-linked (record { slots = []; rows = rows }) source target k within)
    ∙ joined (target == k) (holds (slice_index rows target) k) (k == source) (source == k) (holds (slice_index rows source) k) (turned k source) member
  where
    turned : (a b : ℕ) → (a == b) ≡ (b == a)
    turned a b = grind (arith, nat_tests)

    joined : (a b c d e : Bool) → c ≡ d → (d || e) ≡ true → (a || (b || (c || e))) ≡ true
    joined true b c d e same h = refl
    joined false true c d e same h = refl
    joined false false c d e same h = ap (λ x. x || e) same ∙ h

-- a link keeps the tree
linked_within : (k : ℕ) (tainted : ℕ → Bool) (slots : List Slot) (rows : List ℕ) (link : Link) → link.target < length rows → ((id : ℕ) → tainted id ≡ true → descendants rows k id ≡ true)
    → (id : ℕ) → taint_linked slots tainted (Some link) id ≡ true → descendants (linked rows link.source link.target) k id ≡ true
linked_within k tainted slots rows link below within id member = by_taint (tainted id) refl member
  where
    joins : Bool
    joins = tainted link.source && (is_empty (slot_at slots link.target) && (id == link.target))

    by_taint : (taint : Bool) → tainted id ≡ taint → (taint || joins) ≡ true → descendants (linked rows link.source link.target) k id ≡ true
    by_taint true is h = row_grows rows link.source link.target k id below (within id is)
    by_taint false is h =
        let from : tainted link.source ≡ true = both_left (tainted link.source) _ h in
        let here : (id == link.target) ≡ true = both_right (is_empty (slot_at slots link.target)) _ (both_right (tainted link.source) _ h) in
        let at : id ≡ link.target = grind (arith, nat_tests) in
        subst (λ place. descendants (linked rows link.source link.target) k place ≡ true) (sym at) (target_joins rows link.source link.target k below (within link.source from))

-- the rows that a request leaves, and what is tainted then
link_within : (k : ℕ) (tainted : ℕ → Bool) (slots : List Slot) (rows : List ℕ) (what : CryptographicRequest) → IsCryptographicInRange what → length rows ≡ 16
    → ((id : ℕ) → tainted id ≡ true → descendants rows k id ≡ true)
    → ((id : ℕ) → taint_linked slots tainted (link_of what) id ≡ true → descendants (with_link rows (link_of what)) k id ≡ true) × (length (with_link rows (link_of what)) ≡ 16)
link_within k tainted slots rows (request.Hash alg text) range sixteen within = (within, sixteen)
link_within k tainted slots rows (request.Mac slot alg mac_length text) range sixteen within = (within, sixteen)
link_within k tainted slots rows (request.MacVerify slot alg tag text) range sixteen within = (within, sixteen)
link_within k tainted slots rows (request.Seal slot tag_length aad text) range sixteen within = (within, sixteen)
link_within k tainted slots rows (request.SealIv slot tag_length iv aad text) range sixteen within = (within, sixteen)
link_within k tainted slots rows (request.Open slot iv aad text tag) range sixteen within = (within, sixteen)
link_within k tainted slots rows (request.Wrap pad kek second) range sixteen within = (within, sixteen)
link_within k tainted slots rows (request.Unwrap pad kek target kind export uses wrapped) range sixteen within =
    (linked_within k tainted slots rows (record { source = kek; target = target }) (subst (λ n. target < n) (sym sixteen) range.1) within, length-set rows target _ ∙ sixteen)
link_within k tainted slots rows (request.Derive source target kind export uses long label context) range sixteen within =
    (linked_within k tainted slots rows (record { source = source; target = target }) (subst (λ n. target < n) (sym sixteen) range.1) within, length-set rows target _ ∙ sixteen)
link_within k tainted slots rows (request.Random long additional) range sixteen within = (within, sixteen)
link_within k tainted slots rows (request.Generate target header long) range sixteen within = (within, sixteen)
link_within k tainted slots rows (request.Reseed additional) range sixteen within = (within, sixteen)

-- what comes after the slots leaves the rows
after_rows : {V : Type 0} (shared : Shared V) → (after_slots shared).ancestry ≡ shared.ancestry
after_rows shared = by_period (is_period_over shared.public)
  where
    by_period : (over : Bool) → (if over then tests_forgotten shared (sent_to_tests shared.public) else shared).ancestry ≡ shared.ancestry
    by_period true = refl
    by_period false = refl

-- a cryptographic service, by what was ready
service_within : {V : Type 0} (calls : Calls V) (k : ℕ) (T : Tainted) (s : MachineState V) (events : List Sample) (what : CryptographicRequest) → IsWithin k T s → T.entry ≡ false → IsCryptographicInRange what
    → IsWithin k (record { entry = T.entry; slot = taint_ready s.slots T.slot (before_slots calls s.shared events what).refused (link_of what) }) (perform calls s events (request.Cryptographic what)).machine
service_within {V} calls k T s events what within clean range = ready_cases calls s.shared events what Within
    (λ more engine generator samples bytes left. within_by (is_ready s.shared more engine generator samples bytes left what) linked.0 linked.1)
    (λ test engine. within_by (is_untested s.shared test engine events) within.tree within.rows)
    (λ fault more engine generator samples left. within_by (is_without_noise s.shared fault more engine generator samples left) within.tree within.rows)
  where
    Within : Ready V → Type 0
    Within ready = IsWithin k (record { entry = T.entry; slot = taint_ready s.slots T.slot ready.refused (link_of what) }) (served calls s ready what).machine

    linked : ((id : ℕ) → taint_linked s.slots T.slot (link_of what) id ≡ true → descendants (with_link s.shared.ancestry (link_of what)) k id ≡ true) × (length (with_link s.shared.ancestry (link_of what)) ≡ 16)
    linked = link_within k T.slot s.slots s.shared.ancestry what range within.rows within.tree

    within_by : (ready : Ready V) → ((id : ℕ) → taint_ready s.slots T.slot ready.refused (link_of what) id ≡ true → descendants ready.shared.ancestry k id ≡ true) → length ready.shared.ancestry ≡ 16
        → Within ready
    within_by ready tree rows =
        let after : Shared V = record ready.shared { engine = (at_slots calls ready ready.refused s.slots what).engine } in
        record {
          tree = λ id u. ap (λ all. descendants all k id) (after_rows after) ∙ tree id u;
          entering = λ u. let no : true ≡ false = sym u ∙ clean in cc;
          rows = ap (λ all. length all) (after_rows after) ∙ rows;
        }

-- what is tainted while a service is done that isn't permitted while a parameter is entered
unentered : {V : Type 0} (k : ℕ) (T : Tainted) (s : MachineState V) (what : RequestValue) → IsWithin k T s → is_permitted (service_for what) state.Entry ≡ false → IsPermittedIn what (state_of s) → T.entry ≡ false
unentered k T s what within never may = by_taint T.entry refl
  where
    by_taint : (taint : Bool) → T.entry ≡ taint → taint ≡ false
    by_taint true is = absurd (not_entering what (state_of s) never may (within.entering is))
    by_taint false is = refl

-- another public state, where nothing was entered that is tainted
public_within : {V : Type 0} (k : ℕ) (T : Tainted) (s t : MachineState V) → IsWithin k T s → t.shared.ancestry ≡ s.shared.ancestry → T.entry ≡ false → IsWithin k T t
public_within k T s t within rows clean = kept k T s t within rows (λ tainted. let no : true ≡ false = sym tainted ∙ clean in cc)

tested_within : {V : Type 0} (k : ℕ) (T : Tainted) (s : MachineState V) (after : Shared V) (reason : Option Status) (left : List Sample) → IsWithin k T s → after.ancestry ≡ s.shared.ancestry → T.entry ≡ false
    → IsWithin k T (after_test s after reason left).machine
tested_within k T s after None left within rows clean = public_within k T s _ within rows clean
tested_within k T s after (Some reason) left within rows clean = public_within k T s _ within rows clean

piece_within : {V : Type 0} (k : ℕ) (T : Tainted) (s : MachineState V) (events : List Sample) (piece : List ℕ) (differ : Bool) → IsWithin k T s → state_of s ≡ state.Entry
    → IsWithin k (record { entry = T.entry || (is_taken s piece && differ); slot = T.slot }) (entry_bytes s piece events).machine
piece_within k T s events piece differ within entering = by_fit (is_taken s piece)
  where
    by_fit : (fits : Bool) → IsWithin k (record { entry = T.entry || (fits && differ); slot = T.slot })
        (if fits then done (record s { entry = with_piece s.entry piece }) no_block events else refused s status.BadLength events).machine
    by_fit true = record { tree = within.tree; entering = λ _. entering; rows = within.rows }
    by_fit false = record { tree = within.tree; entering = λ _. entering; rows = within.rows }

-- a commit of a tainted entry is into slot k
commit_joins : {V : Type 0} (k : ℕ) (T : Tainted) (s : MachineState V) → IsWithin k T s → (T.entry ≡ true → IfSome s.entry.target (λ target. target.slot ≡ k)) → (id : ℕ)
    → (T.slot id || (T.entry && may_fill s id)) ≡ true → descendants s.shared.ancestry k id ≡ true
commit_joins k T s within into id member = by_taint (T.slot id) refl member
  where
    by_target : (target : Option Target) → IfSome target (λ g. g.slot ≡ k)
        → option_map_or (λ g. (length (entered s.entry) == g.length) && (is_empty (slot_at s.slots g.slot) && (id == g.slot))) target false ≡ true → descendants s.shared.ancestry k id ≡ true
    by_target None is h = cc
    by_target (Some g) is h =
        let here : (id == g.slot) ≡ true = both_right (is_empty (slot_at s.slots g.slot)) _ (both_right (length (entered s.entry) == g.length) _ h) in
        let at : (id == k) ≡ true = subst (λ place. (id == place) ≡ true) is here in
        ap (λ first. first || holds (slice_index s.shared.ancestry id) k) at

    by_taint : (taint : Bool) → T.slot id ≡ taint → (taint || (T.entry && may_fill s id)) ≡ true → descendants s.shared.ancestry k id ≡ true
    by_taint true is h = within.tree id is
    by_taint false is h = by_target s.entry.target (into (both_left T.entry (may_fill s id) h)) (both_right T.entry (may_fill s id) h)

-- a request that is performed
performed_within : {V : Type 0} (calls : Calls V) (k : ℕ) (T : Tainted) (s : MachineState V) (events : List Sample) (differ : Bool) (what : RequestValue) → IsWithin k T s → IsPermittedIn what (state_of s) → IsInRange what
    → ((check : List ℕ) → what ≡ request.EntryCommit check → T.entry ≡ true → IfSome s.entry.target (λ target. target.slot ≡ k))
    → IsWithin k (taint_for calls s events T differ what) (perform calls s events what).machine
performed_within calls k T s events differ (request.PowerOn period) within may range into = public_within k T s _ within refl (unentered k T s (request.PowerOn period) within refl may)
performed_within calls k T s events differ request.TestStep within may range into =
    let tests = step_tested calls s.shared.engine s.shared.public s.shared.tests_passed s.shared.image s.shared.digest in
    let seed = seeded_when calls tests.engine s.shared.generator s.shared.samples events (is_seed_due tests.judgement.public tests.judgement.refused) in
    let judged = noise_judgement tests.judgement seed.failure in
    tested_within k T s (with_seeded s.shared judged seed) judged.refused seed.left within refl (unentered k T s request.TestStep within refl may)
performed_within calls k T s events differ request.RequestTests within may range into = public_within k T s _ within refl (unentered k T s request.RequestTests within refl may)
performed_within calls k T s events differ request.ShowStatus within may range into = within
performed_within calls k T s events differ request.ShowVersion within may range into = within
performed_within calls k T s events differ (request.SelectRole role) within may range into = public_within k T s _ within refl (unentered k T s (request.SelectRole role) within refl may)
performed_within calls k T s events differ request.Reset within may range into = record { tree = λ id u. cc; entering = λ u. cc; rows = refl }
performed_within calls k T s events differ (request.EntryBegin slot header long) within may range into =
    public_within k T s _ within refl (unentered k T s (request.EntryBegin slot header long) within refl may)
performed_within calls k T s events differ (request.EntryBytes piece) within may range into = piece_within k T s events piece differ within (entering_for_entry_bytes (state_of s) may)
performed_within calls k T s events differ (request.EntryCommit check) within may range into =
    record { tree = λ id u. commit_joins k T s within (into check refl) id u; entering = λ u. cc; rows = within.rows }
performed_within calls k T s events differ request.EntryAbort within may range into = record { tree = within.tree; entering = λ u. cc; rows = within.rows }
performed_within calls k T s events differ (request.Zeroise slot) within may range into = record {
  tree = λ id u.
      let apart : (id == slot) ≡ false = negated (id == slot) (both_right (T.slot id) _ u) in
      let other : id ≢ slot = λ e. absurd (grind (arith, nat_tests)) in
      ap (λ row. (id == k) || holds row k) (get_or-set_other s.shared.ancestry slot id 0 0 other) ∙ within.tree id (both_left (T.slot id) _ u);
  entering = within.entering;
  rows = length-set s.shared.ancestry slot 0 ∙ within.rows;
}
performed_within calls k T s events differ (request.ZeroiseTree slot) within may range into = record {
  tree = λ id u.
      let vault : Contents = record { slots = s.slots; rows = s.shared.ancestry } in
      let spared = (tree_spared slot id vault (negated (descendants s.shared.ancestry slot id) (both_right (T.slot id) _ u))).1 in
      ap (λ row. (id == k) || holds row k) spared ∙ within.tree id (both_left (T.slot id) _ u);
  entering = within.entering;
  rows = length-map-range_with_len _ 0 (length s.shared.ancestry) ∙ within.rows;
}
performed_within calls k T s events differ request.ZeroiseAll within may range into = record { tree = λ id u. cc; entering = within.entering; rows = refl }
performed_within calls k T s events differ (request.ShowSlot slot) within may range into = within
performed_within calls k T s events differ (request.Cryptographic what) within may range into =
    service_within calls k T s events what within (unentered k T s (request.Cryptographic what) within (cryptographic_not_entering what) may) range

-- the number of a command is taken
taken_within : {V : Type 0} (k : ℕ) (T : Tainted) (s : MachineState V) (sequence : Option ℕ) → IsWithin k T s → IsWithin k T (number_taken s sequence)
taken_within k T s None within = within
taken_within k T s (Some number) within = record { tree = within.tree; entering = within.entering; rows = within.rows }

-- what was looked at is there when its number was taken
taken_state : {V : Type 0} (s : MachineState V) (sequence : Option ℕ) → state_of (number_taken s sequence) ≡ state_of s
taken_state s None = refl
taken_state s (Some number) = refl

taken_entry : {V : Type 0} (s : MachineState V) (sequence : Option ℕ) → (number_taken s sequence).entry ≡ s.entry
taken_entry s None = refl
taken_entry s (Some number) = refl

step_within : {V : Type 0} (calls : Calls V) (k : ℕ) (T : Tainted) (s : MachineState V) (events : List Sample) (one other : CommandFrame) → IsWithin k T s → CommitsInto k T s one
    → IsWithin k (taint_after calls s events T one other) (step calls s events one).machine
unfolding taint_after
step_within {V} calls k T s events one other within into =
    let t : MachineState V = number_taken s one.sequence in
    let differ : Bool = not (bytes_eq one.body other.body) in
    let Holds : Option RequestValue → Stepped V → Type 0 = λ read after. IsWithin k (taint_requested calls t events T differ read) after.machine in
    let taken : IsWithin k T t = taken_within k T s one.sequence within in
    by_admitted calls s events one Holds (λ reason. taken)
    (λ what is may range. performed_within calls k T t events differ what taken (subst (λ found. IsPermittedIn what found) (sym (taken_state s one.sequence)) may) range
    (λ check same tainted. subst (λ (entry : Entry). IfSome entry.target (λ target. target.slot ≡ k)) (sym (taken_entry s one.sequence)) (into check (is ∙ ap (λ made. Some made) same) tainted)))
    within

-- a ZeroiseTree of slot k leaves nothing tainted
tree_cleans : {V : Type 0} (calls : Calls V) (k : ℕ) (T : Tainted) (s : MachineState V) (events : List Sample) (one other : CommandFrame) → IsWithin k T s → admitted s one ≡ Some (request.ZeroiseTree k)
    → IsUntainted (taint_after calls s events T one other)
unfolding taint_after
tree_cleans {V} calls k T s events one other within is = rw is (record { entry = clean; slot = λ id. left id (T.slot id) refl })
  where
    t : MachineState V
    t = number_taken s one.sequence

    taken : IsWithin k T t
    taken = taken_within k T s one.sequence within

    left : (id : ℕ) (taint : Bool) → T.slot id ≡ taint → (taint && not (descendants t.shared.ancestry k id)) ≡ false
    left id true tainted = rw (taken.tree id tainted) refl
    left id false tainted = refl

    some_same : (what : RequestValue) → Some what ≡ Some (request.ZeroiseTree k) → what ≡ request.ZeroiseTree k
    some_same what same = cc

    clean : T.entry ≡ false
    clean =
        let Cleans : Option RequestValue → Stepped V → Type 0 = λ read after. read ≡ Some (request.ZeroiseTree k) → T.entry ≡ false in
        by_admitted calls s events one Cleans (λ reason no. cc)
        (λ what reads may range same. unentered k T s what within (subst (λ made. is_permitted (service_for made) state.Entry ≡ false) (sym (some_same what same)) refl) may) (λ no. cc) is

trees_hold : {V : Type 0} (calls : Calls V) (k : ℕ) → SecretsStayInside calls → (T : Tainted) (s t : MachineState V) (events : List Sample) (pairs : List CommandPair) → EqualOutside T s t → IsWithin k T s
    → AreSecretVariants calls T s events pairs → AllCommitInto calls k T s events pairs → TreeHoldsTaint calls k T s t events pairs
trees_hold calls k law T s t events [] equal within variants into = within.tree
trees_hold {V} calls k law T s t events (pair ∷ pairs) equal within variants into =
    let turn = law T s t events pair.one pair.other equal variants.0 in
    let a = step calls s events pair.one in
    let b = step calls t events pair.other in
    let T' : Tainted = taint_after calls s events T pair.one pair.other in (
      within.tree,
      λ is. untainted_equal T' a.machine b.machine (tree_cleans calls k T s events pair.one pair.other within is) turn.outside,
      trees_hold calls k law T' a.machine b.machine a.left pairs turn.outside (step_within calls k T s events pair.one pair.other within into.0) variants.1 into.1,
    )

pub one_suffices : {V : Type 0} (calls : Calls V) → SecretsStayInside calls → OneCommandSuffices calls
one_suffices calls law k s events pairs sixteen variants into =
    trees_hold calls k law untainted s s events pairs (same_machines s)
    (record { tree = λ id u. cc; entering = λ u. cc; rows = sixteen }) variants into
