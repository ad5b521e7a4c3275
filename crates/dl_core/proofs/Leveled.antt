-- How many Level events wait: one fewer after each that is noted, and at most one after a user message or a claim.
use Rattle.std.proofs.Common.{◌≡◌, ◌≢◌, ◌⊎◌, inl, inr, ℕ, zero, suc, ◌+◌, ◌/◌, ◌%◌, ◌<◌, ◌≤◌, Bool, true, false, not, cond, List, [], ◌∷◌, ◌++◌, length, Option, Some, None, Result, Ok, Err, IfOk, refl, sym, ap, subst, ◌∙◌, true≢false, arith}
use Rattle.std.specs.Prelude.{nat_eq, ◌==◌, ◌||◌, if◌then◌else◌, unwrap_or}
use Rattle.std.specs.List.{AllByRecursion, IsDistinct, cons_option, filter, filter_map, list_any, range_with_len}
use Rattle.std.specs.Map.{lookup}
use Rattle.std.specs.Option.{option_and_then, option_map, option_or}
use Rattle.std.specs.Str.{bytes_eq}
use Rattle.std.proofs.lemmas.Bool.{cases_lt}
use Rattle.std.proofs.lemmas.Bool.Decides.{eqb_tells}
use Rattle.std.proofs.lemmas.List.{get_or-set_same, get_or-set_other}
use Rattle.std.proofs.lemmas.Map.Keys.{IsDistinct-head, IsDistinct-tail}
use Rattle.dl_bytes.specs.Claim.{Claimed}
use Rattle.dl_bytes.specs.declared.user.UserMsg.{UserMsg}
use Rattle.dl_bytes.specs.declared.user.UserMsg.TheVariants.{RegisterApp, UnregisterApp, RegisterContext, UnregisterContext}
use Rattle.dl_model.specs.declared.context.Context.{Context}
use Rattle.dl_model.specs.declared.registry.LevelChange.{LevelChange}
use Rattle.dl_model.specs.declared.registry.RegistryFault.{RegistryFault}
use Rattle.dl_model.specs.declared.registry.RegistryFault.TheVariants as fault
use Rattle.dl_model.specs.declared.registry.Slot.{Slot}
use Rattle.dl_model.specs.Registry.{App, Registry, IsInOrder, IsNumbered, effective, least_free, numbers, places, places_of, slot_of, with_app, with_new_app, with_context, with_new_context, without, applied, claimed, change_at, first_change, level_at}
use Rattle.dl_model.proofs.Numbered.{AllByRecursion-map_filter, least_free-le-length, least_free-is_free}
use Rattle.dl_model.proofs.Changes.{app_registers, app_unregisters, claim_makes, context_registers, context_unregisters, new_app, new_context}
use Rattle.dl_model.proofs.Order.{placed_of_found}
use Rattle.dl_model.proofs.Placed.{apart-right, free_tells, numbered-among, places-further, places-same}
use Rattle.dl_registry.proofs.Finding.{valued, valued-absent, valued-set_value, numbers_of}
use Rattle.dl_registry.proofs.Placing.{all_of, not_both, placed, placed-free}
use Rattle.dl_registry.proofs.Fitting.{level_of, level_at-found, level_at-places, level_at-same, level_at-new_app, level_of-further, level_of-told, level_of-new}
use Rattle.dl_registry.proofs.Following.{change_is_level, change_follows}
use Rattle.dl_events.specs.declared.event.Event.TheVariants as event
use Rattle.dl_registry.specs.Kept as registry
use Rattle.dl_registry.specs.Kept.{Kept, Applies, Claims, slots, owed_change, with_change, with_registry}
use Rattle.dl_registry.specs.Table.{raised, unset}
use Rattle.dl_core.specs.State.{Core}
use Rattle.dl_core.specs.Follows.{AddsAlone}
use Rattle.dl_core.specs.Waiting.{waiting, changes_by}
use Rattle.dl_core.proofs.Admitted.{admits-none}
use Rattle.dl_core.proofs.Journals.{quiet_event}

-- ---- what waits at one slot

-- the level that a slot is owed, by the level of its context
abbrev pub owed_at : Slot → ℕ → Option ℕ → Option LevelChange
owed_at held slot wanted = option_and_then (λ level. if held.level == level then None else Some (let c : LevelChange = record { slot = slot; level = level } in c)) wanted

owed_where : (held : Slot) (slot : ℕ) (wanted : Option ℕ) (change : LevelChange) → owed_at held slot wanted ≡ Some change → (slot ≡ change.slot) × (wanted ≡ Some change.level)
owed_where held slot None change is = absurd (cc is)
owed_where held slot (Some level) change is = by (held.level == level) is where
  by : (b : Bool) → cond b None (Some (let c : LevelChange = record { slot = slot; level = level } in c)) ≡ Some change → (slot ≡ change.slot) × (Some level ≡ Some change.level)
  by true is = absurd (cc is)
  by false is = (let same : Some slot ≡ Some change.slot = ap (option_map (λ (c : LevelChange). c.slot)) is in cc same, ap (option_map (λ (c : LevelChange). c.level)) is)

-- nothing is owed where the slot has the level
none_owed : (held : Slot) (slot level : ℕ) → held.level ≡ level → owed_at held slot (Some level) ≡ None
none_owed held slot level same = elim (eqb_tells held.level level) [
  | inl here ↦ ap (λ b. cond b None (Some (let c : LevelChange = record { slot = slot; level = level } in c))) here.0
  | inr other ↦ absurd (other.1 same)
]

-- ---- what waits at some slots

abbrev pub count : (ℕ → Option LevelChange) → ℕ → ℕ → ℕ
count owed a n = length (filter_map owed (range_with_len a n))

longer : (o : Option LevelChange) (xs : List LevelChange) → o ≡ None → length (cons_option o xs) ≡ length xs
longer None xs is = refl
longer (Some x) xs is = absurd (cc is)

one_longer : (o : Option LevelChange) (xs : List LevelChange) → length (cons_option o xs) ≤ 1 + length xs
one_longer None xs = omega arith
one_longer (Some x) xs = omega arith

count_same : (f g : ℕ → Option LevelChange) (a n : ℕ) → ((m : ℕ) → a ≤ m → g m ≡ f m) → count g a n ≡ count f a n
count_same f g a zero same = refl
count_same f g a (suc n) same =
    ap (λ (o : Option LevelChange). length (cons_option o (filter_map g (range_with_len (a + 1) n)))) (same a (omega arith))
    ∙ by (f a) (count_same f g (a + 1) n (λ m after. same m (omega (arith, after)))) where
      by : (o : Option LevelChange) → count g (a + 1) n ≡ count f (a + 1) n
          → length (cons_option o (filter_map g (range_with_len (a + 1) n))) ≡ length (cons_option o (filter_map f (range_with_len (a + 1) n)))
      by None rest = rest
      by (Some x) rest = ap suc rest

-- where nothing waits, nothing is counted
count_none : (g : ℕ → Option LevelChange) (a n : ℕ) → ((m : ℕ) → a ≤ m → m < a + n → g m ≡ None) → count g a n ≡ 0
count_none g a zero none = refl
count_none g a (suc n) none =
    longer (g a) (filter_map g (range_with_len (a + 1) n)) (none a (omega arith) (omega arith))
    ∙ count_none g (a + 1) n (λ m after before. none m (omega (arith, after)) (omega (arith, before)))

-- where nothing waits but at one slot, one is counted at most
count_one : (g : ℕ → Option LevelChange) (at a n : ℕ) → ((m : ℕ) → a ≤ m → m < a + n → m ≢ at → g m ≡ None) → count g a n ≤ 1
count_one g at a zero none = omega arith
count_one g at a (suc n) none = elim (eqb_tells a at) [
  | inl here ↦
      let rest : count g (a + 1) n ≡ 0 = count_none g (a + 1) n (λ m after before. none m (omega (arith, after)) (omega (arith, before)) (λ same. absurd (omega (arith, same, after, here.1)))) in
      omega (arith, rest, one_longer (g a) (filter_map g (range_with_len (a + 1) n)))
  | inr other ↦
      let rest : count g (a + 1) n ≤ 1 = count_one g at (a + 1) n (λ m after before apart. none m (omega (arith, after)) (omega (arith, before)) apart) in
      omega (arith, rest, longer (g a) (filter_map g (range_with_len (a + 1) n)) (none a (omega arith) (omega arith) other.1))
]

above : (m a : ℕ) → a ≤ m → m ≢ a → a + 1 ≤ m
above m a after apart = elim (cases_lt a m) [ inl less ↦ omega (arith, less) | inr at_most ↦ absurd (apart (omega (arith, after, at_most))) ]

-- where no change is found first, none waits
pub none_first : (s : ℕ → Slot) (r : Registry) (a n : ℕ) → first_change s r (range_with_len a n) ≡ None → (m : ℕ) → a ≤ m → m < a + n → change_at s r m ≡ None
none_first s r a zero is m after before = absurd (omega (arith, after, before))
none_first s r a (suc n) is m after before = by (change_at s r a) refl is (λ later above. none_first s r (a + 1) n later m above (omega (arith, before))) where
  by : (o : Option LevelChange) → change_at s r a ≡ o → option_or o (first_change s r (range_with_len (a + 1) n)) ≡ None
      → (first_change s r (range_with_len (a + 1) n) ≡ None → a + 1 ≤ m → change_at s r m ≡ None) → change_at s r m ≡ None
  by None at is rest = elim (eqb_tells m a) [
    | inl here ↦ ap (change_at s r) here.1 ∙ at
    | inr other ↦ rest is (above m a after other.1)
  ]
  by (Some x) at is rest = absurd (cc is)

-- the first change is of one of the slots
first_where : (s : ℕ → Slot) (r : Registry) (a n : ℕ) (change : LevelChange) → first_change s r (range_with_len a n) ≡ Some change → a ≤ change.slot
first_where s r a zero change is = absurd (cc is)
first_where s r a (suc n) change is = by (change_at s r a) refl is (first_where s r (a + 1) n change) where
  by : (o : Option LevelChange) → change_at s r a ≡ o → option_or o (first_change s r (range_with_len (a + 1) n)) ≡ Some change
      → (first_change s r (range_with_len (a + 1) n) ≡ Some change → a + 1 ≤ change.slot) → a ≤ change.slot
  by None at is rest = let after = rest is in omega (arith, after)
  by (Some x) at is rest = let here = (owed_where (s a) a (level_at r a) change (at ∙ is)).0 in omega (arith, here)

-- where the first change is made and nothing else, one fewer waits
one_fewer : (s : ℕ → Slot) (r : Registry) (g : ℕ → Option LevelChange) (change : LevelChange) (a n : ℕ) → g change.slot ≡ None → ((m : ℕ) → m ≢ change.slot → g m ≡ change_at s r m)
    → first_change s r (range_with_len a n) ≡ Some change → count g a n + 1 ≡ count (change_at s r) a n
one_fewer s r g change a zero none same is = absurd (cc is)
one_fewer s r g change a (suc n) none same is = by (change_at s r a) refl is (one_fewer s r g change (a + 1) n none same) where
  rest_of : List LevelChange
  rest_of = filter_map g (range_with_len (a + 1) n)

  by : (o : Option LevelChange) → change_at s r a ≡ o → option_or o (first_change s r (range_with_len (a + 1) n)) ≡ Some change
      → (first_change s r (range_with_len (a + 1) n) ≡ Some change → count g (a + 1) n + 1 ≡ count (change_at s r) (a + 1) n)
      → count g a (suc n) + 1 ≡ length (cons_option o (filter_map (change_at s r) (range_with_len (a + 1) n)))
  by None at is rest =
      let later = first_where s r (a + 1) n change is in
      let here : g a ≡ None = same a (λ e. absurd (omega (arith, e, later))) ∙ at in
      omega (arith, longer (g a) rest_of here, rest is)
  by (Some x) at is rest =
      let slot : a ≡ change.slot = (owed_where (s a) a (level_at r a) change (at ∙ is)).0 in
      let here : g a ≡ None = ap g slot ∙ none in
      omega (arith, longer (g a) rest_of here, count_same (change_at s r) g (a + 1) n (λ m after. same m (λ e. absurd (omega (arith, e, after, slot)))))

-- ---- a Level event

pub one_fewer_waits : (kept : Kept) (change : LevelChange) → length kept.held ≡ 1024 → owed_change kept ≡ Some change → waiting (with_change kept (Some change)) + 1 ≡ waiting kept
unfolding owed_change waiting
one_fewer_waits kept change all is =
    one_fewer (slots kept) kept.registry (change_at (slots (with_change kept (Some change))) kept.registry) change 0 1024 made others is
  where
    what : (change.slot < 1024) × (level_at kept.registry change.slot ≡ Some change.level)
    what = change_is_level kept change is

    made : change_at (slots (with_change kept (Some change))) kept.registry change.slot ≡ None
    made =
        ap (owed_at (slots (with_change kept (Some change)) change.slot) change.slot) what.1
        ∙ none_owed (slots (with_change kept (Some change)) change.slot) change.slot change.level
        (ap (λ (s : Slot). s.level) (get_or-set_same kept.held change.slot (raised (slots kept change.slot) change.level) (unset kept.first) (omega (arith, what.0, all))))

    others : (m : ℕ) → m ≢ change.slot → change_at (slots (with_change kept (Some change))) kept.registry m ≡ change_at (slots kept) kept.registry m
    others m apart = ap (λ (s : Slot). owed_at s m (level_at kept.registry m))
        (get_or-set_other kept.held change.slot m (raised (slots kept change.slot) change.level) (unset kept.first) apart)

-- what is kept after the call that makes it
pub change_made : (kept now : Kept) (change : LevelChange) → length kept.held ≡ 1024 → Some change ≡ owed_change kept → now ≡ with_change kept (Some change) → waiting now + 1 ≡ waiting kept
change_made kept now change all is made = ap (λ (k : Kept). waiting k + 1) made ∙ one_fewer_waits kept change all (sym is)

pub level_follows : (old : Core) (now : Kept) (change : LevelChange) → Some change ≡ owed_change old.registry → now ≡ with_change old.registry (Some change)
    → AddsAlone (event.Level change.slot change.level ∷ []) old (record old { registry = now })
level_follows old now change is made = λ told run events taken gives after.
    quiet_event run events taken (event.Level change.slot change.level) old (record old { registry = now }) told
    (record { ecu = refl; level = refl; injection = refl; software = refl; hub = record { ecu = refl; buffer = refl; limit = refl } }) refl
    (subst (λ (k : Kept). registry.IsAfter run.setting (events ++ event.Level change.slot change.level ∷ []) k) (sym made) (change_follows run.setting events old.registry change after.registry (sym is)))
    (admits-none old.hub) refl after

-- ---- what a user message changes

-- a level is as it was, or there is none any more
abbrev Fades : Option ℕ → Option ℕ → Type 0
Fades old new = (new ≡ old) ⊎ (new ≡ None)

-- then nothing more is owed
fades_owed : (held : Slot) (slot : ℕ) (old new : Option ℕ) → Fades old new → owed_at held slot old ≡ None → owed_at held slot new ≡ None
fades_owed held slot old new fades none = elim fades [
  | inl same ↦ ap (owed_at held slot) same ∙ none
  | inr gone ↦ ap (owed_at held slot) gone
]

-- all levels fade but at one slot at most
abbrev ChangesOne : Registry → Registry → Type 0
ChangesOne old new = (at : ℕ) × ((slot : ℕ) → slot ≢ at → Fades (level_at old slot) (level_at new slot))

abbrev ChangesNone : Registry → Registry → Type 0
ChangesNone old new = (slot : ℕ) → Fades (level_at old slot) (level_at new slot)

abbrev ChangesAsMany : ℕ → Registry → Registry → Type 0
ChangesAsMany zero old new = ChangesNone old new
ChangesAsMany (suc n) old new = ChangesOne old new

-- ---- entries that go

-- what is found among those that are left was found before
module _ {A : Type 0} (f : A → ℕ) where
  valued_left : (n : ℕ) (p : List ℕ × A → Bool) (es : List (List ℕ × A)) → IsDistinct nat_eq (numbers_of f es) → (valued f n (filter p es) ≡ valued f n es) ⊎ (valued f n (filter p es) ≡ None)
  valued_left n p [] apart = inl refl
  valued_left n p (e ∷ es) apart = by (p e) (valued_left n p es (IsDistinct-tail nat_eq (f e.1) (numbers_of f es) apart)) where
    found : (b : Bool) → (valued f n (filter p es) ≡ valued f n es) ⊎ (valued f n (filter p es) ≡ None)
        → (cond b (Some e.1) (valued f n (filter p es)) ≡ cond b (Some e.1) (valued f n es)) ⊎ (cond b (Some e.1) (valued f n (filter p es)) ≡ None)
    found true rest = inl refl
    found false rest = rest

    gone : (valued f n (filter p es) ≡ valued f n es) ⊎ (valued f n (filter p es) ≡ None)
        → (valued f n (filter p es) ≡ cond (f e.1 == n) (Some e.1) (valued f n es)) ⊎ (valued f n (filter p es) ≡ None)
    gone rest = elim (eqb_tells (f e.1) n) [
      | inl here ↦ inr (valued-absent f n (filter p es) (AllByRecursion-map_filter (λ (x : List ℕ × A). f x.1) p (λ y. nat_eq n y ≡ false) es
          (subst (λ k. AllByRecursion (λ y. nat_eq k y ≡ false) (numbers_of f es)) here.1 (IsDistinct-head nat_eq (f e.1) (numbers_of f es) apart))))
      | inr other ↦ subst (λ b. (valued f n (filter p es) ≡ cond b (Some e.1) (valued f n es)) ⊎ (valued f n (filter p es) ≡ None)) (sym other.0) rest
    ]

    by : (b : Bool) → (valued f n (filter p es) ≡ valued f n es) ⊎ (valued f n (filter p es) ≡ None)
        → (valued f n (cond b (e ∷ filter p es) (filter p es)) ≡ valued f n (e ∷ es)) ⊎ (valued f n (cond b (e ∷ filter p es) (filter p es)) ≡ None)
    by true rest = found (f e.1 == n) rest
    by false rest = gone rest

-- the same where each has several numbers
module _ {A : Type 0} (g : A → List ℕ) where
  none_left : (n : ℕ) (p : List ℕ × A → Bool) (es : List (List ℕ × A)) → placed g n es ≡ None → placed g n (filter p es) ≡ None
  none_left n p [] none = refl
  none_left n p (e ∷ es) none = by (list_any (nat_eq n) (g e.1)) refl none (none_left n p es) where
    by : (b : Bool) → list_any (nat_eq n) (g e.1) ≡ b → cond b (Some e.1) (placed g n es) ≡ None → (placed g n es ≡ None → placed g n (filter p es) ≡ None)
        → placed g n (cond (p e) (e ∷ filter p es) (filter p es)) ≡ None
    by true has none rest = absurd (cc none)
    by false has none rest = kept (p e) (rest none) where
      kept : (k : Bool) → placed g n (filter p es) ≡ None → placed g n (cond k (e ∷ filter p es) (filter p es)) ≡ None
      kept true rest = ap (λ b. cond b (Some e.1) (placed g n (filter p es))) has ∙ rest
      kept false rest = rest

  placed_left : (n : ℕ) (p : List ℕ × A → Bool) (es : List (List ℕ × A)) → IsDistinct nat_eq (all_of g es) → (placed g n (filter p es) ≡ placed g n es) ⊎ (placed g n (filter p es) ≡ None)
  placed_left n p [] apart = inl refl
  placed_left n p (e ∷ es) apart = by (p e) (placed_left n p es (apart-right (g e.1) (all_of g es) apart)) where
    found : (b : Bool) → (placed g n (filter p es) ≡ placed g n es) ⊎ (placed g n (filter p es) ≡ None)
        → (cond b (Some e.1) (placed g n (filter p es)) ≡ cond b (Some e.1) (placed g n es)) ⊎ (cond b (Some e.1) (placed g n (filter p es)) ≡ None)
    found true rest = inl refl
    found false rest = rest

    -- the number of one that goes is none of the others'
    others : list_any (nat_eq n) (g e.1) ≡ true → placed g n es ≡ None
    others here = at (list_any (nat_eq n) (all_of g es)) refl where
      at : (b : Bool) → list_any (nat_eq n) (all_of g es) ≡ b → placed g n es ≡ None
      at true there = absurd (true≢false (sym here ∙ not_both n (g e.1) (all_of g es) apart there))
      at false free = placed-free g n es free

    gone : (b : Bool) → list_any (nat_eq n) (g e.1) ≡ b → (placed g n (filter p es) ≡ placed g n es) ⊎ (placed g n (filter p es) ≡ None)
        → (placed g n (filter p es) ≡ cond b (Some e.1) (placed g n es)) ⊎ (placed g n (filter p es) ≡ None)
    gone true here rest = inr (none_left n p es (others here))
    gone false other rest = rest

    by : (b : Bool) → (placed g n (filter p es) ≡ placed g n es) ⊎ (placed g n (filter p es) ≡ None)
        → (placed g n (cond b (e ∷ filter p es) (filter p es)) ≡ placed g n (e ∷ es)) ⊎ (placed g n (cond b (e ∷ filter p es) (filter p es)) ≡ None)
    by true rest = found (list_any (nat_eq n) (g e.1)) rest
    by false rest = gone (list_any (nat_eq n) (g e.1)) refl rest

abbrev number_of : App → ℕ
number_of app = app.number

-- an application goes
app_gone : (r : Registry) (apid : List ℕ) → IsInOrder r → ChangesNone r (record r { apps = without apid r.apps })
app_gone r apid is slot = elim (valued_left number_of (slot / 64) (λ e. not (bytes_eq apid e.0)) r.apps is.numbered.apart) [
  | inl same ↦ inl (ap (λ o. level_of r.level o slot) same)
  | inr none ↦ inr (ap (λ o. level_of r.level o slot) none)
]

-- a context goes
context_gone : (r : Registry) (apid ctid : List ℕ) (app : App) → IsInOrder r → lookup (bytes_eq apid) r.apps ≡ Some app
    → ChangesNone r (with_app r apid (record app { contexts = without ctid app.contexts }))
context_gone r apid ctid app is found slot =
    let replaced : level_at (with_app r apid left) slot ≡ level_of r.level (cond (app.number == slot / 64) (Some left) (valued number_of (slot / 64) r.apps)) slot =
    ap (λ o. level_of r.level o slot) (valued-set_value number_of (slot / 64) (bytes_eq apid) r.apps app left found refl is.numbered.apart) in
    elim (eqb_tells app.number (slot / 64)) [
      | inl here ↦
          let new : level_at (with_app r apid left) slot ≡ level_of r.level (Some left) slot =
          replaced ∙ ap (λ b. level_of r.level (cond b (Some left) (valued number_of (slot / 64) r.apps)) slot) here.0 in
          let old : level_at r slot ≡ level_of r.level (Some app) slot = level_at-found r apid app app is found refl slot here.1 in
          elim (placed_left places_of (slot % 64) (λ e. not (bytes_eq ctid e.0)) app.contexts (placed_of_found r apid app is found).apart) [
            | inl same ↦ inl (new ∙ (ap (option_map (effective r.level)) same ∙ sym old))
            | inr none ↦ inr (new ∙ ap (option_map (effective r.level)) none)
          ]
      | inr other ↦ inl (replaced ∙ ap (λ b. level_of r.level (cond b (Some left) (valued number_of (slot / 64) r.apps)) slot) other.0)
    ]
  where
    left : App
    left = record app { contexts = without ctid app.contexts }

-- ---- what each message leaves

stays : (old new : Registry) → ((slot : ℕ) → level_at new slot ≡ level_at old slot) → ChangesNone old new
stays old new same = λ slot. inl (same slot)

one_of : (old new : Registry) → ChangesNone old new → ChangesOne old new
one_of old new none = (0, λ slot apart. none slot)

-- one place of an application gets a level
place_changes : (r : Registry) (apid : List ℕ) (old new : App) (place : ℕ) (level : Option ℕ) → IsInOrder r → lookup (bytes_eq apid) r.apps ≡ Some old → new.number ≡ old.number → place < 64
    → ((slot : ℕ) → level_of r.level (Some new) slot ≡ cond (list_any (nat_eq (slot % 64)) (place ∷ [])) level (level_of r.level (Some old) slot))
    → ChangesOne r (with_app r apid new)
place_changes r apid old new place level is found same below levels = (
  slot_of old.number place,
  λ slot apart. inl (other slot apart (level_at-places r apid old new is found same (place ∷ []) level (below, tt) levels slot)),
)
  where
    other : (slot : ℕ) → slot ≢ slot_of old.number place
        → level_at (with_app r apid new) slot ≡ cond (list_any (λ n. slot == slot_of old.number n) (place ∷ [])) level (level_at r slot)
        → level_at (with_app r apid new) slot ≡ level_at r slot
    other slot apart is = elim (eqb_tells slot (slot_of old.number place)) [
      | inl here ↦ absurd (apart here.1)
      | inr apart ↦ is ∙ ap (λ b. cond (b || false) level (level_at r slot)) apart.0
    ]

-- a context comes, at a place that was free
new_at : (r : Registry) (apid ctid : List ℕ) (app : App) (new : Context) → IsInOrder r → lookup (bytes_eq apid) r.apps ≡ Some app → new.further ≡ [] → new.place < 64
    → list_any (nat_eq new.place) (places app.contexts) ≡ false → ChangesOne r (with_app r apid (with_new_context app ctid new))
new_at r apid ctid app new is found alone below free =
    place_changes r apid app (with_new_context app ctid new) new.place (Some (effective r.level new)) is found refl below (level_of-new r.level app ctid new alone free)

module _ (s : ℕ → Slot) (r : Registry) (is : IsInOrder r) where
  applied_changes : (channel : ℕ) (msg : UserMsg) → IfOk (applied s r channel msg) (ChangesAsMany (changes_by msg) r)
  applied_changes channel (RegisterApp apid pid text) =
      app_registers s r channel (ChangesNone r) apid pid text
      (λ app found of. stays r (with_app r apid (record app { pid = pid; text = text })) (level_at-same r apid app (record app { pid = pid; text = text }) is found refl (λ slot. refl)))
      (λ none room. stays r (with_new_app r apid (new_app r channel pid text)) (level_at-new_app r apid channel (least_free (numbers r.apps)) pid text))
  applied_changes channel (UnregisterApp apid pid) = app_unregisters s r channel (ChangesNone r) apid pid (λ app found of. app_gone r apid is)
  applied_changes channel (RegisterContext apid ctid position level trace pid text) =
      context_registers s r channel (ChangesOne r) apid ctid position level trace pid text
      (λ app context found of there.
      let told : Context = record context { position = position; text = text } in
      let all = placed_of_found r apid app is found in
      one_of r (with_app r apid (with_context app ctid told))
      (stays r (with_app r apid (with_context app ctid told)) (level_at-same r apid app (with_context app ctid told) is found refl
      (level_of-told r.level app ctid context position text all (subst (IsNumbered 64) (sym (places-same (bytes_eq ctid) app.contexts context told there refl)) all) there))))
      (λ app found of there room. new_at r apid ctid app (new_context r apid ctid (least_free (places app.contexts)) level position text) is found refl
      (omega (arith, least_free-le-length (places app.contexts), room)) (least_free-is_free (places app.contexts)))
  applied_changes channel (UnregisterContext apid ctid pid) = context_unregisters s r channel (ChangesNone r) apid ctid pid (λ app context found of there. context_gone r apid ctid app is found)
  applied_changes channel _ = λ slot. inl refl

  -- a claim
  claimed_changes : (claim : Claimed) → ChangesOne r (unwrap_or (claimed s r claim) r)
  claimed_changes claim =
      claim_makes s r claim (λ o msgs. ChangesOne r (unwrap_or o r)) (one_of r r (λ slot. inl refl))
      (λ apid app context may there.
      let free = free_tells claim.place app.contexts may.free in
      let all = placed_of_found r apid app is may.found in
      place_changes r apid app (with_context app claim.ctid (record context { further = context.further ++ claim.place ∷ [] })) claim.place (Some (effective r.level context)) is may.found refl free.below
      (level_of-further r.level app claim.ctid context claim.place all
      (numbered-among 64 claim.place (places app.contexts) _ (places-further (bytes_eq claim.ctid) app.contexts context claim.place there) all free.unused free.below) there))
      (λ apid app may there.
      let free = free_tells claim.place app.contexts may.free in
      new_at r apid claim.ctid app (new_context r apid claim.ctid claim.place claim.level 0 claim.text) is may.found refl free.below free.unused)

-- ---- what waits then

pub settled_waits : (kept : Kept) (left : Registry) (n : ℕ) → owed_change kept ≡ None → ChangesAsMany n kept.registry left → n ≤ 1 → waiting (with_registry kept left) ≤ n
unfolding owed_change waiting
settled_waits kept left zero settled changes below =
    let none = count_none (change_at (slots kept) left) 0 1024 (λ m after before.
    fades_owed (slots kept m) m (level_at kept.registry m) (level_at left m) (changes m) (none_first (slots kept) kept.registry 0 1024 settled m after before)) in
    omega (arith, none)
settled_waits kept left (suc n) settled changes below =
    let one = count_one (change_at (slots kept) left) changes.0 0 1024 (λ m after before apart.
    fades_owed (slots kept m) m (level_at kept.registry m) (level_at left m) (changes.1 m apart) (none_first (slots kept) kept.registry 0 1024 settled m after before)) in
    omega (arith, one)

-- ---- a user message that the registry was handed

at_most_one : (msg : UserMsg) → changes_by msg ≤ 1
at_most_one (RegisterContext apid ctid position level trace pid text) = omega arith
at_most_one _ = omega arith

-- at most so many levels wait after it as it may change
pub message_waits : {A : Type 0} (channel : ℕ) (msg : UserMsg) (old new : Kept) (result : Result A RegistryFault) → IsInOrder old.registry → owed_change old ≡ None
    → Applies (applied (slots old) old.registry channel msg) old result new → waiting new ≤ changes_by msg
message_waits {A} channel msg old new result order settled call = by result call where
  stayed : new ≡ old → waiting new ≤ changes_by msg
  stayed same = subst (λ (k : Kept). waiting k ≤ changes_by msg) (sym same) (omega (arith, settled_waits old old.registry 0 settled (λ slot. inl refl) (omega arith)))

  by : (result : Result A RegistryFault) → Applies (applied (slots old) old.registry channel msg) old result new → waiting new ≤ changes_by msg
  by (Ok done) call =
      subst (λ (k : Kept). waiting k ≤ changes_by msg) (sym call.1)
      (settled_waits old new.registry (changes_by msg) settled
      (subst (λ (o : Result Registry RegistryFault). IfOk o (ChangesAsMany (changes_by msg) old.registry)) call.0 (applied_changes (slots old) old.registry order channel msg)) (at_most_one msg))
  by (Err fault.OutOfMemory) call = stayed call.1
  by (Err fault.ZeroId) call = stayed call.1
  by (Err fault.Taken) call = stayed call.1
  by (Err fault.UnknownApp) call = stayed call.1
  by (Err fault.UnknownContext) call = stayed call.1
  by (Err fault.AppsFull) call = stayed call.1
  by (Err fault.ContextsFull) call = stayed call.1
  by (Err fault.Worn) call = stayed call.1

-- ---- a claim that the registry was handed

-- at most one level waits after it
pub claim_waits : (claim : Claimed) (old new : Kept) → IsInOrder old.registry → owed_change old ≡ None → Claims claim old new → waiting new ≤ 1
claim_waits claim old new order settled call =
    subst (λ (k : Kept). waiting k ≤ 1) (sym call) (settled_waits old (unwrap_or (claimed (slots old) old.registry claim) old.registry) 1 settled (claimed_changes (slots old) old.registry order claim) (omega arith))
