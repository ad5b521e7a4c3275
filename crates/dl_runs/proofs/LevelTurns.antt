-- The Level events that a run hands out stand in their turn, and when all are handed out none is owed.
use Rattle.std.proofs.Common.{◌≡◌, ℕ, zero, suc, ◌+◌, ◌<◌, ◌≤◌, cond, List, [], ◌∷◌, ◌++◌, Option, Some, None, refl, sym, ap, subst, ◌∙◌, append_assoc, arith, inl, inr}
use Rattle.std.specs.Prelude.{map, ◌⊎◌}
use Rattle.std.specs.List.{filter_map, cons_option, range_with_len}
use Rattle.std.specs.Option.{option_or}
use Rattle.std.proofs.lemmas.Bool.{ne_eqb, eq-eqb, cases_lt}
use Rattle.std.proofs.lemmas.List.{append-nil}
use Rattle.std.proofs.lemmas.List.Elements.{filter_map-append}
use Rattle.dl_events.specs.declared.event.Event.{Event}
use Rattle.dl_events.specs.declared.event.Event.TheVariants as event
use Rattle.dl_model.specs.declared.registry.LevelChange.{LevelChange}
use Rattle.dl_model.specs.declared.registry.Slot.{Slot}
use Rattle.dl_model.specs.Setting.{Setting}
use Rattle.dl_model.specs.History.{level_for}
use Rattle.dl_model.specs.Registry.{Registry, level_at, change_at, first_change}
use Rattle.dl_model.specs.Journal.{registry_of, slots_of, owed, IsSettled}
use Rattle.dl_script_model.specs.Marks.{Mark, journal, event_of}
use Rattle.dl_script_model.specs.Steps.{level_noted, changes, note_levels}
use Rattle.dl_model.proofs.OneMore.{registry-one, slot-one, slot-other}
use Rattle.dl_laws.proofs.SlotChanges.{change_is, no_change, same_change}
use Rattle.dl_runs.proofs.Relations.{AreAll}

-- ---- all slots from one on

same_changes : (slots others : ℕ → Slot) (registry other : Registry) (k a : ℕ) → ((m : ℕ) → a ≤ m → slots m ≡ others m) → registry ≡ other →
    filter_map (change_at slots registry) (range_with_len a k) ≡ filter_map (change_at others other) (range_with_len a k)
same_changes slots others registry other zero a same is = refl
same_changes slots others registry other (suc k) a same is =
    ap (λ (o : Option LevelChange). cons_option o (filter_map (change_at slots registry) (range_with_len (a + 1) k))) (same_change slots others registry other a (same a (omega arith)) is)
    ∙ ap (cons_option (change_at others other a)) (same_changes slots others registry other k (a + 1) (λ m le. same m (omega arith)) is)

-- where none of the first slots changes, the first change is that of the others
skip : (slots : ℕ → Slot) (registry : Registry) (j b k : ℕ) → ((m : ℕ) → m < b + j → change_at slots registry m ≡ None) →
    first_change slots registry (range_with_len b (j + k)) ≡ first_change slots registry (range_with_len (b + j) k)
skip slots registry zero b k none =
    let left : zero + k ≡ k = omega arith in
    let right : b ≡ b + zero = omega arith in
    ap (λ (n : ℕ). first_change slots registry (range_with_len b n)) left ∙ ap (λ (n : ℕ). first_change slots registry (range_with_len n k)) right
skip slots registry (suc j) b k none =
    let left : suc j + k ≡ suc (j + k) = omega arith in
    let right : b + 1 + j ≡ b + suc j = omega arith in
    ap (λ (n : ℕ). first_change slots registry (range_with_len b n)) left
    ∙ ap (λ (o : Option LevelChange). option_or o (first_change slots registry (range_with_len (b + 1) (j + k)))) (none b (omega arith))
    ∙ skip slots registry j (b + 1) k (λ m lt. none m (omega arith))
    ∙ ap (λ (n : ℕ). first_change slots registry (range_with_len n k)) right

-- ---- one Level event after the other

abbrev slots_at : Setting → List Mark → ℕ → Slot
slots_at setting done = slots_of setting (journal done)

abbrev registry_at : Setting → List Mark → Registry
registry_at setting done = registry_of setting (journal done)

journal_level : (done : List Mark) (c : LevelChange) → journal (done ++ level_noted c ∷ []) ≡ journal done ++ event.Level c.slot c.level ∷ []
journal_level done c = filter_map-append event_of done (level_noted c ∷ [])

registry_stays : (setting : Setting) (done : List Mark) (c : LevelChange) → registry_at setting (done ++ level_noted c ∷ []) ≡ registry_at setting done
registry_stays setting done c = ap (registry_of setting) (journal_level done c) ∙ registry-one setting (journal done) (event.Level c.slot c.level)

slot_new : (setting : Setting) (done : List Mark) (c : LevelChange) (n : ℕ) → c.slot ≡ n → (slots_at setting (done ++ level_noted c ∷ []) n).level ≡ c.level
slot_new setting done c n same =
    let own : level_for n (event.Level c.slot c.level) ≡ Some c.level = ap (λ b. cond b (Some c.level) None) (eq-eqb c.slot n same) in
    ap (λ (events : List Event). (slots_of setting events n).level) (journal_level done c)
    ∙ ap (λ (s : Slot). s.level) (slot-one setting.first (journal done) n (event.Level c.slot c.level) c.level own)

slot_old : (setting : Setting) (done : List Mark) (c : LevelChange) (n : ℕ) → (c.slot ≡ n → ⊥) → slots_at setting (done ++ level_noted c ∷ []) n ≡ slots_at setting done n
slot_old setting done c n apart =
    let other : level_for n (event.Level c.slot c.level) ≡ None = ap (λ b. cond b (Some c.level) None) (ne_eqb c.slot n apart) in
    ap (λ (events : List Event). slots_of setting events n) (journal_level done c) ∙ slot-other setting.first (journal done) n (event.Level c.slot c.level) other

abbrev pub LevelTurn : Setting → List Mark → LevelChange → Type 0
LevelTurn setting done c = owed setting (journal done) ≡ Some c

module _ (setting : Setting) (top : ℕ) (owed_is : (events : List Event) → owed setting events ≡ first_change (slots_of setting events) (registry_of setting events) (range_with_len 0 top))
    (R : List Mark → Mark → Type 0) (levels : (done : List Mark) (c : LevelChange) → LevelTurn setting done c → R done (level_noted c)) where
  abbrev from : ℕ → ℕ → List Mark → List Mark
  from k a done = map level_noted (filter_map (change_at (slots_at setting done) (registry_at setting done)) (range_with_len a k))

  abbrev NoneBelow : ℕ → List Mark → Type 0
  NoneBelow a done = (m : ℕ) → m < a → change_at (slots_at setting done) (registry_at setting done) m ≡ None

  abbrev Handed : List Mark → List Mark → Type 0
  Handed done marks = AreAll R done marks × IsSettled setting (journal (done ++ marks))

  owed_from : (k a : ℕ) (done : List Mark) → a + k ≡ top → NoneBelow a done →
      owed setting (journal done) ≡ first_change (slots_at setting done) (registry_at setting done) (range_with_len a k)
  owed_from k a done e none =
      let zero_a : 0 + a ≡ a = omega arith in
      owed_is (journal done)
      ∙ ap (λ (n : ℕ). first_change (slots_at setting done) (registry_at setting done) (range_with_len 0 n)) (sym e)
      ∙ skip (slots_at setting done) (registry_at setting done) a 0 k (λ m lt. none m (omega arith))
      ∙ ap (λ (n : ℕ). first_change (slots_at setting done) (registry_at setting done) (range_with_len n k)) zero_a

  -- no change at this slot
  next_none : (k a : ℕ) (done : List Mark) → NoneBelow a done → change_at (slots_at setting done) (registry_at setting done) a ≡ None → NoneBelow (a + 1) done
  next_none k a done none here m lt = by_order (cases_lt m a) where
    by_order : (m < a) ⊎ (a ≤ m) → change_at (slots_at setting done) (registry_at setting done) m ≡ None
    by_order (inl below) = none m below
    by_order (inr above) =
        let same : a ≡ m = omega arith in
        subst (λ n. change_at (slots_at setting done) (registry_at setting done) n ≡ None) same here

  -- the change of this slot is handed out
  changed_none : (a : ℕ) (done : List Mark) (c : LevelChange) → NoneBelow a done → change_at (slots_at setting done) (registry_at setting done) a ≡ Some c → NoneBelow (a + 1) (done ++ level_noted c ∷ [])
  changed_none a done c none is m lt = by_order (cases_lt m a) where
    parts : (c.slot ≡ a) × (level_at (registry_at setting done) a ≡ Some c.level)
    parts = change_is (slots_at setting done) (registry_at setting done) a c is

    by_order : (m < a) ⊎ (a ≤ m) → change_at (slots_at setting (done ++ level_noted c ∷ [])) (registry_at setting (done ++ level_noted c ∷ [])) m ≡ None
    by_order (inl below) =
        same_change (slots_at setting (done ++ level_noted c ∷ [])) (slots_at setting done) (registry_at setting (done ++ level_noted c ∷ [])) (registry_at setting done) m
        (slot_old setting done c m (λ same. omega (arith, parts.0))) (registry_stays setting done c) ∙ none m below
    by_order (inr above) =
        let here : a ≡ m = omega arith in
        no_change (slots_at setting (done ++ level_noted c ∷ [])) (registry_at setting (done ++ level_noted c ∷ [])) m c.level
        (ap (λ (r : Registry). level_at r m) (registry_stays setting done c) ∙ subst (λ n. level_at (registry_at setting done) n ≡ Some c.level) here parts.1)
        (slot_new setting done c m (parts.0 ∙ here))

  hand_one : (k a : ℕ) (done : List Mark) → a + suc k ≡ top → NoneBelow a done → ((d : List Mark) → NoneBelow (a + 1) d → Handed d (from k (a + 1) d)) →
      (o : Option LevelChange) → change_at (slots_at setting done) (registry_at setting done) a ≡ o →
      Handed done (map level_noted (cons_option o (filter_map (change_at (slots_at setting done) (registry_at setting done)) (range_with_len (a + 1) k))))
  hand_one k a done e none later None is = later done (next_none k a done none is)
  hand_one k a done e none later (Some c) is =
      let now = done ++ level_noted c ∷ [] in
      let parts = change_is (slots_at setting done) (registry_at setting done) a c is in
      let turn : LevelTurn setting done c =
      owed_from (suc k) a done e none ∙ ap (λ (o : Option LevelChange). option_or o (first_change (slots_at setting done) (registry_at setting done) (range_with_len (a + 1) k))) is in
      let rest = later now (changed_none a done c none is) in
      let same : from k (a + 1) now ≡ from k (a + 1) done =
      ap (map level_noted) (same_changes (slots_at setting now) (slots_at setting done) (registry_at setting now) (registry_at setting done) k (a + 1)
      (λ m le. slot_old setting done c m (λ is_m. omega (arith, parts.0))) (registry_stays setting done c)) in
      let all : AreAll R now (from k (a + 1) done) × IsSettled setting (journal (now ++ from k (a + 1) done)) = subst (Handed now) same rest in
      ((levels done c turn, all.0), subst (λ ms. IsSettled setting (journal ms)) (append_assoc done (level_noted c ∷ []) (from k (a + 1) done)) all.1)

  hand : (k a : ℕ) (done : List Mark) → a + k ≡ top → NoneBelow a done → Handed done (from k a done)
  hand zero a done e none = (tt, subst (λ ms. IsSettled setting (journal ms)) (sym (append-nil done)) (owed_from zero a done e none))
  hand (suc k) a done e none =
      hand_one k a done e none (λ d none_d. hand k (a + 1) d (omega arith) none_d) (change_at (slots_at setting done) (registry_at setting done) a) refl

  pub handed_out : (done : List Mark) → Handed done (from top 0 done)
  handed_out done = hand top 0 done (omega arith) (λ m lt. absurd (omega arith))

-- all that a run hands out
pub levels_in_turn : (setting : Setting) (R : List Mark → Mark → Type 0) → ((done : List Mark) (c : LevelChange) → LevelTurn setting done c → R done (level_noted c)) → (done : List Mark) →
    AreAll R done (note_levels setting done) × IsSettled setting (journal (done ++ note_levels setting done))
unfolding changes
levels_in_turn setting R levels done = handed_out setting 1024 (λ events. refl) R levels done
