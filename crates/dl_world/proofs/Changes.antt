-- The Level events that a journal owes, with the first of them noted.
use Rattle.std.proofs.Common.{◌≡◌, ◌≢◌, ℕ, zero, suc, ◌+◌, ◌<◌, cond, List, [], ◌∷◌, ◌++◌, Option, Some, None, refl, sym, ap, ◌∙◌, arith, inl, inr}
use Rattle.std.specs.Prelude.{slice_get}
use Rattle.std.specs.List.{filter_map, cons_option, range_with_len}
use Rattle.std.proofs.lemmas.Bool.{ne_eqb, eq-eqb}
use Rattle.std.proofs.lemmas.Bool.Decides.{eqb_tells}
use Rattle.dl_events.specs.declared.event.Event.{Event}
use Rattle.dl_events.specs.declared.event.Event.TheVariants as event
use Rattle.dl_model.specs.declared.registry.LevelChange.{LevelChange}
use Rattle.dl_model.specs.declared.registry.Slot.{Slot}
use Rattle.dl_model.specs.Setting.{Setting}
use Rattle.dl_model.specs.History.{level_for}
use Rattle.dl_model.specs.Registry.{Registry, level_at, change_at}
use Rattle.dl_model.specs.Journal.{registry_of, slots_of, owed}
use Rattle.dl_script_model.specs.Steps.{changes}
use Rattle.dl_model.proofs.OneMore.{registry-one, slot-one, slot-other}
use Rattle.dl_runs.proofs.Owed.{owed_first}
use Rattle.dl_laws.proofs.SlotChanges.{change_is, no_change, same_change}

-- ---- all slots, where one after the other is asked

module _ (f g : ℕ → Option LevelChange) (c : LevelChange) (own : (n : ℕ) (x : LevelChange) → f n ≡ Some x → x.slot ≡ n) where
  -- the first is of its own slot
  first_own : (a n : ℕ) → slice_get (filter_map f (range_with_len a n)) 0 ≡ Some c → f c.slot ≡ Some c
  first_own a zero e = absurd cc
  first_own a (suc n) e = by (f a) refl e (first_own (a + 1) n) where
    by : (o : Option LevelChange) → f a ≡ o → slice_get (cons_option o (filter_map f (range_with_len (a + 1) n))) 0 ≡ Some c
        → (slice_get (filter_map f (range_with_len (a + 1) n)) 0 ≡ Some c → f c.slot ≡ Some c) → f c.slot ≡ Some c
    by None is e later = later e
    by (Some x) is e later =
        let same : x ≡ c = cc in
        let here : c.slot ≡ a = ap (λ (y : LevelChange). y.slot) (sym same) ∙ own a x is in
        ap f here ∙ is ∙ ap Some same

  module _ (gone : g c.slot ≡ None) (others : (m : ℕ) → m ≢ c.slot → g m ≡ f m) where
    same_behind : (a n : ℕ) → c.slot < a → filter_map g (range_with_len a n) ≡ filter_map f (range_with_len a n)
    same_behind a zero above = refl
    same_behind a (suc n) above =
        let here : g a ≡ f a = others a (λ e. absurd (omega (arith, e, above))) in
        ap (λ (o : Option LevelChange). cons_option o (filter_map g (range_with_len (a + 1) n))) here ∙ ap (cons_option (f a)) (same_behind (a + 1) n (omega (arith, above)))

    none_here : (a : ℕ) → f a ≡ None → g a ≡ None
    none_here a none = elim (eqb_tells a c.slot) as (λ _. g a ≡ None) [ inl same ↦ ap g same.1 ∙ gone | inr apart ↦ others a apart.1 ∙ none ]

    first_gone : (a n : ℕ) → slice_get (filter_map f (range_with_len a n)) 0 ≡ Some c → filter_map f (range_with_len a n) ≡ c ∷ filter_map g (range_with_len a n)
    first_gone a zero e = absurd cc
    first_gone a (suc n) e = by (f a) refl e (first_gone (a + 1) n) where
      by : (o : Option LevelChange) → f a ≡ o → slice_get (cons_option o (filter_map f (range_with_len (a + 1) n))) 0 ≡ Some c
          → (slice_get (filter_map f (range_with_len (a + 1) n)) 0 ≡ Some c → filter_map f (range_with_len (a + 1) n) ≡ c ∷ filter_map g (range_with_len (a + 1) n))
          → cons_option o (filter_map f (range_with_len (a + 1) n)) ≡ c ∷ cons_option (g a) (filter_map g (range_with_len (a + 1) n))
      by None is e later = later e ∙ ap (λ (o : Option LevelChange). c ∷ cons_option o (filter_map g (range_with_len (a + 1) n))) (sym (none_here a is))
      by (Some x) is e later =
          let same : x ≡ c = cc in
          let here : c.slot ≡ a = ap (λ (y : LevelChange). y.slot) (sym same) ∙ own a x is in
          let none : g a ≡ None = ap g (sym here) ∙ gone in
          ap (λ (y : LevelChange). y ∷ filter_map f (range_with_len (a + 1) n)) same
          ∙ ap (λ (ys : List LevelChange). c ∷ ys) (sym (same_behind (a + 1) n (omega (arith, here))))
          ∙ ap (λ (o : Option LevelChange). c ∷ cons_option o (filter_map g (range_with_len (a + 1) n))) (sym none)

-- ---- one Level event

-- with the first change noted the others are owed
pub changes-rest : (setting : Setting) (events : List Event) (c : LevelChange) → owed setting events ≡ Some c
    → changes setting events ≡ c ∷ changes setting (events ++ event.Level c.slot c.level ∷ [])
unfolding changes
changes-rest setting events c owes = first_gone f g c own gone others 0 1024 first where
  after : List Event
  after = events ++ event.Level c.slot c.level ∷ []

  f : ℕ → Option LevelChange
  f = change_at (slots_of setting events) (registry_of setting events)

  g : ℕ → Option LevelChange
  g = change_at (slots_of setting after) (registry_of setting after)

  own : (n : ℕ) (x : LevelChange) → f n ≡ Some x → x.slot ≡ n
  own n x is = (change_is (slots_of setting events) (registry_of setting events) n x is).0

  first : slice_get (filter_map f (range_with_len 0 1024)) 0 ≡ Some c
  first = sym (owed_first setting events) ∙ owes

  registry_stays : registry_of setting after ≡ registry_of setting events
  registry_stays = registry-one setting events (event.Level c.slot c.level)

  gone : g c.slot ≡ None
  gone =
      let at = first_own f g c own 0 1024 first in
      let level = (change_is (slots_of setting events) (registry_of setting events) c.slot c at).1 in
      let own_level : level_for c.slot (event.Level c.slot c.level) ≡ Some c.level = ap (λ b. cond b (Some c.level) None) (eq-eqb c.slot c.slot refl) in
      no_change (slots_of setting after) (registry_of setting after) c.slot c.level (ap (λ (r : Registry). level_at r c.slot) registry_stays ∙ level)
      (ap (λ (s : Slot). s.level) (slot-one setting.first events c.slot (event.Level c.slot c.level) c.level own_level))

  others : (m : ℕ) → m ≢ c.slot → g m ≡ f m
  others m apart =
      let other : level_for m (event.Level c.slot c.level) ≡ None = ap (λ b. cond b (Some c.level) None) (ne_eqb c.slot m (λ e. apart (sym e))) in
      same_change (slots_of setting after) (slots_of setting events) (registry_of setting after) (registry_of setting events) m
      (slot-other setting.first events m (event.Level c.slot c.level) other) registry_stays

-- where none is owed, there is none
pub changes-none : (setting : Setting) (events : List Event) → owed setting events ≡ None → changes setting events ≡ []
changes-none setting events none = by (changes setting events) (sym (owed_first setting events) ∙ none) where
  by : (cs : List LevelChange) → slice_get cs 0 ≡ None → cs ≡ []
  by [] e = refl
  by (c ∷ cs) e = absurd cc
