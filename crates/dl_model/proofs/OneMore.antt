-- A journal with one event more.
use Rattle.std.proofs.Common.{◌≡◌, ℕ, ◌+◌, List, [], ◌∷◌, ◌++◌, length, Option, Some, None, refl, sym, ap, ◌∙◌, append_assoc, append-nil, length-append, unwrap_or, cond, eq-eqb, arith}
use Rattle.std.specs.List.{filter_map, last_or}
use Rattle.std.proofs.lemmas.List.Elements.{filter_map-append}
use Rattle.dl_events.specs.declared.event.Event.{Event}
use Rattle.dl_events.specs.declared.event.Event.TheVariants.{Level}
use Rattle.dl_model.specs.Along.{along_from}
use Rattle.dl_model.specs.History.{level_for, history, slot_after}
use Rattle.dl_model.specs.Journal.{start, step, after, registry_of, slots_of, accepted_at, accepted}
use Rattle.dl_model.specs.Registry.{Registry}
use Rattle.dl_model.specs.Setting.{Setting}

pub after-one : (s : Setting) (before : List Event) (r : Registry) (xs : List Event) (e : Event) → after s before r (xs ++ e ∷ []) ≡ step s (slot_after s.first (before ++ xs)) (after s before r xs) e
after-one s before r [] e = ap (λ (b : List Event). step s (slot_after s.first b) r e) (sym (append-nil before))
after-one s before r (x ∷ xs) e =
    after-one s (before ++ x ∷ []) (step s (slot_after s.first before) r x) xs e
    ∙ ap (λ (b : List Event). step s (slot_after s.first b) (after s (before ++ x ∷ []) (step s (slot_after s.first before) r x) xs) e) (append_assoc before (x ∷ []) xs)

pub registry-one : (s : Setting) (events : List Event) (e : Event) → registry_of s (events ++ e ∷ []) ≡ step s (slots_of s events) (registry_of s events) e
registry-one s events e = after-one s [] (start s) events e

-- what is read along, with one entry more
along_from-one : {E A : Type 0} (f : List E → E → List A) (before xs : List E) (x : E) → along_from f before (xs ++ x ∷ []) ≡ along_from f before xs ++ f (before ++ xs) x
along_from-one f before [] x = append-nil (f before x) ∙ ap (λ b. f b x) (sym (append-nil before))
along_from-one f before (y ∷ ys) x =
    ap (λ t. f before y ++ t) (along_from-one f (before ++ y ∷ []) ys x ∙ ap (λ b. along_from f (before ++ y ∷ []) ys ++ f b x) (append_assoc before (y ∷ []) ys))
    ∙ sym (append_assoc (f before y) (along_from f (before ++ y ∷ []) ys) (f (before ++ y ∷ ys) x))

pub accepted-one : (s : Setting) (events : List Event) (e : Event) → accepted s (events ++ e ∷ []) ≡ accepted s events ++ accepted_at s events e
accepted-one s events e = along_from-one (accepted_at s) [] events e

-- ---- levels

-- the level that an event gives a slot, as a list
abbrev pub given : Option ℕ → List ℕ
given None = []
given (Some level) = level ∷ []

levels-one : (slot : ℕ) (e : Event) → filter_map (level_for slot) (e ∷ []) ≡ given (level_for slot e)
levels-one slot e = by (level_for slot e) refl where
  by : (o : Option ℕ) → level_for slot e ≡ o → filter_map (level_for slot) (e ∷ []) ≡ given (level_for slot e)
  by None is = simp is
  by (Some level) is = simp is

pub history-one : (events : List Event) (slot : ℕ) (e : Event) → history (events ++ e ∷ []) slot ≡ history events slot ++ given (level_for slot e)
history-one events slot e =
    ap (λ ls. 0 ∷ ls) (filter_map-append (level_for slot) events (e ∷ []) ∙ ap (λ t. filter_map (level_for slot) events ++ t) (levels-one slot e))

last_or-push : (o : Option ℕ) (xs : List ℕ) (x : ℕ) → last_or o (xs ++ x ∷ []) ≡ Some x
last_or-push o [] x = refl
last_or-push o (y ∷ ys) x = last_or-push (Some y) ys x

pub slot-one : (first : ℕ) (events : List Event) (slot : ℕ) (e : Event) (level : ℕ) → level_for slot e ≡ Some level
    → slot_after first (events ++ e ∷ []) slot ≡ record { version = (slot_after first events slot).version + 1; level = level }
slot-one first events slot e level is =
    let more : filter_map (level_for slot) (events ++ e ∷ []) ≡ filter_map (level_for slot) events ++ level ∷ [] =
    filter_map-append (level_for slot) events (e ∷ []) ∙ ap (λ t. filter_map (level_for slot) events ++ t) (levels-one slot e ∙ ap given is) in
    let count : first + length (filter_map (level_for slot) (events ++ e ∷ [])) ≡ first + length (filter_map (level_for slot) events) + 1 =
    omega (arith, ap length more, length-append (filter_map (level_for slot) events) (level ∷ [])) in
    let last : unwrap_or (last_or None (history (events ++ e ∷ []) slot)) 0 ≡ level =
    ap (λ ls. unwrap_or (last_or None (0 ∷ ls)) 0) more ∙ ap (λ o. unwrap_or o 0) (last_or-push (Some 0) (filter_map (level_for slot) events) level) in
    λ i. record { version = count i; level = last i }

pub slot-other : (first : ℕ) (events : List Event) (slot : ℕ) (e : Event) → level_for slot e ≡ None
    → slot_after first (events ++ e ∷ []) slot ≡ slot_after first events slot
slot-other first events slot e is =
    let same : filter_map (level_for slot) (events ++ e ∷ []) ≡ filter_map (level_for slot) events =
    filter_map-append (level_for slot) events (e ∷ []) ∙ ap (λ t. filter_map (level_for slot) events ++ t) (levels-one slot e ∙ ap given is)
    ∙ append-nil (filter_map (level_for slot) events) in
    λ i. record { version = first + length (same i); level = unwrap_or (last_or None (0 ∷ same i)) 0 }

-- a Level event gives its own slot its level
pub level_for-own : (slot level : ℕ) → level_for slot (Level slot level) ≡ Some level
level_for-own slot level = ap (λ b. cond b (Some level) None) (eq-eqb slot slot refl)
