-- Events that are no requests: the queues of injections took and refused nothing of them.
use Rattle.std.proofs.Common.{◌≡◌, ◌+◌, ◌<◌, ◌≤◌, ℕ, List, [], ◌∷◌, ◌++◌, length, refl, ap, sym, subst, ◌∙◌, arith, rules}
use Rattle.std.specs.List.{AllByRecursion}
use Rattle.dl_events.specs.declared.event.Event.{Event}
use Rattle.dl_events.specs.declared.event.Event.TheVariants as event
use Rattle.dl_bytes.specs.declared.item.Injection.{Injection}
use Rattle.dl_model.specs.Setting.{Setting}
use Rattle.dl_desk.specs.Told.{ControlTold}
use Rattle.dl_turns.specs.Injected.{AreRefusedFull, HasInjected, injected_at, injected_by, refused_at, refused_by}

-- an event is no request
abbrev pub AsksNothing : Event → Type 0
AsksNothing (event.Request client frame answer) = ⊥
AsksNothing other = Unit {0}

-- events that inject nothing
record InjectNothing (setting : Setting) (app : ℕ) (past events : List Event) : Type 0 where
  injected : injected_by setting app past events ≡ []
  refused : refused_by setting app past events ≡ []
  full : (count : ℕ) → AreRefusedFull setting app count past events

pub still : (n : ℕ) → n ≡ n + 0
still n = omega arith

none_of : (A : Type 0) → 0 < 0 → A
none_of A less = absurd (omega (arith, less))

-- one event that injects nothing, with those behind it
one_none : (setting : Setting) (app : ℕ) (past events : List Event) (e : Event) → injected_at setting app past e ≡ [] → refused_at setting app past e ≡ []
    → InjectNothing setting app (past ++ e ∷ []) events → InjectNothing setting app past (e ∷ events)
one_none setting app past events e injected refused rest = record {
  injected = ap (λ is. is ++ injected_by setting app (past ++ e ∷ []) events) injected ∙ rest.injected;
  refused = ap (λ is. is ++ refused_by setting app (past ++ e ∷ []) events) refused ∙ rest.refused;
  full = λ count. (
    (λ some. none_of (16 ≤ count) (subst (λ (is : List Injection). 0 < length is) refused some)),
    subst (λ n. AreRefusedFull setting app n (past ++ e ∷ []) events) (still count ∙ sym (ap (λ (is : List Injection). count + length is) injected)) (rest.full count),
  );
}

none_injected : (setting : Setting) (app : ℕ) (past events : List Event) → AllByRecursion AsksNothing events → InjectNothing setting app past events
none_injected setting app past [] none = record { injected = refl; refused = refl; full = λ count. tt }
none_injected setting app past (e ∷ events) none = one_none setting app past events e (by_event e none.0).0 (by_event e none.0).1 (none_injected setting app (past ++ e ∷ []) events none.1) where
  by_event : (e : Event) → AsksNothing e → (injected_at setting app past e ≡ []) × (refused_at setting app past e ≡ [])
  by_event (event.Log app writer call moment) none = (refl, refl)
  by_event (event.Claim claim moment) none = (refl, refl)
  by_event (event.Lost app count moment) none = (refl, refl)
  by_event (event.User channel msg moment) none = (refl, refl)
  by_event (event.Level slot level) none = (refl, refl)
  by_event (event.Connect client) none = (refl, refl)
  by_event (event.Request client frame answer) none = absurd none
  by_event (event.Close client why) none = (refl, refl)

-- the queues tell the same before and after them
pub posted_none : (setting : Setting) (past events : List Event) (app : ℕ) (old new : ControlTold) → AllByRecursion AsksNothing events
    → new.pushed app ≡ old.pushed app → new.refusals app ≡ old.refusals app → HasInjected setting past events app old new
posted_none setting past events app old new taken pushed refusals =
    let none = none_injected setting app past events taken in record {
      took = pushed ∙ sym (ap (λ is. old.pushed app ++ is) none.injected ∙ search rules);
      refused = refusals ∙ still (old.refusals app) ∙ sym (ap (λ is. old.refusals app + length is) none.refused);
      full = none.full (length (old.pushed app));
    }
