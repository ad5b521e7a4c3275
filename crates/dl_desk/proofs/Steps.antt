-- What a step at one application's ends leaves of all.
use Rattle.std.proofs.Common.{◌≡◌, ℕ, ◌+◌, ◌≤◌, List, [], ◌∷◌, ◌++◌, length, set, get_or, Option, Some, None, Result, Ok, Err, IfSome, IfNone, OnSome, OnOk, OnErr, ap}
use Rattle.dl_bytes.specs.declared.item.Injection.{Injection}
use Rattle.dl_ring.specs.InjectionState as injections
use Rattle.dl_ring.specs.declared.item.RingItem.{RingItem}
use Rattle.dl_ring.specs.Order.{Holds}
use Rattle.dl_ring.specs.State as ring
use Rattle.dl_desk.specs.declared.app_handles.AppHandles.{AppHandles}
use Rattle.dl_desk.specs.Handles.{HandlesState, RingHolds, joined_app, with_empty_take, with_injected, with_item, with_passes, with_refusal}
use Rattle.dl_desk.specs.Lists.{At, changed_at}
use Rattle.dl_desk.proofs.Places.{set_is_changed, at_put, at_here}

-- the ends with those of one application put
abbrev with_handles : HandlesState → ℕ → AppHandles → HandlesState
with_handles s at new = record s { apps = set s.apps at new }

module _ (s : HandlesState) (at app : ℕ) (here : AppHandles) (same : at ≡ app) (is : here ≡ get_or s.apps at here) where
  put : (f : AppHandles → AppHandles) (new : AppHandles) → new ≡ f here → with_handles s at new ≡ record s { apps = changed_at app f s.apps }
  put f new made = ap (λ (xs : List AppHandles). record s { apps = xs }) (set_is_changed s.apps at app f here new same is made)

  module _ (new : ring.TakeState) where
    new_ends : AppHandles
    new_ends = record { ring = new; queue = here.queue }

    -- a take that gives
    pub taken : (answer : Option RingItem) → IfSome answer (λ item. new ≡ record here.ring { taken = here.ring.taken ++ item ∷ [] }) → IfSome answer (λ item. with_handles s at (record { ring = new; queue = here.queue }) ≡ with_item s app item)
    taken None made = tt
    taken (Some item) made = put (λ e. record e { ring = record e.ring { taken = e.ring.taken ++ item ∷ [] } }) (record { ring = new; queue = here.queue }) (λ i. record { ring = made i; queue = here.queue })

    -- and one that finds none
    pub taken_none : (answer : Option RingItem) → IfNone answer (new ≡ record here.ring { empties = here.ring.empties + 1 }) → IfNone answer (with_handles s at (record { ring = new; queue = here.queue }) ≡ with_empty_take s app)
    taken_none (Some item) made = tt
    taken_none None made = put (λ e. record e { ring = record e.ring { empties = e.ring.empties + 1 } }) (record { ring = new; queue = here.queue }) (λ i. record { ring = made i; queue = here.queue })

    pub rest : (answer : Option RingItem) → OnSome answer ((contents : List RingItem) × Holds new contents)
        → OnSome answer ((contents : List RingItem) × RingHolds (with_handles s at (record { ring = new; queue = here.queue })) app contents)
    rest None holds = tt
    rest (Some item) holds = (holds.0, at_put (λ (e : AppHandles). Holds e.ring holds.0) s.apps at app (record { ring = new; queue = here.queue }) same holds.1)

    pub empty : (answer : Option RingItem) → IfNone answer (Holds new []) → IfNone answer (RingHolds (with_handles s at (record { ring = new; queue = here.queue })) app [])
    empty (Some item) holds = tt
    empty None holds = at_put (λ (e : AppHandles). Holds e.ring []) s.apps at app (record { ring = new; queue = here.queue }) same holds

  module _ (new : injections.PushState) where
    pub pushed : (item : Injection) (answer : Result (Unit {0}) Injection) → OnOk answer (new ≡ record here.queue { pushed = here.queue.pushed ++ item ∷ [] }) → OnOk answer (with_handles s at (record { ring = here.ring; queue = new }) ≡ with_injected s app item)
    pushed item (Err _) made = tt
    pushed item (Ok _) made = put (λ e. record e { queue = record e.queue { pushed = e.queue.pushed ++ item ∷ [] } }) (record { ring = here.ring; queue = new }) (λ i. record { ring = here.ring; queue = made i })

    pub refused : (answer : Result (Unit {0}) Injection) → OnErr answer (new ≡ record here.queue { refusals = here.queue.refusals + 1 }) → OnErr answer (with_handles s at (record { ring = here.ring; queue = new }) ≡ with_refusal s app)
    refused (Ok _) made = tt
    refused (Err _) made = put (λ e. record e { queue = record e.queue { refusals = e.queue.refusals + 1 } }) (record { ring = here.ring; queue = new }) (λ i. record { ring = here.ring; queue = made i })

  pub full : (answer : Result (Unit {0}) Injection) → OnErr answer (16 ≤ length here.queue.pushed) → OnErr answer (At s.apps app (λ e. 16 ≤ length e.queue.pushed))
  full (Ok _) many = tt
  full (Err _) many = at_here (λ (e : AppHandles). 16 ≤ length e.queue.pushed) s.apps at app here same is many

  pub passes : (push : ring.PushState) (takes : injections.TakeState) (new : AppHandles) → new ≡ joined_app push takes here → with_handles s at new ≡ with_passes s app push takes
  passes push takes new made = put (joined_app push takes) new made
