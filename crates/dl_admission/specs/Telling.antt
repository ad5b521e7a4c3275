-- What the events of an admission tell of calls and of losses.
use Rattle.std.specs.Prelude.{◌≡◌, ◌≢◌, ℕ, List, []}
use Rattle.std.specs.List.{AllByRecursion}
use Rattle.dl_events.specs.declared.event.Event.{Event}
use Rattle.dl_events.specs.declared.event.Event.TheVariants as event
use Rattle.dl_model.specs.Accounts.{order}
use Rattle.dl_model.specs.Report.{reported}

-- a log call, a report of lost calls, or a Close; no level, no request, no client that comes, and no user message
abbrev pub IsTaken : Event → Type 0
IsTaken (event.Log app writer call moment) = Unit {0}
IsTaken (event.Lost app count moment) = Unit {0}
IsTaken (event.Close client cause) = Unit {0}
IsTaken other = ⊥

-- Events tell of an application these calls, in this order, and so many lost ones; of no other application they tell any.
pub record TellOf (app : ℕ) (calls : List (ℕ × ℕ)) (lost : ℕ) (events : List Event) : Type 0 where
  pub admitted : order app events ≡ calls
  pub losses : reported app events ≡ lost
  pub no_other_calls : (other : ℕ) → other ≢ app → order other events ≡ []
  pub no_other_losses : (other : ℕ) → other ≢ app → reported other events ≡ 0
  pub kinds : AllByRecursion IsTaken events
