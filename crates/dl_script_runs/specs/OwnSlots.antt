-- The slot that a call loads, and the context of the registry that has the call's ids.
use Rattle.std.specs.Prelude.{◌≡◌, ℕ, true, List, ◌∷◌, ◌++◌, Option, Some, None}
use Rattle.std.specs.Option.{option_map}
use Rattle.std.specs.Str.{bytes_eq}
use Rattle.dl_bytes.specs.Claim.{Claimed}
use Rattle.dl_bytes.specs.declared.moment.Moment.{Moment}
use Rattle.dl_events.specs.declared.event.Event.{Event}
use Rattle.dl_events.specs.declared.event.Event.TheVariants.{Claim}
use Rattle.dl_events.specs.declared.record.Record.{Record}
use Rattle.dl_model.specs.declared.context.Context.{Context}
use Rattle.dl_model.specs.Along.{last_that}
use Rattle.dl_model.specs.Journal.{registry_of}
use Rattle.dl_script_model.specs.Marks.{Call, Mark, claims_of, journal}
use Rattle.dl_model.specs.Registry.{App, Registry, context_named, effective, has_place, slot_of}
use Rattle.dl_model.specs.Setting.{Setting}
use Rattle.dl_runs.specs.RunRecords.{IsSeen}
use Rattle.dl_runs.specs.WaitingClaims.{IsFilteredFirst, IsUntaken}

-- The registry has a context under both ids of a call. Its application is one of this process and has the call's number, and one of its
-- places has the call's slot.
pub record IsInOwnSlot (registry : Registry) (call : Call) : Type 0 where
  pub app : App
  pub context : Context
  pub place : ℕ
  pub named : context_named registry call.item.apid call.item.ctid ≡ Some (app, context)
  pub own : app.channel ≡ 0
  pub number : app.number ≡ call.item.app
  pub placed : has_place place context ≡ true
  pub slot : call.slot ≡ slot_of call.item.app place

-- the level that filters for the context that has both ids
abbrev pub level_named : Registry → (apid ctid : List ℕ) → Option ℕ
level_named registry apid ctid = option_map (λ found. effective registry.level found.1) (context_named registry apid ctid)

-- the claim that a writer's calls under an id go by: the last that it made of the id
abbrev pub claim_named : (writer : ℕ) (ctid : List ℕ) → List Mark → Option Claimed
claim_named writer ctid done = last_that (λ claim. bytes_eq claim.ctid ctid) (claims_of writer done)

-- the daemon took the claim: its Claim event is among these
pub record IsTaken (claim : Claimed) (events : List Event) : Type 0 where
  pub before : List Event
  pub moment : Moment
  pub after : List Event
  pub place : events ≡ before ++ Claim claim moment ∷ after

-- a call goes by what lines declare: its writer claimed no place for its id
abbrev pub GoesByLines : Call → List Mark → Type 0
GoesByLines call before = claim_named call.item.writer call.item.ctid before ≡ None

-- A call goes by this claim of its writer, which the daemon took.
pub record GoesByClaim (call : Call) (claim : Claimed) (before : List Mark) : Type 0 where
  pub named : claim_named call.item.writer call.item.ctid before ≡ Some claim
  pub taken : IsTaken claim (journal before)

-- a call that loads a slot behind these marks loads one of the context that has its ids then
abbrev pub LoadsOwnSlot : Setting → List Mark → Call → Type 0
LoadsOwnSlot setting before call = IsInOwnSlot (registry_of setting (journal before)) call

-- a recorded call of the slot of a claim is filtered by the slot's first level where the daemon had not taken that place at its load
abbrev pub IsFilteredUntilTaken : Setting → List Mark → Claimed → Record → Type 0
IsFilteredUntilTaken setting done claim r =
    (seen : IsSeen setting done r) → r.slot ≡ slot_of claim.app claim.place → IsUntaken claim.app claim.place (journal seen.loaded.before) → IsFilteredFirst setting r
