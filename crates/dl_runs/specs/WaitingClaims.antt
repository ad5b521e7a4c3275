-- Claims, and the places that they have: which wait for the daemon, and which are in the registry.
use Rattle.std.specs.Prelude.{◌≡◌, ◌≢◌, ◌<◌, ◌≤◌, ℕ, ◌==◌, true, false, List, [], ◌∷◌, ◌++◌, length, Some}
use Rattle.std.specs.List.{AllByRecursion, filter_map, list_any}
use Rattle.dl_bytes.specs.Claim.{Claimed}
use Rattle.dl_bytes.specs.Limits.{context_limit, last_version}
use Rattle.dl_bytes.specs.declared.moment.Moment.{Moment}
use Rattle.dl_events.specs.declared.event.Event.{Event}
use Rattle.dl_events.specs.declared.event.Event.TheVariants.{Claim, User}
use Rattle.dl_events.specs.declared.record.Record.{Record}
use Rattle.dl_events.specs.declared.record.Answer.TheVariants as answer
use Rattle.dl_model.specs.declared.context.Context.{Context}
use Rattle.dl_model.specs.Accounts.{claims}
use Rattle.dl_model.specs.Journal.{registry_of}
use Rattle.dl_script_model.specs.Marks.{Mark, HasContext, claim_of, contexts_of, journal, number_of}
use Rattle.dl_model.specs.Registry.{App, Registry, app_of, apid_numbered, context_of, has_place, places, slot_of}
use Rattle.dl_model.specs.Setting.{Setting}
use Rattle.dl_laws.specs.PresentClaims.{IsThere}
use Rattle.dl_runs.specs.RunRecords.{IsSeen}

-- ---- contexts come before claims

-- a context that a line declares comes before any claim of its application
abbrev pub ComesFirst : List Mark → Mark → Type 0
ComesFirst before (HasContext context) = AllByRecursion (λ claim. number_of context.apid before ≡ Some claim.app → ⊥) (filter_map claim_of before)
ComesFirst before _ = Unit {0}

-- so do all of these marks, behind those before them
abbrev pub ContextsComeFirst : List Mark → List Mark → Type 0
ContextsComeFirst before [] = Unit {0}
ContextsComeFirst before (mark ∷ marks) = ComesFirst before mark × ContextsComeFirst (before ++ mark ∷ []) marks

-- a claim stands behind the places of all contexts that lines declare of this application
abbrev pub IsBehindContexts : List ℕ → List Mark → Claimed → Type 0
IsBehindContexts apid done claim = length (contexts_of apid done) ≤ claim.place

-- ---- a place that nobody has

-- no application of this number has a context with this place
abbrev pub IsFreeIn : Registry → (app place : ℕ) → Type 0
IsFreeIn registry app place =
    AllByRecursion (λ entry. entry.1.number ≡ app → list_any (λ other. place == other) (places entry.1.contexts) ≡ false) registry.apps

-- a user message leaves the place free, where it was: it registers no context there
abbrev pub LeavesFree : Setting → (app place : ℕ) → List Event → Event → Type 0
LeavesFree setting app place before (User channel msg moment) =
    IsFreeIn (registry_of setting before) app place → IsFreeIn (registry_of setting (before ++ User channel msg moment ∷ [])) app place
LeavesFree setting app place before _ = Unit {0}

-- so do all of these events, behind those before them
abbrev pub MessagesLeaveFree : Setting → (app place : ℕ) → (before events : List Event) → Type 0
MessagesLeaveFree setting app place before [] = Unit {0}
MessagesLeaveFree setting app place before (event ∷ events) =
    LeavesFree setting app place before event × MessagesLeaveFree setting app place (before ++ event ∷ []) events

-- ---- until the daemon takes a claim

-- the daemon took no claim of this place
abbrev pub IsUntaken : (app place : ℕ) → List Event → Type 0
IsUntaken app place events = AllByRecursion (λ claim. claim.place ≡ place → ⊥) (claims app events)

-- A call comes before the daemon takes the claim of its place: up to its load no claim of the place was taken, and no message
-- registered a context there.
pub record ComesEarly (setting : Setting) (done : List Mark) (r : Record) : Type 0 where
  pub seen : IsSeen setting done r
  pub app : ℕ
  pub place : ℕ
  pub below : place < context_limit
  pub slot : r.slot ≡ slot_of app place
  pub untaken : IsUntaken app place (journal seen.loaded.before)
  pub free : MessagesLeaveFree setting app place [] (journal seen.loaded.before)

-- it was filtered by its slot's first level, which is 0
pub record IsFilteredFirst (setting : Setting) (r : Record) : Type 0 where
  pub filtered : r.answer ≡ answer.Filtered
  pub version : r.version ≡ setting.first
  pub held : r.held ≡ 0

-- ---- from then on

-- a Claim event in a journal, with the events before it and those after
pub record TakenClaim : Type 0 where
  pub before : List Event
  pub claim : Claimed
  pub moment : Moment
  pub after : List Event

-- that journal
abbrev pub events_with : TakenClaim → List Event
events_with taken = taken.before ++ Claim taken.claim taken.moment ∷ taken.after

-- the registry right after the Claim event
abbrev pub registry_with : Setting → TakenClaim → Registry
registry_with setting taken = registry_of setting (taken.before ++ Claim taken.claim taken.moment ∷ [])

-- A claim has what it needs when the daemon takes it: its application is there, its place is one that contexts may have, its slot does not
-- begin at the last version, and no message registered a context on its place.
pub record CanRegister (setting : Setting) (taken : TakenClaim) : Type 0 where
  pub there : IsThere setting taken.before (Claim taken.claim taken.moment)
  pub below : taken.claim.place < context_limit
  pub version : setting.first ≢ last_version
  pub free : MessagesLeaveFree setting taken.claim.app taken.claim.place [] taken.before

-- A claim is in the registry: the application of its number, which is one of this process, has a context of its id with its place.
pub record IsRegistered (registry : Registry) (claim : Claimed) : Type 0 where
  pub apid : List ℕ
  pub app : App
  pub context : Context
  pub numbered : apid_numbered registry claim.app ≡ Some apid
  pub there : app_of registry 0 apid ≡ Some app
  pub named : context_of app claim.ctid ≡ Some context
  pub placed : has_place claim.place context ≡ true
