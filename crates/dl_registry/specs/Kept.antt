-- What contracts see of the registry, and what its calls leave.
use Rattle.std.specs.Prelude.{ℕ, ◌≡◌, ◌==◌, true, false, List, [], length, replicate, Option, Some, None, unwrap_or, Result, Ok, Err, IsOk}
use Rattle.std.specs.Option.{option_and_then, option_map}
use Rattle.std.specs.List.{find}
use Rattle.std.specs.Map.{values_of}
use Rattle.dl_bytes.specs.Claim.{Claimed}
use Rattle.dl_bytes.specs.Limits.{last_version}
use Rattle.dl_bytes.specs.declared.conf.Stored.{Stored}
use Rattle.dl_events.specs.declared.event.Event.{Event}
use Rattle.dl_model.specs.declared.registry.LevelChange.{LevelChange}
use Rattle.dl_model.specs.declared.registry.RegistryFault.{RegistryFault}
use Rattle.dl_model.specs.declared.registry.RegistryFault.TheVariants as fault
use Rattle.dl_model.specs.declared.registry.SetFault.{SetFault}
use Rattle.dl_model.specs.declared.registry.Slot.{Slot}
use Rattle.dl_model.specs.Journal.{registry_of, slots_of}
use Rattle.dl_model.specs.Registry.{App, Registry, IsInOrder, app_of, claimed, context_claimed, context_of, is_free, level_at, context_named, context_at, slot_of, next_change}
use Rattle.dl_model.specs.Setting.{Setting}
use Rattle.dl_registry.specs.Table.{Table, held_at, held_after, wanted_at, unset, IsFresh}

-- The registry, the first version of all slots, and what each of the 1024 slots holds.
pub record Kept : Type 0 where
  pub registry : Registry
  pub first : ℕ
  pub held : List Slot

-- what each slot holds
abbrev pub slots : Kept → ℕ → Slot
slots kept slot = held_at kept.first kept.held slot

abbrev pub with_registry : Kept → Registry → Kept
with_registry kept registry = record kept { registry = registry }

-- at the beginning: the stored default level or else this one, nobody there, and each slot at its first version
abbrev pub made : ℕ → Stored → ℕ → Kept
made level stored first = record {
  registry = record { level = unwrap_or stored.level level; stored = stored.own; apps = [] };
  first = first;
  held = replicate 1024 (unset first);
}

-- the next change of level that is owed
unfoldable pub owed_change : Kept → Option LevelChange
owed_change kept = next_change (slots kept) kept.registry

-- with that change made: its slot holds the level, at its next version
abbrev pub with_change : Kept → Option LevelChange → Kept
with_change kept None = kept
with_change kept (Some change) = record kept { held = held_after kept.first kept.held change }

-- the slot of the context that has both ids
abbrev pub slot_named : Registry → List ℕ → List ℕ → Option ℕ
slot_named registry apid ctid = option_map (λ named. slot_of named.0.number named.1.place) (context_named registry apid ctid)

-- the channel of the application that has this number
abbrev pub channel_at : Registry → ℕ → Option ℕ
channel_at registry number = option_map (λ app. app.channel) (find (λ app. app.number == number) (values_of registry.apps))

-- the application of a channel that came first, of those that are there
abbrev pub first_app : Registry → ℕ → Option (List ℕ)
first_app registry channel = option_map (λ entry. entry.0) (find (λ entry. entry.1.channel == channel) registry.apps)

-- where the context that has a slot stands in its application's own table
abbrev pub position_at : Registry → ℕ → Option ℕ
position_at registry slot = option_map (λ context. context.position) (context_at registry slot)

-- ---- what a call leaves

-- A user message leaves what the definition says, or is refused for the definition's cause and changes nothing. Where memory
-- was wanting, the definition does not refuse it, and nothing is changed either.
abbrev pub Applies : {A : Type 0} → Result Registry RegistryFault → Kept → Result A RegistryFault → Kept → Type 0
Applies outcome old (Ok done) new = (outcome ≡ Ok new.registry) × (new ≡ with_registry old new.registry)
Applies outcome old (Err fault.OutOfMemory) new = IsOk outcome × (new ≡ old)
Applies outcome old (Err refusal) new = (outcome ≡ Err refusal) × (new ≡ old)

-- The same of levels that are set, for which no memory is taken.
abbrev pub Sets : {A : Type 0} → Result Registry SetFault → Kept → Result A SetFault → Kept → Type 0
Sets outcome old (Ok done) new = (outcome ≡ Ok new.registry) × (new ≡ with_registry old new.registry)
Sets outcome old (Err refusal) new = (outcome ≡ Err refusal) × (new ≡ old)

-- A claim leaves what the definition says; one that changes nothing leaves all as it is.
abbrev pub Claims : Claimed → Kept → Kept → Type 0
Claims claim old new = new ≡ with_registry old (unwrap_or (claimed (slots old) old.registry claim) old.registry)

-- the same where its application is the one of this process that has the id
abbrev pub ClaimsIn : List ℕ → Claimed → Kept → Kept → Type 0
ClaimsIn apid claim old new =
    new ≡ with_registry old (unwrap_or (option_and_then (context_claimed (slots old) old.registry apid claim) (app_of old.registry 0 apid)) old.registry)

-- A claim changes something: its application is there, its place is free, and its slot is not at the last version. A context that is
-- there has this own level.
pub record CanClaim (kept : Kept) (apid : List ℕ) (number : ℕ) (claim : Claimed) (own : Option (Option ℕ)) : Type 0 where
  pub app : App
  pub there : app_of kept.registry 0 apid ≡ Some app
  pub number_is : app.number ≡ number
  pub free : is_free claim.place app.contexts ≡ true
  pub fresh : ((slots kept (slot_of app.number claim.place)).version == last_version) ≡ false
  pub own_is : option_map (λ context. context.own) (context_of app claim.ctid) ≡ own

-- ---- what always holds

-- The table has the effective level of each context at its slot, and none at the other slots; no slot waits that is at its
-- last version.
pub record Fits (registry : Registry) (table : Table) : Type 0 where
  pub order : IsInOrder registry
  pub levels : (slot : ℕ) → wanted_at table slot ≡ level_at registry slot
  pub fresh : IsFresh table

abbrev pub kept_of : Registry → Table → Kept
kept_of registry table = record { registry = registry; first = table.first; held = table.held }

-- ---- against a journal

-- what is kept is what a journal leaves: its registry, and what each of its slots holds
pub record IsAfter (setting : Setting) (events : List Event) (kept : Kept) : Type 0 where
  pub registry : kept.registry ≡ registry_of setting events
  pub slots : slots kept ≡ slots_of setting events
  pub all : length kept.held ≡ 1024
