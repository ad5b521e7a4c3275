-- A setting and a registry of the examples on registries.
use Rattle.std.specs.Prelude.{ℕ, List, [], ◌∷◌, codes, negsuc, Some, None}
use Rattle.dl_bytes.specs.declared.conf.StoredLevel.{StoredLevel}
use Rattle.dl_bytes.specs.declared.moment.Moment.{Moment}
use Rattle.dl_bytes.specs.declared.user.UserMsg.TheVariants.{RegisterContext}
use Rattle.dl_events.specs.declared.event.Event.{Event}
use Rattle.dl_events.specs.declared.event.Event.TheVariants.{User}
use Rattle.dl_model.specs.declared.context.Context.{Context}
use Rattle.dl_model.specs.Registry.{Registry}
use Rattle.dl_model.specs.RegistryExamples.{defaults, hex, id, query}
use Rattle.dl_model.specs.Setting.{Setting}

-- a stored level of the context TEST
abbrev pub stored_as : ℕ → StoredLevel
stored_as level = record { apid = id (codes "LOG1"); ctid = id (codes "TEST"); level = level }

-- the context TEST of LOG1 registers, and asks for info, with this text
abbrev pub comes_with_text : Moment → List ℕ → Event
comes_with_text at text = User 0 (RegisterContext (id (codes "LOG1")) (id (codes "TEST")) 0 (Some 4) (negsuc 0) 0 text) at

-- GetLogInfo of all, with texts
abbrev pub info_with_texts : List ℕ
info_with_texts = query (hex (codes "03 00 00 00 07 00 00 00 00 00 00 00 00 00 00 00 00"))

-- for one context two levels were stored
abbrev pub twice_stored : Setting
twice_stored = record defaults { stored = record { level = None; own = stored_as 2 ∷ stored_as 5 ∷ [] } }

-- a context that follows the default level
abbrev pub at_place : ℕ → Context
at_place place = record { place = place; further = []; own = None; position = 0; text = [] }

-- the last application, with a context in its forty-first place and one in its last
abbrev pub last_slots : Registry
last_slots = record {
  level = 4;
  stored = [];
  apps = (id (codes "LOG1"), record { channel = 0; number = 15; pid = 0; text = []; contexts = (id (codes "TEST"), at_place 40) ∷ (id (codes "FULL"), at_place 63) ∷ [] }) ∷ [];
}
