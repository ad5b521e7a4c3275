-- What a user message leaves of the registry, and which claims may come.
use Rattle.std.specs.Prelude.{ℕ, Result, IsSome}
use Rattle.std.specs.Option.{option_and_then}
use Rattle.dl_bytes.specs.Claim.{Claimed}
use Rattle.dl_bytes.specs.declared.user.UserMsg.{UserMsg}
use Rattle.dl_model.specs.declared.registry.RegistryFault.{RegistryFault}
use Rattle.dl_model.specs.Registry.{Registry, apid_numbered, app_of, applied}
use Rattle.dl_registry.specs.Kept.{Applies, Kept, slots}
use Rattle.dl_core.specs.State.{Core}

-- what a message of a channel that comes now leaves, or why it is refused
abbrev pub applied_now : Core → ℕ → UserMsg → Result Registry RegistryFault
applied_now core channel msg = applied (slots core.registry) core.registry.registry channel msg

-- it was handed to the registry of a core, which is now as the message leaves it
abbrev pub Registers : ℕ → UserMsg → Core → Kept → Type 0
Registers channel msg old registry = Applies (applied_now old channel msg) old.registry (applied_now old channel msg) registry

-- the application of a claim is there, as one of this process
abbrev pub HasAppOf : Claimed → Kept → Type 0
HasAppOf claim kept = IsSome (option_and_then (app_of kept.registry 0) (apid_numbered kept.registry claim.app))
