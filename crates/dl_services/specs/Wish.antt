-- What a request wants done before it is served: of the folder, or of the queue of an application.
use Rattle.std.specs.Prelude.{◌≡◌, ℕ, Bool, List, Option, Some, None, Result, Ok}
use Rattle.std.specs.Option.{option_and_then, option_map}
use Rattle.dl_bytes.specs.Payload.{Arguments}
use Rattle.dl_conf.specs.Stored.{stored_text}
use Rattle.dl_control.specs.declared.request.Request.{Request}
use Rattle.dl_control.specs.declared.request.Request.TheVariants.{Store, Reset, Inject}
use Rattle.dl_control.specs.declared.request.RequestFault.{RequestFault}
use Rattle.dl_model.specs.declared.context.Context.{Context}
use Rattle.dl_model.specs.declared.registry.Slot.{Slot}
use Rattle.dl_model.specs.Registry.{App, Registry, app_of, context_of, owns_now}
use Rattle.dl_model.specs.Reply.{injected, reset_requested}
use Rattle.dl_model.specs.Setting.{Setting}
use Rattle.dl_model.specs.Reply as reply
use Rattle.dl_registry.specs.Kept.{Kept, slots}
use Rattle.dl_services.specs.declared.wish.Want.{Want}
use Rattle.dl_services.specs.declared.wish.Want.TheVariants as want

-- What requests see of the configuration: `InjectionMode`, and the level of `ContextLogLevel`.
pub record IsSetTo (injection : Bool) (level : ℕ) (setting : Setting) : Type 0 where
  pub mode_is : setting.injection ≡ injection
  pub level_is : setting.level ≡ level

-- a Store: the default level and the own levels of now go into the file
abbrev pub stores : Registry → Want
stores registry = want.Put (stored_text registry.level (owns_now registry)) (record { level = Some registry.level; own = owns_now registry })

-- a Reset: the file is removed, unless a slot that would change is worn
abbrev pub removes : Option Registry → Want
removes None = want.Nothing
removes (Some new) = want.Remove

-- an injection: its data go to the application of its context, where there is such a context
abbrev pub sends : ℕ → Arguments → Option (App × Context) → Want
sends service body None = want.Nothing
sends service body (Some target) = want.Inject target.0.number (record { place = target.1.place; service = service; body = body })

-- the context of this process that has both ids, with its application
abbrev pub target_of : Registry → List ℕ → List ℕ → Option (App × Context)
target_of registry apid ctid = option_and_then (λ app. option_map (λ context. (app, context)) (context_of app ctid)) (app_of registry 0 apid)

-- the number of its application, and its place
abbrev pub number_and_place : Option (App × Context) → Option (ℕ × ℕ)
number_and_place None = None
number_and_place (Some target) = Some (target.0.number, target.1.place)

-- what a request for these ids wants, with the registry and the slots as they are
abbrev pub wanted : Setting → (ℕ → Slot) → Registry → List ℕ → List ℕ → Result Request RequestFault → Want
wanted setting slots registry apid ctid (Ok Store) = stores registry
wanted setting slots registry apid ctid (Ok Reset) = removes (reset_requested setting slots registry)
wanted setting slots registry apid ctid (Ok (Inject service body)) = sends service body (injected setting registry apid ctid)
wanted setting slots registry apid ctid request = want.Nothing

-- this is what it wants, under each configuration with this `InjectionMode` and this level of `ContextLogLevel`
abbrev pub Wants : Bool → ℕ → Kept → List ℕ × List ℕ → Result Request RequestFault → Want → Type 0
Wants injection level kept target request want =
    (setting : Setting) → IsSetTo injection level setting → want ≡ wanted setting (slots kept) kept.registry target.0 target.1 request

-- whom that concerns: the folder, or the queue of an application
abbrev pub needed : Want → reply.Need
needed want.Nothing = reply.Nothing
needed (want.Put text stored) = reply.Folder
needed want.Remove = reply.Folder
needed (want.Inject app injection) = reply.Queue app
