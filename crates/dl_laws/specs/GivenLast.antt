-- What gives a registry its default level, its stored levels, and an application its number and what it tells of itself.
use Rattle.std.specs.Prelude.{ℕ, ◌&&◌, List, [], ◌∷◌, if◌then◌else◌, Option, Result, Ok}
use Rattle.std.specs.Map.{lookup}
use Rattle.std.specs.Option.{option_map, is_some, is_none}
use Rattle.std.specs.Result.{is_ok}
use Rattle.std.specs.Str.{bytes_eq}
use Rattle.dl_bytes.specs.declared.conf.StoredLevel.{StoredLevel}
use Rattle.dl_bytes.specs.declared.outcome.Done.{Done}
use Rattle.dl_bytes.specs.declared.outcome.Done.TheVariants as done
use Rattle.dl_bytes.specs.declared.user.UserMsg.{UserMsg}
use Rattle.dl_bytes.specs.declared.user.UserMsg.TheVariants.{RegisterApp}
use Rattle.dl_control.specs.declared.request.Request.{Request}
use Rattle.dl_control.specs.declared.request.Request.TheVariants.{SetDefault, Reset, Store}
use Rattle.dl_control.specs.declared.request.RequestFault.{RequestFault}
use Rattle.dl_events.specs.declared.event.Event.{Event}
use Rattle.dl_events.specs.declared.event.Event.TheVariants as event
use Rattle.dl_model.specs.declared.registry.Slot.{Slot}
use Rattle.dl_model.specs.Journal.{registry_of, slots_of}
use Rattle.dl_model.specs.Registry.{Registry, applied, least_free, numbers, owns_now}
use Rattle.dl_model.specs.Reply.{asked, default_requested, reset_requested}
use Rattle.dl_model.specs.Setting.{Setting}

-- ---- what gives the default level, and the stored levels

-- a SetDefaultLogLevel with status 0 gives its level, and a Reset with status 0 that of `ContextLogLevel`
abbrev pub default_by_request : Setting → (ℕ → Slot) → Registry → Result Request RequestFault → Done → List ℕ
default_by_request setting slots registry (Ok (SetDefault level)) answer = if is_some (default_requested slots registry level) then level ∷ [] else []
default_by_request setting slots registry (Ok Reset) done.Yes = if is_some (reset_requested setting slots registry) then setting.level ∷ [] else []
default_by_request setting slots registry request answer = []

abbrev pub default_at : Setting → List Event → Event → List ℕ
default_at setting before (event.Request client frame answer) =
    default_by_request setting (slots_of setting before) (registry_of setting before) (asked frame) answer
default_at setting before _ = []

-- a Store that was done gives the own levels of then, and a Reset with status 0 none
abbrev pub stored_by_request : Setting → (ℕ → Slot) → Registry → Result Request RequestFault → Done → List (List StoredLevel)
stored_by_request setting slots registry (Ok Store) done.Yes = owns_now registry ∷ []
stored_by_request setting slots registry (Ok Reset) done.Yes = if is_some (reset_requested setting slots registry) then [] ∷ [] else []
stored_by_request setting slots registry request answer = []

abbrev pub stored_at : Setting → List Event → Event → List (List StoredLevel)
stored_at setting before (event.Request client frame answer) =
    stored_by_request setting (slots_of setting before) (registry_of setting before) (asked frame) answer
stored_at setting before _ = []

-- ---- what gives an application its number, and what it tells of itself

-- what an application tells of itself
pub record AppTold : Type 0 where
  pub pid : ℕ
  pub text : List ℕ

-- an accepted message that registers the application tells it
abbrev pub told_by_message : List ℕ → UserMsg → List AppTold
told_by_message apid (RegisterApp other pid text) = if bytes_eq other apid then record { pid = pid; text = text } ∷ [] else []
told_by_message apid _ = []

-- one that begins its stay gives it the least number that is free then
abbrev pub number_by_message : Registry → List ℕ → UserMsg → List ℕ
number_by_message registry apid (RegisterApp other pid text) =
    if bytes_eq other apid && is_none (lookup (bytes_eq apid) registry.apps) then least_free (numbers registry.apps) ∷ [] else []
number_by_message registry apid _ = []

-- where the message is accepted
abbrev pub if_accepted : {A : Type 0} → Setting → List Event → ℕ → UserMsg → List A → List A
if_accepted setting before channel msg given = if is_ok (applied (slots_of setting before) (registry_of setting before) channel msg) then given else []

abbrev pub told_at : Setting → List ℕ → List Event → Event → List AppTold
told_at setting apid before (event.User channel msg moment) = if_accepted setting before channel msg (told_by_message apid msg)
told_at setting apid before _ = []

abbrev pub number_at : Setting → List ℕ → List Event → Event → List ℕ
number_at setting apid before (event.User channel msg moment) = if_accepted setting before channel msg (number_by_message (registry_of setting before) apid msg)
number_at setting apid before _ = []

-- what the application that has this id told, and its number
abbrev pub told_of : Registry → List ℕ → Option AppTold
told_of registry apid = option_map (λ app. record { pid = app.pid; text = app.text }) (lookup (bytes_eq apid) registry.apps)

abbrev pub number_of : Registry → List ℕ → Option ℕ
number_of registry apid = option_map (λ app. app.number) (lookup (bytes_eq apid) registry.apps)
