-- Stays and own levels by accepted messages: who came and went, and what gave a level, in the journal's own words.
use Rattle.std.specs.Prelude.{ℕ, Bool, false, ◌&&◌, ◌||◌, ◌==◌, List, [], ◌∷◌, if◌then◌else◌, Option, Some, None, Result, Ok}
use Rattle.std.specs.List.{flat_map, list_any, after_last}
use Rattle.std.specs.Map.{lookup}
use Rattle.std.specs.Option.{option_and_then, option_map, option_map_or, option_or, is_some, is_none}
use Rattle.std.specs.Result.{is_ok, result_ok}
use Rattle.std.specs.Str.{bytes_eq}
use Rattle.dl_bytes.specs.Id.{zero_id}
use Rattle.dl_bytes.specs.Level.{own_level_of}
use Rattle.dl_bytes.specs.declared.outcome.Done.{Done}
use Rattle.dl_bytes.specs.declared.outcome.Done.TheVariants as done
use Rattle.dl_bytes.specs.declared.user.UserMsg.{UserMsg}
use Rattle.dl_bytes.specs.declared.user.UserMsg.TheVariants.{RegisterApp, UnregisterApp, RegisterContext, UnregisterContext}
use Rattle.dl_control.specs.declared.request.Request.{Request}
use Rattle.dl_control.specs.declared.request.Request.TheVariants.{SetLogLevel, SetAllLogLevel, Reset}
use Rattle.dl_control.specs.declared.request.RequestFault.{RequestFault}
use Rattle.dl_events.specs.declared.event.Event.{Event}
use Rattle.dl_events.specs.declared.event.Event.TheVariants as event
use Rattle.dl_model.specs.declared.registry.Slot.{Slot}
use Rattle.dl_model.specs.Along.{along}
use Rattle.dl_model.specs.Journal.{Told, registry_of, slots_of}
use Rattle.dl_model.specs.Registry.{Registry, app_of, context_of, stored_level, applied, registrations, matches, own_set}
use Rattle.dl_model.specs.Reply.{asked, reset_requested}
use Rattle.dl_model.specs.Setting.{Setting}

abbrev pub names_app : List ℕ → UserMsg → Bool
names_app apid (RegisterApp other pid text) = bytes_eq other apid
names_app apid _ = false

abbrev pub drops_app : List ℕ → UserMsg → Bool
drops_app apid (UnregisterApp other pid) = bytes_eq other apid
drops_app apid _ = false

abbrev pub names_context : List ℕ → List ℕ → UserMsg → Bool
names_context apid ctid (RegisterContext app context position level trace pid text) = bytes_eq app apid && bytes_eq context ctid
names_context apid ctid _ = false

abbrev pub drops_context : List ℕ → List ℕ → UserMsg → Bool
drops_context apid ctid (UnregisterContext app context pid) = bytes_eq app apid && bytes_eq context ctid
drops_context apid ctid _ = false

-- a message of this channel registers the application, or unregisters it
abbrev pub registers : ℕ → List ℕ → Told → Bool
registers channel apid told = (told.channel == channel) && names_app apid told.msg

abbrev pub unregisters : ℕ → List ℕ → Told → Bool
unregisters channel apid told = (told.channel == channel) && drops_app apid told.msg

-- the same of a context, whose stay its application's leaving ends too
abbrev pub registers_context : ℕ → List ℕ → List ℕ → Told → Bool
registers_context channel apid ctid told = (told.channel == channel) && names_context apid ctid told.msg

abbrev pub ends_context : ℕ → List ℕ → List ℕ → Told → Bool
ends_context channel apid ctid told = unregisters channel apid told || ((told.channel == channel) && drops_context apid ctid told.msg)

-- an application, or a context, is there after a journal
abbrev pub is_app_there : Setting → List Event → ℕ → List ℕ → Bool
is_app_there setting events channel apid = is_some (app_of (registry_of setting events) channel apid)

abbrev pub is_context_there : Setting → List Event → ℕ → List ℕ → List ℕ → Bool
is_context_there setting events channel apid ctid =
    is_some (option_and_then (λ app. context_of app ctid) (app_of (registry_of setting events) channel apid))

-- some of the messages registers it, and none after that unregisters it
abbrev pub stays : (Told → Bool) → (Told → Bool) → List Told → Bool
stays comes goes told = list_any comes (after_last goes told)

-- ---- what gives a context its own level

-- the own level of the context that has both ids, where it is there
abbrev pub own_at : Registry → List ℕ → List ℕ → Option (Option ℕ)
own_at registry apid ctid =
    option_and_then (λ app. option_map (λ context. context.own) (context_of app ctid)) (lookup (bytes_eq apid) registry.apps)

-- An accepted message that begins its stay: the level that was stored for both ids, or else the one that it asks for. A
-- message that registers it again gives none.
abbrev pub given_by_message : Registry → List ℕ → List ℕ → UserMsg → List (Option ℕ)
given_by_message registry apid ctid (RegisterContext app context position level trace pid text) =
    if names_context apid ctid (RegisterContext app context position level trace pid text) && is_none (own_at registry apid ctid)
    then option_or (stored_level registry.stored apid ctid) level ∷ []
    else []
given_by_message registry apid ctid _ = []

-- a level that was set, where both ids match
abbrev pub given_where_set : List ℕ → List ℕ → List ℕ → List ℕ → Option ℕ → Option Registry → List (Option ℕ)
given_where_set apid ctid app context own (Some registry) = if matches app apid && matches context ctid then own ∷ [] else []
given_where_set apid ctid app context own None = []

abbrev pub none_given : Option Registry → List (Option ℕ)
none_given (Some registry) = None ∷ []
none_given None = []

-- a SetLogLevel with status 0 that matches both ids gives its level, so does a SetAllLogLevel, and a Reset with status 0 takes the level away
abbrev pub given_by_request : Setting → (ℕ → Slot) → Registry → List ℕ → List ℕ → Result Request RequestFault → Done → List (Option ℕ)
given_by_request setting slots registry apid ctid (Ok (SetLogLevel app context level)) answer =
    option_map_or (λ own. given_where_set apid ctid app context own (result_ok (own_set slots registry app context own))) (own_level_of level) []
given_by_request setting slots registry apid ctid (Ok (SetAllLogLevel level)) answer =
    option_map_or (λ own. given_where_set apid ctid zero_id zero_id own (result_ok (own_set slots registry zero_id zero_id own))) (own_level_of level) []
given_by_request setting slots registry apid ctid (Ok Reset) done.Yes = none_given (reset_requested setting slots registry)
given_by_request setting slots registry apid ctid request answer = []

-- the own levels that an event gives the context, after those before it
abbrev pub given_at : Setting → List ℕ → List ℕ → List Event → Event → List (Option ℕ)
given_at setting apid ctid before (event.User channel msg moment) =
    if is_ok (applied (slots_of setting before) (registry_of setting before) channel msg)
    then given_by_message (registry_of setting before) apid ctid msg
    else []
given_at setting apid ctid before (event.Claim claim moment) =
    flat_map (given_by_message (registry_of setting before) apid ctid) (registrations (slots_of setting before) (registry_of setting before) claim)
given_at setting apid ctid before (event.Request client frame answer) =
    given_by_request setting (slots_of setting before) (registry_of setting before) apid ctid (asked frame) answer
given_at setting apid ctid before _ = []

-- all of them, in order
abbrev pub levels_given : Setting → List Event → List ℕ → List ℕ → List (Option ℕ)
levels_given setting events apid ctid = along (given_at setting apid ctid) events
