-- What a request makes of the registry, and what the daemon replies.
use Rattle.std.specs.Prelude.{◌≡◌, ◌≢◌, ℕ, ℤ, ◌+◌, Bool, ◌||◌, not, ◌==◌, nat_le, nat_lt, List, [], ◌∷◌, ◌++◌, length, take, drop, codes, if◌then◌else◌, Option, Some, None, is_some, unwrap_or, Result, Ok, Err}
use Rattle.std.specs.List.{filter, flat_map}
use Rattle.std.specs.Option.{option_and_then, option_map, option_map_or}
use Rattle.std.specs.Result.{result_ok}
use Rattle.byteorder.specs.Endian.{little_bytes}
use Rattle.dl_bytes.specs.Htyp.{htyp_of, has_big_numbers, standard_len, header_len}
use Rattle.dl_bytes.specs.Id.{zero_id}
use Rattle.dl_bytes.specs.Level.{own_level_of}
use Rattle.dl_bytes.specs.declared.cursor.Order.{Order}
use Rattle.dl_bytes.specs.declared.cursor.Order.TheVariants.{Little, Big}
use Rattle.dl_bytes.specs.declared.outcome.Done.{Done}
use Rattle.dl_bytes.specs.declared.outcome.Done.TheVariants as done
use Rattle.dl_control.specs.Reading.{request_in}
use Rattle.dl_control.specs.Reply.{control_reply}
use Rattle.dl_control.specs.declared.reply.Reply.{Reply}
use Rattle.dl_control.specs.declared.request.Request.{Request}
use Rattle.dl_control.specs.declared.request.Request.TheVariants.{SetLogLevel, GetLogInfo, GetDefault, Store, Reset, SetDefault, Version, SetAllLogLevel, Inject, Other}
use Rattle.dl_control.specs.declared.request.RequestFault.{RequestFault}
use Rattle.dl_control.specs.declared.request.RequestFault.TheVariants.{Short, Excess}
use Rattle.dl_model.specs.declared.context.Context.{Context}
use Rattle.dl_model.specs.declared.registry.Slot.{Slot}
use Rattle.dl_model.specs.Registry.{App, Registry, app_of, context_of, own_set, default_set, reset, owns_now, named_contexts, named_in}
use Rattle.dl_model.specs.Setting.{Setting}
use Rattle.dl_model.specs.declared.software.Software.{Software}
use Rattle.dl_model.specs.declared.software.Software.TheVariants as software

-- ---- what a control message asks

-- the byte order of a payload's numbers, by the bit MSBF
abbrev pub order_of : ℕ → Order
order_of htyp = if has_big_numbers htyp then Big else Little

-- the request that a message's payload is, or the fault that it has
abbrev pub asked : List ℕ → Result Request RequestFault
asked frame = request_in (order_of (htyp_of frame)) (drop (header_len (htyp_of frame)) frame)

-- APID and CTID of a message's extended header
abbrev pub apid_of : List ℕ → List ℕ
apid_of frame = take 4 (drop (standard_len (htyp_of frame) + 2) frame)

abbrev pub ctid_of : List ℕ → List ℕ
ctid_of frame = take 4 (drop (standard_len (htyp_of frame) + 6) frame)

-- ---- what a request makes of the registry: nothing comes out where it is refused

-- SetLogLevel, and SetAllLogLevel with both ids zero: the level is -1 to 6, a context matches, and no slot that would change is worn
abbrev pub own_requested : (ℕ → Slot) → Registry → List ℕ → List ℕ → ℤ → Option Registry
own_requested slots registry apid ctid level =
    option_and_then (λ own. result_ok (own_set slots registry apid ctid own)) (own_level_of level)

-- SetDefaultLogLevel: the level is 0 to 6, and no slot that would change is worn
abbrev pub default_requested : (ℕ → Slot) → Registry → ℕ → Option Registry
default_requested slots registry level = if nat_le level 6 then result_ok (default_set slots registry level) else None

-- ResetToFactoryDefault, to the level of `ContextLogLevel`: no slot that would change is worn
abbrev pub reset_requested : Setting → (ℕ → Slot) → Registry → Option Registry
reset_requested setting slots registry = result_ok (reset slots registry setting.level)

-- The context that an injection is for: one of an application of this process, where injections are let through. An id
-- of zero bytes names none.
abbrev pub injected : Setting → Registry → List ℕ → List ℕ → Option (App × Context)
injected setting registry apid ctid =
    if setting.injection
    then option_and_then (λ app. option_map (λ context. (app, context)) (context_of app ctid)) (app_of registry 0 apid)
    else None

-- the own levels of now, stored
abbrev pub now_stored : Registry → Registry
now_stored registry = record registry { stored = owns_now registry }

-- where what the request needed of the folder was done
abbrev pub where_done : Done → Registry → Registry → Registry
where_done done.Yes new old = new
where_done _ new old = old

-- the registry after a request, by what the folder or the application's queue answered
abbrev pub served : Setting → (ℕ → Slot) → Registry → Result Request RequestFault → Done → Registry
served setting slots registry (Ok (SetLogLevel apid ctid level)) answer =
    unwrap_or (own_requested slots registry apid ctid level) registry
served setting slots registry (Ok (SetAllLogLevel level)) answer =
    unwrap_or (own_requested slots registry zero_id zero_id level) registry
served setting slots registry (Ok (SetDefault level)) answer = unwrap_or (default_requested slots registry level) registry
served setting slots registry (Ok Store) answer = where_done answer (now_stored registry) registry
served setting slots registry (Ok Reset) answer =
    where_done answer (unwrap_or (reset_requested setting slots registry) registry) registry
served setting slots registry request answer = registry

-- ---- what a request needs of others, before it is served

pub data Need : Type 0 where
  Nothing : Need
  Folder : Need
  Queue : ℕ → Need

-- a Store the folder, a Reset too unless a slot is worn, and an injection the queue of its application
abbrev pub need_of : Setting → (ℕ → Slot) → Registry → List ℕ → List ℕ → Result Request RequestFault → Need
need_of setting slots registry apid ctid (Ok Store) = Folder
need_of setting slots registry apid ctid (Ok Reset) = if is_some (reset_requested setting slots registry) then Folder else Nothing
need_of setting slots registry apid ctid (Ok (Inject service body)) =
    option_map_or (λ target. Queue target.0.number) (injected setting registry apid ctid) Nothing
need_of setting slots registry apid ctid request = Nothing

-- who needs nobody is done; a queue takes what it is given or is full; a folder may fail, and may want memory
abbrev pub MayAnswer : Need → Done → Type 0
MayAnswer Nothing answer = answer ≡ done.Yes
MayAnswer Folder answer = Unit {0}
MayAnswer (Queue app) answer = answer ≢ done.NoMemory

-- ---- replies

-- 0 where it was done, 2 where it was refused
abbrev pub status_of : {A : Type 0} → Option A → ℕ
status_of (Some x) = 0
status_of None = 2

-- 0 where it was done, 2 where it failed, 10 where there was no memory
abbrev pub done_status : Done → ℕ
done_status done.Yes = 0
done_status done.Failed = 2
done_status done.NoMemory = 10

-- a request that is refused before anything is asked of the folder or a queue has status 2
abbrev pub reset_status : Option Registry → Done → ℕ
reset_status None answer = 2
reset_status (Some registry) answer = done_status answer

-- an injection that a full queue refused has status 2
abbrev pub inject_status : Option (App × Context) → Done → ℕ
inject_status None answer = 2
inject_status (Some target) done.Yes = 0
inject_status (Some target) _ = 2

-- ---- GetLogInfo

-- a level in one byte: 0xFF where there is none of one's own
abbrev pub own_byte : Option ℕ → ℕ
own_byte own = unwrap_or own 0xff

-- with option 7 a description is told, behind its length
abbrev pub described : ℕ → List ℕ → List ℕ
described options text = if options == 7 then little_bytes 2 (length text) ++ text else []

-- a context: CTID, own level, trace status, which is not known, and its description
abbrev pub context_info : ℕ → List ℕ × Context → List ℕ
context_info options entry = entry.0 ++ (own_byte entry.1.own ∷ 0xff ∷ []) ++ described options entry.1.text

-- an application: APID, its contexts that the ids name behind their number, and its description
abbrev pub app_info : ℕ → List ℕ → List ℕ → List ℕ × App → List ℕ
app_info options apid ctid app =
    app.0 ++ little_bytes 2 (length (named_in apid ctid app))
    ++ flat_map (context_info options) (named_in apid ctid app) ++ described options app.1.text

-- the applications that have a context that the ids name
abbrev pub is_listed : List ℕ → List ℕ → List ℕ × App → Bool
is_listed apid ctid app = not (length (named_in apid ctid app) == 0)

abbrev pub listed : Registry → List ℕ → List ℕ → List (List ℕ × App)
listed registry apid ctid = filter (is_listed apid ctid) registry.apps

-- the applications behind their number, and four reserved bytes
abbrev pub info_body : ℕ → Registry → List ℕ → List ℕ → List ℕ
info_body options registry apid ctid =
    little_bytes 2 (length (listed registry apid ctid)) ++ flat_map (app_info options apid ctid) (listed registry apid ctid)
    ++ 0 ∷ 0 ∷ 0 ∷ 0 ∷ []

-- a reply with this body passes 65,535 bytes: standard and extended header have 18, service id and status 5
abbrev pub is_too_long : List ℕ → Bool
is_too_long body = nat_lt 65535 (23 + length body)

-- ---- the reply

abbrev pub bare : ℕ → ℕ → Reply
bare service status = record { service = service; status = status; body = [] }

-- 1 for other options than 6 and 7, 8 where the ids name no context, 9 where the reply would be too long
abbrev pub info_reply : Registry → ℕ → List ℕ → List ℕ → Reply
info_reply registry options apid ctid =
    if not (options == 6 || options == 7) then bare 0x03 1
    else if length (named_contexts registry apid ctid) == 0 then bare 0x03 8
    else if is_too_long (info_body options registry apid ctid) then bare 0x03 9
    else record { service = 0x03; status = options; body = info_body options registry apid ctid }

-- the name of the software's version
abbrev pub version_name : Software → List ℕ
version_name software.Run = codes "dlt_run 1"
version_name software.Daemon = codes "dlt_daemon 1"

-- the reply to GetSoftwareVersion: the name behind its length
abbrev pub version_reply : Software → Reply
version_reply program = record { service = 0x13; status = 0; body = little_bytes 4 (length (version_name program)) ++ version_name program }

-- The reply to a request for these ids: service, status and body. Before it the registry and the slots were these.
abbrev pub reply_to : Setting → (ℕ → Slot) → Registry → List ℕ → List ℕ → Result Request RequestFault → Done → Reply
reply_to setting slots registry apid ctid (Err (Short service)) answer = bare service 2
reply_to setting slots registry apid ctid (Err (Excess service)) answer = bare service 2
reply_to setting slots registry apid ctid (Ok (SetLogLevel app context level)) answer =
    bare 0x01 (status_of (own_requested slots registry app context level))
reply_to setting slots registry apid ctid (Ok (GetLogInfo options app context)) answer = info_reply registry options app context
reply_to setting slots registry apid ctid (Ok GetDefault) answer =
    record { service = 0x04; status = 0; body = registry.level ∷ [] }
reply_to setting slots registry apid ctid (Ok Store) answer = bare 0x05 (done_status answer)
reply_to setting slots registry apid ctid (Ok Reset) answer =
    bare 0x06 (reset_status (reset_requested setting slots registry) answer)
reply_to setting slots registry apid ctid (Ok (SetAllLogLevel level)) answer =
    bare 0xf08 (status_of (own_requested slots registry zero_id zero_id level))
reply_to setting slots registry apid ctid (Ok (SetDefault level)) answer =
    bare 0x11 (status_of (default_requested slots registry level))
reply_to setting slots registry apid ctid (Ok Version) answer = version_reply setting.software
reply_to setting slots registry apid ctid (Ok (Inject service body)) answer =
    bare service (inject_status (injected setting registry apid ctid) answer)
reply_to setting slots registry apid ctid (Ok (Other service)) answer = bare service 1

-- the frame of the reply to a control message
abbrev pub reply_frame_to : Setting → (ℕ → Slot) → Registry → List ℕ → Done → List ℕ
reply_frame_to setting slots registry frame answer =
    control_reply setting.ecu (reply_to setting slots registry (apid_of frame) (ctid_of frame) (asked frame) answer)
