-- Journals of the examples on registries, levels and replies.
use Rattle.std.specs.Prelude.{◌≡◌, ℕ, ◌+◌, ◌*◌, ◌-◌, true, nat_lt, List, [], ◌∷◌, ◌++◌, length, codes, if◌then◌else◌, Option, Some, None, negsuc}
use Rattle.dl_bytes.specs.Id.{filled, zero_id}
use Rattle.dl_bytes.specs.Limits.{client_limit, last_version}
use Rattle.dl_bytes.specs.declared.moment.Moment.{Moment}
use Rattle.dl_bytes.specs.declared.outcome.Done.{Done}
use Rattle.dl_bytes.specs.declared.outcome.Done.TheVariants.{Yes}
use Rattle.dl_bytes.specs.declared.user.UserMsg.TheVariants.{RegisterApp, UnregisterApp, RegisterContext, UnregisterContext, Log}
use Rattle.dl_events.specs.declared.event.Event.{Event}
use Rattle.dl_events.specs.declared.event.Event.TheVariants.{User, Claim, Level, Connect, Request}
use Rattle.dl_model.specs.Frames.{FrameSource}
use Rattle.dl_model.specs.Setting.{Setting}
use Rattle.dl_model.specs.declared.software.Software.TheVariants.{Run}

-- ---- bytes, written as two hexadecimal digits each, parted by one blank

abbrev pub digit : ℕ → ℕ
digit code = if nat_lt code 58 then code - 48 else code - 55

abbrev pub hex : List ℕ → List ℕ
hex (high ∷ low ∷ blank ∷ more) = (16 * digit high + digit low) ∷ hex more
hex (high ∷ low ∷ []) = (16 * digit high + digit low) ∷ []
hex _ = []

-- ---- settings

-- the defaults of `dlt.conf`, nothing stored, and the clients of a script
abbrev pub defaults : Setting
defaults = record {
  ecu = codes "ECU1";
  level = 4;
  buffer = 10000000;
  directory = [];
  file_size = 1000000;
  max_size = 4000000;
  injection = true;
  stored = record { level = None; own = [] };
  first = 0;
  clients = client_limit;
  software = Run;
}

-- each slot has one version left before the last one
abbrev pub nearly_worn : Setting
nearly_worn = record defaults { first = last_version - 1 }

-- a buffer of 10,000 bytes
abbrev pub small_buffer : Setting
small_buffer = record defaults { buffer = 10000 }

-- ---- events

abbrev pub id : List ℕ → List ℕ
id name = filled name

abbrev pub app_comes : Moment → ℕ → List ℕ → Event
app_comes at channel apid = User channel (RegisterApp (id apid) 0 []) at

abbrev pub app_goes : Moment → ℕ → List ℕ → Event
app_goes at channel apid = User channel (UnregisterApp (id apid) 0) at

-- a context of an application, with the own level that it asks for
abbrev pub context_comes : Moment → ℕ → List ℕ → List ℕ → Option ℕ → Event
context_comes at channel apid ctid own = User channel (RegisterContext (id apid) (id ctid) 0 own (negsuc 0) 0 []) at

abbrev pub context_goes : Moment → ℕ → List ℕ → List ℕ → Event
context_goes at channel apid ctid = User channel (UnregisterContext (id apid) (id ctid) 0) at

-- a writer of an application claims this place for a context, with the own level that it asks for
abbrev pub claims : Moment → ℕ → ℕ → List ℕ → Option ℕ → Event
claims at app place ctid own = Claim (record { app = app; writer = 1; place = place; ctid = id ctid; level = own; text = [] }) at

-- an application on a channel of its own logs this message
abbrev pub logged : Moment → List ℕ → Event
logged at message = User 1 (Log message) at

-- a control request for these ids, of a client without ECU, session and timestamp: MSIN is 16, a request
abbrev pub control : List ℕ → List ℕ → List ℕ → List ℕ
control apid ctid payload = 0x21 ∷ 0 ∷ 0 ∷ (14 + length payload) ∷ 0x16 ∷ 1 ∷ (id apid ++ id ctid ++ payload)

-- the same, of a tool that names no context
abbrev pub query : List ℕ → List ℕ
query payload = control (codes "APP") (codes "CON") payload

-- client 1 asks, and what was needed of the folder was done
abbrev pub asks : List ℕ → Event
asks payload = Request 1 (query payload) Yes

-- SetLogLevel of a context to this level
abbrev pub set_level : List ℕ → List ℕ → ℕ → List ℕ
set_level apid ctid level = 1 ∷ 0 ∷ 0 ∷ 0 ∷ (id apid ++ id ctid ++ (level ∷ 0 ∷ 0 ∷ 0 ∷ 0 ∷ []))

-- client 1 sets the level of the context TEST of LOG1
abbrev pub asks_level : ℕ → Event
asks_level level = asks (set_level (codes "LOG1") (codes "TEST") level)

-- GetLogInfo of all applications: with 6 the levels of their contexts, with 7 their texts too
abbrev pub get_log_info : ℕ → List ℕ
get_log_info option = 3 ∷ 0 ∷ 0 ∷ 0 ∷ option ∷ (zero_id ++ zero_id ++ (0 ∷ 0 ∷ 0 ∷ 0 ∷ []))

-- an injection of one byte for the context of these ids
abbrev pub injection_for : List ℕ → List ℕ → List ℕ
injection_for apid ctid = control apid ctid (hex (codes "FF 0F 00 00 01 00 00 00 AB"))

-- SetDefaultLogLevel
abbrev pub set_default : ℕ → List ℕ
set_default level = 0x11 ∷ 0 ∷ 0 ∷ 0 ∷ level ∷ 0 ∷ 0 ∷ 0 ∷ 0 ∷ []

-- StoreConfiguration and ResetToFactoryDefault
abbrev pub store : List ℕ
store = 5 ∷ 0 ∷ 0 ∷ 0 ∷ []

abbrev pub reset_all : List ℕ
reset_all = 6 ∷ 0 ∷ 0 ∷ 0 ∷ []

-- GetSoftwareVersion
abbrev pub version : List ℕ
version = 0x13 ∷ 0 ∷ 0 ∷ 0 ∷ []

-- all replies have so many bytes
abbrev pub RepliesHave : ℕ → FrameSource → Type 0
RepliesHave size source = (before : List Event) (frame : List ℕ) (answer : Done) → length (source.reply before frame answer) ≡ size

-- ---- journals

-- an application with a context that follows the default level, and one that has all let through; a client
abbrev pub two_contexts : Moment → List Event
two_contexts at =
    app_comes at 0 (codes "LOG1") ∷ context_comes at 0 (codes "LOG1") (codes "TEST") None ∷ Level 0 4
    ∷ context_comes at 0 (codes "LOG1") (codes "FULL") (Some 6) ∷ Level 1 6 ∷ Connect 1 ∷ []

-- an application with a context at info, and a client
abbrev pub one_context : Moment → List Event
one_context at =
    app_comes at 0 (codes "LOG1") ∷ context_comes at 0 (codes "LOG1") (codes "TEST") (Some 4) ∷ Level 0 4 ∷ Connect 1 ∷ []

-- an application of which two writers claim a place for one context; a client
abbrev pub two_places : Moment → List Event
two_places at =
    app_comes at 0 (codes "LOG1") ∷ claims at 0 0 (codes "SAME") (Some 4) ∷ Level 0 4 ∷ claims at 0 1 (codes "SAME") (Some 5) ∷ Level 1 4 ∷ Connect 1 ∷ []
