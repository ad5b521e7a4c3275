-- The bytes of each user message: a marker, the kind, and the fields, all numbers with their lowest byte first.
use Rattle.std.specs.Prelude.{◌≡◌, ℕ, ℤ, pos, negsuc, List, [], ◌∷◌, ◌++◌, length, Option, Some, None, ◌⊎◌}
use Rattle.std.specs.Int.{w8, cast_unsigned}
use Rattle.byteorder.specs.Endian.{little_bytes}
use Rattle.dl_bytes.specs.declared.user.UserMsg.{UserMsg}
use Rattle.dl_bytes.specs.declared.user.UserMsg.TheVariants.{Log, RegisterApp, UnregisterApp, RegisterContext, UnregisterContext, LogLevel, Injection, Overflow}
use Rattle.dl_user.specs.declared.fields.AppFields.{AppFields}
use Rattle.dl_user.specs.declared.fields.ContextFields.{ContextFields}
use Rattle.dl_user.specs.declared.fields.SettingFields.{SettingFields}
use Rattle.dl_user.specs.declared.fields.ServiceFields.{ServiceFields}

-- the letters DUH and 1, with which each user message begins
abbrev pub marker : List ℕ
marker = 0x44 ∷ 0x55 ∷ 0x48 ∷ 0x01 ∷ []

-- a number of four bytes
abbrev pub uint32 : ℕ → List ℕ
uint32 n = little_bytes 4 n

-- a signed number of one byte, in two's complement
abbrev pub signed : ℤ → List ℕ
signed z = cast_unsigned w8 z ∷ []

-- the number of a context's own level; `default` where it has none, and so follows the daemon's default level
abbrev pub level_number : ℤ → Option ℕ → ℤ
level_number default None = default
level_number default (Some n) = pos n

-- The fields of a known length, in order: of kind 2, before the text,
abbrev pub app_front : AppFields → List ℕ
app_front app = app.apid ++ uint32 app.pid ++ uint32 app.len

-- of kind 4, before the text,
abbrev pub context_front : ContextFields → List ℕ
context_front context =
    context.apid ++ context.ctid ++ uint32 context.position ++ signed context.level ++ signed context.trace
    ++ uint32 context.pid ++ uint32 context.len

-- of kind 6,
abbrev pub setting_front : SettingFields → List ℕ
setting_front setting = setting.level ∷ [] ++ signed setting.trace ++ uint32 setting.position

-- and of kind 7, before the body.
abbrev pub service_front : ServiceFields → List ℕ
service_front service = uint32 service.position ++ uint32 service.service ++ uint32 service.len

-- the number of the kind
abbrev pub kind_of : UserMsg → ℕ
kind_of (Log message) = 1
kind_of (RegisterApp apid pid text) = 2
kind_of (UnregisterApp apid pid) = 3
kind_of (RegisterContext apid ctid position level trace pid text) = 4
kind_of (UnregisterContext apid ctid pid) = 5
kind_of (LogLevel level trace position) = 6
kind_of (Injection position service body) = 7
kind_of (Overflow counter apid) = 8

-- what stands behind the kind
abbrev pub fields_of : ℤ → UserMsg → List ℕ
fields_of default (Log message) = message
fields_of default (RegisterApp apid pid text) = app_front (record { apid = apid; pid = pid; len = length text }) ++ text
fields_of default (UnregisterApp apid pid) = apid ++ uint32 pid
fields_of default (RegisterContext apid ctid position level trace pid text) = context_front (record {
  apid = apid;
  ctid = ctid;
  position = position;
  level = level_number default level;
  trace = trace;
  pid = pid;
  len = length text;
}) ++ text
fields_of default (UnregisterContext apid ctid pid) = apid ++ ctid ++ uint32 pid
fields_of default (LogLevel level trace position) = setting_front (record { level = level; trace = trace; position = position })
fields_of default (Injection position service body) =
    service_front (record { position = position; service = service; len = length body }) ++ body
fields_of default (Overflow counter apid) = uint32 counter ++ apid

-- the message with this number for a context that follows the default level
abbrev pub user_message_with : ℤ → UserMsg → List ℕ
user_message_with default msg = marker ++ uint32 (kind_of msg) ++ fields_of default msg

-- what is written: such a context has -1
abbrev pub user_message : UserMsg → List ℕ
user_message msg = user_message_with (negsuc 0) msg

-- what is read as the message: such a context may also have -2, which libdlt writes
abbrev pub Spells : List ℕ → UserMsg → Type 0
Spells bytes msg = (bytes ≡ user_message msg) ⊎ (bytes ≡ user_message_with (negsuc 1) msg)
