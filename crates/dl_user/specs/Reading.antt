-- Reading a user message from the front, with each fault as soon as the bytes that show it are there.
use Rattle.std.specs.Prelude.{◌≡◌, ℕ, ℤ, negsuc, List, Option, Some, None, ok_or, Result, Ok, Err, IsOk, nat_lt, nat_le, ◌==◌, if◌then◌else◌}
use Rattle.std.specs.Int.{w8, cast_signed}
use Rattle.std.specs.Ordering.{int_eq}
use Rattle.std.specs.Str.{bytes_eq}
use Rattle.dl_headers.specs.Reading.{front_fault}
use Rattle.dl_headers.specs.declared.fault.HeaderFault.{HeaderFault}
use Rattle.dl_headers.specs.declared.fault.HeaderFault.TheVariants.{Short}
use Rattle.dl_bytes.specs.Htyp.{len_of}
use Rattle.dl_bytes.specs.Limits.{payload_limit, text_limit, frame_limit}
use Rattle.dl_bytes.specs.Level.{own_level_of}
use Rattle.dl_bytes.specs.Number.{At, at, bytes_at, number_at}
use Rattle.dl_bytes.specs.declared.cursor.Cursor.{Cursor}
use Rattle.dl_bytes.specs.declared.cursor.Order.TheVariants.{Little}
use Rattle.dl_bytes.specs.declared.user.UserMsg.{UserMsg}
use Rattle.dl_bytes.specs.declared.user.UserMsg.TheVariants.{Log, RegisterApp, RegisterContext, LogLevel, Injection}
use Rattle.dl_user.specs.declared.fault.UserFault.TheVariants.{Marker, Kind, Inner, TooLong, Level}
use Rattle.dl_user.specs.declared.fault.Stop.{Stop}
use Rattle.dl_user.specs.declared.fault.Stop.TheVariants.{NeedMore, Bad}
use Rattle.dl_user.specs.declared.fault.ReadError.{ReadError}
use Rattle.dl_user.specs.declared.fault.ReadError.TheVariants as errors
use Rattle.dl_user.specs.Layout.{marker}
use Rattle.dl_user.specs.Fields.{app_at, unregister_app_at, context_at, unregister_context_at, setting_at, service_at, overflow_at}

-- bytes of a channel, whose numbers have their lowest byte first
abbrev pub little : List ℕ → At
little bytes = record { rest = bytes; order = Little }

-- Reading from the front gives a value, or stops: there are too few bytes to tell, or they show a fault.
abbrev pub Reading : Type 0 → Type 0
Reading A = Result A Stop

infixl 10 ◌>>=◌
abbrev pub ◌>>=◌ : {A B : Type 0} → Reading A → (A → Reading B) → Reading B
(Ok x) >>= f = f x
(Err stop) >>= f = Err stop

-- fields of a known length, which are waited for as a whole
abbrev pub wait : {A : Type 0} → Option A → Reading A
wait o = ok_or o NeedMore

-- What a function returned, seen by view, with what it left to read, is what reading gives.
abbrev pub Returns : {X Y : Type 0} → (X → Y) → Result X Stop → Cursor → Reading (Y × At) → Type 0
Returns view (Ok x) left reading = reading ≡ Ok (view x, at left)
Returns view (Err stop) left reading = reading ≡ Err stop

-- The same for a function that takes memory. Where there was none, the value is whole.
abbrev pub Copies : Result UserMsg ReadError → Cursor → Reading (UserMsg × At) → Type 0
Copies (Ok msg) left reading = reading ≡ Ok (msg, at left)
Copies (Err (errors.Stop stop)) left reading = reading ≡ Err stop
Copies (Err errors.OutOfMemory) left reading = IsOk reading

-- bytes behind their length, which has a limit
unfoldable pub limited_at : ℕ → ℕ → At → Reading (List ℕ × At)
limited_at limit len c = if nat_lt limit len then Err (Bad (TooLong len)) else wait (bytes_at len c)

-- the level that a context registers with; -2 is read as -1
unfoldable pub registered_level : ℤ → Reading (Option ℕ)
registered_level z = ok_or (own_level_of (if int_eq z (negsuc 1) then negsuc 0 else z)) (Bad (Level z))

-- LEN of a message, by the fault of its front and by LEN: it is waited for as a whole, and its LEN has a limit
abbrev pub inner_of : Option HeaderFault → ℕ → Reading ℕ
inner_of (Some (Short n)) len = Err NeedMore
inner_of (Some fault) len = Err (Bad (Inner fault))
inner_of None len = if nat_lt frame_limit len then Err (Bad (TooLong len)) else Ok len

-- LEN of the message that begins here
unfoldable pub inner_len : List ℕ → Reading ℕ
inner_len bytes = inner_of (front_fault bytes) (len_of bytes)

-- kind 1
unfoldable pub log_at : At → Reading (UserMsg × At)
log_at c = do
  len ← inner_len c.rest
  message ← wait (bytes_at len c)
  Ok (Log message.0, message.1)

-- kind 2
unfoldable pub register_app_at : At → Reading (UserMsg × At)
register_app_at c = do
  app ← wait (app_at c)
  text ← limited_at text_limit app.0.len app.1
  Ok (RegisterApp app.0.apid app.0.pid text.0, text.1)

-- kind 4
unfoldable pub register_context_at : At → Reading (UserMsg × At)
register_context_at c = do
  context ← wait (context_at c)
  level ← registered_level context.0.level
  text ← limited_at text_limit context.0.len context.1
  Ok (RegisterContext context.0.apid context.0.ctid context.0.position level context.0.trace context.0.pid text.0, text.1)

-- kind 6
unfoldable pub log_level_at : At → Reading (UserMsg × At)
log_level_at c = do
  setting ← wait (setting_at c)
  if nat_le setting.0.level 6
      then Ok (LogLevel setting.0.level setting.0.trace setting.0.position, setting.1)
      else Err (Bad (Level (cast_signed w8 setting.0.level)))

-- kind 7
unfoldable pub injection_at : At → Reading (UserMsg × At)
injection_at c = do
  service ← wait (service_at c)
  body ← limited_at payload_limit service.0.len service.1
  Ok (Injection service.0.position service.0.service body.0, body.1)

-- the fields of this kind
unfoldable pub fields_at : ℕ → At → Reading (UserMsg × At)
fields_at kind c =
    if kind == 1 then log_at c
    else if kind == 2 then register_app_at c
    else if kind == 3 then wait (unregister_app_at c)
    else if kind == 4 then register_context_at c
    else if kind == 5 then wait (unregister_context_at c)
    else if kind == 6 then log_level_at c
    else if kind == 7 then injection_at c
    else if kind == 8 then wait (overflow_at c)
    else Err (Bad (Kind kind))

-- the kind, behind the marker
unfoldable pub kind_at : At → Reading (ℕ × At)
kind_at c = do
  front ← wait (bytes_at 4 c)
  if bytes_eq front.0 marker then wait (number_at 4 front.1) else Err (Bad Marker)

-- a whole message
unfoldable pub message_at : At → Reading (UserMsg × At)
message_at c = do
  kind ← kind_at c
  fields_at kind.0 kind.1
