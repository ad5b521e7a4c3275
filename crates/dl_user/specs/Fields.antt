-- The fields of a known length at the front of each kind's fields, in order.
use Rattle.std.specs.Prelude.{ℤ, Option, Some}
use Rattle.std.specs.Int.{w8, cast_signed}
use Rattle.dl_bytes.specs.Number.{At, bytes_at, number_at, ◌>>=◌}
use Rattle.dl_bytes.specs.declared.user.UserMsg.{UserMsg}
use Rattle.dl_bytes.specs.declared.user.UserMsg.TheVariants.{UnregisterApp, UnregisterContext, Overflow}
use Rattle.dl_user.specs.declared.fields.AppFields.{AppFields}
use Rattle.dl_user.specs.declared.fields.ContextFields.{ContextFields}
use Rattle.dl_user.specs.declared.fields.SettingFields.{SettingFields}
use Rattle.dl_user.specs.declared.fields.ServiceFields.{ServiceFields}

-- a signed number of one byte, in two's complement
unfoldable pub signed_at : At → Option (ℤ × At)
signed_at c = do
  byte ← number_at 1 c
  Some (cast_signed w8 byte.0, byte.1)

-- kind 2, before the text
unfoldable pub app_at : At → Option (AppFields × At)
app_at c = do
  apid ← bytes_at 4 c
  pid ← number_at 4 apid.1
  len ← number_at 4 pid.1
  Some (record { apid = apid.0; pid = pid.0; len = len.0 }, len.1)

-- kind 3
unfoldable pub unregister_app_at : At → Option (UserMsg × At)
unregister_app_at c = do
  apid ← bytes_at 4 c
  pid ← number_at 4 apid.1
  Some (UnregisterApp apid.0 pid.0, pid.1)

-- kind 4, before the text
unfoldable pub context_at : At → Option (ContextFields × At)
context_at c = do
  apid ← bytes_at 4 c
  ctid ← bytes_at 4 apid.1
  position ← number_at 4 ctid.1
  level ← signed_at position.1
  trace ← signed_at level.1
  pid ← number_at 4 trace.1
  len ← number_at 4 pid.1
  Some (record { apid = apid.0; ctid = ctid.0; position = position.0; level = level.0; trace = trace.0; pid = pid.0; len = len.0 }, len.1)

-- kind 5
unfoldable pub unregister_context_at : At → Option (UserMsg × At)
unregister_context_at c = do
  apid ← bytes_at 4 c
  ctid ← bytes_at 4 apid.1
  pid ← number_at 4 ctid.1
  Some (UnregisterContext apid.0 ctid.0 pid.0, pid.1)

-- kind 6
unfoldable pub setting_at : At → Option (SettingFields × At)
setting_at c = do
  level ← number_at 1 c
  trace ← signed_at level.1
  position ← number_at 4 trace.1
  Some (record { level = level.0; trace = trace.0; position = position.0 }, position.1)

-- kind 7, before the body
unfoldable pub service_at : At → Option (ServiceFields × At)
service_at c = do
  position ← number_at 4 c
  service ← number_at 4 position.1
  len ← number_at 4 service.1
  Some (record { position = position.0; service = service.0; len = len.0 }, len.1)

-- kind 8
unfoldable pub overflow_at : At → Option (UserMsg × At)
overflow_at c = do
  counter ← number_at 4 c
  apid ← bytes_at 4 counter.1
  Some (Overflow counter.0 apid.0, apid.1)
