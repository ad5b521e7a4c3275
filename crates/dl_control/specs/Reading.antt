-- Reading a payload as a control request, or the fault that it has.
use Rattle.std.specs.Prelude.{ℕ, List, length, Option, Some, None, Result, Ok, Err, nat_lt, nat_le, ◌==◌, if◌then◌else◌}
use Rattle.std.specs.Int.{w8, cast_signed}
use Rattle.dl_bytes.specs.declared.cursor.Order.{Order}
use Rattle.dl_bytes.specs.Limits.{payload_limit}
use Rattle.dl_bytes.specs.Number.{At, bytes_at, number_at, ◌>>=◌}
use Rattle.dl_control.specs.declared.request.Request.{Request}
use Rattle.dl_control.specs.declared.request.Request.TheVariants.{SetLogLevel, GetLogInfo, GetDefault, Store, Reset, SetDefault, Version, SetAllLogLevel, Inject, Other}
use Rattle.dl_control.specs.declared.request.RequestFault.{RequestFault}
use Rattle.dl_control.specs.declared.request.RequestFault.TheVariants.{Short, Excess}

-- APID, CTID, a signed level, four reserved bytes
unfoldable pub log_level_at : At → Option (Request × At)
log_level_at c = do
  apid ← bytes_at 4 c
  ctid ← bytes_at 4 apid.1
  level ← number_at 1 ctid.1
  reserved ← bytes_at 4 level.1
  Some (SetLogLevel apid.0 ctid.0 (cast_signed w8 level.0), reserved.1)

-- options, APID, CTID, four reserved bytes
unfoldable pub log_info_at : At → Option (Request × At)
log_info_at c = do
  options ← number_at 1 c
  apid ← bytes_at 4 options.1
  ctid ← bytes_at 4 apid.1
  reserved ← bytes_at 4 ctid.1
  Some (GetLogInfo options.0 apid.0 ctid.0, reserved.1)

-- a level, four reserved bytes
unfoldable pub default_level_at : At → Option (Request × At)
default_level_at c = do
  level ← number_at 1 c
  reserved ← bytes_at 4 level.1
  Some (SetDefault level.0, reserved.1)

-- a signed level, four reserved bytes
unfoldable pub all_levels_at : At → Option (Request × At)
all_levels_at c = do
  level ← number_at 1 c
  reserved ← bytes_at 4 level.1
  Some (SetAllLogLevel (cast_signed w8 level.0), reserved.1)

-- n raw bytes
unfoldable pub body_at : ℕ → ℕ → At → Option (Request × At)
body_at service n c = do
  bytes ← bytes_at n c
  Some (Inject service (record { bytes = bytes.0; args = 0 }), bytes.1)

-- what was read, where no byte is missing and none is left
abbrev pub whole_of : ℕ → Option (Request × At) → Result Request RequestFault
whole_of service None = Err (Short service)
whole_of service (Some x) = if length x.1.rest == 0 then Ok x.0 else Err (Excess service)

-- an injection, from its length on: a length above the limit is too much, whether its bytes are there or not
unfoldable pub injection_of : ℕ → Option (ℕ × At) → Result Request RequestFault
injection_of service None = Err (Short service)
injection_of service (Some n) = if nat_lt payload_limit n.0 then Err (Excess service) else whole_of service (body_at service n.0 n.1)

-- a request, from its service id on
unfoldable pub request_of : Option (ℕ × At) → Result Request RequestFault
request_of None = Err (Short 0)
request_of (Some s) =
    if s.0 == 0x01 then whole_of s.0 (log_level_at s.1)
    else if s.0 == 0x03 then whole_of s.0 (log_info_at s.1)
    else if s.0 == 0x04 then Ok GetDefault
    else if s.0 == 0x05 then Ok Store
    else if s.0 == 0x06 then Ok Reset
    else if s.0 == 0x11 then whole_of s.0 (default_level_at s.1)
    else if s.0 == 0x13 then Ok Version
    else if s.0 == 0xf08 then whole_of s.0 (all_levels_at s.1)
    else if nat_le 0xfff s.0 then injection_of s.0 (number_at 4 s.1)
    else Ok (Other s.0)

-- a whole payload, its numbers in this order
abbrev pub request_in : Order → List ℕ → Result Request RequestFault
request_in order bytes = request_of (number_at 4 (record { rest = bytes; order = order }))
