-- Control requests of AUTOSAR DLT, and the bytes that each is laid out as.
use Rattle.std.specs.Prelude.{◌≡◌, ◌≢◌, ◌<◌, ◌≤◌, ◌^◌, ℕ, List, [], ◌∷◌, ◌++◌, length, nat_lt, if◌then◌else◌}
use Rattle.std.specs.Int.{w8, cast_unsigned}
use Rattle.std.specs.Int.RustNames.{FitsSigned}
use Rattle.dl_bytes.specs.Limits.{payload_limit}
use Rattle.dl_bytes.specs.Number.{bytes_of, number_of}
use Rattle.dl_bytes.specs.declared.cursor.Order.{Order}
use Rattle.dl_control.specs.declared.request.Request.{Request}
use Rattle.dl_control.specs.declared.request.Request.TheVariants.{SetLogLevel, GetLogInfo, GetDefault, Store, Reset, SetDefault, Version, SetAllLogLevel, Inject, Other}
use Rattle.dl_control.specs.declared.request.RequestFault.{RequestFault}
use Rattle.dl_control.specs.declared.request.RequestFault.TheVariants.{Short, Excess}

-- the service id, the first four bytes of a request
abbrev pub service_of : Request → ℕ
service_of (SetLogLevel apid ctid level) = 0x01
service_of (GetLogInfo options apid ctid) = 0x03
service_of GetDefault = 0x04
service_of Store = 0x05
service_of Reset = 0x06
service_of (SetDefault level) = 0x11
service_of Version = 0x13
service_of (SetAllLogLevel level) = 0xf08
service_of (Inject service body) = service
service_of (Other service) = service

-- the fields that follow it: a level of contexts is a signed byte, an injection has its length before its bytes
abbrev pub fields_of : Order → Request → List ℕ
fields_of order (SetLogLevel apid ctid level) = apid ++ ctid ++ cast_unsigned w8 level ∷ []
fields_of order (GetLogInfo options apid ctid) = options ∷ apid ++ ctid
fields_of order (SetDefault level) = level ∷ []
fields_of order (SetAllLogLevel level) = cast_unsigned w8 level ∷ []
fields_of order (Inject service body) = bytes_of order 4 (length body.bytes) ++ body.bytes
fields_of order request = []

-- The bytes that may follow the fields, and that nobody looks at: four reserved ones, none behind an injection, and
-- any number where a service has no fields.
abbrev pub MayFollow : Request → List ℕ → Type 0
MayFollow (SetLogLevel apid ctid level) bytes = length bytes ≡ 4
MayFollow (GetLogInfo options apid ctid) bytes = length bytes ≡ 4
MayFollow (SetDefault level) bytes = length bytes ≡ 4
MayFollow (SetAllLogLevel level) bytes = length bytes ≡ 4
MayFollow (Inject service body) bytes = bytes ≡ []
MayFollow request bytes = Unit {0}

-- ids have four bytes
abbrev pub IsId : List ℕ → Type 0
IsId id = length id ≡ 4

-- a service id that no other row has
abbrev pub IsOther : ℕ → Type 0
IsOther service =
    (service ≢ 0x01) × (service ≢ 0x03) × (service ≢ 0x04) × (service ≢ 0x05) × (service ≢ 0x06) × (service ≢ 0x11)
    × (service ≢ 0x13) × (service ≢ 0xf08) × (service < 0xfff)

-- what can be laid out: an injection is of raw bytes, which count as no arguments
abbrev pub Fits : Request → Type 0
Fits (SetLogLevel apid ctid level) = IsId apid × IsId ctid × FitsSigned w8 level
Fits (GetLogInfo options apid ctid) = IsId apid × IsId ctid
Fits (SetAllLogLevel level) = FitsSigned w8 level
Fits (Inject service body) = (0xfff ≤ service) × (service < 2 ^ 32) × (length body.bytes < 2 ^ 32) × (body.args ≡ 0)
Fits (Other service) = IsOther service
Fits request = Unit {0}

-- a request laid out, its numbers in this order
pub record IsLaidOut (order : Order) (request : Request) (bytes : List ℕ) : Type 0 where
  pub fits : Fits request
  pub ignored : List ℕ
  pub may_follow : MayFollow request ignored
  pub spelled : bytes ≡ bytes_of order 4 (service_of request) ++ fields_of order request ++ ignored

-- within the limit of a payload, as far as it is an injection
abbrev pub IsWithinLimit : Request → Type 0
IsWithinLimit (Inject service body) = length body.bytes ≤ payload_limit
IsWithinLimit request = Unit {0}

-- Some request begins with these bytes and goes on behind them. As soon as eight bytes are there, which tell the length
-- of an injection, it is one within the limit.
pub record BeginsRequest (order : Order) (bytes : List ℕ) : Type 0 where
  pub request : Request
  pub more : List ℕ
  pub goes_on : 0 < length more
  pub layout : IsLaidOut order request (bytes ++ more)
  pub within : 8 ≤ length bytes → IsWithinLimit request

-- no request within the limit begins with these bytes
abbrev pub BeginsNone : Order → List ℕ → Type 0
BeginsNone order bytes = (request : Request) (more : List ℕ) → IsWithinLimit request → IsLaidOut order request (bytes ++ more) → ⊥

-- the service that a fault tells: 0 where the bytes of its id are missing
abbrev pub service_told : Order → List ℕ → ℕ
service_told order bytes = if nat_lt (length bytes) 4 then 0 else number_of order 4 bytes

-- Short where bytes are missing; Excess where the length of an injection would be there, and no more bytes would help.
-- No payload has both faults.
abbrev pub IsFault : Order → List ℕ → RequestFault → Type 0
IsFault order bytes (Short service) = (service ≡ service_told order bytes) × BeginsRequest order bytes
IsFault order bytes (Excess service) = (service ≡ service_told order bytes) × (8 ≤ length bytes) × BeginsNone order bytes
