-- Which user messages the protocol can carry.
use Rattle.std.specs.Prelude.{◌≡◌, ℕ, ◌≤◌, List, length}
use Rattle.dl_bytes.specs.Htyp.{htyp_of, len_of, version, header_len}
use Rattle.dl_bytes.specs.Limits.{frame_limit, payload_limit, text_limit}
use Rattle.dl_bytes.specs.declared.user.UserMsg.{UserMsg}
use Rattle.dl_bytes.specs.declared.user.UserMsg.TheVariants.{Log, RegisterApp, UnregisterApp, RegisterContext, UnregisterContext, LogLevel, Injection, Overflow}

-- The bytes hold one message, as far as HTYP and LEN tell: the version is 1, LEN has room for the headers, and LEN is the
-- number of the bytes, no more than a log message may have.
pub record HoldsMessage (bytes : List ℕ) : Type 0 where
  pub version_is : version (htyp_of bytes) ≡ 1
  pub headers : header_len (htyp_of bytes) ≤ len_of bytes
  pub whole : len_of bytes ≡ length bytes
  pub limit : length bytes ≤ frame_limit

-- A description and an injected body are within their limits, and a log message holds one message.
abbrev pub IsFit : UserMsg → Type 0
IsFit (Log message) = HoldsMessage message
IsFit (RegisterApp apid pid text) = length text ≤ text_limit
IsFit (UnregisterApp apid pid) = Unit {0}
IsFit (RegisterContext apid ctid position level trace pid text) = length text ≤ text_limit
IsFit (UnregisterContext apid ctid pid) = Unit {0}
IsFit (LogLevel level trace position) = Unit {0}
IsFit (Injection position service body) = length body ≤ payload_limit
IsFit (Overflow counter apid) = Unit {0}
