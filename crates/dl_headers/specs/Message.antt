-- A whole message: a standard header, an extended header where UEH says so, and a payload.
use Rattle.std.specs.Prelude.{◌≡◌, ℕ, List, length, ◌++◌, Option, is_some, IfSome}
use Rattle.dl_bytes.specs.Htyp.{has_extended}
use Rattle.dl_headers.specs.declared.header.Standard.{Standard}
use Rattle.dl_headers.specs.declared.header.Extended.{Extended}
use Rattle.dl_headers.specs.Header.{standard_header, extended_header, optional, IsStandard, IsExtended}

-- the parts of a message
pub record Message : Type 0 where
  pub standard : Standard
  pub extended : Option Extended
  pub payload : List ℕ

-- the one spelling of a message
abbrev pub spelling : Message → List ℕ
spelling m = standard_header m.standard ++ optional extended_header m.extended ++ m.payload

-- The bytes are this message: they are its spelling, and its LEN is their number.
pub record IsMessage (m : Message) (bytes : List ℕ) : Type 0 where
  pub spelled : bytes ≡ spelling m
  pub standard : IsStandard m.standard
  pub extended : IfSome m.extended IsExtended
  pub told : is_some m.extended ≡ has_extended m.standard.htyp
  pub len : length bytes ≡ m.standard.len
