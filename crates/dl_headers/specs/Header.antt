-- The one spelling of each header. All its numbers have their highest byte first.
use Rattle.std.specs.Prelude.{◌≡◌, ℕ, ◌<◌, ◌≤◌, ◌^◌, length, IfSome, List, [], ◌∷◌, ◌++◌, Option, Some, None}
use Rattle.byteorder.specs.Endian.{big_bytes, little_bytes}
use Rattle.dl_bytes.specs.Htyp.{version, header_len}
use Rattle.dl_bytes.specs.declared.moment.Moment.{Moment}
use Rattle.dl_headers.specs.declared.header.Standard.{Standard}
use Rattle.dl_headers.specs.declared.header.Extended.{Extended}

-- a field that may be absent
abbrev pub optional : {A : Type 0} → (A → List ℕ) → Option A → List ℕ
optional spelling None = []
optional spelling (Some x) = spelling x

-- HTYP, MCNT and LEN, then ECU, SEID and TMSP, as many of them as there are
abbrev pub standard_header : Standard → List ℕ
standard_header head =
    (head.htyp ∷ head.mcnt ∷ []) ++ big_bytes 2 head.len
    ++ optional (λ ecu. ecu) head.ecu ++ optional (big_bytes 4) head.session ++ optional (big_bytes 4) head.ticks

-- MSIN, NOAR, APID and CTID
abbrev pub extended_header : Extended → List ℕ
extended_header head = (head.msin ∷ head.noar ∷ []) ++ head.apid ++ head.ctid

-- in a trace file, before each message: the pattern, the time of day with its lowest bytes first, and the ECU
abbrev pub storage_header : List ℕ → Moment → List ℕ
storage_header ecu moment =
    (0x44 ∷ 0x4c ∷ 0x54 ∷ 0x01 ∷ []) ++ little_bytes 4 moment.secs ++ little_bytes 4 moment.micros ++ ecu

-- what a standard header's fields hold: version 1, and a LEN that leaves room for the headers that HTYP tells of
pub record IsStandard (head : Standard) : Type 0 where
  pub version : version head.htyp ≡ 1
  pub room : header_len head.htyp ≤ head.len
  pub len : head.len < 2 ^ 16
  pub ecu : IfSome head.ecu (λ ecu. length ecu ≡ 4)
  pub session : IfSome head.session (λ n. n < 2 ^ 32)
  pub ticks : IfSome head.ticks (λ n. n < 2 ^ 32)

-- what an extended header's fields hold: ids of four bytes
pub record IsExtended (head : Extended) : Type 0 where
  pub apid : length head.apid ≡ 4
  pub ctid : length head.ctid ≡ 4
