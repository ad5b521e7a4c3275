-- How long headers and their parts are, and where an application's and a context's id stand.
use Rattle.std.proofs.Common.{◌≡◌, ℕ, ◌+◌, cond, List, [], ◌∷◌, ◌++◌, length, take, drop, Option, Some, None, refl, ap, ◌∙◌, append_assoc, length-append, is_some, arith}
use Rattle.std.specs.Prelude.{IfSome}
use Rattle.std.proofs.lemmas.List.{take_at, drop_at}
use Rattle.byteorder.specs.Endian.{big_bytes}
use Rattle.dl_bytes.specs.Htyp.{standard_len}
use Rattle.dl_headers.specs.declared.header.Standard.{Standard}
use Rattle.dl_headers.specs.Header.{standard_header, optional, IsStandard}

pub number_long : (n : Option ℕ) → length (optional (big_bytes 4) n) ≡ cond (is_some n) 4 0
number_long None = refl
number_long (Some n) = refl

pub id_long : (ecu : Option (List ℕ)) → IfSome ecu (λ id. length id ≡ 4) → length (optional (λ (id : List ℕ). id) ecu) ≡ cond (is_some ecu) 4 0
id_long None four = refl
id_long (Some id) four = four

pub header_long : (htyp mcnt len : ℕ) (ecu session ticks : List ℕ)
    → length ((htyp ∷ mcnt ∷ []) ++ big_bytes 2 len ++ ecu ++ session ++ ticks) ≡ 4 + length ecu + length session + length ticks
header_long htyp mcnt len ecu session ticks = omega (arith, length-append ecu session, length-append (ecu ++ session) ticks)

pub standard_long : (s : Standard) → IsStandard s → length (standard_header s) ≡ standard_len s.htyp
standard_long s is =
    let ecu = optional (λ (id : List ℕ). id) s.ecu in
    let session = optional (big_bytes 4) s.session in
    let ticks = optional (big_bytes 4) s.ticks in
    let long = header_long s.htyp s.mcnt s.len ecu session ticks in
    rw (← s.ecu_as_told, ← s.session_as_told, ← s.ticks_as_told)
    (omega (arith, long, id_long s.ecu is.ecu, number_long s.session, number_long s.ticks))

pub apid_at : (msin noar : ℕ) (apid ctid payload : List ℕ) → length apid ≡ 4 → take 4 (drop 2 (((msin ∷ noar ∷ []) ++ apid ++ ctid) ++ payload)) ≡ apid
apid_at msin noar apid ctid payload four = ap (take 4) (append_assoc apid ctid payload) ∙ take_at apid (ctid ++ payload) 4 four

pub ctid_at : (msin noar : ℕ) (apid ctid payload : List ℕ) → length apid ≡ 4 → length ctid ≡ 4 → take 4 (drop 6 (((msin ∷ noar ∷ []) ++ apid ++ ctid) ++ payload)) ≡ ctid
ctid_at msin noar apid ctid payload four four' =
    ap (λ x. take 4 (drop 4 x)) (append_assoc apid ctid payload) ∙ ap (take 4) (drop_at apid (ctid ++ payload) 4 four) ∙ take_at ctid payload 4 four'
