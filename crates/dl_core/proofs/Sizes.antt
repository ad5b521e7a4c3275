-- How many bytes frames have.
use Rattle.std.proofs.Common.{◌≡◌, ℕ, ◌+◌, ◌*◌, ◌/◌, ◌%◌, Bool, true, false, eqb, List, [], ◌∷◌, ◌++◌, length, map, refl, ap, ◌∙◌, length-append, arith, ◌⊎◌, inl, inr, ◌≢◌}
use Rattle.std.specs.Prelude.{replicate, min}
use Rattle.std.proofs.lemmas.Bool.Decides.{eqb_tells}
use Rattle.std.proofs.lemmas.List.{length-map, length-replicate}
use Rattle.std.proofs.lemmas.List.Sums.{sum_by-cons}
use Rattle.dl_bytes.specs.Id.{zero_id}
use Rattle.dl_bytes.specs.declared.item.Item.{Item}
use Rattle.dl_bytes.specs.Level.{severity_number}
use Rattle.dl_headers.specs.Header.{standard_header, extended_header}
use Rattle.dl_headers.specs.declared.header.Extended.{Extended}
use Rattle.dl_message.specs.Frames.{log_call, log_message, overflow_record}
use Rattle.dl_model.specs.Backlog.{size_of}
use Rattle.dl_model.specs.Overflow.{counters}
use Rattle.dl_core.specs.Admission.{lost_frames}

head_size : (ecu : List ℕ) (item : Item) → length ecu ≡ 4 → length (standard_header (log_call ecu item).standard) ≡ 16
head_size [] item four = absurd (omega (arith, four))
head_size (a ∷ []) item four = absurd (omega (arith, four))
head_size (a ∷ b ∷ []) item four = absurd (omega (arith, four))
head_size (a ∷ b ∷ c ∷ []) item four = absurd (omega (arith, four))
head_size (a ∷ b ∷ c ∷ d ∷ []) item four = refl
head_size (a ∷ b ∷ c ∷ d ∷ e ∷ more) item four = absurd (omega (arith, four))

pub log_size : (ecu : List ℕ) (item : Item) → length ecu ≡ 4 → length item.apid ≡ 4 → length item.ctid ≡ 4 → length (log_message ecu item) ≡ 26 + length item.payload.bytes
log_size ecu item four apid ctid =
    let first = standard_header (log_call ecu item).standard in
    let head : Extended = record { msin = 16 * severity_number item.severity + 1; noar = item.payload.args; apid = item.apid; ctid = item.ctid } in
    let second : length (extended_header head) ≡ 10 = omega (arith, length-append item.apid item.ctid, apid, ctid) in
    omega (arith, length-append (first ++ extended_header head) item.payload.bytes, length-append first (extended_header head), head_size ecu item four, second)

record_size : (ecu apid : List ℕ) (n : ℕ) → length ecu ≡ 4 → length apid ≡ 4 → length (overflow_record ecu apid zero_id n) ≡ 28
record_size [] apid n four same = absurd (omega (arith, four))
record_size (a ∷ []) apid n four same = absurd (omega (arith, four))
record_size (a ∷ b ∷ []) apid n four same = absurd (omega (arith, four))
record_size (a ∷ b ∷ c ∷ []) apid n four same = absurd (omega (arith, four))
record_size (a ∷ b ∷ c ∷ d ∷ e ∷ more) apid n four same = absurd (omega (arith, four))
record_size (a ∷ b ∷ c ∷ d ∷ []) [] n four same = absurd (omega (arith, same))
record_size (a ∷ b ∷ c ∷ d ∷ []) (w ∷ []) n four same = absurd (omega (arith, same))
record_size (a ∷ b ∷ c ∷ d ∷ []) (w ∷ x ∷ []) n four same = absurd (omega (arith, same))
record_size (a ∷ b ∷ c ∷ d ∷ []) (w ∷ x ∷ y ∷ []) n four same = absurd (omega (arith, same))
record_size (a ∷ b ∷ c ∷ d ∷ []) (w ∷ x ∷ y ∷ z ∷ v ∷ more) n four same = absurd (omega (arith, same))
record_size (a ∷ b ∷ c ∷ d ∷ []) (w ∷ x ∷ y ∷ z ∷ []) n four same = refl

sizes : (ecu apid : List ℕ) → length ecu ≡ 4 → length apid ≡ 4 → (cs : List ℕ) → size_of (map (overflow_record ecu apid zero_id) cs) ≡ 28 * length cs
sizes ecu apid four same [] = refl
sizes ecu apid four same (x ∷ xs) =
    sum_by-cons length (overflow_record ecu apid zero_id x) (map (overflow_record ecu apid zero_id) xs)
    ∙ omega (arith, record_size ecu apid x four same, sizes ecu apid four same xs)

counted : (n : ℕ) → length (counters n) ≡ n / 4294967295 + min 1 (n % 4294967295)
counted n = by_rest (eqb (n % 4294967295) 0) (eqb_tells (n % 4294967295) 0) where
  by_rest : (b : Bool) → ((eqb (n % 4294967295) 0 ≡ true) × (n % 4294967295 ≡ 0)) ⊎ ((eqb (n % 4294967295) 0 ≡ false) × (n % 4294967295 ≢ 0))
      → length (counters n) ≡ n / 4294967295 + min 1 (n % 4294967295)
  by_rest b (inl is) = rw (is.0, length-append {A = ℕ} (replicate (n / 4294967295) 4294967295) [], length-replicate {A = ℕ} (n / 4294967295) 4294967295) (omega (arith, is.1))
  by_rest b (inr is) =
      rw (is.0, length-append {A = ℕ} (replicate (n / 4294967295) 4294967295) (n % 4294967295 ∷ []), length-replicate {A = ℕ} (n / 4294967295) 4294967295) (omega (arith, is.1))

pub lost_size : (ecu apid : List ℕ) (count : ℕ) → length ecu ≡ 4 → length apid ≡ 4 → size_of (lost_frames ecu apid count) ≡ 28 * (count / 4294967295 + min 1 (count % 4294967295))
lost_size ecu apid count four same = sizes ecu apid four same (counters count) ∙ ap (λ (n : ℕ). 28 * n) (counted count)

pub lost_count : (ecu apid : List ℕ) (count : ℕ) → length (lost_frames ecu apid count) ≡ count / 4294967295 + min 1 (count % 4294967295)
lost_count ecu apid count = length-map (counters count) (overflow_record ecu apid zero_id) ∙ counted count
