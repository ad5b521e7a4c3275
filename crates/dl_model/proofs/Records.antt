-- Records of calls: their numbers one after the other, and how many of each answer.
use Rattle.std.proofs.Common.{◌≡◌, ℕ, zero, suc, ◌+◌, ◌-◌, ◌<◌, true, false, eqb, List, [], ◌∷◌, ◌++◌, length, length-append, Some, None, refl, ap, ◌∙◌, arith}
use Rattle.std.specs.Prelude.{map, slice_get}
use Rattle.std.specs.List.{find, range_with_len}
use Rattle.std.proofs.lemmas.Bool.{eq-eqb, ne_eqb}
use Rattle.std.proofs.lemmas.List.Elements.{filter-append}
use Rattle.dl_events.specs.declared.record.Answer.TheVariants as answer
use Rattle.dl_events.specs.declared.record.Record.{Record}
use Rattle.dl_model.specs.Accounts.{with_answer}
use Rattle.dl_model.specs.Report.{is_answer}
use Rattle.dl_model.specs.WholeAccounts.{records_by}

abbrev pub AreNumberedFrom : ℕ → List Record → Type 0
AreNumberedFrom first records = map (λ (r : Record). r.item.call) records ≡ range_with_len first (length records)

pub first_is : (first : ℕ) (r : Record) (records : List Record) → AreNumberedFrom first (r ∷ records) → r.item.call ≡ first
first_is first r records are = cc

pub others_are : (first : ℕ) (r : Record) (records : List Record) → AreNumberedFrom first (r ∷ records) → AreNumberedFrom (first + 1) records
others_are first r records are = cc

-- a number below the first one is no call's
pub none_below : (first call : ℕ) (records : List Record) → AreNumberedFrom first records → call < first → find (λ (r : Record). eqb r.item.call call) records ≡ None
none_below first call [] are lt = refl
none_below first call (r ∷ records) are lt =
    let apart : eqb r.item.call call ≡ false = ne_eqb r.item.call call (λ same. omega (arith, same, first_is first r records are, lt)) in
    rw apart (none_below (first + 1) call records (others_are first r records are) (omega (arith, lt)))

-- the call of a number stands at its place
pub found_at : (first place : ℕ) (records : List Record) → AreNumberedFrom first records → find (λ (r : Record). eqb r.item.call (first + place)) records ≡ slice_get records place
found_at first place [] are = refl
found_at first zero (r ∷ records) are =
    let same : eqb r.item.call (first + 0) ≡ true = eq-eqb r.item.call (first + 0) (omega (arith, first_is first r records are)) in
    rw same refl
found_at first (suc place) (r ∷ records) are =
    let apart : eqb r.item.call (first + suc place) ≡ false = ne_eqb r.item.call (first + suc place) (λ same. omega (arith, same, first_is first r records are)) in
    let next : first + suc place ≡ (first + 1) + place = omega arith in
    rw apart (ap (λ (n : ℕ). find (λ (x : Record). eqb x.item.call n) records) next ∙ found_at (first + 1) place records (others_are first r records are))

-- a writer's records, where they stand at its place
pub records_at : (writer : ℕ) (records : List (List Record)) (own : List Record) → (writer ≡ 0 → ⊥) → slice_get records (writer - 1) ≡ Some own → records_by writer records ≡ own
records_at writer records own some at = rw (ne_eqb writer 0 some, at) refl

pub with_answer-append : (xs ys : List Record) → length (with_answer answer.Lost (xs ++ ys)) ≡ length (with_answer answer.Lost xs) + length (with_answer answer.Lost ys)
with_answer-append xs ys = ap length (filter-append (λ (r : Record). is_answer answer.Lost r.answer) xs ys) ∙ length-append (with_answer answer.Lost xs) (with_answer answer.Lost ys)
