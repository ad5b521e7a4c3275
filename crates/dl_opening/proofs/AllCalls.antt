-- All books together have room for as many calls as a scenario may ask for.
use Rattle.std.proofs.Common.{◌≡◌, ℕ, zero, suc, ◌+◌, ◌≤◌, cond, eqb, ltb, Bool, true, false, not, List, [], ◌∷◌, length, refl, ap, ◌∙◌, ne_eqb, arith}
use Rattle.std.specs.Prelude.{sum_by}
use Rattle.std.specs.List.{range_with_len}
use Rattle.std.proofs.lemmas.Bool.{eqb-true, ltb-false}
use Rattle.std.proofs.lemmas.List.Sums.{sum_by-cons}
use Rattle.dl_script_fields.specs.declared.kind.ScriptKind.TheVariants.{Limit, Unknown}
use Rattle.dl_script_model.specs.declared.scenario.ScenarioLine.{ScenarioLine}
use Rattle.dl_script_model.specs.declared.scenario.ScenarioLine.TheVariants as line
use Rattle.dl_script.specs.Earlier.{Declared, logs_under, noted, nothing}
use Rattle.dl_script.specs.Playable.{IsRunnable}
use Rattle.dl_script.specs.Spelled.{MayFollow, scenario_claim}
use Rattle.dl_writer.specs.State.{BookState, numbers}
use Rattle.dl_crew.specs.Calls.{count_in, count_of}
use Rattle.dl_crew.specs.Plays.{ArePairs}
use Rattle.dl_opening.specs.Opening.{IsBookOf, IsOpened}
use Rattle.dl_opening.specs.Scenario.{all_calls, calls_in, writers}
use Rattle.dl_opening.specs.declared.opened.Opened.{Opened}
use Rattle.dl_opening.proofs.Runnable.{may_claim, no_cause}
use Rattle.dl_lemmas.proofs.Lists.{head_is, tail_is}

-- ---- what all lines ask

-- one line after the other
abbrev total : List ScenarioLine → ℕ
total [] = 0
total (entry ∷ lines) = calls_in entry + total lines

total_is : (lines : List ScenarioLine) → all_calls lines ≡ total lines
total_is [] = refl
total_is (entry ∷ lines) = let rest = total_is lines in let all = sum_by-cons calls_in entry lines in omega (arith, rest, all)

total_few : (known : Declared) (lines : List ScenarioLine) → MayFollow scenario_claim known lines → known.calls ≤ 1000000 → known.calls + total lines ≤ 1000000
total_few known [] may few = omega (arith, few)
total_few known (line.App app ∷ lines) may few = let rest = total_few (noted known (scenario_claim (line.App app))) lines may.1 few in omega (arith, rest)
total_few known (line.Context context ∷ lines) may few = let rest = total_few (noted known (scenario_claim (line.Context context))) lines may.1 few in omega (arith, rest)
total_few known (line.Writer apid ∷ lines) may few = let rest = total_few (noted known (scenario_claim (line.Writer apid))) lines may.1 few in omega (arith, rest)
total_few known (line.Register asked ∷ lines) may few =
    let same = ap (λ (d : Declared). d.calls) (may_claim known asked.writer asked.ctid may.0).notes in
    let rest = total_few (noted known (scenario_claim (line.Register asked))) lines may.1 (omega (arith, same, few)) in
    omega (arith, rest, same)
total_few known (line.Calls number ctid severity count payload ∷ lines) may few =
    let unknown = no_cause (not (logs_under known number ctid)) Unknown ((ltb 1000000 (known.calls + count), Limit) ∷ []) may.0 in
    let limit = no_cause (ltb 1000000 (known.calls + count)) Limit [] unknown.rest in
    let room = ltb-false 1000000 (known.calls + count) limit.this in
    let rest = total_few (noted known (scenario_claim (line.Calls number ctid severity count payload))) lines may.1 room in
    omega (arith, rest)
total_few known (line.Client ∷ lines) may few = let rest = total_few (noted known (scenario_claim line.Client)) lines may.1 few in omega (arith, rest)
total_few known (line.Send client bytes ∷ lines) may few = let rest = total_few (noted known (scenario_claim (line.Send client bytes))) lines may.1 few in omega (arith, rest)
total_few known (line.Leave client count ∷ lines) may few = let rest = total_few (noted known (scenario_claim (line.Leave client count))) lines may.1 few in omega (arith, rest)

-- ---- what they ask of writers that are numbered in a row

abbrev pub of_row : (ℕ → ℕ) → ℕ → ℕ → ℕ
of_row f from zero = 0
of_row f from (suc count) = f from + of_row f (from + 1) count

pub row_zero : (f : ℕ → ℕ) (from count : ℕ) → ((n : ℕ) → from ≤ n → f n ≡ 0) → of_row f from count ≡ 0
row_zero f from zero none = refl
row_zero f from (suc count) none =
    let here = none from (omega arith) in
    let rest = row_zero f (from + 1) count (λ n above. none n (omega (arith, above))) in
    omega (arith, here, rest)

pub row_sum : (f g h : ℕ → ℕ) (from count : ℕ) → ((n : ℕ) → f n ≡ g n + h n) → of_row f from count ≡ of_row g from count + of_row h from count
row_sum f g h from zero same = omega arith
row_sum f g h from (suc count) same = let here = same from in let rest = row_sum f g h (from + 1) count same in omega (arith, here, rest)

pub row_same : (f g : ℕ → ℕ) (from count : ℕ) → ((n : ℕ) → f n ≡ g n) → of_row f from count ≡ of_row g from count
row_same f g from zero same = refl
row_same f g from (suc count) same = let here = same from in let rest = row_same f g (from + 1) count same in omega (arith, here, rest)

-- a line asks one writer at most
pub once : (number calls from count : ℕ) → of_row (λ writer. cond (eqb number writer) calls 0) from count ≤ calls
once number calls from zero = omega arith
once number calls from (suc count) = by_test (eqb number from) refl (once number calls (from + 1) count) where
  by_test : (b : Bool) → eqb number from ≡ b → of_row (λ writer. cond (eqb number writer) calls 0) (from + 1) count ≤ calls
      → cond b calls 0 + of_row (λ writer. cond (eqb number writer) calls 0) (from + 1) count ≤ calls
  by_test false other rest = omega (arith, rest)
  by_test true here rest =
      let same = eqb-true number from here in
      let none = row_zero (λ writer. cond (eqb number writer) calls 0) (from + 1) count
      (λ n above. ap (λ (b : Bool). cond b calls 0) (ne_eqb number n (λ is. omega (arith, is, same, above)))) in
      omega (arith, none)

line_once : (entry : ScenarioLine) (from count : ℕ) → of_row (λ writer. count_in writer entry) from count ≤ calls_in entry
line_once (line.App app) from count = let none = row_zero (λ writer. 0) from count (λ n above. refl) in omega (arith, none)
line_once (line.Context context) from count = let none = row_zero (λ writer. 0) from count (λ n above. refl) in omega (arith, none)
line_once (line.Writer apid) from count = let none = row_zero (λ writer. 0) from count (λ n above. refl) in omega (arith, none)
line_once (line.Register asked) from count = let none = row_zero (λ writer. 0) from count (λ n above. refl) in omega (arith, none)
line_once (line.Calls number ctid severity calls payload) from count = once number calls from count
line_once line.Client from count = let none = row_zero (λ writer. 0) from count (λ n above. refl) in omega (arith, none)
line_once (line.Send client bytes) from count = let none = row_zero (λ writer. 0) from count (λ n above. refl) in omega (arith, none)
line_once (line.Leave client bytes) from count = let none = row_zero (λ writer. 0) from count (λ n above. refl) in omega (arith, none)

lines_once : (lines : List ScenarioLine) (from count : ℕ) → of_row (λ writer. count_of writer lines) from count ≤ total lines
lines_once [] from count = let none = row_zero (λ writer. count_of writer []) from count (λ n above. refl) in omega (arith, none)
lines_once (entry ∷ lines) from count =
    let parted = row_sum (λ writer. count_of writer (entry ∷ lines)) (λ writer. count_in writer entry) (λ writer. count_of writer lines) from count
    (λ n. sum_by-cons (count_in n) entry lines) in
    let first = line_once entry from count in
    let rest = lines_once lines from count in
    omega (arith, parted, first, rest)

-- ---- the books

rooms : (lines : List ScenarioLine) (from : ℕ) (apids : List (List ℕ)) (books : List BookState) → numbers books ≡ range_with_len from (length books) → ArePairs (IsBookOf lines) apids books
    → sum_by (λ b. b.room) books ≡ of_row (λ writer. count_of writer lines) from (length books)
rooms lines from [] [] numbered pairs = refl
rooms lines from [] (b ∷ books) numbered pairs = absurd pairs
rooms lines from (apid ∷ apids) [] numbered pairs = absurd pairs
rooms lines from (apid ∷ apids) (b ∷ books) numbered pairs =
    let number = head_is b.writer.push.number from (numbers books) (range_with_len (from + 1) (length books)) numbered in
    let others = tail_is b.writer.push.number from (numbers books) (range_with_len (from + 1) (length books)) numbered in
    let here = pairs.0.room ∙ ap (λ (n : ℕ). count_of n lines) number in
    let rest = rooms lines (from + 1) apids books others pairs.1 in
    let all = sum_by-cons (λ (b : BookState). b.room) b books in
    omega (arith, here, rest, all)

pub rooms_fit : (lines : List ScenarioLine) (o : Opened) → IsOpened lines o → sum_by (λ b. b.room) o.books ≤ all_calls lines
rooms_fit lines o is =
    let all = rooms lines 1 (writers lines) o.books is.books.numbered is.books.each in
    let once_each = lines_once lines 1 (length o.books) in
    let whole = total_is lines in
    omega (arith, all, once_each, whole)

pub few_calls : (lines : List ScenarioLine) → IsRunnable lines → all_calls lines ≤ 1000000
few_calls lines runs =
    let few = total_few nothing lines runs.follows (omega arith) in
    let whole = total_is lines in
    omega (arith, few, whole)
