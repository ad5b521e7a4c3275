-- Lines that can be run declare no more contexts of an application, and claim no more places of it, than it has.
use Rattle.std.proofs.Common.{◌≡◌, ℕ, zero, suc, ◌+◌, ◌-◌, ◌≤◌, cond, eqb, leb, Bool, true, false, not, ◌||◌, List, [], ◌∷◌, ◌++◌, length, Option, Some, None, slice_get, refl, sym, ap, ◌∙◌, subst, append_assoc, arith}
use Rattle.std.specs.Prelude.{count_by}
use Rattle.std.specs.List.{cons_option}
use Rattle.std.specs.Option.{option_map_or}
use Rattle.std.specs.Str.{bytes_eq}
use Rattle.std.proofs.lemmas.Bool.{eqb-true, leb-false}
use Rattle.std.proofs.lemmas.List.Sums.{sum_by-append}
use Rattle.std.proofs.lemmas.Slice.Eq.{bytes_eq-Decides}
use Rattle.dl_script_fields.specs.declared.kind.ScriptKind.TheVariants.{Limit, Order, Twice, Unknown}
use Rattle.dl_script_model.specs.declared.line.ClaimLine.{ClaimLine}
use Rattle.dl_script_model.specs.declared.line.ContextLine.{ContextLine}
use Rattle.dl_script_model.specs.declared.scenario.ScenarioLine.{ScenarioLine}
use Rattle.dl_script_model.specs.declared.scenario.ScenarioLine.TheVariants as line
use Rattle.dl_script.specs.Earlier.{Declared, is_app, is_claimed_on, is_context, is_of, is_on, noted, nothing, numbered, places_on}
use Rattle.dl_script.specs.Playable.{IsRunnable}
use Rattle.dl_script.specs.Spelled.{MayFollow, scenario_claim}
use Rattle.dl_script.specs.declared.claim.ContextName.{ContextName}
use Rattle.dl_script.specs.declared.claim.PlaceName.{PlaceName}
use Rattle.dl_crew.specs.Calls.{counted, register_in, registers_of}
use Rattle.dl_opening.specs.Scenario.{contexts_of, writers}
use Rattle.dl_opening.proofs.AllCalls.{of_row, once, row_same, row_sum, row_zero}
use Rattle.dl_opening.proofs.Runnable.{may_claim, no_cause}

-- ---- who was declared stays declared

longer_still : (xs ys : List (List ℕ)) (place : ℕ) (x : List ℕ) → slice_get xs place ≡ Some x → slice_get (xs ++ ys) place ≡ Some x
longer_still [] ys place x at = absurd cc
longer_still (y ∷ xs) ys zero x at = at
longer_still (y ∷ xs) ys (suc place) x at = longer_still xs ys place x at

pub numbered_still : (xs ys : List (List ℕ)) (number : ℕ) (x : List ℕ) → numbered xs number ≡ Some x → numbered (xs ++ ys) number ≡ Some x
numbered_still xs ys number x at = by_test (eqb number 0) at where
  by_test : (b : Bool) → cond b None (slice_get xs (number - 1)) ≡ Some x → cond b None (slice_get (xs ++ ys) (number - 1)) ≡ Some x
  by_test true none = absurd cc
  by_test false at = longer_still xs ys (number - 1) x at

-- ---- one more, counted where it passes

more_by : {A : Type 0} (p : A → Bool) (xs : List A) (x : A) → count_by p (xs ++ x ∷ []) ≡ count_by p xs + cond (p x) 1 0
more_by p xs x =
    let both = sum_by-append (λ y. cond (p y) 1 0) xs (x ∷ []) in
    let last : count_by p (x ∷ []) ≡ cond (p x) 1 0 = omega arith in
    omega (arith, both, last)

-- where another application is meant, nothing is counted
room_for_one : (known : Declared) (other apid : List ℕ) → places_on known other ≤ 63 → places_on known apid ≤ 64 → places_on known apid + cond (bytes_eq other apid) 1 0 ≤ 64
room_for_one known other apid room few = by_app (bytes_eq other apid) refl where
  by_app : (b : Bool) → bytes_eq other apid ≡ b → places_on known apid + cond b 1 0 ≤ 64
  by_app true same = let here = subst (λ (id : List ℕ). places_on known id ≤ 63) ((bytes_eq-Decides other apid).0 same) room in omega (arith, here)
  by_app false other = omega (arith, few)

one_or_none : (b : Bool) (context : ContextLine) (rest : List ContextLine) → length (cons_option (cond b (Some context) None) rest) ≡ cond b 1 0 + length rest
one_or_none true context rest = omega arith
one_or_none false context rest = omega arith

-- ---- the places of an application

-- the writer with this number is one of the application, where all writers are of these
abbrev pub is_own : List (List ℕ) → List ℕ → ℕ → Bool
is_own all apid writer = option_map_or (λ id. bytes_eq id apid) (numbered all writer) false

-- a line claims one of its places
abbrev claim_in : List (List ℕ) → List ℕ → ScenarioLine → ℕ
claim_in all apid (line.Register asked) = cond (is_own all apid asked.writer) 1 0
claim_in all apid _ = 0

-- how many the lines do
abbrev pub claims_on : List (List ℕ) → List ℕ → List ScenarioLine → ℕ
claims_on all apid [] = 0
claims_on all apid (entry ∷ lines) = claim_in all apid entry + claims_on all apid lines

module _ (all : List (List ℕ)) (apid : List ℕ) where
  fit : (known : Declared) (lines : List ScenarioLine) → MayFollow scenario_claim known lines → known.writers ++ writers lines ≡ all → places_on known apid ≤ 64
      → places_on known apid + length (contexts_of apid lines) + claims_on all apid lines ≤ 64
  fit known [] may same few = omega (arith, few)
  fit known (line.App app ∷ lines) may same few = let rest = fit (noted known (scenario_claim (line.App app))) lines may.1 same few in omega (arith, rest)
  fit known (line.Context context ∷ lines) may same few =
      let order = no_cause (known.user || is_claimed_on known context.apid) Order
      ((not (is_app known context.apid), Unknown) ∷ (is_context known context.apid context.ctid, Twice) ∷ (leb 64 (places_on known context.apid), Limit) ∷ []) may.0 in
      let unknown = no_cause (not (is_app known context.apid)) Unknown ((is_context known context.apid context.ctid, Twice) ∷ (leb 64 (places_on known context.apid), Limit) ∷ []) order.rest in
      let twice = no_cause (is_context known context.apid context.ctid) Twice ((leb 64 (places_on known context.apid), Limit) ∷ []) unknown.rest in
      let limit = no_cause (leb 64 (places_on known context.apid)) Limit [] twice.rest in
      let below = leb-false 64 (places_on known context.apid) limit.this in
      let room = room_for_one known context.apid apid (omega (arith, below)) few in
      let name : ContextName = record { apid = context.apid; ctid = context.ctid } in
      let more = more_by (is_of apid) known.contexts name in
      let many = one_or_none (bytes_eq context.apid apid) context (contexts_of apid lines) in
      let rest = fit (noted known (scenario_claim (line.Context context))) lines may.1 same (omega (arith, room, more)) in
      omega (arith, rest, more, many)
  fit known (line.Writer id ∷ lines) may same few =
      let rest = fit (noted known (scenario_claim (line.Writer id))) lines may.1 (append_assoc known.writers (id ∷ []) (writers lines) ∙ same) few in
      omega (arith, rest)
  fit known (line.Register asked ∷ lines) may same few =
      let claims = may_claim known asked.writer asked.ctid may.0 in
      let own = ap (λ (ids : List (List ℕ)). numbered ids asked.writer) (sym same) ∙ numbered_still known.writers (writers lines) asked.writer claims.apid claims.own in
      let one : claim_in all apid (line.Register asked) ≡ cond (bytes_eq claims.apid apid) 1 0 =
      ap (λ (o : Option (List ℕ)). cond (option_map_or (λ id. bytes_eq id apid) o false) 1 0) own in
      let room = room_for_one known claims.apid apid claims.room few in
      let name : PlaceName = record { writer = asked.writer; apid = claims.apid; ctid = asked.ctid } in
      let more = more_by (is_on apid) known.places name in
      let notes = ap (λ (d : Declared). places_on d apid) claims.notes in
      let rest = fit (noted known (scenario_claim (line.Register asked))) lines may.1 (ap (λ (d : Declared). d.writers ++ writers lines) claims.notes ∙ same) (omega (arith, room, more, notes)) in
      omega (arith, rest, more, notes, one)
  fit known (line.Calls number ctid severity count payload ∷ lines) may same few =
      let rest = fit (noted known (scenario_claim (line.Calls number ctid severity count payload))) lines may.1 same few in omega (arith, rest)
  fit known (line.Client ∷ lines) may same few = let rest = fit (noted known (scenario_claim line.Client)) lines may.1 same few in omega (arith, rest)
  fit known (line.Send client bytes ∷ lines) may same few = let rest = fit (noted known (scenario_claim (line.Send client bytes))) lines may.1 same few in omega (arith, rest)
  fit known (line.Leave client count ∷ lines) may same few = let rest = fit (noted known (scenario_claim (line.Leave client count))) lines may.1 same few in omega (arith, rest)

  -- ---- writer by writer

  -- how many `register` lines a writer has that is one of the application
  abbrev pub own_claims : List ScenarioLine → ℕ → ℕ
  own_claims lines writer = cond (is_own all apid writer) (length (registers_of writer lines)) 0

  none_row : (from count : ℕ) → of_row (λ writer. cond (is_own all apid writer) 0 0) from count ≡ 0
  none_row from count = row_zero (λ writer. cond (is_own all apid writer) 0 0) from count (λ n above. by_test (is_own all apid n)) where
    by_test : (b : Bool) → cond {A = ℕ} b 0 0 ≡ 0
    by_test true = refl
    by_test false = refl

  -- one line claims one place at most, whichever writers are looked at
  line_row : (entry : ScenarioLine) (from count : ℕ) → of_row (λ writer. cond (is_own all apid writer) (counted (register_in writer entry)) 0) from count ≤ claim_in all apid entry
  line_row (line.App app) from count = let none = none_row from count in omega (arith, none)
  line_row (line.Context context) from count = let none = none_row from count in omega (arith, none)
  line_row (line.Writer id) from count = let none = none_row from count in omega (arith, none)
  line_row (line.Register asked) from count =
      let f : ℕ → ℕ = λ writer. cond (is_own all apid writer) (counted (register_in writer (line.Register asked))) 0 in
      let g : ℕ → ℕ = λ writer. cond (eqb asked.writer writer) (cond (is_own all apid asked.writer) 1 0) 0 in
      let same = row_same f g from count (λ n. by_writer n (eqb asked.writer n) refl) in
      let one = once asked.writer (cond (is_own all apid asked.writer) 1 0) from count in
      omega (arith, same, one) where
        by_own : (b : Bool) → cond {A = ℕ} b 0 0 ≡ 0
        by_own true = refl
        by_own false = refl

        by_writer : (n : ℕ) (b : Bool) → eqb asked.writer n ≡ b
            → cond (is_own all apid n) (counted (cond b (Some asked) None)) 0 ≡ cond b (cond (is_own all apid asked.writer) 1 0) 0
        by_writer n true is = ap (λ (k : ℕ). cond (is_own all apid k) 1 0) (sym (eqb-true asked.writer n is))
        by_writer n false is = by_own (is_own all apid n)
  line_row (line.Calls number ctid severity calls payload) from count = let none = none_row from count in omega (arith, none)
  line_row line.Client from count = let none = none_row from count in omega (arith, none)
  line_row (line.Send client bytes) from count = let none = none_row from count in omega (arith, none)
  line_row (line.Leave client bytes) from count = let none = none_row from count in omega (arith, none)

  pub lines_row : (lines : List ScenarioLine) (from count : ℕ) → of_row (own_claims lines) from count ≤ claims_on all apid lines
  lines_row [] from count = let none = none_row from count in omega (arith, none)
  lines_row (entry ∷ lines) from count =
      let parted = row_sum (own_claims (entry ∷ lines)) (λ writer. cond (is_own all apid writer) (counted (register_in writer entry)) 0) (own_claims lines) from count
      (λ n. by_line (is_own all apid n) (register_in n entry) (registers_of n lines)) in
      let first = line_row entry from count in
      let rest = lines_row lines from count in
      omega (arith, parted, first, rest) where
        by_line : (b : Bool) (o : Option ClaimLine) (rest : List ClaimLine) → cond b (length (cons_option o rest)) 0 ≡ cond b (counted o) 0 + cond b (length rest) 0
        by_line true None rest = omega arith
        by_line true (Some asked) rest = omega arith
        by_line false o rest = omega arith

module _ (lines : List ScenarioLine) (runs : IsRunnable lines) (apid : List ℕ) where
  pub few_places : length (contexts_of apid lines) + claims_on (writers lines) apid lines ≤ 64
  few_places = let all = fit (writers lines) apid nothing lines runs.follows refl (omega arith) in omega (arith, all)

  -- so many of them are for one writer
  pub few_claims : (writer : ℕ) → numbered (writers lines) writer ≡ Some apid → length (registers_of writer lines) ≤ 64
  few_claims writer own =
      let row = lines_row (writers lines) apid lines writer 1 in
      let is : is_own (writers lines) apid writer ≡ true = ap (λ (o : Option (List ℕ)). option_map_or (λ id. bytes_eq id apid) o false) own ∙ (bytes_eq-Decides apid apid).1 refl in
      let this : own_claims (writers lines) apid lines writer ≡ length (registers_of writer lines) = ap (λ (b : Bool). cond b (length (registers_of writer lines)) 0) is in
      let all = few_places in
      omega (arith, row, this, all)
