-- What the lines so far ask of a writer, with one line more.
use Rattle.std.proofs.Common.{◌≡◌, ℕ, ◌+◌, ◌≤◌, ◌<◌, Bool, true, false, cond, eqb, ltb, get_or, List, [], ◌∷◌, ◌++◌, length, drop, take, replicate, Option, Some, None, refl, sym, ap, ◌∙◌, subst, append-nil, append_assoc, length-append, arith}
use Rattle.std.specs.Prelude.{All, sum_by}
use Rattle.std.specs.List.{cons_option}
use Rattle.std.specs.Option.{option_map_or, option_to_list}
use Rattle.std.proofs.Math.Dec.{lit≤}
use Rattle.std.proofs.lemmas.Bool.{le-ltb}
use Rattle.std.proofs.lemmas.List.{length-replicate, take-append-drop, take-append-le, take_more}
use Rattle.std.proofs.lemmas.List.Elements.{All-cons, All-head, All-nil, All-tail, filter_map-append}
use Rattle.std.proofs.lemmas.List.Sums.{sum_by-append, sum_by-cons, sum_by-take-drop}
use Rattle.dl_bytes.specs.Claim.{Claimed}
use Rattle.dl_bytes.specs.Context.{Context}
use Rattle.dl_script_model.specs.declared.line.ClaimLine.{ClaimLine}
use Rattle.dl_script_model.specs.declared.scenario.ScenarioLine.{ScenarioLine}
use Rattle.dl_script_model.specs.declared.scenario.ScenarioLine.TheVariants as line
use Rattle.dl_writer.specs.State.{WriterState}
use Rattle.dl_crew.specs.Calls.{CallContent, behind_from, calls_from, calls_in, content, context_named, count_in, count_of, counted, handles_of, register_in, registers_of}

-- ---- one line

pub line_asks : (contexts own : List Context) (app writer : ℕ) (entry : ScenarioLine) → length (calls_in contexts own app writer entry) ≤ count_in writer entry
line_asks contexts own app writer (line.App a) = lit≤ tt
line_asks contexts own app writer (line.Context c) = lit≤ tt
line_asks contexts own app writer (line.Writer apid) = lit≤ tt
line_asks contexts own app writer (line.Register asked) = lit≤ tt
line_asks contexts own app writer (line.Calls number ctid severity count payload) = by_test (eqb number writer) (context_named contexts own app ctid) where
  by_test : (b : Bool) (ctx : Option Context)
      → length (cond b (option_map_or (λ (ctx : Context). replicate count (content ctx severity payload)) ctx []) []) ≤ cond b count 0
  by_test false ctx = lit≤ tt
  by_test true None = omega arith
  by_test true (Some ctx) = let long = length-replicate count (content ctx severity payload) in omega (arith, long)
line_asks contexts own app writer line.Client = lit≤ tt
line_asks contexts own app writer (line.Send client bytes) = lit≤ tt
line_asks contexts own app writer (line.Leave client count) = lit≤ tt

-- ---- one line more

module _ (writer : ℕ) where
  registers_cons : (entry : ScenarioLine) (lines : List ScenarioLine) → length (registers_of writer (entry ∷ lines)) ≡ counted (register_in writer entry) + length (registers_of writer lines)
  registers_cons entry lines = by_line (register_in writer entry) where
    by_line : (o : Option ClaimLine) → length (cons_option o (registers_of writer lines)) ≡ counted o + length (registers_of writer lines)
    by_line None = omega arith
    by_line (Some asked) = omega arith

  one_register : (entry : ScenarioLine) → registers_of writer (entry ∷ []) ≡ option_to_list (register_in writer entry)
  one_register entry = by_line (register_in writer entry) where
    by_line : (o : Option ClaimLine) → cons_option o [] ≡ option_to_list o
    by_line None = refl
    by_line (Some asked) = refl

  pub registers_more : (lines : List ScenarioLine) (entry : ScenarioLine) → registers_of writer (lines ++ entry ∷ []) ≡ registers_of writer lines ++ option_to_list (register_in writer entry)
  registers_more lines entry =
      filter_map-append (register_in writer) lines (entry ∷ []) ∙ ap (λ (l : List ClaimLine). registers_of writer lines ++ l) (one_register entry)

module _ (contexts : List Context) (w : WriterState) where
  pub calls_few : (claims : List Claimed) (before : ℕ) (lines : List ScenarioLine) → length (calls_from contexts w claims before lines) ≤ count_of w.push.number lines
  calls_few claims before [] = lit≤ tt
  calls_few claims before (entry ∷ lines) =
      let here = calls_in contexts (handles_of w (take before claims)) w.app w.push.number entry in
      let next = before + counted (register_in w.push.number entry) in
      let first = line_asks contexts (handles_of w (take before claims)) w.app w.push.number entry in
      let rest = calls_few claims next lines in
      let long = length-append here (calls_from contexts w claims next lines) in
      let sum = sum_by-cons (count_in w.push.number) entry lines in
      omega (arith, first, rest, long, sum)

  pub calls_on : (claims : List Claimed) (before : ℕ) (lines : List ScenarioLine) (entry : ScenarioLine)
      → calls_from contexts w claims before (lines ++ entry ∷ [])
      ≡ calls_from contexts w claims before lines
      ++ calls_in contexts (handles_of w (take (before + length (registers_of w.push.number lines)) claims)) w.app w.push.number entry
  calls_on claims before [] entry =
      let same : before ≡ before + 0 = omega arith in
      append-nil (calls_in contexts (handles_of w (take before claims)) w.app w.push.number entry)
      ∙ ap (λ (n : ℕ). calls_in contexts (handles_of w (take n claims)) w.app w.push.number entry) same
  calls_on claims before (first ∷ lines) entry =
      let next = before + counted (register_in w.push.number first) in
      let count = registers_cons w.push.number first lines in
      let same : next + length (registers_of w.push.number lines) ≡ before + length (registers_of w.push.number (first ∷ lines)) = omega (arith, count) in
      let here = calls_in contexts (handles_of w (take before claims)) w.app w.push.number first in
      ap (λ (l : List CallContent). here ++ l)
      (calls_on claims next lines entry
      ∙ ap (λ (n : ℕ). calls_from contexts w claims next lines ++ calls_in contexts (handles_of w (take n claims)) w.app w.push.number entry) same)
      ∙ sym (append_assoc here (calls_from contexts w claims next lines)
      (calls_in contexts (handles_of w (take (before + length (registers_of w.push.number (first ∷ lines))) claims)) w.app w.push.number entry))

  pub behind_on : (claims : List Claimed) (number before : ℕ) (lines : List ScenarioLine) (entry : ScenarioLine)
      → behind_from contexts w claims number before (lines ++ entry ∷ [])
      ≡ behind_from contexts w claims number before lines
      + cond (ltb number (before + length (registers_of w.push.number lines)))
      (length (calls_in contexts (handles_of w (take (before + length (registers_of w.push.number lines)) claims)) w.app w.push.number entry)) 0
  behind_on claims number before [] entry =
      let same : before ≡ before + 0 = omega arith in
      let here = ap (λ (n : ℕ). cond (ltb number n) (length (calls_in contexts (handles_of w (take n claims)) w.app w.push.number entry)) 0) same in
      omega (arith, here)
  behind_on claims number before (first ∷ lines) entry =
      let next = before + counted (register_in w.push.number first) in
      let count = registers_cons w.push.number first lines in
      let same : next + length (registers_of w.push.number lines) ≡ before + length (registers_of w.push.number (first ∷ lines)) = omega (arith, count) in
      let rest = behind_on claims number next lines entry in
      let here = ap (λ (n : ℕ). cond (ltb number n) (length (calls_in contexts (handles_of w (take n claims)) w.app w.push.number entry)) 0) same in
      omega (arith, rest, here)

  -- claims of later lines count for nothing
  pub calls_same : (claims more : List Claimed) (before : ℕ) (lines : List ScenarioLine) → before + length (registers_of w.push.number lines) ≤ length claims
      → calls_from contexts w (claims ++ more) before lines ≡ calls_from contexts w claims before lines
  calls_same claims more before [] few = refl
  calls_same claims more before (entry ∷ lines) few =
      let count = registers_cons w.push.number entry lines in
      let next = before + counted (register_in w.push.number entry) in
      let same = take-append-le before claims more (omega (arith, few, count)) in
      let rest = calls_same claims more next lines (omega (arith, few, count)) in
      ap (λ (l : List Claimed). calls_in contexts (handles_of w l) w.app w.push.number entry ++ calls_from contexts w (claims ++ more) next lines) same
      ∙ ap (λ (l : List CallContent). calls_in contexts (handles_of w (take before claims)) w.app w.push.number entry ++ l) rest

  pub behind_same : (claims more : List Claimed) (number before : ℕ) (lines : List ScenarioLine) → before + length (registers_of w.push.number lines) ≤ length claims
      → behind_from contexts w (claims ++ more) number before lines ≡ behind_from contexts w claims number before lines
  behind_same claims more number before [] few = refl
  behind_same claims more number before (entry ∷ lines) few =
      let count = registers_cons w.push.number entry lines in
      let next = before + counted (register_in w.push.number entry) in
      let same = take-append-le before claims more (omega (arith, few, count)) in
      let rest = behind_same claims more number next lines (omega (arith, few, count)) in
      let here = ap (λ (l : List Claimed). cond (ltb number before) (length (calls_in contexts (handles_of w l) w.app w.push.number entry)) 0) same in
      omega (arith, here, rest)

  -- nothing stands behind a line that isn't there yet
  pub behind_none : (claims : List Claimed) (number before : ℕ) (lines : List ScenarioLine) → before + length (registers_of w.push.number lines) ≤ number
      → behind_from contexts w claims number before lines ≡ 0
  behind_none claims number before [] few = refl
  behind_none claims number before (entry ∷ lines) few =
      let count = registers_cons w.push.number entry lines in
      let next = before + counted (register_in w.push.number entry) in
      let rest = behind_none claims number next lines (omega (arith, few, count)) in
      let here = ap (λ (b : Bool). cond b (length (calls_in contexts (handles_of w (take before claims)) w.app w.push.number entry)) 0) (le-ltb number before (omega (arith, few))) in
      omega (arith, here, rest)

-- ---- parts of a list of which all

pub all_before : {A : Type 0} (P : A → Type 0) (xs ys : List A) → All P (xs ++ ys) → All P xs
all_before P [] ys all = All-nil P
all_before P (x ∷ xs) ys all = All-cons P x xs (All-head P x (xs ++ ys) all) (all_before P xs ys (All-tail P x (xs ++ ys) all))

pub all_behind : {A : Type 0} (P : A → Type 0) (xs ys : List A) → All P (xs ++ ys) → All P ys
all_behind P [] ys all = all
all_behind P (x ∷ xs) ys all = all_behind P xs ys (All-tail P x (xs ++ ys) all)

-- ---- the lines up to a place

module _ (lines : List ScenarioLine) (place : ℕ) (entry : ScenarioLine) (less : place < length lines) (is : get_or lines place entry ≡ entry) (writer : ℕ) where
  pub taken_more : take (place + 1) lines ≡ take place lines ++ entry ∷ []
  taken_more = take_more lines place entry less ∙ ap (λ (l : ScenarioLine). take place lines ++ l ∷ []) is

  pub count_fits : count_of writer (take place lines) + count_in writer entry ≤ count_of writer lines
  count_fits =
      let all = sum_by-take-drop (count_in writer) lines (place + 1) in
      let parts = ap (sum_by (count_in writer)) taken_more ∙ sum_by-append (count_in writer) (take place lines) (entry ∷ []) in
      omega (arith, all, parts)

  registers_parted : registers_of writer lines ≡ (registers_of writer (take place lines) ++ option_to_list (register_in writer entry)) ++ registers_of writer (drop (place + 1) lines)
  registers_parted =
      ap (registers_of writer) (sym (take-append-drop (place + 1) lines)) ∙ filter_map-append (register_in writer) (take (place + 1) lines) (drop (place + 1) lines)
      ∙ ap (λ (l : List ScenarioLine). registers_of writer l ++ registers_of writer (drop (place + 1) lines)) taken_more
      ∙ ap (λ (l : List ClaimLine). l ++ registers_of writer (drop (place + 1) lines)) (registers_more writer (take place lines) entry)

  pub registers_fit : length (registers_of writer (take place lines)) + length (option_to_list (register_in writer entry)) ≤ length (registers_of writer lines)
  registers_fit =
      let parts = ap length registers_parted in
      let front = length-append (registers_of writer (take place lines) ++ option_to_list (register_in writer entry)) (registers_of writer (drop (place + 1) lines)) in
      let here = length-append (registers_of writer (take place lines)) (option_to_list (register_in writer entry)) in
      omega (arith, parts, front, here)

  pub all_here : (P : ClaimLine → Type 0) → All P (registers_of writer lines) → All P (option_to_list (register_in writer entry))
  all_here P all =
      all_behind P (registers_of writer (take place lines)) (option_to_list (register_in writer entry))
      (all_before P (registers_of writer (take place lines) ++ option_to_list (register_in writer entry)) (registers_of writer (drop (place + 1) lines))
      (subst (λ (l : List ClaimLine). All P l) registers_parted all))
