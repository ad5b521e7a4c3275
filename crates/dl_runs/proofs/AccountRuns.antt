-- The account of a run so far: of each writer, and of each application.
use Rattle.std.proofs.Common.{◌≡◌, ℕ, zero, suc, ◌+◌, ◌-◌, ◌<◌, ◌≤◌, Bool, true, false, cond, eqb, List, [], ◌∷◌, ◌++◌, length, take, drop, get_or, Option, Some, None, refl, sym, ap, subst, ◌∙◌, length-append, take-append-drop, arith, inl, inr}
use Rattle.std.specs.Prelude.{map, count_by, slice_get, unwrap_or, ◌⊎◌}
use Rattle.std.specs.List.{filter, filter_map, cons_option, range_with_len, AllByRecursion}
use Rattle.std.specs.Option.{option_map}
use Rattle.std.proofs.lemmas.Bool.{eq-eqb, ne_eqb, cases_eq, cases_lt}
use Rattle.std.proofs.lemmas.List.{map-append, length-map}
use Rattle.std.proofs.lemmas.List.Elements.{filter-append, filter_map-append}
use Rattle.std.proofs.lemmas.Option.{slice_get-map, slice_get_past}
use Rattle.dl_lemmas.proofs.Lists.{all_map, by_end, front_empty}
use Rattle.dl_bytes.specs.Claim.{Claimed}
use Rattle.dl_events.specs.declared.record.Record.{Record}
use Rattle.dl_events.specs.declared.record.Answer.TheVariants as answer
use Rattle.dl_model.specs.Along.{last_that}
use Rattle.dl_model.specs.Setting.{Setting}
use Rattle.dl_script_model.specs.Marks.{Call, Mark, Filtered, Queued, Counted, journal, record_of, records_of, recorded, records, writers, writer_numbers, app_of_writer, opened_call, is_step_of, calls_of, announced_by, Pushed, call_in, pushes, taken, queued, pending, is_counted_of, claims as claims_taken}
use Rattle.dl_script_model.specs.Runs.{AreFounded}
use Rattle.dl_model.specs.Report.{is_answer, records_of_app}
use Rattle.dl_model.specs.Accounts.{order, of_writer, name_of, with_answer, AreNumbered, IsExact, AreTold, claimed_by}
use Rattle.dl_model.proofs.Lists.{count_by-append}
use Rattle.dl_runs.proofs.RunLaws.{losses_told, calls_in_order, queued_in_ring, calls_exact}
use Rattle.dl_runs.proofs.RunCalls.{calls_numbered}
use Rattle.dl_model.specs.WholeAccounts.{records_by, claims_by, BelongsTo, IsOwnedSoFar, IsAccountedSoFar}
use Rattle.dl_runs.specs.RunRecords.{refusals_of}
use Rattle.dl_laws.proofs.Alls.{all_filter}
use Rattle.dl_runs.proofs.Relations.{AreAll}
use Rattle.dl_runs.proofs.WriterRuns.{Right}
use Rattle.dl_runs.proofs.WriterLaws.{counted_records, never_falling, lost_refused}
use Rattle.dl_runs.proofs.ClaimPlaces.{home, home_is, claims_waiting, writer_claims, claims_elsewhere, none_announced, places_apart}
use Rattle.dl_runs.proofs.OwnApps.{IsOwnItem, own_records, in_range}
use Rattle.dl_laws.proofs.Partition.{flat_sum, split, all_owners}

-- ---- numbers

front_of_range : (xs ys : List ℕ) (a n : ℕ) → xs ++ ys ≡ range_with_len a n → xs ≡ range_with_len a (length xs)
front_of_range [] ys a n e = refl
front_of_range (x ∷ xs) ys a zero e = absurd cc
front_of_range (x ∷ xs) ys a (suc n) e =
    let head : x ≡ a = ap (λ (l : List ℕ). get_or l 0 0) e in
    let tail : xs ++ ys ≡ range_with_len (a + 1) n = ap (drop 1) e in
    let size : length (x ∷ xs) ≡ suc (length xs) = omega arith in
    ap (λ (v : ℕ). v ∷ xs) head ∙ ap (λ (l : List ℕ). a ∷ l) (front_of_range xs ys (a + 1) n tail) ∙ ap (range_with_len a) (sym size)

pub numbered : (setting : Setting) (writer : ℕ) (marks : List Mark) → AreFounded setting [] marks → AreNumbered (records_of writer marks)
numbered setting writer marks founded =
    let numbers = map (λ (r : Record). r.item.call) (records_of writer marks) in
    let all = calls_numbered setting marks founded writer in
    let size : length numbers ≡ length (records_of writer marks) = length-map (records_of writer marks) (λ (r : Record). r.item.call) in
    front_of_range numbers (map (λ (c : Call). c.item.call) (opened_call (last_that (is_step_of writer) marks))) 1 (calls_of writer marks) all ∙ ap (range_with_len 1) size

-- ---- a writer's calls in the ring of an application are its queued records of it

abbrev nm : Call → ℕ × ℕ
nm c = name_of c.item

abbrev pub nr : Record → ℕ × ℕ
nr r = name_of r.item

abbrev pub in_app : ℕ → List Record → List Record
in_app app rs = filter (λ (r : Record). eqb r.item.app app) rs

abbrev ring_of : ℕ → ℕ → List Mark → List (ℕ × ℕ)
ring_of writer app marks = filter (of_writer writer) (map nm (queued app marks))

-- a record that isn't queued adds none
not_queued : (b : Bool) (r : Record) (rs : List Record) → is_answer answer.Queued r.answer ≡ false → with_answer answer.Queued (cond b (r ∷ rs) rs) ≡ with_answer answer.Queued rs
not_queued true r rs e = ap (λ (t : Bool). cond t (r ∷ with_answer answer.Queued rs) (with_answer answer.Queued rs)) e
not_queued false r rs e = refl

queued_one : (writer app : ℕ) (c : Call) (marks : List Mark) → ring_of writer app marks ≡ map nr (in_app app (with_answer answer.Queued (records_of writer marks))) →
    ring_of writer app (Queued c ∷ marks) ≡ map nr (in_app app (with_answer answer.Queued (records_of writer (Queued c ∷ marks))))
queued_one writer app c marks is = by_app (eqb c.item.app app) refl where
  here : eqb c.item.app app ≡ true → (b : Bool) →
      cond b (nm c ∷ ring_of writer app marks) (ring_of writer app marks) ≡ map nr (in_app app (with_answer answer.Queued (cond b (recorded c answer.Queued ∷ records_of writer marks) (records_of writer marks))))
  here e true =
      ap (λ (l : List (ℕ × ℕ)). nm c ∷ l) is
      ∙ sym (ap (λ (t : Bool). map nr (cond t (recorded c answer.Queued ∷ in_app app (with_answer answer.Queued (records_of writer marks))) (in_app app (with_answer answer.Queued (records_of writer marks))))) e)
  here e false = is

  elsewhere : eqb c.item.app app ≡ false → (b : Bool) →
      ring_of writer app marks ≡ map nr (in_app app (with_answer answer.Queued (cond b (recorded c answer.Queued ∷ records_of writer marks) (records_of writer marks))))
  elsewhere e true =
      is ∙ sym (ap (λ (t : Bool). map nr (cond t (recorded c answer.Queued ∷ in_app app (with_answer answer.Queued (records_of writer marks))) (in_app app (with_answer answer.Queued (records_of writer marks))))) e)
  elsewhere e false = is

  by_app : (a : Bool) → eqb c.item.app app ≡ a →
      filter (of_writer writer) (map nm (cons_option (cond a (Some c) None) (queued app marks)))
      ≡ map nr (in_app app (with_answer answer.Queued (cond (eqb c.item.writer writer) (recorded c answer.Queued ∷ records_of writer marks) (records_of writer marks))))
  by_app true e = here e (eqb c.item.writer writer)
  by_app false e = elsewhere e (eqb c.item.writer writer)

ring_records : (writer app : ℕ) (marks : List Mark) → ring_of writer app marks ≡ map nr (in_app app (with_answer answer.Queued (records_of writer marks)))
ring_records writer app [] = refl
ring_records writer app (Queued c ∷ marks) = queued_one writer app c marks (ring_records writer app marks)
ring_records writer app (Filtered c ∷ marks) =
    ring_records writer app marks ∙ sym (ap (λ (rs : List Record). map nr (in_app app rs)) (not_queued (eqb c.item.writer writer) (recorded c answer.Filtered) (records_of writer marks) refl))
ring_records writer app (Counted c ∷ marks) =
    ring_records writer app marks ∙ sym (ap (λ (rs : List Record). map nr (in_app app rs)) (not_queued (eqb c.item.writer writer) (recorded c answer.Lost) (records_of writer marks) refl))
ring_records writer app (_ ∷ marks) = ring_records writer app marks

-- all of one application, or none
pub all_in : (app other : ℕ) (rs : List Record) → AllByRecursion (λ (r : Record). r.item.app ≡ app) rs → app ≡ other → in_app other rs ≡ rs
all_in app other [] all same = refl
all_in app other (r ∷ rs) all same =
    ap (λ (b : Bool). cond b (r ∷ in_app other rs) (in_app other rs)) (eq-eqb r.item.app other (all.0 ∙ same)) ∙ ap (λ (l : List Record). r ∷ l) (all_in app other rs all.1 same)

pub none_in : (app other : ℕ) (rs : List Record) → AllByRecursion (λ (r : Record). r.item.app ≡ app) rs → (app ≡ other → ⊥) → in_app other rs ≡ []
none_in app other [] all apart = refl
none_in app other (r ∷ rs) all apart =
    ap (λ (b : Bool). cond b (r ∷ in_app other rs) (in_app other rs)) (ne_eqb r.item.app other (λ same. apart (sym all.0 ∙ same))) ∙ none_in app other rs all.1 apart

-- ---- in order

-- the calls of a writer that still wait in the ring
pub waiting_of : ℕ → ℕ → List Mark → List (ℕ × ℕ)
waiting_of writer app marks = filter (of_writer writer) (map nm (filter_map call_in (drop (taken app marks) (pushes app marks))))

pub admitted_parts : (setting : Setting) (marks : List Mark) → AreFounded setting [] marks → (writer app : ℕ) → filter (of_writer writer) (order app (journal marks)) ++ waiting_of writer app marks ≡ ring_of writer app marks
unfolding waiting_of
admitted_parts setting marks founded writer app =
    let n = taken app marks in
    let ps = pushes app marks in
    let front = filter_map call_in (take n ps) in
    let rest = filter_map call_in (drop n ps) in
    ap (λ (l : List (ℕ × ℕ)). filter (of_writer writer) l ++ filter (of_writer writer) (map nm rest)) (calls_in_order setting marks founded app)
    ∙ sym (filter-append (of_writer writer) (map nm front) (map nm rest))
    ∙ ap (filter (of_writer writer)) (sym (map-append nm front rest)
    ∙ ap (map nm) (sym (filter_map-append call_in (take n ps) (drop n ps)) ∙ ap (filter_map call_in) (take-append-drop n ps) ∙ sym (queued_in_ring app marks)))

pub none_waits : (writer app : ℕ) (marks : List Mark) → taken app marks ≡ length (pushes app marks) → waiting_of writer app marks ≡ []
unfolding waiting_of
none_waits writer app marks same =
    ap (λ (l : List Pushed). filter (of_writer writer) (map nm (filter_map call_in l))) (ap (λ (n : ℕ). drop n (pushes app marks)) same ∙ all_gone (pushes app marks)) where
      all_gone : (l : List Pushed) → drop (length l) l ≡ []
      all_gone [] = refl
      all_gone (what ∷ l) = all_gone l

abbrev pub queued_records : ℕ → List Mark → List Record
queued_records writer marks = with_answer answer.Queued (records_of writer marks)

-- a writer's records are of its application
at_home : (writer : ℕ) (marks : List Mark) (r : Record) → IsOwnItem writer marks r.item → r.item.app ≡ home writer marks
at_home writer marks r is = sym (home_is writer marks is.apid r.item.app is.of_writer is.number)

pub owner_of : (setting : Setting) (marks : List Mark) → AreAll (Right setting) [] marks → (writer : ℕ) → AllByRecursion (λ (r : Record). r.item.app ≡ home writer marks) (records_of writer marks)
owner_of setting marks right writer =
    all_map (λ (r : Record). IsOwnItem writer marks r.item) (λ (r : Record). r.item.app ≡ home writer marks) (at_home writer marks) (records_of writer marks) (own_records setting writer marks right)

queued_in : (writer app : ℕ) (marks : List Mark) → AllByRecursion (λ (r : Record). r.item.app ≡ app) (records_of writer marks) → AllByRecursion (λ (r : Record). r.item.app ≡ app) (queued_records writer marks)
queued_in writer app marks all = all_filter (λ (r : Record). r.item.app ≡ app) (λ (r : Record). is_answer answer.Queued r.answer) (records_of writer marks) all

pub belongs_to : (setting : Setting) (marks : List Mark) → AreFounded setting [] marks → AreAll (Right setting) [] marks → (writer : ℕ) → BelongsTo (home writer marks) writer (journal marks) (records_of writer marks)
belongs_to setting marks founded right writer = let all = owner_of setting marks right writer in record {
  own = all;
  by_writer = all_map (λ (r : Record). IsOwnItem writer marks r.item) (λ (r : Record). r.item.writer ≡ writer) (λ r is. is.writer_is) (records_of writer marks) (own_records setting writer marks right);
  alone = λ other apart.
      let none : ring_of writer other marks ≡ [] =
      ring_records writer other marks ∙ ap (map nr) (none_in (home writer marks) other (queued_records writer marks) (queued_in writer (home writer marks) marks all) (λ same. apart (sym same))) in
      front_empty (filter (of_writer writer) (order other (journal marks))) (waiting_of writer other marks) (admitted_parts setting marks founded writer other ∙ none);
  claims_alone = claims_elsewhere setting marks founded writer;
}

pub ring_in_order : (setting : Setting) (marks : List Mark) → AreFounded setting [] marks → (writer app : ℕ) → AllByRecursion (λ (r : Record). r.item.app ≡ app) (records_of writer marks) →
    filter (of_writer writer) (order app (journal marks)) ++ waiting_of writer app marks ≡ map nr (queued_records writer marks)
ring_in_order setting marks founded writer app all =
    admitted_parts setting marks founded writer app ∙ ring_records writer app marks ∙ ap (map nr) (all_in app app (queued_records writer marks) (queued_in writer app marks all) refl)

pub exact_of : (setting : Setting) (marks : List Mark) → AreFounded setting [] marks → (writer : ℕ) → AllByRecursion (IsExact setting.first (journal marks)) (records_of writer marks)
exact_of setting marks founded writer = all_filter (IsExact setting.first (journal marks)) (λ (r : Record). eqb r.item.writer writer) (filter_map record_of marks) (calls_exact setting marks founded)

pub owned_so_far : (setting : Setting) (marks : List Mark) → AreFounded setting [] marks → AreAll (Right setting) [] marks → (writer : ℕ) →
    IsOwnedSoFar setting.first (journal marks) writer (refusals_of marks writer) (announced_by writer marks) (records_of writer marks)
owned_so_far setting marks founded right writer =
    let app = home writer marks in
    record {
      app = app;
      belongs = belongs_to setting marks founded right writer;
      account = record {
        numbered = numbered setting writer marks founded;
        counted = counted_records setting writer marks right;
        exact = exact_of setting marks founded writer;
        never_fall = never_falling setting writer marks right;
        waiting = waiting_of writer app marks;
        in_order = ring_in_order setting marks founded writer app (owner_of setting marks right writer);
        waiting_claims = filter (claimed_by writer) (claims_waiting app marks);
        claimed = writer_claims setting marks founded writer;
        refused = lost_refused setting writer marks right;
      };
    }

-- ---- the records of each writer by its number

range_get : (a n i : ℕ) → i < n → slice_get (range_with_len a n) i ≡ Some (a + i)
range_get a zero i lt = absurd (omega arith)
range_get a (suc n) zero lt = ap Some (omega arith)
range_get a (suc n) (suc i) lt =
    let same : a + 1 + i ≡ a + suc i = omega arith in
    range_get (a + 1) n i (omega arith) ∙ ap Some same

pub range_length : (a n : ℕ) → length (range_with_len a n) ≡ n
range_length a zero = refl
range_length a (suc n) = omega (arith, range_length (a + 1) n)

no_records : (setting : Setting) (writer : ℕ) (marks : List Mark) → AreAll (Right setting) [] marks → app_of_writer writer marks ≡ None → records_of writer marks ≡ []
no_records setting writer marks right none = by_list (records_of writer marks) (own_records setting writer marks right) where
  by_list : (rs : List Record) → AllByRecursion (λ (r : Record). IsOwnItem writer marks r.item) rs → rs ≡ []
  by_list [] all = refl
  by_list (r ∷ rs) all = let is = all.0.of_writer in absurd cc

-- what each writer has, by its number; one that isn't declared has nothing
has_number : {X : Type 0} (f : ℕ → List X) (marks : List Mark) → ((w : ℕ) → app_of_writer w marks ≡ None → f w ≡ []) → (writer : ℕ) →
    cond (eqb writer 0) [] (unwrap_or (slice_get (map f (writer_numbers marks)) (writer - 1)) []) ≡ f writer
has_number {X = X} f marks nothing writer = by_zero (cases_eq writer 0) where
  by_place : (writer ≡ 0 → ⊥) → (writer - 1 < length (writers marks)) ⊎ (length (writers marks) ≤ writer - 1) → unwrap_or (slice_get (map f (writer_numbers marks)) (writer - 1)) [] ≡ f writer
  by_place apart (inl lt) =
      let here : 1 + (writer - 1) ≡ writer = omega (arith, apart) in
      ap (λ (o : Option (List X)). unwrap_or o []) (slice_get-map f (writer_numbers marks) (writer - 1)
      ∙ ap (λ (o : Option ℕ). option_map f o) (range_get 1 (length (writers marks)) (writer - 1) lt ∙ ap Some here))
  by_place apart (inr le) =
      let past : slice_get (map f (writer_numbers marks)) (writer - 1) ≡ None = slice_get_past (map f (writer_numbers marks)) (writer - 1) (omega (arith, le, length-map (writer_numbers marks) f, range_length 1 (length (writers marks)))) in
      let none : app_of_writer writer marks ≡ None =
      ap (λ (b : Bool). cond b None (slice_get (writers marks) (writer - 1))) (ne_eqb writer 0 apart) ∙ slice_get_past (writers marks) (writer - 1) le in
      ap (λ (o : Option (List X)). unwrap_or o []) past ∙ sym (nothing writer none)

  by_zero : (writer ≡ 0) ⊎ (writer ≡ 0 → ⊥) → cond (eqb writer 0) [] (unwrap_or (slice_get (map f (writer_numbers marks)) (writer - 1)) []) ≡ f writer
  by_zero (inl same) =
      let none : app_of_writer writer marks ≡ None = ap (λ (b : Bool). cond b None (slice_get (writers marks) (writer - 1))) (eq-eqb writer 0 same) in
      ap (λ (b : Bool). cond b [] (unwrap_or (slice_get (map f (writer_numbers marks)) (writer - 1)) [])) (eq-eqb writer 0 same) ∙ sym (nothing writer none)
  by_zero (inr apart) =
      ap (λ (b : Bool). cond b [] (unwrap_or (slice_get (map f (writer_numbers marks)) (writer - 1)) [])) (ne_eqb writer 0 apart) ∙ by_place apart (cases_lt (writer - 1) (length (writers marks)))

pub by_number : (setting : Setting) (marks : List Mark) → AreAll (Right setting) [] marks → (writer : ℕ) → records_by writer (records marks) ≡ records_of writer marks
by_number setting marks right writer = has_number (λ (w : ℕ). records_of w marks) marks (λ w none. no_records setting w marks right none) writer

pub claims_by_number : (setting : Setting) (marks : List Mark) → AreFounded setting [] marks → (writer : ℕ) → claims_by writer (claims_taken marks) ≡ announced_by writer marks
claims_by_number setting marks founded writer = has_number (λ (w : ℕ). announced_by w marks) marks (none_announced setting marks founded) writer

-- ---- losses

-- how many lost calls of an application these records have
abbrev pub lost_in : ℕ → List Record → ℕ
lost_in app rs = length (with_answer answer.Lost (in_app app rs))

lost_adds : (app : ℕ) (xs ys : List Record) → lost_in app (xs ++ ys) ≡ lost_in app xs + lost_in app ys
lost_adds app xs ys =
    ap (λ (rs : List Record). length (with_answer answer.Lost rs)) (filter-append (λ (r : Record). eqb r.item.app app) xs ys)
    ∙ ap length (filter-append (λ (r : Record). is_answer answer.Lost r.answer) (in_app app xs) (in_app app ys))
    ∙ length-append (with_answer answer.Lost (in_app app xs)) (with_answer answer.Lost (in_app app ys))

one_lost : (app : ℕ) (mark : Mark) → lost_in app (filter_map record_of (mark ∷ [])) ≡ count_by (is_counted_of app) (mark ∷ [])
one_lost app (Counted c) = by_test (eqb c.item.app app) where
  by_test : (b : Bool) → length (with_answer answer.Lost (cond b (recorded c answer.Lost ∷ []) [])) ≡ 0 + cond b 1 0
  by_test true = refl
  by_test false = refl
one_lost app (Filtered c) = by_test (eqb c.item.app app) where
  by_test : (b : Bool) → length (with_answer answer.Lost (cond b (recorded c answer.Filtered ∷ []) [])) ≡ 0 + 0
  by_test true = refl
  by_test false = refl
one_lost app (Queued c) = by_test (eqb c.item.app app) where
  by_test : (b : Bool) → length (with_answer answer.Lost (cond b (recorded c answer.Queued ∷ []) [])) ≡ 0 + 0
  by_test true = refl
  by_test false = refl
one_lost app _ = refl

lost_counted : (app : ℕ) (marks : List Mark) → lost_in app (filter_map record_of marks) ≡ count_by (is_counted_of app) marks
lost_counted app = by_end (λ marks. lost_in app (filter_map record_of marks) ≡ count_by (is_counted_of app) marks) refl (λ done mark is.
    let left = ap (lost_in app) (filter_map-append record_of done (mark ∷ [])) ∙ lost_adds app (filter_map record_of done) (filter_map record_of (mark ∷ [])) in
    omega (arith, left, count_by-append (is_counted_of app) done (mark ∷ []), is, one_lost app mark))

pub all_owned : (setting : Setting) (marks : List Mark) → AreAll (Right setting) [] marks → AllByRecursion (λ (r : Record). IsOwnItem r.item.writer marks r.item) (filter_map record_of marks)
all_owned setting marks right = all_owners (λ (r : Record). r.item.writer) (λ (w : ℕ) (r : Record). IsOwnItem w marks r.item) (filter_map record_of marks) (λ w. own_records setting w marks right)

pub lost_of_app : (setting : Setting) (marks : List Mark) → AreAll (Right setting) [] marks → (app : ℕ) → length (with_answer answer.Lost (records_of_app app (records marks))) ≡ lost_in app (filter_map record_of marks)
lost_of_app setting marks right app =
    let number = λ (r : Record). r.item.writer in
    let all = filter_map record_of marks in
    let n = length (writers marks) in
    let ranges : AllByRecursion (λ (r : Record). (1 ≤ r.item.writer) × (r.item.writer < 1 + n)) all =
    all_map (λ (r : Record). IsOwnItem r.item.writer marks r.item) (λ (r : Record). (1 ≤ r.item.writer) × (r.item.writer < 1 + n)) (λ r is. in_range marks r.item.writer is.apid is.of_writer) all (all_owned setting marks right) in
    flat_sum number (lost_in app) refl (lost_adds app) (λ (w : ℕ). records_of w marks) (writer_numbers marks)
    ∙ split number (lost_in app) refl (lost_adds app) n 1 all ranges

pub told_so_far : (setting : Setting) (marks : List Mark) → AreFounded setting [] marks → AreAll (Right setting) [] marks → (app : ℕ) → AreTold app (journal marks) (pending app marks) (records_of_app app (records marks))
told_so_far setting marks founded right app =
    losses_told setting marks founded app ∙ sym (lost_counted app marks) ∙ sym (lost_of_app setting marks right app)

pub accounted_so_far : (setting : Setting) (marks : List Mark) → AreFounded setting [] marks → AreAll (Right setting) [] marks →
    IsAccountedSoFar setting.first (journal marks) (λ app. pending app marks) (refusals_of marks) (claims_taken marks) (records marks)
accounted_so_far setting marks founded right = record {
  writers = λ writer.
      subst (IsOwnedSoFar setting.first (journal marks) writer (refusals_of marks writer) (claims_by writer (claims_taken marks))) (sym (by_number setting marks right writer))
      (subst (λ (cs : List Claimed). IsOwnedSoFar setting.first (journal marks) writer (refusals_of marks writer) cs (records_of writer marks)) (sym (claims_by_number setting marks founded writer))
      (owned_so_far setting marks founded right writer));
  places = places_apart setting marks founded;
  told = told_so_far setting marks founded right;
}
