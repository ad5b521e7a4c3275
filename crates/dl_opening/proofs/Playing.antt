-- The books of an opened scenario have room for what its lines ask.
use Rattle.std.proofs.Common.{◌≡◌, ℕ, zero, suc, ◌+◌, ◌-◌, cond, eqb, ltb, Bool, true, false, List, [], ◌∷◌, ◌++◌, length, Some, None, slice_get, refl, sym, ap, ◌∙◌, subst, append_assoc, length-append, ne_eqb, arith}
use Rattle.std.specs.Prelude.{All}
use Rattle.std.specs.List.{AllByRecursion, cons_option, range_with_len}
use Rattle.std.specs.Str.{bytes_eq}
use Rattle.std.proofs.lemmas.Bool.{ltb-true}
use Rattle.std.proofs.lemmas.List.Elements.{All-cons, All-nil}
use Rattle.std.proofs.lemmas.Slice.Eq.{bytes_eq-Decides}
use Rattle.dl_bytes.specs.Id.{zero_id}
use Rattle.dl_script.specs.Earlier.{numbered}
use Rattle.dl_script.specs.Playable.{IsClaimInBounds, IsInRange, IsRunnable}
use Rattle.dl_script_model.specs.declared.line.ClaimLine.{ClaimLine}
use Rattle.dl_script_model.specs.declared.scenario.ScenarioLine.{ScenarioLine}
use Rattle.dl_script_model.specs.declared.scenario.ScenarioLine.TheVariants as line
use Rattle.dl_writer.specs.Claiming.{name_fault}
use Rattle.dl_writer.specs.State.{BookState, IsWhole, numbers}
use Rattle.dl_ring.specs.Items.{claims_in}
use Rattle.dl_ring.specs.declared.item.RingItem.{RingItem}
use Rattle.dl_writer.specs.declared.fault.RegisterFault.TheVariants.{TooLong, ZeroId}
use Rattle.dl_crew.specs.Calls.{registers_of}
use Rattle.dl_crew.specs.Plays.{ArePairs, CanPlay}
use Rattle.dl_opening.specs.Opening.{IsBookOf, IsOpened}
use Rattle.dl_opening.specs.Scenario.{base_of, writers}
use Rattle.dl_opening.specs.declared.opened.Opened.{Opened}
use Rattle.dl_opening.proofs.ClaimedPlaces.{few_claims}
use Rattle.dl_opening.proofs.Runnable.{room_for}
use Rattle.dl_lemmas.proofs.Lists.{head_is, tail_is}

-- ---- who has which number

at_end : (before rest : List (List ℕ)) (x : List ℕ) (place : ℕ) → place ≡ length before → slice_get (before ++ x ∷ rest) place ≡ Some x
at_end [] rest x zero is = refl
at_end [] rest x (suc place) is = absurd (omega (arith, is))
at_end (y ∷ before) rest x zero is = absurd (omega (arith, is))
at_end (y ∷ before) rest x (suc place) is = at_end before rest x place (omega (arith, is))

pub numbered_here : (before rest : List (List ℕ)) (x : List ℕ) (number : ℕ) → number ≡ length before + 1 → numbered (before ++ x ∷ rest) number ≡ Some x
numbered_here before rest x number is = by_test (eqb number 0) (ne_eqb number 0 (λ zero. omega (arith, is, zero))) where
  by_test : (b : Bool) → b ≡ false → cond b None (slice_get (before ++ x ∷ rest) (number - 1)) ≡ Some x
  by_test true is = absurd cc
  by_test false other = at_end before rest x (number - 1) (omega (arith, is))

-- ---- the claims have names

named : (asked : ClaimLine) → IsClaimInBounds asked → name_fault asked.ctid asked.text ≡ None
named asked bounds = by_id (bytes_eq asked.ctid zero_id) refl where
  by_length : (b : Bool) → ltb 48 (length asked.text) ≡ b → cond b (Some TooLong) None ≡ None
  by_length false is = refl
  by_length true is = let most = bounds.1 in absurd (let above = ltb-true 48 (length asked.text) is in omega (arith, most, above))

  by_id : (b : Bool) → bytes_eq asked.ctid zero_id ≡ b → cond b (Some ZeroId) (cond (ltb 48 (length asked.text)) (Some TooLong) None) ≡ None
  by_id true is = absurd (bounds.0 ((bytes_eq-Decides asked.ctid zero_id).0 is))
  by_id false is = by_length (ltb 48 (length asked.text)) refl

all_named : (writer : ℕ) (lines : List ScenarioLine) → AllByRecursion IsInRange lines → All (λ a. name_fault a.ctid a.text ≡ None) (registers_of writer lines)
all_named writer [] ranges = All-nil (λ (a : ClaimLine). name_fault a.ctid a.text ≡ None)
all_named writer (line.App app ∷ lines) ranges = all_named writer lines ranges.1
all_named writer (line.Context context ∷ lines) ranges = all_named writer lines ranges.1
all_named writer (line.Writer apid ∷ lines) ranges = all_named writer lines ranges.1
all_named writer (line.Register asked ∷ lines) ranges = by_writer (eqb asked.writer writer) (all_named writer lines ranges.1) where
  by_writer : (b : Bool) → All (λ a. name_fault a.ctid a.text ≡ None) (registers_of writer lines)
      → All (λ a. name_fault a.ctid a.text ≡ None) (cons_option (cond b (Some asked) None) (registers_of writer lines))
  by_writer true rest = All-cons (λ (a : ClaimLine). name_fault a.ctid a.text ≡ None) asked (registers_of writer lines) (named asked ranges.0) rest
  by_writer false rest = rest
all_named writer (line.Calls number ctid severity count payload ∷ lines) ranges = all_named writer lines ranges.1
all_named writer (line.Client ∷ lines) ranges = all_named writer lines ranges.1
all_named writer (line.Send client bytes ∷ lines) ranges = all_named writer lines ranges.1
all_named writer (line.Leave client count ∷ lines) ranges = all_named writer lines ranges.1

-- ---- book by book

book_plays : (lines : List ScenarioLine) → IsRunnable lines → (apid : List ℕ) (b : BookState) → numbered (writers lines) b.writer.push.number ≡ Some apid → IsBookOf lines apid b → CanPlay lines b
book_plays lines runs apid b own is =
    let few = (room_for lines runs).1 b.writer.push.number in
    let none = ap length is.records in
    let room = is.room in
    let calls = is.unused.calls in
    record {
      has = record { room = omega (arith, none, room); few = omega (arith, few, calls) };
      claims = few_claims lines runs apid b.writer.push.number own;
      names = all_named b.writer.push.number lines runs.ranges;
    }

each_plays : (lines : List ScenarioLine) (before apids : List (List ℕ)) (books : List BookState) → IsRunnable lines → writers lines ≡ before ++ apids
    → numbers books ≡ range_with_len (length before + 1) (length books) → ArePairs (IsBookOf lines) apids books → All (CanPlay lines) books
each_plays lines before [] [] runs all numbered_so pairs = All-nil (CanPlay lines)
each_plays lines before [] (b ∷ books) runs all numbered_so pairs = absurd pairs
each_plays lines before (apid ∷ apids) [] runs all numbered_so pairs = absurd pairs
each_plays lines before (apid ∷ apids) (b ∷ books) runs all numbered_so pairs =
    let number = head_is b.writer.push.number (length before + 1) (numbers books) (range_with_len (length before + 1 + 1) (length books)) numbered_so in
    let others = tail_is b.writer.push.number (length before + 1) (numbers books) (range_with_len (length before + 1 + 1) (length books)) numbered_so in
    let own = ap (λ (l : List (List ℕ)). numbered l b.writer.push.number) all ∙ numbered_here before apids apid b.writer.push.number number in
    let long = length-append before (apid ∷ []) in
    let more : length before + 1 + 1 ≡ length (before ++ apid ∷ []) + 1 = omega (arith, long) in
    All-cons (CanPlay lines) b books (book_plays lines runs apid b own pairs.0)
    (each_plays lines (before ++ apid ∷ []) apids books runs (all ∙ sym (append_assoc before (apid ∷ []) apids)) (others ∙ ap (λ (n : ℕ). range_with_len n (length books)) more) pairs.1)

each_whole : (lines : List ScenarioLine) (apids : List (List ℕ)) (books : List BookState) → ArePairs (IsBookOf lines) apids books → All IsWhole books
each_whole lines [] [] pairs = All-nil IsWhole
each_whole lines [] (b ∷ books) pairs = absurd pairs
each_whole lines (apid ∷ apids) [] pairs = absurd pairs
each_whole lines (apid ∷ apids) (b ∷ books) pairs =
    All-cons IsWhole b books
    (ap length pairs.0.records ∙ sym pairs.0.unused.calls, ap length pairs.0.claims ∙ sym (ap (λ (items : List RingItem). length (claims_in items)) pairs.0.unused.pushed))
    (each_whole lines apids books pairs.1)

pub each_base : (lines : List ScenarioLine) (apids : List (List ℕ)) (books : List BookState) → ArePairs (IsBookOf lines) apids books → All (λ b. b.writer.base ≡ base_of lines b.writer.app) books
each_base lines [] [] pairs = All-nil (λ (b : BookState). b.writer.base ≡ base_of lines b.writer.app)
each_base lines [] (b ∷ books) pairs = absurd pairs
each_base lines (apid ∷ apids) [] pairs = absurd pairs
each_base lines (apid ∷ apids) (b ∷ books) pairs = All-cons (λ (b : BookState). b.writer.base ≡ base_of lines b.writer.app) b books pairs.0.base (each_base lines apids books pairs.1)

pub opened_plays : (lines : List ScenarioLine) (o : Opened) → IsRunnable lines → IsOpened lines o → All (CanPlay o.plan.lines) o.books
opened_plays lines o runs is =
    let one : 1 ≡ length {A = List ℕ} [] + 1 = omega arith in
    subst (λ (l : List ScenarioLine). All (CanPlay l) o.books) (sym is.same_lines)
    (each_plays lines [] (writers lines) o.books runs refl (is.books.numbered ∙ ap (λ (n : ℕ). range_with_len n (length o.books)) one) is.books.each)

pub opened_whole : (lines : List ScenarioLine) (o : Opened) → IsOpened lines o → All IsWhole o.books
opened_whole lines o is = each_whole lines (writers lines) o.books is.books.each

pub opened_bases : (lines : List ScenarioLine) (o : Opened) → IsOpened lines o → All (λ b. b.writer.base ≡ base_of lines b.writer.app) o.books
opened_bases lines o is = each_base lines (writers lines) o.books is.books.each
