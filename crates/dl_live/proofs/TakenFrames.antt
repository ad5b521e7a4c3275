-- The frame of each call that was taken is the one that its record makes.
use Rattle.std.proofs.Common.{◌≡◌, ◌⊎◌, ℕ, suc, ◌+◌, ◌-◌, ◌<◌, ◌≤◌, ◌==◌, Bool, true, false, cond, eqb, List, [], ◌∷◌, ◌++◌, length, map, slice_get, get_or, Option, Some, inl, inr, refl, sym, ap, subst, ◌∙◌, eq-eqb, ne_eqb, arith, append_assoc}
use Rattle.std.specs.Prelude.{All}
use Rattle.std.specs.List.{AllByRecursion, filter, find, range_with_len}
use Rattle.std.specs.Option.{option_map_or}
use Rattle.std.proofs.lemmas.Bool.Decides.{eqb_tells}
use Rattle.std.proofs.lemmas.List.Elements.{All-cons, All-head, All-nil, All-tail}
use Rattle.dl_bytes.specs.declared.item.Item.{Item}
use Rattle.dl_events.specs.declared.record.Answer.TheVariants as answer
use Rattle.dl_events.specs.declared.record.Record.{Record}
use Rattle.dl_message.specs.Frames.{log_message}
use Rattle.dl_model.specs.Accounts.{AreNumbered, with_answer}
use Rattle.dl_model.specs.Report.{is_answer}
use Rattle.dl_model.specs.WholeAccounts.{frame_of_record, records_by}
use Rattle.dl_ring.specs.Items.{calls_in}
use Rattle.dl_ring.specs.Order.{of, writer_of}
use Rattle.dl_ring.specs.declared.item.RingItem.{RingItem}
use Rattle.dl_ring.specs.declared.item.RingItem.TheVariants.{Log, Register}
use Rattle.dl_cells.specs.Views.{bit, times}
use Rattle.dl_writer.specs.Records.{TellAll}
use Rattle.dl_writer.specs.State.{BookState, IsWhole, numbers}
use Rattle.dl_account.specs.Books.{books_of}
use Rattle.dl_account.specs.Known.{IsAllOf, taken_of}
use Rattle.dl_account.specs.Settled.{IsSettled}
use Rattle.dl_account.specs.State.{AccountState}
use Rattle.dl_lemmas.proofs.Lists.{head_is, tail_is}

-- ---- what holds of the calls of each number holds of all

module _ (P : Item → Type 0) where
  head_holds : (x : Item) (xs : List RingItem) → AllByRecursion P (calls_in (of x.writer (Log x ∷ xs))) → P x
  head_holds x xs all = by (eqb x.writer x.writer) (eq-eqb x.writer x.writer refl) all where
    by : (b : Bool) → b ≡ true → AllByRecursion P (calls_in (cond b (Log x ∷ of x.writer xs) (of x.writer xs))) → P x
    by true is all = all.0
    by false is all = absurd cc

  tail_holds : (r : RingItem) (xs : List RingItem) (n : ℕ) → AllByRecursion P (calls_in (of n (r ∷ xs))) → AllByRecursion P (calls_in (of n xs))
  tail_holds r xs n all = by (eqb (writer_of r) n) all where
    front : (r : RingItem) (rest : List RingItem) → AllByRecursion P (calls_in (r ∷ rest)) → AllByRecursion P (calls_in rest)
    front (Log x) rest all = all.1
    front (Register claim) rest all = all

    by : (b : Bool) → AllByRecursion P (calls_in (cond b (r ∷ of n xs) (of n xs))) → AllByRecursion P (calls_in (of n xs))
    by true all = front r (of n xs) all
    by false all = all

  by_number : (items : List RingItem) → ((n : ℕ) → AllByRecursion P (calls_in (of n items))) → AllByRecursion P (calls_in items)
  by_number [] all = tt
  by_number (Log x ∷ xs) all = (head_holds x xs (all x.writer), by_number xs (λ n. tail_holds (Log x) xs n (all n)))
  by_number (Register claim ∷ xs) all = by_number xs (λ n. tail_holds (Register claim) xs n (all n))

-- ---- books by number

-- no book has this number, or one has
named : (n : ℕ) (books : List BookState) → (times n (numbers books) ≡ 0) ⊎ ((k : ℕ) × (k < length books) × ((d : BookState) → (get_or books k d).writer.push.number ≡ n))
named n [] = inl refl
named n (b ∷ books) = elim (eqb_tells b.writer.push.number n) [
  | inl same ↦ inr (0, omega arith, λ d. same.1)
  | inr other ↦ elim (named n books) [
    | inl none ↦ let here : bit (eqb b.writer.push.number n) ≡ 0 = ap bit other.0 in inl (omega (arith, here, none))
    | inr there ↦ inr (suc there.0, omega (arith, there.1), there.2)
  ]
]

all_filtered : {X : Type 0} (P : X → Type 0) (p : X → Bool) (xs : List X) → All P xs → All P (filter p xs)
all_filtered P p [] all = All-nil P
all_filtered P p (x ∷ xs) all = by (p x) (all_filtered P p xs (All-tail P x xs all)) where
  by : (b : Bool) → All P (filter p xs) → All P (cond b (x ∷ filter p xs) (filter p xs))
  by true rest = All-cons P x (filter p xs) (All-head P x xs all) rest
  by false rest = rest

-- its records are those of its number
record IsAtPlace (first : ℕ) (records : List (List Record)) (b : BookState) : Type 0 where
  pub from : first ≤ b.writer.push.number
  pub at : slice_get records (b.writer.push.number - first) ≡ Some b.records

abbrev record_lists : List BookState → List (List Record)
record_lists books = map (λ (b : BookState). b.records) books

at_places : (first : ℕ) (books : List BookState) → numbers books ≡ range_with_len first (length books) → All (IsAtPlace first (record_lists books)) books
at_places first [] are = All-nil (IsAtPlace first [])
at_places first (b ∷ books) are =
    let here = head_is b.writer.push.number first (numbers books) (range_with_len (first + 1) (length books)) are in
    let later = at_places (first + 1) books (tail_is b.writer.push.number first (numbers books) (range_with_len (first + 1) (length books)) are) in
    let zero_is : b.writer.push.number - first ≡ 0 = omega (arith, here) in
    All-cons (IsAtPlace first (b.records ∷ record_lists books)) b books
    (record { from = omega (arith, here); at = ap (slice_get (b.records ∷ record_lists books)) zero_is })
    (λ k d lt.
    (let is = later k d lt in
    let n = (get_or books k d).writer.push.number in
    let from = is.from in
    let place : n - first ≡ suc (n - (first + 1)) = omega (arith, from) in
    record { from = omega (arith, from); at = ap (slice_get (b.records ∷ record_lists books)) place ∙ is.at }))

-- ---- a record by its call's number

apart_from : (n from : ℕ) (records : List Record) (rest : List Record) → map (λ (r : Record). r.item.call) (records ++ rest) ≡ range_with_len from (length (records ++ rest))
    → n ≡ from + length records → find (λ (r : Record). eqb r.item.call n) (records ++ rest) ≡ find (λ (r : Record). eqb r.item.call n) rest
apart_from n from [] rest are is = refl
apart_from n from (r ∷ records) rest are is =
    let here = head_is r.item.call from (map (λ (r : Record). r.item.call) (records ++ rest)) (range_with_len (from + 1) (length (records ++ rest))) are in
    let apart : eqb r.item.call n ≡ false = ne_eqb r.item.call n (λ same. omega (arith, same, here, is)) in
    rw apart (apart_from n (from + 1) records rest (tail_is r.item.call from (map (λ (r : Record). r.item.call) (records ++ rest)) (range_with_len (from + 1) (length (records ++ rest))) are) (omega (arith, is)))

call_at : (from : ℕ) (records : List Record) (r : Record) (rest : List Record) → map (λ (r : Record). r.item.call) (records ++ r ∷ rest) ≡ range_with_len from (length (records ++ r ∷ rest))
    → r.item.call ≡ from + length records
call_at from [] r rest are = head_is r.item.call from (map (λ (r : Record). r.item.call) rest) (range_with_len (from + 1) (length rest)) are ∙ omega arith
call_at from (s ∷ records) r rest are =
    let later = call_at (from + 1) records r rest (tail_is s.item.call from (map (λ (r : Record). r.item.call) (records ++ r ∷ rest)) (range_with_len (from + 1) (length (records ++ r ∷ rest))) are) in
    omega (arith, later)

found : (before : List Record) (r : Record) (rest : List Record) → AreNumbered (before ++ r ∷ rest) → find (λ (x : Record). eqb x.item.call r.item.call) (before ++ r ∷ rest) ≡ Some r
found before r rest are =
    apart_from r.item.call 1 before (r ∷ rest) are (call_at 1 before r rest are) ∙ rw (eq-eqb r.item.call r.item.call refl) refl

-- ---- the frames of a writer's records

module _ (ecu : List ℕ) (records : List (List Record)) (number : ℕ) where
  -- a record's frame is found by its writer and its call
  abbrev IsFramed : Item → Type 0
  IsFramed item = frame_of_record ecu records item.writer item.call ≡ log_message ecu item

  framed : (own : List Record) (r : Record) → records_by number records ≡ own → r.item.writer ≡ number → find (λ (x : Record). eqb x.item.call r.item.call) own ≡ Some r → IsFramed r.item
  framed own r are by there =
      ap (λ (n : ℕ). frame_of_record ecu records n r.item.call) by
      ∙ ap (λ (rs : List Record). option_map_or (λ (x : Record). log_message ecu x.item) (find (λ (x : Record). eqb x.item.call r.item.call) rs) []) are
      ∙ ap (λ (o : Option Record). option_map_or (λ (x : Record). log_message ecu x.item) o []) there

  queued_framed : (own before rest : List Record) → records_by number records ≡ own → own ≡ before ++ rest → AreNumbered own → All (λ (r : Record). r.item.writer ≡ number) rest
      → AllByRecursion IsFramed (map (λ (r : Record). r.item) (with_answer answer.Queued rest))
  queued_framed own before [] are parts numbered by = tt
  queued_framed own before (r ∷ rest) are parts numbered by =
      one (is_answer answer.Queued r.answer)
      (framed own r are (All-head (λ (r : Record). r.item.writer ≡ number) r rest by)
      (ap (find (λ (x : Record). eqb x.item.call r.item.call)) parts ∙ found before r rest (subst AreNumbered parts numbered)))
      (queued_framed own (before ++ r ∷ []) rest are (parts ∙ sym (append_assoc before (r ∷ []) rest)) numbered (All-tail (λ (r : Record). r.item.writer ≡ number) r rest by)) where
        one : (b : Bool) → IsFramed r.item → AllByRecursion IsFramed (map (λ (r : Record). r.item) (with_answer answer.Queued rest))
            → AllByRecursion IsFramed (map (λ (r : Record). r.item) (cond b (r ∷ with_answer answer.Queued rest) (with_answer answer.Queued rest)))
        one true here later = (here, later)
        one false here later = later

-- ---- all that was taken

module _ (ecu : List ℕ) (s : AccountState) (is : IsSettled s) (whole : All IsWhole s.books) where
  abbrev IsTakenFramed : Item → Type 0
  IsTakenFramed item = frame_of_record ecu (record_lists s.books) item.writer item.call ≡ log_message ecu item

  -- the calls among what was taken or pushed
  abbrev AreTakenFramed : List RingItem → Type 0
  AreTakenFramed items = AllByRecursion IsTakenFramed (calls_in items)

  abbrev Tells : BookState → Type 0
  Tells b = TellAll b.writer b.records b.claims

  of_book : (b : BookState) → Tells b → IsAtPlace 1 (record_lists s.books) b → AreTakenFramed b.writer.push.pushed
  of_book b told at =
      let from = at.from in
      let mine : records_by b.writer.push.number (record_lists s.books) ≡ b.records = rw (ne_eqb b.writer.push.number 0 (λ none. omega (arith, none, from)), at.at) refl in
      subst (AllByRecursion IsTakenFramed) (sym told.queued)
      (queued_framed ecu (record_lists s.books) b.writer.push.number b.records [] b.records mine refl told.numbered (λ k d lt. (told.own k d lt).1))

  pub taken_framed : (app : ℕ) → app < length s.apps → AreTakenFramed (taken_of s.handles app)
  taken_framed app within = by_number IsTakenFramed (taken_of s.handles app) each where
    mine : List BookState
    mine = books_of app s.books

    taken : IsAllOf app s.books (taken_of s.handles app)
    taken = is.taken app within

    told : All Tells mine
    told = all_filtered Tells (λ (b : BookState). b.writer.app == app) s.books (λ k d lt. is.told k d lt (whole k d lt))

    places : All (IsAtPlace 1 (record_lists s.books)) mine
    places = all_filtered (IsAtPlace 1 (record_lists s.books)) (λ (b : BookState). b.writer.app == app) s.books (at_places 1 s.books is.numbered)

    each : (n : ℕ) → AreTakenFramed (of n (taken_of s.handles app))
    each n = elim (named n mine) [
      | inl none ↦ subst AreTakenFramed (sym (taken.no_others n none)) tt
      | inr there ↦ by_book there.0 there.1 there.2
    ] where
      by_book : (k : ℕ) → k < length mine → ((d : BookState) → (get_or mine k d).writer.push.number ≡ n) → AreTakenFramed (of n (taken_of s.handles app))
      by_book k lt is_n = by_first s.books refl where
        by_first : (books : List BookState) → books ≡ s.books → AreTakenFramed (of n (taken_of s.handles app))
        by_first [] none = absurd (omega (arith, lt, ap (λ (bs : List BookState). length (books_of app bs)) none))
        by_first (d ∷ rest) some =
            let b : BookState = get_or mine k d in
            subst (λ (m : ℕ). AreTakenFramed (of m (taken_of s.handles app))) (is_n d)
            (subst AreTakenFramed (sym (taken.each k d lt)) (of_book b (told k d lt) (places k d lt)))
