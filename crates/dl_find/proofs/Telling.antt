-- What one message more changes of the accounts of a context.
use Rattle.std.proofs.Common.{◌≡◌, ℕ, ◌+◌, Bool, true, false, cond, List, [], ◌∷◌, ◌++◌, Option, Some, None, refl, sym, ap, ◌∙◌, append-nil, arith}
use Rattle.std.specs.Prelude.{count_by, sum}
use Rattle.std.specs.List.{after_last, filter_map, find}
use Rattle.std.specs.Option.{option_or}
use Rattle.std.proofs.lemmas.List.Elements.{filter_map-append}
use Rattle.std.proofs.lemmas.List.Folds.{find-append}
use Rattle.std.proofs.lemmas.List.Sums.{sum_by-append}
use Rattle.dl_model.proofs.Lists.{along-one, count_by-append, last_that-one}
use Rattle.dl_model.proofs.Presence.{after_last-push}
use Rattle.dl_sessions.specs.Gaps.{counted, entry_of, gap, latest, latest_of}
use Rattle.dl_sessions.specs.Ledger.{with_message}
use Rattle.dl_sessions.specs.declared.session.Entry.{Entry}
use Rattle.dl_sessions.specs.declared.session.Since.{Since}
use Rattle.dl_sessions.specs.declared.session.Told.TheVariants as told
use Rattle.dl_sessions.proofs.OneMore.{goes_on, latest-one, stands}
use Rattle.dl_find.specs.Finds.{Met, accounts_in, any, book_at, book_by, book_of, books_in, books_of, entries_in, first_in, gap_at, gaps_of, holes_of, is_behind, last_in, list_of, met, passing, seen_if, since_account, since_over}
use Rattle.dl_find.specs.Steps.{book_with, books_with, next_with, since_with}
use Rattle.dl_find_words.specs.Questions.{is_about, is_account, is_of_context}
use Rattle.dl_find_words.specs.declared.found.Book.{Book}
use Rattle.dl_find_words.specs.declared.question.Question.{Question}
use Rattle.dl_find_words.specs.declared.seen.Seen.{Seen}
use Rattle.dl_find_words.specs.declared.seen.Spot.{Spot}

-- ---- what came since an account

count-one : (test : Entry → Bool) (es : List Entry) (e : Entry) → counted (count_by test (es ++ e ∷ [])) ≡ counted (counted (count_by test es) + cond {A = ℕ} (test e) 1 0)
count-one test es e =
    let one : count_by test (es ++ e ∷ []) ≡ count_by test es + cond {A = ℕ} (test e) 1 0 = omega (arith, count_by-append test es (e ∷ [])) in
    ap counted one ∙ goes_on (count_by test es) (cond {A = ℕ} (test e) 1 0)

gaps-one : (test : Entry → Bool) (es : List Entry) (e : Entry) → counted (sum (gaps_of test (es ++ e ∷ []))) ≡ counted (counted (sum (gaps_of test es)) + cond {A = ℕ} (test e) (gap (latest test es) e) 0)
gaps-one test es e =
    ap counted (ap sum (along-one (gap_at test) es e) ∙ sum_by-append (λ (n : ℕ). n) (gaps_of test es) (gap_at test es e) ∙ by_test (test e))
    ∙ goes_on (sum (gaps_of test es)) (cond {A = ℕ} (test e) (gap (latest test es) e) 0) where
      by_test : (b : Bool) → sum (gaps_of test es) + sum (cond b (gap (latest test es) e ∷ []) []) ≡ sum (gaps_of test es) + cond {A = ℕ} b (gap (latest test es) e) 0
      by_test true = omega arith
      by_test false = refl

abbrev each : (Entry → Bool) → ℕ → List Entry → Entry → Bool → Since
each test accounts es e b = record {
  accounts = accounts;
  messages = counted (counted (count_by test es) + cond {A = ℕ} b 1 0);
  missing = counted (counted (sum (gaps_of test es)) + cond {A = ℕ} b (gap (latest test es) e) 0);
  last = cond b (Some (latest_of e)) (latest test es);
}

over-one : (test : Entry → Bool) (accounts : ℕ) (es : List Entry) (e : Entry) → since_over test accounts (es ++ e ∷ []) ≡ since_with false (test e) (since_over test accounts es) e
over-one test accounts es e = parts ∙ by_test (test e) where
  parts : since_over test accounts (es ++ e ∷ []) ≡ each test accounts es e (test e)
  parts =
      let p = count-one test es e in
      let q = gaps-one test es e in
      let r = latest-one test es e in
      λ i. record { accounts = accounts; messages = p i; missing = q i; last = r i }

  by_test : (b : Bool) → each test accounts es e b ≡ since_with false b (since_over test accounts es) e
  by_test true = refl
  by_test false =
      let p = sym (stands (count_by test es)) in
      let q = sym (stands (sum (gaps_of test es))) in
      λ i. record { accounts = accounts; messages = p i; missing = q i; last = latest test es }

since-one : (q : Question) (es : List Entry) (e : Entry) → since_account q (es ++ e ∷ []) ≡ since_with (is_about q e) (is_of_context q e) (since_account q es) e
since-one q es e =
    ap (λ (n : ℕ). since_over own n (after_last about (es ++ e ∷ []))) (count-one about es e)
    ∙ ap (since_over own (counted (counted (count_by about es) + cond {A = ℕ} (about e) 1 0))) (after_last-push about es e) ∙ by_test (about e) where
      about : Entry → Bool
      about = is_about q

      own : Entry → Bool
      own = is_of_context q

      by_test : (b : Bool) → since_over own (counted (counted (count_by about es) + cond {A = ℕ} b 1 0)) (cond b [] (after_last about es ++ e ∷ [])) ≡ since_with b (own e) (since_account q es) e
      by_test true = refl
      by_test false =
          ap (λ (n : ℕ). since_over own n (after_last about es ++ e ∷ [])) (sym (stands (count_by about es)))
          ∙ over-one own (counted (count_by about es)) (after_last about es) e

-- ---- messages of files

entries-log : (mets : List Met) (spot : Spot) (bytes : List ℕ) (e : Entry) → entries_in (mets ++ met spot (told.Log e) bytes ∷ []) ≡ entries_in mets ++ e ∷ []
entries-log mets spot bytes e = filter_map-append (λ (x : Met). entry_of x.told) mets (met spot (told.Log e) bytes ∷ [])

entries-quiet : (mets : List Met) (m : Met) → filter_map (λ (x : Met). entry_of x.told) (m ∷ []) ≡ [] → entries_in (mets ++ m ∷ []) ≡ entries_in mets
entries-quiet mets m none = filter_map-append (λ (x : Met). entry_of x.told) mets (m ∷ []) ∙ ap (λ (l : List Entry). entries_in mets ++ l) none ∙ append-nil (entries_in mets)

about-one : (q : Question) (mets : List Met) (m : Met) → passing (is_about q) (mets ++ m ∷ []) ≡ passing (is_about q) mets ++ list_of (seen_if (is_about q) m)
about-one q mets m = filter_map-append (seen_if (is_about q)) mets (m ∷ [])

books-one : (q : Question) (mets : List Met) (m : Met) → books_of q (mets ++ m ∷ []) ≡ books_of q mets ++ book_of q mets (seen_if (is_about q) m)
books-one q mets m = along-one (book_at q) mets m

-- What is found of accounts with one message of a session more.
pub books-log : (q : Question) (mets : List Met) (spot : Spot) (bytes : List ℕ) (e : Entry)
    → books_in q (mets ++ met spot (told.Log e) bytes ∷ []) ≡ books_with q (first_in (holes_of q (is_of_context q) mets)) (books_in q mets) (record { spot = spot; entry = e })
books-log q mets spot bytes e =
    let m = met spot (told.Log e) bytes in
    let entries = entries-log mets spot bytes e in
    let a = ap (since_account q) entries ∙ since-one q (entries_in mets) e in
    let b = ap (accounts_in q) entries ∙ over-one (is_account q) 0 (entries_in mets) e in
    let c = ap last_in (about-one q mets m) ∙ last_by (is_about q e) in
    let d = ap first_in (books-one q mets m) ∙ book_now (is_about q e) in
    let f = ap (find (is_behind q.point)) (about-one q mets m) ∙ next_now (is_about q e) in
    λ i. record { since = a i; own = b i; last = c i; book = d i; next = f i }
  where
    last_by : (b : Bool) → last_in (passing (is_about q) mets ++ list_of (cond b (Some (record { spot = spot; entry = e })) None)) ≡ cond b (Some (record { spot = spot; entry = e })) (last_in (passing (is_about q) mets))
    last_by true = last_that-one any (passing (is_about q) mets) (record { spot = spot; entry = e })
    last_by false = ap last_in (append-nil (passing (is_about q) mets))

    head : (o : Option Book) → find any (list_of o) ≡ o
    head None = refl
    head (Some x) = refl

    none_more : (o : Option Book) → o ≡ option_or o None
    none_more None = refl
    none_more (Some x) = refl

    book_now : (b : Bool) → first_in (books_of q mets ++ book_of q mets (cond b (Some (record { spot = spot; entry = e })) None)) ≡ option_or (first_in (books_of q mets)) (book_with b q.point (first_in (holes_of q (is_of_context q) mets)) (books_in q mets) (record { spot = spot; entry = e }))
    book_now true =
        let here = book_by q.point (first_in (holes_of q (is_of_context q) mets)) (last_in (passing (is_about q) mets)) (record { spot = spot; entry = e }) (since_account q (entries_in mets)) (accounts_in q (entries_in mets)) in
        find-append any (books_of q mets) (list_of here) ∙ ap (option_or (first_in (books_of q mets))) (head here)
    book_now false = ap first_in (append-nil (books_of q mets)) ∙ none_more (first_in (books_of q mets))

    old : Option Seen
    old = find (is_behind q.point) (passing (is_about q) mets)

    none_later : (o : Option Seen) → o ≡ option_or o None
    none_later None = refl
    none_later (Some x) = refl

    next_now : (b : Bool) → find (is_behind q.point) (passing (is_about q) mets ++ list_of (cond b (Some (record { spot = spot; entry = e })) None)) ≡ option_or old (next_with b q.point (record { spot = spot; entry = e }))
    next_now true = find-append (is_behind q.point) (passing (is_about q) mets) (record { spot = spot; entry = e } ∷ [])
    next_now false = ap (find (is_behind q.point)) (append-nil (passing (is_about q) mets)) ∙ none_later old

-- And with a message that tells no session.
pub books-quiet : (q : Question) (mets : List Met) (m : Met) → filter_map (λ (x : Met). entry_of x.told) (m ∷ []) ≡ [] → seen_if (is_about q) m ≡ None → books_in q (mets ++ m ∷ []) ≡ books_in q mets
books-quiet q mets m none unseen =
    let entries = entries-quiet mets m none in
    let abouts = about-one q mets m ∙ ap (λ (o : Option Seen). passing (is_about q) mets ++ list_of o) unseen ∙ append-nil (passing (is_about q) mets) in
    let books = books-one q mets m ∙ ap (λ (o : Option Seen). books_of q mets ++ book_of q mets o) unseen ∙ append-nil (books_of q mets) in
    λ i. record { since = since_account q (entries i); own = accounts_in q (entries i); last = last_in (abouts i); book = first_in (books i); next = find (is_behind q.point) (abouts i) }
