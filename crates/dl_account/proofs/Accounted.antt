-- The account of all writers, in the words that runs of steps have for it.
use Rattle.std.proofs.Common.{◌≡◌, ℕ, zero, suc, ◌+◌, ◌-◌, ◌<◌, ◌≤◌, ◌==◌, Bool, true, false, cond, eqb, List, [], ◌∷◌, ◌++◌, length, map, drop, get_or, slice_get, Option, Some, None, refl, sym, ap, ◌∙◌, subst, eq-eqb, arith, inl, inr}
use Rattle.std.specs.Prelude.{All, nat_eq, unwrap_or, ◌⊎◌}
use Rattle.std.specs.List.{filter, flat_map, range_with_len, AllByRecursion, IsDistinct}
use Rattle.std.specs.Option.{option_map, option_map_or}
use Rattle.std.proofs.lemmas.Bool.{cases_eq, cases_lt, eqb-true, ne_eqb}
use Rattle.std.proofs.lemmas.List.Concat.{flat_map-cons}
use Rattle.std.proofs.lemmas.List.Elements.{All-head, All-tail, filter-append}
use Rattle.std.proofs.lemmas.Option.{slice_get_cases, slice_get_within, slice_get-map}
use Rattle.dl_bytes.specs.Claim.{Claimed}
use Rattle.dl_events.specs.declared.event.Event.{Event}
use Rattle.dl_events.specs.declared.record.Answer.TheVariants as answer
use Rattle.dl_events.specs.declared.record.Record.{Record}
use Rattle.dl_model.specs.Accounts.{WriterAccount, claims, claimed_by, of_writer, order, with_answer, AreTold}
use Rattle.dl_model.specs.Report.{records_of_app}
use Rattle.dl_model.specs.WholeAccounts.{ArePlacesApart, IsAccounted, IsOwned, claims_by, records_by}
use Rattle.dl_cells.specs.Views.{bit, times}
use Rattle.dl_writer.specs.Records.{IsOf, TellAll}
use Rattle.dl_writer.specs.State.{BookState, IsWhole, WriterState, numbers}
use Rattle.dl_account.specs.Books.{books_of, records_of}
use Rattle.dl_account.specs.Settled.{IsAccountOf, IsJournalOf, IsSettled, refusals_of}
use Rattle.dl_account.specs.State.{AccountState}
use Rattle.dl_account.proofs.Accounting.{all_tell, is_account, places_apart}
use Rattle.dl_account.proofs.Apart.{differ}
use Rattle.dl_account.proofs.Takes.{claims_are, order_told}

all_along : {A : Type 0} (P Q : A → Type 0) → ((x : A) → P x → Q x) → (xs : List A) → All P xs → AllByRecursion Q xs
all_along P Q f [] all = tt
all_along P Q f (x ∷ xs) all = (f x (All-head P x xs all), all_along P Q f xs (All-tail P x xs all))

same_book : (x b : BookState) → ◌≡◌ {A = Option BookState} (Some x) (Some b) → x ≡ b
same_book x b e = cc

-- ---- books by the numbers of their writers

number_at : (a k : ℕ) (books : List BookState) (b : BookState) → numbers books ≡ range_with_len a (length books) → slice_get books k ≡ Some b → b.writer.push.number ≡ a + k
number_at a k [] b numbered found = absurd cc
number_at a zero (x ∷ books) b numbered found =
    let same : x ≡ b = cc in
    let first : x.writer.push.number ≡ a = ap (λ (l : List ℕ). get_or l 0 0) numbered in
    omega (arith, first, ap (λ (s : BookState). s.writer.push.number) same)
number_at a (suc k) (x ∷ books) b numbered found =
    let later = number_at (a + 1) k books b (ap (drop 1) numbered) found in
    omega (arith, later)

-- no book of an application has a number that another one's has
none_has : (writer app a : ℕ) (books : List BookState) → numbers books ≡ range_with_len a (length books) → ((b : BookState) → a ≤ writer → slice_get books (writer - a) ≡ Some b → b.writer.app ≡ app → ⊥) →
    times writer (numbers (books_of app books)) ≡ 0
none_has writer app a [] numbered other = refl
none_has writer app a (x ∷ books) numbered other = by_app (eqb x.writer.app app) refl (none_has writer app (a + 1) books (ap (drop 1) numbered) later) where
  later : (b : BookState) → a + 1 ≤ writer → slice_get books (writer - (a + 1)) ≡ Some b → b.writer.app ≡ app → ⊥
  later b least found same =
      let here : writer - a ≡ suc (writer - (a + 1)) = omega (arith, least) in
      other b (omega (arith, least)) (ap (slice_get (x ∷ books)) here ∙ found) same

  number : x.writer.push.number ≡ a
  number = ap (λ (l : List ℕ). get_or l 0 0) numbered

  by_number : x.writer.app ≡ app → (a ≡ writer) ⊎ (a ≡ writer → ⊥) → bit (x.writer.push.number == writer) ≡ 0
  by_number mine (inl same) =
      let here : writer - a ≡ 0 = omega (arith, same) in
      absurd (other x (omega (arith, same)) (ap (slice_get (x ∷ books)) here) mine)
  by_number mine (inr apart) = ap bit (ne_eqb x.writer.push.number writer (λ same. apart (sym number ∙ same)))

  by_app : (b : Bool) → eqb x.writer.app app ≡ b → times writer (numbers (books_of app books)) ≡ 0 → times writer (numbers (cond b (x ∷ books_of app books) (books_of app books))) ≡ 0
  by_app true is rest = omega (arith, by_number (eqb-true x.writer.app app is) (cases_eq a writer), rest)
  by_app false is rest = rest

-- ---- records by their applications

own_all : (app : ℕ) (w : WriterState) (rs : List Record) → w.app ≡ app → All (IsOf w) rs → filter (λ (r : Record). eqb r.item.app app) rs ≡ rs
own_all app w [] same own = refl
own_all app w (r ∷ rs) same own =
    ap (λ (b : Bool). cond b (r ∷ filter (λ (r : Record). eqb r.item.app app) rs) (filter (λ (r : Record). eqb r.item.app app) rs)) (eq-eqb r.item.app app ((All-head (IsOf w) r rs own).0 ∙ same))
    ∙ ap (λ (l : List Record). r ∷ l) (own_all app w rs same (All-tail (IsOf w) r rs own))

own_none : (app : ℕ) (w : WriterState) (rs : List Record) → (w.app ≡ app → ⊥) → All (IsOf w) rs → filter (λ (r : Record). eqb r.item.app app) rs ≡ []
own_none app w [] apart own = refl
own_none app w (r ∷ rs) apart own =
    ap (λ (b : Bool). cond b (r ∷ filter (λ (r : Record). eqb r.item.app app) rs) (filter (λ (r : Record). eqb r.item.app app) rs)) (ne_eqb r.item.app app (λ same. apart (sym (All-head (IsOf w) r rs own).0 ∙ same)))
    ∙ own_none app w rs apart (All-tail (IsOf w) r rs own)

same_records : (app : ℕ) (books : List BookState) → All (λ (b : BookState). TellAll b.writer b.records b.claims) books → records_of_app app (map (λ (b : BookState). b.records) books) ≡ records_of app books
same_records app [] told = refl
same_records app (b ∷ books) told =
    filter-append (λ (r : Record). eqb r.item.app app) b.records (flat_map (λ (rs : List Record). rs) (map (λ (b : BookState). b.records) books))
    ∙ by_app (cases_eq b.writer.app app) (same_records app books (All-tail (λ (b : BookState). TellAll b.writer b.records b.claims) b books told)) where
      own : All (IsOf b.writer) b.records
      own = (All-head (λ (b : BookState). TellAll b.writer b.records b.claims) b books told).own

      by_app : (b.writer.app ≡ app) ⊎ (b.writer.app ≡ app → ⊥) → records_of_app app (map (λ (b : BookState). b.records) books) ≡ records_of app books →
          filter (λ (r : Record). eqb r.item.app app) b.records ++ records_of_app app (map (λ (b : BookState). b.records) books) ≡ flat_map (λ (b : BookState). b.records) (cond (eqb b.writer.app app) (b ∷ books_of app books) (books_of app books))
      by_app (inl same) rest =
          ap (λ (l : List Record). l ++ records_of_app app (map (λ (b : BookState). b.records) books)) (own_all app b.writer b.records same own) ∙ ap (λ (l : List Record). b.records ++ l) rest
          ∙ sym (flat_map-cons (λ (b : BookState). b.records) b (books_of app books))
          ∙ ap (λ (t : Bool). flat_map (λ (b : BookState). b.records) (cond t (b ∷ books_of app books) (books_of app books))) (sym (eq-eqb b.writer.app app same))
      by_app (inr apart) rest =
          ap (λ (l : List Record). l ++ records_of_app app (map (λ (b : BookState). b.records) books)) (own_none app b.writer b.records apart own) ∙ rest
          ∙ ap (λ (t : Bool). flat_map (λ (b : BookState). b.records) (cond t (b ∷ books_of app books) (books_of app books))) (sym (ne_eqb b.writer.app app apart))

none_beyond : (app n : ℕ) (books : List BookState) → All (λ (b : BookState). b.writer.app < n) books → n ≤ app → books_of app books ≡ []
none_beyond app n [] owned le = refl
none_beyond app n (b ∷ books) owned le =
    let lt = All-head (λ (b : BookState). b.writer.app < n) b books owned in
    ap (λ (t : Bool). cond t (b ∷ books_of app books) (books_of app books)) (ne_eqb b.writer.app app (λ same. omega (arith, lt, le, same)))
    ∙ none_beyond app n books (All-tail (λ (b : BookState). b.writer.app < n) b books owned) le

-- ---- the account

module _ (events : List Event) (s : AccountState) (is : IsSettled s) (whole : All IsWhole s.books) (j : IsJournalOf events s) where
  told : All (λ (b : BookState). TellAll b.writer b.records b.claims) s.books
  told = all_tell s.books whole is.told

  account : IsAccountOf events s
  account = is_account s is whole events j

  claims_alone : (app : ℕ) → length s.apps ≤ app → claims app events ≡ []
  claims_alone app le = claims_are app events [] (j.alone app le).0

  -- a number that no book of the application has is admitted no call
  none_admitted : (writer app : ℕ) → ((b : BookState) → 1 ≤ writer → slice_get s.books (writer - 1) ≡ Some b → b.writer.app ≡ app → ⊥) → filter (of_writer writer) (order app events) ≡ []
  none_admitted writer app other = elim (cases_lt app (length s.apps)) [
    | inl lt ↦ account.no_others app writer lt (none_has writer app 1 s.books is.numbered other)
    | inr le ↦ ap (filter (of_writer writer)) (order_told app events [] (j.alone app le).0)
  ]

  abbrev records : List (List Record)
  records = map (λ (b : BookState). b.records) s.books

  -- nor has the journal a claim of it
  none_claimed : (writer app : ℕ) → ((b : BookState) → 1 ≤ writer → slice_get s.books (writer - 1) ≡ Some b → b.writer.app ≡ app → ⊥) → filter (claimed_by writer) (claims app events) ≡ []
  none_claimed writer app other = elim (cases_lt app (length s.apps)) [
    | inl lt ↦ account.no_claims app writer lt (none_has writer app 1 s.books is.numbered other)
    | inr le ↦ ap (filter (claimed_by writer)) (claims_alone app le)
  ]

  abbrev pushed : List (List Claimed)
  pushed = map (λ (b : BookState). b.claims) s.books

  apart : ArePlacesApart events
  apart app = elim (cases_lt app (length s.apps)) [
    | inl lt ↦ places_apart s is whole events j app lt
    | inr le ↦ subst (λ (cs : List Claimed). IsDistinct nat_eq (map (λ claim. claim.place) cs)) (sym (claims_alone app le)) (differ [] (λ n. omega arith))
  ]

  nobody : (writer : ℕ) → records_by writer records ≡ [] → claims_by writer pushed ≡ [] → ((b : BookState) → 1 ≤ writer → slice_get s.books (writer - 1) ≡ Some b → ⊥) → IsOwned s.handles.levels.first events writer (refusals_of s.books writer) (claims_by writer pushed) (records_by writer records)
  nobody writer none none_pushed nowhere = subst (IsOwned s.handles.levels.first events writer (refusals_of s.books writer) (claims_by writer pushed)) (sym none) (record {
    app = 0;
    belongs = record {
      own = tt;
      by_writer = tt;
      alone = λ other apart. none_admitted writer other (λ b least found same. nowhere b least found);
      claims_alone = λ other apart. none_claimed writer other (λ b least found same. nowhere b least found);
    };
    account = record {
      numbered = refl;
      counted = tt;
      exact = tt;
      never_fall = tt;
      in_order = none_admitted writer 0 (λ b least found same. nowhere b least found);
      claimed = none_claimed writer 0 (λ b least found same. nowhere b least found) ∙ sym none_pushed;
      refused = omega arith;
    };
  })

  somebody : (writer : ℕ) (b : BookState) → (writer ≡ 0 → ⊥) → slice_get s.books (writer - 1) ≡ Some b → IsOwned s.handles.levels.first events writer (refusals_of s.books writer) (claims_by writer pushed) (records_by writer records)
  somebody writer b apart found =
      let lt = slice_get_within s.books (writer - 1) b found in
      let number : b.writer.push.number ≡ writer = omega (arith, number_at 1 (writer - 1) s.books b is.numbered found, apart) in
      let at : get_or s.books (writer - 1) b ≡ b = get_there s.books (writer - 1) b found in
      let mine : TellAll b.writer b.records b.claims = subst (λ (x : BookState). TellAll x.writer x.records x.claims) at (told (writer - 1) b lt) in
      let its = subst (λ (x : BookState). WriterAccount s.handles.levels.first events x.writer.app x.writer.push.number x.writer.push.refusals x.claims x.records) at (account.each (writer - 1) b lt) in
      let refusals : b.writer.push.refusals ≡ refusals_of s.books writer =
      sym (ap (λ (t : Bool). cond t 0 (option_map_or (λ (b : BookState). b.writer.push.refusals) (slice_get s.books (writer - 1)) 0)) (ne_eqb writer 0 apart)
      ∙ ap (λ (o : Option BookState). option_map_or (λ (b : BookState). b.writer.push.refusals) o 0) found) in
      let records_are : b.records ≡ records_by writer records =
      sym (ap (λ (t : Bool). cond t [] (unwrap_or (slice_get records (writer - 1)) [])) (ne_eqb writer 0 apart)
      ∙ ap (λ (o : Option (List Record)). unwrap_or o []) (slice_get-map (λ (b : BookState). b.records) s.books (writer - 1) ∙ ap (option_map (λ (b : BookState). b.records)) found)) in
      let claims_are : b.claims ≡ claims_by writer pushed =
      sym (ap (λ (t : Bool). cond t [] (unwrap_or (slice_get pushed (writer - 1)) [])) (ne_eqb writer 0 apart)
      ∙ ap (λ (o : Option (List Claimed)). unwrap_or o []) (slice_get-map (λ (b : BookState). b.claims) s.books (writer - 1) ∙ ap (option_map (λ (b : BookState). b.claims)) found)) in
      subst (IsOwned s.handles.levels.first events writer (refusals_of s.books writer) (claims_by writer pushed)) records_are
      (subst (λ (cs : List Claimed). IsOwned s.handles.levels.first events writer (refusals_of s.books writer) cs b.records) claims_are
      (subst (λ (n : ℕ). IsOwned s.handles.levels.first events writer n b.claims b.records) refusals (record {
        app = b.writer.app;
        belongs = record {
          own = all_along (IsOf b.writer) (λ (r : Record). r.item.app ≡ b.writer.app) (λ r own. own.0) b.records mine.own;
          by_writer = all_along (IsOf b.writer) (λ (r : Record). r.item.writer ≡ writer) (λ r own. own.1 ∙ number) b.records mine.own;
          alone = λ other differs. none_admitted writer other (λ x least there same. differs (sym same ∙ ap (λ (y : BookState). y.writer.app) (same_book x b (sym there ∙ found))));
          claims_alone = λ other differs. none_claimed writer other (λ x least there same. differs (sym same ∙ ap (λ (y : BookState). y.writer.app) (same_book x b (sym there ∙ found))));
        };
        account = subst (λ (w : ℕ). WriterAccount s.handles.levels.first events b.writer.app w b.writer.push.refusals b.claims b.records) number its;
      }))) where
        get_there : (books : List BookState) (k : ℕ) (b : BookState) → slice_get books k ≡ Some b → get_or books k b ≡ b
        get_there books k b is_there = by_cases (slice_get_cases books k).1 where
          by_cases : ((x : BookState) × (k < length books) × (slice_get books k ≡ Some x) × (get_or books k x ≡ x)) ⊎ ((length books ≤ k) × (slice_get books k ≡ None)) → get_or books k b ≡ b
          by_cases (inl there) = let same : there.0 ≡ b = same_book there.0 b (sym there.2 ∙ is_there) in subst (λ (x : BookState). get_or books k x ≡ x) same there.3
          by_cases (inr none) = absurd cc

  told_of : (app : ℕ) → AreTold app events 0 (records_of_app app records)
  told_of app = elim (cases_lt app (length s.apps)) [
    | inl lt ↦ subst (AreTold app events 0) (sym (same_records app s.books told)) (account.told app lt)
    | inr le ↦
        let none : records_of_app app records ≡ [] = same_records app s.books told ∙ ap (flat_map (λ (b : BookState). b.records)) (none_beyond app (length s.apps) s.books is.owned le) in
        let silent = (j.alone app le).1 in
        omega (arith, silent, ap (λ (rs : List Record). length (with_answer answer.Lost rs)) none)
  ]

  owned : (writer : ℕ) → IsOwned s.handles.levels.first events writer (refusals_of s.books writer) (claims_by writer pushed) (records_by writer records)
  owned writer = elim (cases_eq writer 0) [
    | inl same ↦
        nobody writer (ap (λ (t : Bool). cond t [] (unwrap_or (slice_get records (writer - 1)) [])) (eq-eqb writer 0 same))
        (ap (λ (t : Bool). cond t [] (unwrap_or (slice_get pushed (writer - 1)) [])) (eq-eqb writer 0 same)) (λ b least found. omega (arith, same, least))
    | inr apart ↦ by_cases apart (slice_get_cases s.books (writer - 1)).1
  ]
    where
      by_cases : (writer ≡ 0 → ⊥) → ((x : BookState) × (writer - 1 < length s.books) × (slice_get s.books (writer - 1) ≡ Some x) × (get_or s.books (writer - 1) x ≡ x)) ⊎ ((length s.books ≤ writer - 1) × (slice_get s.books (writer - 1) ≡ None)) →
          IsOwned s.handles.levels.first events writer (refusals_of s.books writer) (claims_by writer pushed) (records_by writer records)
      by_cases apart (inl there) = somebody writer there.0 apart there.2
      by_cases apart (inr none) =
          nobody writer (ap (λ (t : Bool). cond t [] (unwrap_or (slice_get records (writer - 1)) [])) (ne_eqb writer 0 apart)
          ∙ ap (λ (o : Option (List Record)). unwrap_or o []) (slice_get-map (λ (b : BookState). b.records) s.books (writer - 1) ∙ ap (option_map (λ (b : BookState). b.records)) none.1))
          (ap (λ (t : Bool). cond t [] (unwrap_or (slice_get pushed (writer - 1)) [])) (ne_eqb writer 0 apart)
          ∙ ap (λ (o : Option (List Claimed)). unwrap_or o []) (slice_get-map (λ (b : BookState). b.claims) s.books (writer - 1) ∙ ap (option_map (λ (b : BookState). b.claims)) none.1))
          (λ b least found. absurd cc)

  pub accounted : IsAccounted s.handles.levels.first events (λ app. 0) (refusals_of s.books) pushed records
  accounted = record { writers = owned; places = apart; told = told_of }
