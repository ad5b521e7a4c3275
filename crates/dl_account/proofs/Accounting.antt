-- The account of all that was logged.
use Rattle.std.proofs.Common.{◌≡◌, ℕ, ◌+◌, ◌-◌, ◌<◌, ◌==◌, Bool, true, false, cond, eqb, List, [], ◌∷◌, ◌++◌, length, map, get_or, slice_get, append-nil, refl, sym, ap, ◌∙◌, subst, eq-eqb, length-append, arith}
use Rattle.std.specs.Prelude.{◌^◌, nat_eq, All}
use Rattle.std.specs.List.{filter, flat_map, IsDistinct}
use Rattle.std.proofs.lemmas.Bool.{eqb-true}
use Rattle.std.proofs.lemmas.List.{nil_from_length}
use Rattle.std.proofs.lemmas.List.Concat.{flat_map-cons}
use Rattle.std.proofs.lemmas.List.Elements.{All-head, All-tail, All-weaker}
use Rattle.std.proofs.lemmas.List.Sums.{sum_by-cons}
use Rattle.dl_bytes.specs.Claim.{Claimed}
use Rattle.dl_bytes.specs.declared.outcome.Ends.{Ends}
use Rattle.dl_events.specs.declared.event.Event.{Event}
use Rattle.dl_events.specs.declared.record.Answer.TheVariants as answer
use Rattle.dl_events.specs.declared.record.Record.{Record}
use Rattle.dl_model.proofs.Records.{with_answer-append}
use Rattle.dl_cells.specs.declared.level_history.Read.{Read}
use Rattle.dl_cells.specs.LevelHistory as levels
use Rattle.dl_cells.specs.Losses.{counted_of, reported_of}
use Rattle.dl_model.specs.Accounts.{order, of_writer, claims, claimed_by, name_of, with_answer}
use Rattle.dl_model.specs.Report.{is_answer}
use Rattle.dl_ring.specs.declared.item.RingItem.{RingItem}
use Rattle.dl_ring.specs.Items.{calls_in, claims_in}
use Rattle.dl_ring.specs.Order.{of}
use Rattle.dl_cells.specs.Views.{times, total}
use Rattle.dl_writer.specs.Records.{IsHeld, IsOf, TellAll}
use Rattle.dl_writer.specs.State.{BookState, IsWhole, WriterState}
use Rattle.dl_writer.proofs.Accounting.{account, losses}
use Rattle.dl_account.specs.Books.{books_of, claimed_of, lost_of, items_pushed_of, records_of}
use Rattle.dl_account.specs.ClosingInside.{HaveBooks, HaveHandles}
use Rattle.dl_account.specs.Known.{IsAllOf, IsDrained, taken_of}
use Rattle.dl_account.specs.Settled.{IsAccountOf, IsJournalOf, IsSettled, TellsClaimed, TellsLosses, TellsQueued, account_of}
use Rattle.dl_account.specs.State.{AccountState, ClosingState}
use Rattle.dl_account.proofs.Apart.{differ, map-flat, once_there, times-flat}
use Rattle.dl_account.proofs.Knowing.{queue_of, ring_of}
use Rattle.dl_account.proofs.Lists.{all_passing, flat_all}
use Rattle.dl_account.proofs.Takes.{calls_of_writer, claim_as, claims_are, claims_of_writer, own_claims, places_as, places_within}

-- ---- what is settled

-- an empty ring holds nothing
all_taken : (app : ℕ) (books : List BookState) (taken contents : List RingItem) → IsAllOf app books (taken ++ contents) → length taken ≡ items_pushed_of app books → IsAllOf app books taken
all_taken app books taken contents all empty =
    let c = all.count in
    let none : contents ≡ [] = nil_from_length contents (omega (arith, empty, c, length-append taken contents)) in
    subst (IsAllOf app books) (ap (λ (l : List RingItem). taken ++ l) none ∙ append-nil taken) all

pub settled : (s : ClosingState) (events : List Event) (outcome : Ends) → HaveBooks (length s.apps) s.books → HaveHandles s → IsDrained s
    → ((app : ℕ) → reported_of app s.handles.losses.reported < 2 ^ 47) → IsSettled (account_of s events outcome)
settled s events outcome books handles drained small = record {
  numbered = books.numbered;
  owned = books.owned;
  taken = λ app within. (let held = ring_of s handles app within in all_taken app s.books (taken_of s.handles app) held.0 held.1 (drained app within).0);
  reported = λ app within. (drained app within).1;
  small = small;
  held = handles.levels;
  given = queue_of s handles;
  claimed = books.claimed;
  told = books.told;
}

-- ---- losses

abbrev one_if : Bool → ℕ
one_if b = cond b 1 0

-- the records of another application's writer have no loss of this one
none_lost : (app : ℕ) (w : WriterState) (rs : List Record) → eqb w.app app ≡ false → All (IsOf w) rs → counted_of app (map (λ (r : Record). r.item.app) (with_answer answer.Lost rs)) ≡ 0
none_lost app w [] other own = refl
none_lost app w (r ∷ rs) other own = by_test (none_lost app w rs other (All-tail (IsOf w) r rs own)) (is_answer answer.Lost r.answer) where
  by_test : counted_of app (map (λ (r : Record). r.item.app) (with_answer answer.Lost rs)) ≡ 0 → (b : Bool) → counted_of app (map (λ (r : Record). r.item.app) (cond b (r ∷ with_answer answer.Lost rs) (with_answer answer.Lost rs))) ≡ 0
  by_test rest false = rest
  by_test rest true =
      let this : one_if (eqb r.item.app app) ≡ 0 = ap (λ (n : ℕ). one_if (eqb n app)) (All-head (IsOf w) r rs own).0 ∙ ap one_if other in
      sum_by-cons (λ (a : ℕ). one_if (eqb a app)) r.item.app (map (λ (r : Record). r.item.app) (with_answer answer.Lost rs)) ∙ omega (arith, this, rest)

-- what the writers counted of an application are the lost calls of its writers
lost_calls : (app : ℕ) (books : List BookState) → All (λ (b : BookState). TellAll b.writer b.records b.claims) books → lost_of app books ≡ length (with_answer answer.Lost (records_of app books))
lost_calls app [] told = refl
lost_calls app (b ∷ books) told = by_test (lost_calls app books (All-tail (λ (b : BookState). TellAll b.writer b.records b.claims) b books told)) (b.writer.app == app) refl where
  mine : TellAll b.writer b.records b.claims
  mine = All-head (λ (b : BookState). TellAll b.writer b.records b.claims) b books told

  by_test : lost_of app books ≡ length (with_answer answer.Lost (records_of app books)) → (t : Bool) → (b.writer.app == app) ≡ t
      → counted_of app b.writer.losses.counted + lost_of app books ≡ length (with_answer answer.Lost (flat_map (λ (b : BookState). b.records) (cond t (b ∷ books_of app books) (books_of app books))))
  by_test rest true is =
      let same : b.writer.app ≡ app = eqb-true b.writer.app app is in
      let these : counted_of app b.writer.losses.counted ≡ length (with_answer answer.Lost b.records) = ap (λ (n : ℕ). counted_of n b.writer.losses.counted) (sym same) ∙ losses b.writer b.records b.claims mine in
      let parts = with_answer-append b.records (records_of app books) in
      let together : length (with_answer answer.Lost (flat_map (λ (b : BookState). b.records) (b ∷ books_of app books))) ≡ length (with_answer answer.Lost (b.records ++ records_of app books)) = ap (λ (rs : List Record). length (with_answer answer.Lost rs)) (flat_map-cons (λ (b : BookState). b.records) b (books_of app books)) in
      omega (arith, these, rest, parts, together)
  by_test rest false is =
      let none : counted_of app b.writer.losses.counted ≡ 0 = ap (counted_of app) mine.lost ∙ none_lost app b.writer b.records is mine.own in
      omega (arith, none, rest)

-- where all books are whole, their records tell all
pub all_tell : (books : List BookState) → All IsWhole books → All (λ (b : BookState). IsWhole b → TellAll b.writer b.records b.claims) books → All (λ (b : BookState). TellAll b.writer b.records b.claims) books
all_tell books whole told = λ k d lt. told k d lt (whole k d lt)

module _ (s : AccountState) (is : IsSettled s) (whole : All IsWhole s.books) where
  told : All (λ (b : BookState). TellAll b.writer b.records b.claims) s.books
  told = all_tell s.books whole is.told

  pub losses_told : (app : ℕ) → app < length s.apps → TellsLosses s app
  losses_told app within = is.reported app within ∙ lost_calls app s.books told

  -- what was taken of a writer is what it pushed
  taken_pushed : All (λ (b : BookState). of b.writer.push.number (taken_of s.handles b.writer.app) ≡ b.writer.push.pushed) s.books
  taken_pushed = λ k d lt.
      (let b : BookState = get_or s.books k d in
      let app : ℕ = b.writer.app in
      let taken : List RingItem = taken_of s.handles app in
      let theirs = all_passing (λ (b : BookState). of b.writer.push.number taken ≡ b.writer.push.pushed) (λ (b : BookState). b.writer.app == app) s.books (is.taken app (is.owned k d lt)).each in
      theirs k d lt (eq-eqb app app refl))

  pub queued_told : All (TellsQueued s) s.books
  queued_told = λ k d lt. ap calls_in (taken_pushed k d lt) ∙ (told k d lt).queued

  pub claimed_told : All (TellsClaimed s) s.books
  claimed_told = λ k d lt. ap claims_in (taken_pushed k d lt) ∙ (told k d lt).claimed

  -- the claims that the rings took of a writer are of its application
  own_application : All (λ (b : BookState). All (λ c. c.app ≡ b.writer.app) (claims_in b.writer.push.pushed)) s.books
  own_application = λ k d lt.
      (let b : BookState = get_or s.books k d in
      let app : ℕ = b.writer.app in
      let all = flat_all (λ (c : Claimed). (c.place < 64) × (c.app ≡ app)) (λ (b : BookState). claims_in b.writer.push.pushed) (books_of app s.books) (is.claimed app (is.owned k d lt)).within in
      let theirs = all_passing (λ (b : BookState). All (λ (c : Claimed). (c.place < 64) × (c.app ≡ app)) (claims_in b.writer.push.pushed)) (λ (b : BookState). b.writer.app == app) s.books all in
      All-weaker (λ (c : Claimed). (c.place < 64) × (c.app ≡ app)) (λ (c : Claimed). c.app ≡ app) (λ c both. both.1) (claims_in b.writer.push.pushed) (theirs k d lt (eq-eqb app app refl)))

  -- ---- with a journal

  module _ (events : List Event) (j : IsJournalOf events s) where
    -- what the journal tells of a writer is what was taken of it
    module _ (app writer : ℕ) (within : app < length s.apps) where
      admitted : filter (of_writer writer) (order app events) ≡ map name_of (calls_in (of writer (taken_of s.handles app)))
      admitted = calls_of_writer app writer events (taken_of s.handles app) (j.admitted app within)

      pub claimed_so : filter (claimed_by writer) (claims app events) ≡ map (claim_as app) (claims_in (of writer (taken_of s.handles app)))
      claimed_so = claims_of_writer app writer events (taken_of s.handles app) (j.admitted app within)

    held : All (λ (b : BookState). All (IsHeld s.handles.levels.first events) b.writer.reader.reads) s.books
    held = λ k d lt.
        (let b : BookState = get_or s.books k d in
        All-weaker (levels.IsEntry s.handles.levels.first s.handles.levels.sets) (IsHeld s.handles.levels.first events)
        (λ (q : Read) entry. (entry.0, ap (λ (l : List ℕ). slice_get l (q.version - s.handles.levels.first)) (j.set q.slot) ∙ entry.1)) b.writer.reader.reads (is.held k d lt))

    pub is_account : IsAccountOf events s
    is_account = record {
      each = λ k d lt.
          (let b : BookState = get_or s.books k d in
          account s.handles.levels.first events b.writer b.records b.claims (told k d lt) (held k d lt)
          (admitted b.writer.app b.writer.push.number (is.owned k d lt) ∙ ap (λ (l : List RingItem). map name_of (calls_in l)) (taken_pushed k d lt))
          (claimed_so b.writer.app b.writer.push.number (is.owned k d lt) ∙ ap (λ (l : List RingItem). map (claim_as b.writer.app) (claims_in l)) (taken_pushed k d lt)
          ∙ own_claims b.writer.app (claims_in b.writer.push.pushed) (own_application k d lt)));
      no_others = λ app writer within none. admitted app writer within ∙ ap (λ (l : List RingItem). map name_of (calls_in l)) ((is.taken app within).no_others writer none);
      no_claims = λ app writer within none. claimed_so app writer within ∙ ap (λ (l : List RingItem). map (claim_as app) (claims_in l)) ((is.taken app within).no_others writer none);
      told = λ app within. (let a = j.losses app within in let l = losses_told app within in omega (arith, a, l));
    }

    -- no place is claimed twice
    pub places_apart : (app : ℕ) → app < length s.apps → IsDistinct nat_eq (map (λ claim. claim.place) (claims app events))
    places_apart app within =
        let books : List BookState = books_of app s.books in
        let all = is.taken app within in
        let same : map (λ (c : Claimed). c.place) (claims app events) ≡ map (λ (c : Claimed). c.place) (claims_in (taken_of s.handles app)) =
        ap (map (λ (c : Claimed). c.place)) (claims_are app events (taken_of s.handles app) (j.admitted app within)) ∙ places_as app (claims_in (taken_of s.handles app)) in
        differ (map (λ (c : Claimed). c.place) (claims app events)) (λ place.
        (let here = ap (times place) same in
        let few = places_within place (taken_of s.handles app) books all.no_others all.each in
        let parts : times place (map (λ (c : Claimed). c.place) (claimed_of app s.books)) ≡ total (λ (b : BookState). times place (map (λ (c : Claimed). c.place) (claims_in b.writer.push.pushed))) books =
        ap (times place) (map-flat (λ (c : Claimed). c.place) (λ (b : BookState). claims_in b.writer.push.pushed) books) ∙ times-flat (λ (b : BookState). map (λ (c : Claimed). c.place) (claims_in b.writer.push.pushed)) place books in
        let once = once_there (map (λ (c : Claimed). c.place) (claimed_of app s.books)) (is.claimed app within).apart place in
        omega (arith, here, few, parts, once)))
