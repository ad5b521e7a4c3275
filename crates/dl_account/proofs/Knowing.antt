-- What is known of an application's ring and queue once all its writers are taken back.
use Rattle.std.proofs.Common.{◌≡◌, ℕ, zero, suc, ◌+◌, ◌-◌, ◌<◌, ◌≤◌, ◌==◌, List, [], ◌∷◌, ◌++◌, length, map, get_or, Some, slice_get, sym, ap, ◌∙◌, subst, ne_eqb, length-append, arith}
use Rattle.std.specs.Prelude.{◌^◌, min, unwrap_or, All}
use Rattle.std.specs.Option.{option_map}
use Rattle.std.proofs.lemmas.List.{length-map}
use Rattle.std.proofs.lemmas.List.FromFn.{length-map-range_with_len, get_or-map-range_with_len}
use Rattle.dl_bytes.specs.declared.item.Injection.{Injection}
use Rattle.dl_ring.specs.declared.injection_view.Entry.{Entry}
use Rattle.dl_ring.specs.InjectionOrder as queue
use Rattle.dl_ring.specs.declared.item.RingItem.{RingItem}
use Rattle.dl_ring.specs.declared.view.Sent.{Sent}
use Rattle.dl_ring.specs.Order.{AllJoined, Holds, of}
use Rattle.dl_cells.specs.Views.{bit, times, total}
use Rattle.dl_cells.proofs.Totals.{total-snoc}
use Rattle.dl_writer.specs.State.{BookState, numbers}
use Rattle.dl_desk.specs.declared.app_handles.AppHandles.{AppHandles}
use Rattle.dl_desk.specs.QueuedInjections.{pushed_of}
use Rattle.dl_desk.proofs.Making.{is_there}
use Rattle.dl_account.specs.Books.{books_of, given_by, injected_of}
use Rattle.dl_account.specs.ClosingInside.{HaveHandles, IsClosing}
use Rattle.dl_account.specs.Entries.{EntriesState}
use Rattle.dl_account.specs.Joining.{AreBack, sent_of}
use Rattle.dl_account.specs.Known.{AreGathered, AreGivenOnce, IsAllOf, taken_of}
use Rattle.dl_account.specs.State.{ClosingState}
use Rattle.dl_account.proofs.InOrder.{all_front}
use Rattle.dl_account.proofs.Lists.{all_last, all_mapped, total-map}

-- what the first pass of a ring sent: nothing
abbrev unsent : Sent
unsent = record { number = 0; items = [] }

module _ (app : ℕ) (books : List BookState) (e : AppHandles) (back : AreBack (books_of app books) e) where
  abbrev theirs : List BookState
  theirs = books_of app books

  module _ (contents : List RingItem) (holds : Holds e.ring contents) where
    abbrev all : List RingItem
    all = e.ring.taken ++ contents

    each : All (λ (sent : Sent). sent.items ≡ of sent.number all) (map sent_of theirs ++ unsent ∷ [])
    each = subst (λ (l : List Sent). All (λ (sent : Sent). sent.items ≡ of sent.number all) l) back.ring holds.each

    long : length e.ring.joined ≡ length e.ring.given + 1
    long = ap length back.ring ∙ length-append (map sent_of theirs) (unsent ∷ []) ∙ ap (λ n. n + 1) (length-map theirs sent_of ∙ sym back.given)

    whole : AllJoined e.ring.taken e.ring.joined contents
    whole = holds.whole back.ring_first long

    sum : (f : Sent → ℕ) → total f e.ring.joined ≡ total (λ b. f (sent_of b)) theirs + f unsent
    sum f = ap (total f) back.ring ∙ total-snoc f (map sent_of theirs) unsent ∙ ap (λ n. n + f unsent) (total-map f sent_of theirs)

    no_others : (n : ℕ) → times n (numbers theirs) ≡ 0 → of n all ≡ []
    no_others zero none = sym (all_last (λ (sent : Sent). sent.items ≡ of sent.number all) (map sent_of theirs) unsent each)
    no_others (suc n) none =
        let first : bit (0 == suc n) ≡ 0 = ap bit (ne_eqb 0 (suc n) (λ same. omega (arith, same))) in
        let of_them : total (λ (b : BookState). bit (b.writer.push.number == suc n)) theirs ≡ 0 = sym (total-map (λ (x : ℕ). bit (x == suc n)) (λ (b : BookState). b.writer.push.number) theirs) ∙ none in
        let s = sum (λ (sent : Sent). bit (sent.number == suc n)) in
        whole.no_others (suc n) (omega (arith, first, of_them, s))

    pub ring_known : IsAllOf app books (e.ring.taken ++ contents)
    ring_known = record {
      each = all_swapped (all_mapped (λ (sent : Sent). sent.items ≡ of sent.number all) sent_of theirs (all_front (λ (sent : Sent). sent.items ≡ of sent.number all) (map sent_of theirs) (unsent ∷ []) each));
      no_others = no_others;
      count = (let s = sum (λ (sent : Sent). length sent.items) in let c = whole.count in omega (arith, s, c));
    } where
      all_swapped : All (λ (b : BookState). b.writer.push.pushed ≡ of b.writer.push.number all) theirs → All (λ (b : BookState). of b.writer.push.number all ≡ b.writer.push.pushed) theirs
      all_swapped h = λ k d lt. sym (h k d lt)

  module _ (left : ℕ) (holds : queue.Holds e.queue left) where
    abbrev given : BookState → List Entry
    given b = b.writer.injections.taken

    queue_long : length e.queue.joined ≡ e.queue.splits + 1
    queue_long = ap length back.queue ∙ length-append (map given theirs) ([] ∷ []) ∙ ap (λ n. n + 1) (length-map theirs given ∙ sym back.splits)

    queue_whole : queue.AllJoined e.queue.pushed e.queue.joined left
    queue_whole = holds.whole back.queue_first queue_long

    queue_sum : (f : List Entry → ℕ) → total f e.queue.joined ≡ total f (map given theirs) + f []
    queue_sum f = ap (total f) back.queue ∙ total-snoc f (map given theirs) []

    pub queue_known : AreGivenOnce app books e.queue.pushed left
    queue_known = record {
      parts = all_mapped (queue.IsPart e.queue.pushed) given theirs (all_front (queue.IsPart e.queue.pushed) (map given theirs) ([] ∷ [])
          (subst (λ (l : List (List Entry)). All (queue.IsPart e.queue.pushed) l) back.queue holds.parts));
      once = λ n. (let s = queue_sum (queue.times n) in let o = queue_whole.once n in omega (arith, s, o));
      count = (let s = queue_sum (length {A = Entry}) in let t = total-map (length {A = Entry}) given theirs in let c = queue_whole.count in omega (arith, s, t, c));
      room = queue_whole.room;
    }

    pub given_in_range : length e.queue.pushed < 2 ^ 64 → min (2 ^ 64 - 1) (injected_of app books) ≡ injected_of app books
    given_in_range few = let c = queue_known.count in smaller (2 ^ 64 - 1) (injected_of app books) (omega (arith, few, c)) where
      smaller : (m n : ℕ) → n ≤ m → min m n ≡ n
      smaller m n le = omega (arith, le)

-- ---- the daemon's side

module _ (s : ClosingState) (handles : HaveHandles s) (app : ℕ) (within : app < length s.apps) where
  pub here : (e : AppHandles) × (slice_get s.handles.apps app ≡ Some e)
  here = is_there s.handles.apps app (let same = handles.handles in omega (arith, same, within))

  pub taken_here : here.0.ring.taken ≡ taken_of s.handles app
  taken_here = sym (ap (λ o. unwrap_or (option_map (λ (e : AppHandles). e.ring.taken) o) []) here.1)

  pushed_here : here.0.queue.pushed ≡ pushed_of s.handles app
  pushed_here = sym (ap (λ o. unwrap_or (option_map (λ (e : AppHandles). e.queue.pushed) o) []) here.1)

  pub ring_of : (contents : List RingItem) × IsAllOf app s.books (taken_of s.handles app ++ contents)
  ring_of =
      let holds = handles.rings app here.0 here.1 in
      (holds.0, subst (λ (l : List RingItem). IsAllOf app s.books (l ++ holds.0)) taken_here (ring_known app s.books here.0 (handles.back app here.0 here.1) holds.0 holds.1))

  pub queue_of : (left : ℕ) × AreGivenOnce app s.books (pushed_of s.handles app) left
  queue_of =
      let holds = handles.queues app here.0 here.1 in
      (holds.0, subst (λ (l : List Injection). AreGivenOnce app s.books l holds.0) pushed_here (queue_known app s.books here.0 (handles.back app here.0 here.1) holds.0 holds.1))

  -- the count of injections that were given, in 64 bits, is exact
  pub given_exact : min (2 ^ 64 - 1) (injected_of app s.books) ≡ injected_of app s.books
  given_exact = let holds = handles.queues app here.0 here.1 in given_in_range app s.books here.0 (handles.back app here.0 here.1) holds.0 holds.1 (handles.range app here.0 here.1)

  pub given_there : (counts : List ℕ) → counts ≡ given_by (length s.apps) s.books → (app < length counts) × (get_or counts app 0 ≡ injected_of app s.books)
  given_there counts is =
      let long : length counts ≡ length s.apps = ap length is ∙ length-map-range_with_len (λ (n : ℕ). min (2 ^ 64 - 1) (injected_of n s.books)) 0 (length s.apps) in (
        omega (arith, long, within),
        ap (λ (l : List ℕ). get_or l app 0) is ∙ get_or-map-range_with_len (λ (n : ℕ). min (2 ^ 64 - 1) (injected_of n s.books)) 0 (length s.apps) app app 0 within (omega arith) ∙ given_exact,
      )

pub gathered : (s : ClosingState) (items losses injected : List ℕ) (entries : EntriesState) → IsClosing s items losses injected entries → AreGathered s
gathered s items losses injected entries c = record {
  numbered = c.books.numbered;
  owned = c.books.owned;
  rings = ring_of s c.handles;
  queues = queue_of s c.handles;
  levels = c.handles.levels;
  losses = λ app within. (let u = c.counts.untold app within in omega (arith, u));
  claimed = c.books.claimed;
  told = c.books.told;
}
