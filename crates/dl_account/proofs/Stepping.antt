-- What a step of the daemon's side leaves true of it.
use Rattle.std.proofs.Common.{◌≡◌, ◌≢◌, ℕ, zero, suc, ◌+◌, ◌-◌, ◌^◌, ◌<◌, ◌≤◌, ◌==◌, Bool, true, false, List, [], ◌∷◌, ◌++◌, length, get_or, set, Some, slice_get, Result, Ok, Err, refl, sym, ap, ◌∙◌, subst, length-append, append-nil, ◌⊎◌, inl, inr, arith}
use Rattle.std.specs.Prelude.{IfNone, IfSome, OnOk, OnErr, OnSome, Option, None, slice_index}
use Rattle.std.proofs.lemmas.Bool.{eqb-true, eqb-false}
use Rattle.std.proofs.lemmas.List.{get_or-set_same, get_or-set_other}
use Rattle.dl_bytes.specs.declared.item.Item.{Item}
use Rattle.dl_bytes.specs.declared.item.Injection.{Injection}
use Rattle.dl_ring.specs.InjectionOrder as queue
use Rattle.dl_cells.specs.LevelHistory.{change}
use Rattle.dl_cells.proofs.LevelHistories.{entries_stay}
use Rattle.dl_cells.specs.Losses.{counted_of, reported_of}
use Rattle.dl_cells.specs.Views.{all_shares}
use Rattle.dl_cells.proofs.LossSums.{reported_else}
use Rattle.dl_ring.specs.declared.item.RingItem.{RingItem}
use Rattle.dl_ring.specs.declared.item.RingItem.TheVariants as ring
use Rattle.dl_ring.specs.declared.item.Taken.{Taken}
use Rattle.dl_ring.specs.declared.item.Taken.TheVariants as answer
use Rattle.dl_ring.specs.Items.{took as took_as}
use Rattle.dl_ring.specs.Order.{Holds}
use Rattle.dl_writer.specs.State.{BookState}
use Rattle.dl_desk.specs.declared.app_handles.AppHandles.{AppHandles}
use Rattle.dl_desk.specs.Handles.{HandlesState, QueueHolds, RingHolds, with_empty_take, with_injected, with_item, with_level, with_refusal, with_report}
use Rattle.dl_desk.specs.Lists.{At, changed_at}
use Rattle.dl_desk.proofs.Places.{changed_else, changed_here, changed_keeps, length-changed_at}
use Rattle.dl_account.specs.Books.{books_of, lost_of, items_pushed_of}
use Rattle.dl_account.specs.ClosingInside.{HaveHandles, IsClosing}
use Rattle.dl_account.specs.Entries.{EntriesState}
use Rattle.dl_account.specs.Joining.{AreBack}
use Rattle.dl_account.specs.Known.{IsDrained, IsEmpty, IsTold}
use Rattle.dl_account.specs.State.{ClosingState}
use Rattle.dl_account.proofs.Knowing.{here, ring_known, taken_here}

-- two numbers are the same or aren't
by_places : {G : Type 0} (n m : ℕ) → (n ≡ m → G) → (n ≢ m → G) → G
by_places {G} n m yes_same no_same = by_test (n == m) refl where
  by_test : (b : Bool) → (n == m) ≡ b → G
  by_test true is = yes_same (eqb-true n m is)
  by_test false is = no_same (λ same. eqb-false n m is same)

-- what holds of each place, where one is changed and it holds there
at_all : {A : Type 0} (P : ℕ → A → Type 0) (place : ℕ) (f : A → A) (xs : List A) → At (changed_at place f xs) place (P place) → ((n : ℕ) → n ≢ place → At xs n (P n)) → (n : ℕ) → At (changed_at place f xs) n (P n)
at_all P place f xs there others n = by_places n place
    (λ same. subst (λ (k : ℕ). At (changed_at place f xs) k (P k)) (sym same) there)
    (λ apart. changed_else (P n) place n f xs apart (others n apart))

changed_there : {A : Type 0} (xs : List A) (n : ℕ) (f : A → A) (x : A) → slice_get xs n ≡ Some x → slice_get (changed_at n f xs) n ≡ Some (f x)
changed_there [] n f x e = absurd cc
changed_there (y ∷ xs) zero f x e = let same : y ≡ x = cc in ap (λ z. Some (f z)) same
changed_there (y ∷ xs) (suc n) f x e = changed_there xs n f x e

-- an entry of a table of numbers that isn't 0 is there
long_enough : (xs : List ℕ) (n : ℕ) → 1 ≤ get_or xs n 0 → n < length xs
long_enough [] n h = absurd (omega (arith, h))
long_enough (x ∷ xs) zero h = omega arith
long_enough (x ∷ xs) (suc n) h = let rest = long_enough xs n h in omega (arith, rest)

set_zero : (xs : List ℕ) (n : ℕ) → get_or (set xs n 0) n 0 ≡ 0
set_zero [] n = refl
set_zero (x ∷ xs) zero = refl
set_zero (x ∷ xs) (suc n) = set_zero xs n

-- ---- a change of one application's ends

-- the passes that are back are the same where these parts are
same_back : (books : List BookState) (old new : AppHandles) → new.ring.joined ≡ old.ring.joined → new.ring.first ≡ old.ring.first → new.ring.given ≡ old.ring.given
    → new.queue.joined ≡ old.queue.joined → new.queue.first ≡ old.queue.first → new.queue.splits ≡ old.queue.splits → AreBack books old → AreBack books new
same_back books old new joined first given queue_joined queue_first splits b = record {
  ring = joined ∙ b.ring;
  ring_first = first ∙ b.ring_first;
  given = ap length given ∙ b.given;
  queue = queue_joined ∙ b.queue;
  queue_first = queue_first ∙ b.queue_first;
  splits = splits ∙ b.splits;
}

module _ (s : ClosingState) (app : ℕ) (f : AppHandles → AppHandles) where
  abbrev changed : List AppHandles
  changed = changed_at app f s.handles.apps

  -- it keeps what the passes that are back had done
  have_handles : HaveHandles s → ((books : List BookState) (e : AppHandles) → AreBack books e → AreBack books (f e))
      → At changed app (λ e. (contents : List RingItem) × Holds e.ring contents) → At changed app (λ e. (left : ℕ) × queue.Holds e.queue left)
      → At changed app (λ e. length e.queue.pushed < 2 ^ 64) → HaveHandles (record s { handles = record s.handles { apps = changed } })
  have_handles h back rings queues range = record {
    few = h.few;
    handles = length-changed_at app f s.handles.apps ∙ h.handles;
    back = λ n. changed_keeps (AreBack (books_of n s.books)) app n f s.handles.apps (back (books_of n s.books)) (h.back n);
    rings = at_all (λ _ (e : AppHandles). (contents : List RingItem) × Holds e.ring contents) app f s.handles.apps rings (λ n _. h.rings n);
    queues = at_all (λ _ (e : AppHandles). (left : ℕ) × queue.Holds e.queue left) app f s.handles.apps queues (λ n _. h.queues n);
    range = at_all (λ _ (e : AppHandles). length e.queue.pushed < 2 ^ 64) app f s.handles.apps range (λ n _. h.range n);
    levels = h.levels;
    shares = h.shares;
    counted = h.counted;
  }

-- ---- levels

module _ (s : ClosingState) (items losses injected : List ℕ) (entries : EntriesState) (c : IsClosing s items losses injected entries) where
  pub levelled : (slot level : ℕ) → IsClosing (record s { handles = with_level s.handles slot level }) items losses injected entries
  levelled slot level = record {
    books = c.books;
    handles = record {
      few = c.handles.few;
      handles = c.handles.handles;
      back = c.handles.back;
      rings = c.handles.rings;
      queues = c.handles.queues;
      range = c.handles.range;
      levels = λ k d lt. entries_stay s.handles.levels.first s.handles.levels.sets (change slot level ∷ []) (get_or s.books k d).writer.reader.reads (c.handles.levels k d lt);
      shares = c.handles.shares;
      counted = c.handles.counted;
    };
    counts = record { waiting = c.counts.waiting; untold = c.counts.untold; given = c.counts.given };
    kept = c.kept;
  }

  pub sets : {T E : Type 0} (r : Result T E) (slot level : ℕ) (new : HandlesState) → OnOk r (new ≡ with_level s.handles slot level) → OnErr r (new ≡ s.handles)
      → IsClosing (record s { handles = new }) items losses injected entries
  sets (Ok x) slot level new is _ = subst (λ (e : HandlesState). IsClosing (record s { handles = e }) items losses injected entries) (sym is) (levelled slot level)
  sets (Err x) slot level new _ is = subst (λ (e : HandlesState). IsClosing (record s { handles = e }) items losses injected entries) (sym is) c

module _ (s : ClosingState) (items losses injected : List ℕ) (entries : EntriesState) (c : IsClosing s items losses injected entries) (app : ℕ) where
  -- ---- takes

  abbrev taking : RingItem → AppHandles → AppHandles
  taking item e = record e { ring = record e.ring { taken = e.ring.taken ++ item ∷ [] } }

  abbrev finding_none : AppHandles → AppHandles
  finding_none e = record e { ring = record e.ring { empties = e.ring.empties + 1 } }

  pub none : IsClosing (record s { handles = with_empty_take s.handles app }) items losses injected entries
  none = record {
    books = c.books;
    handles = have_handles s app finding_none c.handles (λ books e b. same_back books e (finding_none e) refl refl refl refl refl refl b)
        (changed_keeps (λ (e : AppHandles). (contents : List RingItem) × Holds e.ring contents) app app finding_none s.handles.apps (λ e h. h) (c.handles.rings app))
        (changed_keeps (λ (e : AppHandles). (left : ℕ) × queue.Holds e.queue left) app app finding_none s.handles.apps (λ e h. h) (c.handles.queues app))
        (changed_keeps (λ (e : AppHandles). length e.queue.pushed < 2 ^ 64) app app finding_none s.handles.apps (λ e h. h) (c.handles.range app));
    counts = record {
      waiting = λ n. changed_keeps (λ (e : AppHandles). length e.ring.taken + slice_index items n ≡ items_pushed_of n s.books) app n finding_none s.handles.apps (λ e h. h) (c.counts.waiting n);
      untold = c.counts.untold;
      given = c.counts.given;
    };
    kept = c.kept;
  }

  module _ (within : app < length s.apps) where
    abbrev found : (e : AppHandles) × (slice_get s.handles.apps app ≡ Some e)
    found = here s c.handles app within

    -- a take that found none met an empty ring
    pub none_empty : RingHolds (with_empty_take s.handles app) app [] → IsEmpty s app
    none_empty holds =
        let e : AppHandles = found.0 in
        let all = ring_known app s.books e (c.handles.back app e found.1) [] (holds (finding_none e) (changed_there s.handles.apps app finding_none e found.1)) in
        let count = all.count in
        ap length (sym (taken_here s c.handles app within)) ∙ ap length (sym (append-nil e.ring.taken)) ∙ count

    module _ (item : RingItem) (contents : List RingItem) (holds : RingHolds (with_item s.handles app item) app contents) where
      -- as many waited before as are left, and this one
      waits : slice_index items app ≡ length contents + 1
      waits =
          let e : AppHandles = found.0 in
          let all = ring_known app s.books (taking item e) (same_back (books_of app s.books) e (taking item e) refl refl refl refl refl refl (c.handles.back app e found.1)) contents
          (holds (taking item e) (changed_there s.handles.apps app (taking item) e found.1)) in
          let count = all.count in
          let before = c.counts.waiting app e found.1 in
          omega (arith, count, before, length-append (e.ring.taken ++ item ∷ []) contents, length-append e.ring.taken (item ∷ []))

      pub some_waits : 1 ≤ get_or items app 0
      some_waits = let w = waits in omega (arith, w)

      pub some_not_empty : IsEmpty s app → ⊥
      some_not_empty empty =
          let w = waits in
          let before = c.counts.waiting app found.0 found.1 in
          let same = ap length (taken_here s c.handles app within) in
          absurd (omega (arith, w, before, same, empty))

      abbrev fewer : List ℕ
      fewer = set items app (get_or items app 0 - 1)

      pub some : IsClosing (record s { handles = with_item s.handles app item }) fewer losses injected entries
      some = record {
        books = c.books;
        handles = have_handles s app (taking item) c.handles (λ books e b. same_back books e (taking item e) refl refl refl refl refl refl b)
            (λ e is. (contents, holds e is))
            (changed_keeps (λ (e : AppHandles). (left : ℕ) × queue.Holds e.queue left) app app (taking item) s.handles.apps (λ e h. h) (c.handles.queues app))
            (changed_keeps (λ (e : AppHandles). length e.queue.pushed < 2 ^ 64) app app (taking item) s.handles.apps (λ e h. h) (c.handles.range app));
        counts = record {
          waiting = at_all (λ n (e : AppHandles). length e.ring.taken + slice_index fewer n ≡ items_pushed_of n s.books) app (taking item) s.handles.apps
              (changed_here (λ (e : AppHandles). length e.ring.taken + slice_index fewer app ≡ items_pushed_of app s.books) app (taking item) s.handles.apps
              (λ e is.
              (let before = c.counts.waiting app e is in
              let one = some_waits in
              let left = get_or-set_same items app (get_or items app 0 - 1) 0 (long_enough items app one) in
              omega (arith, before, one, left, length-append e.ring.taken (item ∷ [])))))
              (λ n apart e is. (let before = c.counts.waiting n e is in let same = get_or-set_other items app n (get_or items app 0 - 1) 0 apart in omega (arith, before, same)));
          untold = c.counts.untold;
          given = c.counts.given;
        };
        kept = c.kept;
      }

  -- ---- the answers of a take

  module _ (within : app < length s.apps) (new : HandlesState) where
    pub took : (at : ℕ) (item : RingItem) → at ≡ app → new ≡ with_item s.handles app item → ((contents : List RingItem) × RingHolds new app contents)
        → (1 ≤ get_or items at 0) × IsClosing (record s { handles = new }) (set items at (get_or items at 0 - 1)) losses injected entries × (IsEmpty s app → ⊥)
    took at item same is rest =
        let holds : (contents : List RingItem) × RingHolds (with_item s.handles app item) app contents = subst (λ (e : HandlesState). (contents : List RingItem) × RingHolds e app contents) is rest in (
          subst (λ (k : ℕ). 1 ≤ get_or items k 0) (sym same) (some_waits within item holds.0 holds.1),
          subst (λ (e : HandlesState). IsClosing (record s { handles = e }) (set items at (get_or items at 0 - 1)) losses injected entries) (sym is)
              (subst (λ (k : ℕ). IsClosing (record s { handles = with_item s.handles app item }) (set items k (get_or items k 0 - 1)) losses injected entries) (sym same) (some within item holds.0 holds.1)),
          some_not_empty within item holds.0 holds.1,
        )

    pub took_none : new ≡ with_empty_take s.handles app → RingHolds new app [] → IsClosing (record s { handles = new }) items losses injected entries × IsEmpty s app
    took_none is rest = (
      subst (λ (e : HandlesState). IsClosing (record s { handles = e }) items losses injected entries) (sym is) none,
      none_empty within (subst (λ (e : HandlesState). RingHolds e app []) is rest),
    )

  -- ---- losses

  reported : (count : ℕ) → reported_of app (with_report s.handles app count).losses.reported ≡ lost_of app s.books → IsClosing (record s { handles = with_report s.handles app count }) items (set losses app 0) injected entries
  reported count all = record {
    books = c.books;
    handles = record {
      few = c.handles.few;
      handles = c.handles.handles;
      back = c.handles.back;
      rings = c.handles.rings;
      queues = c.handles.queues;
      range = c.handles.range;
      levels = c.handles.levels;
      shares = c.handles.shares;
      counted = c.handles.counted;
    };
    counts = record {
      waiting = c.counts.waiting;
      untold = λ n within. by_places n app
          (λ is. subst (λ (k : ℕ). reported_of k (with_report s.handles app count).losses.reported + slice_index (set losses app 0) k ≡ lost_of k s.books) (sym is) (let z = set_zero losses app in omega (arith, z, all)))
          (λ apart.
          (let before = c.counts.untold n within in
          let more = reported_else n app count s.handles.losses.reported (λ is. apart (sym is)) in
          let rest = get_or-set_other losses app n 0 0 apart in
          omega (arith, before, more, rest)));
      given = c.counts.given;
    };
    kept = c.kept;
  }

  pub reports : (at count : ℕ) (new : HandlesState) → at ≡ app → new ≡ with_report s.handles app count → (s.handles.losses.shares ≡ all_shares → reported_of app new.losses.reported ≡ counted_of app s.handles.losses.counted)
      → IsClosing (record s { handles = new }) items (set losses at 0) injected entries
  reports at count new same is all =
      let told : reported_of app (with_report s.handles app count).losses.reported ≡ lost_of app s.books = sym (ap (λ (e : HandlesState). reported_of app e.losses.reported) is) ∙ all c.handles.shares ∙ c.handles.counted app in
      subst (λ (e : HandlesState). IsClosing (record s { handles = e }) items (set losses at 0) injected entries) (sym is)
      (subst (λ (k : ℕ). IsClosing (record s { handles = with_report s.handles app count }) items (set losses k 0) injected entries) (sym same) (reported count told))

  -- ---- injections

  -- what the queue took, or how many it refused, is another
  queued : (f : AppHandles → AppHandles) → ((e : AppHandles) → (f e).ring ≡ e.ring) → ((e : AppHandles) → (f e).queue.joined ≡ e.queue.joined) → ((e : AppHandles) → (f e).queue.first ≡ e.queue.first) → ((e : AppHandles) → (f e).queue.splits ≡ e.queue.splits)
      → ((left : ℕ) × At (changed_at app f s.handles.apps) app (λ e. queue.Holds e.queue left)) → At (changed_at app f s.handles.apps) app (λ e. length e.queue.pushed < 2 ^ 64)
      → IsClosing (record s { handles = record s.handles { apps = changed_at app f s.handles.apps } }) items losses injected entries
  queued f ring joined first splits holds range = record {
    books = c.books;
    handles = have_handles s app f c.handles
        (λ books e b. same_back books e (f e) (ap (λ r. r.joined) (ring e)) (ap (λ r. r.first) (ring e)) (ap (λ r. r.given) (ring e)) (joined e) (first e) (splits e) b)
        (changed_keeps (λ (e : AppHandles). (contents : List RingItem) × Holds e.ring contents) app app f s.handles.apps (λ e h. (h.0, subst (λ r. Holds r h.0) (sym (ring e)) h.1)) (c.handles.rings app))
        (λ e is. (holds.0, holds.1 e is)) range;
    counts = record {
      waiting = λ n. changed_keeps (λ (e : AppHandles). length e.ring.taken + slice_index items n ≡ items_pushed_of n s.books) app n f s.handles.apps
          (λ e h. subst (λ r. length r.taken + slice_index items n ≡ items_pushed_of n s.books) (sym (ring e)) h) (c.counts.waiting n);
      untold = c.counts.untold;
      given = c.counts.given;
    };
    kept = c.kept;
  }

  pub injects : {T E : Type 0} (r : Result T E) (item : Injection) (new : HandlesState) → OnOk r (new ≡ with_injected s.handles app item) → OnErr r (new ≡ with_refusal s.handles app)
      → ((left : ℕ) × QueueHolds new app left) → At new.apps app (λ e. length e.queue.pushed < 2 ^ 64) → IsClosing (record s { handles = new }) items losses injected entries
  injects (Ok x) item new is _ holds range =
      subst (λ (e : HandlesState). IsClosing (record s { handles = e }) items losses injected entries) (sym is)
      (queued (λ e. record e { queue = record e.queue { pushed = e.queue.pushed ++ item ∷ [] } }) (λ e. refl) (λ e. refl) (λ e. refl) (λ e. refl)
      (subst (λ (e : HandlesState). (left : ℕ) × QueueHolds e app left) is holds) (subst (λ (e : HandlesState). At e.apps app (λ e. length e.queue.pushed < 2 ^ 64)) is range))
  injects (Err x) item new _ is holds range =
      subst (λ (e : HandlesState). IsClosing (record s { handles = e }) items losses injected entries) (sym is)
      (queued (λ e. record e { queue = record e.queue { refusals = e.queue.refusals + 1 } }) (λ e. refl) (λ e. refl) (λ e. refl) (λ e. refl)
      (subst (λ (e : HandlesState). (left : ℕ) × QueueHolds e app left) is holds) (subst (λ (e : HandlesState). At e.apps app (λ e. length e.queue.pushed < 2 ^ 64)) is range))

  -- its application is there still
  pub within_after : app < length s.apps → {T E : Type 0} (r : Result T E) (item : Injection) (new : HandlesState) → OnOk r (new ≡ with_injected s.handles app item) → OnErr r (new ≡ with_refusal s.handles app) → app < length new.apps
  within_after within (Ok x) item new is _ =
      let same = ap (λ (e : HandlesState). length e.apps) is ∙ length-changed_at app (λ e. record e { queue = record e.queue { pushed = e.queue.pushed ++ item ∷ [] } }) s.handles.apps ∙ c.handles.handles in omega (arith, same, within)
  within_after within (Err x) item new _ is =
      let same = ap (λ (e : HandlesState). length e.apps) is ∙ length-changed_at app (λ e. record e { queue = record e.queue { refusals = e.queue.refusals + 1 } }) s.handles.apps ∙ c.handles.handles in omega (arith, same, within)

  -- ---- what the counters say

  module _ (within : app < length s.apps) where
    waits_none : (get_or items app 0 ≡ 0 → IsEmpty s app) × (IsEmpty s app → get_or items app 0 ≡ 0)
    waits_none =
        let there = here s c.handles app within in
        let counts = c.counts.waiting app there.0 there.1 in
        let same = ap length (taken_here s c.handles app within) in
        (λ zero_left. omega (arith, counts, same, zero_left), λ empty. omega (arith, counts, same, empty))

    untold_none : (get_or losses app 0 ≡ 0 → IsTold s app) × (IsTold s app → get_or losses app 0 ≡ 0)
    untold_none = let counts = c.counts.untold app within in (λ zero_left. omega (arith, counts, zero_left), λ told. omega (arith, counts, told))

    pub not_drained : (get_or items app 0 ≢ 0) ⊎ (get_or losses app 0 ≢ 0) → IsDrained s → ⊥
    not_drained (inl waiting) d = waiting (waits_none.1 (d app within).0)
    not_drained (inr untold) d = untold (untold_none.1 (d app within).1)

    pub one_drained : get_or items app 0 ≡ 0 → get_or losses app 0 ≡ 0 → ((n : ℕ) → n < app → IsEmpty s n × IsTold s n) → (n : ℕ) → n < app + 1 → IsEmpty s n × IsTold s n
    one_drained no_calls no_losses before n up_to = by_places n app
        (λ same. subst (λ (k : ℕ). IsEmpty s k × IsTold s k) (sym same) (waits_none.0 no_calls, untold_none.0 no_losses))
        (λ apart. before n (omega (arith, up_to, apart)))

-- ---- a take into an item of the caller's

module _ (s now : ClosingState) (app : ℕ) (same : s ≡ now) (new : HandlesState) where
  -- what is known of the handles is known of the daemon's side
  pub taken_too : (o : Option RingItem) → IfSome o (λ x. new ≡ with_item s.handles app x) → IfSome o (λ x. record s { handles = new } ≡ record now { handles = with_item now.handles app x })
  taken_too None is = is
  taken_too (Some x) is = ap (λ (e : HandlesState). record s { handles = e }) is ∙ ap (λ (s : ClosingState). record s { handles = with_item s.handles app x }) same

  pub none_too : (o : Option RingItem) → IfNone o (new ≡ with_empty_take s.handles app) → IfNone o (record s { handles = new } ≡ record now { handles = with_empty_take now.handles app })
  none_too None is = ap (λ (e : HandlesState). record s { handles = e }) is ∙ ap (λ (s : ClosingState). record s { handles = with_empty_take s.handles app }) same
  none_too (Some x) is = is

-- a take that didn't find the ring empty gave an item
pub some_taken : (t : Taken) (item : Item) (P : RingItem → Type 0) (Q : Type 0) → (t ≡ answer.Nothing → ⊥) → IfSome (took_as t item) P → OnSome (took_as t item) Q
    → (x : RingItem) × (took_as t item ≡ Some x) × P x × Q
some_taken answer.Call item P Q there taken rest = (ring.Log item, refl, taken, rest)
some_taken (answer.Claim claim) item P Q there taken rest = (ring.Register claim, refl, taken, rest)
some_taken answer.Nothing item P Q there taken rest = absurd (there refl)
