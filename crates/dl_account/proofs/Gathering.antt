-- The daemon's side that is made of a desk and of the books of all its writers, in order.
use Rattle.std.proofs.Common.{◌≡◌, ℕ, ◌+◌, ◌^◌, ◌<◌, ◌≤◌, List, [], ◌∷◌, ◌++◌, length, map, get_or, Some, slice_get, refl, sym, ap, ◌∙◌, subst, length-append, arith}
use Rattle.std.specs.Prelude.{All, Contains, slice_index}
use Rattle.std.specs.Option.{option_map}
use Rattle.std.proofs.lemmas.List.Elements.{All-contains, All-weaker}
use Rattle.std.proofs.lemmas.Option.{slice_get-map}
use Rattle.dl_bytes.specs.declared.conf.AppSpec.{AppSpec}
use Rattle.dl_ring.specs.InjectionOrder as queue
use Rattle.dl_cells.specs.declared.level_history.Read.{Read}
use Rattle.dl_cells.specs.LevelHistory.{IsEntry}
use Rattle.dl_cells.specs.LevelStates.{ReaderState}
use Rattle.dl_cells.specs.Losses.{counted_of, reported_of}
use Rattle.dl_cells.specs.Views.{all_shares}
use Rattle.dl_cells.specs.LossStates as losses
use Rattle.dl_ring.specs.declared.item.RingItem.{RingItem}
use Rattle.dl_ring.specs.Order.{Holds}
use Rattle.dl_writer.specs.Claiming.{TellsClaims}
use Rattle.dl_writer.specs.Records.{TellAll}
use Rattle.dl_writer.specs.State.{BookState, IsWhole}
use Rattle.dl_desk.specs.declared.app_handles.AppHandles.{AppHandles}
use Rattle.dl_desk.specs.declared.app_handles.FirstHandles.{FirstHandles}
use Rattle.dl_desk.specs.Handles.{HandlesState, QueueHolds, RingHolds, with_words}
use Rattle.dl_desk.specs.Lists.{At}
use Rattle.dl_desk.specs.Made.{IsMadeWith}
use Rattle.dl_desk.specs.State.{DeskState}
use Rattle.dl_desk.proofs.Making.{is_there}
use Rattle.dl_desk.proofs.Places.{mapped_at, mapped_within}
use Rattle.dl_account.specs.Books.{given_by, items_pushed_of}
use Rattle.dl_account.specs.ClosingInside.{IsClosing}
use Rattle.dl_account.specs.Entries.{EntriesState, entries_of}
use Rattle.dl_account.specs.Joining.{AreGiven, FitFirsts, FitsHandles, join_books, join_firsts}
use Rattle.dl_account.specs.Making.{KeepsDesk, SameBases}
use Rattle.dl_account.specs.State.{ClosingState}
use Rattle.dl_account.proofs.Claimed.{claimed}
use Rattle.dl_account.proofs.InOrder.{all_front, within}
use Rattle.dl_account.proofs.Joined.{AreJoined, AreReady, gathered_is_joined, ready_fits, ready_fits_firsts, ready_fits_words}
use Rattle.dl_account.proofs.Knowing.{ring_known}

-- with one level more read
abbrev pub looked : HandlesState → Read → HandlesState
looked s r = record s { levels = record s.levels { reads = s.levels.reads ++ r ∷ [] } }

-- what holds of each place that is there holds of each
at_each : {A : Type 0} (P : ℕ → A → Type 0) (xs : List A) (count : ℕ) → count ≡ length xs → ((n : ℕ) → n < count → At xs n (P n)) → (n : ℕ) → At xs n (P n)
at_each P xs count long each n x is = let there = within xs n x is in each n (omega (arith, there, long)) x is

module _ (desk : DeskState) (books : List BookState) (ready : AreReady desk books) (s : HandlesState) (joined : AreJoined desk books s) (r : Read) (count : ℕ) (counts : count ≡ length desk.apps) where
  abbrev handles : HandlesState
  handles = looked s r

  abbrev pub made_of : ClosingState
  made_of = record { apps = desk.apps; handles = handles; books = books }

  long : count ≡ length handles.apps
  long = counts ∙ sym joined.long

  -- what was taken of a ring, before and after
  taken_before : (app : ℕ) (e : AppHandles) → slice_get handles.apps app ≡ Some e → At desk.handles.apps app (λ (old : AppHandles). e.ring.taken ≡ old.ring.taken)
  taken_before app e is =
      let here : slice_get (map (λ (e : AppHandles). e.ring.taken) desk.handles.apps) app ≡ Some e.ring.taken =
      ap (λ (l : List (List RingItem)). slice_get l app) (sym joined.taken) ∙ slice_get-map (λ (e : AppHandles). e.ring.taken) s.apps app ∙ ap (option_map (λ (e : AppHandles). e.ring.taken)) is
      in
      mapped_at (λ (e : AppHandles). e.ring.taken) desk.handles.apps app e.ring.taken here

  owned : All (λ (b : BookState). b.writer.app < length desk.apps) books
  owned = All-weaker (λ (b : BookState). IsMadeWith desk b.writer) (λ (b : BookState). b.writer.app < length desk.apps)
      (λ b made. mapped_within (λ (spec : AppSpec). spec.capacity) desk.apps b.writer.app b.writer.push.capacity made.capacity) books ready.made

  module _ (items losses injected : List ℕ) (entries : EntriesState)
      (waiting : (app : ℕ) → app < count → At desk.handles.apps app (λ e. length e.ring.taken ≤ items_pushed_of app books → length e.ring.taken + slice_index items app ≡ items_pushed_of app books))
      (untold : (app : ℕ) → app < count → reported_of app handles.losses.reported + slice_index losses app ≡ counted_of app handles.losses.counted)
      (given : injected ≡ given_by count books) (kept : entries ≡ entries_of books)
      (told : All (λ b. IsWhole b → TellAll b.writer b.records b.claims) books) (bases : SameBases books) (tells : All (λ b. TellsClaims b.writer) books)
      (held : All (IsEntry s.levels.first s.levels.sets) handles.levels.reads)
      (rings : (app : ℕ) → app < count → (contents : List RingItem) × RingHolds handles app contents)
      (queues : (app : ℕ) → app < count → (left : ℕ) × QueueHolds handles app left)
      (range : (app : ℕ) → app < count → At handles.apps app (λ e. length e.queue.pushed < 2 ^ 64))
      (numbers_given : (app : ℕ) → app < count → (so_many : ℕ) × AreGiven app so_many handles.levels) where
    -- so many waited as weren't taken
    waits : (app : ℕ) → app < count → At handles.apps app (λ e. length e.ring.taken + slice_index items app ≡ items_pushed_of app books)
    waits app below e is =
        let holds = rings app below in
        let all = (ring_known app books e (joined.back app e is) holds.0 (holds.1 e is)).count in
        let old = is_there desk.handles.apps app (mapped_within (λ (e : AppHandles). e.ring.taken) desk.handles.apps app e.ring.taken
        (ap (λ (l : List (List RingItem)). slice_get l app) (sym joined.taken) ∙ slice_get-map (λ (e : AppHandles). e.ring.taken) s.apps app ∙ ap (option_map (λ (e : AppHandles). e.ring.taken)) is)) in
        let same : length e.ring.taken ≡ length old.0.ring.taken = ap length (taken_before app e is old.0 old.1) in
        let so = waiting app below old.0 old.1 (omega (arith, all, same, length-append e.ring.taken holds.0)) in
        omega (arith, same, so)

    pub is_closing : IsClosing made_of items losses injected entries
    is_closing = record {
      books = record {
        numbered = ready.numbered;
        few = (let all = ready.all in let few = ready.kept.writers in omega (arith, all, few));
        owned = owned;
        claimed = λ app below.
            (let given = numbers_given app (omega (arith, below, counts)) in
            claimed app given.0 handles.levels books given.1 bases tells (joined.given app) (joined.many app) (joined.refused app));
        told = told;
      };
      handles = record {
        few = ready.kept.few;
        handles = joined.long;
        back = joined.back;
        rings = at_each (λ _ (e : AppHandles). (contents : List RingItem) × Holds e.ring contents) handles.apps count long (λ app below e is. (let holds = rings app below in (holds.0, holds.1 e is)));
        queues = at_each (λ _ (e : AppHandles). (left : ℕ) × queue.Holds e.queue left) handles.apps count long (λ app below e is. (let holds = queues app below in (holds.0, holds.1 e is)));
        range = at_each (λ _ (e : AppHandles). length e.queue.pushed < 2 ^ 64) handles.apps count long range;
        levels = λ k d lt. All-weaker (Contains s.levels.reads) (IsEntry s.levels.first s.levels.sets)
            (λ q there. All-contains (IsEntry s.levels.first s.levels.sets) s.levels.reads q (all_front (IsEntry s.levels.first s.levels.sets) s.levels.reads (r ∷ []) held) there)
            (get_or books k d).writer.reader.reads (joined.reads k d lt);
        shares = joined.shares;
        counted = joined.counted;
      };
      counts = record {
        waiting = at_each (λ app (e : AppHandles). length e.ring.taken + slice_index items app ≡ items_pushed_of app books) handles.apps count long waits;
        untold = λ app below. (let u = untold app (omega (arith, below, counts)) in let c = joined.counted app in omega (arith, u, c));
        given = given ∙ ap (λ (n : ℕ). given_by n books) counts;
      };
      kept = kept;
    }

  pub keeps_desk : KeepsDesk desk made_of
  keeps_desk = record {
    apps = refl;
    taken = joined.taken;
    empties = joined.empties;
    pushed = joined.pushed;
    refusals = joined.refusals;
    first = joined.first;
    sets = joined.sets;
    reported = joined.reported;
  }

-- ---- step by step

module _ (desk : DeskState) (books : List BookState) (ready : AreReady desk books) (e0 e1 e2 e3 e4 e5 e6 : HandlesState)
    (firsts : List FirstHandles) (readers : ReaderState) (counters : losses.WriterState)
    (is0 : e0 ≡ desk.handles) (firsts_are : firsts ≡ desk.firsts) (readers_are : readers ≡ desk.readers) (counters_are : counters ≡ desk.counters) where
  pub books_fit : All (λ b. FitsHandles e0 b.writer) books
  books_fit = subst (λ (e : HandlesState). All (λ b. FitsHandles e b.writer) books) (sym is0) (ready_fits desk books ready)

  module _ (is1 : e1 ≡ join_books e0 books) where
    with_all : e1 ≡ join_books desk.handles books
    with_all = is1 ∙ ap (λ (e : HandlesState). join_books e books) is0

    pub firsts_fit : FitFirsts e1 firsts
    firsts_fit = subst (λ (e : HandlesState). FitFirsts e firsts) (sym with_all) (subst (FitFirsts (join_books desk.handles books)) (sym firsts_are) (ready_fits_firsts desk books ready))

    module _ (is2 : e2 ≡ join_firsts 0 firsts e1) where
      with_firsts : e2 ≡ join_firsts 0 desk.firsts (join_books desk.handles books)
      with_firsts = is2 ∙ ap (λ (f : List FirstHandles). join_firsts 0 f e1) firsts_are ∙ ap (join_firsts 0 desk.firsts) with_all

      pub words_fit : (readers.table ≡ e2.levels.table) × (readers.claims ≡ e2.levels.claims) × (counters.table ≡ e2.losses.table)
      words_fit =
          let fit = ready_fits_words desk books ready in (
            ap (λ (r : ReaderState). r.table) readers_are ∙ fit.0 ∙ sym (ap (λ (e : HandlesState). e.levels.table) with_firsts),
            ap (λ (r : ReaderState). r.claims) readers_are ∙ fit.1 ∙ sym (ap (λ (e : HandlesState). e.levels.claims) with_firsts),
            ap (λ (w : losses.WriterState). w.table) counters_are ∙ fit.2 ∙ sym (ap (λ (e : HandlesState). e.losses.table) with_firsts),
          )

      module _ (is3 : e3 ≡ with_words e2 readers counters) where
        pub joined : AreJoined desk books e3
        joined = subst (AreJoined desk books)
            (sym (is3 ∙ ap (λ (r : ReaderState). with_words e2 r counters) readers_are ∙ ap (λ (w : losses.WriterState). with_words e2 desk.readers w) counters_are
            ∙ ap (λ (e : HandlesState). with_words e desk.readers desk.counters) with_firsts))
            (gathered_is_joined desk books ready)

        module _ (r : Read) (is4 : e4 ≡ looked e3 r) (count : ℕ) (counts : count ≡ length desk.apps) where
          pub long_settled : count ≡ length e4.apps
          long_settled = counts ∙ sym (joined.long) ∙ ap (λ (e : HandlesState). length e.apps) (sym is4)

          pub all_shared : e4.losses.shares ≡ all_shares
          all_shared = ap (λ (e : HandlesState). e.losses.shares) is4 ∙ joined.shares

          pub all_claimers : e4.levels.shares ≡ all_shares
          all_claimers = ap (λ (e : HandlesState). e.levels.shares) is4 ∙ joined.claimers

          module _ (is5 : e5 ≡ e4) (is6 : e6 ≡ e5) (apps : List AppSpec) (seen : List BookState) (apps_are : apps ≡ desk.apps) (seen_is : seen ≡ books) where
            -- what is there at the end
            last : e6 ≡ looked e3 r
            last = is6 ∙ is5 ∙ is4

            whole : made_of desk books ready e3 joined r count counts ≡ record { apps = apps; handles = e6; books = seen }
            whole = λ i. record { apps = sym apps_are i; handles = sym last i; books = sym seen_is i }

            pub keeps : KeepsDesk desk (record { apps = apps; handles = e6; books = seen })
            keeps = subst (KeepsDesk desk) whole (keeps_desk desk books ready e3 joined r count counts)

            pub closes : (items untold injected : List ℕ) (entries : EntriesState)
                → ((app : ℕ) → app < count → At e0.apps app (λ e. length e.ring.taken ≤ items_pushed_of app books → length e.ring.taken + slice_index items app ≡ items_pushed_of app books))
                → ((app : ℕ) → app < count → reported_of app e6.losses.reported + slice_index untold app ≡ counted_of app e6.losses.counted)
                → injected ≡ given_by count books → entries ≡ entries_of books
                → All (λ b. IsWhole b → TellAll b.writer b.records b.claims) books → SameBases books → All (λ b. TellsClaims b.writer) books
                → All (IsEntry e3.levels.first e3.levels.sets) e4.levels.reads
                → ((app : ℕ) → app < count → (contents : List RingItem) × RingHolds e5 app contents)
                → ((app : ℕ) → app < count → (left : ℕ) × QueueHolds e5 app left)
                → ((app : ℕ) → app < count → At e5.apps app (λ e. length e.queue.pushed < 2 ^ 64))
                → ((app : ℕ) → app < count → (so_many : ℕ) × AreGiven app so_many e5.levels)
                → IsClosing (record { apps = apps; handles = e6; books = seen }) items untold injected entries
            closes items untold injected entries waiting each given kept told bases tells held rings queues range numbers_given =
                let settled : e5 ≡ looked e3 r = is5 ∙ is4 in
                subst (λ (s : ClosingState). IsClosing s items untold injected entries) whole
                (is_closing desk books ready e3 joined r count counts items untold injected entries
                (subst (λ (e : HandlesState). (app : ℕ) → app < count → At e.apps app (λ e. length e.ring.taken ≤ items_pushed_of app books → length e.ring.taken + slice_index items app ≡ items_pushed_of app books)) is0 waiting)
                (subst (λ (e : HandlesState). (app : ℕ) → app < count → reported_of app e.losses.reported + slice_index untold app ≡ counted_of app e.losses.counted) last each)
                given kept told bases tells
                (subst (λ (e : HandlesState). All (IsEntry e3.levels.first e3.levels.sets) e.levels.reads) is4 held)
                (subst (λ (e : HandlesState). (app : ℕ) → app < count → (contents : List RingItem) × RingHolds e app contents) settled rings)
                (subst (λ (e : HandlesState). (app : ℕ) → app < count → (left : ℕ) × QueueHolds e app left) settled queues)
                (subst (λ (e : HandlesState). (app : ℕ) → app < count → At e.apps app (λ e. length e.queue.pushed < 2 ^ 64)) settled range)
                (subst (λ (e : HandlesState). (app : ℕ) → app < count → (so_many : ℕ) × AreGiven app so_many e.levels) settled numbers_given))
