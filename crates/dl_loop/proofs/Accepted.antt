-- What is true of a daemon goes on with a client that comes.
use Rattle.std.proofs.Common.{◌≡◌, ◌≢◌, ◌+◌, ℕ, Bool, List, [], ◌∷◌, ◌++◌, Some, None, length, map, count_by, append-nil, true, refl, sym, ap, subst, ◌∙◌, arith}
use Rattle.std.specs.Prelude.{cond}
use Rattle.std.proofs.lemmas.List.Sums.{sum_by-append}
use Rattle.std.proofs.lemmas.List.{length-append, length-map, map-append}
use Rattle.dl_events.specs.Journal.{Journaled}
use Rattle.dl_events.specs.declared.event.Event.{Event}
use Rattle.dl_events.specs.declared.event.Event.TheVariants as event
use Rattle.dl_model.specs.Journal.{IsInTurn, IsRunning}
use Rattle.dl_model.proofs.LongerJournals.{goes_on}
use Rattle.dl_outside.specs.Link.{IsFresh}
use Rattle.dl_outside.specs.Links.{Links}
use Rattle.dl_outside.specs.Told.{FolderTold, LinkTold, NetTold}
use Rattle.dl_hub.specs.State.{Client, Comes, Hub, is_open}
use Rattle.dl_core.specs.Follows.{IsAfter, Run, source_of}
use Rattle.dl_core.specs.State.{Core}
use Rattle.dl_core.proofs.Connecting.{connect_in_turn}
use Rattle.dl_core.proofs.Following.{running_on}
use Rattle.dl_turns.proofs.PostedSides.{posted_both}
use Rattle.dl_rounds.specs.Arrivals.{Arrives, Connects, ConnectsAs}
use Rattle.dl_rounds.specs.declared.accepting.Arrival.{Arrival}
use Rattle.dl_rounds.specs.declared.accepting.Arrival.TheVariants as arrival
use Rattle.dl_turns.specs.Gone.{TellTheEnd}
use Rattle.dl_rounds.specs.Ready.{AreHeard, AreLinked, open_clients}
use Rattle.dl_rounds.specs.Shown.{AllShowWhy}
use Rattle.dl_loop.specs.Bounds.{HasBounds}
use Rattle.dl_taking.specs.Drained.{is_claim, is_noted}
use Rattle.dl_taking.specs.Takes.{AreThere}
use Rattle.dl_loop.specs.Daemon.{IsDaemon, TellTaken}
use Rattle.dl_loop.specs.Holds.{AreNoted, AreTaken, HoldsIn}
use Rattle.dl_loop.specs.State.{DaemonState, desk_told}
use Rattle.dl_loop.specs.Told.{IsToldBy}
use Rattle.dl_settling.specs.Went.{TellBytes}
use Rattle.dl_settling.proofs.NoRequests.{posted_none}
use Rattle.dl_loop.proofs.NotedDaemons.{noted_connected}
use Rattle.dl_loop.proofs.ShownDaemons.{shown_connected}
use Rattle.dl_loop.proofs.ToldJournals.{told_more}
use Rattle.dl_lemmas.proofs.Lists.{last_or_before}
use Rattle.dl_lemmas.proofs.Options.{nothing_taken}

-- the links took just that, and one more took nothing
pub taken_one_more : (links : List LinkTold) (link : LinkTold) (took : ℕ → List ℕ) → took (length links + 1) ≡ [] → link.taken ≡ Some [] → AreTaken links took → AreTaken (links ++ link ∷ []) took
taken_one_more links link took none nothing taken = λ place other there.
    last_or_before links link other place there (other.taken ≡ Some (took (place + 1))) (λ before. taken place other before)
    (λ e same. ap (λ (l : LinkTold). l.taken) (sym same) ∙ nothing ∙ ap Some (sym none ∙ ap (λ n. took (n + 1)) (sym e)))

-- a folder, whatever it tells
pub folder_none : FolderTold
folder_none = record { files = None; faults = 0; changes = 0; appends = 0 }

module _ {L : Type 0} (told : L → LinkTold) (old : DaemonState L) (is : IsDaemon told old) where
  -- a run that held goes on with a client's Connect
  holds_connected : (number : ℕ) (core : Core) (events : List Event) (link : L) → Connects number old.core core (Some old.journal.events) (Some events) → IsFresh (told link)
      → (run : Run) → HoldsIn (TellTaken told) (TellBytes told) (old.greeted ≡ true) run (map told old.links.links) old.seated.listeners old.journal.events old.core (desk_told old.first_desk) (desk_told old.desk)
      → HoldsIn (TellTaken told) (TellBytes told) (old.greeted ≡ true) run (map told (old.links.links ++ link ∷ [])) old.seated.listeners (old.journal.events ++ event.Connect number ∷ []) core (desk_told old.first_desk) (desk_told old.desk)
  holds_connected number core events link connects fresh run holds = record {
    took = holds.took;
    taken = λ tells. subst (λ ls. AreTaken ls holds.took) one_more (taken_now tells);
    after = after_now;
    noted = λ tells. subst (λ ls. AreNoted run (old.journal.events ++ event.Connect number ∷ []) holds.took ls old.seated.listeners core) one_more
        (noted_connected run old.journal.events holds.took old.core core number connects.comes.0 (map told old.links.links) old.seated.listeners (told link) connects.next
        connects.comes.1 connects.comes.2 connects.comes.3 (is.linked.many ∙ sym (length-map old.links.links told))
        (nothing_taken (told link).given (tells link).0 fresh.nothing_given) is.heard.unused after_now (taken_now (λ l. (tells l).1)) (holds.noted tells));
    formed = goes_on run.setting (source_of run) old.journal.events (event.Connect number ∷ []) holds.formed (
      subst (λ n. IsInTurn run.setting (source_of run) old.journal.events (event.Connect n) []) (sym connects.next)
          (connect_in_turn old.core [] connects.place is.linked.settled run old.journal.events holds.took holds.after is.running holds.formed),
      tt,
    );
    posted = λ app. posted_both run.setting [] old.journal.events (event.Connect number ∷ []) app (desk_told old.first_desk) (desk_told old.desk) (desk_told old.desk) (holds.posted app)
        (posted_none run.setting old.journal.events (event.Connect number ∷ []) app (desk_told old.desk) (desk_told old.desk) (tt, tt) refl refl);
    there = λ greeted. subst (λ (c : Core). AreThere (length old.desk.apps) c.registry) (sym connects.rest) (holds.there greeted);
  } where
    one_more : map told old.links.links ++ told link ∷ [] ≡ map told (old.links.links ++ link ∷ [])
    one_more = sym (map-append told old.links.links (link ∷ []))

    after_now : IsAfter run (old.journal.events ++ event.Connect number ∷ []) holds.took core
    after_now = (connects.after folder_none run old.journal.events holds.took tt holds.after).0

    taken_now : TellTaken told → AreTaken (map told old.links.links ++ told link ∷ []) holds.took
    taken_now tells = taken_one_more (map told old.links.links) (told link) holds.took
        (holds.after.hub.untaken (length (map told old.links.links) + 1) (omega (arith, length-map old.links.links told, is.linked.many)))
        (nothing_taken (told link).taken (tells link) fresh.nothing_taken) (holds.taken tells)

  -- how many are open, one more
  one_open : (hub hub_now : Hub) → Comes hub hub_now → (open_clients hub_now ≡ open_clients hub + 1) × (length hub_now.clients ≡ length hub.clients + 1)
  one_open hub hub_now comes = (
    ap (count_by is_open) comes.1 ∙ sum_by-append (λ (c : Client). cond (is_open c) 1 0) hub.clients (comes.0 ∷ []) ∙ rw comes.2 (omega arith),
    ap length comes.1 ∙ length-append hub.clients (comes.0 ∷ []),
  )

  -- a daemon is one with a client's Connect
  pub connected : (number : ℕ) (core : Core) (journal : Journaled) (links : Links L) (dropped : ℕ) (failed wanted : Bool) (link : L)
      → Connects number old.core core (Some old.journal.events) (Some journal.events) → links ≡ record { links = old.links.links ++ link ∷ []; room = old.links.room } → IsFresh (told link)
      → AreLinked links core journal.spare → AreHeard old.seated core (desk_told old.desk) → journal.spare + 1 ≡ old.journal.spare → core.hub.admitted ≡ old.core.hub.admitted
      → IsDaemon told (record old { core = core; journal = journal; links = links; dropped = dropped; failed = failed; wanted = wanted })
  connected number core journal links dropped failed wanted link connects links_are fresh linked heard spare admitted =
      let events : journal.events ≡ old.journal.events ++ event.Connect number ∷ [] = cc connects.event in
      let open_now = one_open old.core.hub core.hub connects.comes in
      record {
        told_by = subst (λ es. IsToldBy es (length old.desk.apps) old.desk.handles) (sym events)
            (told_more old.journal.events (event.Connect number ∷ []) (length old.desk.apps) old.desk.handles old.desk.handles is.told_by
            (λ app. sym (append-nil _)) (λ app. omega arith) (λ app beyond. (refl, refl)) refl (sym (append-nil _)));
        linked = linked;
        heard = heard;
        room = record {
          noted = is.room.noted ∙ omega (arith, sum_by-append (λ (e : Event). cond (is_noted e) 1 0) old.journal.events (event.Connect number ∷ []), ap (count_by is_noted) events);
          claimed = is.room.claimed ∙ omega (arith, sum_by-append (λ (e : Event). cond (is_claim e) 1 0) old.journal.events (event.Connect number ∷ []), ap (count_by is_claim) events);
          few = is.room.few;
          few_claims = is.room.few_claims;
          limit = connects.same.limit ∙ is.room.limit;
          spare = omega (arith, is.room.spare, open_now.0, open_now.1, spare, connects.place.0, is.room.limit);
        };
        bounds = subst (λ n. HasBounds old.noted n old.desk.handles.losses.reported) (sym admitted) is.bounds;
        few = is.few;
        few_claims = is.few_claims;
        apps = is.apps;
        desk = is.desk;
        running = subst IsRunning (sym events) (running_on old.journal.events (event.Connect number ∷ []) is.running refl);
        runs = λ run gives. subst (λ (es : List Event). HoldsIn (TellTaken told) (TellBytes told) (old.greeted ≡ true) run (map told links.links) old.seated.listeners es core (desk_told old.first_desk) (desk_told old.desk)) (sym events)
            (subst (λ (ls : Links L). HoldsIn (TellTaken told) (TellBytes told) (old.greeted ≡ true) run (map told ls.links) old.seated.listeners (old.journal.events ++ event.Connect number ∷ []) core (desk_told old.first_desk) (desk_told old.desk)) (sym links_are)
            (holds_connected number core journal.events link connects fresh run (is.runs run gives)));
        shown = λ run gives. subst (λ (es : List Event). AllShowWhy (TellTheEnd told) es core.hub (map told links.links)) (sym events)
            (subst (λ (ls : Links L). AllShowWhy (TellTheEnd told) (old.journal.events ++ event.Connect number ∷ []) core.hub (map told ls.links)) (sym links_are)
            (subst (AllShowWhy (TellTheEnd told) (old.journal.events ++ event.Connect number ∷ []) core.hub) (sym (map-append told old.links.links (link ∷ [])))
            (shown_connected old.journal.events (event.Connect number ∷ []) old.core.hub core.hub connects.comes.0 (map told old.links.links) (told link) connects.comes.1 connects.comes.2 connects.same.buffer
            (is.linked.many ∙ sym (length-map old.links.links told)) (is.shown run gives))));
      }

  -- a daemon is one where no client came
  same_daemon : (core : Core) (journal : Journaled) (links : Links L) (dropped : ℕ) (failed wanted : Bool) → core ≡ old.core → journal ≡ old.journal → links ≡ old.links
      → IsDaemon told (record old { core = core; journal = journal; links = links; dropped = dropped; failed = failed; wanted = wanted })
  same_daemon core journal links dropped failed wanted same_core same_journal same_links =
      subst (λ (c : Core). IsDaemon told (record old { core = c; journal = journal; links = links; dropped = dropped; failed = failed; wanted = wanted })) (sym same_core)
      (subst (λ (j : Journaled). IsDaemon told (record old { journal = j; links = links; dropped = dropped; failed = failed; wanted = wanted })) (sym same_journal)
      (subst (λ (ls : Links L). IsDaemon told (record old { links = ls; dropped = dropped; failed = failed; wanted = wanted })) (sym same_links)
      (record {
        told_by = is.told_by;
        linked = is.linked;
        heard = is.heard;
        room = record { noted = is.room.noted; claimed = is.room.claimed; few = is.room.few; few_claims = is.room.few_claims; limit = is.room.limit; spare = is.room.spare };
        bounds = is.bounds;
        few = is.few;
        few_claims = is.few_claims;
        apps = is.apps;
        desk = is.desk;
        running = is.running;
        runs = is.runs;
        shown = is.shown;
      })))

  -- a daemon is one after an accept, whatever came of it
  pub accepted : (came : Arrival) (net net_now : NetTold L) (core : Core) (journal : Journaled) (links : Links L) (dropped : ℕ) (failed wanted : Bool)
      → Arrives told came net net_now old.links links old.dropped dropped → ConnectsAs came old.core core (Some old.journal.events) (Some journal.events)
      → AreLinked links core journal.spare → AreHeard old.seated core (desk_told old.desk)
      → ((number : ℕ) → came ≡ arrival.Client number → journal.spare + 1 ≡ old.journal.spare) → (((number : ℕ) → came ≢ arrival.Client number) → journal ≡ old.journal)
      → IsDaemon told (record old { core = core; journal = journal; links = links; dropped = dropped; failed = failed; wanted = wanted })
  accepted (arrival.Client number) net net_now core journal links dropped failed wanted arrives connects linked heard spare unused =
      connected number core journal links dropped failed wanted arrives.0 connects arrives.2 arrives.1.1 linked heard (spare number refl) connects.admitted
  accepted arrival.Dropped net net_now core journal links dropped failed wanted arrives connects linked heard spare unused =
      same_daemon core journal links dropped failed wanted connects.1 (unused (λ number is. absurd cc)) arrives.2
  accepted arrival.Nobody net net_now core journal links dropped failed wanted arrives connects linked heard spare unused =
      same_daemon core journal links dropped failed wanted connects.0 (unused (λ number is. absurd cc)) arrives.3
  accepted arrival.Failed net net_now core journal links dropped failed wanted arrives connects linked heard spare unused =
      same_daemon core journal links dropped failed wanted connects.0 (unused (λ number is. absurd cc)) arrives.2
  accepted arrival.OutOfMemory net net_now core journal links dropped failed wanted arrives connects linked heard spare unused =
      same_daemon core journal links dropped failed wanted connects.0 (unused (λ number is. absurd cc)) arrives.2
