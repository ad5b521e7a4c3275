-- What is true of a daemon goes on with a round over its clients.
use Rattle.std.proofs.Common.{◌≡◌, ◌≤◌, ◌+◌, ℕ, List, [], ◌∷◌, ◌++◌, Option, Some, true, refl, sym, ap, subst, ◌∙◌, arith, append-nil, length, map, count_by}
use Rattle.std.specs.Prelude.{cond}
use Rattle.std.specs.List.{AllByRecursion}
use Rattle.std.proofs.lemmas.List.{length-map}
use Rattle.std.proofs.lemmas.List.Sums.{sum_by-append}
use Rattle.dl_events.specs.Journal.{Journaled}
use Rattle.dl_events.specs.declared.event.Event.{Event}
use Rattle.dl_events.specs.declared.event.Event.TheVariants as event
use Rattle.dl_bytes.specs.declared.conf.AppSpec.{AppSpec}
use Rattle.dl_cells.specs.Losses.{reported_of}
use Rattle.dl_cells.specs.declared.loss_keeper.Report.{Report}
use Rattle.dl_model.specs.Accounts.{takes}
use Rattle.dl_model.specs.Journal.{IsRunning}
use Rattle.dl_model.specs.Report.{reported}
use Rattle.dl_outside.specs.Links.{Links}
use Rattle.dl_outside.specs.Outside.{Grows}
use Rattle.dl_outside.specs.Told.{FolderTold, LinkTold}
use Rattle.dl_ring.specs.declared.item.RingItem.{RingItem}
use Rattle.dl_ring.specs.Items.{calls_in}
use Rattle.dl_desk.specs.Lists.{At}
use Rattle.dl_desk.specs.State.{DeskState}
use Rattle.dl_hub.specs.State.{IsSameHub}
use Rattle.dl_core.specs.Admission.{GivesFrames}
use Rattle.dl_core.specs.Follows.{Run}
use Rattle.dl_core.specs.State.{Core}
use Rattle.dl_account.specs.Known.{taken_of, told_as}
use Rattle.dl_core.proofs.Following.{stays_formed}
use Rattle.dl_turns.specs.State.{side}
use Rattle.dl_turns.proofs.PostedSides.{posted_both}
use Rattle.dl_rounds.specs.Clients.{Clients}
use Rattle.dl_rounds.specs.Passing.{AreLater, IsOfClients, StayAsNoted, took_all}
use Rattle.dl_turns.specs.Gone.{TellTheEnd}
use Rattle.dl_rounds.specs.Ready.{AreHeard, AreLinked, KeepsRoom}
use Rattle.dl_rounds.specs.Shown.{AllShowWhy}
use Rattle.dl_rounds.specs.ListenerPool.{Seated}
use Rattle.dl_taking.specs.Drained.{is_claim, is_noted}
use Rattle.dl_taking.specs.Takes.{AreThere}
use Rattle.dl_taking.specs.Took.{Took, took_by}
use Rattle.dl_taking.proofs.StayingApps.{NoMessage, still_there}
use Rattle.dl_settling.specs.Room.{HasFewClaims, IsFew}
use Rattle.dl_settling.specs.Went.{TellBytes}
use Rattle.dl_loop.specs.Bounds.{HasBounds}
use Rattle.dl_loop.specs.Daemon.{IsDaemon, TellTaken}
use Rattle.dl_loop.specs.Holds.{AreTaken, Gives, HoldsIn}
use Rattle.dl_loop.specs.State.{DaemonState, SameDesk, clients_of, desk_told}
use Rattle.dl_loop.specs.Told.{IsToldBy}
use Rattle.dl_loop.proofs.ToldJournals.{told_more}
use Rattle.dl_loop.proofs.NotedDaemons.{each_tells, noted_later}
use Rattle.dl_loop.proofs.DeskRest.{later_both, same_apps, same_later, same_reported, same_taken}
use Rattle.dl_lemmas.proofs.Lists.{there_too}

-- ---- events of clients take nothing, and no program tells of itself in them

record TakesNothing (more : List Event) : Type 0 where
  pub calls : (app : ℕ) → takes app more ≡ []
  pub losses : (app : ℕ) → reported app more ≡ 0
  pub noted : count_by is_noted more ≡ 0
  pub claimed : count_by is_claim more ≡ 0
  pub untold : AllByRecursion NoMessage more

of_clients_take_nothing : (more : List Event) → AllByRecursion IsOfClients more → TakesNothing more
of_clients_take_nothing [] is = record { calls = λ app. refl; losses = λ app. refl; noted = refl; claimed = refl; untold = tt }
of_clients_take_nothing (event.Request other frame answer ∷ more) is =
    let rest = of_clients_take_nothing more is.1 in record { calls = rest.calls; losses = rest.losses; noted = rest.noted; claimed = rest.claimed; untold = (tt, rest.untold) }
of_clients_take_nothing (event.Level slot level ∷ more) is =
    let rest = of_clients_take_nothing more is.1 in record { calls = rest.calls; losses = rest.losses; noted = rest.noted; claimed = rest.claimed; untold = (tt, rest.untold) }
of_clients_take_nothing (event.Close client cause ∷ more) is =
    let rest = of_clients_take_nothing more is.1 in record { calls = rest.calls; losses = rest.losses; noted = rest.noted; claimed = rest.claimed; untold = (tt, rest.untold) }
of_clients_take_nothing (event.Log app writer call moment ∷ more) is = absurd is.0
of_clients_take_nothing (event.Claim claim moment ∷ more) is = absurd is.0
of_clients_take_nothing (event.Lost app count moment ∷ more) is = absurd is.0
of_clients_take_nothing (event.User channel msg moment ∷ more) is = absurd is.0
of_clients_take_nothing (event.Connect client ∷ more) is = absurd is.0

-- ---- what links took

pub grown : (before now : Option (List ℕ)) (had more : List ℕ) → before ≡ Some had → Grows before now more → now ≡ Some (had ++ more)
grown before now had more is grows = subst (λ (o : Option (List ℕ)). Grows o now more) is grows

pub taken_later : (old new : Clients) (took : ℕ → List ℕ) (later : AreLater old new) → AreTaken old.links took → AreTaken new.links (took_all took later.sent)
taken_later old new took later taken = λ place link there.
    let before = there_too old.links new.links place link later.many there in
    grown before.0.taken link.taken (took (place + 1)) (later.sent (place + 1)) (taken place before.0 before.1) (later.links_took place before.0 link before.1 there)

-- ---- the daemon

-- a run gives what it gave before where nothing more was taken
pub gives_before : (run : Run) (first : Core) (old new : DeskState) → SameDesk old new → Gives run first new.apps new.handles → Gives run first old.apps old.handles
gives_before run first old new same gives = record {
  begins = gives.begins;
  frames = λ app. subst (λ (items : List RingItem). GivesFrames (calls_in items) run) (same_taken old new same app) (gives.frames app);
  apids = subst (λ apps. (app : ℕ) → At apps app (λ spec. run.apid app ≡ spec.apid)) (same_apps old new same) gives.apids;
}

pub same_took_by : (old new : DeskState) → SameDesk old new → took_by new.handles ≡ took_by old.handles
same_took_by old new same = λ i. record { taken = λ app. same_taken old new same app i; reported = same_reported old new same i }

pub add_none : (n : ℕ) → n + 0 ≡ n
add_none n = omega arith

module _ {L : Type 0} (told : L → LinkTold) (old : DaemonState L) (is : IsDaemon told old) where
  -- a run that held goes on with the events and the bytes of a round over clients
  holds_later : (desk : DeskState) (folder : FolderTold) (new : Clients) (stays : StayAsNoted (clients_of told old folder) new) → new.side.desk ≡ desk_told desk → SameDesk old.desk desk
      → (run : Run) → Gives run old.first_core desk.apps desk.handles
      → HoldsIn (TellTaken told) (TellBytes told) (old.greeted ≡ true) run new.links new.listeners (old.journal.events ++ stays.later.more) new.side.core (desk_told old.first_desk) new.side.desk
  holds_later desk folder new stays told_so same run gives =
      let later = stays.later in
      let holds = is.runs run (gives_before run old.first_core old.desk desk same gives) in record {
        took = took_all holds.took later.sent;
        taken = λ tells. taken_later (clients_of told old folder) new holds.took later (holds.taken tells);
        after = (later.after run old.journal.events holds.took holds.after).0;
        noted = λ tells. noted_later run old.journal.events holds.took (clients_of told old folder) new stays (each_tells told old.links.links tells)
            (holds.noted tells (desk_told old.desk) (Some old.journal.events) folder);
        formed = stays_formed old.core later.more later.formed run old.journal.events holds.took holds.after holds.formed;
        posted = λ app. posted_both run.setting [] old.journal.events later.more app (desk_told old.first_desk) (desk_told old.desk) new.side.desk (holds.posted app)
            (later.posts run old.journal.events holds.took holds.after app);
        there = λ greeted. subst (λ (apps : ℕ). AreThere apps new.side.core.registry) (sym later.desk.apps)
            (still_there run old.journal.events later.more holds.took (took_all holds.took later.sent) old.core new.side.core (length old.desk.apps) holds.after
            (later.after run old.journal.events holds.took holds.after).0 (of_clients_take_nothing later.more later.of_clients).untold (holds.there greeted));
      }

  -- a daemon is one after it
  pub later_daemon : (core : Core) (desk : DeskState) (journal : Journaled) (links : Links L) (seated : Seated) (folder folder_now : FolderTold)
      → StayAsNoted (clients_of told old folder) (record { links = map told links.links; listeners = seated.listeners; side = side core (desk_told desk) (Some journal.events) folder_now })
      → (AllShowWhy (TellTheEnd told) old.journal.events old.core.hub (map told old.links.links) → AllShowWhy (TellTheEnd told) journal.events core.hub (map told links.links))
      → IsRunning journal.events → core.hub.admitted ≡ old.core.hub.admitted → SameDesk old.desk desk
      → AreLinked links core journal.spare → AreHeard seated core (desk_told desk) → KeepsRoom old.core core old.journal.spare journal.spare → IsSameHub old.core.hub core.hub
      → IsDaemon told (record old { core = core; desk = desk; journal = journal; links = links; seated = seated })
  later_daemon core desk journal links seated folder folder_now stays shows running admitted same linked heard room same_hub =
      let later = stays.later in
      let events : journal.events ≡ old.journal.events ++ later.more = cc later.events in
      let none = of_clients_take_nothing later.more later.of_clients in
      let many : length links.links ≡ length old.links.links = omega (arith, length-map links.links told, length-map old.links.links told, later.many) in
      record {
        told_by = subst (λ es. IsToldBy es (length desk.apps) desk.handles) (sym events) (subst (λ (specs : List AppSpec). IsToldBy (old.journal.events ++ later.more) (length specs) desk.handles) (sym (same_apps old.desk desk same))
            (told_more old.journal.events later.more (length old.desk.apps) old.desk.handles desk.handles is.told_by
            (λ app. ap (map (told_as app)) (same_taken old.desk desk same app) ∙ sym (ap (λ xs. map (told_as app) (taken_of old.desk.handles app) ++ xs) (none.calls app) ∙ append-nil _))
            (λ app. ap (reported_of app) (same_reported old.desk desk same) ∙ sym (ap (λ n. reported_of app old.desk.handles.losses.reported + n) (none.losses app) ∙ add_none _))
            (λ app beyond. (none.calls app, none.losses app)) later.desk.first later.desk.sets));
        linked = linked;
        heard = heard;
        room = record {
          noted = is.room.noted ∙ omega (arith, sum_by-append (λ (e : Event). cond (is_noted e) 1 0) old.journal.events later.more, ap (count_by is_noted) events, none.noted);
          claimed = is.room.claimed ∙ omega (arith, sum_by-append (λ (e : Event). cond (is_claim e) 1 0) old.journal.events later.more, ap (count_by is_claim) events, none.claimed);
          few = is.room.few;
          few_claims = is.room.few_claims;
          limit = same_hub.limit ∙ is.room.limit;
          spare = omega (arith, is.room.spare, room, linked.many, is.linked.many, many);
        };
        bounds = subst (λ n. HasBounds old.noted n desk.handles.losses.reported) (sym admitted)
            (subst (λ (rs : List Report). HasBounds old.noted old.core.hub.admitted rs) (sym (same_reported old.desk desk same)) is.bounds);
        few = subst (λ (n : ℕ). IsFew old.noted (took_by desk.handles) n) (sym (ap (λ (specs : List AppSpec). length specs) (same_apps old.desk desk same)))
            (subst (λ (t : Took). IsFew old.noted t (length old.desk.apps)) (sym (same_took_by old.desk desk same)) is.few);
        few_claims = subst (λ (n : ℕ). HasFewClaims old.claimed (took_by desk.handles) n) (sym (ap (λ (specs : List AppSpec). length specs) (same_apps old.desk desk same)))
            (subst (λ (t : Took). HasFewClaims old.claimed t (length old.desk.apps)) (sym (same_took_by old.desk desk same)) is.few_claims);
        apps = subst (λ (specs : List AppSpec). length specs ≤ 16) (sym (same_apps old.desk desk same)) is.apps;
        desk = later_both old.first_desk old.desk desk is.desk (same_later old.desk desk same);
        running = running;
        runs = λ run gives. subst (λ (es : List Event). HoldsIn (TellTaken told) (TellBytes told) (old.greeted ≡ true) run (map told links.links) seated.listeners es core (desk_told old.first_desk) (desk_told desk)) (sym events)
            (holds_later desk folder (record { links = map told links.links; listeners = seated.listeners; side = side core (desk_told desk) (Some journal.events) folder_now }) stays refl same run gives);
        shown = λ run gives. shows (is.shown run (gives_before run old.first_core old.desk desk same gives));
      }
