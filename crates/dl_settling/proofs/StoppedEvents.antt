-- A stop as its events.
use Rattle.std.proofs.Common.{◌≡◌, ℕ, ◌+◌, List, [], ◌∷◌, ◌++◌, length, map, append_assoc, append-nil, ◌-◌, ◌≤◌, slice_get, Option, Some, None, refl, sym, ap, ◌∙◌, subst, arith}
use Rattle.std.specs.List.{AllByRecursion, filter_map}
use Rattle.std.proofs.lemmas.List.{length-map}
use Rattle.std.proofs.lemmas.List.Elements.{filter_map-append}
use Rattle.std.proofs.lemmas.List.Sums.{sum_by-append}
use Rattle.dl_bytes.specs.declared.conf.AppSpec.{AppSpec}
use Rattle.dl_events.specs.declared.event.Event.{Event}
use Rattle.dl_events.specs.declared.event.Event.TheVariants as event
use Rattle.dl_cells.specs.declared.level_history.Change.{Change}
use Rattle.dl_cells.specs.Losses.{reported_of}
use Rattle.dl_model.specs.Accounts.{takes, took_of}
use Rattle.dl_model.specs.Accounts as model
use Rattle.dl_model.specs.Journal.{IsWellFormed}
use Rattle.dl_model.specs.Report.{lost_of, reported}
use Rattle.dl_outside.specs.Links.{Links}
use Rattle.dl_outside.specs.Outside.{Grows, Stays}
use Rattle.dl_hub.specs.State.{Hub, outbox_of}
use Rattle.dl_outside.specs.Told.{FolderTold, LinkTold}
use Rattle.dl_desk.specs.Told.{ControlTold}
use Rattle.dl_account.specs.Known.{taken_of}
use Rattle.dl_account.specs.Settled.{account_of}
use Rattle.dl_account.specs.State.{AccountState, ClosingState}
use Rattle.dl_account.proofs.Resting.{taken_rest}
use Rattle.dl_core.specs.Follows.{HoldsTrace, IsAfter, Run, source_of}
use Rattle.dl_core.proofs.Following.{stays_formed}
use Rattle.dl_taking.specs.Drained.{GivesTook, IsDrain, IsOfDrain}
use Rattle.dl_taking.specs.Draining.{closing_told, closing_took}
use Rattle.dl_taking.specs.Takes.{TellAllTaken}
use Rattle.dl_taking.specs.Took.{Took}
use Rattle.dl_taking.proofs.DrainedEvents.{all_drain}
use Rattle.dl_turns.specs.Gone.{TellTheEnd}
use Rattle.dl_turns.specs.Later.{level_in}
use Rattle.dl_turns.proofs.PostedSides.{posted_both}
use Rattle.dl_rounds.specs.Clients.{Clients}
use Rattle.dl_rounds.specs.Passing.{AreLater, IsOfClients, StayAsNoted, took_all}
use Rattle.dl_rounds.specs.Partings.{ShutsGone}
use Rattle.dl_rounds.specs.Visits.{ClosesAll, IsShut}
use Rattle.dl_settling.specs.Ends.{ends_of}
use Rattle.dl_settling.specs.Settling.{Closes, Drains, SameButSet, Settles}
use Rattle.dl_settling.specs.State.{Stopping, clients_of, taking_of}
use Rattle.dl_settling.specs.Stopped.{IsOfStop, IsStop, RunsOn}
use Rattle.dl_settling.proofs.NoRequests.{AsksNothing, posted_none}
use Rattle.dl_lemmas.proofs.Lists.{there_too, within_of, all_both}

-- ---- the kinds of events

-- events of taking ask nothing
pub record AreOfDrain (more : List Event) : Type 0 where
  pub of_stop : AllByRecursion IsOfStop more
  pub asks : AllByRecursion AsksNothing more

of_drain : (more : List Event) → AllByRecursion IsOfDrain more → AreOfDrain more
of_drain [] is = record { of_stop = tt; asks = tt }
of_drain (event.Log app writer call moment ∷ more) is = let rest = of_drain more is.1 in record { of_stop = (tt, rest.of_stop); asks = (tt, rest.asks) }
of_drain (event.Lost app count moment ∷ more) is = let rest = of_drain more is.1 in record { of_stop = (tt, rest.of_stop); asks = (tt, rest.asks) }
of_drain (event.Claim claim moment ∷ more) is = let rest = of_drain more is.1 in record { of_stop = (tt, rest.of_stop); asks = (tt, rest.asks) }
of_drain (event.Level slot level ∷ more) is = let rest = of_drain more is.1 in record { of_stop = (tt, rest.of_stop); asks = (tt, rest.asks) }
of_drain (event.Close client cause ∷ more) is = let rest = of_drain more is.1 in record { of_stop = (tt, rest.of_stop); asks = (tt, rest.asks) }
of_drain (event.User channel msg moment ∷ more) is = absurd is.0
of_drain (event.Connect client ∷ more) is = absurd is.0
of_drain (event.Request client frame answer ∷ more) is = absurd is.0

-- events of clients take nothing
pub record AreOfClients (more : List Event) : Type 0 where
  pub of_stop : AllByRecursion IsOfStop more
  pub takes_none : (app : ℕ) → takes app more ≡ []
  pub losses : (app : ℕ) → reported app more ≡ 0

of_clients : (more : List Event) → AllByRecursion IsOfClients more → AreOfClients more
of_clients [] is = record { of_stop = tt; takes_none = λ app. refl; losses = λ app. refl }
of_clients (event.Request other frame answer ∷ more) is = let rest = of_clients more is.1 in record { of_stop = (tt, rest.of_stop); takes_none = rest.takes_none; losses = rest.losses }
of_clients (event.Level slot level ∷ more) is = let rest = of_clients more is.1 in record { of_stop = (tt, rest.of_stop); takes_none = rest.takes_none; losses = rest.losses }
of_clients (event.Close client cause ∷ more) is = let rest = of_clients more is.1 in record { of_stop = (tt, rest.of_stop); takes_none = rest.takes_none; losses = rest.losses }
of_clients (event.Log app writer call moment ∷ more) is = absurd is.0
of_clients (event.Claim claim moment ∷ more) is = absurd is.0
of_clients (event.Lost app count moment ∷ more) is = absurd is.0
of_clients (event.User channel msg moment ∷ more) is = absurd is.0
of_clients (event.Connect client ∷ more) is = absurd is.0

add_none : (n : ℕ) → n + 0 ≡ n
add_none n = omega arith

-- a journal goes on telling what was taken
tells_on : (past more : List Event) (took : Took) → AreOfClients more → TellAllTaken past took → TellAllTaken (past ++ more) took
tells_on past more took none told = record {
  admitted = λ app. filter_map-append (took_of app) past more ∙ ap (λ (ts : List model.Took). takes app past ++ ts) (none.takes_none app) ∙ append-nil (takes app past) ∙ told.admitted app;
  losses = λ app. sum_by-append (lost_of app) past more ∙ ap (λ (n : ℕ). reported app past + n) (none.losses app) ∙ add_none (reported app past) ∙ told.losses app;
}

-- ---- what was taken, while clients are closed

pub same_took : (old new : ClosingState) → SameButSet old new → closing_took new ≡ closing_took old
same_took old new same = λ i. record {
  taken = λ app. (sym (taken_rest new.handles app) ∙ ap (λ (c : ClosingState). taken_of c.handles app) same ∙ taken_rest old.handles app) i;
  reported = ap (λ (c : ClosingState). c.handles.losses.reported) same i;
}

-- ---- links that are shut

pub shut_at : (hub : Hub) (old new : List LinkTold) → ShutsGone hub old new → ((number : ℕ) → outbox_of hub number ≡ None) → (place : ℕ) (link link_now : LinkTold)
    → slice_get old place ≡ Some link → slice_get new place ≡ Some link_now → IsShut link link_now
shut_at hub old new shuts none place link link_now is is_now =
    let back : place ≡ place + 1 - 1 = omega arith in
    let within = within_of old place link is in
    shuts.gone (place + 1) link link_now (omega arith) (omega (arith, within)) (none (place + 1))
    (subst (λ (n : ℕ). slice_get old n ≡ Some link) back is) (subst (λ (n : ℕ). slice_get new n ≡ Some link_now) back is_now)

grown_still : (a b c : Option (List ℕ)) (more : List ℕ) → Grows a b more → Stays b c → Grows a c more
grown_still None b c more grows stays = tt
grown_still (Some x) b c more grows stays = subst (λ (o : Option (List ℕ)). Stays o c) grows stays

-- ---- all of it

module _ {L : Type 0} (told : L → LinkTold) (old drained closed : Stopping L) (folder between folder_now : FolderTold)
    (drain : Drains old drained folder between) (closes : Closes told drained closed between folder_now)
    (later : AreLater (clients_of told drained between) (clients_of told closed folder_now)) where
  first : IsDrain old.closing.apps (taking_of old folder) (taking_of drained between)
  first = all_drain old.closing.apps (taking_of old folder) (taking_of drained between) drain.drains

  abbrev events_more : List Event
  events_more = first.more ++ later.more

  drained_events : drained.journal.events ≡ old.journal.events ++ first.more
  drained_events = cc first.events

  closed_events : closed.journal.events ≡ drained.journal.events ++ later.more
  closed_events = cc later.events

  took_so : closing_took closed.closing ≡ closing_took drained.closing
  took_so = same_took drained.closing closed.closing closes.same

  apps_so : closed.closing.apps ≡ old.closing.apps
  apps_so = ap (λ (c : ClosingState). c.apps) closes.same ∙ ap (λ (c : ClosingState). c.apps) drain.same

  gives_so : (run : Run) → GivesTook closed.closing.apps (closing_took closed.closing) run → GivesTook old.closing.apps (closing_took drained.closing) run
  gives_so run gives = record {
    frames = (subst (λ (t : Took). GivesTook closed.closing.apps t run) took_so gives).frames;
    apids = (subst (λ (specs : List AppSpec). GivesTook specs (closing_took closed.closing) run) apps_so gives).apids;
  }

  runs_so : (run : Run) (past : List Event) (taken : ℕ → List ℕ) → GivesTook closed.closing.apps (closing_took closed.closing) run → IsAfter run past taken old.core
      → RunsOn run past events_more taken later.sent old.core closed.core folder folder_now (closing_told old.closing) (closing_told closed.closing)
  runs_so run past taken gives is =
      let one = first.after run past taken (gives_so run gives) is in
      let other = later.after run (past ++ first.more) taken one.0 in
      let joined = append_assoc past first.more later.more in record {
        after = subst (λ (es : List Event). IsAfter run es (took_all taken later.sent) closed.core) joined other.0;
        holds = λ holds. subst (λ (es : List Event). HoldsTrace run es closed.core folder_now) joined (other.1 (one.1 holds));
        formed = λ there running well. subst (IsWellFormed run.setting (source_of run)) joined
            (stays_formed drained.core later.more later.formed run (past ++ first.more) taken one.0 (first.formed run past taken (gives_so run gives) is there running well));
        posted = λ app. posted_both run.setting past first.more later.more app (closing_told old.closing) (closing_told drained.closing) (closing_told closed.closing)
            (posted_none run.setting past first.more app (closing_told old.closing) (closing_told drained.closing) (of_drain first.more first.kinds).asks
            (ap (λ (t : ControlTold). t.pushed app) first.desk) (ap (λ (t : ControlTold). t.refusals app) first.desk))
            (later.posts run (past ++ first.more) taken one.0 app);
      }

  stop_so : (dropped : ℕ) (links : Links L) → ShutsGone closed.core.hub (map told closed.links.links) (map told links.links)
      → IsStop told dropped closed.core old (account_of closed.closing closed.journal.events (ends_of closed.core dropped)) links folder folder_now
  stop_so dropped links shuts = record {
    more = events_more;
    events = closed_events ∙ ap (λ (es : List Event). es ++ later.more) drained_events ∙ append_assoc old.journal.events first.more later.more;
    of_stop = all_both IsOfStop first.more later.more (of_drain first.more first.kinds).of_stop (of_clients later.more later.of_clients).of_stop;
    sent = later.sent;
    links_took = λ place link link_now is is_now.
        let between = there_too (map told closed.links.links) (map told links.links) place link_now shuts.many is_now in
        grown_still link.taken between.0.taken link_now.taken (later.sent (place + 1))
        (later.links_took place link between.0 (ap (λ (ls : Links L). slice_get (map told ls.links) place) drain.links ∙ is) between.1)
        (shut_at closed.core.hub (map told closed.links.links) (map told links.links) shuts closes.none_open place between.0 link_now between.1 is_now).taken;
    shut = λ place link_now is_now.
        let between = there_too (map told closed.links.links) (map told links.links) place link_now shuts.many is_now in
        (shut_at closed.core.hub (map told closed.links.links) (map told links.links) shuts closes.none_open place between.0 link_now between.1 is_now).shut;
    many = sym (length-map links.links told) ∙ shuts.many ∙ later.many ∙ length-map drained.links.links told ∙ ap (λ (ls : Links L). length ls.links) drain.links;
    clients = closes.linked.many ∙ sym (length-map closed.links.links told) ∙ sym shuts.many ∙ length-map links.links told;
    runs = runs_so;
    tells = λ past tells.
        subst (λ (t : Took). TellAllTaken (past ++ events_more) t) (sym took_so)
        (subst (λ (es : List Event). TellAllTaken es (closing_took drained.closing)) (append_assoc past first.more later.more)
        (tells_on (past ++ first.more) later.more (closing_took drained.closing) (of_clients later.more later.of_clients) (first.told past tells)));
    sets = later.desk.sets ∙ ap (λ (t : ControlTold). t.sets ++ filter_map level_in later.more) first.desk
        ∙ append_assoc old.closing.handles.levels.sets (filter_map level_in first.more) (filter_map level_in later.more)
        ∙ ap (λ (cs : List Change). old.closing.handles.levels.sets ++ cs) (sym (filter_map-append level_in first.more later.more));
    first = later.desk.first ∙ ap (λ (t : ControlTold). t.first) first.desk;
    others = λ app beyond.
        let so = first.others app (subst (λ (specs : List AppSpec). length specs ≤ app) apps_so beyond) in (
          ap (λ (t : Took). t.taken app) took_so ∙ so.0,
          ap (λ (t : Took). reported_of app t.reported) took_so ∙ so.1,
        );
    taken_more = λ app. ((first.taken_more app).0, ap (λ (t : Took). t.taken app) took_so ∙ (first.taken_more app).1);
    apps = apps_so;
    books = ap (λ (c : ClosingState). c.books) closes.same ∙ ap (λ (c : ClosingState). c.books) drain.same;
    none_open = closes.none_open;
    outcome = refl;
  }

pub is_stop : {L : Type 0} (told : L → LinkTold) (dropped : ℕ) (old : Stopping L) (account : AccountState) (links : Links L) (folder folder_now : FolderTold)
    → ((was now : Clients) → ClosesAll (TellTheEnd told) was now → StayAsNoted was now) → (settles : Settles told dropped old account links folder folder_now) → IsStop told dropped settles.closed.core old account links folder folder_now
is_stop {L} told dropped old account links folder folder_now stay settles =
    subst (λ (a : AccountState). IsStop told dropped settles.closed.core old a links folder folder_now) (sym settles.account_is)
    (stop_so told old settles.drained settles.closed folder settles.between folder_now settles.drains settles.closes
    (stay (clients_of told settles.drained settles.between) (clients_of told settles.closed folder_now) settles.closes.closes).later dropped links settles.shuts)
