-- A daemon is later by each part of a round, and by rounds in a row.
use Rattle.std.proofs.Common.{◌⊎◌, ◌≡◌, ◌≢◌, ℕ, ◌+◌, ◌<◌, ◌≤◌, inl, inr, Bool, true, cond, List, [], ◌∷◌, ◌++◌, Some, append-nil, append_assoc, length, map, count_by, refl, sym, ap, subst, ◌∙◌, arith}
use Rattle.std.specs.List.{AllByRecursion}
use Rattle.std.proofs.lemmas.Bool.{cases_lt}
use Rattle.std.proofs.lemmas.List.{length-append, length-map}
use Rattle.std.proofs.lemmas.List.Sums.{sum_by-append, sum_by-cons}
use Rattle.dl_bytes.specs.Limits.{open_client_limit}
use Rattle.dl_bytes.specs.declared.conf.AppSpec.{AppSpec}
use Rattle.dl_bytes.specs.declared.item.Item.{Item}
use Rattle.dl_outside.proofs.Staying.{stays_both, stays_same}
use Rattle.dl_events.specs.Journal.{Journaled}
use Rattle.dl_events.specs.declared.event.Event.{Event}
use Rattle.dl_events.specs.declared.event.Event.TheVariants as event
use Rattle.dl_outside.specs.Links.{Links}
use Rattle.dl_outside.specs.Outside.{Stays}
use Rattle.dl_outside.specs.Told.{FolderTold, LinkTold, NetTold}
use Rattle.dl_ring.specs.declared.item.RingItem.{RingItem}
use Rattle.dl_ring.specs.Items.{calls_in}
use Rattle.dl_ring.proofs.Items.{calls_in-append}
use Rattle.dl_cells.specs.Views.{bit}
use Rattle.dl_desk.specs.Lists.{At}
use Rattle.dl_desk.specs.State.{DeskState}
use Rattle.dl_account.specs.Known.{taken_of}
use Rattle.dl_core.specs.Admission.{GivesFrame, GivesFrames}
use Rattle.dl_hub.specs.State.{Client, HasPlace, is_open}
use Rattle.dl_core.specs.Follows.{HoldsTrace, Run}
use Rattle.dl_core.specs.State.{Core}
use Rattle.dl_core.specs.Later.{IsFolderLater}
use Rattle.dl_core.proofs.LaterFolders.{folder_both, folder_none}
use Rattle.dl_core.proofs.LeftFiles.{leaves_alone, leaves_both}
use Rattle.dl_admission.specs.Kept.{end_of}
use Rattle.dl_rounds.specs.Arrivals.{Arrives, ConnectsAs}
use Rattle.dl_rounds.specs.declared.accepting.Arrival.{Arrival}
use Rattle.dl_rounds.specs.declared.accepting.Arrival.TheVariants as arrival
use Rattle.dl_rounds.specs.ListenerPool.{Seated}
use Rattle.dl_rounds.specs.Visits.{HearsAll, Pumped}
use Rattle.dl_rounds.specs.Clients.{Clients, VisitsAll}
use Rattle.dl_rounds.specs.Passing.{AreLater, IsOfClients}
use Rattle.dl_taking.specs.Drained.{IsOfDrain}
use Rattle.dl_taking.specs.declared.taking.Got.{Got}
use Rattle.dl_turns.specs.State.{side}
use Rattle.dl_turns.proofs.LaterStages.{WhatLinksTake}
use Rattle.dl_loop.specs.Daemon.{IsDaemon}
use Rattle.dl_loop.specs.Holds.{Gives}
use Rattle.dl_loop.specs.Later.{GoesRound, IsLaterBy, IsNetLater, IsOfRound}
use Rattle.dl_model.specs.Journal.{is_connect}
use Rattle.dl_loop.specs.RoundSteps.{AcceptsIfMay}
use Rattle.dl_loop.specs.Scene.{Scene, scene}
use Rattle.dl_loop.specs.Limits.{claim_limit}
use Rattle.dl_loop.specs.State.{DaemonState, SameDesk, clients_of, desk_told}
use Rattle.dl_loop.specs.Steps.{Hears, Pumps}
use Rattle.dl_loop.specs.Takes.{TakesLossesIfMay, TakesSomeOf}
use Rattle.dl_loop.proofs.FolderEvents.{folder_kept, keeps_still, leaves_kept}
use Rattle.dl_loop.proofs.FolderSides.{FolderGoesOn, heard_on, pumped_on, same_more}
use Rattle.dl_loop.proofs.DeskRest.{later_both, later_none, same_later, same_taken}
use Rattle.dl_loop.proofs.LaterDaemons.{gives_before}
use Rattle.dl_loop.proofs.TakenDaemons.{Took, gives_took, taken_events, taken_later, gives_before as gives_first}
use Rattle.dl_loop.proofs.TakenEvents.{drain_asks}
use Rattle.dl_loop.proofs.TakenSteps.{losses_took, some_took}
use Rattle.dl_lemmas.proofs.Bools.{at_most_one}
use Rattle.dl_lemmas.proofs.Lists.{all_first as front}

-- ---- the net

pub net_none : {L : Type 0} (net : NetTold L) → IsNetLater net net
net_none net = record { listens = stays_same net.listens_on; launched = stays_same net.launched; faults = omega arith }

net_both : {L : Type 0} (a b c : NetTold L) → IsNetLater a b → IsNetLater b c → IsNetLater a c
net_both a b c one two = record {
  listens = stays_both a.listens_on b.listens_on c.listens_on one.listens two.listens;
  launched = stays_both a.launched b.launched c.launched one.launched two.launched;
  faults = omega (arith, one.faults, two.faults);
}

-- ---- later, and later again

both_of_round : (first second : List Event) → AllByRecursion IsOfRound first → AllByRecursion IsOfRound second → AllByRecursion IsOfRound (first ++ second)
both_of_round [] second one two = two
both_of_round (e ∷ first) second one two = (one.0, both_of_round first second one.1 two)

module _ {L : Type 0} where
  -- a run that gives what was taken later gives what was taken before
  gives_back : (more : List Event) (old new : Scene L) (run : Run) → IsLaterBy more old new → Gives run new.daemon.first_core new.daemon.desk.apps new.daemon.desk.handles
      → Gives run old.daemon.first_core old.daemon.desk.apps old.daemon.desk.handles
  gives_back more old new run later gives = subst (λ (first : Core). Gives run first old.daemon.desk.apps old.daemon.desk.handles) later.first_core (record {
    begins = gives.begins;
    frames = λ app. front (λ (item : Item). GivesFrame item run) (calls_in (taken_of old.daemon.desk.handles app)) (calls_in (later.taken app).0)
        (subst (λ (items : List Item). GivesFrames items run) (ap (λ (xs : List RingItem). calls_in xs) (later.taken app).1 ∙ calls_in-append (taken_of old.daemon.desk.handles app) (later.taken app).0) (gives.frames app));
    apids = subst (λ (apps : List AppSpec). (app : ℕ) → At apps app (λ spec. run.apid app ≡ spec.apid)) later.desk.apps gives.apids;
  })

  pub later_by_none : (s : Scene L) → IsLaterBy [] s s
  later_by_none s = record {
    events = sym (append-nil s.daemon.journal.events);
    calls = refl;
    first_core = refl;
    first_desk = refl;
    desk = later_none s.daemon.desk;
    owners = refl;
    taken = λ app. ([], sym (append-nil (taken_of s.daemon.desk.handles app)));
    connects = omega arith;
    holds = λ run gives holds. holds;
    leaves = leaves_alone s.daemon.core s.daemon.core s.folder refl;
    folder = λ run gives. folder_none run.setting s.daemon.journal.events (end_of s.daemon.core.trace) s.folder;
  }

  pub later_by_both : (first second : List Event) (a b c : Scene L) → IsLaterBy first a b → IsLaterBy second b c → IsLaterBy (first ++ second) a c
  later_by_both first second a b c one two = record {
    events = two.events ∙ ap (λ (es : List Event). es ++ second) one.events ∙ append_assoc a.daemon.journal.events first second;
    calls = two.calls ∙ one.calls;
    first_core = two.first_core ∙ one.first_core;
    first_desk = two.first_desk ∙ one.first_desk;
    desk = later_both a.daemon.desk b.daemon.desk c.daemon.desk one.desk two.desk;
    owners = two.owners ∙ one.owners;
    taken = λ app. (
      (one.taken app).0 ++ (two.taken app).0,
      (two.taken app).1 ∙ ap (λ (items : List RingItem). items ++ (two.taken app).0) (one.taken app).1 ∙ append_assoc (taken_of a.daemon.desk.handles app) (one.taken app).0 (two.taken app).0,
    );
    connects = omega (arith, one.connects, two.connects, sum_by-append (λ (e : Event). cond (is_connect e) 1 0) first second);
    holds = λ run gives holds. two.holds run gives (one.holds run (gives_back second b c run two gives) holds);
    leaves = leaves_both a.daemon.core b.daemon.core c.daemon.core a.folder b.folder c.folder one.leaves two.leaves;
    folder = λ run gives.
        folder_both run.setting a.daemon.journal.events first second (end_of a.daemon.core.trace) (end_of b.daemon.core.trace) (end_of c.daemon.core.trace) a.folder b.folder c.folder
        (one.folder run (gives_back second b c run two gives))
        (subst (λ (es : List Event). IsFolderLater run.setting es second (end_of b.daemon.core.trace) (end_of c.daemon.core.trace) b.folder c.folder) one.events (two.folder run gives));
  }

  -- no round goes nowhere, and rounds go on
  pub goes_none : (net : NetTold L) (s : Scene L) → GoesRound net net s s
  goes_none net s = record { more = []; later = later_by_none s; of_round = tt; greeted = refl; net_later = net_none net; dropped = inl refl }

  pub goes_both : (net net_between net_now : NetTold L) (a b c : Scene L) → GoesRound net net_between a b → GoesRound net_between net_now b c → GoesRound net net_now a c
  goes_both net net_between net_now a b c one two = record {
    more = one.more ++ two.more;
    later = later_by_both one.more two.more a b c one.later two.later;
    of_round = both_of_round one.more two.more one.of_round two.of_round;
    greeted = two.greeted ∙ one.greeted;
    net_later = net_both net net_between net_now one.net_later two.net_later;
    dropped = elim two.dropped [
      | inl same ↦ elim one.dropped [
        | inl before ↦ inl (same ∙ before)
        | inr many ↦ inr (omega (arith, many, two.later.connects))
      ]
      | inr many ↦ inr many
    ];
  }

-- ---- events

pub record AreOfRound (more : List Event) : Type 0 where
  pub kinds : AllByRecursion IsOfRound more
  pub none_come : count_by is_connect more ≡ 0

clients_of_round : (more : List Event) → AllByRecursion IsOfClients more → AreOfRound more
clients_of_round [] are = record { kinds = tt; none_come = refl }
clients_of_round (event.Request client frame answer ∷ more) are = let rest = clients_of_round more are.1 in record { kinds = (tt, rest.kinds); none_come = rest.none_come }
clients_of_round (event.Level slot level ∷ more) are = let rest = clients_of_round more are.1 in record { kinds = (tt, rest.kinds); none_come = rest.none_come }
clients_of_round (event.Close client cause ∷ more) are = let rest = clients_of_round more are.1 in record { kinds = (tt, rest.kinds); none_come = rest.none_come }
clients_of_round (event.Log app writer call moment ∷ more) are = absurd are.0
clients_of_round (event.Claim claim moment ∷ more) are = absurd are.0
clients_of_round (event.Lost app count moment ∷ more) are = absurd are.0
clients_of_round (event.User channel msg moment ∷ more) are = absurd are.0
clients_of_round (event.Connect client ∷ more) are = absurd are.0

drain_of_round : (more : List Event) → AllByRecursion IsOfDrain more → AreOfRound more
drain_of_round [] are = record { kinds = tt; none_come = refl }
drain_of_round (event.Log app writer call moment ∷ more) are = let rest = drain_of_round more are.1 in record { kinds = (tt, rest.kinds); none_come = rest.none_come }
drain_of_round (event.Lost app count moment ∷ more) are = let rest = drain_of_round more are.1 in record { kinds = (tt, rest.kinds); none_come = rest.none_come }
drain_of_round (event.Close client cause ∷ more) are = let rest = drain_of_round more are.1 in record { kinds = (tt, rest.kinds); none_come = rest.none_come }
drain_of_round (event.Claim claim moment ∷ more) are = let rest = drain_of_round more are.1 in record { kinds = (tt, rest.kinds); none_come = rest.none_come }
drain_of_round (event.Level slot level ∷ more) are = let rest = drain_of_round more are.1 in record { kinds = (tt, rest.kinds); none_come = rest.none_come }
drain_of_round (event.User channel msg moment ∷ more) are = absurd are.0
drain_of_round (event.Connect client ∷ more) are = absurd are.0
drain_of_round (event.Request client frame answer ∷ more) are = absurd are.0

-- no more are open than came
pub open_few : (clients : List Client) → count_by is_open clients ≤ length clients
open_few [] = omega arith
open_few (c ∷ clients) = omega (arith, sum_by-cons (λ (x : Client). cond (is_open x) 1 0) c clients, at_most_one (is_open c), open_few clients)

-- ---- a round over clients

module _ {L : Type 0} (told : L → LinkTold) (net : NetTold L) (old : DaemonState L) (is : IsDaemon told old) where
  pub goes_later : (core : Core) (desk : DeskState) (journal : Journaled) (links : Links L) (seated : Seated) (folder folder_now : FolderTold)
      → AreLater (clients_of told old folder) (record { links = map told links.links; listeners = seated.listeners; side = side core (desk_told desk) (Some journal.events) folder_now })
      → FolderGoesOn (side old.core (desk_told old.desk) (Some old.journal.events) folder) (side core (desk_told desk) (Some journal.events) folder_now)
      → SameDesk old.desk desk → GoesRound net net (scene old folder) (scene (record old { core = core; desk = desk; journal = journal; links = links; seated = seated }) folder_now)
  goes_later core desk journal links seated folder folder_now later on same =
      let events : journal.events ≡ old.journal.events ++ later.more = cc later.events in
      let of_round = clients_of_round later.more later.of_clients in record {
        more = later.more;
        later = record {
          events = events;
          calls = refl;
          first_core = refl;
          first_desk = refl;
          desk = same_later old.desk desk same;
          owners = ap (λ (d : DeskState). d.owners) same;
          taken = λ app. ([], same_taken old.desk desk same app ∙ sym (append-nil (taken_of old.desk.handles app)));
          connects = omega (arith, length-map links.links told, length-map old.links.links told, later.many, of_round.none_come);
          holds = λ run gives holds.
              let held = is.runs run (gives_before run old.first_core old.desk desk same gives) in
              subst (λ (es : List Event). HoldsTrace run es core folder_now) (sym events) ((later.after run old.journal.events held.took held.after).1 holds);
          leaves = on.1.leaves;
          folder = λ run gives.
              let held = is.runs run (gives_before run old.first_core old.desk desk same gives) in
              subst (λ (es : List Event). IsFolderLater run.setting old.journal.events es (end_of old.core.trace) (end_of core.trace) folder folder_now)
              (same_more old.journal.events (Some journal.events) on.0 later.more on.1.events later.events) (on.1.later run old.journal.events held.took held.after);
        };
        of_round = of_round.kinds;
        greeted = refl;
        net_later = net_none net;
        dropped = inl refl;
      }

  pub goes_hears : ((moved : Bool) (old new : Clients) → HearsAll moved old new → AreLater old new) → (moved : Bool) (folder folder_now : FolderTold) (new : DaemonState L) → Hears told moved folder folder_now old new
      → GoesRound net net (scene old folder) (scene new folder_now)
  goes_hears events moved folder folder_now new hears = subst (λ (d : DaemonState L). GoesRound net net (scene old folder) (scene d folder_now)) (sym hears.rest)
      (goes_later new.core new.desk new.journal new.links new.seated folder folder_now (events moved _ _ hears.visits) (heard_on moved _ _ hears.visits) hears.desk)

  pub goes_pumps : WhatLinksTake → ((moved : Bool) (old new : Clients) → VisitsAll Pumped moved old new → AreLater old new) → (moved : Bool) (folder : FolderTold) (new : DaemonState L) → Pumps told moved old new
      → GoesRound net net (scene old folder) (scene new folder)
  goes_pumps takes events moved folder new pumps =
      let enough : length (map told old.links.links) ≤ length old.seated.listeners = omega (arith, length-map old.links.links told, is.linked.many, is.linked.few, is.heard.enough) in
      subst (λ (d : DaemonState L). GoesRound net net (scene old folder) (scene d folder)) (sym pumps.rest)
      (goes_later new.core old.desk new.journal new.links old.seated folder folder (events moved _ _ (pumps.visits (desk_told old.desk) folder old.seated.listeners enough))
      (pumped_on takes moved _ _ (pumps.visits (desk_told old.desk) folder old.seated.listeners enough)) refl)

  -- ---- what is taken

  goes_took : (logs claims frames : ℕ) (folder folder_now : FolderTold) (new : DaemonState L) → Took logs claims frames (scene old folder) (scene new folder_now)
      → GoesRound net net (scene old folder) (scene new folder_now)
  goes_took logs claims frames folder folder_now new took =
      let before = scene old folder in
      let after = scene new folder_now in
      let drain = took.take.drain in
      let events = taken_events told logs claims frames before after is took in
      let of_round = drain_of_round drain.more drain.kinds in
      record {
        more = drain.more;
        later = record {
          events = events;
          calls = ap (λ (d : DaemonState L). d.calls) took.rest;
          first_core = ap (λ (d : DaemonState L). d.first_core) took.rest;
          first_desk = ap (λ (d : DaemonState L). d.first_desk) took.rest;
          desk = taken_later old.desk new.desk took.desk;
          owners = ap (λ (d : DeskState). d.owners) took.desk;
          taken = drain.taken_more;
          connects = omega (arith, ap (λ (d : DaemonState L). length d.links.links) took.rest, of_round.none_come);
          holds = λ run gives holds.
              let so = subst (λ (first : Core). Gives run first new.desk.apps new.desk.handles) (ap (λ (d : DaemonState L). d.first_core) took.rest) gives in
              let held = is.runs run (gives_first told logs claims frames before after is took run so) in
              subst (λ (es : List Event). HoldsTrace run es new.core folder_now) (sym events)
              ((drain.after run old.journal.events held.took (gives_took told logs claims frames before after is took run so) held.after).1 holds);
          leaves = leaves_kept old.core new.core folder folder_now drain.trace;
          folder = λ run gives. folder_kept old.core.trace new.core.trace folder folder_now drain.trace run.setting old.journal.events drain.more (drain_asks drain.more drain.kinds);
        };
        of_round = of_round.kinds;
        greeted = ap (λ (d : DaemonState L). d.greeted) took.rest;
        net_later = net_none net;
        dropped = inl (ap (λ (d : DaemonState L). d.dropped) took.rest);
      }

  pub goes_some : (app most : ℕ) (got : Got) (folder folder_now : FolderTold) (new : DaemonState L) → old.greeted ≡ true → app < length old.desk.apps → old.noted + most ≤ old.calls → old.claimed < claim_limit
      → TakesSomeOf app most got (scene old folder) (scene new folder_now) → GoesRound net net (scene old folder) (scene new folder_now)
  goes_some app most got folder folder_now new greeted within calls claims takes =
      goes_took got.calls (bit got.claimed) got.calls folder folder_now new (some_took told app (scene old folder) (scene new folder_now) is greeted within most got calls claims takes)

  pub goes_losses : (app : ℕ) (folder folder_now : FolderTold) (new : DaemonState L) → old.greeted ≡ true → app < length old.desk.apps → TakesLossesIfMay app (scene old folder) (scene new folder_now)
      → GoesRound net net (scene old folder) (scene new folder_now)
  goes_losses app folder folder_now new greeted within (inl some) =
      goes_took _ _ _ folder folder_now new (losses_took told app (scene old folder) (scene new folder_now) is greeted within some.1 some.0 some.2)
  goes_losses app folder folder_now new greeted within (inr none) = subst (λ (s : Scene L). GoesRound net net (scene old folder) s) (sym none.1) (goes_none net (scene old folder))

  -- ---- the accept

  came_none : (net_now : NetTold L) (core : Core) (journal : Journaled) (links : Links L) (dropped : ℕ) (failed wanted : Bool) (folder : FolderTold) → core ≡ old.core → journal ≡ old.journal → links ≡ old.links
      → IsNetLater net net_now → (dropped ≡ old.dropped) ⊎ (open_client_limit ≤ length old.links.links)
      → GoesRound net net_now (scene old folder) (scene (record old { core = core; journal = journal; links = links; dropped = dropped; failed = failed; wanted = wanted }) folder)
  came_none net_now core journal links dropped failed wanted folder same_core same_journal same_links later only =
      subst (λ (c : Core). GoesRound net net_now (scene old folder) (scene (record old { core = c; journal = journal; links = links; dropped = dropped; failed = failed; wanted = wanted }) folder)) (sym same_core)
      (subst (λ (j : Journaled). GoesRound net net_now (scene old folder) (scene (record old { journal = j; links = links; dropped = dropped; failed = failed; wanted = wanted }) folder)) (sym same_journal)
      (subst (λ (ls : Links L). GoesRound net net_now (scene old folder) (scene (record old { links = ls; dropped = dropped; failed = failed; wanted = wanted }) folder)) (sym same_links) (record {
        more = [];
        later = record {
          events = sym (append-nil old.journal.events);
          calls = refl;
          first_core = refl;
          first_desk = refl;
          desk = later_none old.desk;
          owners = refl;
          taken = λ app. ([], sym (append-nil (taken_of old.desk.handles app)));
          connects = omega arith;
          holds = λ run gives holds. holds;
          leaves = leaves_alone old.core old.core folder refl;
          folder = λ run gives. folder_none run.setting old.journal.events (end_of old.core.trace) folder;
        };
        of_round = tt;
        greeted = refl;
        net_later = later;
        dropped = only;
      })))

  -- the hub has no place only where as many came as may be open
  no_place : (HasPlace old.core.hub → ⊥) → open_client_limit ≤ length old.links.links
  no_place none = elim (cases_lt (length old.core.hub.clients) old.core.hub.limit) [
    | inl less ↦ elim (cases_lt (count_by is_open old.core.hub.clients) open_client_limit) [
      | inl few ↦ absurd (none (less, few))
      | inr many ↦ omega (arith, many, open_few old.core.hub.clients, is.linked.many)
    ]
    | inr spent ↦ omega (arith, spent, is.linked.many, is.room.limit)
  ]

  came_goes : (came : Arrival) (net_now : NetTold L) (core : Core) (journal : Journaled) (links : Links L) (dropped : ℕ) (failed wanted : Bool) (folder : FolderTold)
      → Arrives told came net net_now old.links links old.dropped dropped → ConnectsAs came old.core core (Some old.journal.events) (Some journal.events)
      → (((number : ℕ) → came ≢ arrival.Client number) → journal ≡ old.journal) → Stays net.listens_on net_now.listens_on → Stays net.launched net_now.launched
      → GoesRound net net_now (scene old folder) (scene (record old { core = core; journal = journal; links = links; dropped = dropped; failed = failed; wanted = wanted }) folder)
  came_goes (arrival.Client number) net_now core journal links dropped failed wanted folder arrives connects unused listens launched =
      let events : journal.events ≡ old.journal.events ++ event.Connect number ∷ [] = cc connects.event in
      let one : ◌≡◌ {A = ℕ} (count_by is_connect (event.Connect number ∷ [])) 1 = refl in
      let longer : length links.links ≡ length old.links.links + 1 = ap (λ (ls : Links L). length ls.links) arrives.2 ∙ length-append old.links.links (arrives.0 ∷ []) in record {
        more = event.Connect number ∷ [];
        later = record {
          events = events;
          calls = refl;
          first_core = refl;
          first_desk = refl;
          desk = later_none old.desk;
          owners = refl;
          taken = λ app. ([], sym (append-nil (taken_of old.desk.handles app)));
          connects = omega (arith, longer, one);
          holds = λ run gives holds.
              let held = is.runs run gives in
              subst (λ (es : List Event). HoldsTrace run es core folder) (sym events) ((connects.after folder run old.journal.events held.took tt held.after).1 holds);
          leaves = leaves_kept old.core core folder folder (keeps_still old.core.trace core.trace folder folder (ap (λ (c : Core). c.trace) connects.rest) refl);
          folder = λ run gives.
              folder_kept old.core.trace core.trace folder folder (keeps_still old.core.trace core.trace folder folder (ap (λ (c : Core). c.trace) connects.rest) refl) run.setting old.journal.events
              (event.Connect number ∷ []) (tt, tt);
        };
        of_round = (tt, tt);
        greeted = refl;
        net_later = record { listens = listens; launched = launched; faults = omega (arith, arrives.1.2) };
        dropped = inl arrives.3;
      }
  came_goes arrival.Dropped net_now core journal links dropped failed wanted folder arrives connects unused listens launched =
      came_none net_now core journal links dropped failed wanted folder connects.1 (unused (λ number is. absurd cc)) arrives.2
      (record { listens = listens; launched = launched; faults = omega (arith, arrives.1.2) }) (inr (no_place connects.0))
  came_goes arrival.Nobody net_now core journal links dropped failed wanted folder arrives connects unused listens launched =
      came_none net_now core journal links dropped failed wanted folder connects.0 (unused (λ number is. absurd cc)) arrives.3
      (record { listens = listens; launched = launched; faults = omega (arith, arrives.2) }) (inl arrives.4)
  came_goes arrival.Failed net_now core journal links dropped failed wanted folder arrives connects unused listens launched =
      came_none net_now core journal links dropped failed wanted folder connects.0 (unused (λ number is. absurd cc)) arrives.2
      (record { listens = listens; launched = launched; faults = arrives.0.0 }) (inl arrives.3)
  came_goes arrival.OutOfMemory net_now core journal links dropped failed wanted folder arrives connects unused listens launched =
      came_none net_now core journal links dropped failed wanted folder connects.0 (unused (λ number is. absurd cc)) arrives.2
      (record { listens = listens; launched = launched; faults = omega (arith, arrives.0) }) (inl arrives.3)

  pub goes_accepts : (came : Arrival) (net_now : NetTold L) (folder : FolderTold) (new : DaemonState L) → AcceptsIfMay told came net net_now old new
      → GoesRound net net_now (scene old folder) (scene new folder)
  goes_accepts came net_now folder new (inl one) =
      let accepts = one.2 in
      subst (λ (d : DaemonState L). GoesRound net net_now (scene old folder) (scene d folder)) (sym accepts.rest)
      (came_goes came net_now new.core new.journal new.links new.dropped new.failed new.wanted folder accepts.arrives accepts.connects accepts.unused accepts.listens accepts.launched)
  goes_accepts came net_now folder new (inr none) =
      subst (λ (n : NetTold L). GoesRound net n (scene old folder) (scene new folder)) (sym none.1)
      (subst (λ (d : DaemonState L). GoesRound net net (scene old folder) (scene d folder)) (sym none.2) (goes_none net (scene old folder)))
