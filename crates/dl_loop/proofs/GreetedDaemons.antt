-- What is true of a daemon goes on with what its own applications tell.
use Rattle.std.proofs.Common.{◌≡◌, ℕ, ◌+◌, ◌-◌, ◌≤◌, Bool, true, false, List, [], ◌∷◌, ◌++◌, Option, None, append-nil, append_assoc, length, map, count_by, slice_get, eqb, refl, sym, ap, subst, ◌∙◌, arith}
use Rattle.std.specs.Prelude.{OnErr, OnOk, Result, Ok, Err, cond}
use Rattle.std.specs.Option.{option_and_then}
use Rattle.std.specs.List.{AllByRecursion, filter_map, list_any}
use Rattle.std.specs.Result.{is_ok}
use Rattle.std.proofs.lemmas.List.{length-append, length-map}
use Rattle.std.proofs.lemmas.List.Elements.{filter_map-append}
use Rattle.std.proofs.lemmas.List.Sums.{sum_by-append}
use Rattle.dl_bytes.specs.declared.conf.AppSpec.{AppSpec}
use Rattle.dl_bytes.specs.declared.moment.Moment.{Moment}
use Rattle.dl_bytes.specs.declared.user.UserMsg.{UserMsg}
use Rattle.dl_bytes.specs.declared.user.UserMsg.TheVariants as user
use Rattle.dl_events.specs.declared.event.Event.{Event}
use Rattle.dl_events.specs.declared.event.Event.TheVariants as event
use Rattle.dl_cells.specs.Losses.{reported_of}
use Rattle.dl_cells.specs.declared.loss_keeper.Report.{Report}
use Rattle.dl_model.specs.Accounts.{takes}
use Rattle.dl_model.specs.Frames.{stored, user_frames}
use Rattle.dl_model.specs.Journal.{IsRunning, IsWellFormed, is_stop, is_connect}
use Rattle.dl_model.specs.Report.{reported}
use Rattle.dl_model.specs.declared.registry.LevelChange.{LevelChange}
use Rattle.dl_outside.specs.Told.{FolderTold, LinkTold}
use Rattle.dl_model.proofs.LongerJournals.{goes_on}
use Rattle.dl_desk.specs.Apps.{AppState}
use Rattle.dl_desk.specs.State.{DeskState}
use Rattle.dl_desk.specs.Told.{ControlTold}
use Rattle.dl_registry.specs.Kept.{owed_change}
use Rattle.dl_hub.specs.State.{Client, Hub, is_open, outbox_of}
use Rattle.dl_core.specs.Admission.{AddsEach}
use Rattle.dl_core.specs.Follows.{Adds, HoldsTrace, IsAfter, Run, source_of}
use Rattle.dl_core.specs.State.{Core}
use Rattle.dl_account.specs.Known.{taken_of, told_as}
use Rattle.dl_core.proofs.Following.{running_on}
use Rattle.dl_admission.specs.Kept.{KeepsTrace}
use Rattle.dl_admission.proofs.KeptTraces.{trace_both, trace_each, trace_none}
use Rattle.dl_core.proofs.InTurn.{level_in_turn, user_in_turn}
use Rattle.dl_turns.specs.Events.{SetsLevel, SetsLevels}
use Rattle.dl_turns.specs.Gone.{TellTheEnd}
use Rattle.dl_turns.specs.Later.{IsDeskLater}
use Rattle.dl_turns.specs.State.{Side}
use Rattle.dl_turns.proofs.AddedEvents.{each_both, each_none}
use Rattle.dl_turns.proofs.LaterSides.{desk_both}
use Rattle.dl_turns.proofs.PostedSides.{posted_both}
use Rattle.dl_rounds.specs.Greetings.{Greets as GreetsOne, GreetsEach, GreetsFirst, IsContext, IsIntroduced, IsOfGreeting, IsRegistration, MayGreet, hello_of, registered}
use Rattle.dl_rounds.specs.Shown.{AllShowWhy}
use Rattle.dl_loop.specs.Bounds.{HasBounds}
use Rattle.dl_loop.specs.Daemon.{IsDaemon, TellTaken}
use Rattle.dl_loop.specs.Greeting.{AreListed, Greets, id_in}
use Rattle.dl_loop.specs.Holds.{AreNoted, Gives, HoldsIn}
use Rattle.dl_loop.specs.Scene.{Scene, side_of, scene}
use Rattle.dl_loop.specs.Later.{IsLaterGreeted}
use Rattle.dl_loop.specs.State.{DaemonState, SameDesk, desk_told}
use Rattle.dl_loop.specs.Told.{IsToldBy}
use Rattle.dl_loop.proofs.DeskRest.{later_both, same_apps, same_later, same_reported, same_taken}
use Rattle.dl_taking.specs.Drained.{is_claim, is_noted}
use Rattle.dl_taking.specs.Takes.{AreThere}
use Rattle.dl_taking.specs.Took.{Took, took_by}
use Rattle.dl_settling.specs.Room.{HasFewClaims, IsFew}
use Rattle.dl_settling.specs.Went.{TellBytes}
use Rattle.dl_loop.proofs.FolderEvents.{folder_kept, keeps_still, leaves_kept}
use Rattle.dl_loop.proofs.LaterDaemons.{same_took_by, add_none, gives_before}
use Rattle.dl_settling.proofs.NoRequests.{AsksNothing, posted_none}
use Rattle.dl_loop.proofs.ListedApps.{listed_there}
use Rattle.dl_loop.proofs.ToldJournals.{told_more}
use Rattle.dl_loop.proofs.NotedDaemons.{noted_none}
use Rattle.dl_rounds.proofs.GreetedEvents.{both_of_greeting}

-- ---- one side and a later one

-- Events of a greeting lead from one side to another: a journal of a daemon that runs stays well-formed; no frame is admitted, and no injection
-- is taken or refused.
record Leads (more : List Event) (old new : Side) : Type 0 where
  events : AddsEach old.events new.events more
  kinds : AllByRecursion IsOfGreeting more
  after : Adds more (λ run. Unit {0}) old.core new.core old.folder new.folder
  formed : (run : Run) (past : List Event) (taken : ℕ → List ℕ) → IsAfter run past taken old.core → IsRunning past → IsWellFormed run.setting (source_of run) past
      → IsWellFormed run.setting (source_of run) (past ++ more)
  desk : IsDeskLater more old.desk new.desk
  pushed : (app : ℕ) → new.desk.pushed app ≡ old.desk.pushed app
  refusals : (app : ℕ) → new.desk.refusals app ≡ old.desk.refusals app
  admitted : new.core.hub.admitted ≡ old.core.hub.admitted
  limit : new.core.hub.limit ≡ old.core.hub.limit
  trace : KeepsTrace old.core.trace new.core.trace old.folder new.folder

none_stops : (more : List Event) → AllByRecursion IsOfGreeting more → list_any is_stop more ≡ false
none_stops [] are = refl
none_stops (event.User channel msg moment ∷ more) are = none_stops more are.1
none_stops (event.Level slot level ∷ more) are = none_stops more are.1
none_stops (event.Log app writer call moment ∷ more) are = absurd are.0
none_stops (event.Claim claim moment ∷ more) are = absurd are.0
none_stops (event.Lost app count moment ∷ more) are = absurd are.0
none_stops (event.Connect client ∷ more) are = absurd are.0
none_stops (event.Request client frame answer ∷ more) are = absurd are.0
none_stops (event.Close client cause ∷ more) are = absurd are.0

leads_none : (side : Side) → Leads [] side side
leads_none side = record {
  events = each_none side.events;
  kinds = tt;
  after = λ run events taken gives after.
      let same : events ≡ events ++ [] = sym (append-nil events) in
      (subst (λ (es : List Event). IsAfter run es taken side.core) same after, λ held. subst (λ (es : List Event). HoldsTrace run es side.core side.folder) same held);
  formed = λ run past taken after running formed. subst (λ (es : List Event). IsWellFormed run.setting (source_of run) es) (sym (append-nil past)) formed;
  desk = record { sets = sym (append-nil side.desk.sets); apps = refl; first = refl };
  pushed = λ app. refl;
  refusals = λ app. refl;
  admitted = refl;
  limit = refl;
  trace = trace_none side.core.trace side.folder;
}

leads_both : (first second : List Event) (a b c : Side) → Leads first a b → Leads second b c → Leads (first ++ second) a c
leads_both first second a b c one two = record {
  events = each_both a.events b.events c.events first second one.events two.events;
  kinds = both_of_greeting first second one.kinds two.kinds;
  after = λ run events taken gives after.
      let here = one.after run events taken tt after in
      let next = two.after run (events ++ first) taken tt here.0 in
      let same = append_assoc events first second in
      (subst (λ (es : List Event). IsAfter run es taken c.core) same next.0, λ held. subst (λ (es : List Event). HoldsTrace run es c.core c.folder) same (next.1 (here.1 held)));
  formed = λ run past taken after running formed.
      subst (λ (es : List Event). IsWellFormed run.setting (source_of run) es) (append_assoc past first second)
      (two.formed run (past ++ first) taken (one.after run past taken tt after).0 (running_on past first running (none_stops first one.kinds)) (one.formed run past taken after running formed));
  desk = desk_both first second a.desk b.desk c.desk one.desk two.desk;
  pushed = λ app. two.pushed app ∙ one.pushed app;
  refusals = λ app. two.refusals app ∙ one.refusals app;
  admitted = two.admitted ∙ one.admitted;
  limit = two.limit ∙ one.limit;
  trace = trace_both a.core.trace b.core.trace c.core.trace a.folder b.folder c.folder one.trace two.trace;
}

leads_level : (next : LevelChange) (old new : Side) → SetsLevel next old new → Leads (event.Level next.slot next.level ∷ []) old new
leads_level next old new sets = record {
  events = sets.events;
  kinds = (tt, tt);
  after = subst (λ (f : FolderTold). Adds (event.Level next.slot next.level ∷ []) (λ run. Unit {0}) old.core new.core old.folder f) (sym sets.folder) (sets.after old.folder);
  formed = λ run past taken after running formed.
      goes_on run.setting (source_of run) past (event.Level next.slot next.level ∷ []) formed (level_in_turn old.core next [] sets.owed run past taken after, tt);
  desk = record { sets = ap (λ (d : ControlTold). d.sets) sets.desk; apps = ap (λ (d : ControlTold). d.apps) sets.desk; first = ap (λ (d : ControlTold). d.first) sets.desk };
  pushed = λ app. ap (λ (d : ControlTold). d.pushed app) sets.desk;
  refusals = λ app. ap (λ (d : ControlTold). d.refusals app) sets.desk;
  admitted = ap (λ (c : Core). c.hub.admitted) sets.core;
  limit = ap (λ (c : Core). c.hub.limit) sets.core;
  trace = keeps_still old.core.trace new.core.trace old.folder new.folder (ap (λ (c : Core). c.trace) sets.core) sets.folder;
}

-- the same with its events
abbrev LeadsOn : Side → Side → Type 0
LeadsOn old new = (more : List Event) × Leads more old new × (owed_change new.core.registry ≡ None)

leads_levels : (changes : List LevelChange) (old new : Side) → SetsLevels changes old new → LeadsOn old new
leads_levels [] old new all = subst (λ (s : Side). LeadsOn old s) (sym all.0) ([], leads_none old, all.1)
leads_levels (next ∷ others) old new all =
    let rest = leads_levels others all.0 new all.2 in
    (event.Level next.slot next.level ∷ rest.0, leads_both (event.Level next.slot next.level ∷ []) rest.0 old all.0 new (leads_level next old all.0 all.1) rest.1, rest.2)

-- a registration admits no frame
no_frames : (ecu : List ℕ) (msg : UserMsg) → IsRegistration msg → length (user_frames ecu msg) ≡ 0
no_frames ecu (user.RegisterApp apid pid text) is = refl
no_frames ecu (user.RegisterContext apid ctid position level trace pid text) is = refl
no_frames ecu (user.UnregisterApp apid pid) is = absurd is
no_frames ecu (user.UnregisterContext apid ctid pid) is = absurd is
no_frames ecu (user.Log message) is = absurd is
no_frames ecu (user.LogLevel level trace position) is = absurd is
no_frames ecu (user.Injection position service body) is = absurd is
no_frames ecu (user.Overflow counter apid) is = absurd is

leads_one : (moment : Moment) (msg : UserMsg) (old new : Side) → owed_change old.core.registry ≡ None → IsRegistration msg → GreetsOne moment msg old new → LeadsOn old new
leads_one moment msg old new settled is greets =
    let levels = leads_levels greets.levels.0 greets.between new greets.levels.1 in (
      event.User 0 msg moment ∷ levels.0,
      leads_both (event.User 0 msg moment ∷ []) levels.0 old greets.between new (record {
        events = greets.notes.event;
        kinds = (refl, tt);
        after = greets.notes.after;
        formed = λ run past taken after running formed.
            goes_on run.setting (source_of run) past (event.User 0 msg moment ∷ []) formed (user_in_turn old.core 0 msg moment [] settled run past taken after running, tt);
        desk = record {
          sets = ap (λ (d : ControlTold). d.sets) greets.desk ∙ sym (append-nil old.desk.sets);
          apps = ap (λ (d : ControlTold). d.apps) greets.desk;
          first = ap (λ (d : ControlTold). d.first) greets.desk;
        };
        pushed = λ app. ap (λ (d : ControlTold). d.pushed app) greets.desk;
        refusals = λ app. ap (λ (d : ControlTold). d.refusals app) greets.desk;
        admitted = greets.notes.admitted ∙ ap (λ n. old.core.hub.admitted + n) (no_frames old.core.ecu msg is) ∙ add_none old.core.hub.admitted;
        limit = greets.notes.same.limit;
        trace = trace_each (map (stored old.core.ecu moment) (user_frames old.core.ecu msg)) old.core.trace greets.between.core.trace old.folder greets.between.folder greets.notes.stores greets.notes.others;
      }) levels.1,
      levels.2,
    )

leads_each : (moment : Moment) (msgs : List UserMsg) (old new : Side) → owed_change old.core.registry ≡ None → AllByRecursion IsRegistration msgs → GreetsEach moment msgs old new → LeadsOn old new
leads_each moment [] old new settled are same = subst (λ (s : Side). LeadsOn old s) (sym same) ([], leads_none old, settled)
leads_each moment (msg ∷ msgs) old new settled are all =
    let one = leads_one moment msg old all.0 settled are.0 all.1 in
    let rest = leads_each moment msgs all.0 new one.2 are.1 all.2 in
    (one.0 ++ rest.0, leads_both one.0 rest.0 old all.0 new one.1 rest.1, rest.2)

-- ---- its events

-- they take nothing, tell no losses and ask nothing
record SaysNothing (more : List Event) : Type 0 where
  calls : (app : ℕ) → takes app more ≡ []
  losses : (app : ℕ) → reported app more ≡ 0
  noted : count_by is_noted more ≡ 0
  claimed : count_by is_claim more ≡ 0
  asks : AllByRecursion AsksNothing more
  none_come : count_by is_connect more ≡ 0

says_nothing : (more : List Event) → AllByRecursion IsOfGreeting more → SaysNothing more
says_nothing [] are = record { calls = λ app. refl; losses = λ app. refl; noted = refl; claimed = refl; asks = tt; none_come = refl }
says_nothing (event.User channel msg moment ∷ more) are =
    let rest = says_nothing more are.1 in record { calls = rest.calls; losses = rest.losses; noted = rest.noted; claimed = rest.claimed; asks = (tt, rest.asks); none_come = rest.none_come }
says_nothing (event.Level slot level ∷ more) are =
    let rest = says_nothing more are.1 in record { calls = rest.calls; losses = rest.losses; noted = rest.noted; claimed = rest.claimed; asks = (tt, rest.asks); none_come = rest.none_come }
says_nothing (event.Log app writer call moment ∷ more) are = absurd are.0
says_nothing (event.Claim claim moment ∷ more) are = absurd are.0
says_nothing (event.Lost app count moment ∷ more) are = absurd are.0
says_nothing (event.Connect client ∷ more) are = absurd are.0
says_nothing (event.Request client frame answer ∷ more) are = absurd are.0
says_nothing (event.Close client cause ∷ more) are = absurd are.0

-- ---- registrations alone

front_are : (some others : List UserMsg) → AllByRecursion IsRegistration (some ++ others) → AllByRecursion IsRegistration some
front_are [] others are = tt
front_are (msg ∷ some) others are = (are.0, front_are some others are.1)

both_are : (some others : List UserMsg) → AllByRecursion IsRegistration some → AllByRecursion IsRegistration others → AllByRecursion IsRegistration (some ++ others)
both_are [] others one two = two
both_are (msg ∷ some) others one two = (one.0, both_are some others one.1 two)

contexts_are : (msgs : List UserMsg) → AllByRecursion IsContext msgs → AllByRecursion IsRegistration msgs
contexts_are [] are = tt
contexts_are (user.RegisterContext apid ctid position level trace pid text ∷ msgs) are = (tt, contexts_are msgs are.1)
contexts_are (user.RegisterApp apid pid text ∷ msgs) are = absurd are.0
contexts_are (user.UnregisterApp apid pid ∷ msgs) are = absurd are.0
contexts_are (user.UnregisterContext apid ctid pid ∷ msgs) are = absurd are.0
contexts_are (user.Log message ∷ msgs) are = absurd are.0
contexts_are (user.LogLevel level trace position ∷ msgs) are = absurd are.0
contexts_are (user.Injection position service body ∷ msgs) are = absurd are.0
contexts_are (user.Overflow counter apid ∷ msgs) are = absurd are.0

-- what applications tell of themselves is registrations
pub hello_registers : (apps : List AppState) → AllByRecursion IsIntroduced apps → AllByRecursion IsRegistration (hello_of apps)
hello_registers [] are = tt
hello_registers (app ∷ apps) are = both_are app.hello (hello_of apps)
    (subst (λ (msgs : List UserMsg). AllByRecursion IsRegistration msgs) (sym are.0.hello) (tt, contexts_are are.0.contexts are.0.are_contexts)) (hello_registers apps are.1)

-- each registers one application
contexts_no_ids : (msgs : List UserMsg) → AllByRecursion IsContext msgs → filter_map id_in msgs ≡ []
contexts_no_ids [] are = refl
contexts_no_ids (user.RegisterContext apid ctid position level trace pid text ∷ msgs) are = contexts_no_ids msgs are.1
contexts_no_ids (user.RegisterApp apid pid text ∷ msgs) are = absurd are.0
contexts_no_ids (user.UnregisterApp apid pid ∷ msgs) are = absurd are.0
contexts_no_ids (user.UnregisterContext apid ctid pid ∷ msgs) are = absurd are.0
contexts_no_ids (user.Log message ∷ msgs) are = absurd are.0
contexts_no_ids (user.LogLevel level trace position ∷ msgs) are = absurd are.0
contexts_no_ids (user.Injection position service body ∷ msgs) are = absurd are.0
contexts_no_ids (user.Overflow counter apid ∷ msgs) are = absurd are.0

ids_of : (apps : List AppState) → AllByRecursion IsIntroduced apps → length (filter_map id_in (hello_of apps)) ≡ length apps
ids_of [] are = refl
ids_of (app ∷ apps) are =
    let one : length (filter_map id_in app.hello) ≡ 1 =
    ap (λ (ms : List UserMsg). length (filter_map id_in ms)) are.0.hello ∙ ap (λ (ids : List (List ℕ)). length (are.0.apid ∷ ids)) (contexts_no_ids are.0.contexts are.0.are_contexts) in
    let parted : filter_map id_in (app.hello ++ hello_of apps) ≡ filter_map id_in app.hello ++ filter_map id_in (hello_of apps) = filter_map-append id_in app.hello (hello_of apps) in
    omega (arith, one, ids_of apps are.1, ap length parted, length-append (filter_map id_in app.hello) (filter_map id_in (hello_of apps)))

-- ---- the daemon

module _ {L : Type 0} (told : L → LinkTold) (moment : Moment) (msgs : List UserMsg) (old new : Scene L) (is : IsDaemon told old.daemon) (nobody : old.daemon.links.links ≡ [])
    (are : AllByRecursion IsRegistration msgs) (greets : Greets moment msgs old new) (may : MayGreet new.daemon.core (desk_told new.daemon.desk) new.daemon.journal.spare)
    (spare : old.daemon.journal.spare ≤ new.daemon.journal.spare) where
  -- nobody came
  none_came : (clients : List Client) → length clients ≡ 0 → clients ≡ []
  none_came [] none = refl
  none_came (c ∷ clients) none = absurd (omega (arith, none))

  nobody_open : (hub : Hub) → hub.clients ≡ [] → (number : ℕ) → outbox_of hub number ≡ None
  nobody_open hub none number =
      ap (λ (cs : List Client). option_and_then (λ (c : Client). c.outbox) (cond {A = Option Client} (eqb number 0) None (slice_get cs (number - 1)))) none ∙ by_test (eqb number 0) where
        by_test : (b : Bool) → option_and_then (λ (c : Client). c.outbox) (cond {A = Option Client} b None None) ≡ None
        by_test true = refl
        by_test false = refl

  led : LeadsOn (side_of old) (side_of new)
  led = leads_each moment msgs (side_of old) (side_of new) is.linked.settled are greets.greets

  -- where the applications have told of themselves, each is there
  abbrev There : Type 0
  There = new.daemon.greeted ≡ true → AreThere (length new.daemon.desk.apps) new.daemon.core.registry

  holds_greeted : There → (run : Run) → Gives run old.daemon.first_core new.daemon.desk.apps new.daemon.desk.handles
      → HoldsIn (TellTaken told) (TellBytes told) (new.daemon.greeted ≡ true) run (map told old.daemon.links.links) old.daemon.seated.listeners (old.daemon.journal.events ++ led.0) new.daemon.core (desk_told old.daemon.first_desk) (desk_told new.daemon.desk)
  holds_greeted there_now run gives =
      let holds = is.runs run (gives_before run old.daemon.first_core old.daemon.desk new.daemon.desk greets.desk gives) in
      let after_now = (led.1.after run old.daemon.journal.events holds.took tt holds.after).0 in record {
        took = holds.took;
        taken = holds.taken;
        after = after_now;
        noted = λ tells. subst (λ (ls : List L). AreNoted run (old.daemon.journal.events ++ led.0) holds.took (map told ls) old.daemon.seated.listeners new.daemon.core) (sym nobody)
            (noted_none run (old.daemon.journal.events ++ led.0) holds.took old.daemon.seated.listeners new.daemon.core after_now);
        formed = led.1.formed run old.daemon.journal.events holds.took holds.after is.running holds.formed;
        posted = λ app. posted_both run.setting [] old.daemon.journal.events led.0 app (desk_told old.daemon.first_desk) (desk_told old.daemon.desk) (desk_told new.daemon.desk) (holds.posted app)
            (posted_none run.setting old.daemon.journal.events led.0 app (desk_told old.daemon.desk) (desk_told new.daemon.desk) (says_nothing led.0 led.1.kinds).asks (led.1.pushed app) (led.1.refusals app));
        there = there_now;
      }

  pub greet_is : There → IsDaemon told new.daemon
  greet_is there_now =
      let events : new.daemon.journal.events ≡ old.daemon.journal.events ++ led.0 = cc led.1.events in
      let none = says_nothing led.0 led.1.kinds in
      let same = greets.desk in
      let apps = same_apps old.daemon.desk new.daemon.desk same in
      let before : old.daemon.core.hub.clients ≡ [] = none_came old.daemon.core.hub.clients (is.linked.many ∙ ap (λ (ls : List L). length ls) nobody) in
      let came : length new.daemon.core.hub.clients ≡ 0 = ap (λ (cs : List Client). length cs) may.nobody in
      let had : length old.daemon.core.hub.clients ≡ 0 = ap (λ (cs : List Client). length cs) before in
      let open_now : count_by is_open new.daemon.core.hub.clients ≡ 0 = ap (count_by is_open) may.nobody in
      let open_then : count_by is_open old.daemon.core.hub.clients ≡ 0 = ap (count_by is_open) before in
      subst (λ (d : DaemonState L). IsDaemon told d) (sym greets.rest) (record {
        told_by = subst (λ es. IsToldBy es (length new.daemon.desk.apps) new.daemon.desk.handles) (sym events)
            (subst (λ (specs : List AppSpec). IsToldBy (old.daemon.journal.events ++ led.0) (length specs) new.daemon.desk.handles) (sym apps)
            (told_more old.daemon.journal.events led.0 (length old.daemon.desk.apps) old.daemon.desk.handles new.daemon.desk.handles is.told_by
            (λ app. ap (map (told_as app)) (same_taken old.daemon.desk new.daemon.desk same app)
            ∙ sym (ap (λ xs. map (told_as app) (taken_of old.daemon.desk.handles app) ++ xs) (none.calls app) ∙ append-nil _))
            (λ app. ap (reported_of app) (same_reported old.daemon.desk new.daemon.desk same)
            ∙ sym (ap (λ n. reported_of app old.daemon.desk.handles.losses.reported + n) (none.losses app) ∙ add_none _))
            (λ app beyond. (none.calls app, none.losses app)) led.1.desk.first led.1.desk.sets));
        linked = record {
          many = came ∙ sym had ∙ is.linked.many;
          few = omega (arith, came);
          place = omega (arith, is.linked.place, led.1.limit);
          settled = may.settled;
          room = omega (arith, open_now);
        };
        heard = record {
          enough = omega (arith, is.heard.enough, led.1.limit);
          limits = is.heard.limits;
          counts = λ place listener there below. absurd (omega (arith, below, came));
          unused = λ place listener there above. is.heard.unused place listener there (omega (arith, had));
          waiting = λ number some. (let gone = nobody_open new.daemon.core.hub may.nobody number in absurd cc);
          desk_so = may.desk_so;
        };
        room = record {
          noted = is.room.noted ∙ omega (arith, sum_by-append (λ (e : Event). cond (is_noted e) 1 0) old.daemon.journal.events led.0, ap (count_by is_noted) events, none.noted);
          claimed = is.room.claimed ∙ omega (arith, sum_by-append (λ (e : Event). cond (is_claim e) 1 0) old.daemon.journal.events led.0, ap (count_by is_claim) events, none.claimed);
          few = is.room.few;
          few_claims = is.room.few_claims;
          limit = led.1.limit ∙ is.room.limit;
          spare = omega (arith, is.room.spare, spare, came, had, open_now, open_then);
        };
        few = subst (λ (n : ℕ). IsFew old.daemon.noted (took_by new.daemon.desk.handles) n) (sym (ap (λ (specs : List AppSpec). length specs) apps))
            (subst (λ (t : Took). IsFew old.daemon.noted t (length old.daemon.desk.apps)) (sym (same_took_by old.daemon.desk new.daemon.desk same)) is.few);
        few_claims = subst (λ (n : ℕ). HasFewClaims old.daemon.claimed (took_by new.daemon.desk.handles) n) (sym (ap (λ (specs : List AppSpec). length specs) apps))
            (subst (λ (t : Took). HasFewClaims old.daemon.claimed t (length old.daemon.desk.apps)) (sym (same_took_by old.daemon.desk new.daemon.desk same)) is.few_claims);
        bounds = subst (λ n. HasBounds old.daemon.noted n new.daemon.desk.handles.losses.reported) (sym led.1.admitted)
            (subst (λ (rs : List Report). HasBounds old.daemon.noted old.daemon.core.hub.admitted rs) (sym (same_reported old.daemon.desk new.daemon.desk same)) is.bounds);
        apps = subst (λ (specs : List AppSpec). length specs ≤ 16) (sym apps) is.apps;
        desk = later_both old.daemon.first_desk old.daemon.desk new.daemon.desk is.desk (same_later old.daemon.desk new.daemon.desk same);
        running = subst IsRunning (sym events) (running_on old.daemon.journal.events led.0 is.running (none_stops led.0 led.1.kinds));
        runs = λ run gives. subst (λ (es : List Event). HoldsIn (TellTaken told) (TellBytes told) (new.daemon.greeted ≡ true) run (map told old.daemon.links.links) old.daemon.seated.listeners es new.daemon.core (desk_told old.daemon.first_desk) (desk_told new.daemon.desk)) (sym events)
            (holds_greeted there_now run gives);
        shown = λ run gives. subst (λ (ls : List L). AllShowWhy (TellTheEnd told) new.daemon.journal.events new.daemon.core.hub (map told ls)) (sym nobody) (λ number link there gone at. absurd (cc at));
      })

  -- it is later by what they told
  pub greet_later : IsLaterGreeted old new
  greet_later =
      let events : new.daemon.journal.events ≡ old.daemon.journal.events ++ led.0 = cc led.1.events in
      let none = says_nothing led.0 led.1.kinds in
      let same = greets.desk in (
        led.0,
        led.1.kinds,
        record {
          events = events;
          calls = ap (λ (d : DaemonState L). d.calls) greets.rest;
          first_core = ap (λ (d : DaemonState L). d.first_core) greets.rest;
          first_desk = ap (λ (d : DaemonState L). d.first_desk) greets.rest;
          desk = same_later old.daemon.desk new.daemon.desk same;
          owners = ap (λ (d : DeskState). d.owners) greets.desk;
          taken = λ app. ([], same_taken old.daemon.desk new.daemon.desk same app ∙ sym (append-nil (taken_of old.daemon.desk.handles app)));
          connects = omega (arith, ap (λ (d : DaemonState L). length d.links.links) greets.rest, none.none_come);
          holds = λ run gives holds.
              let held = is.runs run (gives_before run old.daemon.first_core old.daemon.desk new.daemon.desk same
              (subst (λ (first : Core). Gives run first new.daemon.desk.apps new.daemon.desk.handles) (ap (λ (d : DaemonState L). d.first_core) greets.rest) gives)) in
              subst (λ (es : List Event). HoldsTrace run es new.daemon.core new.folder) (sym events) ((led.1.after run old.daemon.journal.events held.took tt held.after).1 holds);
          leaves = leaves_kept old.daemon.core new.daemon.core old.folder new.folder led.1.trace;
          folder = λ run gives. folder_kept old.daemon.core.trace new.daemon.core.trace old.folder new.folder led.1.trace run.setting old.daemon.journal.events led.0 none.asks;
        },
      )

-- ---- by its answer

-- all that the applications tell, and where memory was wanting the first ones of it
module _ {L : Type 0} (told : L → LinkTold) (moment : Moment) (apps : List AppState) (old new : Scene L) (is : IsDaemon told old.daemon) (nobody : old.daemon.links.links ≡ [])
    (introduced : AllByRecursion IsIntroduced apps) (place : registered old.daemon.core + length apps ≤ length old.daemon.desk.apps) (listed : AreListed old.daemon.desk.apps apps)
    (may : MayGreet new.daemon.core (desk_told new.daemon.desk) new.daemon.journal.spare) (spare : old.daemon.journal.spare ≤ new.daemon.journal.spare) (desk : SameDesk old.daemon.desk new.daemon.desk)
    (rest : new.daemon ≡ record old.daemon { core = new.daemon.core; desk = new.daemon.desk; journal = new.daemon.journal; greeted = new.daemon.greeted }) where
  are : AllByRecursion IsRegistration (hello_of apps)
  are = hello_registers apps introduced

  -- nobody registered before
  unregistered : registered old.daemon.core ≡ 0
  unregistered = omega (arith, place, ids_of apps introduced, ap (λ (ids : List (List ℕ)). length ids) listed.same, length-map old.daemon.desk.apps (λ (spec : AppSpec). spec.apid))

  there_now : GreetsEach moment (hello_of apps) (side_of old) (side_of new) → AreThere (length new.daemon.desk.apps) new.daemon.core.registry
  there_now greets = subst (λ (specs : List AppSpec). AreThere (length specs) new.daemon.core.registry) (sym (same_apps old.daemon.desk new.daemon.desk desk))
      (listed_there moment apps old.daemon.desk.apps (side_of old) (side_of new) are listed unregistered is.apps greets)

  pub greet_ok : {T E : Type 0} (result : Result T E) → OnOk result (GreetsEach moment (hello_of apps) (side_of old) (side_of new)) → OnErr result (GreetsFirst moment (hello_of apps) (side_of old) (side_of new))
      → new.daemon.greeted ≡ is_ok result → IsDaemon told new.daemon
  greet_ok (Ok done) greets first greeted =
      greet_is told moment (hello_of apps) old new is nobody are (record { greets = greets; desk = desk; rest = rest }) may spare (λ so. there_now greets)
  greet_ok (Err wanting) greets first greeted =
      greet_is told moment first.0 old new is nobody (front_are first.0 first.1 (subst (λ (ms : List UserMsg). AllByRecursion IsRegistration ms) first.2 are)) (record { greets = first.3; desk = desk; rest = rest }) may spare
      (λ so. absurd (let bad : false ≡ true = sym greeted ∙ so in cc bad))

  pub greet_goes : {T E : Type 0} (result : Result T E) → OnOk result (GreetsEach moment (hello_of apps) (side_of old) (side_of new)) → OnErr result (GreetsFirst moment (hello_of apps) (side_of old) (side_of new))
      → IsLaterGreeted old new
  greet_goes (Ok done) greets first = greet_later told moment (hello_of apps) old new is nobody are (record { greets = greets; desk = desk; rest = rest }) may spare
  greet_goes (Err wanting) greets first =
      greet_later told moment first.0 old new is nobody (front_are first.0 first.1 (subst (λ (ms : List UserMsg). AllByRecursion IsRegistration ms) first.2 are)) (record { greets = first.3; desk = desk; rest = rest }) may spare

-- the daemon before is told by its fields
pub greeted_seen : {L : Type 0} (shown old new : DaemonState L) (folder folder_now : FolderTold) → shown ≡ old → IsLaterGreeted (scene shown folder) (scene new folder_now)
    → IsLaterGreeted (scene old folder) (scene new folder_now)
greeted_seen shown old new folder folder_now is later = subst (λ (d : DaemonState _). IsLaterGreeted (scene d folder) (scene new folder_now)) is later
