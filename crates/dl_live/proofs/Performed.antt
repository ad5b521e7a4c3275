-- What a run that was played comes to, with its net and its folder.
use Rattle.std.proofs.Common.{◌≡◌, ◌≢◌, Bool, ℕ, ◌+◌, ◌-◌, ◌^◌, ◌<◌, ◌≤◌, min, List, [], ◌++◌, drop, length, map, count_by, Option, Some, None, refl, sym, ap, subst, ◌∙◌, arith}
use Rattle.std.specs.Prelude.{IfSome, IsSomeAnd}
use Rattle.std.specs.FinMap as files
use Rattle.std.specs.Option.{option_map}
use Rattle.std.proofs.lemmas.List.{length-map}
use Rattle.dl_admission.specs.Kept.{end_of}
use Rattle.dl_bytes.specs.declared.outcome.TraceEnd.{TraceEnd}
use Rattle.dl_bytes.specs.declared.outcome.TraceState.{TraceState}
use Rattle.dl_core.specs.Follows.{HoldsFiles, HoldsTrace, IsTraceAfter, Run, stored_by}
use Rattle.dl_core.specs.Serving.{stored_name}
use Rattle.dl_core.specs.State.{Core}
use Rattle.dl_events.specs.declared.event.Event.{Event}
use Rattle.dl_core.specs.Files.{Leaves}
use Rattle.dl_core.specs.Later.{IsFolderLater, failures_in}
use Rattle.dl_core.proofs.LaterFolders.{folder_both}
use Rattle.dl_core.proofs.LeftFiles.{leaves_both}
use Rattle.dl_launch.specs.Launching.{Launched}
use Rattle.dl_account.specs.State.{AccountState}
use Rattle.dl_loop.specs.Coming.{HaveCome}
use Rattle.dl_loop.specs.Holds.{Gives}
use Rattle.dl_loop.specs.Later.{GoesRound, IsLaterBy}
use Rattle.dl_loop.specs.Scene.{scene}
use Rattle.dl_loop.specs.State.{DaemonState}
use Rattle.dl_loop.specs.Stops.{StopsIn}
use Rattle.dl_loop.proofs.ComingRounds.{come_both}
use Rattle.dl_loop.proofs.GoneRounds.{later_by_both}
use Rattle.dl_model.specs.Journal.{is_connect}
use Rattle.dl_outside.specs.Links.{Links}
use Rattle.dl_outside.specs.Folder.{Files}
use Rattle.dl_outside.specs.Told.{FolderTold, LinkTold, NetTold, SinkTold}
use Rattle.dl_outside.specs.declared.client.ClientScript.{ClientScript}
use Rattle.dl_script.specs.Playable.{IsRunnable}
use Rattle.dl_settling.specs.Ends.{trace_told}
use Rattle.dl_settling.specs.Went.{TellBytes, TellStreams}
use Rattle.dl_startup.specs.Setup.{IsBegun}
use Rattle.dl_startup.specs.Unchanged.{IsQuiet}
use Rattle.dl_trace.specs.InFolder.{HasFiles}
use Rattle.dl_trace.specs.State.{Trace}
use Rattle.dl_turns.specs.Gone.{TellTheEnd}
use Rattle.dl_live.specs.declared.beginning.Begun.{Begun}
use Rattle.dl_live.specs.declared.players.Players.{Players}
use Rattle.dl_live.specs.Account.{IsComeTo, run_of, setting}
use Rattle.dl_live.specs.Clients.{AreServed, IsHeard, IsNetAfter}
use Rattle.dl_live.specs.Folder.{IsFolderAfter, IsTraced, no_trace}
use Rattle.dl_live.specs.Playing.{ArePlayersOf, HasBeenPlayed}
use Rattle.dl_live.specs.Told.{told}
use Rattle.dl_live.proofs.ComeTo as come
use Rattle.dl_live.proofs.LaunchedNets.{known_before, net_after}
use Rattle.dl_live.proofs.PlayedDaemons as daemons
use Rattle.dl_lemmas.proofs.Options.{if_some_is}
use Rattle.dl_lemmas.proofs.Lists.{not_empty}

-- a kept trace among those of one directory
kept_too : (first now : Option Trace) (kept : Trace) → option_map (λ (t : Trace). t.directory) now ≡ option_map (λ (t : Trace). t.directory) first → first ≡ Some kept → (there : Trace) × (now ≡ Some there)
kept_too first None kept same is = absurd (let both : None ≡ Some kept.directory = same ∙ ap (option_map (λ (t : Trace). t.directory)) is in cc)
kept_too first (Some there) kept same is = (there, refl)

none_too : (first now : Option Trace) → option_map (λ (t : Trace). t.directory) now ≡ option_map (λ (t : Trace). t.directory) first → first ≡ None → now ≡ None
none_too first None same is = refl
none_too first (Some there) same is = absurd (let both : Some there.directory ≡ None = same ∙ ap (option_map (λ (t : Trace). t.directory)) is in cc)

of_any : {A : Type 0} (o : Option A) (P : A → Type 0) → ((x : A) → P x) → IfSome o P
of_any None P all = tt
of_any (Some x) P all = all x

module _ {L : Type 0} (link_told : L → LinkTold) (begun : Begun) (p : Players L) (wanted failed : Bool) (net net_now : NetTold L) (folder folder_now : FolderTold)
    (account : AccountState) (links : Links L) (runnable : IsRunnable begun.scenario) (are : ArePlayersOf begun p) (first : FolderTold) (begins : IsBegun begun.conf first.files begun.trace)
    (been : HasBeenPlayed link_told p wanted failed net net_now folder folder_now account links) where
  pub goes : GoesRound been.launched_net net_now been.greeted been.rounded
  goes = come.goes link_told begun p wanted failed net net_now folder folder_now account links runnable are first.files begins been

  -- from the making to the stop
  all_later : IsLaterBy (been.later.0 ++ goes.more) (scene p.daemon folder) been.rounded
  all_later = later_by_both been.later.0 goes.more (scene p.daemon folder) been.greeted been.rounded been.later.2 goes.later

  pub came_in_all : HaveCome (been.gathers.rounds.came + been.goes.came) been.launched_net net_now been.greeted.daemon been.rounded.daemon
  came_in_all = come_both been.gathers.rounds.came been.goes.came been.launched_net been.gathered_net net_now been.greeted.daemon been.gathered.daemon been.rounded.daemon
      been.gathers.rounds.come been.goes.come

  -- ---- the folder

  abbrev run : Run
  run = run_of begun (come.stood link_told begun p wanted failed net net_now folder folder_now account links runnable are first.files begins been).stood account

  gives : Gives run been.rounded.daemon.first_core account.apps account.handles
  gives = come.gives link_told begun p wanted failed net net_now folder folder_now account links runnable are first.files begins been

  gives_before : Gives run been.rounded.daemon.first_core been.rounded.daemon.desk.apps been.rounded.daemon.desk.handles
  gives_before = come.gives_before link_told begun p wanted failed net net_now folder folder_now account links runnable are first.files begins been

  first_trace : p.daemon.core.trace ≡ begun.trace
  first_trace = ap (λ (core : Core). core.trace) are.core

  no_events : p.daemon.journal.events ≡ []
  no_events = are.made.events

  all_events : account.events ≡ (been.later.0 ++ goes.more) ++ been.stops.stopped.more
  all_events = been.stops.stopped.events ∙ ap (λ (es : List Event). es ++ been.stops.stopped.more) (all_later.events ∙ ap (λ (es : List Event). es ++ (been.later.0 ++ goes.more)) no_events)

  before_events : been.rounded.daemon.journal.events ≡ been.later.0 ++ goes.more
  before_events = all_later.events ∙ ap (λ (es : List Event). es ++ (been.later.0 ++ goes.more)) no_events

  first_end : end_of p.daemon.core.trace ≡ None
  first_end = ap end_of first_trace ∙ by begun.trace begins where
    by : (kept : Option Trace) → IsBegun begun.conf first.files kept → end_of kept ≡ None
    by None so = refl
    by (Some kept) so = so.1.goes_on

  pub folder_after : IsFolderAfter (setting begun) account.events account.outcome.trace.end folder folder_now
  folder_after =
      let until_stop : IsFolderLater (setting begun) [] (been.later.0 ++ goes.more) None (end_of been.rounded.daemon.core.trace) folder been.rounded.folder =
      subst (λ (e : Option TraceEnd). IsFolderLater (setting begun) [] (been.later.0 ++ goes.more) e (end_of been.rounded.daemon.core.trace) folder been.rounded.folder) first_end
      (subst (λ (es : List Event). IsFolderLater (setting begun) es (been.later.0 ++ goes.more) (end_of p.daemon.core.trace) (end_of been.rounded.daemon.core.trace) folder been.rounded.folder) no_events
      (all_later.folder run gives_before)) in
      let at_stop : IsFolderLater (setting begun) (been.later.0 ++ goes.more) been.stops.stopped.more (end_of been.rounded.daemon.core.trace) account.outcome.trace.end been.rounded.folder folder_now =
      subst (λ (es : List Event). IsFolderLater (setting begun) es been.stops.stopped.more (end_of been.rounded.daemon.core.trace) account.outcome.trace.end been.rounded.folder folder_now) before_events
      (been.stops.stopped.folder_later run gives) in
      subst (λ (es : List Event). IsFolderLater (setting begun) [] es None account.outcome.trace.end folder folder_now) (sym all_events)
      (folder_both (setting begun) [] (been.later.0 ++ goes.more) been.stops.stopped.more None (end_of been.rounded.daemon.core.trace) account.outcome.trace.end folder been.rounded.folder folder_now until_stop at_stop)

  -- no file of others changed
  pub all_left : Leaves p.daemon.core been.stops.stopped.last_core folder folder_now
  all_left = leaves_both p.daemon.core been.rounded.daemon.core been.stops.stopped.last_core folder been.rounded.folder folder_now all_later.leaves been.stops.stopped.leaves

  -- ---- the trace

  pub untraced : begun.conf.directory ≡ [] → account.outcome.trace ≡ no_trace
  untraced unnamed = by begun.trace refl begins where
    by : (kept : Option Trace) → begun.trace ≡ kept → IsBegun begun.conf first.files kept → account.outcome.trace ≡ no_trace
    by None is so = been.stops.stopped.trace ∙ ap trace_told (none_too p.daemon.core.trace been.stops.stopped.last_core.trace all_left.same (first_trace ∙ is))
    by (Some kept) is so = absurd (not_empty begun.conf.directory unnamed so.0)

  -- ---- the clients

  pub served : AreServed (TellBytes link_told) (TellTheEnd link_told) run account.events (map link_told links.links) account.outcome
  served =
      let stops = come.stops_in link_told begun p wanted failed net net_now folder folder_now account links runnable are first.files begins been in
      let long : length (map link_told links.links) ≡ length links.links = length-map links.links link_told in
      record {
        many = long ∙ daemons.as_many link_told begun p wanted failed net net_now folder folder_now account links are been goes
            (come.greeted link_told begun p wanted failed net net_now folder folder_now account links runnable are first.files begins been);
        none_open = stops.none_open;
        streams = subst (λ (n : ℕ). TellStreams run account.events n account.outcome.links) (sym long) stops.ends;
        dropped = come.drops link_told begun p wanted failed net net_now folder folder_now account links runnable are first.files begins been;
        ended = stops.ended;
        gone = stops.gone;
      }

  -- ---- the net

  none_dropped : been.greeted.daemon.dropped ≡ 0
  none_dropped = ap (λ (d : DaemonState L). d.dropped) been.greets.rest ∙ are.made.dropped

  pub same_dropped : account.outcome.dropped ≡ min came_in_all.let_go (2 ^ 32 - 1)
  same_dropped =
      let counted = came_in_all.counted (omega (arith, none_dropped)) in
      let told = been.stops.stopped.dropped in
      omega (arith, told, counted, none_dropped)

  -- as many connected as in the rounds
  pub same_connected : count_by is_connect account.events + came_in_all.let_go ≡ been.gathers.rounds.came + been.goes.came
  same_connected =
      let all = daemons.as_many link_told begun p wanted failed net net_now folder folder_now account links are been goes
      (come.greeted link_told begun p wanted failed net net_now folder folder_now account links runnable are first.files begins been) in
      let came = came_in_all.came_is in
      let nobody = ap (λ (d : DaemonState L). length d.links.links) been.greets.rest ∙ ap (λ (ls : Links L). length ls.links) are.made.links in
      let many = been.stops.stopped.many in
      omega (arith, all, came, nobody, many)

  pub net_so : (before : NetTold L) → IsHeard begun.port before net → IsNetAfter begun.port begun.scenario (count_by is_connect account.events) account.outcome.dropped before net_now
  net_so before heard =
      net_after begun.port begun.scenario before net been.launched_net net_now heard been.count
      (subst (λ (scripts : List ClientScript). Launched scripts net been.launched_net been.count) are.opened.scripts been.launches) goes.net_later
      (count_by is_connect account.events) account.outcome.dropped came_in_all.let_go same_dropped
      (subst (λ (n : ℕ). IfSome been.launched_net.waiting (λ waiting. (n ≤ length waiting) × (net_now.waiting ≡ Some (drop n waiting)))) (sym same_connected) came_in_all.waiting)

  -- the trace files that stood
  abbrev before_run : come.HaveStood begun.conf first.files begun.trace
  before_run = come.stood link_told begun p wanted failed net net_now folder folder_now account links runnable are first.files begins been

  stood_there : begun.trace ≢ None → IfSome first.files (λ files. HasFiles begun.conf.directory files before_run.stood)
  stood_there some = by begun.trace refl before_run.told where
    by : (kept : Option Trace) → begun.trace ≡ kept → IfSome kept (λ _. IfSome first.files (λ files. HasFiles begun.conf.directory files before_run.stood))
        → IfSome first.files (λ files. HasFiles begun.conf.directory files before_run.stood)
    by None is told = absurd (some is)
    by (Some kept) is told = told

  -- ---- what the folder was before, where it was left alone since

  pub folder_since : IsQuiet first folder → IsFolderAfter (setting begun) account.events account.outcome.trace.end first folder_now
  folder_since quiet = record {
    never_falls = subst (λ (n : ℕ). n ≤ folder_now.faults) quiet.well folder_after.never_falls;
    failed = subst (λ (n : ℕ). min (n + failures_in (setting begun) [] account.events None account.outcome.trace.end) (2 ^ 64 - 1) ≤ folder_now.faults) quiet.well folder_after.failed;
    stored = λ none_failed none_done. known_before first.files folder.files (λ (was : Files). IsSomeAnd folder_now.files (λ now. files.get now stored_name ≡ files.get was stored_name))
        quiet.unchanged.files (folder_after.stored none_failed none_done);
  }

  -- ---- the trace, where one is kept

  module _ (quiet : IsQuiet first folder) (kept : Trace) (is_kept : begun.trace ≡ Some kept) where
    stood_so : IfSome first.files (λ files. HasFiles begun.conf.directory files before_run.stood)
    stood_so = stood_there (λ none. (let both : None ≡ Some kept = sym none ∙ is_kept in cc both))

    last_kept : (now : Trace) × (been.stops.stopped.last_core.trace ≡ Some now)
    last_kept = kept_too p.daemon.core.trace been.stops.stopped.last_core.trace kept all_left.same (first_trace ∙ is_kept)

    last_state : last_kept.0.state ≡ account.outcome.trace
    last_state = sym (been.stops.stopped.trace ∙ ap trace_told last_kept.1)

    stops : StopsIn link_told run been.rounded.daemon been.stops.stopped.last_core account links been.rounded.folder folder_now
    stops = come.stops_in link_told begun p wanted failed net net_now folder folder_now account links runnable are first.files begins been

    last_holds : (files : Files) → first.files ≡ Some files → HoldsTrace run account.events been.stops.stopped.last_core folder_now
    last_holds files is =
        let told : folder.files ≡ Some files = if_some_is first.files (λ (all : Files). folder.files ≡ Some all) files is quiet.unchanged.files in
        let stood : HasFiles begun.conf.directory files before_run.stood = if_some_is first.files (λ (all : Files). HasFiles begun.conf.directory all before_run.stood) files is stood_so in
        let holds : HoldsFiles run (stored_by run []) folder.files = subst (λ (o : Option Files). HoldsFiles run (stored_by run []) o) (sym told) stood in
        let begin : HoldsTrace run [] p.daemon.core folder = of_any p.daemon.core.trace (λ (t : Trace). t.state.end ≡ None → HoldsFiles run (stored_by run []) folder.files) (λ t goes_on. holds) in
        stops.holds (all_later.holds run gives_before (subst (λ (es : List Event). HoldsTrace run es p.daemon.core folder) (sym no_events) begin))

    holds_now : (told : Option Files) → first.files ≡ told → account.outcome.trace.end ≡ None → IfSome told (λ files. HoldsFiles run (stored_by run account.events) folder_now.files)
    holds_now None is goes_on = tt
    holds_now (Some files) is goes_on =
        if_some_is been.stops.stopped.last_core.trace (λ (t : Trace). t.state.end ≡ None → HoldsFiles run (stored_by run account.events) folder_now.files) last_kept.0 last_kept.1
        (last_holds files is) (ap (λ (s : TraceState). s.end) last_state ∙ goes_on)

    pub is_traced : IsTraced begun.filters run account.events account.outcome.trace first folder_now
    is_traced = record {
      kept = last_kept.0;
      state = last_state;
      after = if_some_is been.stops.stopped.last_core.trace (IsTraceAfter run (stored_by run account.events)) last_kept.0 last_kept.1 stops.after.trace;
      stood = stood_so;
      holds = λ goes_on are. holds_now first.files refl goes_on;
    }

  traced : IsQuiet first folder → 0 < length begun.conf.directory → IsTraced begun.filters run account.events account.outcome.trace first folder_now
  traced quiet named = by begun.trace refl begins where
    by : (kept : Option Trace) → begun.trace ≡ kept → IsBegun begun.conf first.files kept → IsTraced begun.filters run account.events account.outcome.trace first folder_now
    by None is so = absurd (not_empty begun.conf.directory so named)
    by (Some kept) is so = is_traced quiet kept is

  -- ---- all of it

  pub come_to : (before : NetTold L) (out out_now : SinkTold) → IsQuiet first folder → IsHeard begun.port before net
      → IsComeTo link_told begun (told first before out) (told folder_now net_now out_now) account links
  come_to before out out_now quiet heard = record {
    played_out = record {
      is_account = come.is_account link_told begun p wanted failed net net_now folder folder_now account links runnable are first.files begins been;
      settled = been.stops.settled;
      journal = come.journal link_told begun p wanted failed net net_now folder folder_now account links runnable are first.files begins been;
      scenario = come.is_of_scenario link_told begun p wanted failed net net_now folder folder_now account links runnable are first.files begins been;
      injected = come.injected link_told begun p wanted failed net net_now folder folder_now account links runnable are first.files begins been;
      net_after = net_so before heard;
      stood = before_run.stood;
      stood_so = stood_there;
      clients = served;
      untraced = untraced;
      folder_after = folder_since quiet;
    };
    traced = traced quiet;
  }
