-- What is known of a run that was played when its report is written.
use Rattle.std.proofs.Common.{◌≡◌, inl, inr, Bool, true, false, ◌+◌, ◌-◌, ◌^◌, ◌≤◌, min, List, [], ◌++◌, length, Option, Some, None, refl, sym, ap, subst, ◌∙◌, arith}
use Rattle.std.specs.Prelude.{IfSome, ◌||◌, not}
use Rattle.std.specs.List.{range_with_len}
use Rattle.std.proofs.lemmas.Bool.Decides.{eqb_tells}
use Rattle.std.proofs.lemmas.List.{length-append, length-map}
use Rattle.std.proofs.lemmas.List.FromFn.{length-range_with_len}
use Rattle.dl_bytes.specs.declared.outcome.TraceEnd.{TraceEnd}
use Rattle.dl_bytes.specs.declared.outcome.TraceEnd.TheVariants as end
use Rattle.dl_ending.specs.Ending.{Finishes, failures_with, unheard}
use Rattle.dl_ending.specs.Storage.{has_failed, has_no_memory, is_spent, some_end, with_storage}
use Rattle.dl_core.specs.Later.{failed_in, trace_failures}
use Rattle.dl_launch.specs.Launching.{Launched}
use Rattle.dl_account.specs.State.{AccountState}
use Rattle.dl_loop.specs.State.{DaemonState}
use Rattle.dl_opening.specs.Scenario.{clients, scripts_of}
use Rattle.dl_opening.proofs.Runnable.{few_clients}
use Rattle.dl_outside.specs.Links.{Links}
use Rattle.dl_outside.specs.Outside.{HasRisen}
use Rattle.dl_outside.specs.Told.{FolderTold, LinkTold, NetTold, SinkTold}
use Rattle.dl_outside.specs.declared.client.ClientScript.{ClientScript}
use Rattle.dl_script.specs.Playable.{IsRunnable}
use Rattle.dl_script_model.specs.declared.scenario.ScenarioLine.{ScenarioLine}
use Rattle.dl_startup.specs.Failures.{unserved, with_trace}
use Rattle.dl_startup.specs.Setup.{IsBegun}
use Rattle.dl_startup.specs.Unchanged.{IsQuiet}
use Rattle.dl_startup.specs.declared.failures.Failures.{Failures}
use Rattle.dl_startup.specs.declared.status.Status.{Status}
use Rattle.dl_storage.specs.declared.ends.StoreEnd.{StoreEnd}
use Rattle.dl_live.specs.declared.beginning.Begun.{Begun}
use Rattle.dl_live.specs.declared.players.Players.{Players}
use Rattle.dl_live.specs.Account.{came, setting}
use Rattle.dl_live.specs.Clients.{IsHeard}
use Rattle.dl_live.specs.Ends.{EndsStored, HasNames, IsOutOfNames, KnownOf, failed_so, report}
use Rattle.dl_live.specs.Playing.{ArePlayersOf, HasBeenPlayed}
use Rattle.dl_live.specs.Told.{told}
use Rattle.dl_live.proofs.LaunchedNets.{all_launched, known_before, not_launched}
use Rattle.dl_live.proofs.EndedRuns.{ended as ended_so}
use Rattle.dl_live.proofs.Performed as performed
use Rattle.dl_lemmas.proofs.Bools.{either, neither}
use Rattle.dl_admission.proofs.KeptTraces.{risen_later, risen_before}

no_more : {b : Bool} → b ≡ true → b ≡ false → ⊥
no_more found lacks = let both : true ≡ false = sym found ∙ lacks in cc both

-- what the end of a trace adds
by_cause : (cause : Option TraceEnd) (f : Failures) → with_trace cause f
    ≡ record f { folder = has_failed cause || f.folder; names_spent = is_spent cause || f.names_spent; memory = has_no_memory cause || f.memory }
by_cause None f = refl
by_cause (Some end.Failed) f = refl
by_cause (Some end.Spent) f = refl
by_cause (Some end.NoMemory) f = refl

module _ {L : Type 0} (link_told : L → LinkTold) (begun : Begun) (p : Players L) (wanted failed : Bool) (before net net_now : NetTold L) (first folder folder_now : FolderTold)
    (account : AccountState) (links : Links L) (runnable : IsRunnable begun.scenario) (are : ArePlayersOf begun p) (begins : IsBegun begun.conf first.files begun.trace)
    (quiet : IsQuiet first folder) (heard : IsHeard begun.port before net)
    (been : HasBeenPlayed link_told p wanted failed net net_now folder folder_now account links) where
  abbrev lines : List ScenarioLine
  lines = begun.scenario

  launches : Launched (scripts_of lines) net been.launched_net been.count
  launches = subst (λ (scripts : List ClientScript). Launched scripts net been.launched_net been.count) are.opened.scripts been.launches

  many_scripts : length p.scripts ≡ length (scripts_of lines)
  many_scripts = ap (λ (scripts : List ClientScript). length scripts) are.opened.scripts

  many_clients : length (scripts_of lines) ≡ clients lines
  many_clients = length-map (range_with_len 1 (clients lines)) _ ∙ length-range_with_len 1 (clients lines)

  -- ---- the net

  -- an accept that failed while clients were waited for is a fault of the net
  wait_failed : been.got.failed ≡ true → HasRisen before.faults net_now.faults
  wait_failed is =
      let was : been.greeted.daemon.failed ≡ false = ap (λ (d : DaemonState L). d.failed) been.greets.rest ∙ are.made.failed in
      elim (been.gathers.rounds.come.ends.risen (been.gathers.failed is)) [
        | inl earlier ↦ absurd (let both : false ≡ true = sym was ∙ earlier in cc both)
        | inr rose ↦
            let same = heard.faults in
            let launched = launches.faults.never_falls in
            let later = been.goes.goes.net_later.faults in
            (omega (arith, same, launched, later, rose.0, rose.1), omega (arith, same, launched, later, rose.0, rose.1))
      ]

  net_rose : failed ≡ true → HasRisen before.faults net_now.faults
  net_rose is = elim (eqb_tells been.count (length p.scripts)) [
    | inl all ↦ wait_failed (sym (been.failed_so ∙ ap (λ (b : Bool). not b || been.got.failed) all.0) ∙ is)
    | inr some ↦ not_launched begun.port lines before net been.launched_net net_now heard been.count launches
        (performed.goes link_told begun p wanted failed net net_now folder folder_now account links runnable are first begins been).net_later
        (λ same. some.1 (same ∙ sym many_scripts))
  ]

  went_well : failed ≡ false → (been.count ≡ length (scripts_of lines)) × (been.got.failed ≡ false)
  went_well is = elim (eqb_tells been.count (length p.scripts)) [
    | inl all ↦ (all.1 ∙ many_scripts, sym (been.failed_so ∙ ap (λ (b : Bool). not b || been.got.failed) all.0) ∙ is)
    | inr some ↦ absurd (let both : true ≡ false = sym (been.failed_so ∙ ap (λ (b : Bool). not b || been.got.failed) some.0) ∙ is in cc both)
  ]

  launched_all : failed ≡ false → IfSome before.launched (λ started. net_now.launched ≡ Some (started ++ scripts_of lines))
  launched_all is =
      all_launched begun.port lines before net been.launched_net net_now heard been.count launches
      (performed.goes link_told begun p wanted failed net net_now folder folder_now account links runnable are first begins been).net_later (went_well is).0

  -- as many links came as were launched
  enough : been.count ≡ length (scripts_of lines) → been.count ≤ been.gathers.rounds.came → clients lines ≤ came account
  enough all many =
      let connected = performed.same_connected link_told begun p wanted failed net net_now folder folder_now account links runnable are first begins been in
      let dropped = performed.same_dropped link_told begun p wanted failed net net_now folder folder_now account links runnable are first begins been in
      let few = few_clients lines runnable in
      let count = many_clients in
      omega (arith, all, many, connected, dropped, few, count)

  all_came : failed ≡ false → wanted ≡ false → IfSome before.waiting (λ _. clients lines ≤ came account)
  all_came well memory = elim (been.gathers.all (went_well well).1 (been.none_wanted memory).0) [
    | inl many ↦ so_any before.waiting (enough (went_well well).0 many)
    | inr all ↦ known_before before.waiting net.waiting (λ _. clients lines ≤ came account) heard.waiting (by net.waiting launches.waiting all.1)
  ] where
    so_any : (o : Option (List L)) → clients lines ≤ came account → IfSome o (λ _. clients lines ≤ came account)
    so_any None so = tt
    so_any (Some some) so = so

    some_of : (o : Option (List L)) (P : List L → Type 0) (x : List L) → o ≡ Some x → IfSome o P → P x
    some_of o P x is holds = subst (λ (found : Option (List L)). IfSome found P) is holds

    by : (o : Option (List L)) → IfSome o (λ waiting. (more : List L) × (length more ≡ been.count) × (been.launched_net.waiting ≡ Some (waiting ++ more)))
        → IfSome been.launched_net.waiting (λ all. length all ≤ been.gathers.rounds.came) → IfSome o (λ _. clients lines ≤ came account)
    by None launched all = tt
    by (Some waiting) launched all =
        let within = some_of been.launched_net.waiting (λ found. length found ≤ been.gathers.rounds.came) (waiting ++ launched.0) launched.2 all in
        let long = length-append waiting launched.0 in
        let more = launched.1 in
        enough (went_well well).0 (omega (arith, within, long, more))

  -- ---- the folder

  never_fell : first.faults ≤ folder_now.faults
  never_fell = (performed.folder_since link_told begun p wanted failed net net_now folder folder_now account links runnable are first begins been quiet).never_falls

  trace_rose : account.outcome.trace.end ≡ Some end.Failed → HasRisen first.faults folder_now.faults
  trace_rose is =
      let since = performed.folder_since link_told begun p wanted failed net net_now folder folder_now account links runnable are first begins been quiet in
      let rose : min (first.faults + (length (failed_in (setting begun) [] account.events) + (trace_failures account.outcome.trace.end - 0))) (2 ^ 64 - 1) ≤ folder_now.faults = since.failed in
      let one : trace_failures account.outcome.trace.end ≡ 1 = ap trace_failures is in
      let later = since.never_falls in
      (later, omega (arith, rose, one, later))

  -- ---- all of it

  -- What went wrong in the run, as its filters ended so and left the folder so.
  module _ (ends : List StoreEnd) (last : FolderTold) (since : folder_now.faults ≤ last.faults) (filter_so : some_end has_failed ends ≡ true → HasRisen folder_now.faults last.faults)
      (filter_well : some_end has_failed ends ≡ false → last.faults ≡ folder_now.faults)
      (out out_now : SinkTold) (net_failed folder_failed : Bool) (net_so : net_failed ≡ true → HasRisen before.faults net_now.faults) (net_well : net_failed ≡ false → net_now.faults ≡ before.faults)
      (folder_so : folder_failed ≡ true → HasRisen first.faults folder_now.faults) (folder_well : folder_failed ≡ false → folder_now.faults ≡ first.faults) where
    abbrev ended : Option TraceEnd
    ended = account.outcome.trace.end

    abbrev pub any_net : Bool
    any_net = failed || net_failed

    abbrev pub any_folder : Bool
    any_folder = (has_failed ended || folder_failed) || some_end has_failed ends

    abbrev pub any_spent : Bool
    any_spent = (is_spent ended || false) || some_end is_spent ends

    abbrev pub any_memory : Bool
    any_memory = (has_no_memory ended || (wanted || (unserved account.events || unheard account.events))) || some_end has_no_memory ends

    net_by : any_net ≡ true → HasRisen before.faults net_now.faults
    net_by some = elim (either failed net_failed some) [ inl is ↦ net_rose is | inr is ↦ net_so is ]

    has_failed_so : has_failed ended ≡ true → ended ≡ Some end.Failed
    has_failed_so is = by ended is where
      by : (e : Option TraceEnd) → has_failed e ≡ true → e ≡ Some end.Failed
      by None bad = absurd (cc bad)
      by (Some end.Failed) bad = refl
      by (Some end.Spent) bad = absurd (cc bad)
      by (Some end.NoMemory) bad = absurd (cc bad)

    is_spent_so : is_spent ended ≡ true → ended ≡ Some end.Spent
    is_spent_so is = by ended is where
      by : (e : Option TraceEnd) → is_spent e ≡ true → e ≡ Some end.Spent
      by None bad = absurd (cc bad)
      by (Some end.Failed) bad = absurd (cc bad)
      by (Some end.Spent) bad = refl
      by (Some end.NoMemory) bad = absurd (cc bad)

    folder_by : any_folder ≡ true → HasRisen first.faults last.faults
    folder_by some = elim (either (has_failed ended || folder_failed) (some_end has_failed ends) some) [
      | inl run ↦ elim (either (has_failed ended) folder_failed run) [
        | inl trace ↦ risen_later first.faults folder_now.faults last.faults (trace_rose (has_failed_so trace)) since
        | inr other ↦ risen_later first.faults folder_now.faults last.faults (folder_so other) since
      ]
      | inr filter ↦ risen_before first.faults folder_now.faults last.faults never_fell (filter_so filter)
    ]

    folder_none : any_folder ≡ false → last.faults ≡ first.faults
    folder_none none =
        let parts = neither (has_failed ended || folder_failed) (some_end has_failed ends) none in
        filter_well parts.1 ∙ folder_well (neither (has_failed ended) folder_failed parts.0).1

    spent_by : any_spent ≡ true → IsOutOfNames account ends
    spent_by some = elim (either (is_spent ended || false) (some_end is_spent ends) some) [
      | inl run ↦ elim (either (is_spent ended) false run) [ inl trace ↦ inl (is_spent_so trace) | inr none ↦ absurd (cc none) ]
      | inr filter ↦ inr filter
    ]

    spent_none : any_spent ≡ false → HasNames account ends
    spent_none none =
        let parts = neither (is_spent ended || false) (some_end is_spent ends) none in
        (λ is. no_more (ap is_spent is) (neither (is_spent ended) false parts.0).0, parts.1)

    memory_none : any_memory ≡ false → (has_no_memory ended ≡ false) × (some_end has_no_memory ends ≡ false) × (wanted ≡ false) × (unserved account.events ≡ false) × (unheard account.events ≡ false)
    memory_none none =
        let parts = neither (has_no_memory ended || (wanted || (unserved account.events || unheard account.events))) (some_end has_no_memory ends) none in
        let run = neither (has_no_memory ended) (wanted || (unserved account.events || unheard account.events)) parts.0 in
        let calls = neither wanted (unserved account.events || unheard account.events) run.1 in
        let requests = neither (unserved account.events) (unheard account.events) calls.1 in
        (run.0, parts.1, calls.0, requests.0, requests.1)

    pub known : KnownOf begun account ends (told first before out) (told last net_now out_now) any_net any_folder any_spent any_memory
    known = record {
      net_failed = net_by;
      net_well = λ none. net_well (neither failed net_failed none).1;
      folder_failed = folder_by;
      folder_well = folder_none;
      trace_failed = λ none is. no_more (ap has_failed is) (neither (has_failed ended) folder_failed (neither (has_failed ended || folder_failed) (some_end has_failed ends) none).0).0;
      filter_failed = λ none. (neither (has_failed ended || folder_failed) (some_end has_failed ends) none).1;
      are_spent = spent_by;
      has_names = spent_none;
      trace_wanted = λ none is. no_more (ap has_no_memory is) (memory_none none).0;
      filter_wanted = λ none. (memory_none none).1;
      served = λ none. ((memory_none none).3, (memory_none none).4);
      launched = λ none. launched_all (neither failed net_failed none).0;
      all_came = λ none memory. all_came (neither failed net_failed none).0 (memory_none memory).2;
    }

    -- these are all failures
    same_failures : with_storage ends (failures_with account (failed_so any_net folder_failed wanted))
        ≡ record { net = any_net; folder = any_folder; names_spent = any_spent; journal_full = false; output = false; memory = any_memory }
    same_failures = ap (with_storage ends) (by_cause ended (failed_so any_net folder_failed (wanted || (unserved account.events || unheard account.events))))

    -- so it ends as the status says that is found as its report is written
    pub ends_so : (status : Status) → Finishes (report begun account ends) (with_storage ends (failures_with account (failed_so any_net folder_failed wanted))) out out_now status
        → EndsStored begun account ends (told first before out) (told last net_now out_now) status
    ends_so status finishes =
        ended_so begun account ends (told first before out) (told last net_now out_now)
        (record { net = any_net; folder = any_folder; names_spent = any_spent; journal_full = false; output = false; memory = any_memory }) status refl known
        (subst (λ (f : Failures). Finishes (report begun account ends) f out out_now status) same_failures finishes)
