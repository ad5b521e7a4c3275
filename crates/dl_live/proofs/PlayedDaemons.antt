-- The daemon of a run that was played, from its making to its stop.
use Rattle.std.proofs.Common.{◌≡◌, ℕ, ◌+◌, ◌≤◌, ◌<◌, Bool, List, [], ◌∷◌, ◌++◌, length, map, count_by, filter_map, Option, Some, inl, inr, refl, sym, ap, subst, ◌∙◌, append_assoc, arith}
use Rattle.std.specs.Prelude.{IfSome, cond}
use Rattle.std.specs.List.{AllByRecursion, flat_map}
use Rattle.std.specs.Option.{option_map_or}
use Rattle.std.proofs.lemmas.Bool.{cases_lt}
use Rattle.std.proofs.lemmas.List.Elements.{filter_map-append}
use Rattle.std.proofs.lemmas.List.Sums.{sum_by-append}
use Rattle.dl_bytes.specs.declared.conf.AppSpec.{AppSpec}
use Rattle.dl_bytes.specs.declared.item.Item.{Item}
use Rattle.dl_bytes.specs.declared.user.UserMsg.{UserMsg}
use Rattle.dl_core.specs.Admission.{GivesFrame, GivesFrames}
use Rattle.dl_core.specs.Follows.{IsAfter, Run}
use Rattle.dl_core.specs.State.{Core}
use Rattle.dl_desk.specs.Apps.{AppState}
use Rattle.dl_desk.specs.Lists.{At}
use Rattle.dl_desk.specs.Made.{IsLater}
use Rattle.dl_ending.specs.Ending.{IsAccountIn, claims_of}
use Rattle.dl_events.specs.declared.event.Event.{Event}
use Rattle.dl_events.specs.declared.event.Event.TheVariants as event
use Rattle.dl_account.specs.Known.{taken_of, told_as}
use Rattle.dl_account.specs.Settled.{refusals_of}
use Rattle.dl_account.specs.State.{AccountState}
use Rattle.dl_loop.specs.Holds.{Gives}
use Rattle.dl_loop.specs.Later.{GoesRound, IsOfRound}
use Rattle.dl_loop.specs.Scene.{scene, side_of}
use Rattle.dl_loop.specs.State.{DaemonState}
use Rattle.dl_loop.proofs.DeskRest.{later_both, same_later}
use Rattle.dl_message.specs.Frames.{log_message}
use Rattle.dl_model.specs.Journal.{is_connect}
use Rattle.dl_model.specs.TraceFiles.{StoredFile}
use Rattle.dl_model.specs.WholeAccounts.{IsAccounted, frame_of_record}
use Rattle.dl_opening.specs.Scenario.{apps, specs_of, writers}
use Rattle.dl_outside.specs.Links.{Links}
use Rattle.dl_outside.specs.Told.{FolderTold, LinkTold, NetTold}
use Rattle.dl_ring.specs.Items.{calls_in}
use Rattle.dl_ring.specs.declared.item.RingItem.{RingItem}
use Rattle.dl_ring.proofs.Items.{calls_in-append}
use Rattle.dl_rounds.specs.Greetings.{AreGreeted, IsOfGreeting, told_in}
use Rattle.dl_script_model.specs.declared.scenario.ScenarioLine.{ScenarioLine}
use Rattle.dl_settling.specs.Stopped.{IsOfStop}
use Rattle.dl_trace.specs.State as trace
use Rattle.dl_live.specs.declared.beginning.Begun.{Begun}
use Rattle.dl_live.specs.declared.players.Players.{Players}
use Rattle.dl_live.specs.Account.{run_of, setting}
use Rattle.dl_live.specs.Played.{IsGreeted}
use Rattle.dl_live.specs.Playing.{ArePlayersOf, HasBeenPlayed}
use Rattle.dl_live.proofs.Introductions.{all_told}

-- ---- events by their kind

no_messages_in_rounds : (events : List Event) → AllByRecursion IsOfRound events → filter_map told_in events ≡ []
no_messages_in_rounds [] are = refl
no_messages_in_rounds (event.User channel msg moment ∷ events) are = absurd are.0
no_messages_in_rounds (event.Log app writer call moment ∷ events) are = no_messages_in_rounds events are.1
no_messages_in_rounds (event.Claim claim moment ∷ events) are = no_messages_in_rounds events are.1
no_messages_in_rounds (event.Lost app count moment ∷ events) are = no_messages_in_rounds events are.1
no_messages_in_rounds (event.Level slot level ∷ events) are = no_messages_in_rounds events are.1
no_messages_in_rounds (event.Connect client ∷ events) are = no_messages_in_rounds events are.1
no_messages_in_rounds (event.Request client frame answer ∷ events) are = no_messages_in_rounds events are.1
no_messages_in_rounds (event.Close client cause ∷ events) are = no_messages_in_rounds events are.1

no_messages_at_the_stop : (events : List Event) → AllByRecursion IsOfStop events → filter_map told_in events ≡ []
no_messages_at_the_stop [] are = refl
no_messages_at_the_stop (event.User channel msg moment ∷ events) are = absurd are.0
no_messages_at_the_stop (event.Log app writer call moment ∷ events) are = no_messages_at_the_stop events are.1
no_messages_at_the_stop (event.Claim claim moment ∷ events) are = no_messages_at_the_stop events are.1
no_messages_at_the_stop (event.Lost app count moment ∷ events) are = no_messages_at_the_stop events are.1
no_messages_at_the_stop (event.Level slot level ∷ events) are = no_messages_at_the_stop events are.1
no_messages_at_the_stop (event.Connect client ∷ events) are = absurd are.0
no_messages_at_the_stop (event.Request client frame answer ∷ events) are = no_messages_at_the_stop events are.1
no_messages_at_the_stop (event.Close client cause ∷ events) are = no_messages_at_the_stop events are.1

none_connects_at_the_stop : (events : List Event) → AllByRecursion IsOfStop events → count_by is_connect events ≡ 0
none_connects_at_the_stop [] are = refl
none_connects_at_the_stop (event.User channel msg moment ∷ events) are = absurd are.0
none_connects_at_the_stop (event.Log app writer call moment ∷ events) are = none_connects_at_the_stop events are.1
none_connects_at_the_stop (event.Claim claim moment ∷ events) are = none_connects_at_the_stop events are.1
none_connects_at_the_stop (event.Lost app count moment ∷ events) are = none_connects_at_the_stop events are.1
none_connects_at_the_stop (event.Level slot level ∷ events) are = none_connects_at_the_stop events are.1
none_connects_at_the_stop (event.Connect client ∷ events) are = absurd are.0
none_connects_at_the_stop (event.Request client frame answer ∷ events) are = none_connects_at_the_stop events are.1
none_connects_at_the_stop (event.Close client cause ∷ events) are = none_connects_at_the_stop events are.1

none_connects_greeting : (events : List Event) → AllByRecursion IsOfGreeting events → count_by is_connect events ≡ 0
none_connects_greeting [] are = refl
none_connects_greeting (event.User channel msg moment ∷ events) are = none_connects_greeting events are.1
none_connects_greeting (event.Level slot level ∷ events) are = none_connects_greeting events are.1
none_connects_greeting (event.Log app writer call moment ∷ events) are = absurd are.0
none_connects_greeting (event.Claim claim moment ∷ events) are = absurd are.0
none_connects_greeting (event.Lost app count moment ∷ events) are = absurd are.0
none_connects_greeting (event.Connect client ∷ events) are = absurd are.0
none_connects_greeting (event.Request client frame answer ∷ events) are = absurd are.0
none_connects_greeting (event.Close client cause ∷ events) are = absurd are.0

connects_both : (one two : List Event) → count_by is_connect (one ++ two) ≡ count_by is_connect one + count_by is_connect two
connects_both one two = sum_by-append (λ (e : Event). cond (is_connect e) 1 0) one two

nothing_mapped : (app : ℕ) (items : List RingItem) → map (told_as app) items ≡ [] → items ≡ []
nothing_mapped app [] none = refl
nothing_mapped app (item ∷ items) none = absurd cc

-- ---- the daemon

module _ {L : Type 0} (told : L → LinkTold) (begun : Begun) (p : Players L) (wanted failed : Bool) (net net_now : NetTold L) (folder folder_now : FolderTold)
    (account : AccountState) (links : Links L) (are : ArePlayersOf begun p) (been : HasBeenPlayed told p wanted failed net net_now folder folder_now account links)
    (goes : GoesRound been.launched_net net_now been.greeted been.rounded)
    (greeted : AreGreeted (flat_map (λ (a : AppState). a.hello) p.apps) (side_of (scene p.daemon folder)) (side_of been.greeted)) where
  abbrev lines : List ScenarioLine
  lines = begun.scenario

  abbrev first : DaemonState L
  first = p.daemon

  abbrev last : DaemonState L
  last = been.rounded.daemon

  pub greeting : List Event
  greeting = greeted.more

  begins_empty : first.journal.events ≡ []
  begins_empty = are.made.events

  greeted_events : been.greeted.daemon.journal.events ≡ greeted.more
  greeted_events =
      let so : Some been.greeted.daemon.journal.events ≡ Some (first.journal.events ++ greeted.more) = greeted.events in
      let one : been.greeted.daemon.journal.events ≡ first.journal.events ++ greeted.more = cc so in
      one ∙ ap (λ (es : List Event). es ++ greeted.more) begins_empty

  -- what came behind the greeting
  abbrev others : List Event
  others = goes.more ++ been.stops.stopped.more

  pub all_events : account.events ≡ greeted.more ++ others
  all_events = been.stops.stopped.events ∙ ap (λ (es : List Event). es ++ been.stops.stopped.more) (goes.later.events ∙ ap (λ (es : List Event). es ++ goes.more) greeted_events)
      ∙ append_assoc greeted.more goes.more been.stops.stopped.more

  pub is_greeted : IsGreeted lines account.events
  is_greeted = record {
    greeting = greeted.more;
    others = others;
    parts = all_events;
    of_greeting = greeted.of_greeting;
    told = greeted.told ∙ ap (λ (all : List AppState). flat_map (λ (a : AppState). a.hello) all) are.opened.applications ∙ all_told lines (writers lines) 0 (apps lines);
    no_more = filter_map-append told_in goes.more been.stops.stopped.more ∙ ap (λ (ms : List UserMsg). ms ++ filter_map told_in been.stops.stopped.more) (no_messages_in_rounds goes.more goes.of_round)
        ∙ no_messages_at_the_stop been.stops.stopped.more been.stops.stopped.of_stop;
  }

  -- as many links as clients connected
  pub as_many : length links.links ≡ count_by is_connect account.events
  as_many =
      let parts = ap (count_by is_connect) all_events ∙ connects_both greeted.more others in
      let behind = connects_both goes.more been.stops.stopped.more in
      let none = none_connects_greeting greeted.more greeted.of_greeting in
      let none_later = none_connects_at_the_stop been.stops.stopped.more been.stops.stopped.of_stop in
      let kept : length been.greeted.daemon.links.links ≡ 0 = ap (λ (d : DaemonState L). length d.links.links) been.greets.rest ∙ ap (λ (l : Links L). length l.links) are.made.links in
      let came = goes.later.connects in
      let many = been.stops.stopped.many in
      omega (arith, parts, behind, none, none_later, kept, came, many)

  -- ---- what it was made of

  pub same_core : last.first_core ≡ first.core
  same_core = goes.later.first_core ∙ ap (λ (d : DaemonState L). d.first_core) been.greets.rest ∙ are.made.first_core

  pub same_desk : last.first_desk ≡ first.desk
  same_desk = goes.later.first_desk ∙ ap (λ (d : DaemonState L). d.first_desk) been.greets.rest ∙ are.made.first_desk

  pub same_calls : last.calls ≡ first.calls
  same_calls = goes.later.calls ∙ ap (λ (d : DaemonState L). d.calls) been.greets.rest

  pub later : IsLater first.desk last.desk
  later = later_both first.desk been.greeted.daemon.desk last.desk (same_later first.desk been.greeted.daemon.desk been.greets.desk) goes.later.desk

  pub applications : account.apps ≡ specs_of lines
  applications = been.stops.stopped.apps ∙ later.apps ∙ are.opened.desk.apps

  pub dropped : account.outcome.dropped ≡ last.dropped
  dropped = been.stops.stopped.dropped

  -- ---- the run

  module _ (stood : List StoredFile) (stood_so : IfSome begun.trace (trace.IsAfter stood []))
      (framed : (app : ℕ) → app < length account.apps
      → AllByRecursion (λ (item : Item). frame_of_record begun.conf.ecu (map (λ b. b.records) account.books) item.writer item.call ≡ log_message begun.conf.ecu item) (calls_in (taken_of account.handles app))) where
    abbrev run : Run
    run = run_of begun stood account

    none_beyond : (app : ℕ) → length account.apps ≤ app → taken_of account.handles app ≡ []
    none_beyond app beyond =
        let told_by = been.stops.stopped.told_by in
        nothing_mapped app (taken_of account.handles app) (sym (told_by.admitted app) ∙ (told_by.alone app beyond).0)

    frames : (app : ℕ) → GivesFrames (calls_in (taken_of account.handles app)) run
    frames app = elim (cases_lt app (length account.apps)) [
      | inl within ↦ framed app within
      | inr beyond ↦ subst (λ (items : List RingItem). GivesFrames (calls_in items) run) (sym (none_beyond app beyond)) tt
    ]

    pub gives : Gives run last.first_core account.apps account.handles
    gives = record {
      begins = subst (λ (core : Core). IsAfter run [] (λ _. []) core) (sym same_core) (are.begins run refl refl stood_so);
      frames = frames;
      apids = λ app spec there. ap (λ (o : Option AppSpec). option_map_or (λ (s : AppSpec). s.apid) o []) there;
    }

    -- what the account is
    pub is_account : IsAccounted account.handles.levels.first account.events (λ app. 0) (refusals_of account.books) (claims_of account) (map (λ b. b.records) account.books) → IsAccountIn (setting begun) account
    is_account accounted = record {
      formed = (been.stops.stopped.runs run gives).formed;
      accounted = subst (λ (n : ℕ). IsAccounted n account.events (λ app. 0) (refusals_of account.books) (claims_of account) (map (λ b. b.records) account.books)) been.stops.stopped.told_by.first accounted;
    }

    first_all : {A : Type 0} (P : A → Type 0) (xs ys : List A) → AllByRecursion P (xs ++ ys) → AllByRecursion P xs
    first_all P [] ys all = tt
    first_all P (x ∷ xs) ys all = (all.0, first_all P xs ys all.1)

    -- before the stop the run gave what was taken by then
    pub gives_before : Gives run last.first_core last.desk.apps last.desk.handles
    gives_before = record {
      begins = gives.begins;
      frames = λ app.
          let more = been.stops.stopped.taken app in
          first_all (λ item. GivesFrame item run) (calls_in (taken_of last.desk.handles app)) (calls_in more.0)
          (subst (λ (items : List Item). GivesFrames items run) (ap calls_in more.1 ∙ calls_in-append (taken_of last.desk.handles app) more.0) (gives.frames app));
      apids = subst (λ (specs : List AppSpec). (app : ℕ) → At specs app (λ spec. run.apid app ≡ spec.apid)) been.stops.stopped.apps gives.apids;
    }
