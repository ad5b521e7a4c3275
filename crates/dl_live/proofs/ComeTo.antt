-- What a run is come to that was played.
use Rattle.std.proofs.Common.{◌≡◌, ℕ, ◌+◌, ◌<◌, ◌≤◌, Bool, List, [], length, map, Option, Some, None, sym, ap, subst, ◌∙◌}
use Rattle.std.specs.Prelude.{All, IfSome}
use Rattle.std.specs.List.{AllByRecursion, range_with_len}
use Rattle.dl_bytes.specs.declared.conf.Conf.{Conf}
use Rattle.dl_crew.specs.Plays.{ArePairs, HasPlayed}
use Rattle.dl_crew.proofs.Pairs.{as_many, same_numbers, still_whole}
use Rattle.dl_ending.specs.Ending.{IsAccountIn}
use Rattle.dl_account.specs.Books.{books_of, registers_of}
use Rattle.dl_account.specs.Settled.{IsJournalOf}
use Rattle.dl_account.specs.State.{AccountState}
use Rattle.dl_account.proofs.Accounted.{accounted}
use Rattle.dl_account.proofs.InOrder.{all_of_ordered}
use Rattle.dl_account.proofs.OpenBooks.{stay_in_order}
use Rattle.dl_loop.specs.Later.{GoesRound}
use Rattle.dl_loop.specs.Scene.{scene, side_of}
use Rattle.dl_loop.proofs.GoneRounds.{goes_both}
use Rattle.dl_loop.proofs.ToldJournals.{told_journal}
use Rattle.dl_model.specs.TraceFiles.{StoredFile}
use Rattle.dl_opening.specs.Scenario.{writers}
use Rattle.dl_opening.specs.declared.opened.Opened.{Opened}
use Rattle.dl_opening.proofs.AskedCalls.{all_asked}
use Rattle.dl_opening.proofs.LeftPlaces.{places_left}
use Rattle.dl_opening.proofs.Playing.{opened_whole}
use Rattle.dl_outside.specs.Folder.{Files}
use Rattle.dl_outside.specs.Links.{Links}
use Rattle.dl_outside.specs.Told.{FolderTold, LinkTold, NetTold}
use Rattle.dl_rounds.specs.Greetings.{AreGreeted, hello_of}
use Rattle.dl_rounds.proofs.GreetedEvents.{greeted_each}
use Rattle.dl_script.specs.Playable.{IsRunnable}
use Rattle.dl_script_model.specs.declared.scenario.ScenarioLine.{ScenarioLine}
use Rattle.dl_startup.specs.Setup.{IsBegun}
use Rattle.dl_trace.specs.InFolder.{HasFiles}
use Rattle.dl_trace.specs.State as trace
use Rattle.dl_trace.specs.State.{Trace}
use Rattle.dl_writer.specs.State.{BookState, IsWhole, numbers}
use Rattle.dl_live.specs.declared.beginning.Begun.{Begun}
use Rattle.dl_live.specs.declared.players.Players.{Players}
use Rattle.dl_live.specs.Account.{run_of, setting}
use Rattle.dl_live.specs.Played.{HasPlayedAll, IsOfScenario}
use Rattle.dl_live.specs.Playing.{ArePlayersOf, HasBeenPlayed}
use Rattle.dl_live.proofs.FoundPlaces.{none_full}
use Rattle.dl_live.proofs.PlayedBooks.{all_books}
use Rattle.dl_live.proofs.PlayedDaemons as daemons
use Rattle.dl_live.proofs.TakenFrames.{taken_framed}
use Rattle.dl_desk.specs.QueuedInjections.{pushed_of, refusals_of}
use Rattle.dl_desk.specs.State.{DeskState}
use Rattle.dl_loop.specs.Made.{IsUntouched}
use Rattle.dl_loop.specs.State.{DaemonState, desk_told}
use Rattle.dl_loop.specs.Stops.{StopsIn}
use Rattle.dl_loop.proofs.DroppedLinks.{may_drop_after_rounds, may_drop_after_stop}
use Rattle.dl_model.specs.ClientEnds.{MayDrop}
use Rattle.dl_live.specs.Injected.{IsInjected}
use Rattle.dl_live.proofs.PostedInjections.{tells_injections}
use Rattle.dl_bytes.specs.declared.item.Item.{Item}
use Rattle.dl_account.specs.Known.{taken_of}
use Rattle.dl_loop.specs.Holds.{Gives}
use Rattle.dl_message.specs.Frames.{log_message}
use Rattle.dl_ring.specs.Items.{calls_in}
use Rattle.dl_model.specs.WholeAccounts.{frame_of_record}

-- the trace files that stood before a run
pub record HaveStood (conf : Conf) (files : Option Files) (kept : Option Trace) : Type 0 where
  pub stood : List StoredFile
  pub after : IfSome kept (trace.IsAfter stood [])
  pub told : IfSome kept (λ _. IfSome files (λ all. HasFiles conf.directory all stood))

what_stood : (conf : Conf) (files : Option Files) (kept : Option Trace) → IsBegun conf files kept → HaveStood conf files kept
what_stood conf files None begun = record { stood = []; after = tt; told = tt }
what_stood conf files (Some kept) begun = record { stood = begun.2.0; after = begun.2.1; told = begun.2.2 }

module _ {L : Type 0} (told : L → LinkTold) (begun : Begun) (p : Players L) (wanted failed : Bool) (net net_now : NetTold L) (folder folder_now : FolderTold)
    (account : AccountState) (links : Links L) (runnable : IsRunnable begun.scenario) (are : ArePlayersOf begun p) (files : Option Files) (begins : IsBegun begun.conf files begun.trace)
    (been : HasBeenPlayed told p wanted failed net net_now folder folder_now account links) where
  abbrev lines : List ScenarioLine
  lines = begun.scenario

  abbrev opened : Opened
  opened = record { desk = p.daemon.desk; apps = p.apps; plan = p.plan; books = p.books; scripts = p.scripts }

  pub goes : GoesRound been.launched_net net_now been.greeted been.rounded
  goes = goes_both been.launched_net been.gathered_net net_now been.greeted been.gathered been.rounded been.gathers.rounds.goes been.goes.goes

  pub greeted : AreGreeted (hello_of p.apps) (side_of (scene p.daemon folder)) (side_of been.greeted)
  greeted = greeted_each been.moment (hello_of p.apps) (side_of (scene p.daemon folder)) (side_of been.greeted) been.greets.greets

  -- ---- the books

  whole_books : All IsWhole been.books
  whole_books = still_whole p.plan.contexts p.plan.lines p.books been.books been.played (opened_whole lines opened are.opened)

  pub whole : All IsWhole account.books
  whole = all_of_ordered IsWhole been.books account.books been.stops.books_are whole_books

  numbered : numbers been.books ≡ range_with_len 1 (length been.books)
  numbered = same_numbers p.plan.contexts p.plan.lines p.books been.books been.played ∙ are.opened.books.numbered
      ∙ ap (range_with_len 1) (sym (as_many (HasPlayed p.plan.contexts p.plan.lines) p.books been.books been.played))

  pub same_books : account.books ≡ been.books
  same_books = stay_in_order been.books account.books numbered been.stops.books_are

  -- no place was wanting for a claim
  found : All (λ b. b.writer.table_full ≡ 0) been.books
  found = subst (All (λ (b : BookState). b.writer.table_full ≡ 0)) same_books
      (none_full account been.stops.settled
      (λ app. subst (λ (books : List BookState). All (λ b. registers_of app books + b.writer.base ≤ 64) (books_of app books)) (sym same_books)
      (places_left lines opened been.books runnable are.opened been.played app)))

  all_played : ArePairs (HasPlayedAll lines) (writers lines) account.books
  all_played = subst (ArePairs (HasPlayedAll lines) (writers lines)) (sym same_books)
      (all_books lines opened are.opened.same_lines are.opened.contexts (writers lines) p.books been.books (all_asked lines opened runnable are.opened) are.opened.books.each (opened_whole lines opened are.opened) been.played found)

  pub journal : IsJournalOf account.events account
  journal = told_journal account.events account been.stops.stopped.told_by

  pub is_of_scenario : IsOfScenario lines account
  is_of_scenario = record {
    applications = daemons.applications told begun p wanted failed net net_now folder folder_now account links are been goes greeted;
    greeted = daemons.is_greeted told begun p wanted failed net net_now folder folder_now account links are been goes greeted;
    numbered = been.stops.settled.numbered;
    played = all_played;
  }

  pub stood : HaveStood begun.conf files begun.trace
  stood = what_stood begun.conf files begun.trace begins

  pub is_account : IsAccountIn (setting begun) account
  is_account = daemons.is_account told begun p wanted failed net net_now folder folder_now account links are been goes greeted stood.stood stood.after
      (λ app within. taken_framed begun.conf.ecu account been.stops.settled whole app within) (accounted account.events account been.stops.settled whole journal)

  same_desk : been.rounded.daemon.first_desk ≡ p.daemon.desk
  same_desk = daemons.same_desk told begun p wanted failed net net_now folder folder_now account links are been goes greeted

  untouched : IsUntouched p.daemon.desk
  untouched = are.made.untouched

  framed : (app : ℕ) → app < length account.apps
      → AllByRecursion (λ (item : Item). frame_of_record begun.conf.ecu (map (λ b. b.records) account.books) item.writer item.call ≡ log_message begun.conf.ecu item) (calls_in (taken_of account.handles app))
  framed app within = taken_framed begun.conf.ecu account been.stops.settled whole app within

  pub gives : Gives (run_of begun stood.stood account) been.rounded.daemon.first_core account.apps account.handles
  gives = daemons.gives told begun p wanted failed net net_now folder folder_now account links are been goes greeted stood.stood stood.after framed

  pub gives_before : Gives (run_of begun stood.stood account) been.rounded.daemon.first_core been.rounded.daemon.desk.apps been.rounded.daemon.desk.handles
  gives_before = daemons.gives_before told begun p wanted failed net net_now folder folder_now account links are been goes greeted stood.stood stood.after framed

  pub stops_in : StopsIn told (run_of begun stood.stood account) been.rounded.daemon been.stops.stopped.last_core account links been.rounded.folder folder_now
  stops_in = been.stops.stopped.runs (run_of begun stood.stood account) gives

  -- ---- the clients

  nobody_yet : been.greeted.daemon.links.links ≡ []
  nobody_yet = ap (λ (d : DaemonState L). d.links.links) been.greets.rest ∙ ap (λ (ls : Links L). ls.links) are.made.links

  none_dropped : been.greeted.daemon.dropped ≡ 0
  none_dropped = ap (λ (d : DaemonState L). d.dropped) been.greets.rest ∙ are.made.dropped

  pub drops : MayDrop account.events account.outcome.dropped
  drops = may_drop_after_stop told been.rounded.daemon account links been.rounded.folder folder_now
      (may_drop_after_rounds been.launched_net net_now been.greeted been.rounded nobody_yet none_dropped goes) been.stops.stopped

  pub injected : (app : ℕ) → app < length account.apps → IsInjected (setting begun) account app
  injected app within = tells_injections (setting begun) account (desk_told been.rounded.daemon.first_desk) app been.stops.settled within
      (ap (λ (desk : DeskState). pushed_of desk.handles app) same_desk ∙ untouched.pushed app)
      (ap (λ (desk : DeskState). refusals_of desk.handles app) same_desk ∙ untouched.refusals app)
      (stops_in.posted app)
