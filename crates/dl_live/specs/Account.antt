-- A run that began, and the account that it came to.
use Rattle.std.specs.Prelude.{◌≡◌, ℕ, ◌+◌, ◌<◌, List, [], length, map, count_by, Some, ◌≢◌, None, IfSome}
use Rattle.dl_core.specs.Follows.{Run}
use Rattle.dl_core.specs.Settings.{setting_of}
use Rattle.dl_ending.specs.Ending.{IsAccountIn, records_of}
use Rattle.dl_account.specs.Settled.{IsJournalOf, IsSettled}
use Rattle.dl_account.specs.State.{AccountState}
use Rattle.dl_model.specs.Journal.{is_connect}
use Rattle.dl_model.specs.Setting.{Setting}
use Rattle.dl_model.specs.TraceFiles.{StoredFile}
use Rattle.dl_model.specs.WholeAccounts.{apid_in, frame_of_record}
use Rattle.dl_outside.specs.Links.{Links}
use Rattle.dl_outside.specs.Told.{FolderTold, LinkTold, NetTold}
use Rattle.dl_settling.specs.Went.{TellBytes}
use Rattle.dl_trace.specs.InFolder.{HasFiles}
use Rattle.dl_turns.specs.Gone.{TellTheEnd}
use Rattle.dl_words.specs.Run as words
use Rattle.dl_live.specs.declared.beginning.Begun.{Begun}
use Rattle.dl_live.specs.Begin.{IsStart}
use Rattle.dl_live.specs.Clients.{AreServed, IsNetAfter}
use Rattle.dl_live.specs.Folder.{IsFolderAfter, IsTraced, no_trace}
use Rattle.dl_live.specs.Injected.{IsInjected}
use Rattle.dl_live.specs.Played.{IsOfScenario}
use Rattle.dl_live.specs.Told.{Told}

-- what a run began with: what the words ask for, and what the folder says
pub record Started (said : List (List ℕ)) (old : FolderTold) : Type 0 where
  pub asked : words.Run
  pub is_asked : words.run_of said ≡ Some asked
  pub begun : Begun
  pub between : FolderTold
  pub start : IsStart asked old between begun

-- what does not change in it
abbrev pub setting : Begun → Setting
setting begun = setting_of begun.conf begun.stored 0

-- the run that its account tells of, where these trace files stood before
abbrev pub run_of : Begun → List StoredFile → AccountState → Run
run_of begun stood account = record {
  setting = setting begun;
  frame = frame_of_record begun.conf.ecu (records_of account);
  apid = apid_in account.apps;
  stood = stood;
  before = 0;
  head = [];
}

-- how many links the daemon was given: one for each client that connected, and those that were dropped
abbrev pub came : AccountState → ℕ
came account = count_by is_connect account.events + account.outcome.dropped

-- The account of a run that began so, with the links of its clients. Its journal is well-formed, and its records account for it: with no loss
-- pending, and with all that was taken, reported and set. It is of the scenario; its clients were served; and what the net and the folder tell is
-- what its events made of them.
pub record IsPlayedOut {L : Type 0} (link_told : L → LinkTold) (begun : Begun) (net net_now : NetTold L) (folder folder_now : FolderTold) (account : AccountState) (links : Links L) : Type 0 where
  pub is_account : IsAccountIn (setting begun) account
  pub settled : IsSettled account
  pub journal : IsJournalOf account.events account
  pub scenario : IsOfScenario begun.scenario account
  pub injected : (app : ℕ) → app < length account.apps → IsInjected (setting begun) account app
  pub net_after : IsNetAfter begun.port begun.scenario (count_by is_connect account.events) account.outcome.dropped net net_now
  pub stood : List StoredFile
  pub stood_so : begun.trace ≢ None → IfSome folder.files (λ files. HasFiles begun.conf.directory files stood)
  pub clients : AreServed (TellBytes link_told) (TellTheEnd link_told) (run_of begun stood account) account.events (map link_told links.links) account.outcome
  pub untraced : begun.conf.directory ≡ [] → account.outcome.trace ≡ no_trace
  pub folder_after : IsFolderAfter (setting begun) account.events account.outcome.trace.end folder folder_now

-- the same of a run, with the trace files that it leaves, beside those of its filters
pub record IsComeTo {L : Type 0} (link_told : L → LinkTold) (begun : Begun) (old new : Told L) (account : AccountState) (links : Links L) : Type 0 where
  pub played_out : IsPlayedOut link_told begun old.net new.net old.folder new.folder account links
  pub traced : 0 < length begun.conf.directory
      → IsTraced begun.filters (run_of begun played_out.stood account) account.events account.outcome.trace old.folder new.folder
