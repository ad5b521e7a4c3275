-- What the program promises.
use Rattle.std.specs.Prelude.{◌≡◌, ◌≢◌, ℕ, ◌⊎◌, List, [], Option, Some, None, IsOk, IsSomeAnd}
use Rattle.dl_account.specs.State.{AccountState}
use Rattle.dl_outside.specs.Links.{Links}
use Rattle.dl_outside.specs.Outside.{HasRisen}
use Rattle.dl_outside.specs.Told.{FolderTold, LinkTold, SinkTold}
use Rattle.dl_outside.specs.Written.{Wrote, WroteNothing}
use Rattle.dl_startup.specs.Configuration.{AreSetUp}
use Rattle.dl_live.specs.Scenario.{scenario_in}
use Rattle.dl_startup.specs.Status.{number}
use Rattle.dl_startup.specs.declared.status.Status.{Status}
use Rattle.dl_startup.specs.declared.status.Status.TheVariants.{Ok, WordsRefused, OutOfMemory, NamesSpent}
use Rattle.dl_storage.specs.declared.ends.StoreEnds.{StoreEnds}
use Rattle.dl_words.specs.Run as words
use Rattle.dl_live.specs.declared.program.Ended.{Ended}
use Rattle.dl_live.specs.Account.{IsComeTo, Started}
use Rattle.dl_live.specs.Ends.{Ends, EndsEarly, report}
use Rattle.dl_live.specs.Filters.{filters_in}
use Rattle.dl_live.specs.Folder.{ChangesOwnFiles}
use Rattle.dl_live.specs.Status.{line_of}
use Rattle.dl_live.specs.Stored.{HasStored}
use Rattle.dl_live.specs.Told.{Told}

-- ---- what a run comes to

-- no links
abbrev pub no_links : {L : Type 0} → Links L
no_links = record { links = []; room = 0 }

-- a run began, and this is its account, and what its filters stored
pub record HasAccount {L : Type 0} (link_told : L → LinkTold) (said : List (List ℕ)) (old new : Told L) (account : AccountState) (stored : Option StoreEnds) (links : Links L) : Type 0 where
  pub it : Started said old.folder
  pub come_to : IsComeTo link_told it.begun old new account links
  pub has_stored : HasStored it.begun account old.folder new.folder stored

-- a run ended with this status: it came to no account, nothing was stored and nothing was written; or it came to one, and ended so
abbrev pub Outcome : {L : Type 0} → (L → LinkTold) → List (List ℕ) → Told L → Told L → Status → Option AccountState → Option StoreEnds → Links L → Type 0
Outcome link_told said old new status None stored links =
    EndsEarly said old new status × WroteNothing old.out new.out × (stored ≡ None) × (links ≡ no_links)
Outcome link_told said old new status (Some account) stored links =
    (has : HasAccount link_told said old new account stored links) × Ends has.it.begun account stored old new status

-- ---- what else

-- every file is as it was, but the trace files, those of the filters, and the stored configuration
abbrev pub ChangesNoOther : List (List ℕ) → FolderTold → FolderTold → Type 0
ChangesNoOther said old new = (asked : words.Run) → words.run_of said ≡ Some asked → ChangesOwnFiles asked old.files new.files

-- Nothing is said where all went well; else the status's line, whole, or its front, where standard error failed.
abbrev pub Says : Status → SinkTold → SinkTold → Type 0
Says status err err_now = (status ≡ Ok → WroteNothing err err_now) × (status ≢ Ok → Wrote err err_now (line_of status))

-- ---- completeness

-- what the words name, and what the folder has, is of the form, and nothing failed
pub record IsLawful {L : Type 0} (asked : words.Run) (old new : Told L) : Type 0 where
  pub confs : IsSomeAnd old.folder.files (AreSetUp asked.conf)
  pub filters : IsSomeAnd old.folder.files (λ files. IsOk (filters_in files))
  pub scenario : IsSomeAnd old.folder.files (λ files. IsOk (scenario_in asked.scenario files))
  pub keeps : ¬ (HasRisen old.folder.faults new.folder.faults)
  pub dials : ¬ (HasRisen old.net.faults new.net.faults)
  pub writes : ¬ (HasRisen old.out.faults new.out.faults)

-- ---- the whole

-- What a run of the program comes to: the words, what folder, net and output told before and after, what standard error told before and after, the
-- status, the account, what the filters stored, and the links of the clients.
pub record IsRun {L : Type 0} (link_told : L → LinkTold) (said : List (List ℕ)) (old new : Told L) (err err_now : SinkTold)
    (status : Status) (account : Option AccountState) (stored : Option StoreEnds) (links : Links L) : Type 0 where
  -- the words decide first, but that memory may run out
  pub words_refused : status ≡ WordsRefused → words.run_of said ≡ None
  pub words_decide : words.run_of said ≡ None → (status ≡ WordsRefused) ⊎ (status ≡ OutOfMemory)
  -- what the status says
  pub outcome : Outcome link_told said old new status account stored links
  -- what is written is the report of the account and of what the filters stored, or its front; or nothing is written
  pub written : WroteNothing old.out new.out
      ⊎ ((reported : AccountState) × (account ≡ Some reported) × (ends : StoreEnds) × (stored ≡ Some ends)
      × (it : Started said old.folder) × Wrote old.out new.out (report it.begun reported ends.filters))
  -- no other file changes
  pub others : ChangesNoOther said old.folder new.folder
  -- where all is of the form and nothing fails, the report was written whole, or a frame had no name for its file, or memory was wanted
  pub complete : (asked : words.Run) → words.run_of said ≡ Some asked → IsLawful asked old new
      → (status ≡ Ok) ⊎ (status ≡ NamesSpent) ⊎ (status ≡ OutOfMemory)
  -- the status's line is said, and nothing where all went well
  pub told : Says status err err_now

-- what a run comes to that ended so: the status is the number of one, and it is as said above
pub record HasRun {L : Type 0} (link_told : L → LinkTold) (said : List (List ℕ)) (old new : Told L) (err err_now : SinkTold) (ended : Ended L) : Type 0 where
  pub status : Status
  pub number_is : ended.status ≡ number status
  pub run : IsRun link_told said old new err err_now status ended.account ended.storage ended.links
