-- What must be there before serving: the words, the configurations and the trace; and why nothing is served.
use Rattle.std.specs.Prelude.{◌≡◌, ℕ, List, Option, Some, None, IfSome, Result, Ok, Err}
use Rattle.dl_bytes.specs.declared.conf.Conf.{Conf}
use Rattle.dl_outside.specs.Outside.{HasRisen}
use Rattle.dl_outside.specs.Told.{FolderTold}
use Rattle.dl_startup.specs.Configuration.{SayConfs, Unset}
use Rattle.dl_startup.specs.Setup.{IsBegun}
use Rattle.dl_startup.specs.Unchanged.{IsQuiet, IsUnchanged}
use Rattle.dl_startup.specs.declared.status.Status.{Status}
use Rattle.dl_startup.specs.declared.status.Status.TheVariants.{WordsRefused, FolderFault, OutOfMemory}
use Rattle.dl_trace.specs.State.{Trace}
use Rattle.dl_words.specs.Serve.{Serve, serve_of, serve_said}
use Rattle.dl_words.specs.declared.serve.ServeWords.{ServeWords}
use Rattle.dl_serve.specs.declared.beginning.Begun.{Begun}

-- ---- serving begins

-- What serving begins with is what was asked for and what the files say, and its trace is over the trace files that stand. No file was to change, and
-- the folder did not fail.
pub record IsStart (asked : Serve) (old new : FolderTold) (begun : Begun) : Type 0 where
  pub port : begun.port ≡ asked.port
  pub users : begun.users ≡ asked.users
  pub rounds : begun.rounds ≡ asked.rounds
  pub said : IfSome old.files (λ files. SayConfs asked.conf files (record { conf = begun.conf; stored = begun.stored }))
  pub trace : IsBegun begun.conf old.files begun.trace
  pub quiet : IsQuiet old new

-- ---- it does not

-- Why words serve nothing: one line a status. They are refused, and the folder is not asked; or memory ran out; or what they ask for has no
-- configurations, or no trace.
abbrev pub Refuses : List (List ℕ) → FolderTold → FolderTold → Status → Type 0
Refuses words old new WordsRefused = (serve_of words ≡ None) × (new ≡ old)
Refuses words old new OutOfMemory = IsQuiet old new
Refuses words old new status = (asked : Serve) × (serve_of words ≡ Some asked) × Unset asked.conf old new status

-- what words begin, or why they begin nothing
abbrev pub Begins : List (List ℕ) → FolderTold → FolderTold → Result Begun Status → Type 0
Begins words old new (Ok begun) = (asked : Serve) × (serve_of words ≡ Some asked) × IsStart asked old new begun
Begins words old new (Err status) = Refuses words old new status

-- ---- for inner functions

-- what the words ask for
abbrev pub Asks : List (List ℕ) → Result ServeWords Status → Type 0
Asks words (Ok asked) = serve_of words ≡ Some (serve_said asked)
Asks words (Err WordsRefused) = serve_of words ≡ None
Asks words (Err OutOfMemory) = Unit {0}
Asks words (Err _) = ⊥

-- the trace of a configuration, or why there is none
abbrev pub MakesTrace : Conf → FolderTold → FolderTold → Result (Option Trace) Status → Type 0
MakesTrace conf old new (Ok trace) = IsBegun conf old.files trace × IsQuiet old new
MakesTrace conf old new (Err FolderFault) = HasRisen old.faults new.faults × IsUnchanged old new
MakesTrace conf old new (Err OutOfMemory) = IsQuiet old new
MakesTrace conf old new (Err _) = ⊥

-- what is asked for is begun, or not
abbrev pub BeginsAs : Serve → FolderTold → FolderTold → Result Begun Status → Type 0
BeginsAs asked old new (Ok begun) = IsStart asked old new begun
BeginsAs asked old new (Err status) = Unset asked.conf old new status
