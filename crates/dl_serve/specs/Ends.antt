-- How serving ends: its statuses, one line each.
use Rattle.std.specs.Prelude.{◌≡◌, ◌≤◌, ◌⊎◌, ℕ, Bool, true, false, List, Some}
use Rattle.dl_outside.specs.Outside.{HasRisen}
use Rattle.dl_outside.specs.Told.{FolderTold, SinkTold}
use Rattle.dl_outside.specs.Written.{Wrote, WroteAll, WroteFront, WroteNothing}
use Rattle.dl_startup.specs.Unchanged.{IsUnchanged}
use Rattle.dl_startup.specs.declared.status.Status.{Status}
use Rattle.dl_startup.specs.declared.status.Status.TheVariants.{Ok, WriteFault, FolderFault, NetFault, OutOfMemory, NamesSpent, JournalFull}
use Rattle.dl_words.specs.Serve.{Serve, serve_of}
use Rattle.dl_serve.specs.declared.beginning.Begun.{Begun}
use Rattle.dl_serve.specs.declared.faults.Faults.{Faults}
use Rattle.dl_serve.specs.declared.closed.Closed.{Closed}
use Rattle.dl_serve.specs.Begin.{IsStart, Refuses}
use Rattle.dl_serve.specs.Closed.{has_wanted, is_spent, text_of}
use Rattle.dl_serve.specs.Open.{HasNotListened, IsHeard}
use Rattle.dl_serve.specs.Told.{Told}

-- what serving began with: what the words ask for, and what the folder says
pub record Started (said : List (List ℕ)) (old : FolderTold) : Type 0 where
  pub asked : Serve
  pub is_asked : serve_of said ≡ Some asked
  pub begun : Begun
  pub between : FolderTold
  pub start : IsStart asked old between begun

-- ---- without a closing

-- Why the closing was not made: one line a status. Nothing began, and the nets were left alone; or one of them could not listen, and listens as
-- before; or memory ran out.
abbrev pub EndsEarly : {L : Type 0} → List (List ℕ) → Told L → Told L → Status → Type 0
EndsEarly words old new NetFault =
    (it : Started words old.folder) × IsUnchanged old.folder new.folder
    × ((HasNotListened old.net new.net × (new.users ≡ old.users)) ⊎ (IsHeard it.begun.port old.net new.net × HasNotListened old.users new.users))
EndsEarly words old new OutOfMemory = Unit {0}
EndsEarly words old new status = Refuses words old.folder new.folder status × (new.net ≡ old.net) × (new.users ≡ old.users)

-- ---- with one

-- no count of a net's faults has risen
pub record NetsWell (before now : Faults) : Type 0 where
  pub net : now.net ≤ before.net
  pub users : now.users ≤ before.users

-- the count of faults of one of the nets has risen
abbrev pub NetsFailed : Faults → Faults → Type 0
NetsFailed before now = HasRisen before.net now.net ⊎ HasRisen before.users now.users

-- the folder's count of faults has not risen
abbrev pub FolderWell : Faults → Faults → Type 0
FolderWell before now = now.folder ≤ before.folder

-- Nothing went wrong: nets and folder did not fail, each frame had its file, the journal had room, and memory was never wanted.
pub record HasGoneWell {L : Type 0} (closed : Closed L) (full : Bool) (before now : Faults) : Type 0 where
  pub nets : NetsWell before now
  pub folder : FolderWell before now
  pub names : is_spent closed.state.trace.end ≡ false
  pub room : full ≡ false
  pub memory : has_wanted closed ≡ false

-- What each status says once the closing was made: the report was written, or nothing, and what failed. A net fault comes before a folder fault, that
-- before the names, these before a full journal, that before a write fault, and that before want of memory: so each says that those before it did not
-- come. Where there was no memory for the report itself, nothing was written, and nothing more is said.
abbrev pub Ends : {L : Type 0} → Closed L → Bool → Faults → Faults → SinkTold → SinkTold → Status → Type 0
Ends closed full before now out out_now Ok = WroteAll out out_now (text_of closed) × HasGoneWell closed full before now
Ends closed full before now out out_now NetFault = Wrote out out_now (text_of closed) × NetsFailed before now
Ends closed full before now out out_now FolderFault = Wrote out out_now (text_of closed) × NetsWell before now × HasRisen before.folder now.folder
Ends closed full before now out out_now NamesSpent =
    Wrote out out_now (text_of closed) × NetsWell before now × FolderWell before now × (is_spent closed.state.trace.end ≡ true)
Ends closed full before now out out_now JournalFull =
    Wrote out out_now (text_of closed) × NetsWell before now × FolderWell before now × (is_spent closed.state.trace.end ≡ false) × (full ≡ true)
Ends closed full before now out out_now WriteFault =
    WroteFront out out_now (text_of closed) × NetsWell before now × FolderWell before now × (is_spent closed.state.trace.end ≡ false) × (full ≡ false)
Ends closed full before now out out_now OutOfMemory =
    WroteNothing out out_now
    ⊎ (WroteAll out out_now (text_of closed) × NetsWell before now × FolderWell before now × (is_spent closed.state.trace.end ≡ false) × (full ≡ false)
    × (has_wanted closed ≡ true))
Ends closed full before now out out_now _ = ⊥
