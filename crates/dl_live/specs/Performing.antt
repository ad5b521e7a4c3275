-- What a run comes to that began.
use Rattle.std.specs.Prelude.{◌≡◌, ℕ, Option, Some, None}
use Rattle.dl_core.specs.State.{Core}
use Rattle.dl_core.specs.Files as folders
use Rattle.dl_core.specs.Files.{Leaves}
use Rattle.dl_account.specs.State.{AccountState}
use Rattle.dl_outside.specs.Folder.{Files}
use Rattle.dl_outside.specs.Links.{Links}
use Rattle.dl_outside.specs.Outside.{HasRisen, Stays}
use Rattle.dl_outside.specs.Told.{FolderTold, LinkTold, NetTold}
use Rattle.dl_outside.specs.declared.net.NetFault as fault
use Rattle.dl_outside.specs.declared.net.NetFault.TheVariants as net
use Rattle.dl_outside.specs.Written.{WroteNothing}
use Rattle.dl_storage.specs.Storing.{ChangesFiltersFiles}
use Rattle.dl_storage.specs.declared.ends.StoreEnds.{StoreEnds}
use Rattle.dl_startup.specs.Setup.{IsBegun}
use Rattle.dl_startup.specs.Unchanged.{IsQuiet, IsUnchanged}
use Rattle.dl_startup.specs.declared.status.Status.{Status}
use Rattle.dl_startup.specs.declared.status.Status.TheVariants.{NetFault, OutOfMemory}
use Rattle.dl_live.specs.declared.beginning.Begun.{Begun}
use Rattle.dl_live.specs.declared.players.Players.{Players}
use Rattle.dl_live.specs.declared.program.Played.{Played}
use Rattle.dl_live.specs.Account.{IsComeTo}
use Rattle.dl_live.specs.Ends.{Ends}
use Rattle.dl_live.specs.Playing.{CanBePlayed, HasBeenPlayed, HasSetOut}
use Rattle.dl_live.specs.Program.{no_links}
use Rattle.dl_live.specs.Stored.{HasStored}
use Rattle.dl_live.specs.Told.{Told, told}

-- the status of a net that could not listen
abbrev pub status_of : fault.NetFault → Status
status_of net.Failed = NetFault
status_of net.OutOfMemory = OutOfMemory

-- why it came to no account: the net could not listen, and listens as before; or memory ran out
abbrev pub Fails : {L : Type 0} → Told L → Told L → Status → Type 0
Fails old new NetFault = HasRisen old.net.faults new.net.faults × Stays old.net.listens_on new.net.listens_on × IsUnchanged old.folder new.folder
Fails old new OutOfMemory = Unit {0}
Fails old new _ = ⊥

-- what it comes to
abbrev pub Performs : {L : Type 0} → (L → LinkTold) → Begun → Told L → Told L → Status → Option AccountState → Option StoreEnds → Links L → Type 0
Performs link_told begun old new status None stored links =
    Fails old new status × WroteNothing old.out new.out × (stored ≡ None) × (links ≡ no_links)
Performs link_told begun old new status (Some account) stored links =
    IsComeTo link_told begun old new account links × HasStored begun account old.folder new.folder stored × Ends begun account stored old new status

-- it was begun over what some folder told
abbrev pub HasBegun : Begun → Type 0
HasBegun begun = (files : Option Files) × IsBegun begun.conf files begun.trace

-- what it comes to, whatever the folder told before, if it was begun over that and the folder was left alone since
abbrev pub PerformsFrom : {L : Type 0} → (L → LinkTold) → Begun → Told L → Told L → Status → Option AccountState → Option StoreEnds → Links L → Type 0
PerformsFrom link_told begun old new status account stored links = (first : FolderTold) → IsBegun begun.conf first.files begun.trace → IsQuiet first old.folder
    → Performs link_told begun (told first old.net old.out) new status account stored links

-- no file of others changed while it was played, and then no other file but those of the filters
abbrev pub LeavesOthers : Begun → Option Files → Option Files → Type 0
LeavesOthers begun old new = (settled : Option Files) × folders.ChangesOwnFiles begun.trace old settled × ChangesFiltersFiles begun.filters settled new

-- no file of others changed, up to some later core
abbrev pub LeavesSome : Core → FolderTold → FolderTold → Type 0
LeavesSome core old new = (later : Core) × Leaves core later old new

-- Players that are under way played on to this: from wherever they had set out, the run was played.
abbrev pub PlaysOn : {L : Type 0} → (L → LinkTold) → Players L → ℕ → NetTold L → NetTold L → FolderTold → FolderTold → Played L → Type 0
PlaysOn {L} link_told p count net net_now folder folder_now played = (first : Players L) (before : NetTold L) (left : FolderTold) → CanBePlayed first
    → HasSetOut first p count before net left folder → HasBeenPlayed link_told first played.wanted played.failed before net_now left folder_now played.account played.links
