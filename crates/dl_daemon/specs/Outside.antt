-- What the outside tells before and after.
use Rattle.dl_outside.specs.Told.{FolderTold, NetTold}
use Rattle.dl_daemon.specs.declared.watch.Watched.{Watched}

-- all that a daemon reads and writes, but standard error and what its watch writes to: the folder, the net of the clients and that of the programs; and its watch
pub record Outside (L : Type 0) : Type 0 where
  pub folder : FolderTold
  pub net : NetTold L
  pub users : NetTold L
  pub watch : Watched

-- it, by its parts
abbrev pub outside : {L : Type 0} → FolderTold → NetTold L → NetTold L → Watched → Outside L
outside folder net users watch = record { folder = folder; net = net; users = users; watch = watch }

-- the same of a folder, two nets and a watch, by what these tell
abbrev pub seen : {L F N W : Type 0} → (F → FolderTold) → (N → NetTold L) → (W → Watched) → F → N → N → W → Outside L
seen folder_told net_told watched folder net users watch = outside (folder_told folder) (net_told net) (net_told users) (watched watch)
