-- What the outside tells before and after serving.
use Rattle.dl_outside.specs.Told.{FolderTold, NetTold, SinkTold}

-- all that serving reads and writes, but standard error: the folder, the net of the clients and that of the programs, and the output
pub record Told (L : Type 0) : Type 0 where
  pub folder : FolderTold
  pub net : NetTold L
  pub users : NetTold L
  pub out : SinkTold

-- it, by its parts
abbrev pub told : {L : Type 0} → FolderTold → NetTold L → NetTold L → SinkTold → Told L
told folder net users out = record { folder = folder; net = net; users = users; out = out }

-- the same of a folder, two nets and an output, by what these tell
abbrev pub seen : {L F N O : Type 0} → (F → FolderTold) → (N → NetTold L) → (O → SinkTold) → F → N → N → O → Told L
seen folder_told net_told out_told folder net users out = told (folder_told folder) (net_told net) (net_told users) (out_told out)
