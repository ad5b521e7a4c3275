-- What the outside tells before and after a run.
use Rattle.dl_outside.specs.Told.{FolderTold, NetTold, SinkTold}

-- all that a run reads and writes, but standard error
pub record Told (L : Type 0) : Type 0 where
  pub folder : FolderTold
  pub net : NetTold L
  pub out : SinkTold

-- it, by its parts
abbrev pub told : {L : Type 0} → FolderTold → NetTold L → SinkTold → Told L
told folder net out = record { folder = folder; net = net; out = out }

-- the same of a folder, a net and an output, by what these tell
abbrev pub seen : {L F N O : Type 0} → (F → FolderTold) → (N → NetTold L) → (O → SinkTold) → F → N → O → Told L
seen folder_told net_told out_told folder net out = told (folder_told folder) (net_told net) (out_told out)
