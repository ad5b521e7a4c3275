-- What input, folder and output tell before and after, and what was done with them.
use Rattle.dl_outside.specs.Told.{SourceTold, FolderTold, SinkTold}

-- all that a run reads and writes
pub record Told : Type 0 where
  pub input : SourceTold
  pub folder : FolderTold
  pub out : SinkTold

-- what a run reads and writes, by its parts
abbrev pub told : SourceTold → FolderTold → SinkTold → Told
told input folder out = record { input = input; folder = folder; out = out }
