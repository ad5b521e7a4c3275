-- What contracts see of the daemon's side of the library.
use Rattle.std.specs.Prelude.{ℕ, List}
use Rattle.dl_bytes.specs.declared.conf.AppSpec.{AppSpec}
use Rattle.dl_cells.specs.LevelStates.{ReaderState}
use Rattle.dl_cells.specs.LossStates as losses
use Rattle.dl_desk.specs.declared.app_handles.FirstHandles.{FirstHandles}
use Rattle.dl_desk.specs.Handles.{HandlesState}

-- The desk: the applications that it was made of, its handles, the first handles of which those of the writers are split, and
-- the application of each writer that was made, by the writers' numbers from 1.
pub record DeskState : Type 0 where
  pub apps : List AppSpec
  pub handles : HandlesState
  pub firsts : List FirstHandles
  pub readers : ReaderState
  pub counters : losses.WriterState
  pub owners : List ℕ
