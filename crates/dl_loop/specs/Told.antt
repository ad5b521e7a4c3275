-- What a journal tells of the programs that log: what was taken of their rings, reported of their losses and set of their levels.
use Rattle.std.specs.Prelude.{◌≡◌, ℕ, ◌≤◌, List, [], map}
use Rattle.std.specs.List.{filter_map}
use Rattle.dl_events.specs.declared.event.Event.{Event}
use Rattle.dl_cells.specs.Losses.{reported_of}
use Rattle.dl_model.specs.Accounts.{takes}
use Rattle.dl_model.specs.Report.{reported}
use Rattle.dl_desk.specs.Handles.{HandlesState}
use Rattle.dl_account.specs.Known.{taken_of, told_as}
use Rattle.dl_turns.specs.Later.{level_in}

-- Of each application the journal has the calls and claims that were taken of its ring, in order, and tells the losses that were reported; of no
-- number beyond these applications it says anything. Each slot begins at version 0, and the Level events are the levels that were set.
pub record IsToldBy (events : List Event) (apps : ℕ) (handles : HandlesState) : Type 0 where
  pub admitted : (app : ℕ) → takes app events ≡ map (told_as app) (taken_of handles app)
  pub losses : (app : ℕ) → reported app events ≡ reported_of app handles.losses.reported
  pub alone : (app : ℕ) → apps ≤ app → (takes app events ≡ []) × (reported app events ≡ 0)
  pub first : handles.levels.first ≡ 0
  pub levels : handles.levels.sets ≡ filter_map level_in events
