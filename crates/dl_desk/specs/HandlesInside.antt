-- The fields of the daemon's handles, and what is true of them.
use Rattle.std.specs.Prelude.{◌≡◌, ℕ, ◌*◌, ◌^◌, ◌<◌, ◌≤◌, max, length}
use Rattle.dl_cells.specs.Losses.{reported_of}
use Rattle.dl_desk.specs.declared.handles.DaemonHandles.TheInside as handles
use Rattle.dl_desk.specs.Handles.{HandlesState}

abbrev pub handles_state : handles.Inside → HandlesState
handles_state e = record { apps = e.apps.items; levels = e.levels; losses = e.losses }

-- the words are made for at least one application
abbrev pub words_for : ℕ → ℕ
words_for apps = max 1 apps

-- there are words for all applications; no losses of other ones are reported, and of none as many as 2^47
pub record IsHandles (s : HandlesState) : Type 0 where
  pub few : length s.apps ≤ 16
  pub slots : s.levels.slots ≡ 64 * words_for (length s.apps)
  pub words : s.losses.apps ≡ words_for (length s.apps)
  pub reports : (app : ℕ) → length s.apps ≤ app → reported_of app s.losses.reported ≡ 0
  pub small : (app : ℕ) → reported_of app s.losses.reported < 2 ^ 47
