-- What sets levels and injects tells of itself, and what each of its calls makes of that.
use Rattle.std.specs.Prelude.{ℕ, ◌+◌, ◌==◌, List, [], ◌∷◌, ◌++◌, if◌then◌else◌}
use Rattle.dl_bytes.specs.declared.item.Injection.{Injection}
use Rattle.dl_cells.specs.LevelHistory.{change}
use Rattle.dl_cells.specs.declared.level_history.Change.{Change}
use Rattle.dl_desk.specs.Handles.{HandlesState}
use Rattle.dl_desk.specs.QueuedInjections.{pushed_of, refusals_of}

-- How many applications there are, at which version each slot began, the levels that were set, and what the queue of each
-- application took and how many injections it refused.
pub record ControlTold : Type 0 where
  pub apps : ℕ
  pub first : ℕ
  pub sets : List Change
  pub pushed : ℕ → List Injection
  pub refusals : ℕ → ℕ

-- what the handles of so many applications tell
abbrev pub told_by : ℕ → HandlesState → ControlTold
told_by apps handles = record {
  apps = apps;
  first = handles.levels.first;
  sets = handles.levels.sets;
  pushed = pushed_of handles;
  refusals = refusals_of handles;
}

-- ---- what each call makes of it

-- one level more was set
abbrev pub with_set : ℕ → ℕ → ControlTold → ControlTold
with_set slot level told = record told { sets = told.sets ++ change slot level ∷ [] }

-- the queue of an application took one injection more
abbrev pub with_pushed : ℕ → Injection → ControlTold → ControlTold
with_pushed app item told = record told { pushed = λ other. if other == app then told.pushed other ++ item ∷ [] else told.pushed other }

-- it refused one more
abbrev pub with_refused : ℕ → ControlTold → ControlTold
with_refused app told = record told { refusals = λ other. if other == app then told.refusals other + 1 else told.refusals other }
