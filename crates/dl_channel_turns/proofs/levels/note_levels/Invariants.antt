use Rattle.std.proofs.Common.{◌≤◌}
use Rattle.dl_outside.specs.Told.{FolderTold}
use Rattle.dl_core.specs.Waiting.{waiting}
use Rattle.dl_channel_turns.specs.Levels.{HaveToldLevels}
use Rattle.dl_channel_turns.specs.State.{Side, side}
use Rattle.dl_channel_turns.proofs.ToldLevels.{OnlyRegistry}
use Rattle.dl_channel_turns.proofs.levels.note_levels.Given as goal

-- what notes the rest, notes all
abbrev pub invariant-loop : goal.invariant-loop
invariant-loop g l = record {
  rest : (folder : FolderTold) (new : Side) → HaveToldLevels (side l.core l.outboxes (g.J.Journal.events l.journal) folder) new
      → HaveToldLevels (side l.fn.core l.fn.outboxes (g.J.Journal.events l.fn.journal) folder) new;
  core : OnlyRegistry l.fn.core l.core;
  room : waiting l.core.registry ≤ g.J.Journal.spare l.journal;
}

abbrev pub decreases-loop : goal.decreases-loop
decreases-loop g l = waiting l.core.registry
