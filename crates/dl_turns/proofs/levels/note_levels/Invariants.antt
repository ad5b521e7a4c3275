use Rattle.std.proofs.Common.{◌≡◌, ◌≤◌, ◌+◌, ◌-◌}
use Rattle.dl_outside.specs.Told.{FolderTold}
use Rattle.dl_core.specs.Admission.{more_noted}
use Rattle.dl_core.specs.Waiting.{waiting}
use Rattle.dl_turns.specs.Events.{HaveSetLevels, IsDeskOf}
use Rattle.dl_turns.specs.State.{Side, side}
use Rattle.dl_turns.proofs.LevelWords.{OnlyRegistry}
use Rattle.dl_turns.proofs.levels.note_levels.Given as goal

-- what notes the rest, notes all
abbrev pub invariant-loop : goal.invariant-loop
invariant-loop g l = record {
  rest : (folder : FolderTold) (new : Side) → HaveSetLevels (side l.core (g.D.WriterControl.told l.desk) (g.J.Journal.events l.journal) folder) new
      → HaveSetLevels (side l.fn.core (g.D.WriterControl.told l.fn.desk) (g.J.Journal.events l.fn.journal) folder) new;
  core : OnlyRegistry l.fn.core l.core;
  desk : IsDeskOf l.core.registry (g.D.WriterControl.told l.desk);
  room : waiting l.core.registry ≤ g.J.Journal.spare l.journal;
  spare : g.J.Journal.spare l.journal + waiting l.fn.core.registry ≡ g.J.Journal.spare l.fn.journal + waiting l.core.registry;
  fewer : waiting l.core.registry ≤ waiting l.fn.core.registry;
  noted : g.J.Journal.noted l.journal ≡ more_noted (waiting l.fn.core.registry - waiting l.core.registry) (g.J.Journal.noted l.fn.journal);
  apps : (g.D.WriterControl.told l.desk).apps ≡ (g.D.WriterControl.told l.fn.desk).apps;
  first : (g.D.WriterControl.told l.desk).first ≡ (g.D.WriterControl.told l.fn.desk).first;
  same : g.D.WriterControl.same_rest l.fn.desk l.desk;
}

abbrev pub decreases-loop : goal.decreases-loop
decreases-loop g l = waiting l.core.registry
