use Rattle.std.proofs.Common.{◌≡◌, Ok, None, ap, ◌∙◌, arith}
use Rattle.dl_registry.specs.Kept.{Kept}
use Rattle.dl_channel_turns.specs.Levels.{answer_to, answered}
use Rattle.dl_channel_turns.proofs.ToldLevels.{answers_none, answers_owed}
use Rattle.dl_channel_turns.proofs.levels.answer.Goals as goal
use Rattle.dl_turns.proofs.LevelWords.{registry_both}

pub returns-then-note_level-clause-levels : goal.returns-then-note_level-clause-levels
returns-then-note_level-clause-levels g c = λ folder.
    let next = c.note_level.ensures.tells c.if-note_level.true folder in
    answers_owed c.args.channel c.args.registered c.args.outboxes.now (g.J.Journal.events c.args.journal.now) folder c.args.core.now next.0 _ _ next.1 (c.note_levels.ensures.levels folder)

pub returns-then-note_level-clause-core : goal.returns-then-note_level-clause-core
returns-then-note_level-clause-core g c = registry_both c.args.core.now c.note_level.new.core c.note_levels.new.core c.note_level.ensures.core c.note_levels.ensures.core

pub returns-else-note_level-clause-levels : goal.returns-else-note_level-clause-levels
returns-else-note_level-clause-levels g c = λ folder.
    let none = c.note_level.ensures.none c.if-note_level.false in
    answers_none c.args.channel c.args.registered c.args.outboxes.now (g.J.Journal.events c.args.journal.now) folder c.args.core.now c.note_level.new.core c.answer.new.self c.note_level.new.outboxes
    (g.J.Journal.events c.note_level.new.journal) none.0 none.1 none.2 (ap g.J.Journal.events none.3)
    (c.answer.ensures ∙ ap (λ (k : Kept). answered c.args.channel (answer_to c.args.registered (Ok k.registry) None) c.note_level.new.outboxes) c.registry.ensures)
