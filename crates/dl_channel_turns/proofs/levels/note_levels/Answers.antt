use Rattle.std.proofs.Common.{refl, arith}
use Rattle.dl_channel_turns.specs.State.{side}
use Rattle.dl_channel_turns.proofs.ToldLevels.{levels_next, levels_none}
use Rattle.dl_channel_turns.proofs.levels.note_levels.Goals as goal
use Rattle.dl_turns.proofs.LevelWords.{registry_both}

pub loop-init : goal.loop-init
loop-init g c = record { rest = λ folder new all. all; core = refl; room = c.requires.spare }

pub loop-smaller : goal.loop-smaller
loop-smaller g c = omega (arith, (c.note_level.ensures.spare c.loop-test.true).0)

pub loop-preserved : goal.loop-preserved
loop-preserved g c =
    let so = c.loop.invariant in
    let one = c.note_level.ensures in
    let fewer = one.spare c.loop-test.true in
    record {
      rest = λ folder new all.
          let next = one.tells c.loop-test.true folder in
          so.rest folder new (levels_next next.0 _ _ new next.1 all);
      core = registry_both c.args.core.now c.loop.core c.note_level.new.core so.core one.core;
      room = omega (arith, fewer.0, fewer.1, so.room);
    }

pub returns-clause-levels : goal.returns-clause-levels
returns-clause-levels g c = λ folder.
    let none = c.note_level.ensures.none c.loop-test.false in
    c.loop.invariant.rest folder _ (levels_none _ _ (λ i. side (none.1 i) (none.2 i) (g.J.Journal.events (none.3 i)) folder) none.0)

pub returns-clause-settled : goal.returns-clause-settled
returns-clause-settled g c = (c.note_level.ensures.none c.loop-test.false).0

pub returns-clause-core : goal.returns-clause-core
returns-clause-core g c = registry_both c.args.core.now c.loop.core c.note_level.new.core c.loop.invariant.core c.note_level.ensures.core
