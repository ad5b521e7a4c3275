use Rattle.std.proofs.Common.{◌-◌, refl, sym, ap, ◌∙◌, arith}
use Rattle.dl_core.specs.Admission.{more_noted}
use Rattle.dl_core.specs.State.{Core}
use Rattle.dl_core.specs.Waiting.{waiting}
use Rattle.dl_turns.specs.State.{side}
use Rattle.dl_turns.proofs.LevelWords.{levels_next, levels_none, noted_next, noted_none, registry_both}
use Rattle.dl_turns.proofs.levels.note_levels.Goals as goal

pub loop-init : goal.loop-init
loop-init g c = record {
  rest = λ folder new all. all;
  core = refl;
  desk = c.requires.desk;
  room = c.requires.spare;
  spare = refl;
  fewer = omega arith;
  noted = noted_none (waiting c.args.core.now.registry) (g.J.Journal.noted c.args.journal.now);
  apps = refl;
  first = refl;
  same = g.met.D.WriterControl.rest_refl c.args.desk.now;
}

pub loop-smaller : goal.loop-smaller
loop-smaller g c = omega (arith, (c.note_level.ensures.spare c.loop-test.true).0)

pub loop-preserved : goal.loop-preserved
loop-preserved g c =
    let so = c.loop.invariant in
    let one = c.note_level.ensures in
    let fewer = one.spare c.loop-test.true in
    record {
      rest = λ folder new all.
          let next = one.sets c.loop-test.true folder in
          so.rest folder new (levels_next next.0 _ _ new next.1 all);
      core = registry_both c.args.core.now c.loop.core c.note_level.new.core so.core one.core;
      desk = one.desk;
      room = omega (arith, fewer.0, fewer.1, so.room);
      spare = omega (arith, fewer.0, fewer.1, so.spare);
      fewer = omega (arith, fewer.0, so.fewer);
      noted = noted_next (waiting c.args.core.now.registry) (waiting c.loop.core.registry) (waiting c.note_level.new.core.registry) (g.J.Journal.noted c.args.journal.now)
          (g.J.Journal.noted c.loop.journal) (g.J.Journal.noted c.note_level.new.journal) so.fewer fewer.0 so.noted (one.noted c.loop-test.true);
      apps = one.apps ∙ so.apps;
      first = one.first ∙ so.first;
      same = g.met.D.WriterControl.rest_trans c.args.desk.now c.loop.desk c.note_level.new.desk so.same one.rest;
    }

pub returns-clause-levels : goal.returns-clause-levels
returns-clause-levels g c = λ folder.
    let none = c.note_level.ensures.none c.loop-test.false in
    c.loop.invariant.rest folder _ (levels_none _ _ (λ i. side (none.1 i) (g.D.WriterControl.told (none.2 i)) (g.J.Journal.events (none.3 i)) folder) none.0)

pub returns-clause-settled : goal.returns-clause-settled
returns-clause-settled g c = (c.note_level.ensures.none c.loop-test.false).0

pub returns-clause-core : goal.returns-clause-core
returns-clause-core g c = registry_both c.args.core.now c.loop.core c.note_level.new.core c.loop.invariant.core c.note_level.ensures.core

pub returns-clause-spare : goal.returns-clause-spare
returns-clause-spare g c =
    let none = c.note_level.ensures.none c.loop-test.false in
    let journal = ap g.J.Journal.spare none.3 in
    let registry = ap (λ (core : Core). waiting core.registry) none.1 in
    omega (arith, c.loop.invariant.spare, journal, registry)

pub returns-clause-noted : goal.returns-clause-noted
returns-clause-noted g c =
    let none = c.note_level.ensures.none c.loop-test.false in
    ap g.J.Journal.noted none.3 ∙ c.loop.invariant.noted
    ∙ ap (λ (core : Core). more_noted (waiting c.args.core.now.registry - waiting core.registry) (g.J.Journal.noted c.args.journal.now)) (sym none.1)

pub returns-clause-apps : goal.returns-clause-apps
returns-clause-apps g c = c.note_level.ensures.apps ∙ c.loop.invariant.apps

pub returns-clause-first : goal.returns-clause-first
returns-clause-first g c = c.note_level.ensures.first ∙ c.loop.invariant.first

pub returns-clause-rest : goal.returns-clause-rest
returns-clause-rest g c = g.met.D.WriterControl.rest_trans c.args.desk.now c.loop.desk c.note_level.new.desk c.loop.invariant.same c.note_level.ensures.rest
