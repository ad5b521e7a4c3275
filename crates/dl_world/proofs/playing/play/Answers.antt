use Rattle.std.proofs.Common.{◌<◌, ◌≤◌, length, take, List, refl, subst, arith}
use Rattle.dl_script_model.specs.declared.step.Step.{Step}
use Rattle.dl_world.specs.Follows.{Does}
use Rattle.dl_core.proofs.LeftFiles.{leaves_alone, leaves_both, changes_none, changes_since}
use Rattle.dl_world.proofs.Lines.{lines, no_lines, one_line, and_end, at_place, with_place, all_taken}
use Rattle.dl_world.proofs.Whole.{some_stood, next_comes, after_all, is_played, if_ok}
use Rattle.dl_world.proofs.playing.play.Goals as goal

pub returns-in_err-world-clause-others : goal.returns-in_err-world-clause-others
returns-in_err-world-clause-others g c = changes_none c.args.trace _

pub loop-step-init : goal.loop-step-init
loop-step-init g c = record {
  so_far = no_lines c.in_ok-world.world _;
  leaves = leaves_alone _ _ _ refl;
}

pub step-requires : goal.step-requires
step-requires g c =
    let k = c.loop-step.step-index in
    let xs = c.all-step-items.result.now in
    let below : k < length xs = omega arith in
    let stood = some_stood c.args.trace c.requires.stood in
    record {
      known = next_comes c.args.conf.now c.args.stored c.args.trace stood.0 c.in_ok-world.world c.in_ok-world.ensures.after stood.1
          c.args.steps.now k c.step-item.result c.loop-step.world _ _ c.requires.playable
          (at_place xs c.args.steps.now k c.step-item.result c.all-step-items.ensures below c.step-item.is) c.loop-step.invariant.so_far;
    }

pub returns-in_err-step-clause-others : goal.returns-in_err-step-clause-others
returns-in_err-step-clause-others g c =
    changes_since c.in_ok-world.world.core c.step.new.self.core c.args.trace _ _ c.in_ok-world.ensures.trace (leaves_both _ _ _ _ _ _ c.loop-step.invariant.leaves c.step.ensures.leaves)

pub loop-step-preserved : goal.loop-step-preserved
loop-step-preserved g c =
    let k = c.loop-step.step-index in
    let xs = c.all-step-items.result.now in
    let step = c.step-item.result in
    let below : k < length xs = omega arith in
    record {
      so_far = subst (λ (ss : List Step). Does (lines ss) c.in_ok-world.world c.step.new.self
          (g.F.Folder.told c.args.folder.now) (g.F.Folder.told c.step.new.folder))
          (with_place xs c.args.steps.now k step c.all-step-items.ensures below c.step-item.is)
          (one_line (take k c.args.steps.now) step c.in_ok-world.world c.loop-step.world c.step.new.self _ _ _ c.loop-step.invariant.so_far c.in_ok-step.ensures.does);
      leaves = leaves_both _ _ _ _ _ _ c.loop-step.invariant.leaves c.step.ensures.leaves;
    }

pub returns-in_err-end-clause-others : goal.returns-in_err-end-clause-others
returns-in_err-end-clause-others g c =
    changes_since c.in_ok-world.world.core c.end.new.self.core c.args.trace _ _ c.in_ok-world.ensures.trace (leaves_both _ _ _ _ _ _ c.loop-step.invariant.leaves c.end.ensures.leaves)

pub into_played-requires : goal.into_played-requires
into_played-requires g c =
    let k = c.loop-step.step-index in
    let xs = c.all-step-items.result.now in
    let over : length xs ≤ k = omega arith in
    let stood = some_stood c.args.trace c.requires.stood in
    let all = subst (λ (ss : List Step). Does (lines ss) c.in_ok-world.world c.loop-step.world
    (g.F.Folder.told c.args.folder.now) (g.F.Folder.told c.loop-step.folder))
    (all_taken xs c.args.steps.now k c.all-step-items.ensures over) c.loop-step.invariant.so_far in
    let whole_so = and_end c.args.steps.now c.in_ok-world.world c.loop-step.world c.end.new.self _ _
    (g.F.Folder.told c.end.new.folder) all c.in_ok-end.ensures.does in
    let goes = after_all c.args.conf.now c.args.stored c.args.trace stood.0 c.in_ok-world.world c.in_ok-world.ensures.after stood.1 c.args.steps.now c.end.new.self _ _ whole_so in
    record { came = omega (arith, goes.after.so_far.came_so) }

pub returns-clause-played : goal.returns-clause-played
returns-clause-played g c =
    let k = c.loop-step.step-index in
    let xs = c.all-step-items.result.now in
    let over : length xs ≤ k = omega arith in
    let all = subst (λ (ss : List Step). Does (lines ss) c.in_ok-world.world c.loop-step.world
    (g.F.Folder.told c.args.folder.now) (g.F.Folder.told c.loop-step.folder))
    (all_taken xs c.args.steps.now k c.all-step-items.ensures over) c.loop-step.invariant.so_far in
    let whole_so = and_end c.args.steps.now c.in_ok-world.world c.loop-step.world c.end.new.self _ _
    (g.F.Folder.told c.end.new.folder) all c.in_ok-end.ensures.does in
    let leaves = leaves_both _ _ _ _ _ _ c.loop-step.invariant.leaves c.end.ensures.leaves in
    if_ok c.into_played.result _ _
    (λ played left stood stood_so.
    is_played c.args.conf.now c.args.stored c.args.trace stood c.in_ok-world.world c.in_ok-world.ensures.after stood_so c.args.steps.now c.end.new.self _ _ whole_so
    c.in_ok-world.ensures.trace c.requires.trace leaves.same played left)
    c.into_played.ensures.leaves

pub returns-clause-others : goal.returns-clause-others
returns-clause-others g c =
    changes_since c.in_ok-world.world.core c.end.new.self.core c.args.trace _ _ c.in_ok-world.ensures.trace (leaves_both _ _ _ _ _ _ c.loop-step.invariant.leaves c.end.ensures.leaves)
