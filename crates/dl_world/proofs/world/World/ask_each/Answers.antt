use Rattle.std.proofs.Common.{◌≡◌, ℕ, List, refl, subst, arith}
use Rattle.std.proofs.lemmas.Grind.{common_steps}
use Rattle.dl_world.specs.Follows.{Does}
use Rattle.dl_world.proofs.Deeds.{does_nothing}
use Rattle.dl_core.proofs.LeftFiles.{leaves_alone, leaves_both}
use Rattle.dl_world.proofs.Receiving.{ask_all, does_asked}
use Rattle.dl_world.proofs.world.World.ask_each.Goals as goal

pub loop-frame-init : goal.loop-frame-init
loop-frame-init g c = record {
  all = search;
  does = does_nothing c.args.self.now _;
  leaves = leaves_alone c.args.self.now.core c.args.self.now.core _ refl;
}

pub loop-frame-preserved : goal.loop-frame-preserved
loop-frame-preserved g c = record {
  all = grind (arith, common_steps);
  does = does_asked c.args.client c.loop-frame.yielded c.in-Some.frame c.args.self.now c.loop-frame.self c.ask.new.self _ _ _ c.loop-frame.invariant.does c.in_ok-ask.ensures.does;
  leaves = leaves_both c.args.self.now.core c.loop-frame.self.core c.ask.new.self.core _ _ _ c.loop-frame.invariant.leaves c.in_ok-ask.ensures.leaves;
}

pub returns-in_err-ask-clause-leaves : goal.returns-in_err-ask-clause-leaves
returns-in_err-ask-clause-leaves g c = leaves_both c.args.self.now.core c.loop-frame.self.core c.ask.new.self.core _ _ _ c.loop-frame.invariant.leaves c.in_err-ask.ensures.leaves

pub returns-clause-does : goal.returns-clause-does
returns-clause-does g c =
    let all : c.loop-frame.yielded ≡ c.args.requests.items = grind (arith, common_steps) in
    subst (λ (requests : List (List ℕ)). Does (ask_all c.args.client requests) c.args.self.now c.loop-frame.self (g.F.Folder.told c.args.folder.now)
    (g.F.Folder.told c.loop-frame.folder)) all c.loop-frame.invariant.does

pub returns-clause-leaves : goal.returns-clause-leaves
returns-clause-leaves g c = c.loop-frame.invariant.leaves
