use Rattle.std.proofs.Common.{◌≡◌, List, refl, subst, arith}
use Rattle.std.proofs.lemmas.Grind.{common_steps}
use Rattle.dl_bytes.specs.declared.user.UserMsg.{UserMsg}
use Rattle.dl_world.specs.Follows.{Does}
use Rattle.dl_world.proofs.Deeds.{does_nothing}
use Rattle.dl_core.proofs.LeftFiles.{leaves_alone, leaves_both}
use Rattle.dl_world.proofs.Telling.{tell_all, does_message}
use Rattle.dl_world.proofs.world.World.tell_each.Goals as goal

pub loop-msg-init : goal.loop-msg-init
loop-msg-init g c = record {
  all = search;
  does = does_nothing c.args.self.now _;
  leaves = leaves_alone c.args.self.now.core c.args.self.now.core _ refl;
}

pub loop-msg-preserved : goal.loop-msg-preserved
loop-msg-preserved g c = record {
  all = grind (arith, common_steps);
  does = does_message c.args.channel c.loop-msg.yielded c.in-Some.msg c.args.self.now c.loop-msg.self c.tell.new.self _ _ _ c.loop-msg.invariant.does c.in_ok-tell.ensures.does;
  leaves = leaves_both c.args.self.now.core c.loop-msg.self.core c.tell.new.self.core _ _ _ c.loop-msg.invariant.leaves c.in_ok-tell.ensures.leaves;
}

pub returns-in_err-tell-clause-leaves : goal.returns-in_err-tell-clause-leaves
returns-in_err-tell-clause-leaves g c = leaves_both c.args.self.now.core c.loop-msg.self.core c.tell.new.self.core _ _ _ c.loop-msg.invariant.leaves c.in_err-tell.ensures.leaves

pub returns-clause-does : goal.returns-clause-does
returns-clause-does g c =
    let all : c.loop-msg.yielded ≡ c.args.messages.items = grind (arith, common_steps) in
    subst (λ (messages : List UserMsg). Does (tell_all c.args.channel messages) c.args.self.now c.loop-msg.self (g.F.Folder.told c.args.folder.now)
    (g.F.Folder.told c.loop-msg.folder)) all c.loop-msg.invariant.does

pub returns-clause-leaves : goal.returns-clause-leaves
returns-clause-leaves g c = c.loop-msg.invariant.leaves
