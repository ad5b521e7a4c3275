use Rattle.std.proofs.Common.{rules, arith, ◌≡◌, ◌∙◌, ◌+◌, suc, length, get_or, sym, ap}
use Rattle.dl_cells.specs.LossStates.{KeeperState}
use Rattle.dl_cells.specs.Losses.{counted_of}
use Rattle.dl_cells.proofs.LossSums.{counted-append}
use Rattle.test_threads.proofs.losses.gather.Goals as goal

pub loop-child-preserved : goal.loop-child-preserved
loop-child-preserved g c =
    let was = c.loop-child.invariant in let joined = c.join-in-loop-child.ensures in let steps = c.in-Some.ensures.steps in
    let table : c.join-in-loop-child.new.self.table ≡ c.args.keeper.now.table = ap (λ (k : KeeperState). k.table) joined ∙ ap (λ (k : KeeperState). k.table) was.state in
    let apps : c.join-in-loop-child.new.self.apps ≡ c.args.keeper.now.apps = ap (λ (k : KeeperState). k.apps) joined ∙ ap (λ (k : KeeperState). k.apps) was.state in
    let reported : c.join-in-loop-child.new.self.reported ≡ c.args.keeper.now.reported = ap (λ (k : KeeperState). k.reported) joined ∙ ap (λ (k : KeeperState). k.reported) was.state in
    let shares : c.join-in-loop-child.new.self.shares ≡ c.loop-child.keeper.shares + 1 = ap (λ (k : KeeperState). k.shares) joined ∙ ap (λ n. c.loop-child.keeper.shares + n + 1) c.join.ensures.2 ∙ (omega arith) in
    let sum = ap (λ (k : KeeperState). counted_of 0 k.counted) joined ∙ counted-append 0 c.loop-child.keeper.counted c.join.result.counted in
    let theirs = c.join.ensures.1 in let before = was.counted in
    record {
      state = λ i. record { table = table i; apps = apps i; counted = c.join-in-loop-child.new.self.counted; shares = c.join-in-loop-child.new.self.shares; reported = reported i };
      shares = search rules;
      counted = omega arith;
      same = λ k d below. let long = ap (λ hs. length hs) steps.0 in
          ap (λ hs. (get_or hs (suc k) d).promise.0.value.table) (sym steps.0) ∙ was.same (suc k) d (omega arith) ∙ sym (ap (λ (k : KeeperState). k.table) joined);
    }
