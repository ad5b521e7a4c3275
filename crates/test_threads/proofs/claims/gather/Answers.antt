use Rattle.std.proofs.Common.{rules, arith, ◌≡◌, ◌∙◌, ◌+◌, suc, length, get_or, sym, ap}
use Rattle.std.proofs.lemmas.List.{length-append}
use Rattle.dl_cells.specs.ClaimStates.{KeeperState}
use Rattle.dl_cells.specs.Claims.{given_of, refused_of}
use Rattle.dl_cells.proofs.ClaimSums.{given_of-append, refused_of-append}
use Rattle.test_threads.proofs.claims.gather.Goals as goal

pub loop-child-preserved : goal.loop-child-preserved
loop-child-preserved g c =
    let was = c.loop-child.invariant in let joined = c.join.ensures in let steps = c.in-Some.ensures.steps in let theirs = c.join-claimed.ensures in
    let table : c.join.new.self.table ≡ c.args.keeper.now.table = ap (λ (k : KeeperState). k.table) joined ∙ ap (λ (k : KeeperState). k.table) was.state in
    let apps : c.join.new.self.apps ≡ c.args.keeper.now.apps = ap (λ (k : KeeperState). k.apps) joined ∙ ap (λ (k : KeeperState). k.apps) was.state in
    let shares : c.join.new.self.shares ≡ c.loop-child.keeper.shares + 1 = ap (λ (k : KeeperState). k.shares) joined ∙ ap (λ n. c.loop-child.keeper.shares + n + 1) theirs.1 ∙ (omega arith) in
    let given : length (given_of 0 c.join.new.self.given) ≡ length (given_of 0 c.loop-child.keeper.given) + length (given_of 0 c.join-claimed.result.claimer.given) =
    ap (λ (k : KeeperState). length (given_of 0 k.given)) joined ∙ ap length (given_of-append 0 c.loop-child.keeper.given c.join-claimed.result.claimer.given)
    ∙ length-append (given_of 0 c.loop-child.keeper.given) (given_of 0 c.join-claimed.result.claimer.given) in
    let refused : refused_of 0 c.join.new.self.refused ≡ refused_of 0 c.loop-child.keeper.refused + refused_of 0 c.join-claimed.result.claimer.refused =
    ap (λ (k : KeeperState). refused_of 0 k.refused) joined ∙ refused_of-append 0 c.loop-child.keeper.refused c.join-claimed.result.claimer.refused in
    let count = was.count in let few = was.few in let all = was.all in let their_count = theirs.2 in let their_few = theirs.3 in let their_all = theirs.4 in
    record {
      state = λ i. record { table = table i; apps = apps i; given = c.join.new.self.given; refused = c.join.new.self.refused; shares = c.join.new.self.shares };
      shares = search rules;
      count = omega arith;
      few = omega arith;
      all = omega arith;
      same = λ k d below. let long = ap (λ hs. length hs) steps.0 in
          ap (λ hs. (get_or hs (suc k) d).promise.0.value.table) (sym steps.0) ∙ was.same (suc k) d (omega arith) ∙ sym (ap (λ (k : KeeperState). k.table) joined);
    }
