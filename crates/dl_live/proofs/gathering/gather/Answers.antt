use Rattle.std.proofs.Common.{◌≡◌, inl, inr, ℕ, suc, ◌+◌, Bool, cond, ap, subst, ◌∙◌, arith}
use Rattle.dl_loop.specs.Coming.{HasWaited, HaveCome, came_in}
use Rattle.dl_loop.specs.Scene.{scene}
use Rattle.dl_live.proofs.GatheredLinks.{all_came, gathered, last_round}
use Rattle.dl_live.proofs.gathering.gather.Goals as goal
use Rattle.dl_live.proofs.gathering.gather.Goals.{then-round-via-then-round, then-round-via-else-round+then-round-2}

pub round-round-requires : goal.round-round-requires
round-round-requires g c = record { greeted = c.loop-came.invariant.goes.greeted ∙ c.requires.greeted }

pub returns-then-round : goal.returns-then-round
returns-then-round g c =
    let first = scene c.args.daemon.now (g.F.Folder.told c.args.folder.now) in
    let was = scene c.loop-came.daemon (g.F.Folder.told c.loop-came.folder) in
    let now = scene c.round-round.new.self (g.F.Folder.told c.round-round.new.folder) in
    let net = g.N.Net.told c.args.net.now in
    let between = g.N.Net.told c.loop-came.net in
    let last = g.N.Net.told c.round-round.new.net in
    last_round g.N.L.Link.told c.args.launched c.round-round.result net last first now
    (c.rounds_go_on.ensures.both net between last first was now c.loop-came.invariant.goes c.round-round.ensures.goes)
    (c.loop-came.came + came_in c.round-round.result)
    (c.connections_add_up.ensures.both c.loop-came.came (came_in c.round-round.result) net between last c.args.daemon.now c.loop-came.daemon c.round-round.new.self
    c.loop-came.invariant.come (c.what_an_answer_tells.ensures.came c.round-round.result between last was now c.round-round.ensures.round))
    (c.what_an_answer_tells.ensures.tells c.round-round.result between last was now c.round-round.ensures.round)
    (elim c.then-round.branch [
      | then-round-via-then-round w ↦ inl w.if-round.true
      | then-round-via-else-round+then-round-2 w ↦ inr w.if-round-2.true
    ])

pub loop-came-preserved-then-round-3 : goal.loop-came-preserved-then-round-3
loop-came-preserved-then-round-3 g c =
    let first = scene c.args.daemon.now (g.F.Folder.told c.args.folder.now) in
    let was = scene c.loop-came.daemon (g.F.Folder.told c.loop-came.folder) in
    let now = scene c.round-round.new.self (g.F.Folder.told c.round-round.new.folder) in
    let net = g.N.Net.told c.args.net.now in
    let between = g.N.Net.told c.loop-came.net in
    let last = g.N.Net.told c.round-round.new.net in
    let tells = c.what_an_answer_tells.ensures.tells c.round-round.result between last was now c.round-round.ensures.round in
    let one : came_in c.round-round.result ≡ 1 = ap (λ (b : Bool). cond b 1 0) c.if-round-3.true in
    let well = tells.well c.if-round.false c.if-round-2.false in record {
      goes = c.rounds_go_on.ensures.both net between last first was now c.loop-came.invariant.goes c.round-round.ensures.goes;
      come = c.connections_add_up.ensures.both c.loop-came.came 1 net between last c.args.daemon.now c.loop-came.daemon c.round-round.new.self c.loop-came.invariant.come
          (subst (λ (n : ℕ). HaveCome n between last c.loop-came.daemon c.round-round.new.self) one (c.what_an_answer_tells.ensures.came c.round-round.result between last was now c.round-round.ensures.round));
      failed = well.0;
      wanted = well.1;
      waited = tt;
      few = omega arith;
      nobody = λ some. absurd (omega (arith, some));
    }

pub loop-came-preserved : goal.loop-came-preserved
loop-came-preserved g c =
    let first = scene c.args.daemon.now (g.F.Folder.told c.args.folder.now) in
    let was = scene c.loop-came.daemon (g.F.Folder.told c.loop-came.folder) in
    let now = scene c.round-round.new.self (g.F.Folder.told c.round-round.new.folder) in
    let net = g.N.Net.told c.args.net.now in
    let between = g.N.Net.told c.loop-came.net in
    let last = g.N.Net.told c.round-round.new.net in
    let tells = c.what_an_answer_tells.ensures.tells c.round-round.result between last was now c.round-round.ensures.round in
    let nobody_came = tells.one c.if-round-3.false c.if-round.false c.if-round-2.false in
    let more_is : suc c.loop-came.nobody ≡ c.loop-came.nobody + 1 = omega arith in
    let none : came_in c.round-round.result ≡ 0 = ap (λ (b : Bool). cond b 1 0) c.if-round-3.false in
    let same : c.loop-came.came + 0 ≡ c.loop-came.came = omega arith in
    let well = tells.well c.if-round.false c.if-round-2.false in record {
      goes = c.rounds_go_on.ensures.both net between last first was now c.loop-came.invariant.goes c.round-round.ensures.goes;
      come = subst (λ (n : ℕ). HaveCome n net last c.args.daemon.now c.round-round.new.self) same
          (c.connections_add_up.ensures.both c.loop-came.came 0 net between last c.args.daemon.now c.loop-came.daemon c.round-round.new.self c.loop-came.invariant.come
          (subst (λ (n : ℕ). HaveCome n between last c.loop-came.daemon c.round-round.new.self) none (c.what_an_answer_tells.ensures.came c.round-round.result between last was now c.round-round.ensures.round)));
      failed = well.0;
      wanted = well.1;
      waited = subst (λ (n : ℕ). HasWaited g.N.L.Link.told n last now) more_is
          (c.round-round.result, nobody_came, between, was, c.round-round.ensures.round, c.loop-came.invariant.waited);
      few = (let below = c.if-nobody-lt-PATIENCE.true in omega (arith, below));
      nobody = λ some. all_came c.loop-came.came net between c.args.daemon.now c.loop-came.daemon c.loop-came.invariant.come (tells.nobody nobody_came).0;
    }

pub returns-after-loop-came : goal.returns-after-loop-came
returns-after-loop-came g c =
    gathered g.N.L.Link.told c.args.launched c.loop-came.came (g.N.Net.told c.args.net.now) (g.N.Net.told c.loop-came.net) (scene c.args.daemon.now (g.F.Folder.told c.args.folder.now))
    (scene c.loop-came.daemon (g.F.Folder.told c.loop-came.folder)) c.loop-came.invariant.goes c.loop-came.invariant.come
    (c.loop-came.invariant.failed, c.loop-came.invariant.wanted) (inl c.loop-came-test.false)

pub returns-else-nobody-lt-PATIENCE : goal.returns-else-nobody-lt-PATIENCE
returns-else-nobody-lt-PATIENCE g c =
    let late = c.if-nobody-lt-PATIENCE.false in
    let few = c.loop-came.invariant.few in
    let long : c.loop-came.nobody ≡ 1000 = omega (arith, late, few) in
    let last = scene c.loop-came.daemon (g.F.Folder.told c.loop-came.folder) in
    gathered g.N.L.Link.told c.args.launched c.loop-came.came (g.N.Net.told c.args.net.now) (g.N.Net.told c.loop-came.net) (scene c.args.daemon.now (g.F.Folder.told c.args.folder.now))
    (scene c.loop-came.daemon (g.F.Folder.told c.loop-came.folder)) c.loop-came.invariant.goes c.loop-came.invariant.come
    (c.loop-came.invariant.failed, c.loop-came.invariant.wanted)
    (inr (subst (λ (n : ℕ). HasWaited g.N.L.Link.told n (g.N.Net.told c.loop-came.net) last) long c.loop-came.invariant.waited, c.loop-came.invariant.nobody (omega (arith, late))))
