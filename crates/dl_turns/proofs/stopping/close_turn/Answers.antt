use Rattle.std.proofs.Common.{ℕ, Bool, Err, inl, inr, refl, ap, subst, arith, rules, ◌∙◌, ◌<◌, ◌≡◌}
use Rattle.dl_turns.specs.Events.{IsServing}
use Rattle.dl_turns.specs.State.{Stage, stage}
use Rattle.dl_turns.specs.Stopping.{GoesOn, IsClosedIn}
use Rattle.dl_turns.proofs.ShownCauses.{not_stopped}
use Rattle.dl_turns.proofs.StoppingSides.{one_turn_more, wound_by}
use Rattle.dl_turns.proofs.stopping.close_turn.Goals as goal

pub returns-then-quiet-clause-wound_up : goal.returns-then-quiet-clause-wound_up
returns-then-quiet-clause-wound_up g c =
    let was = c.loop-turns in
    let now = c.closing_turn.new in
    let last : Stage = stage (g.L.Link.told was.link) was.own.cutter.now was.core (g.D.WriterControl.told was.desk) (g.J.Journal.events was.journal) (g.F.Folder.told was.folder) in
    let end : Stage = stage (g.L.Link.told now.link) now.client.cutter.now now.core (g.D.WriterControl.told now.desk) (g.J.Journal.events now.journal) (g.F.Folder.told now.folder) in
    let few : was.turns < 1000 = omega (arith, c.loop-turns-test.true) in
    let goes = subst (λ (quiet : Bool). GoesOn c.args.client quiet last end) c.if-quiet.true (subst (λ (n : ℕ). GoesOn n c.in-Ok.quiet last end) was.invariant.number c.in-Ok.ensures.goes) in
    wound_by _ _ _ _ now.client.cutter.now _ _ (search rules) (record {
      count = was.turns;
      last = last;
      turns = was.invariant.turns;
      ends = inr (end, inl (few, goes), c.stop.ensures.stop, c.stop.ensures.closes end.side.desk end.side.folder, refl, refl);
    })

pub returns-then-quiet-clause-rest : goal.returns-then-quiet-clause-rest
returns-then-quiet-clause-rest g c = g.met.D.WriterControl.rest_trans c.args.desk.now c.loop-turns.desk c.closing_turn.new.desk c.loop-turns.invariant.same c.closing_turn.ensures.rest

pub loop-turns-preserved : goal.loop-turns-preserved
loop-turns-preserved g c =
    let was = c.loop-turns in
    let now = c.closing_turn.new in
    let so = was.invariant in
    let alike = c.closing_turn.ensures.same in
    let last : Stage = stage (g.L.Link.told was.link) was.own.cutter.now was.core (g.D.WriterControl.told was.desk) (g.J.Journal.events was.journal) (g.F.Folder.told was.folder) in
    let new : Stage = stage (g.L.Link.told now.link) now.client.cutter.now now.core (g.D.WriterControl.told now.desk) (g.J.Journal.events now.journal) (g.F.Folder.told now.folder) in
    let goes = subst (λ (quiet : Bool). GoesOn c.args.client quiet last new) c.if-quiet.false (subst (λ (n : ℕ). GoesOn n c.in-Ok.quiet last new) so.number c.in-Ok.ensures.goes) in
    record {
      turns = one_turn_more c.args.client was.turns _ last new so.turns goes;
      within = omega (arith, c.loop-turns-test.true);
      limit = c.closing_turn.ensures.limit;
      serving = subst (λ (n : ℕ). IsServing n now.client.served.now now.core (g.D.WriterControl.told now.desk)) so.number c.in-Ok.ensures.serving;
      spare = omega (arith, so.spare, c.in-Ok.ensures.spare);
      number = alike.number ∙ so.number;
      alike = record { number = alike.number ∙ so.alike.number; cutter = alike.cutter ∙ so.alike.cutter; served = alike.served ∙ so.alike.served };
      same = g.met.D.WriterControl.rest_trans c.args.desk.now was.desk now.desk so.same c.closing_turn.ensures.rest;
    }

pub returns-in-Err-clause-wound_up : goal.returns-in-Err-clause-wound_up
returns-in-Err-clause-wound_up g c =
    let was = c.loop-turns in
    let now = c.closing_turn.new in
    let last : Stage = stage (g.L.Link.told was.link) was.own.cutter.now was.core (g.D.WriterControl.told was.desk) (g.J.Journal.events was.journal) (g.F.Folder.told was.folder) in
    let end : Stage = stage (g.L.Link.told now.link) now.client.cutter.now now.core (g.D.WriterControl.told now.desk) (g.J.Journal.events now.journal) (g.F.Folder.told now.folder) in
    let few : was.turns < 1000 = omega (arith, c.loop-turns-test.true) in
    wound_by _ _ _ _ now.client.cutter.now _ _ (search rules) (record {
      count = was.turns;
      last = last;
      turns = was.invariant.turns;
      ends = inl (few, subst (λ (n : ℕ). IsClosedIn n c.in-Err.why last end) was.invariant.number c.in-Err.ensures.closed);
    })

pub returns-clause-wound_up : goal.returns-clause-wound_up
returns-clause-wound_up g c =
    let was = c.loop-turns in
    let last : Stage = stage (g.L.Link.told was.link) was.own.cutter.now was.core (g.D.WriterControl.told was.desk) (g.J.Journal.events was.journal) (g.F.Folder.told was.folder) in
    let all : was.turns ≡ 1000 = omega (arith, c.loop-turns-test.false, was.invariant.within) in
    wound_by _ _ _ _ was.own.cutter.now _ _ (search rules) (record {
      count = was.turns;
      last = last;
      turns = was.invariant.turns;
      ends = inr (last, inr (all, refl), c.stop-2.ensures.stop, c.stop-2.ensures.closes last.side.desk last.side.folder, refl, refl);
    })

pub returns-then-quiet-clause-left : goal.returns-then-quiet-clause-left
returns-then-quiet-clause-left g c = λ is tells. not_stopped c.stop.result c.stop.ensures.stop is

pub returns-in-Err-clause-left : goal.returns-in-Err-clause-left
returns-in-Err-clause-left g c = λ is tells. c.closing_turn.ensures.left (c.in-Err.is ∙ ap Err is) tells

pub returns-clause-left : goal.returns-clause-left
returns-clause-left g c = λ is tells. not_stopped c.stop-2.result c.stop-2.ensures.stop is
