use Rattle.std.proofs.Common.{◌≡◌, ◌<◌, [], get_or, take, List, length, refl, sym, ap, subst, arith}
use Rattle.std.proofs.lemmas.List.{take_all}
use Rattle.dl_bytes.specs.Context.{Context}
use Rattle.dl_script_model.specs.declared.scenario.ScenarioLine.{ScenarioLine}
use Rattle.dl_crew.specs.Plays.{LinesInTurn}
use Rattle.dl_crew.proofs.LinesSoFar.{taken_more}
use Rattle.dl_crew.proofs.Played.{is_announced}
use Rattle.dl_crew.proofs.PlayedScripts.{HasCome, announced_last, claims_here, come_more, come_none, lines_more, names_here, played_all, played_so_far, room_here}
use Rattle.dl_crew.proofs.worker.play.Goals as goal

pub loop-line-init : goal.loop-line-init
loop-line-init g c = record {
  come = subst (λ (own : List Context). HasCome c.args.plan.now.contexts own [] c.args.book c.args.book) (sym c.none.ensures) (come_none c.args.plan.now.contexts c.args.book);
  in_turn = (c.none.ensures, refl);
}

pub play_line-requires-clause-room : goal.play_line-requires-clause-room
play_line-requires-clause-room g c =
    let l = c.loop-line in
    let line = c.line-item.result in
    let less = subst (λ (ls : List ScenarioLine). l.line-index < length ls) c.all-line-items.ensures c.loop-line-test.true in
    let here = subst (λ (ls : List ScenarioLine). get_or ls l.line-index line ≡ line) c.all-line-items.ensures (sym c.line-item.is) in
    room_here c.args.plan.now.contexts l.work.own c.args.plan.now.lines l.line-index line less here c.args.book l.work.book l.invariant.come c.requires

pub play_line-requires-clause-claims : goal.play_line-requires-clause-claims
play_line-requires-clause-claims g c =
    let l = c.loop-line in
    let line = c.line-item.result in
    let less = subst (λ (ls : List ScenarioLine). l.line-index < length ls) c.all-line-items.ensures c.loop-line-test.true in
    let here = subst (λ (ls : List ScenarioLine). get_or ls l.line-index line ≡ line) c.all-line-items.ensures (sym c.line-item.is) in
    claims_here c.args.plan.now.contexts l.work.own c.args.plan.now.lines l.line-index line less here c.args.book l.work.book l.invariant.come c.requires

pub play_line-requires-clause-names : goal.play_line-requires-clause-names
play_line-requires-clause-names g c =
    let l = c.loop-line in
    let line = c.line-item.result in
    let less = subst (λ (ls : List ScenarioLine). l.line-index < length ls) c.all-line-items.ensures c.loop-line-test.true in
    let here = subst (λ (ls : List ScenarioLine). get_or ls l.line-index line ≡ line) c.all-line-items.ensures (sym c.line-item.is) in
    names_here c.args.plan.now.contexts l.work.own c.args.plan.now.lines l.line-index line less here c.args.book l.work.book l.invariant.come c.requires

pub returns-in_default : goal.returns-in_default
returns-in_default g c =
    let l = c.loop-line in
    let line = c.line-item.result in
    let less = subst (λ (ls : List ScenarioLine). l.line-index < length ls) c.all-line-items.ensures c.loop-line-test.true in
    let here = subst (λ (ls : List ScenarioLine). get_or ls l.line-index line ≡ line) c.all-line-items.ensures (sym c.line-item.is) in
    played_so_far c.args.plan.now.contexts l.work.own c.args.plan.now.lines l.line-index line less here c.args.book l.work.book l.invariant.come c.requires c.play_line.new.work.book c.in_default.ensures.full

pub loop-line-preserved : goal.loop-line-preserved
loop-line-preserved g c =
    let l = c.loop-line in
    let lines = c.args.plan.now.lines in
    let line = c.line-item.result in
    let work = c.play_line.new.work in
    let less = subst (λ (ls : List ScenarioLine). l.line-index < length ls) c.all-line-items.ensures c.loop-line-test.true in
    let here = subst (λ (ls : List ScenarioLine). get_or ls l.line-index line ≡ line) c.all-line-items.ensures (sym c.line-item.is) in
    let contexts = c.args.plan.now.contexts in
    let so_far = take l.line-index lines in
    let more = taken_more lines l.line-index line less here c.args.book.writer.push.number in
    let one = c.in-Ok.ensures.played in
    record {
      come = subst (λ (ls : List ScenarioLine). HasCome contexts work.own ls c.args.book work.book) (sym more)
          (come_more contexts l.work.own work.own so_far line c.args.book l.work.book work.book l.invariant.come one);
      in_turn = subst (λ (ls : List ScenarioLine). LinesInTurn contexts [] work.own ls c.args.book work.book) (sym more)
          (lines_more contexts [] l.work.own work.own so_far line c.args.book l.work.book work.book l.invariant.in_turn one.in_turn);
    }

pub returns : goal.returns
returns g c =
    let l = c.loop-line in
    let contexts = c.args.plan.now.contexts in
    let lines = c.args.plan.now.lines in
    let mid = l.work.book in
    let new = c.announce_waiting.new.book in
    let announced = is_announced mid new c.announce_waiting.ensures.whole (length new.writer.waiting) c.announce_waiting.ensures.announced in
    let many = ap length c.all-line-items.ensures in
    let whole = take_all l.line-index lines (omega (arith, many, c.loop-line-test.false)) in
    let come = subst (λ (ls : List ScenarioLine). HasCome contexts l.work.own ls c.args.book mid) whole l.invariant.come in
    played_all contexts l.work.own lines c.args.book new (announced_last contexts l.work.own lines c.args.book mid new come announced) (record {
      own = l.work.own;
      last = mid;
      all = subst (λ (ls : List ScenarioLine). LinesInTurn contexts [] l.work.own ls c.args.book mid) whole l.invariant.in_turn;
      announced = c.announce_waiting.ensures.announced;
    })
