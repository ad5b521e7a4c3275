use Rattle.std.proofs.Common.{rules}
use Rattle.dl_turns.specs.State.{Side, side}
use Rattle.dl_turns.proofs.TurnSides.{closes, may_end, served_shut, turn_by}
use Rattle.dl_turns.proofs.turns.client_turn.Goals as goal

pub close-requires-clause-cause : goal.close-requires-clause-cause
close-requires-clause-cause g c =
    let listens = c.in-Err.ensures.listens in
    may_end c.args.client c.args.cutter.now.unread listens.answer listens.into c.in-Err.why _ _ listens.heeds

pub returns-in-Err-clause-turn : goal.returns-in-Err-clause-turn
returns-in-Err-clause-turn g c =
    let was = c.listen.new in
    let listens = c.in-Err.ensures.listens in
    let heard : Side = side was.core (g.D.WriterControl.told was.desk) (g.J.Journal.events was.journal) (g.F.Folder.told was.folder) in
    turn_by _ _ _ _ was.client.cutter.now _ _ (search rules) (record {
      between = heard;
      listens = listens;
      closes = closes c.args.client c.in-Err.why was.core c.close.new.self _ (g.J.Journal.events was.journal) (g.J.Journal.events c.close.new.journal) _
          (may_end c.args.client c.args.cutter.now.unread listens.answer listens.into c.in-Err.why _ _ listens.heeds) c.close.ensures.limit c.listen.ensures.serving.settled_so c.close.ensures.value c.close.ensures.after
          c.close.ensures.event;
    })

pub returns-in-Err-clause-served : goal.returns-in-Err-clause-served
returns-in-Err-clause-served g c =
    search (rules, served_shut c.args.client c.listen.new.client.served.now c.listen.new.core c.close.new.self c.close.ensures.value c.listen.ensures.serving.served_so)
