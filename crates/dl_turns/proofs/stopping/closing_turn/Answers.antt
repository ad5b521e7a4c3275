use Rattle.std.proofs.Common.{Ok, inl, inr, refl, sym, ap, subst}
use Rattle.dl_outside.specs.Told.{LinkTold}
use Rattle.dl_turns.specs.State.{Side, Stage, side, stage}
use Rattle.dl_turns.specs.Turns.{HasSent}
use Rattle.dl_turns.proofs.ShownCauses.{left_listens, not_pumped}
use Rattle.dl_turns.proofs.StoppingSides.{goes_by, quiet_so}
use Rattle.dl_turns.proofs.TurnSides.{closes, may_end, served_shut}
use Rattle.dl_turns.proofs.stopping.closing_turn.Goals as goal

pub close-requires-clause-cause : goal.close-requires-clause-cause
close-requires-clause-cause g c =
    let listens = c.in-Err.ensures.listens in
    may_end c.args.client.now.number c.args.client.now.cutter.now.unread listens.answer listens.into c.in-Err.why _ _ listens.heeds

pub returns-in-Err-clause-closed : goal.returns-in-Err-clause-closed
returns-in-Err-clause-closed g c =
    let listens = c.in-Err.ensures.listens in
    inl (record {
      between = side c.listen.new.core (g.D.WriterControl.told c.listen.new.desk) (g.J.Journal.events c.listen.new.journal) (g.F.Folder.told c.listen.new.folder);
      listens = listens;
      closes = closes c.args.client.now.number c.in-Err.why c.listen.new.core c.close.new.self _ (g.J.Journal.events c.listen.new.journal) (g.J.Journal.events c.close.new.journal) _
          (may_end c.args.client.now.number c.args.client.now.cutter.now.unread listens.answer listens.into c.in-Err.why _ _ listens.heeds) c.close.ensures.limit c.listen.ensures.serving.settled_so c.close.ensures.value c.close.ensures.after
          c.close.ensures.event;
    })

pub returns-in-Err-clause-served : goal.returns-in-Err-clause-served
returns-in-Err-clause-served g c = served_shut c.args.client.now.number c.listen.new.client.served.now c.listen.new.core c.close.new.self c.close.ensures.value c.listen.ensures.serving.served_so

pub returns-in-Some-clause-closed : goal.returns-in-Some-clause-closed
returns-in-Some-clause-closed g c =
    let was = c.listen.new in
    let heard : Stage = stage (g.L.Link.told was.link) was.client.cutter.now was.core (g.D.WriterControl.told was.desk) (g.J.Journal.events was.journal) (g.F.Folder.told was.folder) in
    inr (heard, c.in-Ok.ensures.listens, c.in-Some.ensures.pump heard.side.desk heard.side.folder, refl)

pub returns-in-None-clause-goes : goal.returns-in-None-clause-goes
returns-in-None-clause-goes g c =
    let was = c.listen.new in
    let heard : Stage = stage (g.L.Link.told was.link) was.client.cutter.now was.core (g.D.WriterControl.told was.desk) (g.J.Journal.events was.journal) (g.F.Folder.told was.folder) in
    let link_now : LinkTold = g.L.Link.told c.pump_turn.new.link in
    let pump = c.in-None.ensures.pump heard.side.desk heard.side.folder in
    let sent = subst (λ (s : Side). HasSent c.args.client.now.number s.core heard.link link_now) (sym pump.closes) pump.sends.0 in
    goes_by _ _ _ link_now _ _ _ c.rest_if_stuck.ensures (record {
      heard = heard;
      listens = c.in-Ok.ensures.listens;
      pumps = pump;
      cutter = refl;
      is_quiet = quiet_so c.args.client.now.number c.is_quiet.result c.in-Ok.gave _ heard.link link_now _ c.is_quiet.ensures.quiet c.is_quiet.ensures.not_quiet
          (λ e. c.in-Ok.ensures.gave (ap Ok e)) (λ e. c.in-Ok.ensures.idle (ap Ok e)) sent;
    })

pub returns-in-Err-clause-left : goal.returns-in-Err-clause-left
returns-in-Err-clause-left g c = λ is tells. left_listens c.args.client.now.number c.in-Err.why _ _ c.in-Err.ensures.listens (cc is) (tells c.args.link.now)

pub returns-in-Some-clause-left : goal.returns-in-Some-clause-left
returns-in-Some-clause-left g c =
    let was = c.listen.new in
    λ is tells. not_pumped c.args.client.now.number c.in-Some.why _ _ _ _ (c.in-Some.ensures.pump (g.D.WriterControl.told was.desk) (g.F.Folder.told was.folder)) (cc is)
