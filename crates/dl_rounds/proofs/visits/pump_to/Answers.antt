use Rattle.std.proofs.Common.{◌≡◌, None, refl, ap, subst, ◌∙◌, arith}
use Rattle.std.specs.Prelude.{IsSomeAnd, length}
use Rattle.dl_hub.specs.State.{Hub, outbox_of}
use Rattle.dl_turns.specs.State.{Side, side}
use Rattle.dl_rounds.proofs.OneClient.{but_pump}
use Rattle.dl_rounds.proofs.PumpMoves.{pump_moves, some_desk, some_folder}
use Rattle.dl_rounds.proofs.Turned.{closed_so, room_goes, room_stays}
use Rattle.dl_rounds.proofs.visits.pump_to.Goals as goal

pub returns-in-Some-clause-spare : goal.returns-in-Some-clause-spare
returns-in-Some-clause-spare g c =
    let now = c.pump_turn.new in
    let pump = c.in-Some.ensures.pump some_desk some_folder in
    room_goes c.args.client _ _ c.args.core.now now.core (but_pump c.args.client _ _ _ _ _ pump) c.requires.open
    (closed_so c.args.client c.in-Some._why pump.between (side now.core some_desk (g.J.Journal.events now.journal) some_folder) pump.closes)
    (omega (arith, c.in-Some.ensures.noted))

pub returns-in-None-clause-pumped : goal.returns-in-None-clause-pumped
returns-in-None-clause-pumped g c = λ desk folder listener.
    let pump = c.in-None.ensures.pump desk folder in
    let hub = ap (λ (s : Side). s.core.hub) pump.closes in
    record {
      why = None;
      link = g.L.Link.told c.pump_turn.new.link;
      pump = pump;
      shut = refl;
      stays = c.in-None.ensures.open;
      listener = refl;
      moves = pump_moves c.args.client c.waiting-waiting.result c.waiting.result c.args.core.now.hub pump.between.core.hub (g.L.Link.told c.args.link.now) (g.L.Link.told c.pump_turn.new.link) pump.pumps
          (subst (λ (h : Hub). IsSomeAnd (outbox_of h c.args.client) (λ outbox. c.waiting-waiting.result ≡ length outbox.bytes)) c.hub.ensures c.waiting-waiting.ensures)
          (subst (λ (h : Hub). IsSomeAnd (outbox_of h c.args.client) (λ outbox. c.waiting.result ≡ length outbox.bytes)) (c.hub-in-None.ensures ∙ hub) c.waiting.ensures);
    }

pub returns-in-None-clause-spare : goal.returns-in-None-clause-spare
returns-in-None-clause-spare g c =
    let now = c.pump_turn.new in
    let pump = c.in-None.ensures.pump some_desk some_folder in
    room_stays c.args.client _ _ c.args.core.now now.core (but_pump c.args.client _ _ _ _ _ pump) c.requires.open c.in-None.ensures.open
    (omega (arith, ap g.J.Journal.spare c.in-None.ensures.spare))
