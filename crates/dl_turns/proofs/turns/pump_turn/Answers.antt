use Rattle.std.proofs.Common.{refl, ap, ◌∙◌}
use Rattle.dl_events.specs.declared.event.Why.TheVariants.{Broken}
use Rattle.dl_registry.specs.Kept.{owed_change}
use Rattle.dl_core.specs.State.{Core}
use Rattle.dl_turns.specs.State.{side}
use Rattle.dl_turns.proofs.TurnSides.{closes, served_pumped, served_shut}
use Rattle.dl_turns.proofs.turns.pump_turn.Goals as goal

pub returns-in-Failed-clause-pump : goal.returns-in-Failed-clause-pump
returns-in-Failed-clause-pump g c = λ desk folder.
    let pumped = c.in-Failed.ensures in
    record {
      between = side c.pump.new.self desk (g.J.Journal.events c.args.journal.now) folder;
      pumps = pumped.sent;
      rest = ap (λ (k : Core). side k desk (g.J.Journal.events c.args.journal.now) folder) pumped.rest;
      sends = (pumped.faults, pumped.waits, pumped.failed refl);
      only_sent = pumped.link;
      closes = closes c.args.client Broken c.pump.new.self c.close.new.self desk (g.J.Journal.events c.args.journal.now) (g.J.Journal.events c.close.new.journal) folder tt c.close.ensures.limit
          (ap (λ (k : Core). owed_change k.registry) pumped.rest ∙ c.requires.settled) c.close.ensures.value c.close.ensures.after c.close.ensures.event;
    }

pub returns-in-Failed-clause-served : goal.returns-in-Failed-clause-served
returns-in-Failed-clause-served g c = λ served has.
    served_shut c.args.client served c.pump.new.self c.close.new.self c.close.ensures.value
    (served_pumped c.args.client served c.in-Failed.ensures.sent.count c.args.core.now.hub c.pump.new.self.hub c.in-Failed.ensures.sent.left has)
