use Rattle.dl_events.specs.declared.event.Event.TheVariants as event
use Rattle.dl_world_calls.proofs.Acts.{on_ok}
use Rattle.dl_world.proofs.EventDeeds.{doing_note, close_shut, close_opened, opened_where}
use Rattle.dl_world.proofs.world.World.close.Goals as goal

pub returns-then-not-is_open-clause-does : goal.returns-then-not-is_open-clause-does
returns-then-not-is_open-clause-does c = close_shut c.args.self.now c.args.client c.args.why c.is_open.result c.if-not-is_open.true c.is_open.ensures.1

pub returns-clause-does : goal.returns-clause-does
returns-clause-does c =
    on_ok c.note_levels_now.result _ _
    (λ behind. close_opened c.args.self.now c.note_levels_now.new.self c.args.client c.args.why (opened_where c.is_open.result _ _ _ c.if-not-is_open.false c.is_open.ensures.0)
    (doing_note (λ _. event.Close c.args.client c.args.why) c.args.self.now c.note_levels.new.self c.note_close.new.self c.note_levels_now.new.self c.in_ok-note_levels.ensures.does c.in_ok-note_close.ensures.does behind))
    c.note_levels_now.ensures.does
