use Rattle.dl_world_calls.proofs.Acts.{on_ok}
use Rattle.dl_world.proofs.Delivering.{delivery_takes, delivery_keeps, delivery_rest, always}
use Rattle.dl_world.proofs.world.World.deliver_to.Goals as goal

pub returns-clause-takes : goal.returns-clause-takes
returns-clause-takes c =
    on_ok c.add_frames.result _ _
    (delivery_takes c.args.self.now c.args.client c.in_ok-bytes.bytes.items c.empty_outbox.new.core c.add_frames.new.self c.requires.open c.in_ok-bytes.ensures.bytes c.in_ok-bytes.ensures.value)
    c.add_frames.ensures.frames

pub returns-clause-keeps : goal.returns-clause-keeps
returns-clause-keeps c =
    on_ok c.add_frames.result _ _
    (delivery_keeps c.args.self.now c.args.client c.in_ok-bytes.bytes.items c.empty_outbox.new.core c.add_frames.new.self c.requires.open c.in_ok-bytes.ensures.bytes c.in_ok-bytes.ensures.value)
    c.add_frames.ensures.frames

pub returns-clause-rest : goal.returns-clause-rest
returns-clause-rest c =
    always c.add_frames.result _
    (delivery_rest c.args.self.now c.args.client c.in_ok-bytes.bytes.items c.empty_outbox.new.core c.add_frames.new.self c.requires.open c.in_ok-bytes.ensures.bytes c.in_ok-bytes.ensures.value c.add_frames.ensures.cutters)
