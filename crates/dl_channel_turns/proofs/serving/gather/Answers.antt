use Rattle.std.proofs.Common.{[], ◌∷◌, ap, length, length-append, arith}
use Rattle.dl_channel_turns.proofs.ServedMessages.{all_push, served_more}
use Rattle.dl_channel_turns.proofs.serving.gather.Goals as goal

pub returns-in-Ok-clause-serves : goal.returns-in-Ok-clause-serves
returns-in-Ok-clause-serves g c =
    λ outboxes. served_more c.args.channel c.args.moment c.args.gathered.now c.make_room.new.gathered c.push.new.self c.args.msg _ _ c.push.ensures (c.in-Ok.ensures.serves outboxes)

pub returns-in-Ok-clause-logs : goal.returns-in-Ok-clause-logs
returns-in-Ok-clause-logs g c = all_push c.make_room.new.gathered c.push.new.self c.args.msg c.push.ensures c.in-Ok.ensures.logs c.requires.log

pub returns-in-Ok-clause-admitted : goal.returns-in-Ok-clause-admitted
returns-in-Ok-clause-admitted g c = omega (arith, c.make_room.ensures.admitted, ap length c.push.ensures, length-append c.make_room.new.gathered (c.args.msg ∷ []))
