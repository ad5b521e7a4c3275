use Rattle.std.proofs.Common.{refl}
use Rattle.dl_channel_turns.proofs.ServedMessages.{no_logs, none_short, on_ok, served_none}
use Rattle.dl_channel_turns.proofs.serving.make_room.Goals as goal

pub returns-then-is_full-clause-room : goal.returns-then-is_full-clause-room
returns-then-is_full-clause-room g c = on_ok c.serve_gathered.result (none_short c.serve_gathered.new.gathered) c.serve_gathered.ensures.none

pub returns-then-is_full-clause-logs : goal.returns-then-is_full-clause-logs
returns-then-is_full-clause-logs g c = on_ok c.serve_gathered.result (no_logs c.serve_gathered.new.gathered) c.serve_gathered.ensures.none

pub returns-else-is_full-clause-serves : goal.returns-else-is_full-clause-serves
returns-else-is_full-clause-serves g c = λ outboxes. served_none c.args.channel c.args.moment c.args.gathered.now _ _ refl
