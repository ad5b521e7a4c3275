use Rattle.std.proofs.Common.{Some, ap}
use Rattle.std.specs.Result.{result_err}
use Rattle.dl_channel_turns.proofs.ServedMessages.{finishes_all, finishes_left, same_side}
use Rattle.dl_channel_turns.proofs.serving.finish.Goals as goal

pub returns-in-Ok-clause-serves : goal.returns-in-Ok-clause-serves
returns-in-Ok-clause-serves g c =
    λ outboxes. finishes_all c.args.channel c.args.moment c.args.gathered.now c.serve_gathered.new.gathered (result_err c.args.behind) _ _ (c.in-Ok.ensures.serves outboxes) c.in-Ok.ensures.none

pub returns-in-Err-clause-serves : goal.returns-in-Err-clause-serves
returns-in-Err-clause-serves g c =
    let same = c.in-Err.ensures.unserved in
    λ outboxes. finishes_left c.args.channel c.args.moment c.args.gathered.now (result_err c.args.behind) (Some c.in-Err.end) _ _ c.in-Err.ensures.some (ap Some c.in-Err.ensures.cause)
    (same_side same.0 same.1 (ap g.F.Folder.told same.2))
