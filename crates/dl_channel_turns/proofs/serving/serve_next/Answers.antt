use Rattle.std.proofs.Common.{ap, arith}
use Rattle.dl_core.proofs.GatheredMessages.{one_frame}
use Rattle.dl_channel_turns.proofs.ServedMessages.{few_with, on_err, on_ok, same_side, served_then, stops_at_first, stops_at_last}
use Rattle.dl_channel_turns.proofs.serving.serve_next.Goals as goal

pub returns-then-is_log-clause-serves : goal.returns-then-is_log-clause-serves
returns-then-is_log-clause-serves g c = on_ok c.gather.result (λ served. served c.args.outboxes.now) c.gather.ensures.serves

pub returns-then-is_log-clause-stops : goal.returns-then-is_log-clause-stops
returns-then-is_log-clause-stops g c =
    on_err c.gather.result (λ same. stops_at_first c.args.channel c.args.moment c.args.gathered.now c.args.msg _ _ (same_side same.0 same.1 (ap g.F.Folder.told same.2))) c.gather.ensures.unserved

pub returns-then-is_log-clause-admitted : goal.returns-then-is_log-clause-admitted
returns-then-is_log-clause-admitted g c =
    let one = one_frame c.args.core.now.ecu c.args.msg (c.is_log.ensures c.if-is_log.true c.requires.fit) in
    on_ok c.gather.result (λ so. omega (arith, so, one)) c.gather.ensures.admitted

pub serve_one-requires-clause-few : goal.serve_one-requires-clause-few
serve_one-requires-clause-few g c = few_with c.args.core.now.ecu c.serve_gathered.new.core.ecu c.args.msg _ _ _ _ _ c.serve_gathered.ensures.ecu c.serve_gathered.ensures.admitted c.requires.few

pub returns-in-Ok-clause-serves : goal.returns-in-Ok-clause-serves
returns-in-Ok-clause-serves g c =
    on_ok c.serve_one.result (λ one. served_then c.args.channel c.args.moment c.args.gathered.now c.serve_gathered.new.gathered c.args.msg _ _ _ c.in-Ok.ensures.none (c.in-Ok.ensures.serves c.args.outboxes.now) one)
    c.serve_one.ensures.serves

pub returns-in-Ok-clause-stops : goal.returns-in-Ok-clause-stops
returns-in-Ok-clause-stops g c =
    on_err c.serve_one.result (λ same. stops_at_last c.args.channel c.args.moment c.args.gathered.now c.serve_gathered.new.gathered c.args.msg _ _ _ c.in-Ok.ensures.none (c.in-Ok.ensures.serves c.args.outboxes.now) same)
    c.serve_one.ensures.unserved

pub returns-in-Err-clause-stops : goal.returns-in-Err-clause-stops
returns-in-Err-clause-stops g c =
    let same = c.in-Err.ensures.unserved in
    stops_at_first c.args.channel c.args.moment c.args.gathered.now c.args.msg _ _ (same_side same.0 same.1 (ap g.F.Folder.told same.2))
