use Rattle.std.proofs.Common.{◌≡◌, ◌-◌, ◌++◌, List, ℕ, drop, take, length, sym, ap, subst, arith}
use Rattle.std.proofs.lemmas.List.{take_rest}
use Rattle.std.specs.Result.{result_err}
use Rattle.dl_user.specs.Cut.{Begins}
use Rattle.dl_channel_turns.proofs.ServedMessages.{few_frames, few_next, goes_to_end, goes_to_stop, no_logs, serves_next, shorter, starts}
use Rattle.dl_channel_turns.proofs.serving.serve_each.Goals as goal

pub loop-msg-init : goal.loop-msg-init
loop-msg-init g c = record {
  settled = c.requires.settled;
  few = omega (arith, c.requires.few, ap length c.requires.none);
  logs = no_logs c.args.gathered.now c.requires.none;
  far = starts c.args.channel c.args.moment _ c.args.gathered.now _ c.requires.none;
}

pub serve_next-requires-clause-fit : goal.serve_next-requires-clause-fit
serve_next-requires-clause-fit g c = c.in-Message.ensures.1.1.fit

pub serve_next-requires-clause-settled : goal.serve_next-requires-clause-settled
serve_next-requires-clause-settled g c = c.loop-msg.invariant.settled

pub serve_next-requires-clause-logs : goal.serve_next-requires-clause-logs
serve_next-requires-clause-logs g c = c.loop-msg.invariant.logs

pub serve_next-requires-clause-few : goal.serve_next-requires-clause-few
serve_next-requires-clause-few g c =
    let bytes = c.loop-msg.inbox.unread ++ c.loop-msg.rest.now in
    few_next c.loop-msg.core.ecu bytes _ c.in-Message.msg _ _ _ c.in-Message.ensures.1 c.loop-msg.invariant.few

pub loop-msg-smaller : goal.loop-msg-smaller
loop-msg-smaller g c =
    let bytes = c.loop-msg.inbox.unread ++ c.loop-msg.rest.now in
    let unread = c.next.new.self.unread in
    let rest = take (length c.loop-msg.rest.now - c.in-Message.taken) (drop c.in-Message.taken c.loop-msg.rest.now) in
    let same : rest ≡ drop c.in-Message.taken c.loop-msg.rest.now = take_rest c.loop-msg.rest.now c.in-Message.taken in
    let begins : Begins bytes c.in-Message.msg (unread ++ rest) = subst (λ (x : List ℕ). Begins bytes c.in-Message.msg (unread ++ x)) (sym same) c.in-Message.ensures.1 in
    omega (arith, shorter bytes (unread ++ rest) c.in-Message.msg begins)

pub loop-msg-preserved : goal.loop-msg-preserved
loop-msg-preserved g c =
    let so = c.loop-msg.invariant in
    let bytes = c.loop-msg.inbox.unread ++ c.loop-msg.rest.now in
    let unread = c.next.new.self.unread in
    let msg = c.in-Message.msg in
    let rest = take (length c.loop-msg.rest.now - c.in-Message.taken) (drop c.in-Message.taken c.loop-msg.rest.now) in
    let same : rest ≡ drop c.in-Message.taken c.loop-msg.rest.now = take_rest c.loop-msg.rest.now c.in-Message.taken in
    let begins : Begins bytes msg (unread ++ rest) = subst (λ (x : List ℕ). Begins bytes msg (unread ++ x)) (sym same) c.in-Message.ensures.1 in
    record {
      settled = c.serve_next.ensures.settled;
      few = omega (arith, so.few, c.in-Ok.ensures.admitted, shorter bytes (unread ++ rest) msg begins, few_frames c.loop-msg.core.ecu bytes (unread ++ rest) msg begins);
      logs = c.in-Ok.ensures.logs;
      far = serves_next c.args.channel c.args.moment _ bytes (unread ++ rest) c.loop-msg.gathered c.serve_next.new.gathered msg _ _ _ begins so.far c.in-Ok.ensures.serves;
    }

pub returns-in-Err-clause-serves : goal.returns-in-Err-clause-serves
returns-in-Err-clause-serves g c =
    goes_to_stop c.args.channel c.args.moment _ _ _ c.loop-msg.gathered c.in-Message.msg c.next.new.self _ _ _ c.in-Message.ensures.1 c.loop-msg.invariant.far c.in-Err.end c.in-Err.ensures.cause c.in-Err.ensures.stops

pub finish-requires-clause-settled : goal.finish-requires-clause-settled
finish-requires-clause-settled g c = c.loop-msg.invariant.settled

pub finish-requires-clause-logs : goal.finish-requires-clause-logs
finish-requires-clause-logs g c = c.loop-msg.invariant.logs

pub finish-requires-clause-few : goal.finish-requires-clause-few
finish-requires-clause-few g c = omega (arith, c.loop-msg.invariant.few)

pub returns-in-NoMore-clause-serves : goal.returns-in-NoMore-clause-serves
returns-in-NoMore-clause-serves g c =
    goes_to_end c.args.channel c.args.moment _ _ c.loop-msg.gathered c.next.new.self _ _ _ _ (result_err c.finish.result) c.loop-msg.invariant.far (c.finish.ensures.serves c.loop-msg.outboxes) c.in-NoMore.ensures

pub finish-requires-in-Bad-clause-settled : goal.finish-requires-in-Bad-clause-settled
finish-requires-in-Bad-clause-settled g c = c.loop-msg.invariant.settled

pub finish-requires-in-Bad-clause-logs : goal.finish-requires-in-Bad-clause-logs
finish-requires-in-Bad-clause-logs g c = c.loop-msg.invariant.logs

pub finish-requires-in-Bad-clause-few : goal.finish-requires-in-Bad-clause-few
finish-requires-in-Bad-clause-few g c = omega (arith, c.loop-msg.invariant.few)

pub returns-in-Bad-clause-serves : goal.returns-in-Bad-clause-serves
returns-in-Bad-clause-serves g c =
    goes_to_end c.args.channel c.args.moment _ _ c.loop-msg.gathered c.next.new.self _ _ _ _ (result_err c.finish-in-Bad.result) c.loop-msg.invariant.far (c.finish-in-Bad.ensures.serves c.loop-msg.outboxes) c.in-Bad.ensures

pub finish-requires-in-NoMemory-clause-settled : goal.finish-requires-in-NoMemory-clause-settled
finish-requires-in-NoMemory-clause-settled g c = c.loop-msg.invariant.settled

pub finish-requires-in-NoMemory-clause-logs : goal.finish-requires-in-NoMemory-clause-logs
finish-requires-in-NoMemory-clause-logs g c = c.loop-msg.invariant.logs

pub finish-requires-in-NoMemory-clause-few : goal.finish-requires-in-NoMemory-clause-few
finish-requires-in-NoMemory-clause-few g c = omega (arith, c.loop-msg.invariant.few)

pub returns-in-NoMemory-clause-serves : goal.returns-in-NoMemory-clause-serves
returns-in-NoMemory-clause-serves g c =
    goes_to_end c.args.channel c.args.moment _ _ c.loop-msg.gathered c.next.new.self _ _ _ _ (result_err c.finish-in-NoMemory.result) c.loop-msg.invariant.far (c.finish-in-NoMemory.ensures.serves c.loop-msg.outboxes) c.in-NoMemory.ensures
