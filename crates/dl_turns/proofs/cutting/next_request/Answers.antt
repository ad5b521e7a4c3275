use Rattle.std.proofs.Common.{◌≡◌, ◌++◌, true, false, sym, ap, subst, ◌∙◌, arith}
use Rattle.std.proofs.lemmas.List.{take_rest}
use Rattle.dl_bytes.specs.Limits.{message_limit}
use Rattle.dl_message.specs.Cut.{IsWholeMessage}
use Rattle.dl_message.specs.Requests.{asks}
use Rattle.dl_message.specs.declared.cutter.Cut.TheVariants.{Message, NeedMore, Bad}
use Rattle.dl_message.proofs.Calls.{cuts_limit}
use Rattle.dl_turns.proofs.SentBytes.{fewer, finds_bad, finds_none, finds_request, goes_on, passes_over, sets_out, shorter, whole_now}
use Rattle.dl_turns.proofs.cutting.next_request.Goals as goal

pub loop-cutter-init : goal.loop-cutter-init
loop-cutter-init c = sets_out c.args.piece.now c.args.cutter.now c.requires

pub is_request-requires : goal.is_request-requires
is_request-requires c =
    subst (IsWholeMessage message_limit) (sym c.message.ensures)
    (whole_now (c.args.cutter.now.unread ++ c.args.piece.now) c.args.piece.now c.loop-cutter.taken c.loop-cutter.cutter c.next.new.self c.loop-cutter.invariant
    c.in-Message.ensures.answer (c.next.ensures.whole c.in-Message.is))

pub returns-in-Message-clause-limit : goal.returns-in-Message-clause-limit
returns-in-Message-clause-limit c = cuts_limit c.loop-cutter.cutter c.next.new.self Message c.in-Message.ensures.answer ∙ c.loop-cutter.invariant.limit

pub returns-in-Message-clause-finds : goal.returns-in-Message-clause-finds
returns-in-Message-clause-finds c =
    let asking : asks c.next.new.self.message ≡ true = ap asks (sym c.message.ensures) ∙ sym c.is_request.ensures ∙ c.if-is_request.true in
    finds_request (c.args.cutter.now.unread ++ c.args.piece.now) c.args.piece.now c.loop-cutter.taken c.loop-cutter.cutter c.next.new.self c.loop-cutter.invariant
    c.in-Message.ensures.answer asking (c.next.ensures.whole c.in-Message.is)

pub loop-cutter-smaller-else-is_request : goal.loop-cutter-smaller-else-is_request
loop-cutter-smaller-else-is_request c = omega (arith, shorter c.loop-cutter.cutter c.next.new.self c.in-Message.ensures.answer)

pub loop-cutter-preserved-else-is_request : goal.loop-cutter-preserved-else-is_request
loop-cutter-preserved-else-is_request c =
    let other : asks c.next.new.self.message ≡ false = ap asks (sym c.message.ensures) ∙ sym c.is_request.ensures ∙ c.if-is_request.false in
    passes_over (c.args.cutter.now.unread ++ c.args.piece.now) c.args.piece.now c.loop-cutter.taken c.loop-cutter.cutter c.next.new.self c.loop-cutter.invariant
    c.in-Message.ensures.answer other

pub returns-in-NeedMore-clause-limit : goal.returns-in-NeedMore-clause-limit
returns-in-NeedMore-clause-limit c = cuts_limit c.loop-cutter.cutter c.next.new.self NeedMore c.in-NeedMore.ensures.answer ∙ c.loop-cutter.invariant.limit

pub returns-in-NeedMore-clause-finds : goal.returns-in-NeedMore-clause-finds
returns-in-NeedMore-clause-finds c =
    finds_none (c.args.cutter.now.unread ++ c.args.piece.now) c.args.piece.now c.loop-cutter.taken c.loop-cutter.cutter c.next.new.self c.loop-cutter.invariant
    c.in-NeedMore.ensures.answer c.if-taken-piece.true

pub loop-cutter-smaller : goal.loop-cutter-smaller
loop-cutter-smaller c =
    fewer (c.args.cutter.now.unread ++ c.args.piece.now) c.args.piece.now c.loop-cutter.taken c.loop-cutter.cutter c.next.new.self c.loop-cutter.invariant
    c.in-NeedMore.ensures.answer _ c.feed-taken.result c.feed-taken.new.self (take_rest c.args.piece.now c.loop-cutter.taken) c.feed-taken.ensures
    (omega (arith, c.loop-cutter.invariant.within, c.if-taken-piece.false))

pub loop-cutter-preserved : goal.loop-cutter-preserved
loop-cutter-preserved c =
    goes_on (c.args.cutter.now.unread ++ c.args.piece.now) c.args.piece.now c.loop-cutter.taken c.loop-cutter.cutter c.next.new.self c.loop-cutter.invariant
    c.in-NeedMore.ensures.answer _ c.feed-taken.result c.feed-taken.new.self (take_rest c.args.piece.now c.loop-cutter.taken) c.feed-taken.ensures

pub returns-in-Bad-clause-limit : goal.returns-in-Bad-clause-limit
returns-in-Bad-clause-limit c = cuts_limit c.loop-cutter.cutter c.next.new.self (Bad c.in-Bad.field-0) c.in-Bad.ensures.answer ∙ c.loop-cutter.invariant.limit

pub returns-in-Bad-clause-finds : goal.returns-in-Bad-clause-finds
returns-in-Bad-clause-finds c =
    finds_bad (c.args.cutter.now.unread ++ c.args.piece.now) c.args.piece.now c.loop-cutter.taken c.loop-cutter.cutter c.next.new.self c.loop-cutter.invariant
    c.in-Bad.field-0 c.in-Bad.ensures.answer
