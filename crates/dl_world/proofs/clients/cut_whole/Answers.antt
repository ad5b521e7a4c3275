use Rattle.std.proofs.Common.{◌≡◌, ℕ, List, true, false, ◌++◌, ◌∷◌, [], sym, ap, subst, ◌∙◌}
use Rattle.std.specs.List.{All}
use Rattle.dl_bytes.specs.Limits.{message_limit}
use Rattle.dl_message.proofs.Calls.{cuts_limit}
use Rattle.dl_core.specs.Serving.{IsRequest}
use Rattle.dl_message.specs.Cut.{IsWholeMessage}
use Rattle.dl_message.specs.Requests.{asks}
use Rattle.dl_message.specs.declared.cutter.Cut.TheVariants.{Message}
use Rattle.dl_world.proofs.FedClients.{Gave, gave_none, gave_request, gave_other, gave_all, is_request_too, stands_now, whole_now}
use Rattle.dl_world.proofs.clients.cut_whole.Goals as goal

pub loop-cutter-init : goal.loop-cutter-init
loop-cutter-init c = record { limit = c.requires; gave = gave_none c.args.cutter.now.unread c.args.requests.now.items; each = λ each. each }

pub is_request-requires : goal.is_request-requires
is_request-requires c =
    subst (IsWholeMessage message_limit) (sym c.message-message.ensures) (whole_now c.loop-cutter.cutter c.next.new.self c.in-Message.ensures.answer c.loop-cutter.invariant.limit (c.next.ensures.whole c.in-Message.is))

pub loop-cutter-preserved : goal.loop-cutter-preserved
loop-cutter-preserved c =
    let other : asks c.next.new.self.message ≡ false = ap asks (sym c.message-message.ensures) ∙ sym c.is_request.ensures ∙ c.if-is_request.false in
    record {
      limit = cuts_limit c.loop-cutter.cutter c.next.new.self Message c.in-Message.ensures.answer ∙ c.loop-cutter.invariant.limit;
      gave = gave_other c.args.cutter.now.unread c.args.requests.now.items c.loop-cutter.requests.items c.loop-cutter.cutter c.next.new.self c.loop-cutter.invariant.limit c.in-Message.ensures.answer c.loop-cutter.invariant.gave other;
      each = c.loop-cutter.invariant.each;
    }

pub loop-cutter-preserved-in_ok-push : goal.loop-cutter-preserved-in_ok-push
loop-cutter-preserved-in_ok-push c =
    let before = c.loop-cutter.requests.items in
    let message = c.next.new.self.message in
    let asking : asks message ≡ true = ap asks (sym c.message-message.ensures) ∙ sym c.is_request.ensures ∙ c.if-is_request.true in
    let pushed : c.push.new.self.items ≡ before ++ message ∷ [] =
    c.in_ok-push.ensures.items ∙ ap (λ (m : List ℕ). before ++ m ∷ []) (c.over.ensures ∙ c.in_ok-from_slice.ensures.items ∙ c.message-message.ensures) in
    let whole = whole_now c.loop-cutter.cutter c.next.new.self c.in-Message.ensures.answer c.loop-cutter.invariant.limit (c.next.ensures.whole c.in-Message.is) in
    let gave = gave_request c.args.cutter.now.unread c.args.requests.now.items before c.loop-cutter.cutter c.next.new.self c.loop-cutter.invariant.limit c.in-Message.ensures.answer c.loop-cutter.invariant.gave asking in
    record {
      limit = cuts_limit c.loop-cutter.cutter c.next.new.self Message c.in-Message.ensures.answer ∙ c.loop-cutter.invariant.limit;
      gave = subst (Gave c.args.cutter.now.unread c.next.new.self.unread c.args.requests.now.items) (sym pushed) gave;
      each = λ each. subst (All IsRequest) (sym pushed) (is_request_too before message whole asking (c.loop-cutter.invariant.each each));
    }

pub returns : goal.returns
returns c =
    let answer = c.next.ensures.answer in
    let gave = gave_all c.args.cutter.now.unread c.args.requests.now.items c.loop-cutter.requests.items c.loop-cutter.cutter c.next.new.self c.next.result c.in_default.not-Message answer c.loop-cutter.invariant.gave in
    record {
      limit = cuts_limit c.loop-cutter.cutter c.next.new.self c.next.result answer ∙ c.loop-cutter.invariant.limit;
      gives = (gave.given, gave.cut, gave.asked);
      stops = stands_now c.loop-cutter.cutter c.next.new.self c.next.result c.in_default.not-Message c.loop-cutter.invariant.limit answer;
      each = c.loop-cutter.invariant.each;
    }
