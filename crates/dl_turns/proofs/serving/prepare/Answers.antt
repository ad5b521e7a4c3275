use Rattle.std.proofs.Common.{rules, ◌≡◌, ◌≤◌, ◌+◌, ℕ, List, length, subst, ◌∙◌, arith}
use Rattle.std.specs.Prelude.{IsSomeAnd}
use Rattle.dl_hub.specs.State as hub
use Rattle.dl_hub.specs.State.{outbox_of}
use Rattle.dl_core.specs.Serving.{reply_now, served_now}
use Rattle.dl_core.specs.Waiting.{waiting}
use Rattle.dl_turns.proofs.ServedRequests.{has_room, too_many}
use Rattle.dl_turns.proofs.serving.prepare.Goals as goal

pub returns-then-not-may_ask-clause-refused : goal.returns-then-not-may_ask-clause-refused
returns-then-not-may_ask-clause-refused g c = too_many c.args.core.now.hub c.args.client c.requires.counted c.requires.open (λ may. absurd (cc (c.if-not-may_ask.ensures.1 may)))

pub returns-in-Ok-prepare-clause-ready : goal.returns-in-Ok-prepare-clause-ready
returns-in-Ok-prepare-clause-ready g c =
    let core = c.args.core.now in
    let client = c.args.client in
    let is = c.in-Ok-prepare.ensures in
    let frame : c.in-Ok-prepare.ready.frame ≡ c.args.message.now = is.client.1 ∙ c.in-Some.ensures in
    let room = subst (λ (h : hub.Hub). IsSomeAnd (outbox_of h client) (λ b. c.room-room.result + length b.bytes ≡ b.capacity)) c.hub.ensures c.room-room.ensures.value in
    record {
      few = c.may_ask.ensures.0 (search rules);
      room = λ answer.
          let need = c.in-Ok.ensures.size answer in
          has_room (outbox_of core.hub client) c.room-room.result (length (reply_now core c.args.message.now answer)) room (omega (arith, need, c.if-room-need.false));
      of_client = is.client.0;
      of_frame = frame;
      is_ready = is.ready;
      reserved = λ answer. subst (λ (f : List ℕ). g.J.Journal.spare c.args.journal.now + 1 + waiting (served_now core f answer) ≤ g.J.Journal.spare c.prepare.new.journal) frame (is.reserved answer);
    }
