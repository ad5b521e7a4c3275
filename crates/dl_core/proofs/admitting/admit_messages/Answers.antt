use Rattle.std.proofs.Common.{◌≡◌, ◌∷◌, List, drop, refl, sym, ap, subst, ◌∙◌}
use Rattle.circular_buffer.specs.Buffer.{Buffer}
use Rattle.dl_bytes.specs.declared.user.UserMsg.{UserMsg}
use Rattle.dl_core.specs.Admission.{Admits, message_frames}
use Rattle.dl_core.proofs.GatheredMessages.{GatheredMessages, gathers_message, gathers_none, none_popped, popped, whole_batch}
use Rattle.dl_core.proofs.admitting.admit_messages.Goals as goal

pub loop-msg-init : goal.loop-msg-init
loop-msg-init g c = record {
  so = gathers_none c.args.ecu c.args.moment c.args.channel c.args.msgs.now.items c.args.hub.now c.args.writer.now _ _ _ c.requires.logs c.requires.empty c.requires.room;
  capacity = refl;
}

pub loop-msg-preserved : goal.loop-msg-preserved
loop-msg-preserved g c =
    let msg = c.in-Some.msg in
    let left = c.pop_front.new.self.items in
    let behind : left ≡ drop 1 c.loop-msg.msgs.items = ap (λ (b : Buffer UserMsg). b.items) c.pop_front.ensures.items in
    let here : c.loop-msg.msgs.items ≡ msg ∷ left = popped c.loop-msg.msgs.items msg c.in-Some.ensures.value ∙ ap (λ (ms : List UserMsg). msg ∷ ms) (sym behind) in
    let far = subst (λ (ms : List UserMsg). GatheredMessages c.args.ecu c.args.moment c.args.channel c.args.msgs.now.items ms c.args.hub.now c.loop-msg.hub c.args.writer.now c.loop-msg.writer
    (g.J.Journal.events c.args.journal.now) (g.J.Journal.events c.loop-msg.journal) (g.J.Journal.noted c.args.journal.now) (g.J.Journal.noted c.loop-msg.journal)
    (g.J.Journal.spare c.args.journal.now) (g.J.Journal.spare c.loop-msg.journal)) here c.loop-msg.invariant.so in
    record {
      so = gathers_message c.args.ecu c.args.moment c.args.channel c.args.msgs.now.items left msg c.frame_of-frame.result.now c.args.hub.now c.loop-msg.hub c.admit.new.self
          c.args.writer.now c.loop-msg.writer c.add_to_batch.new.writer _ _ _ _ _ _ _ _ _ far c.frame_of-frame.ensures.frame
          c.admit.ensures.adds c.admit.ensures.rooms c.admit.ensures.same c.admit.ensures.open c.admit.ensures.replies c.admit.ensures.count
          c.add_to_batch.ensures.trace c.add_to_batch.ensures.batch c.note.ensures.events c.note.ensures.noted c.note.ensures.spare;
      capacity = ap (λ (b : Buffer UserMsg). b.capacity) c.pop_front.ensures.items ∙ c.loop-msg.invariant.capacity;
    }

pub returns-clause-adds : goal.returns-clause-adds
returns-clause-adds g c =
    let so = c.loop-msg.invariant.so in
    let all = whole_batch c.args.msgs.now.items c.loop-msg.msgs.items so.done so.all_is (none_popped c.loop-msg.msgs.items c.in_default.ensures.value) in
    subst (λ (ms : List UserMsg). Admits (message_frames c.args.ecu ms) c.args.hub.now c.loop-msg.hub) all so.adds
