use Rattle.std.proofs.Common.{◌≡◌, ◌∷◌, List, drop, length, refl, sym, ap, subst, ◌∙◌}
use Rattle.circular_buffer.specs.Buffer.{Buffer}
use Rattle.dl_bytes.specs.declared.user.UserMsg.{UserMsg}
use Rattle.dl_core.proofs.GatheredMessages.{none_popped, popped, whole_batch}
use Rattle.dl_admission.specs.Admission.{ForwardsAll, Uses}
use Rattle.dl_admission.specs.Part.{part}
use Rattle.dl_admission.proofs.AllForwarded.{forwarded_none, forwarded_one, log_has_frames, log_is_fit, next_few, next_left, next_settled, next_spare}
use Rattle.dl_admission.proofs.messages.admit_each.Goals as goal

pub loop-msg-init : goal.loop-msg-init
loop-msg-init g c = record { so = forwarded_none c.args.moment c.args.channel c.args.msgs.now.items _ _ _ c.requires.logs; capacity = refl }

pub admit_message-requires-clause-frames : goal.admit_message-requires-clause-frames
admit_message-requires-clause-frames g c =
    let items = c.loop-msg.msgs.items in
    log_has_frames c.in-Some.msg (next_left items (drop 1 items) c.in-Some.msg (popped items c.in-Some.msg c.in-Some.ensures.value) c.loop-msg.invariant.so).logs.0

pub admit_message-requires-clause-fit : goal.admit_message-requires-clause-fit
admit_message-requires-clause-fit g c =
    let items = c.loop-msg.msgs.items in
    log_is_fit c.in-Some.msg (next_left items (drop 1 items) c.in-Some.msg (popped items c.in-Some.msg c.in-Some.ensures.value) c.loop-msg.invariant.so).logs.0

pub admit_message-requires-clause-settled : goal.admit_message-requires-clause-settled
admit_message-requires-clause-settled g c =
    let items = c.loop-msg.msgs.items in
    next_settled (next_left items (drop 1 items) c.in-Some.msg (popped items c.in-Some.msg c.in-Some.ensures.value) c.loop-msg.invariant.so) c.requires.settled

pub admit_message-requires-clause-spare : goal.admit_message-requires-clause-spare
admit_message-requires-clause-spare g c =
    let items = c.loop-msg.msgs.items in
    next_spare (next_left items (drop 1 items) c.in-Some.msg (popped items c.in-Some.msg c.in-Some.ensures.value) c.loop-msg.invariant.so) c.requires.spare

pub admit_message-requires-clause-few : goal.admit_message-requires-clause-few
admit_message-requires-clause-few g c =
    let items = c.loop-msg.msgs.items in
    next_few (next_left items (drop 1 items) c.in-Some.msg (popped items c.in-Some.msg c.in-Some.ensures.value) c.loop-msg.invariant.so) c.requires.few

pub loop-msg-preserved : goal.loop-msg-preserved
loop-msg-preserved g c =
    let items = c.loop-msg.msgs.items in
    let msg = c.in-Some.msg in
    let left = c.pop_front.new.self.items in
    let behind : left ≡ drop 1 items = ap (λ (b : Buffer UserMsg). b.items) c.pop_front.ensures.items in
    let here : items ≡ msg ∷ left = popped items msg c.in-Some.ensures.value ∙ ap (λ (ms : List UserMsg). msg ∷ ms) (sym behind) in
    record {
      so = forwarded_one (next_left items left msg here c.loop-msg.invariant.so)
          (part c.admit_message.new.core (g.J.Journal.events c.admit_message.new.journal) (g.F.Folder.told c.admit_message.new.folder)) _ _ c.admit_message.ensures.forwards c.admit_message.ensures.uses;
      capacity = ap (λ (b : Buffer UserMsg). b.capacity) c.pop_front.ensures.items ∙ c.loop-msg.invariant.capacity;
    }

pub returns-clause-forwards : goal.returns-clause-forwards
returns-clause-forwards g c =
    let so = c.loop-msg.invariant.so in
    let all = whole_batch c.args.msgs.now.items c.loop-msg.msgs.items so.done so.all_is (none_popped c.loop-msg.msgs.items c.in_default.ensures.value) in
    subst (λ (ms : List UserMsg). ForwardsAll c.args.moment c.args.channel ms (part c.args.core.now (g.J.Journal.events c.args.journal.now) (g.F.Folder.told c.args.folder.now))
    (part c.loop-msg.core (g.J.Journal.events c.loop-msg.journal) (g.F.Folder.told c.loop-msg.folder))) all so.forwards

pub returns-clause-uses : goal.returns-clause-uses
returns-clause-uses g c =
    let so = c.loop-msg.invariant.so in
    let all = whole_batch c.args.msgs.now.items c.loop-msg.msgs.items so.done so.all_is (none_popped c.loop-msg.msgs.items c.in_default.ensures.value) in
    subst (λ (ms : List UserMsg). Uses (length ms) c.args.core.now.hub c.loop-msg.core.hub (g.J.Journal.noted c.args.journal.now) (g.J.Journal.noted c.loop-msg.journal)
    (g.J.Journal.spare c.args.journal.now) (g.J.Journal.spare c.loop-msg.journal)) all so.uses
