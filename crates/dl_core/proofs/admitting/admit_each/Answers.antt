use Rattle.std.proofs.Common.{◌≡◌, ◌+◌, List, ℕ, sym, ap, subst, ◌∙◌, arith, take, drop, length, map}
use Rattle.std.proofs.Math.Seq.{take-length}
use Rattle.dl_lemmas.proofs.Lists.{item_here}
use Rattle.dl_bytes.specs.declared.item.Item.{Item}
use Rattle.dl_events.specs.Journal as notes
use Rattle.dl_events.specs.declared.event.Event.{Event}
use Rattle.dl_message.specs.Frames.{log_message}
use Rattle.dl_core.specs.Admission.{Admits}
use Rattle.dl_core.proofs.Gathered.{Gathered, gathers_one}
use Rattle.dl_core.proofs.admitting.admit_each.Goals as goal

pub loop-item-preserved : goal.loop-item-preserved
loop-item-preserved g c =
    let k = c.loop-item.item-index in
    let items = c.args.items.now in
    let item = c.item-item.result in
    let here = item_here items k item c.loop-item-test.true c.item-item.is in
    let e0 = g.J.Journal.events c.args.journal.now in
    let e1 = g.J.Journal.events c.loop-item.journal in
    let e2 = g.J.Journal.events c.note.new.self in
    let n0 = g.J.Journal.noted c.args.journal.now in
    let n1 = g.J.Journal.noted c.loop-item.journal in
    let n2 = g.J.Journal.noted c.note.new.self in
    let s0 = g.J.Journal.spare c.args.journal.now in
    let s1 = g.J.Journal.spare c.loop-item.journal in
    let s2 = g.J.Journal.spare c.note.new.self in
    let far = subst (λ (xs : List Item). Gathered c.args.ecu c.args.moment (take k items) xs c.args.hub.now c.loop-item.hub c.args.writer.now c.loop-item.writer e0 e1 n0 n1 s0 s1) here.1 c.loop-item.invariant in
    subst (λ (xs : List Item). Gathered c.args.ecu c.args.moment xs (drop (k + 1) items) c.args.hub.now c.admit.new.self c.args.writer.now c.add_to_batch.new.writer e0 e2 n0 n2 s0 s2) (sym here.0)
    (gathers_one c.args.ecu c.args.moment (take k items) (drop (k + 1) items) item c.bytes-bytes.result.now c.args.hub.now c.loop-item.hub c.admit.new.self c.args.writer.now c.loop-item.writer c.add_to_batch.new.writer
    e0 e1 e2 n0 n1 n2 s0 s1 s2 far (c.bytes-bytes.ensures.value ∙ c.write_log_frame.ensures) c.admit.ensures.adds c.admit.ensures.rooms c.admit.ensures.same c.admit.ensures.open c.admit.ensures.replies c.admit.ensures.count c.add_to_batch.ensures.trace c.add_to_batch.ensures.batch
    (subst (λ (e : Event). notes.Adds e1 e2 e) c.logged.ensures c.note.ensures.events) c.note.ensures.noted c.note.ensures.spare)

pub returns-clause-adds : goal.returns-clause-adds
returns-clause-adds g c =
    let items = c.args.items.now in
    let k = c.loop-item.item-index in
    let all : k ≡ length items = omega arith in
    let whole : take k items ≡ items = ap (λ (n : ℕ). take n items) all ∙ take-length items in
    subst (λ (xs : List Item). Admits (map (log_message c.args.ecu) xs) c.args.hub.now c.loop-item.hub) whole c.loop-item.invariant.adds
