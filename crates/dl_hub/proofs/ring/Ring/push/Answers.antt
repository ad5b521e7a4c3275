use Rattle.std.proofs.Common.{◌≡◌, ◌≤◌, ◌+◌, ◌-◌, ◌++◌, ◌∷◌, [], length, length-append, length-drop, drop, sym, ap, subst, arith}
use Rattle.std.proofs.lemmas.List.{drop-append-le, take-append-le}
use Rattle.dl_hub.specs.State.{added}
use Rattle.dl_hub.specs.Untaken.{IsKept}
use Rattle.dl_hub.proofs.Untaken.{begun_short, pushed-kept, filled, on_ok}
use Rattle.dl_hub.proofs.ring.Ring.push.Goals as goal

pub invariant_of-self : goal.invariant_of-self
invariant_of-self c =
    let inner = c.self.inside.inner in
    let kept = c.self.invariant.0 in
    let begun = begun_short c.self.inside.begun c.self.inside.due.items kept.short in
    let waits : length (drop c.self.inside.begun inner.items) + length c.args.frame.now ≤ inner.capacity - 65535 = subst (λ w. length w.bytes + length c.args.frame.now ≤ w.capacity) (sym c.self.view_is) c.requires.room in
    let more : length inner.items - c.self.inside.begun + length c.args.frame.now ≤ inner.capacity - 65535 = omega (arith, waits, length-drop c.self.inside.begun inner.items) in
    let room : length inner.items + length c.args.frame.now ≤ inner.capacity = omega (arith, more, begun, c.self.invariant.1, c.self.invariant.2) in
    let it = pushed-kept c.self.inside.begun (length inner.items - c.self.inside.begun) (inner.capacity - 65535) c.self.inside.due.items c.self.inside.due.capacity (length c.args.frame.now) c.args.messages kept more c.requires.size.0 c.requires.size.1 in
    let bytes = filled c.fill_from_slice-all.new.self inner.items c.args.frame.now inner.capacity c.fill_from_slice-all.result c.fill_from_slice-all.ensures.count c.fill_from_slice-all.ensures.items room in
    let due = on_ok c.try_push_back-fits.result _ c.try_push_back-fits.ensures.ok (c.try_push_back-fits.ensures.variant.1 it.1) in
    let same : length inner.items - c.self.inside.begun + length c.args.frame.now ≡ length inner.items + length c.args.frame.now - c.self.inside.begun = omega (arith, c.self.invariant.1) in
    rw (bytes, due, length-append inner.items c.args.frame.now) (
      subst (λ n. IsKept c.self.inside.begun n (inner.capacity - 65535) (c.self.inside.due.items ++ (length c.args.frame.now, c.args.messages) ∷ []) c.self.inside.due.capacity) same it.0,
      omega (arith, c.self.invariant.1),
      c.self.invariant.2,
    )

pub returns : goal.returns
returns c =
    let inner = c.self.inside.inner in
    let kept = c.self.invariant.0 in
    let begun = begun_short c.self.inside.begun c.self.inside.due.items kept.short in
    let waits : length (drop c.self.inside.begun inner.items) + length c.args.frame.now ≤ inner.capacity - 65535 = subst (λ w. length w.bytes + length c.args.frame.now ≤ w.capacity) (sym c.self.view_is) c.requires.room in
    let more : length inner.items - c.self.inside.begun + length c.args.frame.now ≤ inner.capacity - 65535 = omega (arith, waits, length-drop c.self.inside.begun inner.items) in
    let room : length inner.items + length c.args.frame.now ≤ inner.capacity = omega (arith, more, begun, c.self.invariant.1, c.self.invariant.2) in
    let it = pushed-kept c.self.inside.begun (length inner.items - c.self.inside.begun) (inner.capacity - 65535) c.self.inside.due.items c.self.inside.due.capacity (length c.args.frame.now) c.args.messages kept more c.requires.size.0 c.requires.size.1 in
    let bytes = filled c.fill_from_slice-all.new.self inner.items c.args.frame.now inner.capacity c.fill_from_slice-all.result c.fill_from_slice-all.ensures.count c.fill_from_slice-all.ensures.items room in
    let due = on_ok c.try_push_back-fits.result _ c.try_push_back-fits.ensures.ok (c.try_push_back-fits.ensures.variant.1 it.1) in
    rw (bytes, due, drop-append-le c.self.inside.begun inner.items c.args.frame.now c.self.invariant.1, take-append-le c.self.inside.begun inner.items c.args.frame.now c.self.invariant.1)
    (ap (added c.args.frame.now ((length c.args.frame.now, c.args.messages) ∷ [])) c.self.view_is)
