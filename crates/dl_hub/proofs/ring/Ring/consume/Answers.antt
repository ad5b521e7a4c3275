use Rattle.std.proofs.Common.{◌≡◌, ◌≤◌, ◌+◌, ◌-◌, ◌∙◌, length, length-drop, take, drop, refl, sym, ap, subst, arith}
use Rattle.std.proofs.lemmas.List.{take-append-drop}
use Rattle.dl_hub.specs.State.{consumed}
use Rattle.dl_hub.specs.Untaken.{IsKept, in_front, past}
use Rattle.dl_hub.proofs.Untaken.{begun_wait, drop_again, dropped, few, front_within, taken-kept}
use Rattle.dl_hub.proofs.ring.Ring.consume.Goals as goal

pub invariant_of-self : goal.invariant_of-self
invariant_of-self c =
    let inner = c.self.inside.inner.items in
    let k = in_front c.self.inside.begun c.args.count c.self.inside.due.items in
    let within : c.args.count ≤ length (drop c.self.inside.begun inner) = subst (λ w. c.args.count ≤ length w.bytes) (sym c.self.view_is) c.requires in
    let fits : c.args.count ≤ length inner - c.self.inside.begun = omega (arith, within, length-drop c.self.inside.begun inner) in
    let most = front_within c.self.inside.begun c.args.count c.self.inside.due.items in
    let it = taken-kept c.self.inside.begun (length inner - c.self.inside.begun) (c.self.inside.inner.capacity - 65535) c.self.inside.due.items c.self.inside.due.capacity c.args.count c.self.invariant.0 fits in
    let same : length inner - c.self.inside.begun - c.args.count ≡ length (drop (c.self.inside.begun + c.args.count - k) inner) - k = omega (arith, length-drop (c.self.inside.begun + c.args.count - k) inner, most, fits, c.self.invariant.1) in
    rw (c.take_bytes.ensures, c.take_due-self-inside.ensures.due, c.take_due-self-inside.ensures.front) (
      subst (λ n. IsKept k n (c.self.inside.inner.capacity - 65535) (past c.args.count c.self.inside.due.items) c.self.inside.due.capacity) same it,
      omega (arith, length-drop (c.self.inside.begun + c.args.count - k) inner, most, fits, c.self.invariant.1),
      c.self.invariant.2,
    )

pub returns : goal.returns
returns c =
    let inner = c.self.inside.inner.items in
    let k = in_front c.self.inside.begun c.args.count c.self.inside.due.items in
    let most = front_within c.self.inside.begun c.args.count c.self.inside.due.items in
    let has = begun_wait c.self.inside.begun inner c.self.invariant.1 in
    let bytes : drop k (drop (c.self.inside.begun + c.args.count - k) inner) ≡ drop c.args.count (drop c.self.inside.begun inner) = dropped (c.self.inside.begun + c.args.count) k inner most ∙ sym (drop_again c.self.inside.begun c.args.count inner) in
    let seen : consumed c.args.count (record { bytes = drop c.self.inside.begun inner; capacity = c.self.inside.inner.capacity - 65535; due = c.self.inside.due.items; begun = take c.self.inside.begun inner })
    ≡ record { bytes = drop c.args.count (drop c.self.inside.begun inner); capacity = c.self.inside.inner.capacity - 65535; due = past c.args.count c.self.inside.due.items; begun = take k (drop (c.self.inside.begun + c.args.count - k) inner) }
    = rw (has.0, take-append-drop c.self.inside.begun inner) refl in
    rw (c.take_bytes.ensures, c.take_due-self-inside.ensures.due, c.take_due-self-inside.ensures.front, bytes)
    (sym seen ∙ ap (consumed c.args.count) c.self.view_is)

pub overflow_add-taken : goal.overflow_add-taken
overflow_add-taken c =
    let inner = c.self.inside.inner.items in
    let within : c.args.count ≤ length (drop c.self.inside.begun inner) = subst (λ w. c.args.count ≤ length w.bytes) (sym c.self.view_is) c.requires in
    let fits : c.args.count ≤ length inner - c.self.inside.begun = omega (arith, within, length-drop c.self.inside.begun inner) in
    omega (arith, fits, c.self.invariant.1, c.len-held.ensures.len, c.len-held.ensures.within)

pub take_due-self-inside-requires-clause-room : goal.take_due-self-inside-requires-clause-room
take_due-self-inside-requires-clause-room c = omega (arith, few c.self.inside.due.items c.self.invariant.0.large, c.self.invariant.0.all, c.self.invariant.0.within, c.self.invariant.0.enough)

pub overflow_sub-taken : goal.overflow_sub-taken
overflow_sub-taken c = omega (arith, front_within c.self.inside.begun c.args.count c.self.inside.due.items, c.take_due-self-inside.ensures.front)
