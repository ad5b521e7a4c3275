use Rattle.std.proofs.Common.{◌≡◌, ◌≤◌, ◌-◌, ◌∙◌, [], length, length-drop, take, drop, sym, ap, subst, arith}
use Rattle.dl_hub.specs.Untaken.{IsKept}
use Rattle.dl_hub.specs.State.{Waiting}
use Rattle.dl_hub.proofs.Untaken.{begun_wait, filled-both, kept_places, no_items, nothing_kept}
use Rattle.dl_hub.proofs.ring.Ring.take_over.Goals as goal

pub invariant_of-self : goal.invariant_of-self
invariant_of-self c =
    let inner = c.self.inside.inner.items in
    let its = c.other.inside.inner.items in
    let empty : drop c.self.inside.begun inner ≡ [] = ap (λ w. w.bytes) c.self.view_is ∙ c.requires.empty in
    let no_bytes : length inner - c.self.inside.begun ≡ 0 = sym (length-drop c.self.inside.begun inner) ∙ ap length empty in
    let none = nothing_kept c.self.inside.begun (length inner - c.self.inside.begun) (c.self.inside.inner.capacity - 65535) c.self.inside.due.capacity c.self.inside.due.items c.self.invariant.0 no_bytes in
    let nothing : inner ≡ [] = no_items inner (omega (arith, no_bytes, none.1)) in
    let whole : take c.other.inside.begun its ≡ [] = ap (λ w. w.begun) c.other.view_is ∙ c.requires.whole in
    let unbegun : c.other.inside.begun ≡ 0 = sym (begun_wait c.other.inside.begun its c.other.invariant.1).0 ∙ ap length whole in
    let waits : length (drop c.other.inside.begun its) ≤ c.self.inside.inner.capacity - 65535 =
    subst (λ w. length w.bytes ≤ c.self.inside.inner.capacity - 65535) (sym c.other.view_is) (subst (λ w. length c.args.other.now.bytes ≤ w.capacity) (sym c.self.view_is) c.requires.room) in
    let room : length its ≤ c.self.inside.inner.capacity - 65535 = omega (arith, waits, length-drop c.other.inside.begun its, unbegun) in
    let kept : IsKept 0 (length its) (c.other.inside.inner.capacity - 65535) c.other.inside.due.items c.other.inside.due.capacity =
    subst (λ n. IsKept 0 n (c.other.inside.inner.capacity - 65535) c.other.inside.due.items c.other.inside.due.capacity) (omega arith) (subst (λ b. IsKept b (length its - b) (c.other.inside.inner.capacity - 65535) c.other.inside.due.items c.other.inside.due.capacity) unbegun c.other.invariant.0) in
    let it = kept_places 0 (length its) (c.self.inside.inner.capacity - 65535) (c.other.inside.inner.capacity - 65535) c.other.inside.due.capacity c.self.inside.due.capacity c.other.inside.due.items kept room c.self.invariant.0.enough in
    let bytes = filled-both c.fill_from_slice-first.new.self c.fill_from_slice-second.new.self c.as_slices.result.0.now c.as_slices.result.1.now its c.self.inside.inner.capacity c.fill_from_slice-first.result c.fill_from_slice-second.result
    (rw nothing at c.fill_from_slice-first.ensures.count) (rw nothing at c.fill_from_slice-first.ensures.items) c.fill_from_slice-second.ensures.count c.fill_from_slice-second.ensures.items c.as_slices.ensures (omega (arith, room)) in
    let due = filled-both c.fill_from_slice-first_due.new.self c.fill_from_slice-second_due.new.self c.as_slices-2.result.0.now c.as_slices-2.result.1.now c.other.inside.due.items c.self.inside.due.capacity c.fill_from_slice-first_due.result c.fill_from_slice-second_due.result
    (rw none.0 at c.fill_from_slice-first_due.ensures.count) (rw none.0 at c.fill_from_slice-first_due.ensures.items) c.fill_from_slice-second_due.ensures.count c.fill_from_slice-second_due.ensures.items c.as_slices-2.ensures it.1 in
    let all : length its ≡ length its - 0 = omega arith in
    rw (bytes, due, none.1) (subst (λ n. IsKept 0 n (c.self.inside.inner.capacity - 65535) c.other.inside.due.items c.self.inside.due.capacity) all it.0, omega arith, c.self.invariant.2)

pub returns-clause-all : goal.returns-clause-all
returns-clause-all c =
    let inner = c.self.inside.inner.items in
    let its = c.other.inside.inner.items in
    let empty : drop c.self.inside.begun inner ≡ [] = ap (λ w. w.bytes) c.self.view_is ∙ c.requires.empty in
    let no_bytes : length inner - c.self.inside.begun ≡ 0 = sym (length-drop c.self.inside.begun inner) ∙ ap length empty in
    let none = nothing_kept c.self.inside.begun (length inner - c.self.inside.begun) (c.self.inside.inner.capacity - 65535) c.self.inside.due.capacity c.self.inside.due.items c.self.invariant.0 no_bytes in
    let nothing : inner ≡ [] = no_items inner (omega (arith, no_bytes, none.1)) in
    let whole : take c.other.inside.begun its ≡ [] = ap (λ w. w.begun) c.other.view_is ∙ c.requires.whole in
    let unbegun : c.other.inside.begun ≡ 0 = sym (begun_wait c.other.inside.begun its c.other.invariant.1).0 ∙ ap length whole in
    let waits : length (drop c.other.inside.begun its) ≤ c.self.inside.inner.capacity - 65535 =
    subst (λ w. length w.bytes ≤ c.self.inside.inner.capacity - 65535) (sym c.other.view_is) (subst (λ w. length c.args.other.now.bytes ≤ w.capacity) (sym c.self.view_is) c.requires.room) in
    let room : length its ≤ c.self.inside.inner.capacity - 65535 = omega (arith, waits, length-drop c.other.inside.begun its, unbegun) in
    let kept : IsKept 0 (length its) (c.other.inside.inner.capacity - 65535) c.other.inside.due.items c.other.inside.due.capacity =
    subst (λ n. IsKept 0 n (c.other.inside.inner.capacity - 65535) c.other.inside.due.items c.other.inside.due.capacity) (omega arith) (subst (λ b. IsKept b (length its - b) (c.other.inside.inner.capacity - 65535) c.other.inside.due.items c.other.inside.due.capacity) unbegun c.other.invariant.0) in
    let it = kept_places 0 (length its) (c.self.inside.inner.capacity - 65535) (c.other.inside.inner.capacity - 65535) c.other.inside.due.capacity c.self.inside.due.capacity c.other.inside.due.items kept room c.self.invariant.0.enough in
    let bytes = filled-both c.fill_from_slice-first.new.self c.fill_from_slice-second.new.self c.as_slices.result.0.now c.as_slices.result.1.now its c.self.inside.inner.capacity c.fill_from_slice-first.result c.fill_from_slice-second.result
    (rw nothing at c.fill_from_slice-first.ensures.count) (rw nothing at c.fill_from_slice-first.ensures.items) c.fill_from_slice-second.ensures.count c.fill_from_slice-second.ensures.items c.as_slices.ensures (omega (arith, room)) in
    let due = filled-both c.fill_from_slice-first_due.new.self c.fill_from_slice-second_due.new.self c.as_slices-2.result.0.now c.as_slices-2.result.1.now c.other.inside.due.items c.self.inside.due.capacity c.fill_from_slice-first_due.result c.fill_from_slice-second_due.result
    (rw none.0 at c.fill_from_slice-first_due.ensures.count) (rw none.0 at c.fill_from_slice-first_due.ensures.items) c.fill_from_slice-second_due.ensures.count c.fill_from_slice-second_due.ensures.items c.as_slices-2.ensures it.1 in
    let all : its ≡ c.args.other.now.bytes = subst (λ b. drop b its ≡ c.args.other.now.bytes) unbegun (ap (λ w. w.bytes) c.other.view_is) in
    let capacity : c.self.inside.inner.capacity - 65535 ≡ c.args.self.now.capacity = ap (λ w. w.capacity) c.self.view_is in
    let frames : c.other.inside.due.items ≡ c.args.other.now.due = ap (λ w. w.due) c.other.view_is in
    let it : Waiting = record { bytes = its; capacity = c.self.inside.inner.capacity - 65535; due = c.other.inside.due.items; begun = [] } in
    rw (bytes, due, none.1) (ap (λ xs. record it { bytes = xs }) all ∙ ap (λ n. record it { bytes = c.args.other.now.bytes; capacity = n }) capacity ∙ ap (λ ds. record it { bytes = c.args.other.now.bytes; capacity = c.args.self.now.capacity; due = ds }) frames)
