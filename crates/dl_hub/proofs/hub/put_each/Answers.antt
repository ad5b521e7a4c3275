use Rattle.std.proofs.Common.{◌≡◌, ◌+◌, ◌<◌, ◌≤◌, length, suc, sym, ap, ◌∙◌, subst, arith}
use Rattle.std.specs.Prelude.{IfSome, slice_set}
use Rattle.std.proofs.lemmas.Option.{get_or_from_slice_get, slice_get_within}
use Rattle.dl_hub.specs.State.{Client, with_frame}
use Rattle.dl_hub.proofs.Places.{all_at, put-all, put-none, put-step, put_first, slice_get_or}
use Rattle.dl_hub.proofs.hub.put_each.Goals as goal

pub loop-place-init : goal.loop-place-init
loop-place-init c = sym (put-none c.args.frame.now c.args.clients.now)

pub bounds-clients-place : goal.bounds-clients-place
bounds-clients-place c =
    let it = put-step c.args.frame.now c.loop-place.place-index c.loop-place.clients c.args.clients.now c.args.places.now _ c.loop-place.invariant c.requires.open
    (slice_get_or c.args.places.now c.loop-place.place-index 0 c.loop-place-test.true) in
    slice_get_within c.loop-place.clients _ it.0 it.2

pub add-requires-clause-room : goal.add-requires-clause-room
add-requires-clause-room c =
    let it = put-step c.args.frame.now c.loop-place.place-index c.loop-place.clients c.args.clients.now c.args.places.now _ c.loop-place.invariant c.requires.open
    (slice_get_or c.args.places.now c.loop-place.place-index 0 c.loop-place-test.true) in
    subst (λ (client : Client). IfSome client.outbox (λ r. length r.bytes + length c.args.frame.now ≤ r.capacity))
    (sym (get_or_from_slice_get c.loop-place.clients _ it.0 c.index-clients-place.result it.2))
    (all_at (λ (client : Client). IfSome client.outbox (λ r. length r.bytes + length c.args.frame.now ≤ r.capacity)) c.args.clients.now _ it.0 c.requires.room it.1)

pub add-requires-clause-frames : goal.add-requires-clause-frames
add-requires-clause-frames c =
    let it = put-step c.args.frame.now c.loop-place.place-index c.loop-place.clients c.args.clients.now c.args.places.now _ c.loop-place.invariant c.requires.open
    (slice_get_or c.args.places.now c.loop-place.place-index 0 c.loop-place-test.true) in
    subst (λ (client : Client). client.frames < 9223372036854775808)
    (sym (get_or_from_slice_get c.loop-place.clients _ it.0 c.index-clients-place.result it.2))
    (all_at (λ (client : Client). (client.frames < 9223372036854775808) × (client.bytes + length c.args.frame.now < 9223372036854775808)) c.args.clients.now _ it.0 c.requires.counts it.1).0

pub add-requires-clause-bytes : goal.add-requires-clause-bytes
add-requires-clause-bytes c =
    let it = put-step c.args.frame.now c.loop-place.place-index c.loop-place.clients c.args.clients.now c.args.places.now _ c.loop-place.invariant c.requires.open
    (slice_get_or c.args.places.now c.loop-place.place-index 0 c.loop-place-test.true) in
    subst (λ (client : Client). client.bytes + length c.args.frame.now < 9223372036854775808)
    (sym (get_or_from_slice_get c.loop-place.clients _ it.0 c.index-clients-place.result it.2))
    (all_at (λ (client : Client). (client.frames < 9223372036854775808) × (client.bytes + length c.args.frame.now < 9223372036854775808)) c.args.clients.now _ it.0 c.requires.counts it.1).1

pub loop-place-preserved : goal.loop-place-preserved
loop-place-preserved c =
    let it = put-step c.args.frame.now c.loop-place.place-index c.loop-place.clients c.args.clients.now c.args.places.now _ c.loop-place.invariant c.requires.open
    (slice_get_or c.args.places.now c.loop-place.place-index 0 c.loop-place-test.true) in
    let same = get_or_from_slice_get c.loop-place.clients _ it.0 c.index-clients-place.result it.2 in
    let next : c.loop-place.place-index + 1 ≡ suc c.loop-place.place-index = omega arith in
    ap (slice_set c.loop-place.clients _) (c.add.ensures ∙ ap (with_frame c.args.frame.now) same) ∙ it.3
    ∙ ap (λ k. put_first c.args.frame.now k c.args.clients.now) (sym next)

pub returns : goal.returns
returns c =
    let all : c.loop-place.place-index ≡ length c.args.places.now = omega (arith, c.loop-place-test.false, c.loop-place.auto.place-index-end) in
    c.loop-place.invariant
    ∙ ap (λ k. put_first c.args.frame.now k c.args.clients.now) (all ∙ ap length c.requires.open) ∙ put-all c.args.frame.now 0 c.args.clients.now
