use Rattle.std.proofs.Common.{◌≡◌, ◌∙◌, length, take, sym, ap, subst}
use Rattle.std.specs.Prelude.{IsSome, IsSomeAnd}
use Rattle.dl_hub.specs.State.{Hub, outbox_of}
use Rattle.dl_core.specs.State.{Core}
use Rattle.dl_world.proofs.Emptying.{empties_nothing, empties_more, emptied_where}
use Rattle.dl_world.proofs.delivery.empty_outbox.Goals as goal

pub loop-piece-init : goal.loop-piece-init
loop-piece-init c = empties_nothing c.args.client c.args.core.now c.new-bytes.result.items c.new-bytes.ensures.items c.requires.open

pub front-piece-requires : goal.front-piece-requires
front-piece-requires c = subst (λ (h : Hub). IsSome (outbox_of h c.args.client)) (sym c.hub.ensures) c.loop-piece.invariant.there

pub returns-then-is_empty-clause-bytes : goal.returns-then-is_empty-clause-bytes
returns-then-is_empty-clause-bytes c =
    (emptied_where c.args.client c.args.core.now c.loop-piece.core c.loop-piece.bytes.items c.front-piece.result.now c.loop-piece.invariant c.requires.open
    (subst (λ (h : Hub). IsSomeAnd (outbox_of h c.args.client) (λ outbox. length c.front-piece.result.now ≡ 0 → length outbox.bytes ≡ 0)) c.hub.ensures c.front-piece.ensures.some)
    (sym c.is_empty.ensures ∙ c.if-is_empty.true)).all

pub returns-then-is_empty-clause-value : goal.returns-then-is_empty-clause-value
returns-then-is_empty-clause-value c =
    (emptied_where c.args.client c.args.core.now c.loop-piece.core c.loop-piece.bytes.items c.front-piece.result.now c.loop-piece.invariant c.requires.open
    (subst (λ (h : Hub). IsSomeAnd (outbox_of h c.args.client) (λ outbox. length c.front-piece.result.now ≡ 0 → length outbox.bytes ≡ 0)) c.hub.ensures c.front-piece.ensures.some)
    (sym c.is_empty.ensures ∙ c.if-is_empty.true)).value

pub returns-then-is_empty-clause-trace : goal.returns-then-is_empty-clause-trace
returns-then-is_empty-clause-trace c = ap (λ (k : Core). k.trace) c.loop-piece.invariant.same

pub returns-in_err-extend_from_slice-clause-trace : goal.returns-in_err-extend_from_slice-clause-trace
returns-in_err-extend_from_slice-clause-trace c = ap (λ (k : Core). k.trace) c.loop-piece.invariant.same

pub loop-piece-smaller : goal.loop-piece-smaller
loop-piece-smaller c =
    (empties_more c.args.client c.args.core.now c.loop-piece.core c.took.new.self c.loop-piece.bytes.items c.extend_from_slice.new.self.items c.front-piece.result.now c.loop-piece.invariant c.requires.open
    (subst (λ (h : Hub). IsSomeAnd (outbox_of h c.args.client) (λ outbox. c.front-piece.result.now ≡ take (length c.front-piece.result.now) outbox.bytes)) c.hub.ensures c.front-piece.ensures.front)
    (sym c.is_empty.ensures ∙ c.if-is_empty.false) c.in_ok-extend_from_slice.ensures.items c.took.ensures).1

pub loop-piece-preserved : goal.loop-piece-preserved
loop-piece-preserved c =
    (empties_more c.args.client c.args.core.now c.loop-piece.core c.took.new.self c.loop-piece.bytes.items c.extend_from_slice.new.self.items c.front-piece.result.now c.loop-piece.invariant c.requires.open
    (subst (λ (h : Hub). IsSomeAnd (outbox_of h c.args.client) (λ outbox. c.front-piece.result.now ≡ take (length c.front-piece.result.now) outbox.bytes)) c.hub.ensures c.front-piece.ensures.front)
    (sym c.is_empty.ensures ∙ c.if-is_empty.false) c.in_ok-extend_from_slice.ensures.items c.took.ensures).0
