use Rattle.std.proofs.Common.{◌<◌, length, true≢false, sym, ap, subst}
use Rattle.std.specs.Prelude.{is_some}
use Rattle.dl_account.specs.ClosingInside.{closing_state}
use Rattle.dl_account.specs.Known.{IsEmpty}
use Rattle.dl_account.specs.State.{ClosingState}
use Rattle.dl_account.proofs.Stepping.{took, took_none}
use Rattle.dl_account.proofs.closing.Closing.take.Goals as goal

pub invariant_of-self : goal.invariant_of-self
invariant_of-self g c =
    let i = c.self.inside in
    let within : c.args.app < length i.apps = subst (λ (s : ClosingState). c.args.app < length s.apps) (sym c.self.view_is) c.requires in
    (took_none (closing_state i) i.items i.losses i.injected.items i.entries c.self.invariant c.args.app within c.take.new.self c.in_err-item.ensures.none c.in_err-item.ensures.empty).0

pub returns-in_err-item-clause-empty : goal.returns-in_err-item-clause-empty
returns-in_err-item-clause-empty g c =
    let i = c.self.inside in
    let within : c.args.app < length i.apps = subst (λ (s : ClosingState). c.args.app < length s.apps) (sym c.self.view_is) c.requires in
    let empty : IsEmpty c.args.self.now c.args.app = subst (λ (s : ClosingState). IsEmpty s c.args.app) c.self.view_is
    (took_none (closing_state i) i.items i.losses i.injected.items i.entries c.self.invariant c.args.app within c.take.new.self c.in_err-item.ensures.none c.in_err-item.ensures.empty).1 in
    (λ _. empty, λ _. ap is_some c.from_residual.ensures)

pub overflow_sub-self : goal.overflow_sub-self
overflow_sub-self g c =
    let i = c.self.inside in
    let within : c.args.app < length i.apps = subst (λ (s : ClosingState). c.args.app < length s.apps) (sym c.self.view_is) c.requires in
    (took (closing_state i) i.items i.losses i.injected.items i.entries c.self.invariant c.args.app within c.take.new.self c.from.result c.in_ok-item.item c.from.ensures c.in_ok-item.ensures.taken c.in_ok-item.ensures.rest).0

pub invariant_of-self-2 : goal.invariant_of-self-2
invariant_of-self-2 g c =
    let i = c.self.inside in
    let within : c.args.app < length i.apps = subst (λ (s : ClosingState). c.args.app < length s.apps) (sym c.self.view_is) c.requires in
    (took (closing_state i) i.items i.losses i.injected.items i.entries c.self.invariant c.args.app within c.take.new.self c.from.result c.in_ok-item.item c.from.ensures c.in_ok-item.ensures.taken c.in_ok-item.ensures.rest).1

pub returns-clause-empty : goal.returns-clause-empty
returns-clause-empty g c =
    let i = c.self.inside in
    let within : c.args.app < length i.apps = subst (λ (s : ClosingState). c.args.app < length s.apps) (sym c.self.view_is) c.requires in
    let full = (took (closing_state i) i.items i.losses i.injected.items i.entries c.self.invariant c.args.app within c.take.new.self c.from.result c.in_ok-item.item c.from.ensures c.in_ok-item.ensures.taken c.in_ok-item.ensures.rest).2 in
    (λ so. absurd (true≢false so), λ empty. absurd (full (subst (λ (s : ClosingState). IsEmpty s c.args.app) (sym c.self.view_is) empty)))
