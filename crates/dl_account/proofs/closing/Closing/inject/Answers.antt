use Rattle.std.proofs.Common.{◌≡◌, ◌<◌, length, sym, subst}
use Rattle.std.specs.Prelude.{OnErr, OnOk}
use Rattle.dl_desk.specs.Handles.{HandlesState, with_injected, with_refusal}
use Rattle.dl_account.specs.ClosingInside.{closing_state}
use Rattle.dl_account.specs.State.{ClosingState}
use Rattle.dl_account.proofs.Stepping.{injects, within_after}
use Rattle.dl_account.proofs.closing.Closing.inject.Goals as goal

pub look-requires : goal.look-requires
look-requires g c =
    let i = c.self.inside in
    let within : c.args.app < length i.apps = subst (λ (s : ClosingState). c.args.app < length s.apps) (sym c.self.view_is) c.requires in
    within_after (closing_state i) i.items i.losses i.injected.items i.entries c.self.invariant c.args.app within c.inject-answer.result c.args.item c.inject-answer.new.self c.inject-answer.ensures.pushed c.inject-answer.ensures.refused

pub invariant_of-self : goal.invariant_of-self
invariant_of-self g c =
    let i = c.self.inside in
    injects (closing_state i) i.items i.losses i.injected.items i.entries c.self.invariant c.args.app c.inject-answer.result c.args.item c.look.new.self
    (subst (λ (e : HandlesState). OnOk c.inject-answer.result (e ≡ with_injected i.handles c.args.app c.args.item)) (sym c.look.ensures.same) c.inject-answer.ensures.pushed)
    (subst (λ (e : HandlesState). OnErr c.inject-answer.result (e ≡ with_refusal i.handles c.args.app)) (sym c.look.ensures.same) c.inject-answer.ensures.refused)
    c.look.ensures.queue c.look.ensures.range
