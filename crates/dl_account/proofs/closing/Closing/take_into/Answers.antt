use Rattle.std.proofs.Common.{◌≡◌, ◌<◌, List, length, true≢false, refl, sym, ap, ◌∙◌, subst}
use Rattle.std.specs.Prelude.{is_some}
use Rattle.dl_ring.specs.declared.item.RingItem.{RingItem}
use Rattle.dl_ring.specs.Items.{took as took_as}
use Rattle.dl_desk.specs.Handles.{RingHolds, with_item}
use Rattle.dl_account.specs.ClosingInside.{closing_state}
use Rattle.dl_account.specs.Known.{IsEmpty}
use Rattle.dl_account.specs.State.{ClosingState}
use Rattle.dl_account.proofs.Stepping.{none_too, some_taken, taken_too, took, took_none}
use Rattle.dl_account.proofs.closing.Closing.take_into.Goals as goal

pub invariant_of-self : goal.invariant_of-self
invariant_of-self g c =
    let i = c.self.inside in
    let within : c.args.app < length i.apps = subst (λ (s : ClosingState). c.args.app < length s.apps) (sym c.self.view_is) c.requires in
    (took_none (closing_state i) i.items i.losses i.injected.items i.entries c.self.invariant c.args.app within c.take_into.new.self c.in-Nothing.ensures.none c.in-Nothing.ensures.empty).0

pub returns-in-Nothing-clause-empty : goal.returns-in-Nothing-clause-empty
returns-in-Nothing-clause-empty g c =
    let i = c.self.inside in
    let within : c.args.app < length i.apps = subst (λ (s : ClosingState). c.args.app < length s.apps) (sym c.self.view_is) c.requires in
    let empty : IsEmpty c.args.self.now c.args.app = subst (λ (s : ClosingState). IsEmpty s c.args.app) c.self.view_is
    (took_none (closing_state i) i.items i.losses i.injected.items i.entries c.self.invariant c.args.app within c.take_into.new.self c.in-Nothing.ensures.none c.in-Nothing.ensures.empty).1 in
    (λ _. empty, λ _. refl)

pub overflow_sub-self : goal.overflow_sub-self
overflow_sub-self g c =
    let i = c.self.inside in
    let within : c.args.app < length i.apps = subst (λ (s : ClosingState). c.args.app < length s.apps) (sym c.self.view_is) c.requires in
    let some = some_taken c.take_into.result c.take_into.new.item (λ x. c.take_into.new.self ≡ with_item i.handles c.args.app x) ((contents : List RingItem) × RingHolds c.take_into.new.self c.args.app contents)
    c.in_default.not-Nothing c.take_into.ensures.taken c.take_into.ensures.rest in
    (took (closing_state i) i.items i.losses i.injected.items i.entries c.self.invariant c.args.app within c.take_into.new.self c.from.result some.0 c.from.ensures some.2 some.3).0

pub invariant_of-self-in_default : goal.invariant_of-self-in_default
invariant_of-self-in_default g c =
    let i = c.self.inside in
    let within : c.args.app < length i.apps = subst (λ (s : ClosingState). c.args.app < length s.apps) (sym c.self.view_is) c.requires in
    let some = some_taken c.take_into.result c.take_into.new.item (λ x. c.take_into.new.self ≡ with_item i.handles c.args.app x) ((contents : List RingItem) × RingHolds c.take_into.new.self c.args.app contents)
    c.in_default.not-Nothing c.take_into.ensures.taken c.take_into.ensures.rest in
    (took (closing_state i) i.items i.losses i.injected.items i.entries c.self.invariant c.args.app within c.take_into.new.self c.from.result some.0 c.from.ensures some.2 some.3).1

pub returns-in_default : goal.returns-in_default
returns-in_default g c =
    let i = c.self.inside in
    let within : c.args.app < length i.apps = subst (λ (s : ClosingState). c.args.app < length s.apps) (sym c.self.view_is) c.requires in
    let told = c.take_into.ensures in
    let some = some_taken c.take_into.result c.take_into.new.item (λ x. c.take_into.new.self ≡ with_item i.handles c.args.app x) ((contents : List RingItem) × RingHolds c.take_into.new.self c.args.app contents)
    c.in_default.not-Nothing told.taken told.rest in
    let full = (took (closing_state i) i.items i.losses i.injected.items i.entries c.self.invariant c.args.app within c.take_into.new.self c.from.result some.0 c.from.ensures some.2 some.3).2 in
    record {
      taken = taken_too (closing_state i) c.args.self.now c.args.app c.self.view_is c.take_into.new.self (took_as c.take_into.result c.take_into.new.item) told.taken;
      rest = told.rest;
      none = none_too (closing_state i) c.args.self.now c.args.app c.self.view_is c.take_into.new.self (took_as c.take_into.result c.take_into.new.item) told.none;
      empty = (λ so. absurd (true≢false (sym (ap is_some some.1) ∙ so)), λ empty. absurd (full (subst (λ (s : ClosingState). IsEmpty s c.args.app) (sym c.self.view_is) empty)));
      kept = told.kept;
    }
