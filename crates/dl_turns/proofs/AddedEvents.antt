-- Events that are added, where the journal keeps them.
use Rattle.std.proofs.Common.{◌≡◌, List, [], ◌++◌, Option, Some, None, refl, sym, ap, ◌∙◌, append_assoc}
use Rattle.std.proofs.lemmas.List.{append-nil}
use Rattle.dl_events.specs.declared.event.Event.{Event}
use Rattle.dl_core.specs.Admission.{AddsEach}

pub each_none : (events : Option (List Event)) → AddsEach events events []
each_none None = refl
each_none (Some events) = ap Some (sym (append-nil events))

-- some events, and others behind them
pub each_both : (first second third : Option (List Event)) (some others : List Event) → AddsEach first second some → AddsEach second third others → AddsEach first third (some ++ others)
each_both None None third some others one two = two
each_both None (Some later) third some others one two = absurd (cc one)
each_both (Some events) None third some others one two = absurd (cc one)
each_both (Some events) (Some later) third some others one two =
    let same : later ≡ events ++ some = cc one in
    two ∙ ap (λ (es : List Event). Some (es ++ others)) same ∙ ap Some (append_assoc events some others)
