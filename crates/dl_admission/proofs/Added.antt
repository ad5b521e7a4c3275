-- Events that are added one after the other.
use Rattle.std.proofs.Common.{◌≡◌, ◌+◌, ℕ, zero, suc, List, [], ◌++◌, append_assoc, append-nil, Option, Some, None, refl, sym, ap, subst, ◌∙◌, arith}
use Rattle.dl_events.specs.Journal.{one_more}
use Rattle.dl_events.specs.declared.event.Event.{Event}
use Rattle.dl_outside.specs.Told.{FolderTold}
use Rattle.dl_core.specs.State.{Core}
use Rattle.dl_core.specs.Admission.{AddsEach, more_noted}
use Rattle.dl_core.specs.Follows.{Adds, HoldsTrace, IsAfter, Run}

-- ---- the journal

pub adds_each_none : (events : Option (List Event)) → AddsEach events events []
adds_each_none None = refl
adds_each_none (Some events) = ap Some (sym (append-nil events))

pub adds_each_both : (e0 e1 e2 : Option (List Event)) (xs ys : List Event) → AddsEach e0 e1 xs → AddsEach e1 e2 ys → AddsEach e0 e2 (xs ++ ys)
adds_each_both None None e2 xs ys first second = second
adds_each_both None (Some x) e2 xs ys first second = absurd (cc first)
adds_each_both (Some x) None e2 xs ys first second = absurd (cc first)
adds_each_both (Some x) (Some y) e2 xs ys first second =
    let same : y ≡ x ++ xs = cc first in
    second ∙ ap Some (ap (λ (es : List Event). es ++ ys) same ∙ append_assoc x xs ys)

pub more_both : (a b noted : ℕ) → more_noted b (more_noted a noted) ≡ more_noted (b + a) noted
more_both a zero noted = let same : a ≡ 0 + a = omega arith in ap (λ (n : ℕ). more_noted n noted) same
more_both a (suc b) noted =
    let same : suc (b + a) ≡ suc b + a = omega arith in ap one_more (more_both a b noted) ∙ ap (λ (n : ℕ). more_noted n noted) same

-- ---- the core

pub adds_none : (core : Core) (told : FolderTold) → Adds [] (λ run. Unit {0}) core core told told
adds_none core told = λ run events taken gives is.
    subst (λ (es : List Event). IsAfter run es taken core × (HoldsTrace run events core told → HoldsTrace run es core told)) (sym (append-nil events)) (is, λ holds. holds)

pub adds_both : (xs ys : List Event) (One Other : Run → Type 0) (old between new : Core) (told told_between told_now : FolderTold)
    → Adds xs One old between told told_between → Adds ys Other between new told_between told_now → Adds (xs ++ ys) (λ run. One run × Other run) old new told told_now
adds_both xs ys One Other old between new told told_between told_now first second = λ run events taken gives is.
    let here = first run events taken gives.0 is in
    let there = second run (events ++ xs) taken gives.1 here.0 in
    subst (λ (es : List Event). IsAfter run es taken new × (HoldsTrace run events old told → HoldsTrace run es new told_now)) (append_assoc events xs ys)
    (there.0, λ holds. there.1 (here.1 holds))
