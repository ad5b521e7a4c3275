-- What stays, and grows, stays and grows from step to step; and what a count tells of faults.
use Rattle.std.proofs.Common.{◌≡◌, ℕ, ◌<◌, ◌≤◌, Bool, true, false, List, ◌++◌, Option, Some, None, refl, sym, ap, subst, ◌∙◌, append_assoc, arith}
use Rattle.std.specs.Prelude.{IsSome, is_some, nat_lt}
use Rattle.std.proofs.lemmas.Bool.{ltb-false, ltb-true}
use Rattle.dl_outside.specs.Outside.{Grows, HasRisen, Stays}

pub stays_same : {A : Type 0} (o : Option A) → Stays o o
stays_same None = tt
stays_same (Some x) = refl

pub stays_both : {A : Type 0} (a b c : Option A) → Stays a b → Stays b c → Stays a c
stays_both None b c h k = tt
stays_both (Some x) b c h k = subst (λ o. Stays o c) h k

pub some_stays : {A : Type 0} (old new : Option A) → Stays old new → IsSome old → IsSome new
some_stays None new stays some = absurd (cc some)
some_stays (Some x) new stays some = ap is_some stays

pub grows_both : (a b c : Option (List ℕ)) (xs ys : List ℕ) → Grows a b xs → Grows b c ys → Grows a c (xs ++ ys)
grows_both None b c xs ys one two = tt
grows_both (Some z) b c xs ys one two = subst (λ (t : Option (List ℕ)). Grows t c ys) one two ∙ ap Some (append_assoc z xs ys)

-- a count tells whether it rose
pub counted : (before now : ℕ) (failed : Bool) → before ≤ now → failed ≡ nat_lt before now → (failed ≡ true → HasRisen before now) × (failed ≡ false → now ≡ before)
counted before now failed later is = (
  λ risen. let up : before < now = ltb-true before now (sym is ∙ risen) in (later, omega (arith, up)),
  λ still. let down : now ≤ before = ltb-false before now (sym is ∙ still) in omega (arith, down, later),
)
