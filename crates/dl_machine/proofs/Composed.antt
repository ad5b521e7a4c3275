-- Steps one after the other, and relations that are steps of a part's state.
use Rattle.std.proofs.Common.{◌≡◌, List, [], ◌∷◌, ◌++◌, refl, sym, ap, subst}
use Rattle.dl_outside.specs.Told.{LinkTold}
use Rattle.dl_machine.specs.State.{State}
use Rattle.dl_machine.specs.Steps.{Goes, IsStep, Kind, Steps}

module _ (IsTold : LinkTold → Type 0) where
  steps_both : (first second : List Kind) (old between new : State) → Steps IsTold first old between → Steps IsTold second between new → Steps IsTold (first ++ second) old new
  steps_both [] second old between new same rest = subst (λ (s : State). Steps IsTold second s new) same rest
  steps_both (kind ∷ first) second old between new steps rest = (steps.0, steps.1, steps_both first second steps.0 between new steps.2 rest)

  pub goes_same : (old new : State) → new ≡ old → Goes IsTold old new
  goes_same old new same = record { kinds = []; steps = same }

  pub goes_one : (kind : Kind) (old new : State) → IsStep IsTold kind old new → Goes IsTold old new
  goes_one kind old new step = record { kinds = kind ∷ []; steps = (new, step, refl) }

  pub goes_both : (old between new : State) → Goes IsTold old between → Goes IsTold between new → Goes IsTold old new
  goes_both old between new first second =
      record { kinds = first.kinds ++ second.kinds; steps = steps_both first.kinds second.kinds old between new first.steps second.steps }

  -- What holds of all states that come of one by steps: it holds of that one, and each step keeps it.
  pub steps_keep : (P : State → Type 0) → ((kind : Kind) (old new : State) → IsStep IsTold kind old new → P old → P new) → (kinds : List Kind) (old new : State) → Steps IsTold kinds old new → P old → P new
  steps_keep P one [] old new same holds = subst P (sym same) holds
  steps_keep P one (kind ∷ kinds) old new steps holds = steps_keep P one kinds steps.0 new steps.2 (one kind old steps.0 steps.1 holds)

  -- ---- a part's state, as the state of a daemon, while this holds of it

  module _ {A : Type 0} (lift : A → State) (Holds : A → Type 0) where
    -- where it holds before, one comes of the other by steps, and it holds then
    abbrev pub Leads : A → A → Type 0
    Leads old new = Holds old → Goes IsTold (lift old) (lift new) × Holds new

    pub leads_same : (old new : A) → new ≡ old → Leads old new
    leads_same old new same = λ holds. (goes_same (lift old) (lift new) (ap lift same), subst Holds (sym same) holds)

    pub leads_both : (old between new : A) → Leads old between → Leads between new → Leads old new
    leads_both old between new first second = λ holds.
        let one = first holds in
        let two = second one.1 in
        (goes_both (lift old) (lift between) (lift new) one.0 two.0, two.1)
