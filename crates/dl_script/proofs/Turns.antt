-- The steps of one call more.
use Rattle.std.proofs.Common.{◌≡◌, ℕ, suc, ◌+◌, ◌-◌, ◌<◌, ◌≤◌, List, ◌++◌, sym, append_assoc, append-nil, arith}
use Rattle.dl_script_model.specs.declared.step.Step.{Step}
use Rattle.dl_script.specs.Generated.{turn, turns}

pub one_turn : (front : List Step) (calls i x : ℕ) → i < calls
    → (front ++ (turn (i + 1) x).0) ++ turns (calls - (i + 1)) (i + 1 + 1) (turn (i + 1) x).1 ≡ front ++ turns (calls - i) (i + 1) x
unfolding turns
one_turn front calls i x lt =
    let left : calls - i ≡ suc (calls - (i + 1)) = omega arith in
    rw left (append_assoc front (turn (i + 1) x).0 (turns (calls - (i + 1)) (i + 1 + 1) (turn (i + 1) x).1))

pub no_turn : (front : List Step) (calls i x : ℕ) → calls ≤ i → front ≡ front ++ turns (calls - i) (i + 1) x
unfolding turns
no_turn front calls i x ended =
    let none : calls - i ≡ 0 = omega arith in
    rw none (sym (append-nil front))
