-- The steps that a number makes can be played.
use Rattle.std.proofs.Common.{◌≡◌, ◌≢◌, ℕ, zero, suc, ◌+◌, ◌*◌, ◌≤◌, ◌++◌, length, refl, ap, arith}
use Rattle.std.proofs.Math.Dec.{lit≤}
use Rattle.dl_bytes.specs.Id.{zero_id}
use Rattle.dl_script.specs.Earlier.{nothing}
use Rattle.dl_script.specs.Generated.{app_id, context_id, turn, turns, started, generated}
use Rattle.dl_script.specs.Playable.{IsPlayable}
use Rattle.dl_script.proofs.GeneratedCalls.{declared_with, turn_goes}
use Rattle.dl_script.proofs.ReadFields.{first_of}
use Rattle.dl_script.proofs.StepRuns.{Goes, behind, restated}

started_goes : Goes nothing started (declared_with 0) 21
unfolding started
started_goes = record {
  follow = (refl, (refl, (refl, (refl, (refl, (refl, (refl, (refl, (refl, (refl, (refl, (refl, (refl, (refl, (refl, (refl, (refl, (refl, (refl, (refl, (refl, tt)))))))))))))))))))));
  leads = refl;
  bounds = (app 1, (context 1 0 first_named, (context 1 1 second_named, (tt, (tt, (app 2, (context 2 0 first_named, (context 2 1 second_named, (tt, (tt, (app 3, (context 3 0 first_named, (context 3 1 second_named, (tt, (tt, (app 4, (context 4 0 first_named, (context 4 1 second_named, (tt, (tt, (tt, tt)))))))))))))))))))));
  few = lit≤ tt;
} where
  short : 0 ≤ 255
  short = lit≤ tt

  named : (k : ℕ) → app_id k ≢ zero_id
  named k is = let none : 71 ≡ 0 = ap first_of is in omega (arith, none)

  app : (k : ℕ) → (app_id k ≢ zero_id) × (0 ≤ 255)
  app k = (named k, short)

  first_named : context_id 0 ≢ zero_id
  first_named is = let none : 67 ≡ 0 = ap first_of is in omega (arith, none)

  second_named : context_id 1 ≢ zero_id
  second_named is = let none : 67 ≡ 0 = ap first_of is in omega (arith, none)

  context : (k c : ℕ) → context_id c ≢ zero_id → (app_id k ≢ zero_id) × (context_id c ≢ zero_id) × (0 ≤ 255)
  context k c is_named = (named k, is_named, short)

turns_go : (calls i x n : ℕ) → n + calls ≤ 1000000 → Goes (declared_with n) (turns calls i x) (declared_with (n + calls)) (7 * calls)
unfolding turns
turns_go zero i x n room =
    let same : n ≡ n + zero = omega arith in
    record { follow = tt; leads = ap declared_with same; bounds = tt; few = omega arith }
turns_go (suc calls) i x n room =
    let first : Goes (declared_with n) (turn i x).0 (declared_with (n + 1)) 7 = turn_goes n i x (omega arith) in
    let others : Goes (declared_with (n + 1)) (turns calls (i + 1) (turn i x).1) (declared_with (n + 1 + calls)) (7 * calls) =
    turns_go calls (i + 1) (turn i x).1 (n + 1) (omega arith) in
    let same : n + 1 + calls ≡ n + suc calls = omega arith in
    restated (declared_with n) (declared_with (n + 1 + calls)) (declared_with (n + suc calls)) ((turn i x).0 ++ turns calls (i + 1) (turn i x).1)
    (7 + 7 * calls) (7 * suc calls) (ap declared_with same) (omega arith)
    (behind (declared_with n) (declared_with (n + 1)) (declared_with (n + 1 + calls)) (turn i x).0 (turns calls (i + 1) (turn i x).1) 7 (7 * calls) first others)

all_go : (number calls : ℕ) → calls ≤ 1000000 → Goes nothing (generated number calls) (declared_with (0 + calls)) (21 + 7 * calls)
all_go number calls room =
    behind nothing (declared_with 0) (declared_with (0 + calls)) started (turns calls 1 number) 21 (7 * calls) started_goes (turns_go calls 1 number 0 (omega arith))

pub generated_plays : (number calls : ℕ) → calls ≤ 1000000 → IsPlayable (generated number calls)
generated_plays number calls room = let goes = all_go number calls room in record { follows = goes.follow; bounds = goes.bounds }

pub generated_bounded : (number calls : ℕ) → calls ≤ 1000000 → length (generated number calls) ≤ 21 + 7 * calls
generated_bounded number calls room = (all_go number calls room).few
