-- Lists of clients of which some are slow.
use Rattle.std.proofs.Common.{◌≡◌, ◌<◌, ◌+◌, ℕ, zero, suc, Bool, true, false, cond, List, [], ◌∷◌, ◌++◌, map, Some, refl, ap, arith}
use Rattle.std.specs.Prelude.{slice_get, slice_set}
use Rattle.std.specs.List.{list_all, AllByRecursion}
use Rattle.dl_hub.specs.State.{Client, Hub, shut, takes}
use Rattle.dl_admission.specs.Admission.{AreInOrder}
use Rattle.dl_admission.specs.Slow.{IsAsTold, Slow, room_in, shut_if_slow, slow_among}
use Rattle.dl_lemmas.proofs.Bools.{both}

-- none is slow among clients that all take so much
pub none_slow : (need first : ℕ) (clients : List Client) → list_all (takes need) clients ≡ true → slow_among need first clients ≡ []
none_slow need first [] all = refl
none_slow need first (c ∷ cs) all = let parts = both (takes need c) (list_all (takes need) cs) all in rw parts.0 (none_slow need (first + 1) cs parts.1)

pub none_shut : (need : ℕ) (clients : List Client) → list_all (takes need) clients ≡ true → map (shut_if_slow need) clients ≡ clients
none_shut need [] all = refl
none_shut need (c ∷ cs) all = let parts = both (takes need c) (list_all (takes need) cs) all in rw parts.0 (ap (λ (ds : List Client). c ∷ ds) (none_shut need cs parts.1))

-- a client that was shut if it was slow is not slow any more
pub shut_takes : (need : ℕ) (c : Client) → takes need (shut_if_slow need c) ≡ true
shut_takes need c = by (takes need c) refl where
  by : (b : Bool) → takes need c ≡ b → takes need (cond b c (shut c)) ≡ true
  by true is = is
  by false is = refl

pub shut_again : (need : ℕ) (c : Client) → shut_if_slow need (shut_if_slow need c) ≡ shut_if_slow need c
shut_again need c = rw (shut_takes need c) refl

-- the clients at the places before this one take so much
abbrev pub AreTaking : ℕ → ℕ → List Client → Type 0
AreTaking need place clients = (before : ℕ) (c : Client) → before < place → slice_get clients before ≡ Some c → takes need c ≡ true

-- the first that is slow, if it is the one at this place, and those that are when it is shut
pub first_slow : (need first place : ℕ) (clients : List Client) (c : Client) → slice_get clients place ≡ Some c → AreTaking need place clients
    → slow_among need first clients ≡ slow_among need (first + place) (c ∷ []) ++ slow_among need first (slice_set clients place (shut_if_slow need c))
first_slow need first place [] c is taking = absurd cc
first_slow need first zero (d ∷ cs) c is taking =
    let same : d ≡ c = cc in
    let number : first + 0 ≡ first = omega arith in
    rw (same, number, shut_takes need c) (by (takes need c) refl) where
      by : (b : Bool) → takes need c ≡ b
          → cond b (slow_among need (first + 1) cs) (record { client = first; room = room_in c } ∷ slow_among need (first + 1) cs)
          ≡ cond b [] (record { client = first; room = room_in c } ∷ []) ++ slow_among need (first + 1) cs
      by true e = refl
      by false e = refl
first_slow need first (suc place) (d ∷ cs) c is taking =
    let number : first + suc place ≡ first + 1 + place = omega arith in
    rw (taking 0 d (omega arith) refl, number) (first_slow need (first + 1) place cs c is (λ before e below at. taking (suc before) e (omega (arith, below)) at))

-- ---- in the order of their numbers, each with too little room

pub slow_in_order : (need after first : ℕ) (clients : List Client) → after < first → AreInOrder after (slow_among need first clients)
slow_in_order need after first [] low = tt
slow_in_order need after first (c ∷ cs) low = by (takes need c) (slow_in_order need after (first + 1) cs (omega (arith, low))) (slow_in_order need first (first + 1) cs (omega arith)) where
  by : (b : Bool) → AreInOrder after (slow_among need (first + 1) cs) → AreInOrder first (slow_among need (first + 1) cs)
      → AreInOrder after (cond b (slow_among need (first + 1) cs) (record { client = first; room = room_in c } ∷ slow_among need (first + 1) cs))
  by true others behind = others
  by false others behind = (low, behind)

pub slow_short : (need : ℕ) (hub : Hub) (slows : List Slow) → AllByRecursion (IsAsTold need hub) slows → AllByRecursion (λ slow. slow.room < need) slows
slow_short need hub [] told = tt
slow_short need hub (slow ∷ slows) told = (told.0.may.1, slow_short need hub slows told.1)
