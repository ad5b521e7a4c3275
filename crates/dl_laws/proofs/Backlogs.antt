-- What a buffer keeps of the frames that wait, and the counters of the frames that it refuses.
use Rattle.std.proofs.Common.{eqb, ◌≡◌, ℕ, ◌+◌, ◌-◌, ◌/◌, ◌%◌, ◌≤◌, ◌<◌, Bool, true, false, cond, leb, List, [], ◌∷◌, ◌++◌, length, refl, sym, ap, ◌∙◌, length-append, append-nil, arith, inl, inr}
use Rattle.std.specs.Prelude.{◌⊎◌, sum, sum_by, replicate, drop, slice_index_or}
use Rattle.std.proofs.lemmas.Bool.Decides.{leb_tells, nat_tests}
use Rattle.std.proofs.lemmas.List.Sums.{sum_by-cons, sum_by-append}
use Rattle.std.proofs.lemmas.List.Folds.{sum_by-replicate}
use Rattle.dl_control.specs.Reply.{daemon_apid, daemon_ctid}
use Rattle.dl_model.specs.Overflow.{counters, counter_limit, overflow_frames}
use Rattle.dl_model.specs.Backlog.{size_of, due_backlog, fitting, refused}

pub prefix : (limit : ℕ) (frames : List (List ℕ)) → (others : List (List ℕ)) × (frames ≡ fitting limit frames ++ others)
prefix limit [] = ([], refl)
prefix limit (frame ∷ frames) =
    let later = prefix (limit - length frame) frames in
    elim (leb (length frame) limit) as (λ b. (others : List (List ℕ)) × (frame ∷ frames ≡ cond b (frame ∷ fitting (limit - length frame) frames) [] ++ others)) [
      | true ↦ (later.0, ap (λ (xs : List (List ℕ)). frame ∷ xs) later.1)
      | false ↦ (frame ∷ frames, refl)
    ]

pub room : (limit : ℕ) (frames : List (List ℕ)) → size_of (fitting limit frames) ≤ limit
room limit [] = omega arith
room limit (frame ∷ frames) =
    let later = room (limit - length frame) frames in
    elim (leb_tells (length frame) limit) as (λ _. size_of (fitting limit (frame ∷ frames)) ≤ limit) [
      | inl within ↦ rw (within.0, sum_by-cons length frame (fitting (limit - length frame) frames)) (omega (arith, later, within.1))
      | inr above ↦ rw above.0 (omega arith)
    ]

pub longest : (limit : ℕ) (frames others : List (List ℕ)) (frame : List ℕ) → frames ≡ fitting limit frames ++ frame ∷ others → limit < size_of (fitting limit frames) + length frame
longest limit [] others frame e = absurd cc
longest limit (x ∷ frames) others frame e = by_test (leb_tells (length x) limit) (λ rest. longest (limit - length x) frames others frame rest) where
  by_test : ((leb (length x) limit ≡ true) × (length x ≤ limit)) ⊎ ((leb (length x) limit ≡ false) × (limit < length x)) →
      (frames ≡ fitting (limit - length x) frames ++ frame ∷ others → limit - length x < size_of (fitting (limit - length x) frames) + length frame) →
      limit < size_of (fitting limit (x ∷ frames)) + length frame
  by_test (inl within) later =
      let same : x ∷ frames ≡ x ∷ (fitting (limit - length x) frames ++ frame ∷ others) = rw within.0 at e in
      rw (within.0, sum_by-cons length x (fitting (limit - length x) frames)) (omega (arith, later (ap (drop 1) same), within.1))
  by_test (inr above) later =
      let same : x ∷ frames ≡ frame ∷ others = rw above.0 at e in
      let first : length x ≡ length frame = ap (λ (l : List (List ℕ)). length (slice_index_or l 0 [])) same in
      rw above.0 (omega (arith, above.1, first))

pub counted : (limit : ℕ) (frames : List (List ℕ)) → length (fitting limit frames) + refused limit frames ≡ length frames
counted limit frames =
    let parts = prefix limit frames in
    omega (arith, ap length parts.1, length-append (fitting limit frames) parts.0)

last_counter : (k : ℕ) (b : Bool) → eqb k 0 ≡ b → sum_by (λ (x : ℕ). x) (cond b [] (k ∷ [])) ≡ k
last_counter k true e =
    let none : k ≡ 0 = grind (arith, nat_tests) in
    sym none
last_counter k false e = omega arith

pub sum_of_counters : (n : ℕ) → sum (counters n) ≡ n
sum_of_counters n =
    let most = replicate (n / counter_limit) counter_limit in
    let both = sum_by-append (λ (x : ℕ). x) most (cond (eqb (n % counter_limit) 0) [] (n % counter_limit ∷ [])) in
    let first = sum_by-replicate (λ (x : ℕ). x) (n / counter_limit) counter_limit in
    let rest = last_counter (n % counter_limit) (eqb (n % counter_limit) 0) refl in
    both ∙ rw (first, rest) (omega arith)

-- ---- while there is room

pub all_fit : (limit : ℕ) (frames : List (List ℕ)) → size_of frames ≤ limit → fitting limit frames ≡ frames
all_fit limit [] le = refl
all_fit limit (frame ∷ frames) le =
    let size = sum_by-cons length frame frames in
    by_test (leb_tells (length frame) limit) (all_fit (limit - length frame) frames (omega (arith, le, size))) where
      by_test : ((leb (length frame) limit ≡ true) × (length frame ≤ limit)) ⊎ ((leb (length frame) limit ≡ false) × (limit < length frame)) → fitting (limit - length frame) frames ≡ frames → fitting limit (frame ∷ frames) ≡ frame ∷ frames
      by_test (inl within) later = rw within.0 (ap (λ (xs : List (List ℕ)). frame ∷ xs) later)
      by_test (inr above) later = absurd (omega (arith, above.1, le, sum_by-cons length frame frames))

pub none_refused : (limit : ℕ) (frames : List (List ℕ)) → size_of frames ≤ limit → refused limit frames ≡ 0
none_refused limit frames le = omega (arith, ap length (all_fit limit frames le))

pub all_due : (ecu : List ℕ) (limit : ℕ) (frames : List (List ℕ)) → size_of frames ≤ limit → due_backlog ecu limit frames ≡ frames
all_due ecu limit frames le =
    ap (λ (fs : List (List ℕ)). fs ++ overflow_frames ecu daemon_apid daemon_ctid (refused limit frames)) (all_fit limit frames le)
    ∙ ap (λ (n : ℕ). frames ++ overflow_frames ecu daemon_apid daemon_ctid n) (none_refused limit frames le) ∙ append-nil frames
