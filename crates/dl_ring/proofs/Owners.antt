-- The owners of a ring that the first pass has for the numbers that it has not given.
use Rattle.std.proofs.Common.{◌≡◌, ◌≢◌, ℕ, List, [], ◌∷◌, ◌++◌, length, set, length-set, get_or-set_other, refl, sym, ap, ◌∙◌, subst, arith}
use Rattle.std.specs.Prelude.{Option, None}
use Rattle.std.specs.List.{All}
use Rattle.std.specs.declared.sync.Arc.{Arc}
use Rattle.dl_cells.specs.Views.{times}
use Rattle.dl_cells.proofs.Totals.{times-append, times_more}
use Rattle.dl_ring.specs.declared.view.View.{View}
use Rattle.dl_ring.specs.Rule.{first_pusher, with_given}
use Rattle.dl_ring.specs.Passes.{Owns, HasOwners, IsPusher}

module _ {X Z : Type 0} (ring : X) where
  -- at first for each number
  pub all_owned : (owners : List (Option (Arc X Z))) → length owners ≡ 256 → All (Owns ring) owners → HasOwners ring [] owners
  all_owned owners len all = record { len = len; each = λ n small _. all n None (omega arith) }

  -- and then for each but the number that is given
  pub one_less : (given : List ℕ) (owners : List (Option (Arc X Z))) (n : ℕ) → HasOwners ring given owners → HasOwners ring (given ++ n ∷ []) (set owners n None)
  one_less given owners n h = record {
    len = length-set owners n None ∙ h.len;
    each = λ m small fresh.
        (let more = times-append m given (n ∷ []) in
        let apart : m ≢ n = λ same. (let one = times_more n given in let e : times m (given ++ n ∷ []) ≡ times n (given ++ n ∷ []) = ap (λ (j : ℕ). times j (given ++ n ∷ [])) same in omega arith) in
        subst (Owns ring) (sym (get_or-set_other owners n m None None apart)) (h.each m small (omega arith)));
  }

  -- the same where what is left, the list and the place are known by equations
  pub handed_out : (given new : List ℕ) (owners : List (Option (Arc X Z))) (n place : ℕ) (left : Option (Arc X Z)) → place ≡ n → left ≡ None → new ≡ given ++ n ∷ [] → HasOwners ring given owners
      → HasOwners ring new (set owners place left)
  handed_out given new owners n place left at none is h =
      subst (λ (x : ℕ × Option (Arc X Z) × List ℕ). HasOwners ring x.2 (set owners x.0 x.1)) (λ i. (sym at i, sym none i, sym is i)) (one_less given owners n h)

-- the view of a pass that pushes, when it is made and when it gives a number
pub first_is_pusher : (v : View) → v ≡ first_pusher → IsPusher v
first_is_pusher v is = subst IsPusher (sym is) (record { pushes = refl; takes = refl; joined = refl })

pub stays_pusher : (v w : View) (n : ℕ) → w ≡ with_given v n → IsPusher v → IsPusher w
stays_pusher v w n is h = subst IsPusher (sym is) (record { pushes = h.pushes; takes = h.takes; joined = h.joined })
