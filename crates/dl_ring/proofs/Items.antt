-- The calls and the claims among what was pushed.
use Rattle.std.proofs.Common.{◌≡◌, ◌+◌, List, [], ◌∷◌, ◌++◌, length, refl, arith}
use Rattle.std.proofs.lemmas.List.Elements.{filter_map-append}
use Rattle.dl_ring.specs.declared.item.RingItem.{RingItem}
use Rattle.dl_ring.specs.declared.item.RingItem.TheVariants as ring
use Rattle.dl_ring.specs.Items.{call_in, claim_in, calls_in, claims_in}

-- those of two lists, one behind the other
pub calls_in-append : (xs ys : List RingItem) → calls_in (xs ++ ys) ≡ calls_in xs ++ calls_in ys
calls_in-append xs ys = filter_map-append call_in xs ys

pub claims_in-append : (xs ys : List RingItem) → claims_in (xs ++ ys) ≡ claims_in xs ++ claims_in ys
claims_in-append xs ys = filter_map-append claim_in xs ys

-- each push is a call or a claim
pub length-calls_in : (xs : List RingItem) → length xs ≡ length (calls_in xs) + length (claims_in xs)
length-calls_in [] = refl
length-calls_in (ring.Log item ∷ xs) = (let rest = length-calls_in xs in omega arith)
length-calls_in (ring.Register claim ∷ xs) = (let rest = length-calls_in xs in omega arith)
