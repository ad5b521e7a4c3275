-- A batch that is filled from a ring.
use Rattle.std.specs.Prelude.{◌≡◌, ◌≤◌, ◌+◌, ℕ, List, [], ◌∷◌, ◌++◌, length, map, Option, Some, None}
use Rattle.dl_bytes.specs.Claim.{Claimed}
use Rattle.dl_bytes.specs.declared.item.Item.{Item}
use Rattle.dl_ring.specs.declared.item.RingItem.{RingItem}
use Rattle.dl_ring.specs.declared.item.RingItem.TheVariants.{Log, Register}
use Rattle.dl_ring.specs.declared.item.Taken.{Taken}
use Rattle.dl_ring.specs.declared.item.Taken.TheVariants as answer
use Rattle.dl_taking.specs.Takes.{owned}
use Rattle.dl_taking.specs.Took.{Took, with_items}

-- What a take of an application's ring came to: the oldest call was taken to the end of the batch, as the application's own; the oldest was a
-- claim, which was taken and is the answer; or nothing was taken.
abbrev pub FillsOne : ℕ → Taken → Took → Took → List Item → List Item → Type 0
FillsOne app answer.Call took took_now batch batch_now = (item : Item) × (took_now ≡ with_items app (Log item ∷ []) took) × (batch_now ≡ batch ++ owned app item ∷ [])
FillsOne app (answer.Claim claim) took took_now batch batch_now = (took_now ≡ with_items app (Register claim ∷ []) took) × (batch_now ≡ batch)
FillsOne app answer.Nothing took took_now batch batch_now = (took_now ≡ took) × (batch_now ≡ batch)

-- a claim after calls, where one came
abbrev pub claim_item : Option Claimed → List RingItem
claim_item None = []
claim_item (Some claim) = Register claim ∷ []

-- At most so many were taken of an application's ring, calls and after them a claim, where one came; the calls make the batch, in their
-- order, as the application's own.
pub record Fills (app most : ℕ) (claim : Option Claimed) (took took_now : Took) (batch : List Item) : Type 0 where
  pub items : List Item
  pub taken : took_now ≡ with_items app (map Log items ++ claim_item claim) took
  pub few : length items + length (claim_item claim) ≤ most
  pub batch_is : batch ≡ map (owned app) items
