-- Books in pairs: those that were given to workers, and those that came back.
use Rattle.std.proofs.Common.{◌≡◌, ℕ, List, [], ◌∷◌, ◌++◌, length, refl, sym, ap, ◌∙◌, subst, arith}
use Rattle.std.specs.Prelude.{All}
use Rattle.std.proofs.lemmas.List.Elements.{All-nil, All-cons, All-head, All-tail}
use Rattle.dl_bytes.specs.Context.{Context}
use Rattle.dl_script_model.specs.declared.scenario.ScenarioLine.{ScenarioLine}
use Rattle.dl_desk.specs.Made.{IsMadeWith}
use Rattle.dl_desk.specs.State.{DeskState}
use Rattle.dl_writer.specs.State.{BookState, IsWhole, numbers}
use Rattle.dl_crew.specs.Plays.{ArePairs, HasPlayed}

-- one pair more, at the end
pub pairs_more : {A B : Type 0} (R : A → B → Type 0) (xs : List A) (ys : List B) (x : A) (y : B) → ArePairs R xs ys → R x y → ArePairs R (xs ++ x ∷ []) (ys ++ y ∷ [])
pairs_more R [] [] x y pairs one = (one, tt)
pairs_more R [] (b ∷ ys) x y pairs one = absurd pairs
pairs_more R (a ∷ xs) [] x y pairs one = absurd pairs
pairs_more R (a ∷ xs) (b ∷ ys) x y pairs one = (pairs.0, pairs_more R xs ys x y pairs.1 one)

-- what goes over from each to its partner goes over from all to all
pub all_pairs : {A B : Type 0} (R : A → B → Type 0) (P : A → Type 0) (Q : B → Type 0) → ((x : A) (y : B) → R x y → P x → Q y) → (xs : List A) (ys : List B) → ArePairs R xs ys → All P xs → All Q ys
all_pairs R P Q goes [] [] pairs all = All-nil Q
all_pairs R P Q goes [] (y ∷ ys) pairs all = absurd pairs
all_pairs R P Q goes (x ∷ xs) [] pairs all = absurd pairs
all_pairs R P Q goes (x ∷ xs) (y ∷ ys) pairs all = All-cons Q y ys (goes x y pairs.0 (All-head P x xs all)) (all_pairs R P Q goes xs ys pairs.1 (All-tail P x xs all))

module _ (contexts : List Context) (lines : List ScenarioLine) where
  pub same_numbers : (old new : List BookState) → ArePairs (HasPlayed contexts lines) old new → numbers new ≡ numbers old
  same_numbers [] [] pairs = refl
  same_numbers [] (b ∷ new) pairs = absurd pairs
  same_numbers (a ∷ old) [] pairs = absurd pairs
  same_numbers (a ∷ old) (b ∷ new) pairs = let first = pairs.0.stays.number in let rest = same_numbers old new pairs.1 in cc

  pub still_whole : (old new : List BookState) → ArePairs (HasPlayed contexts lines) old new → All IsWhole old → All IsWhole new
  still_whole old new pairs = all_pairs (HasPlayed contexts lines) IsWhole IsWhole (λ a b played whole. played.stays.whole whole) old new pairs

  pub still_made : (desk : DeskState) (old new : List BookState) → ArePairs (HasPlayed contexts lines) old new → All (λ b. IsMadeWith desk b.writer) old → All (λ b. IsMadeWith desk b.writer) new
  still_made desk old new pairs =
      all_pairs (HasPlayed contexts lines) (λ (b : BookState). IsMadeWith desk b.writer) (λ (b : BookState). IsMadeWith desk b.writer) (λ a b played made. played.stays.desk desk made) old new pairs

  pub same_bases : (base : ℕ → ℕ) (old new : List BookState) → ArePairs (HasPlayed contexts lines) old new → All (λ b. b.writer.base ≡ base b.writer.app) old
      → All (λ b. b.writer.base ≡ base b.writer.app) new
  same_bases base old new pairs =
      all_pairs (HasPlayed contexts lines) (λ (b : BookState). b.writer.base ≡ base b.writer.app) (λ (b : BookState). b.writer.base ≡ base b.writer.app)
      (λ a b played is. played.stays.base ∙ is ∙ ap base (sym played.stays.app)) old new pairs

pub as_many : {A B : Type 0} (R : A → B → Type 0) (xs : List A) (ys : List B) → ArePairs R xs ys → length ys ≡ length xs
as_many R [] [] pairs = refl
as_many R [] (y ∷ ys) pairs = absurd pairs
as_many R (x ∷ xs) [] pairs = absurd pairs
as_many R (x ∷ xs) (y ∷ ys) pairs = let rest = as_many R xs ys pairs.1 in omega (arith, rest)

-- what holds of all books holds of those before the last
pub all_front : {A : Type 0} (P : A → Type 0) (all xs : List A) (x : A) → all ≡ xs ++ x ∷ [] → All P all → All P xs
all_front {A} P all xs x parted holds = front xs (subst (λ (l : List A). All P l) parted holds) where
  front : (xs : List A) → All P (xs ++ x ∷ []) → All P xs
  front [] h = All-nil P
  front (y ∷ xs) h = All-cons P y xs (All-head P y (xs ++ x ∷ []) h) (front xs (All-tail P y (xs ++ x ∷ []) h))

-- and of the last
pub all_last : {A : Type 0} (P : A → Type 0) (all xs : List A) (x : A) → all ≡ xs ++ x ∷ [] → All P all → P x
all_last {A} P all xs x parted holds = last xs (subst (λ (l : List A). All P l) parted holds) where
  last : (xs : List A) → All P (xs ++ x ∷ []) → P x
  last [] h = All-head P x [] h
  last (y ∷ xs) h = last xs (All-tail P y (xs ++ x ∷ []) h)

-- pairs behind pairs
pub pairs_behind : {A B : Type 0} (R : A → B → Type 0) (xs : List A) (ys : List B) (more : List A) (others : List B) → ArePairs R xs ys → ArePairs R more others → ArePairs R (xs ++ more) (ys ++ others)
pairs_behind R [] [] more others pairs then = then
pairs_behind R [] (y ∷ ys) more others pairs then = absurd pairs
pairs_behind R (x ∷ xs) [] more others pairs then = absurd pairs
pairs_behind R (x ∷ xs) (y ∷ ys) more others pairs then = (pairs.0, pairs_behind R xs ys more others pairs.1 then)
