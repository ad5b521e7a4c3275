-- Counts that stand at their top, one more at a time.
use Rattle.std.proofs.Common.{◌≡◌, ◌+◌, ◌-◌, ◌^◌, ℕ, Bool, true, false, cond, List, [], ◌∷◌, ◌++◌, ap, ◌∙◌, arith}
use Rattle.std.specs.Prelude.{min, count_by}
use Rattle.std.proofs.lemmas.List.Sums.{sum_by_push}
use Rattle.dl_events.specs.Closes.{closed_for, is_close}
use Rattle.dl_events.specs.Journal.{one_more}
use Rattle.dl_events.specs.declared.event.Event.{Event}
use Rattle.dl_events.specs.declared.event.Event.TheVariants.{Close}
use Rattle.dl_events.specs.declared.event.Why.{Why}

one_or_none : (count : ℕ) (b : Bool) → min (count + cond b 1 0) (2 ^ 64 - 1) ≡ cond b (one_more (min count (2 ^ 64 - 1))) (min count (2 ^ 64 - 1))
one_or_none count true = omega arith
one_or_none count false = omega arith

-- how many of a list there are of a kind
pub counted_more : {A : Type 0} (is : A → Bool) (xs : List A) (x : A)
    → min (count_by is (xs ++ x ∷ [])) (2 ^ 64 - 1) ≡ cond (is x) (one_more (min (count_by is xs) (2 ^ 64 - 1))) (min (count_by is xs) (2 ^ 64 - 1))
counted_more is xs x = ap (λ n. min n (2 ^ 64 - 1)) (sum_by_push (λ y. cond (is y) 1 0) xs x) ∙ one_or_none (count_by is xs) (is x)

-- and of Closes
pub closed_more : (is : Why → Bool) (events : List Event) (client : ℕ) (why : Why)
    → closed_for is (events ++ Close client why ∷ []) ≡ cond (is why) (one_more (closed_for is events)) (closed_for is events)
closed_more is events client why = counted_more (is_close is) events (Close client why)
