-- Log and Lost events stay as few as the calls that were taken and the losses that were reported, and Claim events as the claims that were taken.
use Rattle.std.proofs.Common.{◌≡◌, ◌≢◌, ℕ, zero, suc, ◌+◌, ◌<◌, ◌≤◌, Bool, cond, eqb, eq-eqb, ne_eqb, List, ◌++◌, map, length, length-append, inl, inr, refl, sym, ap, ◌∙◌, subst, arith}
use Rattle.std.proofs.lemmas.Bool.Decides.{eqb_tells}
use Rattle.dl_bytes.specs.declared.item.Item.{Item}
use Rattle.dl_cells.specs.Losses.{reported_of}
use Rattle.dl_cells.proofs.LossSums.{reported_else, reported_more}
use Rattle.dl_ring.specs.declared.item.RingItem.{RingItem}
use Rattle.dl_ring.specs.declared.item.RingItem.TheVariants.{Log}
use Rattle.dl_ring.specs.Items.{calls_in, claims_in}
use Rattle.dl_ring.proofs.Items.{calls_in-append, claims_in-append}
use Rattle.dl_taking.specs.Took.{Took, with_items, with_losses}
use Rattle.dl_settling.specs.Room.{HasFewClaims, IsFew, claims_told_from, told_from}
use Rattle.dl_taking.proofs.Tooks.{calls_are, no_claims}

-- ---- what adds up over applications

-- what is told of an application: its calls and its losses, or its claims
abbrev told_of : Took → ℕ → ℕ
told_of took app = length (calls_in (took.taken app)) + reported_of app took.reported

abbrev claims_of : Took → ℕ → ℕ
claims_of took app = length (claims_in (took.taken app))

abbrev sum_from : (ℕ → ℕ) → ℕ → ℕ → ℕ
sum_from f first zero = 0
sum_from f first (suc more) = f first + sum_from f (first + 1) more

told_sum : (took : Took) (first more : ℕ) → told_from took first more ≡ sum_from (told_of took) first more
told_sum took first zero = refl
told_sum took first (suc more) = ap (λ (n : ℕ). told_of took first + n) (told_sum took (first + 1) more)

claims_sum : (took : Took) (first more : ℕ) → claims_told_from took first more ≡ sum_from (claims_of took) first more
claims_sum took first zero = refl
claims_sum took first (suc more) = ap (λ (n : ℕ). claims_of took first + n) (claims_sum took (first + 1) more)

module _ (f g : ℕ → ℕ) (app more_of : ℕ) (here : g app ≡ f app + more_of) (elsewhere : (n : ℕ) → n ≢ app → g n ≡ f n) where
  above : (first more : ℕ) → app < first → sum_from g first more ≡ sum_from f first more
  above first zero less = refl
  above first (suc more) less = omega (arith, elsewhere first (λ same. absurd (omega (arith, same, less))), above (first + 1) more (omega (arith, less)))

  within : (first more : ℕ) → first ≤ app → app < first + more → sum_from g first more ≡ sum_from f first more + more_of
  within first zero low high = absurd (omega (arith, low, high))
  within first (suc more) low high = elim (eqb_tells first app) [
    | inl same ↦
        let here_so : g first ≡ f first + more_of = subst (λ (n : ℕ). g n ≡ f n + more_of) (sym same.1) here in
        omega (arith, here_so, above (first + 1) more (omega (arith, same.1)))
    | inr other ↦ omega (arith, elsewhere first other.1, within (first + 1) more (omega (arith, low, other.1)) (omega (arith, high)))
  ]

-- ---- calls and claims

module _ (app apps : ℕ) (items : List RingItem) (took now : Took) (is : now ≡ with_items app items took) (below : app < apps) where
  taken_there : now.taken app ≡ took.taken app ++ items
  taken_there = ap (λ (t : Took). t.taken app) is ∙ ap (λ (b : Bool). cond b (took.taken app ++ items) (took.taken app)) (eq-eqb app app refl)

  taken_elsewhere : (n : ℕ) → n ≢ app → now.taken n ≡ took.taken n
  taken_elsewhere n apart = ap (λ (t : Took). t.taken n) is ∙ ap (λ (b : Bool). cond b (took.taken n ++ items) (took.taken n)) (ne_eqb n app apart)

  few_items : (noted : ℕ) → IsFew noted took apps → IsFew (noted + length (calls_in items)) now apps
  few_items noted few =
      let reports : (n : ℕ) → reported_of n now.reported ≡ reported_of n took.reported = λ n. ap (λ (t : Took). reported_of n t.reported) is in
      let own : length (calls_in (now.taken app)) ≡ length (calls_in (took.taken app)) + length (calls_in items) =
      ap (λ (xs : List RingItem). length (calls_in xs)) taken_there ∙ ap length (calls_in-append (took.taken app) items) ∙ length-append (calls_in (took.taken app)) (calls_in items) in
      let others : (n : ℕ) → n ≢ app → length (calls_in (now.taken n)) ≡ length (calls_in (took.taken n)) = λ n apart. ap (λ (xs : List RingItem). length (calls_in xs)) (taken_elsewhere n apart) in
      let all = within (told_of took) (told_of now) app (length (calls_in items)) (omega (arith, own, reports app)) (λ n apart. omega (arith, others n apart, reports n)) 0 apps (omega arith) (omega (arith, below)) in
      omega (arith, all, told_sum now 0 apps, told_sum took 0 apps, few)

  few_claims : (claimed : ℕ) → HasFewClaims claimed took apps → HasFewClaims (claimed + length (claims_in items)) now apps
  few_claims claimed few =
      let own : length (claims_in (now.taken app)) ≡ length (claims_in (took.taken app)) + length (claims_in items) =
      ap (λ (xs : List RingItem). length (claims_in xs)) taken_there ∙ ap length (claims_in-append (took.taken app) items) ∙ length-append (claims_in (took.taken app)) (claims_in items) in
      let others : (n : ℕ) → n ≢ app → length (claims_in (now.taken n)) ≡ length (claims_in (took.taken n)) = λ n apart. ap (λ (xs : List RingItem). length (claims_in xs)) (taken_elsewhere n apart) in
      let all = within (claims_of took) (claims_of now) app (length (claims_in items)) own others 0 apps (omega arith) (omega (arith, below)) in
      omega (arith, all, claims_sum now 0 apps, claims_sum took 0 apps, few)

-- Both stay few with items of which so many are calls and so many claims.
pub record StayFew (noted claimed calls claims apps : ℕ) (now : Took) : Type 0 where
  pub noted_few : IsFew (noted + calls) now apps
  pub claims_few : HasFewClaims (claimed + claims) now apps

pub few_taken : (noted claimed calls claims app apps : ℕ) (items : List RingItem) (took now : Took) → now ≡ with_items app items took → calls ≡ length (calls_in items) → claims ≡ length (claims_in items) → app < apps
    → IsFew noted took apps → HasFewClaims claimed took apps → StayFew noted claimed calls claims apps now
few_taken noted claimed calls claims app apps items took now is calls_are claims_are below few fewer = record {
  noted_few = subst (λ (n : ℕ). IsFew (noted + n) now apps) (sym calls_are) (few_items app apps items took now is below noted few);
  claims_few = subst (λ (n : ℕ). HasFewClaims (claimed + n) now apps) (sym claims_are) (few_claims app apps items took now is below claimed fewer);
}

-- with calls, and then with a claim
pub few_calls : (noted claimed count app apps : ℕ) (items : List Item) (took now : Took) → now ≡ with_items app (map Log items) took → count ≡ length items → app < apps
    → IsFew noted took apps → HasFewClaims claimed took apps → StayFew noted claimed count 0 apps now
few_calls noted claimed count app apps items took now is many below few fewer =
    few_taken noted claimed count 0 app apps (map Log items) took now is (many ∙ ap length (sym (calls_are items))) (ap length (sym (no_claims items))) below few fewer

-- ---- losses

pub few_losses : (noted one count app apps : ℕ) (took now : Took) → now ≡ with_losses app count took → one ≤ count → app < apps → IsFew noted took apps → IsFew (noted + one) now apps
few_losses noted one count app apps took now is some below few =
    let calls : (n : ℕ) → length (calls_in (now.taken n)) ≡ length (calls_in (took.taken n)) = λ n. ap (λ (t : Took). length (calls_in (t.taken n))) is in
    let own : reported_of app now.reported ≡ reported_of app took.reported + count = ap (λ (t : Took). reported_of app t.reported) is ∙ reported_more app count took.reported in
    let others : (n : ℕ) → n ≢ app → reported_of n now.reported ≡ reported_of n took.reported = λ n apart.
    ap (λ (t : Took). reported_of n t.reported) is ∙ reported_else n app count took.reported (λ (same : app ≡ n). apart (sym same)) in
    let all = within (told_of took) (told_of now) app count (omega (arith, calls app, own)) (λ n apart. omega (arith, calls n, others n apart)) 0 apps (omega arith) (omega (arith, below)) in
    omega (arith, all, told_sum now 0 apps, told_sum took 0 apps, few, some)

-- what was taken of rings is the same
pub claims_still : (claimed apps : ℕ) (took now : Took) → ((n : ℕ) → now.taken n ≡ took.taken n) → HasFewClaims claimed took apps → HasFewClaims claimed now apps
claims_still claimed apps took now same few = subst (λ (n : ℕ). claimed ≤ n) (alike 0 apps) few where
  alike : (first more : ℕ) → claims_told_from took first more ≡ claims_told_from now first more
  alike first zero = refl
  alike first (suc more) = omega (arith, ap (λ (xs : List RingItem). length (claims_in xs)) (same first), alike (first + 1) more)

-- one event tells losses, where there are any
pub one_at_most : (count : ℕ) → cond (eqb count 0) 0 1 ≤ count
one_at_most count = elim (eqb_tells count 0) [
  | inl none ↦ (let here : ◌≡◌ {A = ℕ} (cond (eqb count 0) 0 1) 0 = ap (λ (b : Bool). cond b 0 1) none.0 in omega (arith, here))
  | inr some ↦ (let here : ◌≡◌ {A = ℕ} (cond (eqb count 0) 0 1) 1 = ap (λ (b : Bool). cond b 0 1) some.0 in omega (arith, here, some.1))
]
