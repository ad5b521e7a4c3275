-- How many places of an application are claimed: lines of a script claim at least as many as the marks have.
use Rattle.std.proofs.Common.{◌≡◌, ℕ, ◌+◌, ◌<◌, ◌≤◌, ◌⊎◌, inl, inr, Bool, true, false, cond, eqb, get_or, List, [], ◌∷◌, ◌++◌, length, Option, Some, None, refl, sym, ap, subst, ◌∙◌, arith, length-append}
use Rattle.std.specs.Prelude.{◌==◌, not, nat_lt, count_by}
use Rattle.std.specs.List.{filter, position, prefix_len, AllByRecursion}
use Rattle.std.specs.Str.{bytes_eq}
use Rattle.std.proofs.lemmas.Bool.{cases_lt, eqb-true, lt-ltb, ne_eqb}
use Rattle.std.proofs.lemmas.List.Elements.{filter-append}
use Rattle.std.proofs.lemmas.List.Folds.{prefix_len-append}
use Rattle.std.proofs.lemmas.List.Quantifiers.{position-Some}
use Rattle.dl_bytes.specs.Claim.{Claimed}
use Rattle.dl_script_model.specs.declared.line.AppLine.{AppLine}
use Rattle.dl_script.specs.Earlier.{is_on}
use Rattle.dl_script.specs.declared.claim.PlaceName.{PlaceName}
use Rattle.dl_model.proofs.Presence.{bytes_tell}
use Rattle.dl_model.proofs.Lists.{count_by-append}
use Rattle.dl_lemmas.proofs.Lists.{all_both}
use Rattle.dl_lemmas.proofs.Options.{place_is}

-- the number of the application of this id
abbrev number_in : List AppLine → List ℕ → Option ℕ
number_in lines apid = position (λ (line : AppLine). bytes_eq line.apid apid) lines

-- of each application as many places are named as claimed, at least; and each claim is of an application that is there
pub record Covers (lines : List AppLine) (claims : List Claimed) (places : List PlaceName) : Type 0 where
  pub count : (apid : List ℕ) (app : ℕ) → position (λ (line : AppLine). bytes_eq line.apid apid) lines ≡ Some app
      → length (filter (λ (claim : Claimed). claim.app == app) claims) ≤ count_by (is_on apid) places
  pub within : AllByRecursion (λ (claim : Claimed). claim.app < length lines) claims

pub covers_nothing : Covers [] [] []
covers_nothing = record { count = λ apid app at. omega arith; within = tt }

-- the same said of equal lists
pub covers_same : (lines lines_now : List AppLine) (claims claims_now : List Claimed) (places places_now : List PlaceName) → lines_now ≡ lines → claims_now ≡ claims → places_now ≡ places
    → Covers lines claims places → Covers lines_now claims_now places_now
covers_same lines lines_now claims claims_now places places_now lines_are claims_are places_are is =
    subst (λ (ls : List AppLine). Covers ls claims_now places_now) (sym lines_are)
    (subst (λ (cs : List Claimed). Covers lines cs places_now) (sym claims_are) (subst (λ (ps : List PlaceName). Covers lines claims ps) (sym places_are) is))

-- ---- one application more

position-front : {A : Type 0} (p : A → Bool) (xs ys : List A) (n : ℕ) → position p (xs ++ ys) ≡ Some n → n < length xs → position p xs ≡ Some n
position-front {A = A} p xs ys n at below =
    let same = by_end (eqb (prefix_len (λ (x : A). not (p x)) xs) (length xs)) (sym (prefix_len-append (λ (x : A). not (p x)) xs ys) ∙ found) in
    ap (λ (b : Bool). cond b (Some (prefix_len (λ (x : A). not (p x)) xs)) None) (lt-ltb (prefix_len (λ (x : A). not (p x)) xs) (length xs) (omega (arith, same, below))) ∙ ap Some same where
      found : prefix_len (λ (x : A). not (p x)) (xs ++ ys) ≡ n
      found = (place_is (nat_lt (prefix_len (λ (x : A). not (p x)) (xs ++ ys)) (length (xs ++ ys))) (prefix_len (λ (x : A). not (p x)) (xs ++ ys)) n at).1

      by_end : (b : Bool) → cond b (length xs + prefix_len (λ (x : A). not (p x)) ys) (prefix_len (λ (x : A). not (p x)) xs) ≡ n → prefix_len (λ (x : A). not (p x)) xs ≡ n
      by_end true e = absurd (omega (arith, e, below))
      by_end false e = e

none_of_it : (claims : List Claimed) (n app : ℕ) → AllByRecursion (λ (claim : Claimed). claim.app < n) claims → n ≤ app → length (filter (λ (claim : Claimed). claim.app == app) claims) ≡ 0
none_of_it [] n app all above = refl
none_of_it (claim ∷ claims) n app all above =
    let apart : eqb claim.app app ≡ false = ne_eqb claim.app app (λ same. omega (arith, same, all.0, above)) in
    rw apart (none_of_it claims n app all.1 above)

all_below : (claims : List Claimed) (m n : ℕ) → m ≤ n → AllByRecursion (λ (claim : Claimed). claim.app < m) claims → AllByRecursion (λ (claim : Claimed). claim.app < n) claims
all_below [] m n le all = tt
all_below (claim ∷ claims) m n le all = (omega (arith, le, all.0), all_below claims m n le all.1)

pub covers_app : (lines : List AppLine) (line : AppLine) (claims : List Claimed) (places : List PlaceName) → Covers lines claims places → Covers (lines ++ line ∷ []) claims places
covers_app lines line claims places is = record {
  count = λ apid app at. by_place apid app at (cases_lt app (length lines));
  within = all_below claims (length lines) (length (lines ++ line ∷ [])) (omega (arith, length-append lines (line ∷ []))) is.within;
} where
  by_place : (apid : List ℕ) (app : ℕ) → number_in (lines ++ line ∷ []) apid ≡ Some app → (app < length lines) ⊎ (length lines ≤ app)
      → length (filter (λ (claim : Claimed). claim.app == app) claims) ≤ count_by (is_on apid) places
  by_place apid app at (inl below) = is.count apid app (position-front (λ (l : AppLine). bytes_eq l.apid apid) lines (line ∷ []) app at below)
  by_place apid app at (inr above) = omega (arith, none_of_it claims (length lines) app is.within above)

-- ---- one claim more

abbrev no_line : AppLine
no_line = record { apid = []; capacity = 0; text = [] }

same_id : (id a b : List ℕ) → bytes_eq id a ≡ true → bytes_eq id b ≡ true → bytes_eq a b ≡ true
same_id id a b first second = elim (bytes_tell id a) [
  | inl same ↦ subst (λ (x : List ℕ). bytes_eq x b ≡ true) same.1 second
  | inr apart ↦ absurd (let bad : true ≡ false = sym first ∙ apart.0 in cc)
]

abbrev one_if : Bool → ℕ
one_if b = cond b 1 0

-- a place is named, and claimed or not
pub covers_name : (lines : List AppLine) (claims : List Claimed) (places : List PlaceName) (name : PlaceName) → Covers lines claims places → Covers lines claims (places ++ name ∷ [])
covers_name lines claims places name is = record {
  count = λ apid app at. omega (arith, is.count apid app at, count_by-append (is_on apid) places (name ∷ []));
  within = is.within;
}

pub covers_claim : (lines : List AppLine) (claims : List Claimed) (places : List PlaceName) (claim : Claimed) (name : PlaceName)
    → position (λ (line : AppLine). bytes_eq line.apid name.apid) lines ≡ Some claim.app → Covers lines claims places → Covers lines (claims ++ claim ∷ []) (places ++ name ∷ [])
covers_claim lines claims places claim name number is = record {
  count = λ apid app at. by_app apid app at (eqb claim.app app) refl;
  within = all_both (λ (c : Claimed). c.app < length lines) claims (claim ∷ []) is.within ((position-Some (λ (l : AppLine). bytes_eq l.apid name.apid) lines claim.app no_line number).0, tt);
} where
  one_claim : (app : ℕ) (b : Bool) → length (cond b (claim ∷ []) []) ≡ one_if b
  one_claim app true = refl
  one_claim app false = refl

  claimed : (app : ℕ) → length (filter (λ (c : Claimed). c.app == app) (claims ++ claim ∷ [])) ≡ length (filter (λ (c : Claimed). c.app == app) claims) + one_if (eqb claim.app app)
  claimed app =
      ap length (filter-append (λ (c : Claimed). c.app == app) claims (claim ∷ []))
      ∙ length-append (filter (λ (c : Claimed). c.app == app) claims) (cond (eqb claim.app app) (claim ∷ []) [])
      ∙ ap (λ (n : ℕ). length (filter (λ (c : Claimed). c.app == app) claims) + n) (one_claim app (eqb claim.app app))

  named : (apid : List ℕ) → count_by (is_on apid) (places ++ name ∷ []) ≡ count_by (is_on apid) places + one_if (bytes_eq name.apid apid)
  named apid =
      let one : count_by (is_on apid) (name ∷ []) ≡ one_if (bytes_eq name.apid apid) = omega arith in
      count_by-append (is_on apid) places (name ∷ []) ∙ ap (λ (n : ℕ). count_by (is_on apid) places + n) one

  by_app : (apid : List ℕ) (app : ℕ) → number_in lines apid ≡ Some app → (b : Bool) → eqb claim.app app ≡ b
      → length (filter (λ (c : Claimed). c.app == app) (claims ++ claim ∷ [])) ≤ count_by (is_on apid) (places ++ name ∷ [])
  by_app apid app at false apart = omega (arith, is.count apid app at, claimed app, ap one_if apart, named apid)
  by_app apid app at true same =
      let here : claim.app ≡ app = eqb-true claim.app app same in
      let first = (position-Some (λ (l : AppLine). bytes_eq l.apid name.apid) lines claim.app no_line number).1 in
      let second = (position-Some (λ (l : AppLine). bytes_eq l.apid apid) lines app no_line at).1 in
      let line_is : get_or lines claim.app no_line ≡ get_or lines app no_line = ap (λ (k : ℕ). get_or lines k no_line) here in
      let on : bytes_eq name.apid apid ≡ true = same_id (get_or lines app no_line).apid name.apid apid (subst (λ (l : AppLine). bytes_eq l.apid name.apid ≡ true) line_is first) second in
      omega (arith, is.count apid app at, claimed app, ap one_if same, named apid, ap one_if on)
