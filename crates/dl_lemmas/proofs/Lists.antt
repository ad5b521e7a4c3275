-- Lists: what stands at a place, at the front and at the end, and what holds of all.
use Rattle.std.proofs.Common.{Bool, Bor, List, None, Option, Some, [], ap, append_assoc, arith, cond, drop, eqb, false, get_or, inl, inr, length, length-append, ltb, option_map, pred, refl, slice_get, subst, suc, sym, take, true, zero, ℕ, ◌++◌, ◌+◌, ◌-◌, ◌<◌, ◌∙◌, ◌∷◌, ◌≡◌, ◌≢◌, ◌≤◌, ◌⊎◌}
use Rattle.std.proofs.lemmas.Bool.{lt-ltb, ltb-true, ne_eqb}
use Rattle.std.proofs.lemmas.List.{append-nil, reverse-append}
use Rattle.std.proofs.Math.Seq.{drop-cons, take-suc}
use Rattle.std.proofs.lemmas.Option.{slice_get_cases, slice_get_read}
use Rattle.std.specs.List.{AllByRecursion, find, list_any, position, prefix_len, range_with_len}
use Rattle.std.specs.Prelude.{fold, not, reverse, slice_set, ◌||◌}
use Rattle.std.specs.Slice.{IsItemAt}
use Rattle.dl_lemmas.proofs.Options.{place_is, same_thing}

pub range-one : (a n : ℕ) → range_with_len a (n + 1) ≡ range_with_len a n ++ (a + n) ∷ []
range-one a zero = ap (λ (x : ℕ). x ∷ []) (omega arith)
range-one a (suc n) =
    let count : suc n + 1 ≡ suc (n + 1) = omega arith in
    let last : a + 1 + n ≡ a + suc n = omega arith in
    ap (range_with_len a) count ∙ ap (λ (xs : List ℕ). a ∷ xs) (range-one (a + 1) n ∙ ap (λ (x : ℕ). range_with_len (a + 1) n ++ x ∷ []) last)

pub get_or-there : {A : Type 0} (xs : List A) (place : ℕ) (x d : A) → slice_get xs place ≡ Some x → get_or xs place d ≡ x
get_or-there [] place x d at = absurd cc
get_or-there (y ∷ xs) zero x d at = cc
get_or-there (y ∷ xs) (suc place) x d at = get_or-there xs place x d at

pub same_front : (xs ys us vs : List ℕ) → length us ≡ length vs → xs ++ us ≡ ys ++ vs → xs ≡ ys
same_front [] [] us vs len is = refl
same_front [] (y ∷ ys) us vs len is = absurd (omega (arith, len, ap length is, length-append ys vs))
same_front (x ∷ xs) [] us vs len is = absurd (omega (arith, len, ap length is, length-append xs us))
same_front (x ∷ xs) (y ∷ ys) us vs len is = cc (same_front xs ys us vs len cc, is)

pub lent_is : {X : Type 0} (xs : List X) (place : ℕ) (lent : Option (Bor X)) → IsItemAt xs place lent → option_map (λ (x : Bor X). x.now) lent ≡ slice_get xs place
lent_is xs place None is = elim (slice_get_cases xs place).1 [
  | inl there ↦ absurd (omega (arith, is.3, there.1))
  | inr none ↦ sym none.1
]
lent_is xs place (Some x) is = sym (slice_get_read xs (length xs) place x.now refl is.3.0 is.1)

pub head_is : (m n : ℕ) (ms ns : List ℕ) → m ∷ ms ≡ n ∷ ns → m ≡ n
head_is m n ms ns same = cc

pub tail_is : (m n : ℕ) (ms ns : List ℕ) → m ∷ ms ≡ n ∷ ns → ms ≡ ns
tail_is m n ms ns same = cc

pub set_other : {A : Type 0} (xs : List A) (i j : ℕ) (x : A) → j ≢ i → slice_get (slice_set xs i x) j ≡ slice_get xs j
set_other [] i j x apart = refl
set_other (y ∷ ys) zero zero x apart = absurd (apart refl)
set_other (y ∷ ys) zero (suc j) x apart = refl
set_other (y ∷ ys) (suc i) zero x apart = refl
set_other (y ∷ ys) (suc i) (suc j) x apart = set_other ys i j x (λ (e : j ≡ i). apart (ap suc e))

pub set_here : {A : Type 0} (xs : List A) (i : ℕ) (x y : A) → slice_get xs i ≡ Some x → slice_get (slice_set xs i y) i ≡ Some y
set_here [] i x y is = absurd cc
set_here (z ∷ zs) zero x y is = refl
set_here (z ∷ zs) (suc i) x y is = set_here zs i x y is

pub set_again : {A : Type 0} (xs : List A) (i : ℕ) (x : A) → slice_get xs i ≡ Some x → slice_set xs i x ≡ xs
set_again [] i x is = refl
set_again (z ∷ zs) zero x is = ap (λ (y : _). y ∷ zs) (sym cc)
set_again (z ∷ zs) (suc i) x is = ap (λ (ys : List _). z ∷ ys) (set_again zs i x is)

pub get_end : {A : Type 0} (xs : List A) (x : A) → slice_get (xs ++ x ∷ []) (length xs) ≡ Some x
get_end [] x = refl
get_end (y ∷ ys) x = get_end ys x

pub all_at : {A : Type 0} (P : A → Type 0) (xs : List A) (place : ℕ) (x : A) → AllByRecursion P xs → slice_get xs place ≡ Some x → P x
all_at P [] place x all is = absurd cc
all_at P (y ∷ ys) zero x all is = let same : y ≡ x = cc is in subst (λ (z : _). P z) same all.0
all_at P (y ∷ ys) (suc place) x all is = all_at P ys place x all.1 is

pub last_or_before : {A : Type 0} (xs : List A) (x y : A) (place : ℕ) → slice_get (xs ++ x ∷ []) place ≡ Some y → (P : Type 0)
    → (slice_get xs place ≡ Some y → P) → (place ≡ length xs → x ≡ y → P) → P
last_or_before [] x y zero is P before last = last refl (cc is)
last_or_before [] x y (suc place) is P before last = absurd cc
last_or_before (z ∷ zs) x y zero is P before last = before is
last_or_before (z ∷ zs) x y (suc place) is P before last = last_or_before zs x y place is P before (λ e same. last (ap suc e) same)

pub there_too : {A : Type 0} (xs ys : List A) (place : ℕ) (y : A) → length ys ≡ length xs → slice_get ys place ≡ Some y → (x : A) × (slice_get xs place ≡ Some x)
there_too [] [] place y long is = absurd cc
there_too [] (b ∷ ys) place y long is = absurd cc
there_too (a ∷ xs) [] place y long is = absurd cc
there_too (a ∷ xs) (b ∷ ys) zero y long is = (a, refl)
there_too (a ∷ xs) (b ∷ ys) (suc place) y long is = there_too xs ys place y (ap pred long) is

pub all_both : {A : Type 0} (P : A → Type 0) (xs ys : List A) → AllByRecursion P xs → AllByRecursion P ys → AllByRecursion P (xs ++ ys)
all_both P [] ys all more = more
all_both P (x ∷ xs) ys all more = (all.0, all_both P xs ys all.1 more)

pub empty_of : {A : Type 0} (xs : List A) → length xs ≡ 0 → xs ≡ []
empty_of [] e = refl
empty_of (x ∷ xs) e = absurd (omega (arith, e))

pub all_first : {A : Type 0} (P : A → Type 0) (xs ys : List A) → AllByRecursion P (xs ++ ys) → AllByRecursion P xs
all_first P [] ys all = tt
all_first P (x ∷ xs) ys all = (all.0, all_first P xs ys all.1)

pub all_second : {A : Type 0} (P : A → Type 0) (xs ys : List A) → AllByRecursion P (xs ++ ys) → AllByRecursion P ys
all_second P [] ys all = all
all_second P (x ∷ xs) ys all = all_second P xs ys all.1

pub there : {A : Type 0} (xs : List A) (place : ℕ) → place < length xs → (x : A) × (slice_get xs place ≡ Some x)
there [] place less = absurd (omega (arith, less))
there (x ∷ xs) zero less = (x, refl)
there (x ∷ xs) (suc place) less = there xs place (omega (arith, less))

pub get_more : {A : Type 0} (xs ys : List A) (i : ℕ) (x : A) → slice_get xs i ≡ Some x → slice_get (xs ++ ys) i ≡ Some x
get_more [] ys i x e = absurd cc
get_more (y ∷ xs) ys zero x e = e
get_more (y ∷ xs) ys (suc i) x e = get_more xs ys i x e

pub prefix_len-more : {A : Type 0} (p : A → Bool) (xs ys : List A) → prefix_len p xs < length xs → prefix_len p (xs ++ ys) ≡ prefix_len p xs
prefix_len-more p [] ys lt = absurd (omega arith)
prefix_len-more {A = A} p (x ∷ xs) ys lt = by_test (p x) lt (prefix_len-more p xs ys) where
  by_test : (b : Bool) → cond b (1 + prefix_len p xs) 0 < length (x ∷ xs) → (prefix_len p xs < length xs → prefix_len p (xs ++ ys) ≡ prefix_len p xs) → cond b (1 + prefix_len p (xs ++ ys)) 0 ≡ cond b (1 + prefix_len p xs) 0
  by_test true le later = ap (λ (n : ℕ). 1 + n) (later (omega arith))
  by_test false le later = refl

pub position-more : {A : Type 0} (p : A → Bool) (xs ys : List A) (n : ℕ) → position p xs ≡ Some n → position p (xs ++ ys) ≡ Some n
position-more {A = A} p xs ys n e =
    let q = λ (x : A). not (p x) in
    let is = place_is (ltb (prefix_len q xs) (length xs)) (prefix_len q xs) n e in
    let lt : prefix_len q xs < length xs = ltb-true (prefix_len q xs) (length xs) is.0 in
    let stays : prefix_len q (xs ++ ys) ≡ prefix_len q xs = prefix_len-more q xs ys lt in
    let within : prefix_len q (xs ++ ys) < length (xs ++ ys) = omega (arith, stays, lt, length-append xs ys) in
    ap (λ (b : Bool). cond b (Some (prefix_len q (xs ++ ys))) None) (lt-ltb (prefix_len q (xs ++ ys)) (length (xs ++ ys)) within) ∙ ap Some (stays ∙ is.1)

pub all_here : {A : Type 0} (P : A → Type 0) (front : List A) (x : A) (back : List A) → AllByRecursion P (front ++ x ∷ back) → P x
all_here P [] x back all = all.0
all_here P (y ∷ front) x back all = all_here P front x back all.1

pub not_in_range : (first n client : ℕ) → (client < first) ⊎ (first + n ≤ client) → list_any (λ d. eqb d client) (range_with_len first n) ≡ false
not_in_range first zero client out = refl
not_in_range first (suc n) client out =
    ap (λ (b : Bool). b || list_any (λ d. eqb d client) (range_with_len (first + 1) n)) (ne_eqb first client (apart out)) ∙ not_in_range (first + 1) n client (later out) where
      apart : (client < first) ⊎ (first + suc n ≤ client) → first ≡ client → ⊥
      apart (inl below) e = omega (arith, below, e)
      apart (inr above) e = omega (arith, above, e)

      later : (client < first) ⊎ (first + suc n ≤ client) → (client < first + 1) ⊎ (first + 1 + n ≤ client)
      later (inl below) = inl (omega (arith, below))
      later (inr above) = inr (omega (arith, above))

pub not_empty : (directory : List ℕ) → directory ≡ [] → 0 < length directory → ⊥
not_empty directory empty named = omega (arith, ap length empty, named)

pub within_of : {A : Type 0} (xs : List A) (place : ℕ) (x : A) → slice_get xs place ≡ Some x → place < length xs
within_of [] place x at = absurd (cc at)
within_of (y ∷ ys) zero x at = omega arith
within_of (y ∷ ys) (suc place) x at = omega (arith, within_of ys place x at)

pub all_map : {A : Type 0} (P Q : A → Type 0) → ((x : A) → P x → Q x) → (xs : List A) → AllByRecursion P xs → AllByRecursion Q xs
all_map P Q f [] all = tt
all_map P Q f (x ∷ xs) all = (f x all.0, all_map P Q f xs all.1)

pub all_end : {A : Type 0} (P : A → Type 0) (xs : List A) (y : A) → AllByRecursion P xs → P y → AllByRecursion P (xs ++ y ∷ [])
all_end P xs y all here = all_both P xs (y ∷ []) all (here, tt)

pub all_reverse : {A : Type 0} (P : A → Type 0) (xs : List A) → AllByRecursion P xs → AllByRecursion P (reverse xs)
all_reverse P [] all = tt
all_reverse P (x ∷ xs) all =
    subst (AllByRecursion P) (sym (reverse-append (x ∷ []) xs)) (all_both P (reverse xs) (x ∷ []) (all_reverse P xs all.1) (all.0, tt))

pub all_found : {A : Type 0} (P : A → Type 0) (p : A → Bool) (xs : List A) (x : A) → AllByRecursion P xs → find p xs ≡ Some x → P x
all_found P p [] x all e = absurd cc
all_found P p (y ∷ xs) x all e = by_test (p y) e (all_found P p xs x all.1) where
  by_test : (b : Bool) → cond b (Some y) (find p xs) ≡ Some x → (find p xs ≡ Some x → P x) → P x
  by_test true e later = subst P (same_thing y x e) all.0
  by_test false e later = later e

-- what holds of the empty list, and goes on with one entry more at the end
pub by_end : {A : Type 0} (P : List A → Type 0) → P [] → ((xs : List A) (x : A) → P xs → P (xs ++ x ∷ [])) → (xs : List A) → P xs
by_end {A = A} P start more xs = from [] xs start where
  from : (before xs : List A) → P before → P (before ++ xs)
  from before [] is = subst P (sym (append-nil before)) is
  from before (x ∷ xs) is = subst P (append_assoc before (x ∷ []) xs) (from (before ++ x ∷ []) xs (more before x is))

pub fold-one : {A B : Type 0} (f : A → B → A) (z : A) (xs : List B) (x : B) → fold f z (xs ++ x ∷ []) ≡ f (fold f z xs) x
fold-one f z [] x = refl
fold-one f z (y ∷ ys) x = fold-one f (f z y) ys x

pub front_empty : {A : Type 0} (xs ys : List A) → xs ++ ys ≡ [] → xs ≡ []
front_empty [] ys e = refl
front_empty (x ∷ xs) ys e = absurd cc

pub take_next : {A : Type 0} (xs : List A) (i : ℕ) (x : A) → slice_get xs i ≡ Some x → take (i + 1) xs ≡ take i xs ++ x ∷ []
take_next [] i x e = absurd cc
take_next (y ∷ xs) zero x e = cc
take_next {A = A} (y ∷ xs) (suc i) x e =
    let count : suc i + 1 ≡ suc (i + 1) = omega arith in
    ap (λ n. take n (y ∷ xs)) count ∙ ap (λ (zs : List A). y ∷ zs) (take_next xs i x e)

-- the items before a place, and from it on, with the one there
pub item_here : {A : Type 0} (items : List A) (k : ℕ) (item : A) → k < length items → item ≡ get_or items k item
    → (take (k + 1) items ≡ take k items ++ item ∷ []) × (drop k items ≡ item ∷ drop (k + 1) items)
item_here {A} items k item within is =
    let next : k + 1 ≡ suc k = omega arith in (
      rw next (take-suc items k item within ∙ ap (λ (x : A). take k items ++ x ∷ []) (sym is)),
      rw next (drop-cons items k item within ∙ ap (λ (x : A). x ∷ drop (suc k) items) (sym is)),
    )
