-- Entries of a map in their order: one changed, one gone, and searches by what they have.
use Rattle.std.proofs.Common.{◌≡◌, ℕ, zero, suc, ◌+◌, ◌<◌, ◌≤◌, Bool, true, false, not, cond, List, [], ◌∷◌, length, map, Option, Some, None, is_some, ltb, refl, sym, ap, subst, ◌∙◌, arith}
use Rattle.std.specs.Prelude.{nat_eq, ◌||◌, ◌==◌, slice_get, slice_set, IfSome, IsSome}
use Rattle.std.specs.List.{filter, find, list_any, position, position_or_len}
use Rattle.std.specs.Map.{lookup, remove_entry, values_of}
use Rattle.indexmap.specs.IndexMap.{set_value_at}
use Rattle.std.specs.Option.{option_and_then, option_map, option_map_or}
use Rattle.std.specs.Str.{bytes_eq}
use Rattle.std.proofs.lemmas.Bool.{ltb-false}
use Rattle.std.proofs.lemmas.Option.{slice_get_past}
use Rattle.std.proofs.lemmas.Map.{NonePasses, lookup-none, none_passes_from_lookup}
use Rattle.std.proofs.lemmas.List.{length-map}
use Rattle.dl_model.specs.Registry.{App, IsNumbered, least_free, numbers, of_channel}
use Rattle.dl_apps.proofs.Numbers.{least_free_is, room_left, none_left}
use Rattle.dl_apps.specs.Change.{changed_entry, changed_first}

-- ---- one changed

set_value_at-entry : {K X : Type 0} (es : List (K × X)) (i : ℕ) (e : K × X) (w : X) → slice_get es i ≡ Some e → set_value_at es i w ≡ slice_set es i (e.0, w)
set_value_at-entry [] i e w is = absurd (cc is)
set_value_at-entry (x ∷ xs) zero e w is = let same : x ≡ e = cc is in ap (λ y. (y.0, w) ∷ xs) same
set_value_at-entry (x ∷ xs) (suc i) e w is = ap (λ ys. x ∷ ys) (set_value_at-entry xs i e w is)

pub changed_at : {K X : Type 0} (change : K × X → K × X) (es : List (K × X)) (i : ℕ) (e : K × X) (w : X) → slice_get es i ≡ Some e → change e ≡ (e.0, w) → set_value_at es i w ≡ changed_entry change es i
changed_at change es i e w is changed =
    set_value_at-entry es i e w is ∙ (ap (slice_set es i) (sym changed) ∙ sym (ap (λ o. option_map_or (λ entry. slice_set es i (change entry)) o es) is))

changed_entry-tail : {X : Type 0} (change : X → X) (y : X) (ys : List X) (i : ℕ) → changed_entry change (y ∷ ys) (suc i) ≡ y ∷ changed_entry change ys i
changed_entry-tail {X} change y ys i = by (slice_get ys i) where
  by : (o : Option X) → option_map_or (λ entry. y ∷ slice_set ys i (change entry)) o (y ∷ ys) ≡ y ∷ option_map_or (λ entry. slice_set ys i (change entry)) o ys
  by None = refl
  by (Some x) = refl

changed_first-suc : {X : Type 0} (change : X → X) (es : List X) (n : ℕ) → changed_entry change (changed_first change n es) n ≡ changed_first change (suc n) es
changed_first-suc change [] zero = refl
changed_first-suc change [] (suc n) = refl
changed_first-suc change (e ∷ es) zero = refl
changed_first-suc change (e ∷ es) (suc n) =
    changed_entry-tail change (change e) (changed_first change n es) n ∙ ap (λ ys. change e ∷ ys) (changed_first-suc change es n)

pub changed_first-more : {X : Type 0} (change : X → X) (es : List X) (n : ℕ) → changed_entry change (changed_first change n es) n ≡ changed_first change (n + 1) es
changed_first-more change es n = let more : suc n ≡ n + 1 = omega arith in changed_first-suc change es n ∙ ap (λ k. changed_first change k es) more

pub changed_first-all : {X : Type 0} (change : X → X) (es : List X) (n : ℕ) → length es ≤ n → changed_first change n es ≡ map change es
changed_first-all change [] zero all = refl
changed_first-all change [] (suc n) all = refl
changed_first-all change (e ∷ es) zero all = absurd (omega arith)
changed_first-all change (e ∷ es) (suc n) all = ap (λ ys. change e ∷ ys) (changed_first-all change es n (omega arith))

pub length-changed_first : {X : Type 0} (change : X → X) (es : List X) (n : ℕ) → length (changed_first change n es) ≡ length es
length-changed_first change es zero = refl
length-changed_first change [] (suc n) = refl
length-changed_first change (e ∷ es) (suc n) = omega (arith, length-changed_first change es n)

-- ---- one gone

filter-none : {K X : Type 0} (test : K → Bool) (es : List (K × X)) → NonePasses test es → filter (λ e. not (test e.0)) es ≡ es
filter-none test [] none = refl
filter-none test (e ∷ es) none = ap (λ b. cond (not b) (e ∷ filter (λ x. not (test x.0)) es) (filter (λ x. not (test x.0)) es)) none.0 ∙ ap (λ xs. e ∷ xs) (filter-none test es none.1)

-- where no entry of the key is left, the first of them gone leaves all others
pub removed_is_filter : {K X : Type 0} (test : K → Bool) (es : List (K × X)) → lookup test (remove_entry test es) ≡ None → remove_entry test es ≡ filter (λ e. not (test e.0)) es
removed_is_filter test [] none = refl
removed_is_filter {K} {X} test (e ∷ es) none = by (test e.0) (none_passes_from_lookup test (remove_entry test (e ∷ es)) none) (removed_is_filter test es) where
  by : (b : Bool) → NonePasses test (cond b es (e ∷ remove_entry test es)) → (lookup test (remove_entry test es) ≡ None → remove_entry test es ≡ filter (λ x. not (test x.0)) es)
      → cond b es (e ∷ remove_entry test es) ≡ cond (not b) (e ∷ filter (λ x. not (test x.0)) es) (filter (λ x. not (test x.0)) es)
  by true none rest = sym (filter-none test es none)
  by false none rest = ap (λ xs. e ∷ xs) (rest (lookup-none test (remove_entry test es) none.1))

-- ---- by numbers

pub any_number : (n : ℕ) (es : List (List ℕ × App)) → list_any (λ app. n == app.number) (values_of es) ≡ list_any (nat_eq n) (numbers es)
any_number n [] = refl
any_number n (e ∷ es) = ap (λ b. nat_eq n e.1.number || b) (any_number n es)

-- an application's number that none has, where each smaller one is some application's
pub free_number_is : (es : List (List ℕ × App)) (n : ℕ) → IsNumbered 16 (numbers es) → n < 16 → list_any (λ app. n == app.number) (values_of es) ≡ false
    → ((k : ℕ) → k < n → list_any (nat_eq k) (numbers es) ≡ true) → (n ≡ least_free (numbers es)) × (length es < 16)
free_number_is es n is below free smaller =
    let unused : list_any (nat_eq n) (numbers es) ≡ false = sym (any_number n es) ∙ free in
    (least_free_is (numbers es) n unused smaller, omega (arith, room_left 16 (numbers es) n is below unused, length-map es (λ (e : List ℕ × App). e.1.number)))

pub apps_are_full : (es : List (List ℕ × App)) → ((k : ℕ) → k < 16 → list_any (nat_eq k) (numbers es) ≡ true) → 16 ≤ length es
apps_are_full es all = omega (arith, none_left 16 (numbers es) all, length-map es (λ (e : List ℕ × App). e.1.number))

-- ---- the first of a channel

found_passes : {X : Type 0} (test : X → Bool) (xs : List X) (x : X) → find test xs ≡ Some x → test x ≡ true
found_passes test [] x found = absurd (cc found)
found_passes {X} test (y ∷ ys) x found = by (test y) refl found (λ is. found_passes test ys x is) where
  by : (b : Bool) → test y ≡ b → cond b (Some y) (find test ys) ≡ Some x → (find test ys ≡ Some x → test x ≡ true) → test x ≡ true
  by true passes is rest = let same : y ≡ x = cc is in subst (λ z. test z ≡ true) same passes
  by false other is rest = rest is

module _ {K X : Type 0} (test : X → Bool) where
  first_entry : (es : List (K × X)) → slice_get es (position_or_len test (values_of es)) ≡ find (λ e. test e.1) es
  first_entry [] = refl
  first_entry (e ∷ es) = by (test e.1) (first_entry es) where
    by : (b : Bool) → slice_get es (position_or_len test (values_of es)) ≡ find (λ x. test x.1) es
        → slice_get (e ∷ es) (cond (not b) (1 + position_or_len test (values_of es)) 0) ≡ cond b (Some e) (find (λ x. test x.1) es)
    by true rest = refl
    by false rest = let next : 1 + position_or_len test (values_of es) ≡ suc (position_or_len test (values_of es)) = omega arith in ap (slice_get (e ∷ es)) next ∙ rest

  -- the first entry is at the first place of the values
  pub at_first_place : (es : List (K × X)) → option_and_then (slice_get es) (position test (values_of es)) ≡ find (λ e. test e.1) es
  at_first_place es = by (ltb first (length (values_of es))) refl ∙ first_entry es where
    first : ℕ
    first = position_or_len test (values_of es)

    by : (b : Bool) → ltb first (length (values_of es)) ≡ b → option_and_then (slice_get es) (cond b (Some first) None) ≡ slice_get es first
    by true within = refl
    by false past =
        let long : length (values_of es) ≤ first = ltb-false first (length (values_of es)) past in
        sym (slice_get_past es first (omega (arith, long, length-map es (λ (e : K × X). e.1))))

-- an id names one application, so it leads to the first one of the channel
pub first_is_there : (channel : ℕ) (es : List (List ℕ × App)) (place : ℕ) (result : Option (List ℕ)) → position (λ app. app.channel == channel) (values_of es) ≡ Some place
    → result ≡ option_map (λ entry. entry.0) (slice_get es place) → IfSome result (λ apid. lookup (bytes_eq apid) es ≡ option_map (λ entry. entry.1) (slice_get es place))
    → IfSome result (λ apid. IsSome (option_and_then (of_channel channel) (lookup (bytes_eq apid) es)))
first_is_there channel es place None at is leads = tt
first_is_there channel es place (Some apid) at is leads = by (slice_get es place) refl is where
  by : (o : Option (List ℕ × App)) → slice_get es place ≡ o → Some apid ≡ option_map (λ entry. entry.0) o → IsSome (option_and_then (of_channel channel) (lookup (bytes_eq apid) es))
  by None none same = absurd (cc same)
  by (Some entry) entry_is same =
      let found : find (λ e. e.1.channel == channel) es ≡ Some entry = sym (at_first_place (λ (app : App). app.channel == channel) es) ∙ (ap (option_and_then (slice_get es)) at ∙ entry_is) in
      let passes : (entry.1.channel == channel) ≡ true = found_passes (λ (e : List ℕ × App). e.1.channel == channel) es entry found in
      ap (λ o. is_some (option_and_then (of_channel channel) o)) (leads ∙ ap (option_map (λ (e : List ℕ × App). e.1)) entry_is) ∙ ap (λ b. is_some (cond b (Some entry.1) None)) passes
