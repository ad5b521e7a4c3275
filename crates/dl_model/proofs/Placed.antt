-- The places of an application's contexts: what each change of these leaves of them.
use Rattle.std.proofs.Common.{◌≡◌, ℕ, ◌<◌, Bool, true, false, not, cond, List, [], ◌∷◌, ◌++◌, map, Option, Some, None, refl, sym, ap, subst, ◌∙◌, append-nil, append_assoc}
use Rattle.std.specs.Prelude.{nat_eq, nat_lt, ◌&&◌}
use Rattle.std.specs.List.{AllByRecursion, IsDistinct, filter, flat_map, list_any}
use Rattle.std.specs.Map.{lookup, set_value}
use Rattle.std.proofs.lemmas.Bool.{ltb-true}
use Rattle.std.proofs.lemmas.Grind.{flat_map-append}
use Rattle.std.proofs.lemmas.Map.Keys.{IsDistinct-head, IsDistinct-tail, IsDistinct-cons}
use Rattle.dl_lemmas.proofs.Numbers.{nat_eq_apart}
use Rattle.dl_lemmas.proofs.Bools.{or_left, or_right}
use Rattle.dl_model.specs.declared.context.Context.{Context}
use Rattle.dl_model.specs.Registry.{IsNumbered, Relevel, places_of, places, is_free, releveled_context}
use Rattle.dl_model.proofs.Numbered.{IsNumbered-add}

-- ---- lists, put together

pub all-left : (P : ℕ → Type 0) (xs ys : List ℕ) → AllByRecursion P (xs ++ ys) → AllByRecursion P xs
all-left P [] ys all = tt
all-left P (x ∷ xs) ys all = (all.0, all-left P xs ys all.1)

pub all-right : (P : ℕ → Type 0) (xs ys : List ℕ) → AllByRecursion P (xs ++ ys) → AllByRecursion P ys
all-right P [] ys all = all
all-right P (x ∷ xs) ys all = all-right P xs ys all.1

pub all-append : (P : ℕ → Type 0) (xs ys : List ℕ) → AllByRecursion P xs → AllByRecursion P ys → AllByRecursion P (xs ++ ys)
all-append P [] ys first second = second
all-append P (x ∷ xs) ys first second = (first.0, all-append P xs ys first.1 second)

all-insert : (P : ℕ → Type 0) (xs ys : List ℕ) (n : ℕ) → AllByRecursion P (xs ++ ys) → P n → AllByRecursion P (xs ++ n ∷ ys)
all-insert P [] ys n all here = (here, all)
all-insert P (x ∷ xs) ys n all here = (all.0, all-insert P xs ys n all.1 here)

pub apart-right : (xs ys : List ℕ) → IsDistinct nat_eq (xs ++ ys) → IsDistinct nat_eq ys
apart-right [] ys is = is
apart-right (x ∷ xs) ys is = apart-right xs ys (IsDistinct-tail nat_eq x (xs ++ ys) is)

-- other numbers behind the same ones
apart-behind : (xs ys zs : List ℕ) → IsDistinct nat_eq (xs ++ ys) → IsDistinct nat_eq zs
    → ((x : ℕ) → AllByRecursion (λ y. nat_eq x y ≡ false) ys → AllByRecursion (λ y. nat_eq x y ≡ false) zs) → IsDistinct nat_eq (xs ++ zs)
apart-behind [] ys zs is rest fewer = rest
apart-behind (x ∷ xs) ys zs is rest fewer =
    let others : AllByRecursion (λ y. nat_eq x y ≡ false) (xs ++ ys) = IsDistinct-head nat_eq x (xs ++ ys) is in
    IsDistinct-cons nat_eq x (xs ++ zs)
    (all-append (λ y. nat_eq x y ≡ false) xs zs (all-left (λ y. nat_eq x y ≡ false) xs ys others) (fewer x (all-right (λ y. nat_eq x y ≡ false) xs ys others)))
    (apart-behind xs ys zs (IsDistinct-tail nat_eq x (xs ++ ys) is) rest fewer)

pub none_is : (n : ℕ) (xs : List ℕ) → list_any (nat_eq n) xs ≡ false → AllByRecursion (λ y. nat_eq n y ≡ false) xs
none_is n [] none = tt
none_is n (x ∷ xs) none = (or_left (nat_eq n x) (list_any (nat_eq n) xs) none, none_is n xs (or_right (nat_eq n x) (list_any (nat_eq n) xs) none))

apart-insert : (xs ys : List ℕ) (n : ℕ) → IsDistinct nat_eq (xs ++ ys) → AllByRecursion (λ y. nat_eq n y ≡ false) (xs ++ ys) → IsDistinct nat_eq (xs ++ n ∷ ys)
apart-insert [] ys n is none = IsDistinct-cons nat_eq n ys none is
apart-insert (x ∷ xs) ys n is none =
    IsDistinct-cons nat_eq x (xs ++ n ∷ ys)
    (all-insert (λ y. nat_eq x y ≡ false) xs ys n (IsDistinct-head nat_eq x (xs ++ ys) is) (nat_eq_apart n x none.0))
    (apart-insert xs ys n (IsDistinct-tail nat_eq x (xs ++ ys) is) none.1)

-- a free number, put anywhere among others
IsNumbered-insert : (limit : ℕ) (xs ys : List ℕ) (n : ℕ) → IsNumbered limit (xs ++ ys) → list_any (nat_eq n) (xs ++ ys) ≡ false → n < limit → IsNumbered limit (xs ++ n ∷ ys)
IsNumbered-insert limit xs ys n is free below = record {
  apart = apart-insert xs ys n is.apart (none_is n (xs ++ ys) free);
  below = all-insert (λ m. m < limit) xs ys n is.below below;
}

-- ---- numbers of which each entry has several

module _ {X : Type 0} (f : X → List ℕ) (p : X → Bool) where
  all-kept : (P : ℕ → Type 0) (xs : List X) → AllByRecursion P (flat_map f xs) → AllByRecursion P (flat_map f (filter p xs))
  all-kept P [] all = all
  all-kept P (x ∷ xs) all = by (p x) (all-kept P xs (all-right P (f x) (flat_map f xs) all)) where
    by : (b : Bool) → AllByRecursion P (flat_map f (filter p xs)) → AllByRecursion P (flat_map f (cond b (x ∷ filter p xs) (filter p xs)))
    by true rest = all-append P (f x) (flat_map f (filter p xs)) (all-left P (f x) (flat_map f xs) all) rest
    by false rest = rest

  apart-kept : (xs : List X) → IsDistinct nat_eq (flat_map f xs) → IsDistinct nat_eq (flat_map f (filter p xs))
  apart-kept [] is = is
  apart-kept (x ∷ xs) is = by (p x) (apart-kept xs (apart-right (f x) (flat_map f xs) is)) where
    by : (b : Bool) → IsDistinct nat_eq (flat_map f (filter p xs)) → IsDistinct nat_eq (flat_map f (cond b (x ∷ filter p xs) (filter p xs)))
    by true rest = apart-behind (f x) (flat_map f xs) (flat_map f (filter p xs)) is rest (λ n none. all-kept (λ y. nat_eq n y ≡ false) xs none)
    by false rest = rest

  -- some of the entries, by a test
  pub IsNumbered-kept : (limit : ℕ) (xs : List X) → IsNumbered limit (flat_map f xs) → IsNumbered limit (flat_map f (filter p xs))
  IsNumbered-kept limit xs is = record {
    apart = apart-kept xs is.apart;
    below = all-kept (λ n. n < limit) xs is.below;
  }

-- ---- contexts

-- one that comes last
pub places-push : (cs : List (List ℕ × Context)) (k : List ℕ) (new : Context) → new.further ≡ [] → places (cs ++ (k, new) ∷ []) ≡ places cs ++ new.place ∷ []
places-push cs k new none =
    flat_map-append (λ (e : List ℕ × Context). places_of e.1) cs ((k, new) ∷ []) ∙ ap (λ (more : List ℕ). places cs ++ new.place ∷ (more ++ [])) none

-- one that is changed and keeps its places
pub places-same : (test : List ℕ → Bool) (cs : List (List ℕ × Context)) (old new : Context) → lookup test cs ≡ Some old → places_of new ≡ places_of old → places (set_value test cs new) ≡ places cs
places-same test [] old new found same = refl
places-same test (c ∷ cs) old new found same = by (test c.0) found (λ is. places-same test cs old new is same) where
  by : (b : Bool) → cond b (Some c.1) (lookup test cs) ≡ Some old → (lookup test cs ≡ Some old → places (set_value test cs new) ≡ places cs)
      → places (cond b ((c.0, new) ∷ cs) (c ∷ set_value test cs new)) ≡ places (c ∷ cs)
  by true is rest =
      let here : c.1 ≡ old = cc is in
      ap (λ ns. ns ++ places cs) (same ∙ ap places_of (sym here))
  by false is rest = ap (λ ns. places_of c.1 ++ ns) (rest is)

-- one that gets a further place: this stands somewhere among the others
pub record Among (place : ℕ) (old new : List ℕ) : Type 0 where
  pub before : List ℕ
  pub behind : List ℕ
  pub was : old ≡ before ++ behind
  pub is : new ≡ before ++ place ∷ behind

pub places-further : (test : List ℕ → Bool) (cs : List (List ℕ × Context)) (old : Context) (place : ℕ) → lookup test cs ≡ Some old
    → Among place (places cs) (places (set_value test cs (record old { further = old.further ++ place ∷ [] })))
places-further test [] old place found = absurd (cc found)
places-further test (c ∷ cs) old place found = by (test c.0) found (λ is. places-further test cs old place is) where
  new : Context
  new = record old { further = old.further ++ place ∷ [] }

  by : (b : Bool) → cond b (Some c.1) (lookup test cs) ≡ Some old → (lookup test cs ≡ Some old → Among place (places cs) (places (set_value test cs new)))
      → Among place (places (c ∷ cs)) (places (cond b ((c.0, new) ∷ cs) (c ∷ set_value test cs new)))
  by true is rest =
      let here : c.1 ≡ old = cc is in
      record {
        before = places_of old;
        behind = places cs;
        was = ap (λ (x : Context). places_of x ++ places cs) here;
        is = ap (λ ns. old.place ∷ ns) (append_assoc old.further (place ∷ []) (places cs));
      }
  by false is rest =
      let others : Among place (places cs) (places (set_value test cs new)) = rest is in
      record {
        before = places_of c.1 ++ others.before;
        behind = others.behind;
        was = ap (λ ns. places_of c.1 ++ ns) others.was ∙ sym (append_assoc (places_of c.1) others.before others.behind);
        is = ap (λ ns. places_of c.1 ++ ns) others.is ∙ sym (append_assoc (places_of c.1) others.before (place ∷ others.behind));
      }

pub numbered-among : (limit place : ℕ) (old new : List ℕ) → Among place old new → IsNumbered limit old → list_any (nat_eq place) old ≡ false → place < limit → IsNumbered limit new
numbered-among limit place old new among is free below =
    subst (IsNumbered limit) (sym among.is)
    (IsNumbered-insert limit among.before among.behind place (subst (IsNumbered limit) among.was is) (ap (list_any (nat_eq place)) (sym among.was) ∙ free) below)

-- levels leave the places
pub releveled_places : (relevel : Relevel) (apid : List ℕ) (cs : List (List ℕ × Context)) → places (map (releveled_context relevel apid) cs) ≡ places cs
releveled_places relevel apid [] = refl
releveled_places relevel apid (c ∷ cs) = ap (λ ns. places_of c.1 ++ ns) (releveled_places relevel apid cs)

-- ---- a place that is free

pub record Free (place : ℕ) (cs : List (List ℕ × Context)) : Type 0 where
  pub below : place < 64
  pub unused : list_any (nat_eq place) (places cs) ≡ false

pub free_tells : (place : ℕ) (cs : List (List ℕ × Context)) → not (is_free place cs) ≡ false → Free place cs
free_tells place cs is = by (nat_lt place 64) (list_any (nat_eq place) (places cs)) refl refl is where
  by : (below used : Bool) → nat_lt place 64 ≡ below → list_any (nat_eq place) (places cs) ≡ used → not (below && not used) ≡ false → Free place cs
  by true false within none is = record { below = ltb-true place 64 within; unused = none }
  by true true within some is = absurd (cc is)
  by false used within some is = absurd (cc is)
