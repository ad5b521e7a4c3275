-- Options and results: what is there, and what follows of it.
use Rattle.std.proofs.Common.{Bool, Err, List, None, Option, Result, Some, [], ap, cond, false, refl, subst, true, ℕ, ◌≡◌}
use Rattle.std.specs.Option.{option_map, option_or}
use Rattle.std.specs.Prelude.{IfOk, IfSome, IsSome, is_some}

pub ifok_if : {A E : Type 0} (P : A → Type 0) (b : Bool) (e : E) (r : Result A E) → IfOk r P → IfOk (cond b (Err e) r) P
ifok_if P true e r ok = tt
ifok_if P false e r ok = ok

pub one_is : {A : Type 0} (x y : A) (o : Option A) → o ≡ Some x → o ≡ Some y → x ≡ y
one_is x y None a b = absurd cc
one_is x y (Some z) a b = cc

pub some_of : {A : Type 0} (o : Option A) → IsSome o → (x : A) × (o ≡ Some x)
some_of None some = absurd cc
some_of (Some x) some = (x, refl)

pub not_some : {A : Type 0} (o : Option A) → o ≡ None → IsSome o → ⊥
not_some None none some = cc some
not_some (Some x) none some = cc none

pub nothing_taken : (o : Option (List ℕ)) → IsSome o → IfSome o (λ bytes. bytes ≡ []) → o ≡ Some []
nothing_taken None some none = absurd (cc some)
nothing_taken (Some bytes) some none = ap Some none

pub if_some_is : {A : Type 0} (o : Option A) (P : A → Type 0) (x : A) → o ≡ Some x → IfSome o P → P x
if_some_is o P x is holds = subst (λ (found : Option _). IfSome found P) is holds

pub none_of : {A : Type 0} (o : Option A) → is_some o ≡ false → o ≡ None
none_of None e = refl
none_of (Some x) e = absurd (cc e)

pub some_is : {A : Type 0} {x y : A} → Some x ≡ Some y → x ≡ y
some_is e = cc

pub as_some : {A B : Type 0} (f : A → B) (o n : Option A) → option_map f n ≡ option_map f o → IsSome n → IsSome o
as_some f None None same some = absurd cc
as_some f None (Some x) same some = absurd cc
as_some f (Some x) n same some = refl

pub if_some : {A : Type 0} (P Q : A → Type 0) (o : Option A) → ((x : A) → P x → Q x) → IfSome o P → IfSome o Q
if_some P Q None f is = tt
if_some P Q (Some x) f is = f x is

pub place_is : (b : Bool) (k n : ℕ) → cond b (Some k) None ≡ Some n → (b ≡ true) × (k ≡ n)
place_is true k n e = (refl, cc)
place_is false k n e = absurd cc

pub same_thing : {A : Type 0} (x y : A) → Some x ≡ Some y → x ≡ y
same_thing x y e = cc

pub if_some_of : {A : Type 0} → (o : Option A) (x : A) (P : A → Type 0) → o ≡ Some x → IfSome o P → P x
if_some_of o x P e h = subst (λ v. IfSome v P) e h

pub or_assoc : (x y z : Option ℕ) → option_or (option_or x y) z ≡ option_or x (option_or y z)
or_assoc None y z = refl
or_assoc (Some x) y z = refl

pub is_some_of : {A : Type 0} (x : Option A) (y : A) → x ≡ Some y → IsSome x
is_some_of None y e = absurd cc
is_some_of (Some x) y e = refl

pub guard_some : {A : Type 0} (b : Bool) (x y : A) → cond b None (Some x) ≡ Some y → (b ≡ false) × (x ≡ y)
guard_some true x y e = absurd cc
guard_some false x y e = (refl, cc)

pub mapped_some : {A B : Type 0} (f : A → B) (o : Option A) (y : B) → option_map f o ≡ Some y → (x : A) × (o ≡ Some x) × (f x ≡ y)
mapped_some f (Some x) y e = (x, refl, cc)
mapped_some f None y e = absurd cc

pub ifok_unless : {A E : Type 0} (P : A → Type 0) (b : Bool) (e : E) (r : Result A E) → (b ≡ false → IfOk r P) → IfOk (cond b (Err e) r) P
ifok_unless P true e r ok = tt
ifok_unless P false e r ok = ok refl

pub or_none : {A : Type 0} (o : Option A) → option_or o None ≡ o
or_none None = refl
or_none (Some x) = refl
