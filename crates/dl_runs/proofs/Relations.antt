-- Marks of which each stands in a relation to those before it.
use Rattle.std.proofs.Common.{◌≡◌, ℕ, zero, suc, Bool, true, false, cond, List, [], ◌∷◌, ◌++◌, Option, Some, None, refl, sym, subst, append_assoc}
use Rattle.std.specs.Prelude.{map, replicate}
use Rattle.std.specs.List.{AllByRecursion}
use Rattle.std.proofs.lemmas.List.{append-nil}
use Rattle.dl_model.specs.Setting.{Setting}
use Rattle.dl_script_model.specs.Marks.{Mark}
use Rattle.dl_script_model.specs.Runs.{RestsOn, AreFounded}
use Rattle.dl_script_model.specs.Steps.{Act, in_sequence, for_some, when, announce, is_held_back, announce_upto}

abbrev pub AreAll : (List Mark → Mark → Type 0) → List Mark → List Mark → Type 0
AreAll R before [] = Unit {0}
AreAll R before (mark ∷ marks) = R before mark × AreAll R (before ++ mark ∷ []) marks

pub both : (R : List Mark → Mark → Type 0) (before xs ys : List Mark) → AreAll R before xs → AreAll R (before ++ xs) ys → AreAll R before (xs ++ ys)
both R before [] ys first second = subst (λ b. AreAll R b ys) (append-nil before) second
both R before (x ∷ xs) ys first second =
    (first.0, both R (before ++ x ∷ []) xs ys first.1 (subst (λ b. AreAll R b ys) (sym (append_assoc before (x ∷ []) xs)) second))

-- the two parts
pub first_part : (R : List Mark → Mark → Type 0) (before xs ys : List Mark) → AreAll R before (xs ++ ys) → AreAll R before xs
first_part R before [] ys all = tt
first_part R before (x ∷ xs) ys all = (all.0, first_part R (before ++ x ∷ []) xs ys all.1)

pub second_part : (R : List Mark → Mark → Type 0) (before xs ys : List Mark) → AreAll R before (xs ++ ys) → AreAll R (before ++ xs) ys
second_part R before [] ys all = subst (λ b. AreAll R b ys) (sym (append-nil before)) all
second_part R before (x ∷ xs) ys all = subst (λ b. AreAll R b ys) (append_assoc before (x ∷ []) xs) (second_part R (before ++ x ∷ []) xs ys all.1)

pub holds_on : (R : List Mark → Mark → Type 0) (P : List Mark → Type 0) → ((done : List Mark) (mark : Mark) → P done → R done mark → P (done ++ mark ∷ [])) →
    (before marks : List Mark) → P before → AreAll R before marks → P (before ++ marks)
holds_on R P goes_on before [] holds all = subst P (sym (append-nil before)) holds
holds_on R P goes_on before (mark ∷ marks) holds all =
    subst P (append_assoc before (mark ∷ []) marks) (holds_on R P goes_on (before ++ mark ∷ []) marks (goes_on before mark holds all.0) all.1)

pub weaker : (R S : List Mark → Mark → Type 0) → ((done : List Mark) (mark : Mark) → R done mark → S done mark) → (before marks : List Mark) → AreAll R before marks → AreAll S before marks
weaker R S f before [] all = tt
weaker R S f before (mark ∷ marks) all = (f before mark all.0, weaker R S f (before ++ mark ∷ []) marks all.1)

-- what rests on what is before it
pub as_all : (setting : Setting) (before marks : List Mark) → AreFounded setting before marks → AreAll (RestsOn setting) before marks
as_all setting before [] founded = tt
as_all setting before (mark ∷ marks) founded = (founded.0, as_all setting (before ++ mark ∷ []) marks founded.1)

-- and stands in the relation besides
pub with_founded : (setting : Setting) (R : List Mark → Mark → Type 0) (before marks : List Mark) → AreFounded setting before marks → AreAll R before marks →
    AreAll (λ done mark. RestsOn setting done mark × R done mark) before marks
with_founded setting R before [] founded all = tt
with_founded setting R before (mark ∷ marks) founded all = ((founded.0, all.0), with_founded setting R (before ++ mark ∷ []) marks founded.1 all.1)

-- ---- acts whose marks do, whatever was before

abbrev pub Keeps : (List Mark → Mark → Type 0) → Act → Type 0
Keeps R act = (done : List Mark) → AreAll R done (act done)

pub turns : (R : List Mark → Mark → Type 0) (acts : List Act) → AllByRecursion (Keeps R) acts → Keeps R (in_sequence acts)
turns R [] all done = tt
turns R (act ∷ acts) all done = both R done (act done) (in_sequence acts (done ++ act done)) (all.0 done) (turns R acts all.1 (done ++ act done))

pub each : {A : Type 0} (R : List Mark → Mark → Type 0) (f : A → Act) → ((x : A) → Keeps R (f x)) → (xs : List A) → AllByRecursion (Keeps R) (map f xs)
each R f all [] = tt
each R f all (x ∷ xs) = (all x, each R f all xs)

pub and_one : (R : List Mark → Mark → Type 0) (acts : List Act) (act : Act) → AllByRecursion (Keeps R) acts → Keeps R act → AllByRecursion (Keeps R) (acts ++ act ∷ [])
and_one R [] act all one = (one, tt)
and_one R (a ∷ acts) act all one = (all.0, and_one R acts act all.1 one)

pub repeated : (R : List Mark → Mark → Type 0) (n : ℕ) (act : Act) → Keeps R act → AllByRecursion (Keeps R) (replicate n act)
repeated R zero act one = tt
repeated R (suc n) act one = (one, repeated R n act one)

pub asked_for : {A : Type 0} (R : List Mark → Mark → Type 0) (o : Option A) (act : A → Act) (done : List Mark) → ((x : A) → o ≡ Some x → AreAll R done (act x done)) →
    AreAll R done (for_some o act done)
asked_for R None act done all = tt
asked_for R (Some x) act done all = all x refl

pub where_so : (R : List Mark → Mark → Type 0) (b : Bool) (act : Act) (done : List Mark) → (b ≡ true → AreAll R done (act done)) → AreAll R done (when b act done)
where_so R true act done is = is refl
where_so R false act done is = tt

-- claims that are pushed in turn
unless_so : (R : List Mark → Mark → Type 0) (b : Bool) (before marks : List Mark) → AreAll R before marks → AreAll R before (cond b [] marks)
unless_so R true before marks all = tt
unless_so R false before marks all = all

pub announced : (R : List Mark → Mark → Type 0) (writer : ℕ) → Keeps R (announce writer) → (more : ℕ) → Keeps R (announce_upto more writer)
announced R writer one zero done = tt
announced R writer one (suc more) done =
    let step = announce writer done in
    both R done step (cond (is_held_back step) [] (announce_upto more writer (done ++ step))) (one done)
    (unless_so R (is_held_back step) (done ++ step) (announce_upto more writer (done ++ step)) (announced R writer one more (done ++ step)))
