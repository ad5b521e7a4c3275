-- A sink that takes a text, piece by piece.
use Rattle.std.proofs.Common.{◌≡◌, ℕ, ◌+◌, ◌≤◌, List, [], ◌++◌, length, take, drop, Option, Some, None, refl, sym, ap, subst, ◌∙◌, append_assoc, arith, length-append}
use Rattle.std.specs.Prelude.{IfSome}
use Rattle.std.proofs.lemmas.List.{append-nil, take_at, drop_at, take-append-le}
use Rattle.std.proofs.Math.Seq.{take-add}
use Rattle.dl_outside.specs.declared.sink.Took.TheVariants as took
use Rattle.dl_outside.specs.Outside.{Takes}
use Rattle.dl_outside.specs.Written.{TookAll, TookFront}

pub some_is : (o : Option (List ℕ)) (x : List ℕ) (P : List ℕ → Type 0) → o ≡ Some x → IfSome o P → P x
some_is o x P e h = let family : Option (List ℕ) → Type 0 = λ v. IfSome v P in subst family e h

pub wrote : (old before new : Option (List ℕ)) (text : List ℕ) (i n : ℕ) → IfSome old (λ bytes. before ≡ Some (bytes ++ take i text)) → Takes before new (took.Bytes n) (drop i text)
    → IfSome old (λ bytes. new ≡ Some (bytes ++ take (i + n) text))
wrote None before new text i n h t = tt
wrote (Some bytes) before new text i n h t =
    let step = some_is before (bytes ++ take i text) (λ held. new ≡ Some (held ++ take n (drop i text))) h t.2 in
    step ∙ ap Some (append_assoc bytes (take i text) (take n (drop i text)) ∙ ap (λ x. bytes ++ x) (sym (take-add i n text)))

pub took_nothing : (old : Option (List ℕ)) → TookAll old old []
took_nothing None = tt
took_nothing (Some bytes) = ap Some (sym (append-nil bytes))

-- one text behind another
pub took_both : (old before new : Option (List ℕ)) (first second all : List ℕ) → all ≡ first ++ second → TookAll old before first → TookAll before new second → TookAll old new all
took_both None before new first second all e a b = tt
took_both (Some bytes) before new first second all e a b =
    some_is before (bytes ++ first) (λ held. new ≡ Some (held ++ second)) a b ∙ ap Some (append_assoc bytes first second ∙ ap (λ t. bytes ++ t) (sym e))

-- a text, and the front of another one
pub took_front : (old before new : Option (List ℕ)) (first second all : List ℕ) → all ≡ first ++ second → TookAll old before first → TookFront before new second → TookFront old new all
took_front None before new first second all e a b = tt
took_front (Some bytes) before new first second all e a b =
    let step = some_is before (bytes ++ first) (λ held. (n : ℕ) × (n ≤ length second) × (new ≡ Some (held ++ take n second))) a b in
    let within : length first + step.0 ≤ length all = omega (arith, step.1, ap length e, length-append first second) in
    let front : take (length first + step.0) all ≡ first ++ take step.0 second = ap (take (length first + step.0)) e ∙ take_past first second step.0 in
    (length first + step.0, within, step.2 ∙ ap Some (append_assoc bytes first (take step.0 second) ∙ ap (λ t. bytes ++ t) (sym front))) where
      take_past : (xs ys : List ℕ) (n : ℕ) → take (length xs + n) (xs ++ ys) ≡ xs ++ take n ys
      take_past xs ys n =
          take-add (length xs) n (xs ++ ys) ∙ ap (λ t. take (length xs) (xs ++ ys) ++ take n t) (drop_at xs ys (length xs) refl) ∙ ap (λ t. t ++ take n ys) (take_at xs ys (length xs) refl)

-- a front of a text is a front of a longer one
pub front_of_more : (old new : Option (List ℕ)) (first second : List ℕ) → TookFront old new first → TookFront old new (first ++ second)
front_of_more None new first second a = tt
front_of_more (Some bytes) new first second a =
    (a.0, omega (arith, a.1, length-append first second), a.2 ∙ ap (λ t. Some (bytes ++ t)) (sym (take-append-le a.0 first second a.1)))

-- a text that was taken whole is a front of a longer one
pub whole_is_front : (old new : Option (List ℕ)) (first second all : List ℕ) → all ≡ first ++ second → TookAll old new first → TookFront old new all
whole_is_front None new first second all e a = tt
whole_is_front (Some bytes) new first second all e a =
    let within : length first ≤ length all = omega (arith, ap length e, length-append first second) in
    (length first, within, a ∙ ap (λ t. Some (bytes ++ t)) (sym (ap (take (length first)) e ∙ take_at first second (length first) refl)))
