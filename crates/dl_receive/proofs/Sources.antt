-- What sources gave, piece by piece.
use Rattle.std.proofs.Common.{◌≡◌, ℕ, ◌+◌, ◌≤◌, List, [], ◌++◌, length, take, drop, Option, Some, None, refl, ap, ◌∙◌, append_assoc}
use Rattle.std.specs.Prelude.{IfSome}
use Rattle.std.proofs.lemmas.List.{take-append-drop}
use Rattle.dl_outside.specs.declared.source.Got.TheVariants as got
use Rattle.dl_outside.specs.Outside.{Reads, Stays}
use Rattle.dl_outside.proofs.Sinks.{some_is}
use Rattle.dl_receive.specs.Streams.{Gave}

pub nothing_given : (had : Option (List ℕ)) → Gave had had []
nothing_given None = tt
nothing_given (Some all) = (all, refl, refl)

pub given_stays : (had before new : Option (List ℕ)) (given : List ℕ) → Gave had before given → Stays before new → Gave had new given
given_stays None before new given h e = tt
given_stays (Some all) before new given h e = (h.0, some_is before h.0 (λ bytes. new ≡ Some bytes) h.1 e, h.2)

pub given_more : (had before new : Option (List ℕ)) (given into : List ℕ) (n : ℕ) → Gave had before given → Reads before new (got.Bytes n) into → Gave had new (given ++ take n into)
given_more None before new given into n h r = tt
given_more (Some all) before new given into n h r =
    let step = some_is before h.0 (λ bytes. (n ≤ length bytes) × (take n into ≡ take n bytes) × (new ≡ Some (drop n bytes))) h.1 r.2 in
    (drop n h.0, step.2, ap (λ t. (given ++ t) ++ drop n h.0) step.1 ∙ append_assoc given (take n h.0) (drop n h.0) ∙ ap (λ t. given ++ t) (take-append-drop n h.0) ∙ h.2)

pub read_up : (had before new : Option (List ℕ)) (given : List ℕ) → Gave had before given → Stays before new → IfSome before (λ bytes. bytes ≡ []) → IfSome had (λ all. new ≡ Some [])
read_up None before new given h e nothing = tt
read_up (Some all) before new given h e nothing =
    let none : h.0 ≡ [] = some_is before h.0 (λ bytes. bytes ≡ []) h.1 nothing in
    some_is before h.0 (λ bytes. new ≡ Some bytes) h.1 e ∙ ap Some none
