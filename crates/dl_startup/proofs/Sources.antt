-- A source that is read to its end, piece by piece.
use Rattle.std.proofs.Common.{◌≡◌, ℕ, ◌+◌, ◌<◌, ◌≤◌, List, [], ◌++◌, length, take, drop, Option, Some, None, refl, sym, ap, ◌∙◌, append_assoc, arith, length-append}
use Rattle.std.specs.Prelude.{IfSome}
use Rattle.std.proofs.lemmas.List.{append-nil, take-append-drop, drop_at}
use Rattle.dl_outside.specs.declared.source.Got.TheVariants as got
use Rattle.dl_outside.specs.Outside.{Reads, Stays}
use Rattle.dl_text.specs.Faults.{size_limit}
use Rattle.dl_startup.specs.Input.{GaveAtMost, HasRead}
use Rattle.dl_lemmas.proofs.Options.{if_some_of}

pub read_more : (old before new : Option (List ℕ)) (text into : List ℕ) (n : ℕ) → HasRead old before text → Reads before new (got.Bytes n) into → HasRead old new (text ++ take n into)
read_more None before new text into n h r = tt
read_more (Some all) before new text into n h r =
    let step = if_some_of before h.0 (λ bytes. (n ≤ length bytes) × (take n into ≡ take n bytes) × (new ≡ Some (drop n bytes))) h.1 r.2 in
    (drop n h.0, step.2, ap (λ t. (text ++ t) ++ drop n h.0) step.1 ∙ append_assoc text (take n h.0) (drop n h.0) ∙ ap (λ t. text ++ t) (take-append-drop n h.0) ∙ h.2)

pub gave : (old new : Option (List ℕ)) (text : List ℕ) → HasRead old new text → length text ≤ size_limit + 1 → GaveAtMost old new
gave None new text h small = tt
gave (Some all) new text h small = (length text, small, h.1 ∙ ap Some (sym (drop_at text h.0 (length text) refl)) ∙ ap (λ t. Some (drop (length text) t)) h.2)
