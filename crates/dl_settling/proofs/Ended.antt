-- The ends of links, one more at a time.
use Rattle.std.proofs.Common.{◌≡◌, ℕ, ◌+◌, List, [], ◌∷◌, ◌++◌, length, map, cond, sym, ap, ◌∙◌, arith}
use Rattle.std.specs.Prelude.{Result, Ok, if◌then◌else◌}
use Rattle.std.specs.Result.{is_ok}
use Rattle.std.specs.List.{range_with_len}
use Rattle.std.proofs.lemmas.List.{length-map}
use Rattle.std.proofs.lemmas.List.FromFn.{length-range_with_len, map-range_with_len_more}
use Rattle.dl_bytes.specs.declared.outcome.LinkEnd.{LinkEnd}
use Rattle.dl_hub.specs.State.{Hub}
use Rattle.dl_settling.specs.Ends.{end_in}

pub so_many : (hub : Hub) (done : ℕ) (ends : List LinkEnd) → ends ≡ map (end_in hub) (range_with_len 1 done) → length ends ≡ done
so_many hub done ends made = ap (λ (es : List LinkEnd). length es) made ∙ length-map (range_with_len 1 done) (end_in hub) ∙ length-range_with_len 1 done

pub one_more : (hub : Hub) (done : ℕ) (ends ends_now : List LinkEnd) (one : LinkEnd) → ends ≡ map (end_in hub) (range_with_len 1 done) → one ≡ end_in hub (done + 1) → ends_now ≡ ends ++ one ∷ []
    → ends_now ≡ map (end_in hub) (range_with_len 1 (done + 1))
one_more hub done ends ends_now one made is pushed =
    let number : 1 + done ≡ done + 1 = omega arith in
    pushed ∙ ap (λ (es : List LinkEnd). es ++ one ∷ []) made ∙ ap (λ (e : LinkEnd). map (end_in hub) (range_with_len 1 done) ++ e ∷ []) is
    ∙ sym (map-range_with_len_more (end_in hub) 1 done (done + 1) number)

-- what a push that succeeds leaves
pub pushed : {T E : Type 0} (answer : Result T E) (value : T) (ends ends_now : List LinkEnd) (one : LinkEnd) → answer ≡ Ok value → ends_now ≡ (if is_ok answer then ends ++ one ∷ [] else ends) → ends_now ≡ ends ++ one ∷ []
pushed {T} {E} answer value ends ends_now one ok is = is ∙ ap (λ (r : Result T E). cond (is_ok r) (ends ++ one ∷ []) ends) ok
