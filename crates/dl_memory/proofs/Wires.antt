-- What a connection in memory has given, with one piece more.
use Rattle.std.proofs.Common.{◌≡◌, ℕ, ◌+◌, ◌≤◌, List, ◌++◌, length, take, drop, sym, ap, ◌∙◌, arith}
use Rattle.std.proofs.lemmas.List.{length-take-le, take-append-le, take_all}
use Rattle.std.proofs.Math.Seq.{take-add}

pub given_grows : (at n : ℕ) (input piece rest : List ℕ) → n ≤ length (drop at input) → piece ≡ take n (drop at input) → take (at + n) input ≡ take at input ++ take n (piece ++ rest)
given_grows at n input piece rest fits is =
    let long : length piece ≡ n = ap length is ∙ length-take-le n (drop at input) fits in
    let front : take n (piece ++ rest) ≡ piece = take-append-le n piece rest (omega arith) ∙ take_all n piece (omega arith) in
    take-add at n input ∙ ap (λ p. take at input ++ p) (sym is ∙ sym front)
