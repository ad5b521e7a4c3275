-- What any cutter gives is the cut of the bytes that it took.
use Rattle.std.proofs.Common.{◌≡◌, ℕ, List, [], ◌∷◌, ◌++◌, take, ap, ◌∙◌, append_assoc}
use Rattle.std.proofs.lemmas.List.{append-nil}
use Rattle.dl_bytes.specs.Cutting.{Call, Feed, Next, fed_by, given_by, AreCut, IsCutter, GivesTheCut}

module _ {Given : Type 0} (begins : List ℕ → Given → List ℕ → Type 0) where
  -- two cuts, one behind the other
  pub cut_on : (bytes middle rest : List ℕ) (first second : List Given) → AreCut begins bytes first middle → AreCut begins middle second rest → AreCut begins bytes (first ++ second) rest
  cut_on bytes middle rest [] second a b = rw a b
  cut_on bytes middle rest (x ∷ first) second a b = (a.0, a.1, cut_on a.0 middle rest first second a.2 b)

  -- what follows the bytes follows the rest
  pub cut_more : (goes_on : (bytes after more : List ℕ) (given : Given) → begins bytes given after → begins (bytes ++ more) given (after ++ more))
      → (bytes rest more : List ℕ) (all : List Given) → AreCut begins bytes all rest → AreCut begins (bytes ++ more) all (rest ++ more)
  cut_more goes_on bytes rest more [] a = ap (λ (x : List ℕ). x ++ more) a
  cut_more goes_on bytes rest more (x ∷ all) a = (a.0 ++ more, goes_on bytes a.0 more x a.1, cut_more goes_on a.0 rest more all a.2)

module _ {State Answer Given : Type 0} (unread : State → List ℕ) (gives : Answer → List Given) (begins : List ℕ → Given → List ℕ → Type 0) (does : State → Call Answer → State → Type 0)
    (is : IsCutter unread gives begins does) where
  pub gives_the_cut : GivesTheCut unread gives begins does
  gives_the_cut [] old new r = append-nil (unread old) ∙ ap unread r
  gives_the_cut (Feed piece count ∷ calls) old new r =
      let rest = gives_the_cut calls r.0 new r.2 in
      let joined : unread r.0 ++ fed_by calls ≡ unread old ++ (take count piece ++ fed_by calls) = rw (is.feeds old r.0 piece count r.1) (append_assoc (unread old) (take count piece) (fed_by calls)) in
      rw (← joined) rest
  gives_the_cut (Next answer ∷ calls) old new r =
      let first = cut_more begins is.goes_on (unread old) (unread r.0) (fed_by calls) (gives answer) (is.answers old r.0 answer r.1) in
      cut_on begins (unread old ++ fed_by calls) (unread r.0 ++ fed_by calls) (unread new) (gives answer) (given_by gives calls) first (gives_the_cut calls r.0 new r.2)
