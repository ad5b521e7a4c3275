-- Frames that stand one behind the other.
use Rattle.std.proofs.Common.{◌≡◌, ℕ, ◌+◌, ◌≤◌, ◌<◌, List, [], ◌∷◌, ◌++◌, length, take, drop, refl, sym, ap, subst, ◌∙◌, append_assoc, length-append, arith}
use Rattle.std.specs.List.{concat, AllByRecursion}
use Rattle.std.proofs.lemmas.List.{append-nil, take-append-le, drop-append-le, take_all}
use Rattle.std.proofs.Math.Seq.{drop-length}
use Rattle.dl_bytes.specs.Htyp.{len_of}
use Rattle.dl_headers.proofs.Fronts.{len_of-append}
use Rattle.dl_laws.specs.Frames.{TellsLen}

-- the frames that were added, and those that are left in the bytes
pub record Left (old now : List (List ℕ)) (rest : List ℕ) (parts : List (List ℕ)) : Type 0 where
  pub done : List (List ℕ)
  pub left : List (List ℕ)
  pub all : parts ≡ done ++ left
  pub added : now ≡ old ++ done
  pub bytes : rest ≡ concat left
  pub tell : AllByRecursion TellsLen left

-- whatever frames the bytes are, these were added and those are left
abbrev pub Goes : List ℕ → List (List ℕ) → List (List ℕ) → List ℕ → Type 0
Goes bytes old now rest = (parts : List (List ℕ)) → AllByRecursion TellsLen parts → bytes ≡ concat parts → Left old now rest parts

-- the first frame of the rest
record First (rest : List ℕ) (n : ℕ) (frame : List ℕ) (left : List (List ℕ)) : Type 0 where
  is_frame : take n rest ≡ frame
  behind : drop n rest ≡ concat left

first_of : (rest frame : List ℕ) (left : List (List ℕ)) (n : ℕ) → rest ≡ frame ++ concat left → TellsLen frame → (4 ≤ length rest → 4 ≤ len_of rest → len_of rest ≤ length rest → n ≡ len_of rest) → First rest n frame left
first_of rest frame left n is tells value =
    let whole : length rest ≡ length frame + length (concat left) = ap (λ (xs : List ℕ). length xs) is ∙ length-append frame (concat left) in
    let len : len_of rest ≡ length frame = ap len_of is ∙ len_of-append frame (concat left) tells.least ∙ tells.len in
    let least : 4 ≤ length rest = omega (arith, whole, tells.least) in
    let n_is : n ≡ length frame = value least (omega (arith, len, tells.least)) (omega (arith, len, whole)) ∙ len in
    let below : length frame ≤ length frame = omega arith in
    record {
      is_frame = rw (n_is, is) (take-append-le (length frame) frame (concat left) below ∙ take_all (length frame) frame below);
      behind = rw (n_is, is) (drop-append-le (length frame) frame (concat left) below ∙ ap (λ (xs : List ℕ). xs ++ concat left) (drop-length frame));
    }

pub goes : (bytes rest : List ℕ) (old now : List (List ℕ)) (n : ℕ) → 0 < length rest → (4 ≤ length rest → 4 ≤ len_of rest → len_of rest ≤ length rest → n ≡ len_of rest)
    → Goes bytes old now rest → Goes bytes old (now ++ take n rest ∷ []) (drop n rest)
goes bytes rest old now n some value before parts tell is = by_left it.left it.all it.bytes it.tell where
  it : Left old now rest parts
  it = before parts tell is

  by_left : (left : List (List ℕ)) → parts ≡ it.done ++ left → rest ≡ concat left → AllByRecursion TellsLen left → Left old (now ++ take n rest ∷ []) (drop n rest) parts
  by_left [] all is tells = absurd (omega (arith, some, ap (λ (xs : List ℕ). length xs) is))
  by_left (frame ∷ left) all is tells =
      let first = first_of rest frame left n is tells.0 value in
      record {
        done = it.done ++ frame ∷ [];
        left = left;
        all = all ∙ sym (append_assoc it.done (frame ∷ []) left);
        added = ap (λ (xs : List (List ℕ)). xs ++ take n rest ∷ []) it.added ∙ ap (λ (f : List ℕ). (old ++ it.done) ++ f ∷ []) first.is_frame ∙ append_assoc old it.done (frame ∷ []);
        bytes = first.behind;
        tell = tells.1;
      }

-- nothing is left
pub arrives : (bytes : List ℕ) (old now : List (List ℕ)) (rest : List ℕ) → length rest ≡ 0 → Goes bytes old now rest → (parts : List (List ℕ)) → AllByRecursion TellsLen parts → bytes ≡ concat parts → now ≡ old ++ parts
arrives bytes old now rest none goes parts tell is = by_left it.left it.all it.bytes it.tell where
  it : Left old now rest parts
  it = goes parts tell is

  by_left : (left : List (List ℕ)) → parts ≡ it.done ++ left → rest ≡ concat left → AllByRecursion TellsLen left → now ≡ old ++ parts
  by_left [] all is tells = it.added ∙ ap (λ (xs : List (List ℕ)). old ++ xs) (sym (append-nil it.done) ∙ sym all)
  by_left (frame ∷ left) all is tells =
      let whole : length rest ≡ length frame + length (concat left) = ap (λ (xs : List ℕ). length xs) is ∙ length-append frame (concat left) in
      absurd (omega (arith, none, whole, tells.0.least))

-- bytes that one frame's length says are one frame
pub one_frame : (bytes : List ℕ) (n : ℕ) (old : List (List ℕ)) → 4 ≤ length bytes → n ≡ length bytes → (4 ≤ length bytes → 4 ≤ len_of bytes → len_of bytes ≤ length bytes → n ≡ len_of bytes)
    → (parts : List (List ℕ)) → AllByRecursion TellsLen parts → bytes ≡ concat parts → old ++ bytes ∷ [] ≡ old ++ parts
one_frame bytes n old least all value [] tell is = absurd (omega (arith, least, ap (λ (xs : List ℕ). length xs) is))
one_frame bytes n old least all value (frame ∷ []) tell is = ap (λ (xs : List ℕ). old ++ xs ∷ []) (is ∙ append-nil frame)
one_frame bytes n old least all value (frame ∷ (second ∷ left)) tell is =
    let whole : length bytes ≡ length frame + (length second + length (concat left)) =
    ap (λ (xs : List ℕ). length xs) is ∙ length-append frame (second ++ concat left) ∙ ap (λ (k : ℕ). length frame + k) (length-append second (concat left)) in
    let len : len_of bytes ≡ length frame = ap len_of is ∙ len_of-append frame (second ++ concat left) tell.0.least ∙ tell.0.len in
    let n_is : n ≡ length frame = value least (omega (arith, len, tell.0.least)) (omega (arith, len, whole)) ∙ len in
    absurd (omega (arith, n_is, all, whole, tell.1.0.least))

-- the same where the new values are known by equations
pub goes-as : (bytes rest : List ℕ) (old now now_then : List (List ℕ)) (rest_then : List ℕ) (n : ℕ) → 0 < length rest
    → (4 ≤ length rest → 4 ≤ len_of rest → len_of rest ≤ length rest → n ≡ len_of rest)
    → now_then ≡ now ++ take n rest ∷ [] → rest_then ≡ drop n rest → Goes bytes old now rest → Goes bytes old now_then rest_then
goes-as bytes rest old now now_then rest_then n some value now_is rest_is before parts tell is =
    subst (λ (xs : List (List ℕ)). Left old xs rest_then parts) (sym now_is)
    (subst (λ (r : List ℕ). Left old (now ++ take n rest ∷ []) r parts) (sym rest_is) (goes bytes rest old now n some value before parts tell is))
