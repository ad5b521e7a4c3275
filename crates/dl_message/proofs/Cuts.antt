-- A stream has one cut.
use Rattle.std.proofs.Common.{◌≡◌, ℕ, zero, suc, ◌+◌, ◌-◌, ◌≤◌, Bool, true, false, cond, leb, ltb, List, [], ◌∷◌, ◌++◌, length, take, drop, map, Option, Some, None, refl, sym, ap, subst, ◌∙◌, append_assoc, length-append, length-drop, length-take, take-append-drop, inl, inr, arith}
use Rattle.std.specs.Prelude.{◌&&◌, IsSome}
use Rattle.std.specs.Option.{is_none}
use Rattle.std.specs.List.{concat, filter, AllByRecursion}
use Rattle.std.proofs.lemmas.Bool.{leb-true, leb-false, le-ltb, and_parts, and_cases, cond-false}
use Rattle.std.proofs.lemmas.List.{append-nil, drop_at, drop-drop, append_cancel_right, map-append, drop_min}
use Rattle.std.proofs.lemmas.List.Elements.{filter-append}
use Rattle.dl_bytes.specs.Htyp.{len_of}
use Rattle.dl_headers.specs.Reading.{front_fault}
use Rattle.dl_headers.proofs.Fronts.{len_of-append}
use Rattle.dl_message.specs.Cut.{without_serial, IsWholeMessage, IsPiece, NoPiece, IsCut, message_fault, rest_fault, with_others, pieces_within, pieces, rest_of}
use Rattle.dl_message.specs.Requests.{asks, requests}
use Rattle.dl_message.proofs.Pieces.{within_limit, piece_long, piece-append, piece_at_front, whole_front, bad_no_piece, bad_stays, short_no_piece}
use Rattle.dl_message.proofs.Joined.{no_first}

-- ---- there is at most one

-- lists that begin with one piece each begin with the same
one_piece : (limit : ℕ) (p q x y : List ℕ) → IsPiece limit p → IsPiece limit q → p ++ x ≡ q ++ y → (p ≡ q) × (x ≡ y)
one_piece limit p q x y isp isq e =
    let f : without_serial p ++ x ≡ without_serial q ++ y = sym (piece-append limit p x isp) ∙ ap without_serial e ∙ piece-append limit q y isq in
    let len : length (without_serial p) ≡ length (without_serial q) =
    isp.len ∙ sym (len_of-append (without_serial p) x (piece_long limit p isp).0) ∙ ap len_of f ∙ len_of-append (without_serial q) y (piece_long limit q isq).0 ∙ sym isq.len in
    let rest : x ≡ y = sym (drop_at (without_serial p) x (length (without_serial q)) len) ∙ ap (drop (length (without_serial q))) f ∙ drop_at (without_serial q) y (length (without_serial q)) refl in
    (append_cancel_right p q y (ap (λ (z : List ℕ). p ++ z) (sym rest) ∙ e), rest)

pub one_cut : (limit : ℕ) (stream : List ℕ) (ps qs : List (List ℕ)) (r t : List ℕ) → IsCut limit stream ps r → IsCut limit stream qs t → (ps ≡ qs) × (r ≡ t)
one_cut limit stream [] [] r t a b = (refl, sym a.parts ∙ b.parts)
one_cut limit stream [] (q ∷ qs) r t a b = absurd (a.ends q (concat qs ++ t) b.each.0 (sym a.parts ∙ b.parts ∙ append_assoc q (concat qs) t))
one_cut limit stream (p ∷ ps) [] r t a b = absurd (b.ends p (concat ps ++ r) a.each.0 (sym b.parts ∙ a.parts ∙ append_assoc p (concat ps) r))
one_cut limit stream (p ∷ ps) (q ∷ qs) r t a b =
    let first = one_piece limit p q (concat ps ++ r) (concat qs ++ t) a.each.0 b.each.0 (sym (append_assoc p (concat ps) r) ∙ sym a.parts ∙ b.parts ∙ append_assoc q (concat qs) t) in
    let others = one_cut limit (concat ps ++ r) ps qs r t (record { parts = refl; each = a.each.1; ends = a.ends }) (record { parts = first.1; each = b.each.1; ends = b.ends }) in
    (ap (λ (x : List ℕ). x ∷ ps) first.0 ∙ ap (λ (xs : List (List ℕ)). q ∷ xs) others.0, others.1)

-- ---- there is one

-- what stands behind a front of the bytes
behind_front : (n : ℕ) (bytes : List ℕ) → bytes ≡ take n bytes ++ drop (length (take n bytes)) bytes
behind_front n bytes =
    let same : drop (length (take n bytes)) bytes ≡ drop n bytes = ap (λ (k : ℕ). drop k bytes) (length-take n bytes) ∙ drop_min n bytes in
    sym (take-append-drop n bytes) ∙ ap (λ (x : List ℕ). take n bytes ++ x) (sym same)

none_is : {A : Type 0} (x : Option A) → is_none x ≡ true → x ≡ None
none_is None e = refl
none_is (Some x) e = absurd cc

some_is : {A : Type 0} (x : Option A) → is_none x ≡ false → (y : A) × (x ≡ Some y)
some_is None e = absurd cc
some_is (Some x) e = (x, refl)

some_of : {A : Type 0} (x : Option A) → IsSome x → (y : A) × (x ≡ Some y)
some_of None e = absurd cc
some_of (Some x) e = (x, refl)

module _ (limit : ℕ) (bytes : List ℕ) where
  abbrev message : List ℕ
  message = without_serial bytes

  abbrev size : ℕ
  size = length bytes - length message + len_of message

  abbrev begins : Bool
  begins = is_none (message_fault limit message) && leb 4 (length message) && leb (len_of message) (length message)

  it_is_piece : begins ≡ true → IsPiece limit (take size bytes)
  it_is_piece e =
      let parts = and_parts _ _ e in
      let first = and_parts _ _ parts.0 in
      let good = none_is _ first.0 in
      let long = leb-true _ _ first.1 in
      let le = leb-true _ _ parts.1 in
      let test : ltb (length message) 4 ≡ false = le-ltb _ _ long in
      let front : front_fault message ≡ None = no_first _ _ (sym (cond-false _ _ _ test) ∙ good) in
      let whole = whole_front limit (len_of message) message front refl le (within_limit limit message long good) in
      subst (IsWholeMessage limit) (sym (piece_at_front limit (len_of message) bytes message refl le whole).0) whole

  it_is_none : begins ≡ false → NoPiece limit bytes
  it_is_none e = elim (and_cases _ _ e) [
    | inl a ↦ elim (and_cases _ _ a) [
      | inl bad ↦ let fault = some_is _ bad in bad_no_piece limit bytes fault.0 fault.1
      | inr short ↦ short_no_piece limit bytes (inl (leb-false _ _ short))
    ]
    | inr short ↦ short_no_piece limit bytes (inr (leb-false _ _ short))
  ]

-- bytes that are fewer than a piece has
too_few : (limit : ℕ) (bytes : List ℕ) → length bytes ≤ 0 → NoPiece limit bytes
too_few limit bytes le piece more is e = omega (arith, le, (piece_long limit piece is).1, ap length e, length-append piece more)

abbrev IsCutWith : ℕ → List ℕ → List (List ℕ) → Type 0
IsCutWith limit bytes ps = IsCut limit bytes ps (drop (length (concat ps)) bytes)

-- the cut goes on behind a piece
behind_piece : (limit : ℕ) (piece rest : List ℕ) (ps : List (List ℕ)) → IsPiece limit piece → IsCutWith limit rest ps → IsCutWith limit (piece ++ rest) (piece ∷ ps)
behind_piece limit piece rest ps is cut =
    let same : drop (length (piece ++ concat ps)) (piece ++ rest) ≡ drop (length (concat ps)) rest =
    ap (λ (k : ℕ). drop k (piece ++ rest)) (length-append piece (concat ps)) ∙ sym (drop-drop (length (concat ps)) (length piece) (piece ++ rest)) ∙ ap (drop (length (concat ps))) (drop_at piece rest (length piece) refl) in
    rw same (record { parts = ap (λ (x : List ℕ). piece ++ x) cut.parts ∙ sym (append_assoc piece (concat ps) _); each = (is, cut.each); ends = cut.ends })

cut_within : (limit n : ℕ) (bytes : List ℕ) → length bytes ≤ n → IsCutWith limit bytes (pieces_within limit n bytes)
cut_within limit zero bytes le = record { parts = refl; each = tt; ends = too_few limit bytes le }
cut_within limit (suc n) bytes le =
    let piece = take (size limit bytes) bytes in
    let at = elim (begins limit bytes) as (λ there. begins limit bytes ≡ there → IsCutWith limit bytes (with_others (cond there (Some piece) None) (λ p. pieces_within limit n (drop (length p) bytes)))) [
      | true ↦ λ e.
          let is = it_is_piece limit bytes e in
          let split = behind_front (size limit bytes) bytes in
          let fewer : length (drop (length piece) bytes) ≤ n = omega (arith, le, length-drop (length piece) bytes, (piece_long limit piece is).1) in
          subst (λ (b : List ℕ). IsCutWith limit b (piece ∷ pieces_within limit n (drop (length piece) bytes))) (sym split)
          (behind_piece limit piece (drop (length piece) bytes) (pieces_within limit n (drop (length piece) bytes)) is (cut_within limit n (drop (length piece) bytes) fewer))
      | false ↦ λ e. record { parts = refl; each = tt; ends = it_is_none limit bytes e }
    ] in
    at refl

pub its_cut : (limit : ℕ) (stream : List ℕ) → IsCut limit stream (pieces limit stream) (rest_of limit stream)
its_cut limit stream = cut_within limit (length stream) stream (omega arith)

-- ---- a stream and what follows it

pub all_of_both : (limit : ℕ) (ps qs : List (List ℕ)) → AllByRecursion (IsPiece limit) ps → AllByRecursion (IsPiece limit) qs → AllByRecursion (IsPiece limit) (ps ++ qs)
all_of_both limit [] qs a b = b
all_of_both limit (p ∷ ps) qs a b = (a.0, all_of_both limit ps qs a.1 b)

pub concat_both : (ps qs : List (List ℕ)) → concat (ps ++ qs) ≡ concat ps ++ concat qs
concat_both [] qs = refl
concat_both (p ∷ ps) qs = ap (λ (x : List ℕ). p ++ x) (concat_both ps qs) ∙ sym (append_assoc p (concat ps) (concat qs))

-- the pieces of more bytes are those before and those of the rest with what follows
pub pieces-append : (limit : ℕ) (a b : List ℕ) → pieces limit (a ++ b) ≡ pieces limit a ++ pieces limit (rest_of limit a ++ b)
pieces-append limit a b =
    let first = its_cut limit a in
    let second = its_cut limit (rest_of limit a ++ b) in
    let ps = pieces limit a in
    let qs = pieces limit (rest_of limit a ++ b) in
    let t = rest_of limit (rest_of limit a ++ b) in
    let parts : a ++ b ≡ concat (ps ++ qs) ++ t =
    ap (λ (x : List ℕ). x ++ b) first.parts ∙ append_assoc (concat ps) (rest_of limit a) b ∙ ap (λ (x : List ℕ). concat ps ++ x) second.parts
    ∙ sym (append_assoc (concat ps) (concat qs) t) ∙ ap (λ (x : List ℕ). x ++ t) (sym (concat_both ps qs)) in
    (one_cut limit (a ++ b) (pieces limit (a ++ b)) (ps ++ qs) (rest_of limit (a ++ b)) t (its_cut limit (a ++ b)) (record { parts = parts; each = all_of_both limit ps qs first.each second.each; ends = second.ends })).0

-- nothing follows a bad rest
pub pieces-bad : (limit : ℕ) (a b : List ℕ) → IsSome (rest_fault limit (rest_of limit a)) → pieces limit (rest_of limit a ++ b) ≡ []
pieces-bad limit a b bad =
    let rest = rest_of limit a in
    let fault = some_of (rest_fault limit rest) bad in
    let still = bad_stays limit rest b fault.0 fault.1 in
    let empty : IsCut limit (rest ++ b) [] (rest ++ b) = record { parts = refl; each = tt; ends = bad_no_piece limit (rest ++ b) fault.0 still } in
    (one_cut limit (rest ++ b) (pieces limit (rest ++ b)) [] (rest_of limit (rest ++ b)) (rest ++ b) (its_cut limit (rest ++ b)) empty).0

pub requests-append : (a b : List ℕ) → requests (a ++ b) ≡ requests a ++ filter asks (map without_serial (pieces 2048 (rest_of 2048 a ++ b)))
requests-append a b =
    ap (λ (ps : List (List ℕ)). filter asks (map without_serial ps)) (pieces-append 2048 a b)
    ∙ ap (filter asks) (map-append without_serial (pieces 2048 a) (pieces 2048 (rest_of 2048 a ++ b)))
    ∙ filter-append asks (map without_serial (pieces 2048 a)) (map without_serial (pieces 2048 (rest_of 2048 a ++ b)))

pub requests-bad : (a b : List ℕ) → IsSome (rest_fault 2048 (rest_of 2048 a)) → requests (a ++ b) ≡ requests a
requests-bad a b bad =
    requests-append a b ∙ ap (λ (ps : List (List ℕ)). requests a ++ filter asks (map without_serial ps)) (pieces-bad 2048 a b bad) ∙ append-nil (requests a)
