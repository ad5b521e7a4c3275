-- What begins a stream: its first piece, or a bad header, or less than a piece.
use Rattle.std.proofs.Common.{◌≡◌, ℕ, ◌+◌, ◌-◌, ◌<◌, ◌≤◌, Bool, true, false, cond, ltb, eqb, List, ◌++◌, length, take, drop, Option, Some, None, refl, sym, ap, subst, ◌∙◌, length-append, length-drop, length-take, take-append-drop, inl, inr, arith}
use Rattle.std.specs.List.{starts_with}
use Rattle.std.specs.Option.{option_or}
use Rattle.std.specs.Cmp.Lexicographic.{pointwise}
use Rattle.std.proofs.lemmas.Bool.{le-ltb, lt-ltb, ltb-false, cases_lt, cond-true, cond-false}
use Rattle.std.proofs.lemmas.List.{take-append-le, drop-append-le, take-take, drop-take, drop-drop}
use Rattle.dl_headers.specs.declared.fault.HeaderFault.{HeaderFault}
use Rattle.dl_headers.specs.declared.fault.HeaderFault.TheVariants.{Length}
use Rattle.dl_bytes.specs.Htyp.{len_of}
use Rattle.dl_headers.specs.Reading.{front_fault}
use Rattle.dl_headers.proofs.Fronts.{good_front, htyp_of-append, len_of-append, front_fault-append}
use Rattle.dl_message.specs.Cut.{serial_header, without_serial, IsWholeMessage, IsPiece, NoPiece, IsShort, message_fault, rest_fault}

-- ---- what the first four bytes say doesn't change with what follows them

pub no_some : {A : Type 0} {x : A} → None ≡ Some x → ⊥
no_some e = absurd cc

pub message_fault-append : (limit : ℕ) (a b : List ℕ) → 4 ≤ length a → message_fault limit (a ++ b) ≡ message_fault limit a
message_fault-append limit a b l =
    let first : ltb (length a) 4 ≡ false = le-ltb _ _ l in
    let second : ltb (length (a ++ b)) 4 ≡ false = le-ltb _ _ (omega (arith, length-append a b)) in
    rw (first, second, htyp_of-append a b l, len_of-append a b l) refl

both_ways : (a b : List ℕ) → 4 ≤ length a → (there : Bool) → cond there (drop 4 (a ++ b)) (a ++ b) ≡ cond there (drop 4 a) a ++ b
both_ways a b l true = drop-append-le 4 a b l
both_ways a b l false = refl

pub without_serial-append : (a b : List ℕ) → 4 ≤ length a → without_serial (a ++ b) ≡ without_serial a ++ b
without_serial-append a b l =
    rw (take-append-le 4 a b l) (both_ways a b l (starts_with eqb a serial_header))

-- what is left is no longer than all
pub without_serial_le : (a : List ℕ) → length (without_serial a) ≤ length a
without_serial_le a = elim (starts_with eqb a serial_header) as (λ there. length (cond there (drop 4 a) a) ≤ length a) [
  | true ↦ omega (arith, length-drop 4 a)
  | false ↦ omega arith
]

-- ---- pieces

-- a front without a fault has four bytes, and a LEN of four at least
front_long : (a : List ℕ) → front_fault a ≡ None → 4 ≤ length a
front_long a e = (good_front a e).long

header_least : (a : List ℕ) → front_fault a ≡ None → 4 ≤ len_of a
header_least a e = let headers = (good_front a e).headers in omega arith

pub piece_long : (limit : ℕ) (piece : List ℕ) → IsPiece limit piece → (4 ≤ length (without_serial piece)) × (4 ≤ length piece)
piece_long limit piece is =
    let long = front_long (without_serial piece) is.front in
    (long, omega (arith, long, without_serial_le piece))

pub piece-append : (limit : ℕ) (piece more : List ℕ) → IsPiece limit piece → without_serial (piece ++ more) ≡ without_serial piece ++ more
piece-append limit piece more is = without_serial-append piece more (piece_long limit piece is).1

-- a whole message has no fault
whole_good : (limit : ℕ) (message : List ℕ) → IsWholeMessage limit message → message_fault limit message ≡ None
whole_good limit message is =
    let long : ltb (length message) 4 ≡ false = le-ltb _ _ (front_long message is.front) in
    let within : ltb limit (len_of message) ≡ false = le-ltb _ _ is.within in
    cond-false _ _ _ long ∙ ap (λ (x : Option HeaderFault). option_or x (cond (ltb limit (len_of message)) (Some (Length (len_of message))) None)) is.front ∙ cond-false _ _ _ within

-- what a piece begins is not bad
pub piece_good : (limit : ℕ) (piece more : List ℕ) → IsPiece limit piece → rest_fault limit (piece ++ more) ≡ None
piece_good limit piece more is =
    ap (message_fault limit) (piece-append limit piece more is) ∙ message_fault-append limit (without_serial piece) more (piece_long limit piece is).0 ∙ whole_good limit (without_serial piece) is

pub bad_no_piece : (limit : ℕ) (rest : List ℕ) (fault : HeaderFault) → rest_fault limit rest ≡ Some fault → NoPiece limit rest
bad_no_piece limit rest fault bad piece more is e = let good = piece_good limit piece more is in let same = ap (rest_fault limit) e in absurd (no_some (sym good ∙ sym same ∙ bad))

-- a bad rest stays bad, whatever follows it
pub bad_stays : (limit : ℕ) (rest more : List ℕ) (fault : HeaderFault) → rest_fault limit rest ≡ Some fault → rest_fault limit (rest ++ more) ≡ Some fault
bad_stays limit rest more fault bad =
    let message = without_serial rest in
    let long : 4 ≤ length message = elim (cases_lt (length message) 4) [
      | inl few ↦ absurd (no_some (sym (cond-true _ _ _ (lt-ltb _ _ few)) ∙ bad))
      | inr many ↦ many
    ] in
    ap (message_fault limit) (without_serial-append rest more (omega (arith, long, without_serial_le rest))) ∙ message_fault-append limit message more long ∙ bad

-- what a piece begins is not short
pub short_no_piece : (limit : ℕ) (rest : List ℕ) → IsShort (without_serial rest) → NoPiece limit rest
short_no_piece limit rest short piece more is e =
    let message = without_serial piece in
    let front : without_serial rest ≡ message ++ more = ap without_serial e ∙ piece-append limit piece more is in
    let long = (piece_long limit piece is).0 in
    let len : len_of (without_serial rest) ≡ len_of message = ap len_of front ∙ len_of-append message more long in
    let size : length (without_serial rest) ≡ length message + length more = ap length front ∙ length-append message more in
    elim short [
      | inl few ↦ omega (arith, few, size, long)
      | inr few ↦ omega (arith, few, size, len, is.len)
    ]

-- the first LEN bytes, where they are there
pub whole_front : (limit len : ℕ) (bytes : List ℕ) → front_fault bytes ≡ None → len ≡ len_of bytes → len ≤ length bytes → len ≤ limit → IsWholeMessage limit (take len bytes)
whole_front limit len bytes front is le within =
    let long = front_long bytes front in
    let least = header_least bytes front in
    let split = take-append-drop len bytes in
    let size : length (take len bytes) ≡ len = omega (arith, length-take len bytes) in
    let four : 4 ≤ length (take len bytes) = omega (arith, size, least, is) in
    let same_front : front_fault (take len bytes) ≡ front_fault bytes = sym (front_fault-append (take len bytes) (drop len bytes) four) ∙ ap front_fault split in
    let same_len : len_of (take len bytes) ≡ len_of bytes = sym (len_of-append (take len bytes) (drop len bytes) four) ∙ ap len_of split in
    record { front = same_front ∙ front; len = size ∙ is ∙ sym same_len; within = omega (arith, same_len, is, within) }

-- a test of the first four items, which a longer front of the bytes has too
same_start : (n : ℕ) (bytes : List ℕ) → 4 ≤ n → starts_with eqb (take n bytes) serial_header ≡ starts_with eqb bytes serial_header
same_start n bytes le = ap (λ (x : List ℕ). pointwise eqb serial_header x) (take-take 4 n bytes le)

-- the piece whose message was found behind a serial header or at once
pub piece_at_front : (limit len : ℕ) (rest front : List ℕ) → front ≡ without_serial rest → len ≤ length front → IsWholeMessage limit (take len front)
    → (without_serial (take (length rest - length front + len) rest) ≡ take len front) × (drop (length rest - length front) rest ≡ front)
piece_at_front limit len rest front e le is =
    let long = front_long (take len front) is.front in
    let four : 4 ≤ len = omega (arith, long, length-take len front) in
    let at = elim (starts_with eqb rest serial_header) as (λ there. starts_with eqb rest serial_header ≡ there
    → (without_serial (take (length rest - length front + len) rest) ≡ take len front) × (drop (length rest - length front) rest ≡ front)) [
      | true ↦ λ h.
          let f : front ≡ drop 4 rest = e ∙ cond-true _ _ _ h in
          let n : length rest - length front ≡ 4 = omega (arith, ap length f, length-drop 4 rest, four, le) in
          rw n (cond-true _ _ _ (same_start (4 + len) rest (omega arith) ∙ h) ∙ drop-take 4 len rest ∙ ap (take len) (sym f), sym f)
      | false ↦ λ h.
          let f : front ≡ rest = e ∙ cond-false _ _ _ h in
          let n : length rest - length front ≡ 0 = omega (arith, ap length f) in
          let m : length rest - length front + len ≡ len = omega (arith, n) in
          rw (m, n) (cond-false _ _ _ (same_start len rest four ∙ h) ∙ ap (take len) (sym f), sym f)
    ] in
    at refl

-- what is given of a rest, and what stays
pub given_of : (limit len : ℕ) (rest front behind : List ℕ) → front ≡ without_serial rest → behind ≡ drop (length rest - length front) rest → len ≤ length front → IsWholeMessage limit (take len front)
    → (piece : List ℕ) × IsPiece limit piece × (rest ≡ piece ++ drop len behind) × (take len behind ≡ without_serial piece)
given_of limit len rest front behind e f le is =
    let n = length rest - length front in
    let first = piece_at_front limit len rest front e le is in
    let split : rest ≡ take (n + len) rest ++ drop len behind = sym (take-append-drop (n + len) rest) ∙ ap (λ (x : List ℕ). take (n + len) rest ++ x) (sym (drop-drop len n rest) ∙ ap (drop len) (sym f)) in
    (take (n + len) rest, subst (IsWholeMessage limit) (sym first.0) is, split, ap (take len) (f ∙ first.1) ∙ sym first.0)

-- ---- room

pub no_second : {A : Type 0} (x y : Option A) → option_or x y ≡ None → y ≡ None
no_second None y e = e
no_second (Some x) y e = absurd (no_some (sym e))

pub not_some : {A : Type 0} (there : Bool) (x : A) → cond there (Some x) None ≡ None → there ≡ false
not_some true x e = absurd (no_some (sym e))
not_some false x e = refl

pub within_limit : (limit : ℕ) (bytes : List ℕ) → 4 ≤ length bytes → message_fault limit bytes ≡ None → len_of bytes ≤ limit
within_limit limit bytes long good =
    let test : ltb (length bytes) 4 ≡ false = le-ltb _ _ long in
    let second = no_second (front_fault bytes) (cond (ltb limit (len_of bytes)) (Some (Length (len_of bytes))) None) (sym (cond-false _ _ _ test) ∙ good) in
    ltb-false _ _ (not_some (ltb limit (len_of bytes)) _ second)

le_without_serial : (a : List ℕ) → length a ≤ length (without_serial a) + 4
le_without_serial a = elim (starts_with eqb a serial_header) as (λ there. length a ≤ length (cond there (drop 4 a) a) + 4) [
  | true ↦ omega (arith, length-drop 4 a)
  | false ↦ omega arith
]

-- an open rest leaves room for one byte more
pub room_left : (limit : ℕ) (rest : List ℕ) → 30 ≤ limit → rest_fault limit rest ≡ None → IsShort (without_serial rest) → length rest < limit + 4
room_left limit rest least good short =
    let serial = le_without_serial rest in
    elim (cases_lt (length (without_serial rest)) 4) [
      | inl few ↦ omega (arith, few, serial)
      | inr many ↦ elim short [
        | inl few ↦ absurd (omega (arith, few, many))
        | inr few ↦ omega (arith, few, serial, within_limit limit (without_serial rest) many good)
      ]
    ]
