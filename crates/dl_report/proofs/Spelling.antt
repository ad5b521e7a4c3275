-- Bytes spelled one after another.
use Rattle.std.proofs.Common.{◌≡◌, ℕ, ◌≤◌, ◌<◌, ◌+◌, ◌*◌, ◌-◌, ◌/◌, ◌%◌, cond, List, [], ◌∷◌, ◌++◌, length, take, drop, get_or, slice_set, map, refl, sym, ap, ◌∙◌, append_assoc, arith, Result, Ok, Err}
use Rattle.std.specs.Prelude.{OnOk, is_ok, slice_index}
use Rattle.std.specs.List.{flat_map, join_with_byte}
use Rattle.std.specs.declared.alloc.AllocError.{AllocError}
use Rattle.std.proofs.lemmas.List.{take_all, drop_all, drop_more, append-nil, length-append, length-set}
use Rattle.std.proofs.lemmas.Grind.{flat_map-append, take-set_at}
use Rattle.std.proofs.Math.Seq.{set-append_seam, take-append_seam}
use Rattle.hex.specs.Hex.{upper_digits}
use Rattle.dl_model.specs.Report.{hex_byte, frame_line}
use Rattle.dl_report.specs.Line.{spelled}

-- the letters of some bytes are the bytes joined by blanks, and a blank
joined_and_blank : (x : ℕ) (xs : List ℕ) → flat_map spelled (x ∷ xs) ≡ join_with_byte 32 (map hex_byte (x ∷ xs)) ++ 32 ∷ []
joined_and_blank x [] = refl
joined_and_blank x (y ∷ ys) = ap (λ t. hex_byte x ++ (32 ∷ t)) (joined_and_blank y ys)

-- with the end of the line in the last blank's place they are a frame's line
pub line_ended : (old new frame : List ℕ) (len : ℕ) → 1 ≤ length frame → new ≡ old ++ flat_map spelled frame → len ≡ length new
    → slice_set new (len - 1) 10 ≡ old ++ frame_line frame
line_ended old new [] len some new_is len_is = absurd (omega (arith, some))
line_ended old new (x ∷ xs) len some new_is len_is =
    let joined : List ℕ = join_with_byte 32 (map hex_byte (x ∷ xs)) in
    let parts : new ≡ (old ++ joined) ++ 32 ∷ [] = new_is ∙ ap (λ t. old ++ t) (joined_and_blank x xs) ∙ sym (append_assoc old joined (32 ∷ [])) in
    let place : len - 1 ≡ length (old ++ joined) = omega (arith, len_is, ap length parts, length-append (old ++ joined) (32 ∷ [])) in
    rw (place, parts) (set-append_seam (old ++ joined) 32 [] 10 ∙ append_assoc old joined (10 ∷ []))

-- three writes in a row, seen from the front
three_writes : (xs : List ℕ) (o x y z : ℕ) → o + 2 < length xs
    → take (o + 3) (slice_set (slice_set (slice_set xs o x) (o + 1) y) (o + 2) z) ≡ take o xs ++ x ∷ y ∷ z ∷ []
three_writes xs o x y z fits =
    let third = take-set_at (slice_set (slice_set xs o x) (o + 1) y) (o + 2) (o + 3) z (omega arith) (omega (arith, length-set (slice_set xs o x) (o + 1) y, length-set xs o x)) in
    let second = take-set_at (slice_set xs o x) (o + 1) (o + 2) y (omega arith) (omega (arith, length-set xs o x)) in
    let first = take-set_at xs o (o + 1) x refl (omega arith) in
    rw (third, second, first) (append_assoc (take o xs ++ x ∷ []) (y ∷ []) (z ∷ []) ∙ append_assoc (take o xs) (x ∷ []) (y ∷ z ∷ []))

-- the letters so far, with those of the bytes that are left, are all: one byte more
pub spelled_more : (bytes letters : List ℕ) (i d e : ℕ) → i < length bytes → 3 * i + 2 < length letters
    → d ≡ slice_index upper_digits (get_or bytes i 0 / 16) → e ≡ slice_index upper_digits (get_or bytes i 0 % 16)
    → take (3 * i) letters ++ flat_map spelled (drop i bytes) ≡ flat_map spelled bytes
    → take (3 * (i + 1)) (slice_set (slice_set (slice_set letters (3 * i) d) (3 * i + 1) e) (3 * i + 2) 32) ++ flat_map spelled (drop (i + 1) bytes) ≡ flat_map spelled bytes
spelled_more bytes letters i d e within fits d_is e_is so_far =
    let three : 3 * (i + 1) ≡ 3 * i + 3 = omega arith in
    let rest = drop_more bytes i 0 within in
    rw (three, three_writes letters (3 * i) d e 32 fits, d_is, e_is, append_assoc) (rw rest at so_far)

pub spelled_all : (bytes letters : List ℕ) (i : ℕ) → length bytes ≤ i → length letters ≤ 3 * i
    → take (3 * i) letters ++ flat_map spelled (drop i bytes) ≡ flat_map spelled bytes → letters ≡ flat_map spelled bytes
spelled_all bytes letters i bytes_end letters_end so_far =
    let none = drop_all i bytes bytes_end in
    let all = take_all (3 * i) letters letters_end in
    rw (none, all, append-nil) at so_far

length-spelled : (bytes : List ℕ) → length (flat_map spelled bytes) ≡ 3 * length bytes
length-spelled [] = refl
length-spelled (x ∷ bytes) = let rest = length-spelled bytes in omega (arith, rest)

pub some_letters : (old new frame : List ℕ) (len : ℕ) → 1 ≤ length frame → new ≡ old ++ flat_map spelled frame → len ≡ length new → 1 ≤ len
some_letters old new frame len some new_is len_is = omega (arith, some, len_is, ap length new_is, length-append old (flat_map spelled frame), length-spelled frame)

-- the letters of a piece begin with those of its first bytes
spelled_first : (bytes rest : List ℕ) → take (3 * length bytes) (flat_map spelled (bytes ++ rest)) ≡ flat_map spelled bytes
spelled_first bytes rest =
    rw (flat_map-append spelled bytes rest, sym (length-spelled bytes)) (take-append_seam (flat_map spelled bytes) (flat_map spelled rest))

-- a piece that other bytes fill up, of whose letters those of its own are added
pub piece_added : (r : Result (Unit {0}) AllocError) (old new bytes copied rest letters : List ℕ) → copied ≡ bytes → letters ≡ flat_map spelled (copied ++ rest)
    → new ≡ cond (is_ok r) (old ++ take (3 * length bytes) letters) old → OnOk r (new ≡ old ++ flat_map spelled bytes)
piece_added (Err fault) old new bytes copied rest letters same spelled_so new_is = tt
piece_added (Ok done) old new bytes copied rest letters same spelled_so new_is =
    new_is ∙ ap (λ t. old ++ take (3 * length bytes) t) (spelled_so ∙ ap (λ (xs : List ℕ). flat_map spelled (xs ++ rest)) same) ∙ ap (λ t. old ++ t) (spelled_first bytes rest)

-- the text so far, with the letters of the bytes that are left, is all: one piece more
pub pieces_more : (old new piece rest left all : List ℕ) → new ≡ old ++ flat_map spelled piece → left ≡ piece ++ rest
    → old ++ flat_map spelled left ≡ all → new ++ flat_map spelled rest ≡ all
pieces_more old new piece rest left all new_is parts so_far =
    ap (λ t. t ++ flat_map spelled rest) new_is ∙ append_assoc old (flat_map spelled piece) (flat_map spelled rest)
    ∙ ap (λ t. old ++ t) (sym (flat_map-append spelled piece rest) ∙ ap (flat_map spelled) (sym parts)) ∙ so_far

pub pieces_all : (text left all : List ℕ) → left ≡ [] → text ++ flat_map spelled left ≡ all → text ≡ all
pieces_all text left all none so_far = sym (ap (λ xs. text ++ flat_map spelled xs) none ∙ append-nil text) ∙ so_far
