-- Reading the parts of an argument: what is taken from the front is in the form that is read, and such a front is taken.
use Rattle.std.proofs.Common.{◌≡◌, ℕ, ◌+◌, ◌<◌, ◌≤◌, ◌^◌, false, ltb, List, [], ◌∷◌, ◌++◌, length, take, drop, Some, refl, sym, ap, subst, ◌∙◌, append_assoc, arith}
use Rattle.std.proofs.lemmas.Bool.{ltb-false, le-ltb}
use Rattle.std.proofs.lemmas.List.{take_at, drop_at, take-append-drop, length-append, length-take, get_or-append-add}
use Rattle.byteorder.specs.Numbers.{big_from-take, little_from-take, big_from-append, little_from-append, big_from-lt, little_from-lt}
use Rattle.dl_lemmas.proofs.Options.{guard_some}
use Rattle.dl_bytes.specs.Bytes.{IsBytes}
use Rattle.dl_bytes.specs.declared.cursor.Order.{Order}
use Rattle.dl_bytes.specs.declared.cursor.Order.TheVariants.{Little, Big}
use Rattle.dl_bytes.specs.Number.{At, bytes_at, number_at, number_of}
use Rattle.dl_args.specs.ReadForm.{IsNumber, Is, ◌before◌}

-- a reader in this byte order took a front of this form from c, and left d
pub record TakesForm (order : Order) (P : List ℕ → Type 0) (c d : At) : Type 0 where
  pub front : List ℕ
  pub form : P front
  pub parts : c.rest ≡ front ++ d.rest
  pub same : d.order ≡ order

pub TakesForm-then : {P Q : List ℕ → Type 0} (order : Order) (c d e : At) → TakesForm order P c d → TakesForm order Q d e → TakesForm order (P before Q) c e
TakesForm-then order c d e p q = record {
  front = p.front ++ q.front;
  form = record { front = p.front; back = q.front; first = p.form; second = q.form; parts = refl };
  parts = p.parts ∙ ap (λ (t : List ℕ). p.front ++ t) q.parts ∙ sym (append_assoc p.front q.front e.rest);
  same = q.same;
}

-- nothing is taken
pub takes_none : (order : Order) (c : At) → c.order ≡ order → TakesForm order (Is []) c c
takes_none order c same = record { front = []; form = refl; parts = refl; same = same }

abbrev pub at_front : Order → List ℕ → At
at_front order rest = record { rest = rest; order = order }

-- ---- bytes and numbers

pub bytes_take : (order : Order) (n : ℕ) (c : At) (x : List ℕ × At) → c.order ≡ order → bytes_at n c ≡ Some x → TakesForm order (Is x.0) c x.1 × (length x.0 ≡ n)
bytes_take order n c x same e =
    let made : List ℕ × At = (take n c.rest, record { rest = drop n c.rest; order = c.order }) in
    let g = guard_some (ltb (length c.rest) n) made x e in
    let long : n ≤ length c.rest = ltb-false _ _ g.0 in
    subst (λ (y : List ℕ × At). TakesForm order (Is y.0) c y.1 × (length y.0 ≡ n)) g.1 (
      record {
        front = take n c.rest;
        form = refl;
        parts = sym (take-append-drop n c.rest);
        same = same;
      },
      omega (arith, length-take n c.rest),
    )

pub bytes_again : (order : Order) (n : ℕ) (front rest : List ℕ) → length front ≡ n → bytes_at n (at_front order (front ++ rest)) ≡ Some (front, at_front order rest)
bytes_again order n front rest len =
    let long : ltb (length (front ++ rest)) n ≡ false = le-ltb _ _ (omega (arith, length-append front rest)) in
    rw (long, take_at front rest n len, drop_at front rest n len) refl

number_of-take : (order : Order) (n : ℕ) (xs : List ℕ) → number_of order n (take n xs) ≡ number_of order n xs
number_of-take Little n xs = little_from-take 0 n n xs (omega arith)
number_of-take Big n xs = big_from-take 0 n n xs (omega arith)

pub number_of-append : (order : Order) (n : ℕ) (xs ys : List ℕ) → n ≤ length xs → number_of order n (xs ++ ys) ≡ number_of order n xs
number_of-append Little n xs ys long = little_from-append n xs ys long
number_of-append Big n xs ys long = big_from-append n xs ys long

pub number_takes : (order : Order) (n : ℕ) (c : At) (x : ℕ × At) → c.order ≡ order → number_at n c ≡ Some x → TakesForm order (IsNumber order n x.0) c x.1
number_takes order n c x same e =
    let made : ℕ × At = (number_of c.order n c.rest, record { rest = drop n c.rest; order = c.order }) in
    let g = guard_some (ltb (length c.rest) n) made x e in
    let long : n ≤ length c.rest = ltb-false _ _ g.0 in
    subst (λ (y : ℕ × At). TakesForm order (IsNumber order n y.0) c y.1) g.1 (record {
      front = take n c.rest;
      form = record { len = omega (arith, length-take n c.rest); value = ap (λ (o : Order). number_of o n (take n c.rest)) (sym same) ∙ number_of-take c.order n c.rest };
      parts = sym (take-append-drop n c.rest);
      same = same;
    })

pub number_again : (order : Order) (n x : ℕ) (front rest : List ℕ) → IsNumber order n x front → number_at n (at_front order (front ++ rest)) ≡ Some (x, at_front order rest)
number_again order n x front rest form =
    let len = form.len in
    let long : ltb (length (front ++ rest)) n ≡ false = le-ltb _ _ (omega (arith, length-append front rest)) in
    rw (long, number_of-append order n front rest (omega arith), form.value, drop_at front rest n len) refl

-- ---- bytes below 256

pub bytes_after : (front rest : List ℕ) → IsBytes (front ++ rest) → IsBytes rest
bytes_after front rest small i = subst (λ (n : ℕ). n < 256) (get_or-append-add front rest i 0) (small (length front + i))

number_small : (order : Order) (n : ℕ) (xs : List ℕ) → IsBytes xs → number_of order n xs < 256 ^ n
number_small Little n xs small = little_from-lt 0 n xs small
number_small Big n xs small = big_from-lt 0 n xs small

pub number_fits : (n : ℕ) (c : At) (x : ℕ × At) → IsBytes c.rest → number_at n c ≡ Some x → x.0 < 256 ^ n
number_fits n c x small e =
    let g = guard_some (ltb (length c.rest) n) (number_of c.order n c.rest, record { rest = drop n c.rest; order = c.order }) x e in
    subst (λ (y : ℕ × At). y.0 < 256 ^ n) g.1 (number_small c.order n c.rest small)

-- one byte is its number
pub one_byte : (order : Order) (x : ℕ) (bytes : List ℕ) → IsNumber order 1 x bytes → bytes ≡ x ∷ []
one_byte Little x (b ∷ []) form = let e : b ≡ x = omega (arith, form.value) in ap (λ (n : ℕ). n ∷ []) e
one_byte Big x (b ∷ []) form = let e : b ≡ x = omega (arith, form.value) in ap (λ (n : ℕ). n ∷ []) e
one_byte order x [] form = absurd (omega (arith, form.len))
one_byte order x (b ∷ c ∷ bs) form = absurd (omega (arith, form.len))

pub byte_number : (order : Order) (x : ℕ) → IsNumber order 1 x (x ∷ [])
byte_number Little x = record { len = refl; value = omega arith }
byte_number Big x = record { len = refl; value = omega arith }
