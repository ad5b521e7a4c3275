-- Reading a field takes it from the front, and a field that stands at the front is read.
use Rattle.std.proofs.Common.{◌≡◌, ℕ, ◌+◌, ◌-◌, ◌^◌, ◌<◌, ◌≤◌, false, ltb, List, [], ◌∷◌, ◌++◌, length, take, drop, Option, Some, None, refl, sym, ap, subst, ◌∙◌, append_assoc, arith, inl, inr}
use Rattle.std.proofs.lemmas.Bool.{cases_lt, ltb-false, le-ltb, lt-ltb}
use Rattle.std.proofs.lemmas.List.{append-nil, take_at, drop_at, take-append-drop, length-append, length-take, length-drop, drop-append-le}
use Rattle.std.proofs.lemmas.Nat.{be_bytes_4, le_bytes_4}
use Rattle.byteorder.specs.Numbers.{big_from-take, little_from-take, big_number-reads_back, little_number-reads_back, big_from-append, little_from-append, big_from-lt, little_from-lt}
use Rattle.dl_lemmas.proofs.Options.{guard_some}
use Rattle.dl_bytes.specs.Bytes.{IsBytes}
use Rattle.dl_bytes.specs.declared.cursor.Order.{Order}
use Rattle.dl_bytes.specs.declared.cursor.Order.TheVariants.{Little, Big}
use Rattle.dl_bytes.specs.Number.{At, bytes_of, number_of, bytes_at, number_at, ◌>>=◌}
use Rattle.dl_bytes.proofs.Bytes.{IsBytes-drop, IsBytes-take}

-- a step that did not fail gave a value, from which the next went on
pub with_step : {A B : Type 0} (r : Option A) (f : A → Option B) (y : B) (P : Type 0) → (r >>= f) ≡ Some y → ((x : A) → r ≡ Some x → f x ≡ Some y → P) → P
with_step (Some x) f y P e then = then x refl e
with_step None f y P e then = absurd cc

-- reading took these bytes from the front
pub record TakesBytes (c : At) (bytes : List ℕ) (left : At) : Type 0 where
  pub parts : c.rest ≡ bytes ++ left.rest
  pub order : left.order ≡ c.order
  pub fits : IsBytes left.rest

pub TakesBytes-then : (a : At) (x : List ℕ) (b : At) (y : List ℕ) (c : At) → TakesBytes a x b → TakesBytes b y c → TakesBytes a (x ++ y) c
TakesBytes-then a x b y c p q =
    record {
      parts = p.parts ∙ ap (λ (t : List ℕ). x ++ t) q.parts ∙ sym (append_assoc x y c.rest);
      order = q.order ∙ p.order;
      fits = q.fits;
    }

-- ---- bytes

pub bytes_take : (n : ℕ) (c : At) (x : List ℕ × At) → IsBytes c.rest → bytes_at n c ≡ Some x → TakesBytes c x.0 x.1 × (length x.0 ≡ n)
bytes_take n c x fits e =
    let g = guard_some (ltb (length c.rest) n) (take n c.rest, record { rest = drop n c.rest; order = c.order }) x e in
    let long : n ≤ length c.rest = ltb-false _ _ g.0 in
    subst (λ (y : List ℕ × At). TakesBytes c y.0 y.1 × (length y.0 ≡ n)) g.1
    (record { parts = sym (take-append-drop n c.rest); order = refl; fits = IsBytes-drop n c.rest fits }, omega (arith, length-take n c.rest))

pub bytes_again : (n : ℕ) (bytes rest : List ℕ) (order : Order) → length bytes ≡ n → bytes_at n (record { rest = bytes ++ rest; order = order }) ≡ Some (bytes, record { rest = rest; order = order })
bytes_again n bytes rest order len =
    let long : ltb (length (bytes ++ rest)) n ≡ false = le-ltb _ _ (omega (arith, length-append bytes rest)) in
    rw (long, take_at bytes rest n len, drop_at bytes rest n len) refl

pub bytes_last : (n : ℕ) (bytes : List ℕ) (order : Order) → length bytes ≡ n → bytes_at n (record { rest = bytes; order = order }) ≡ Some (bytes, record { rest = []; order = order })
bytes_last n bytes order len =
    ap (λ (rest : List ℕ). bytes_at n (record { rest = rest; order = order })) (sym (append-nil bytes)) ∙ bytes_again n bytes [] order len

-- ---- a byte

one_byte : (order : Order) (b : ℕ) (rest : List ℕ) → number_of order 1 (b ∷ rest) ≡ b
one_byte Little b rest = omega arith
one_byte Big b rest = omega arith

pub byte_again : (b : ℕ) (rest : List ℕ) (order : Order) → number_at 1 (record { rest = b ∷ rest; order = order }) ≡ Some (b, record { rest = rest; order = order })
byte_again b rest order =
    let long : ltb (length (b ∷ rest)) 1 ≡ false = le-ltb _ _ (omega arith) in
    rw (long, one_byte order b rest) refl

byte_front : (bytes : List ℕ) (order : Order) → 1 ≤ length bytes → number_of order 1 bytes ∷ drop 1 bytes ≡ bytes
byte_front [] order h = absurd (omega arith)
byte_front (b ∷ rest) order h = ap (λ (n : ℕ). n ∷ rest) (one_byte order b rest)

byte_fits : (bytes : List ℕ) (order : Order) → IsBytes bytes → number_of order 1 bytes < 256
byte_fits bytes Little fits = little_from-lt 0 1 bytes fits
byte_fits bytes Big fits = big_from-lt 0 1 bytes fits

pub byte_takes : (c : At) (x : ℕ × At) → IsBytes c.rest → number_at 1 c ≡ Some x → TakesBytes c (x.0 ∷ []) x.1 × (x.0 < 256)
byte_takes c x fits e =
    let after : At = record { rest = drop 1 c.rest; order = c.order } in
    let g = guard_some (ltb (length c.rest) 1) (number_of c.order 1 c.rest, after) x e in
    let long : 1 ≤ length c.rest = ltb-false _ _ g.0 in
    subst (λ (y : ℕ × At). TakesBytes c (y.0 ∷ []) y.1 × (y.0 < 256)) g.1
    (record { parts = sym (byte_front c.rest c.order long); order = refl; fits = IsBytes-drop 1 c.rest fits }, byte_fits c.rest c.order fits)

-- ---- a number of four bytes

four_again : (x : ℕ) (rest : List ℕ) (order : Order) → x < 2 ^ 32 → number_of order 4 (bytes_of order 4 x ++ rest) ≡ x
four_again x rest Little lt = little_number-reads_back 4 x rest lt
four_again x rest Big lt = big_number-reads_back 4 x rest lt

four_long : (x : ℕ) (rest : List ℕ) (order : Order) → ltb (length (bytes_of order 4 x ++ rest)) 4 ≡ false
four_long x rest Little = le-ltb _ _ (omega arith)
four_long x rest Big = le-ltb _ _ (omega arith)

four_dropped : (x : ℕ) (rest : List ℕ) (order : Order) → drop 4 (bytes_of order 4 x ++ rest) ≡ rest
four_dropped x rest Little = refl
four_dropped x rest Big = refl

pub number_again : (x : ℕ) (rest : List ℕ) (order : Order) → x < 2 ^ 32 → number_at 4 (record { rest = bytes_of order 4 x ++ rest; order = order }) ≡ Some (x, record { rest = rest; order = order })
number_again x rest order lt = rw (four_long x rest order, four_again x rest order lt, four_dropped x rest order) refl

-- the bytes of the number that four bytes stand for are these
four_back : (bytes : List ℕ) (order : Order) → length bytes ≡ 4 → IsBytes bytes → bytes_of order 4 (number_of order 4 bytes) ≡ bytes
four_back bytes Little len fits = le_bytes_4 bytes _ len fits (omega arith)
four_back bytes Big len fits = be_bytes_4 bytes _ len fits (omega arith)

four_first : (bytes : List ℕ) (order : Order) → number_of order 4 (take 4 bytes) ≡ number_of order 4 bytes
four_first bytes Little = little_from-take 0 4 4 bytes (omega arith)
four_first bytes Big = big_from-take 0 4 4 bytes (omega arith)

four_fits : (bytes : List ℕ) (order : Order) → IsBytes bytes → number_of order 4 bytes < 2 ^ 32
four_fits bytes Little fits = little_from-lt 0 4 bytes fits
four_fits bytes Big fits = big_from-lt 0 4 bytes fits

pub number_takes : (c : At) (x : ℕ × At) → IsBytes c.rest → number_at 4 c ≡ Some x → TakesBytes c (bytes_of c.order 4 x.0) x.1 × (x.0 < 2 ^ 32)
number_takes c x fits e =
    let after : At = record { rest = drop 4 c.rest; order = c.order } in
    let g = guard_some (ltb (length c.rest) 4) (number_of c.order 4 c.rest, after) x e in
    let long : 4 ≤ length c.rest = ltb-false _ _ g.0 in
    let front : bytes_of c.order 4 (number_of c.order 4 c.rest) ≡ take 4 c.rest =
    ap (bytes_of c.order 4) (sym (four_first c.rest c.order)) ∙ four_back (take 4 c.rest) c.order (omega (arith, length-take 4 c.rest)) (IsBytes-take 4 c.rest fits) in
    subst (λ (y : ℕ × At). TakesBytes c (bytes_of c.order 4 y.0) y.1 × (y.0 < 2 ^ 32)) g.1
    (record { parts = sym (ap (λ (t : List ℕ). t ++ drop 4 c.rest) front ∙ take-append-drop 4 c.rest); order = refl; fits = IsBytes-drop 4 c.rest fits }, four_fits c.rest c.order fits)

-- ---- how many bytes a read takes

-- a read takes n bytes where so many are left, and fails where fewer are
pub record Needs {A : Type 0} (n : ℕ) (read : At → Option (A × At)) : Type 0 where
  pub enough : (c : At) → n ≤ length c.rest → (x : A × At) × (read c ≡ Some x) × (length x.1.rest + n ≡ length c.rest)
  pub short : (c : At) → length c.rest < n → read c ≡ None

pub needs_bytes : (n : ℕ) → Needs n (bytes_at n)
needs_bytes n =
    record {
      enough = λ c long. ((take n c.rest, record { rest = drop n c.rest; order = c.order }), rw (le-ltb (length c.rest) n long) refl, omega (arith, length-drop n c.rest));
      short = λ c lt. rw (lt-ltb (length c.rest) n lt) refl;
    }

pub needs_number : (n : ℕ) → Needs n (number_at n)
needs_number n =
    record {
      enough = λ c long. ((number_of c.order n c.rest, record { rest = drop n c.rest; order = c.order }), rw (le-ltb (length c.rest) n long) refl, omega (arith, length-drop n c.rest));
      short = λ c lt. rw (lt-ltb (length c.rest) n lt) refl;
    }

pub needs_none : {A : Type 0} (x : A) → Needs 0 (λ c. Some (x, c))
needs_none x = record { enough = λ c long. ((x, c), refl, omega arith); short = λ c lt. absurd (omega arith) }

pub needs_then : {A B : Type 0} (m n : ℕ) (first : At → Option (A × At)) (next : A × At → Option (B × At)) → Needs m first → ((x : A) → Needs n (λ c. next (x, c)))
    → Needs (m + n) (λ c. first c >>= next)
needs_then {A} {B} m n first next needs_first needs_next =
    record {
      enough = λ c long.
          let a = needs_first.enough c (omega arith) in
          let b = (needs_next a.0.0).enough a.0.1 (omega (arith, a.2)) in
          (b.0, rw a.1 b.1, omega (arith, a.2, b.2));
      short = λ c lt. elim (cases_lt (length c.rest) m) [
        | inl less ↦ rw (needs_first.short c less) refl
        | inr le ↦
            let a = needs_first.enough c le in
            rw a.1 ((needs_next a.0.0).short a.0.1 (omega (arith, a.2)))
      ];
    }

-- ---- what is behind a number

number_first : (n : ℕ) (a b : List ℕ) (order : Order) → n ≤ length a → number_of order n (a ++ b) ≡ number_of order n a
number_first n a b Little long = little_from-append n a b long
number_first n a b Big long = big_from-append n a b long

-- whether there are bytes for a number
pub number_long : (n : ℕ) (c : At) (x : ℕ × At) → number_at n c ≡ Some x → (n ≤ length c.rest) × (number_of c.order n c.rest ≡ x.0)
number_long n c x e =
    let g = guard_some (ltb (length c.rest) n) (number_of c.order n c.rest, record { rest = drop n c.rest; order = c.order }) x e in
    (ltb-false _ _ g.0, ap (λ (y : ℕ × At). y.0) g.1)

pub number_left : (n : ℕ) (c : At) (x : ℕ × At) → number_at n c ≡ Some x → length x.1.rest + n ≡ length c.rest
number_left n c x e =
    let long = number_long n c x e in
    let g = guard_some (ltb (length c.rest) n) (number_of c.order n c.rest, record { rest = drop n c.rest; order = c.order }) x e in
    omega (arith, long.0, ap (λ (y : ℕ × At). length y.1.rest) g.1, length-drop n c.rest)

pub number_none : (n : ℕ) (c : At) → number_at n c ≡ None → length c.rest < n
number_none n c e =
    elim (cases_lt (length c.rest) n) [
      | inl lt ↦ lt
      | inr le ↦ let a = (needs_number n).enough c le in absurd cc
    ]

-- what stands behind a number stays behind it
pub number_more : (n : ℕ) (c : At) (x : ℕ × At) (more : List ℕ) → number_at n c ≡ Some x
    → number_at n (record { rest = c.rest ++ more; order = c.order }) ≡ Some (x.0, record { rest = x.1.rest ++ more; order = x.1.order })
number_more n c x more e =
    let g = guard_some (ltb (length c.rest) n) (number_of c.order n c.rest, record { rest = drop n c.rest; order = c.order }) x e in
    let long : n ≤ length c.rest = ltb-false _ _ g.0 in
    let longer : ltb (length (c.rest ++ more)) n ≡ false = le-ltb _ _ (omega (arith, length-append c.rest more)) in
    let made : number_at n (record { rest = c.rest ++ more; order = c.order }) ≡ Some (number_of c.order n c.rest, record { rest = drop n c.rest ++ more; order = c.order }) =
    rw (longer, number_first n c.rest more c.order long, drop-append-le n c.rest more long) refl in
    subst (λ (y : ℕ × At). number_at n (record { rest = c.rest ++ more; order = c.order }) ≡ Some (y.0, record { rest = y.1.rest ++ more; order = y.1.order })) g.1 made
