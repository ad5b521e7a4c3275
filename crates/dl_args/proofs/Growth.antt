-- Where bytes are missing, more of them make an argument.
use Rattle.std.proofs.Common.{◌≡◌, ℕ, ◌-◌, ◌<◌, ◌≤◌, Bool, true, false, cond, ltb, List, [], ◌++◌, length, take, drop, Option, Some, None, refl, ap, append_assoc, arith, inl, inr}
use Rattle.std.specs.Prelude.{◌⊎◌}
use Rattle.std.specs.Int.{cast_signed}
use Rattle.std.specs.Io.BufRead.{strip_last}
use Rattle.std.proofs.lemmas.Bool.{cases_lt, ltb-false, le-ltb}
use Rattle.std.proofs.lemmas.List.{length-append, length-drop, length-replicate, take-append-le, drop-append-le, nil_from_length}
use Rattle.dl_lemmas.proofs.Options.{guard_some, same_thing}
use Rattle.dl_bytes.specs.Bytes.{IsBytes}
use Rattle.dl_bytes.specs.Number.{At, bytes_at, number_at, number_of, ◌>>=◌}
use Rattle.dl_bytes.proofs.Bytes.{IsBytes-append, IsBytes-zeros, zeros}
use Rattle.dl_args.specs.declared.width.Width.{Width}
use Rattle.dl_args.specs.Width.{byte_count, int_type}
use Rattle.dl_args.specs.Fields.{text_at, name_at, names_at, named_bytes_at, unsigned_at, signed_at}
use Rattle.dl_args.proofs.Parts.{number_of-append}

-- the same place, with more bytes at the end
abbrev pub onto : At → List ℕ → At
onto c more = record { rest = c.rest ++ more; order = c.order }

pub onto_twice : (c : At) (a b : List ℕ) → onto (onto c a) b ≡ onto c (a ++ b)
onto_twice c a b = ap (λ (r : List ℕ). record { rest = r; order = c.order }) (append_assoc c.rest a b)

-- the bytes that a read lacks, so that it takes all that is there
pub record Grown {A : Type 0} (read : At → Option (A × At)) (c : At) : Type 0 where
  pub more : List ℕ
  pub value : A
  pub left : At
  pub small : IsBytes more
  pub reads : read (onto c more) ≡ Some (value, left)
  pub ends : left.rest ≡ []

-- What a read took, it takes whatever follows; and what it can't take, it takes with more bytes.
pub record Grows {A : Type 0} (read : At → Option (A × At)) : Type 0 where
  pub stays : (c : At) (x : A × At) (more : List ℕ) → read c ≡ Some x → read (onto c more) ≡ Some (x.0, onto x.1 more)
  pub shrinks : (c : At) (x : A × At) → read c ≡ Some x → length x.1.rest ≤ length c.rest
  pub grows : (c : At) → read c ≡ None → Grown read c

-- ---- bytes and numbers

none_short : {A : Type 0} (n : ℕ) (c : At) (x : A) → cond (ltb (length c.rest) n) None (Some x) ≡ None → length c.rest < n
none_short n c x e =
    elim (cases_lt (length c.rest) n) [
      | inl lt ↦ lt
      | inr le ↦ let test = le-ltb (length c.rest) n le in absurd cc
    ]

filled_len : (n : ℕ) (c : At) → length c.rest < n → length (c.rest ++ zeros (n - length c.rest)) ≡ n
filled_len n c lt = omega (arith, lt, length-append c.rest (zeros (n - length c.rest)), length-replicate {A = ℕ} (n - length c.rest) 0)

pub bytes_grow : (n : ℕ) → Grows (bytes_at n)
bytes_grow n = record {
  stays = λ c x more e.
      let g = guard_some (ltb (length c.rest) n) (take n c.rest, record { rest = drop n c.rest; order = c.order }) x e in
      let long : n ≤ length c.rest = ltb-false _ _ g.0 in
      let longer : ltb (length (c.rest ++ more)) n ≡ false = le-ltb _ _ (omega (arith, long, length-append c.rest more)) in
      rw (longer, take-append-le n c.rest more long, drop-append-le n c.rest more long) (ap (λ (y : List ℕ × At). Some (y.0, onto y.1 more)) g.1);
  shrinks = λ c x e.
      let g = guard_some (ltb (length c.rest) n) (take n c.rest, record { rest = drop n c.rest; order = c.order }) x e in
      omega (arith, ap (λ (y : List ℕ × At). length y.1.rest) g.1, length-drop n c.rest);
  grows = λ c e.
      let lt = none_short n c (take n c.rest, record { rest = drop n c.rest; order = c.order }) e in
      let fill = zeros (n - length c.rest) in
      let len = filled_len n c lt in
      let long : ltb (length (c.rest ++ fill)) n ≡ false = le-ltb _ _ (omega (arith, len)) in
      record {
        more = fill;
        value = take n (c.rest ++ fill);
        left = record { rest = drop n (c.rest ++ fill); order = c.order };
        small = IsBytes-zeros (n - length c.rest);
        reads = rw long refl;
        ends = nil_from_length (drop n (c.rest ++ fill)) (omega (arith, len, length-drop n (c.rest ++ fill)));
      };
}

pub number_grows : (n : ℕ) → Grows (number_at n)
number_grows n = record {
  stays = λ c x more e.
      let g = guard_some (ltb (length c.rest) n) (number_of c.order n c.rest, record { rest = drop n c.rest; order = c.order }) x e in
      let long : n ≤ length c.rest = ltb-false _ _ g.0 in
      let longer : ltb (length (c.rest ++ more)) n ≡ false = le-ltb _ _ (omega (arith, long, length-append c.rest more)) in
      rw (longer, number_of-append c.order n c.rest more long, drop-append-le n c.rest more long) (ap (λ (y : ℕ × At). Some (y.0, onto y.1 more)) g.1);
  shrinks = λ c x e.
      let g = guard_some (ltb (length c.rest) n) (number_of c.order n c.rest, record { rest = drop n c.rest; order = c.order }) x e in
      omega (arith, ap (λ (y : ℕ × At). length y.1.rest) g.1, length-drop n c.rest);
  grows = λ c e.
      let lt = none_short n c (number_of c.order n c.rest, record { rest = drop n c.rest; order = c.order }) e in
      let fill = zeros (n - length c.rest) in
      let len = filled_len n c lt in
      let long : ltb (length (c.rest ++ fill)) n ≡ false = le-ltb _ _ (omega (arith, len)) in
      record {
        more = fill;
        value = number_of c.order n (c.rest ++ fill);
        left = record { rest = drop n (c.rest ++ fill); order = c.order };
        small = IsBytes-zeros (n - length c.rest);
        reads = rw long refl;
        ends = nil_from_length (drop n (c.rest ++ fill)) (omega (arith, len, length-drop n (c.rest ++ fill)));
      };
}

-- ---- one read after another

pub value_grows : {A : Type 0} (a : A) → Grows (λ (c : At). Some (a, c))
value_grows {A = A} a = record {
  stays = λ c x more e. ap (λ (y : A × At). Some (y.0, onto y.1 more)) (same_thing (a, c) x e);
  shrinks = λ c x e. let same = ap (λ (y : A × At). length y.1.rest) (same_thing (a, c) x e) in omega (arith, same);
  grows = λ c e. absurd cc;
}

cases_read : {A : Type 0} (o : Option A) → (o ≡ None) ⊎ ((x : A) × (o ≡ Some x))
cases_read None = inl refl
cases_read (Some x) = inr (x, refl)

module _ {A B : Type 0} (read : At → Option (A × At)) (f : A × At → Option (B × At)) (r : Grows read) (s : (a : A) → Grows (λ (d : At). f (a, d))) where
  abbrev both : At → Option (B × At)
  both c = read c >>= f

  then_stays : (c : At) (x : B × At) (more : List ℕ) → both c ≡ Some x → both (onto c more) ≡ Some (x.0, onto x.1 more)
  then_stays c x more e =
      elim (cases_read (read c)) [
        | inl none ↦ absurd cc
        | inr some ↦ let rest : f some.0 ≡ Some x = rw some.1 at e in
            rw (r.stays c some.0 more some.1) ((s some.0.0).stays some.0.1 x more rest)
      ]

  then_shrinks : (c : At) (x : B × At) → both c ≡ Some x → length x.1.rest ≤ length c.rest
  then_shrinks c x e =
      elim (cases_read (read c)) [
        | inl none ↦ absurd cc
        | inr some ↦ let rest : f some.0 ≡ Some x = rw some.1 at e in
            omega (arith, r.shrinks c some.0 some.1, (s some.0.0).shrinks some.0.1 x rest)
      ]

  grows_behind : (c : At) (x : A × At) → read c ≡ Some x → f x ≡ None → Grown both c
  grows_behind c x first e =
      let g = (s x.0).grows x.1 e in
      record { more = g.more; value = g.value; left = g.left; small = g.small; reads = rw (r.stays c x g.more first) g.reads; ends = g.ends }

  then_grows : (c : At) → both c ≡ None → Grown both c
  then_grows c e =
      elim (cases_read (read c)) [
        | inl none ↦
            let g = r.grows c none in
            elim (cases_read (f (g.value, g.left))) [
              | inl more_missing ↦
                  let h = grows_behind (onto c g.more) (g.value, g.left) g.reads more_missing in
                  record { more = g.more ++ h.more; value = h.value; left = h.left; small = IsBytes-append g.more h.more g.small h.small; reads = rw (← onto_twice c g.more h.more) h.reads; ends = h.ends }
              | inr some ↦
                  let less = (s g.value).shrinks g.left some.0 some.1 in
                  record {
                    more = g.more;
                    value = some.0.0;
                    left = some.0.1;
                    small = g.small;
                    reads = rw g.reads some.1;
                    ends = nil_from_length some.0.1.rest (omega (arith, less, ap length g.ends));
                  }
            ]
        | inr some ↦ let rest : f some.0 ≡ None = rw some.1 at e in grows_behind c some.0 some.1 rest
      ]

  pub then_grow : Grows both
  then_grow = record { stays = then_stays; shrinks = then_shrinks; grows = then_grows }

-- ---- the fields of arguments

text_grows : (n : ℕ) → Grows (text_at n)
unfolding text_at
text_grows n = then_grow (bytes_at n) _ (bytes_grow n) (λ field. value_grows (strip_last 0 field))

pub name_grows : (named : Bool) → Grows (name_at named)
unfolding name_at
name_grows false = value_grows None
name_grows true =
    then_grow (number_at 2) _ (number_grows 2) (λ len.
    then_grow (text_at len) _ (text_grows len) (λ name. value_grows (Some name)))

pub names_grow : (named : Bool) → Grows (names_at named)
unfolding names_at
names_grow false = value_grows (None, None)
names_grow true =
    then_grow (number_at 2) _ (number_grows 2) (λ name_len.
    then_grow (number_at 2) _ (number_grows 2) (λ unit_len.
    then_grow (text_at name_len) _ (text_grows name_len) (λ name.
    then_grow (text_at unit_len) _ (text_grows unit_len) (λ unit. value_grows (Some name, Some unit)))))

pub named_bytes_grow : (named : Bool) → Grows (named_bytes_at named)
unfolding named_bytes_at
named_bytes_grow named =
    then_grow (number_at 2) _ (number_grows 2) (λ len.
    then_grow (name_at named) _ (name_grows named) (λ name.
    then_grow (bytes_at len) _ (bytes_grow len) (λ bytes. value_grows (name, bytes))))

pub unsigned_grows : (width : Width) → Grows (unsigned_at width)
unfolding unsigned_at
unsigned_grows width = number_grows (byte_count width)

pub signed_grows : (width : Width) → Grows (signed_at width)
unfolding signed_at
signed_grows width = then_grow (number_at (byte_count width)) _ (number_grows (byte_count width)) (λ n. value_grows (cast_signed (int_type width) n))
