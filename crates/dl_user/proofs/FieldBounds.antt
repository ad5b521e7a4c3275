-- How many bytes the fields of a known length take.
use Rattle.std.proofs.Common.{◌≡◌, ℕ, ℤ, ◌+◌, ◌≤◌, false, ltb, List, length, Option, Some, None, ◌⊎◌, refl, ap, subst, arith, inl, inr}
use Rattle.std.proofs.lemmas.Bool.{le-ltb}
use Rattle.std.proofs.lemmas.List.{length-append}
use Rattle.dl_bytes.specs.Number.{At, bytes_at, number_at, ◌>>=◌}
use Rattle.dl_user.specs.Fields.{signed_at, app_at, unregister_app_at, context_at, unregister_context_at, setting_at, service_at, overflow_at}
use Rattle.dl_bytes.specs.Bytes.{IsBytes}
use Rattle.dl_user.specs.Reading.{little}
use Rattle.dl_user.proofs.Readers.{IsBytes-rest}
use Rattle.dl_user.proofs.FieldReaders.{Fields}
use Rattle.dl_user.proofs.Numbers.{AreBytes, IsNumber, IsSigned, bytes_field, long_field, byte_field, signed_field}

-- with n bytes the fields are there
pub record FieldsNeed {A : Type 0} (r : At → Option A) (n : ℕ) : Type 0 where
  pub enough : (bytes : List ℕ) → IsBytes bytes → n ≤ length bytes → r (little bytes) ≡ None → ⊥

bind_none : {A B : Type 0} (o : Option A) (f : A → Option B) → (o >>= f) ≡ None → (o ≡ None) ⊎ ((x : A) × (o ≡ Some x) × (f x ≡ None))
bind_none None f e = inl refl
bind_none (Some x) f e = inr (x, refl, e)

need_then : {A B : Type 0} (r : At → Option (A × At)) (k : A × At → Option B) (P : List ℕ → A → Type 0) (p q : ℕ)
    → Fields r P → ((text : List ℕ) (x : A) → P text x → length text ≤ p) → FieldsNeed r p → ((a : A) → FieldsNeed (λ c. k (a, c)) q) → FieldsNeed (λ c. r c >>= k) (p + q)
need_then r k P p q reads short first second = record {
  enough = λ bytes fits h e.
      elim (bind_none (r (little bytes)) k e) [
        | inl none ↦ first.enough bytes fits (omega arith) none
        | inr b ↦
            let t = reads.found bytes b.0.0 b.0.1 fits b.1 in
            let go : k (b.0.0, little b.0.1.rest) ≡ None = subst (λ (d : At). k (b.0.0, d) ≡ None) t.left b.2 in
            let parts = ap length t.parts in
            let left : q ≤ length b.0.1.rest = omega (arith, length-append t.text b.0.1.rest, short t.text b.0.0 t.spells) in
            (second b.0.0).enough b.0.1.rest (IsBytes-rest bytes t.text b.0.1.rest t.parts fits) left go
      ];
}

need_end : {A : Type 0} (k : At → A) → FieldsNeed (λ c. Some (k c)) 0
need_end k = record { enough = λ bytes fits h e. cc }

pub bytes_need : (n : ℕ) → FieldsNeed (bytes_at n) n
bytes_need n = record {
  enough = λ bytes fits h e.
      let there : ltb (length bytes) n ≡ false = le-ltb (length bytes) n h in
      let read = rw there at e in cc;
}

pub number_need : (n : ℕ) → FieldsNeed (number_at n) n
number_need n = record {
  enough = λ bytes fits h e.
      let there : ltb (length bytes) n ≡ false = le-ltb (length bytes) n h in
      let read = rw there at e in cc;
}

bytes_short : (n : ℕ) (text x : List ℕ) → AreBytes n text x → length text ≤ n
bytes_short n text x p = let same = ap length p.0 in omega (arith, p.1)

long_short : (text : List ℕ) (x : ℕ) → IsNumber 4 text x → length text ≤ 4
long_short text x p = let same = ap length p.0 in omega arith

byte_short : (text : List ℕ) (x : ℕ) → IsNumber 1 text x → length text ≤ 1
byte_short text x p = let same = ap length p.0 in omega arith

signed_short : (text : List ℕ) (z : ℤ) → IsSigned text z → length text ≤ 1
signed_short text z p = let same = ap length p.0 in omega arith

-- the first field, and then the others
then_id : {B : Type 0} (k : List ℕ × At → Option B) (q : ℕ) → ((a : List ℕ) → FieldsNeed (λ c. k (a, c)) q) → FieldsNeed (λ c. bytes_at 4 c >>= k) (4 + q)
then_id k q second = need_then _ k (AreBytes 4) 4 q (bytes_field 4) (bytes_short 4) (bytes_need 4) second

then_long : {B : Type 0} (k : ℕ × At → Option B) (q : ℕ) → ((a : ℕ) → FieldsNeed (λ c. k (a, c)) q) → FieldsNeed (λ c. number_at 4 c >>= k) (4 + q)
then_long k q second = need_then _ k (IsNumber 4) 4 q long_field long_short (number_need 4) second

then_byte : {B : Type 0} (k : ℕ × At → Option B) (q : ℕ) → ((a : ℕ) → FieldsNeed (λ c. k (a, c)) q) → FieldsNeed (λ c. number_at 1 c >>= k) (1 + q)
then_byte k q second = need_then _ k (IsNumber 1) 1 q byte_field byte_short (number_need 1) second

signed_need : FieldsNeed signed_at 1
unfolding signed_at
signed_need = then_byte _ 0 (λ byte. need_end _)

then_signed : {B : Type 0} (k : ℤ × At → Option B) (q : ℕ) → ((a : ℤ) → FieldsNeed (λ c. k (a, c)) q) → FieldsNeed (λ c. signed_at c >>= k) (1 + q)
then_signed k q second = need_then _ k IsSigned 1 q signed_field signed_short signed_need second

pub app_need : FieldsNeed app_at 12
unfolding app_at
app_need = then_id _ 8 (λ apid. then_long _ 4 (λ pid. then_long _ 0 (λ len. need_end _)))

pub unregister_app_need : FieldsNeed unregister_app_at 8
unfolding unregister_app_at
unregister_app_need = then_id _ 4 (λ apid. then_long _ 0 (λ pid. need_end _))

pub context_need : FieldsNeed context_at 22
unfolding context_at
context_need = then_id _ 18 (λ apid. then_id _ 14 (λ ctid. then_long _ 10 (λ position. then_signed _ 9 (λ level. then_signed _ 8 (λ trace.
    then_long _ 4 (λ pid. then_long _ 0 (λ len. need_end _)))))))

pub unregister_context_need : FieldsNeed unregister_context_at 12
unfolding unregister_context_at
unregister_context_need = then_id _ 8 (λ apid. then_id _ 4 (λ ctid. then_long _ 0 (λ pid. need_end _)))

pub setting_need : FieldsNeed setting_at 6
unfolding setting_at
setting_need = then_byte _ 5 (λ level. then_signed _ 4 (λ trace. then_long _ 0 (λ position. need_end _)))

pub service_need : FieldsNeed service_at 12
unfolding service_at
service_need = then_long _ 8 (λ position. then_long _ 4 (λ service. then_long _ 0 (λ len. need_end _)))

pub overflow_need : FieldsNeed overflow_at 8
unfolding overflow_at
overflow_need = then_long _ 4 (λ counter. then_id _ 0 (λ apid. need_end _))
