-- Readers of fields of a known length, and the texts that they read.
use Rattle.std.proofs.Common.{◌≡◌, ℕ, List, [], ◌++◌, Option, Some, None, Ok, Err, refl, sym, ap, subst, ◌∙◌, append_assoc}
use Rattle.dl_bytes.specs.Number.{At, ◌>>=◌}
use Rattle.dl_bytes.proofs.Number.{bind_some}
use Rattle.dl_user.specs.declared.fault.UserFault.{UserFault}
use Rattle.dl_user.specs.declared.fault.Stop.TheVariants.{Bad}
use Rattle.dl_user.specs.Reading.{little, wait}
use Rattle.dl_bytes.specs.Bytes.{IsBytes}
use Rattle.dl_user.proofs.Readers.{IsBytes-rest, TakesSpelled, Then, Reads}

pub record Fields {A : Type 0} (r : At → Option (A × At)) (P : List ℕ → A → Type 0) : Type 0 where
  pub again : (text rest : List ℕ) (x : A) → P text x → r (little (text ++ rest)) ≡ Some (x, little rest)
  pub found : (bytes : List ℕ) (x : A) (c : At) → IsBytes bytes → r (little bytes) ≡ Some (x, c) → TakesSpelled P bytes x c

module _ {A B : Type 0} (r : At → Option (A × At)) (k : A × At → Option (B × At)) (P : List ℕ → A → Type 0) (Q : A → List ℕ → B → Type 0)
    (first : Fields r P) (second : (a : A) → Fields (λ c. k (a, c)) (Q a)) where
  both_again : (text rest : List ℕ) (y : B) → Then P Q text y → (r (little (text ++ rest)) >>= k) ≡ Some (y, little rest)
  both_again text rest y t =
      let regrouped : text ++ rest ≡ t.front ++ (t.back ++ rest) = rw t.parts (append_assoc t.front t.back rest) in
      rw (regrouped, first.again t.front (t.back ++ rest) t.first t.front_spells) ((second t.first).again t.back rest y t.back_spells)

  both_found : (bytes : List ℕ) (y : B) (c : At) → IsBytes bytes → (r (little bytes) >>= k) ≡ Some (y, c) → TakesSpelled (Then P Q) bytes y c
  both_found bytes y c fits e =
      let b = bind_some (r (little bytes)) k (y, c) e in
      let t = first.found bytes b.0.0 b.0.1 fits b.1 in
      let go : k (b.0.0, little b.0.1.rest) ≡ Some (y, c) = subst (λ (d : At). k (b.0.0, d) ≡ Some (y, c)) t.left b.2 in
      let u = (second b.0.0).found b.0.1.rest y c (IsBytes-rest bytes t.text b.0.1.rest t.parts fits) go in
      record {
        text = t.text ++ u.text;
        parts = t.parts ∙ ap (λ (x : List ℕ). t.text ++ x) u.parts ∙ sym (append_assoc t.text u.text c.rest);
        left = u.left;
        spells = record { first = b.0.0; front = t.text; back = u.text; parts = refl; front_spells = t.spells; back_spells = u.spells };
      }

  pub fields_then : Fields (λ c. r c >>= k) (Then P Q)
  fields_then = record { again = both_again; found = both_found }

-- a reader of fields with its texts said otherwise
pub fields_as : {A : Type 0} (r : At → Option (A × At)) (P Q : List ℕ → A → Type 0) → ((text : List ℕ) (x : A) → P text x → Q text x) → ((text : List ℕ) (x : A) → Q text x → P text x) → Fields r P → Fields r Q
fields_as r P Q to from h = record {
  again = λ text rest x q. h.again text rest x (from text x q);
  found = λ bytes x c fits e. let t = h.found bytes x c fits e in record { text = t.text; parts = t.parts; left = t.left; spells = to t.text x t.spells };
}

abbrev given : {A : Type 0} → A → Option A
given x = Some x

pub some_is : {A : Type 0} (x y : A) → given x ≡ given y → x ≡ y
some_is x y e = cc

-- the end of a reader of fields
pub fields_end : {A : Type 0} (y : A) → Fields (λ c. Some (y, c)) (λ text x. (text ≡ []) × (x ≡ y))
fields_end {A = A} y = record {
  again = λ text rest x p. rw (p.0, p.1) refl;
  found = λ bytes x c fits e.
      let made : A × At = (y, little bytes) in
      let got : A × At = (x, c) in
      let same : made ≡ got = some_is made got e in
      let x-is : y ≡ x = ap (λ (p : A × At). p.0) same in
      let c-is : little bytes ≡ c = ap (λ (p : A × At). p.1) same in
      record { text = []; parts = ap (λ (d : At). d.rest) c-is; left = rw (← c-is) refl; spells = (refl, sym x-is) };
}

pub wait_some : {A : Type 0} (o : Option A) (x : A) → wait o ≡ Ok x → o ≡ Some x
wait_some None x e = absurd cc
wait_some (Some y) x e = cc

pub wait_bad : {A : Type 0} (o : Option A) (fault : UserFault) → wait o ≡ Err (Bad fault) → ⊥
wait_bad None fault e = cc
wait_bad (Some y) fault e = cc

-- fields that are waited for
pub reads_wait : {A : Type 0} (r : At → Option (A × At)) (P : List ℕ → A → Type 0) → Fields r P → Reads (λ c. wait (r c)) P
reads_wait r P h = record {
  again = λ text rest x p. rw (h.again text rest x p) refl;
  found = λ bytes x c fits e. h.found bytes x c fits (wait_some (r (little bytes)) (x, c) e);
  bad = λ bytes more fault fits e. absurd (wait_bad (r (little bytes)) fault e);
}
