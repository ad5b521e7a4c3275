-- Readers and the texts that they read: what is read was spelled, what is spelled is read whatever follows, and a fault
-- stays whatever follows.
use Rattle.std.proofs.Common.{◌≡◌, ℕ, ◌+◌, Bool, true, false, cond, List, [], ◌++◌, length, Ok, Err, ◌⊎◌, refl, sym, ap, subst, ◌∙◌, append_assoc, inl, inr}
use Rattle.std.proofs.lemmas.List.{get_or-append-add}
use Rattle.dl_bytes.specs.Number.{At}
use Rattle.dl_user.specs.declared.fault.UserFault.{UserFault}
use Rattle.dl_user.specs.declared.fault.Stop.{Stop}
use Rattle.dl_user.specs.declared.fault.Stop.TheVariants.{Bad}
use Rattle.dl_user.specs.Reading.{little, Reading, ◌>>=◌}
use Rattle.dl_bytes.specs.Bytes.{IsBytes}

pub IsBytes-rest : (bytes text rest : List ℕ) → bytes ≡ text ++ rest → IsBytes bytes → IsBytes rest
IsBytes-rest bytes text rest e h i = rw (← get_or-append-add text rest i 0, ← e) (h (length text + i))

-- a text that spells the value stands at the front
pub record TakesSpelled {A : Type 0} (P : List ℕ → A → Type 0) (bytes : List ℕ) (x : A) (c : At) : Type 0 where
  pub text : List ℕ
  pub parts : bytes ≡ text ++ c.rest
  pub left : c ≡ little c.rest
  pub spells : P text x

pub record Reads {A : Type 0} (r : At → Reading (A × At)) (P : List ℕ → A → Type 0) : Type 0 where
  pub again : (text rest : List ℕ) (x : A) → P text x → r (little (text ++ rest)) ≡ Ok (x, little rest)
  pub found : (bytes : List ℕ) (x : A) (c : At) → IsBytes bytes → r (little bytes) ≡ Ok (x, c) → TakesSpelled P bytes x c
  pub bad : (bytes more : List ℕ) (fault : UserFault) → IsBytes bytes → r (little bytes) ≡ Err (Bad fault) → r (little (bytes ++ more)) ≡ Err (Bad fault)

-- a text of two parts, of which the second may depend on the first
pub record Then {A B : Type 0} (P : List ℕ → A → Type 0) (Q : A → List ℕ → B → Type 0) (text : List ℕ) (y : B) : Type 0 where
  pub first : A
  pub front : List ℕ
  pub back : List ℕ
  pub parts : text ≡ front ++ back
  pub front_spells : P front first
  pub back_spells : Q first back y

abbrev done : {A : Type 0} → A → Reading A
done x = Ok x

pub ok_is : {A : Type 0} (x y : A) → done x ≡ done y → x ≡ y
ok_is x y e = cc

pub bind_ok : {A B : Type 0} (r : Reading A) (f : A → Reading B) (y : B) → (r >>= f) ≡ Ok y → (x : A) × (r ≡ Ok x) × (f x ≡ Ok y)
bind_ok (Ok x) f y e = (x, refl, e)
bind_ok (Err d) f y e = absurd cc

pub bind_bad : {A B : Type 0} (r : Reading A) (f : A → Reading B) (d : Stop) → (r >>= f) ≡ Err d → (r ≡ Err d) ⊎ ((x : A) × (r ≡ Ok x) × (f x ≡ Err d))
bind_bad (Ok x) f d e = inr (x, refl, e)
bind_bad (Err s) f d e = inl cc

module _ {A B : Type 0} (r : At → Reading (A × At)) (k : A × At → Reading (B × At)) (P : List ℕ → A → Type 0) (Q : A → List ℕ → B → Type 0)
    (first : Reads r P) (second : (a : A) → Reads (λ c. k (a, c)) (Q a)) where
  then_again : (text rest : List ℕ) (y : B) → Then P Q text y → (r (little (text ++ rest)) >>= k) ≡ Ok (y, little rest)
  then_again text rest y t =
      let regrouped : text ++ rest ≡ t.front ++ (t.back ++ rest) = rw t.parts (append_assoc t.front t.back rest) in
      rw (regrouped, first.again t.front (t.back ++ rest) t.first t.front_spells) ((second t.first).again t.back rest y t.back_spells)

  then_found : (bytes : List ℕ) (y : B) (c : At) → IsBytes bytes → (r (little bytes) >>= k) ≡ Ok (y, c) → TakesSpelled (Then P Q) bytes y c
  then_found bytes y c fits e =
      let b = bind_ok (r (little bytes)) k (y, c) e in
      let t = first.found bytes b.0.0 b.0.1 fits b.1 in
      let go : k (b.0.0, little b.0.1.rest) ≡ Ok (y, c) = subst (λ (d : At). k (b.0.0, d) ≡ Ok (y, c)) t.left b.2 in
      let u = (second b.0.0).found b.0.1.rest y c (IsBytes-rest bytes t.text b.0.1.rest t.parts fits) go in
      record {
        text = t.text ++ u.text;
        parts = t.parts ∙ ap (λ (x : List ℕ). t.text ++ x) u.parts ∙ sym (append_assoc t.text u.text c.rest);
        left = u.left;
        spells = record { first = b.0.0; front = t.text; back = u.text; parts = refl; front_spells = t.spells; back_spells = u.spells };
      }

  then_bad : (bytes more : List ℕ) (fault : UserFault) → IsBytes bytes → (r (little bytes) >>= k) ≡ Err (Bad fault) → (r (little (bytes ++ more)) >>= k) ≡ Err (Bad fault)
  then_bad bytes more fault fits e =
      elim (bind_bad (r (little bytes)) k (Bad fault) e) [
        | inl bad ↦ rw (first.bad bytes more fault fits bad) refl
        | inr b ↦
            let t = first.found bytes b.0.0 b.0.1 fits b.1 in
            let go : k (b.0.0, little b.0.1.rest) ≡ Err (Bad fault) = subst (λ (d : At). k (b.0.0, d) ≡ Err (Bad fault)) t.left b.2 in
            let regrouped : bytes ++ more ≡ t.text ++ (b.0.1.rest ++ more) = ap (λ (x : List ℕ). x ++ more) t.parts ∙ append_assoc t.text b.0.1.rest more in
            rw (regrouped, first.again t.text (b.0.1.rest ++ more) b.0.0 t.spells)
            ((second b.0.0).bad b.0.1.rest more fault (IsBytes-rest bytes t.text b.0.1.rest t.parts fits) go)
      ]

  pub reads_then : Reads (λ c. r c >>= k) (Then P Q)
  reads_then = record { again = then_again; found = then_found; bad = then_bad }

-- the same reader with its texts said otherwise
pub reads_as : {A : Type 0} (r : At → Reading (A × At)) (P Q : List ℕ → A → Type 0) → ((text : List ℕ) (x : A) → P text x → Q text x) → ((text : List ℕ) (x : A) → Q text x → P text x) → Reads r P → Reads r Q
reads_as r P Q to from h = record {
  again = λ text rest x q. h.again text rest x (from text x q);
  found = λ bytes x c fits e. let t = h.found bytes x c fits e in record { text = t.text; parts = t.parts; left = t.left; spells = to t.text x t.spells };
  bad = h.bad;
}

-- the end of a reader
pub reads_end : {A : Type 0} (y : A) → Reads (λ c. Ok (y, c)) (λ text x. (text ≡ []) × (x ≡ y))
reads_end {A = A} y = record {
  again = λ text rest x p. rw (p.0, p.1) refl;
  found = λ bytes x c fits e.
      let made : A × At = (y, little bytes) in
      let got : A × At = (x, c) in
      let same : made ≡ got = ok_is made got e in
      let x-is : y ≡ x = ap (λ (p : A × At). p.0) same in
      let c-is : little bytes ≡ c = ap (λ (p : A × At). p.1) same in
      record { text = []; parts = ap (λ (d : At). d.rest) c-is; left = rw (← c-is) refl; spells = (refl, sym x-is) };
  bad = λ bytes more fault fits e. absurd cc;
}

-- a reader that refuses, where no text is to be read
pub reads_refuse : {A : Type 0} (fault : UserFault) (P : List ℕ → A → Type 0) → ((text : List ℕ) (x : A) → P text x → ⊥) → Reads (λ c. Err (Bad fault)) P
reads_refuse fault P never = record {
  again = λ text rest x p. absurd (never text x p);
  found = λ bytes x c fits e. absurd cc;
  bad = λ bytes more other fits e. e;
}

-- a reader that was chosen
pub reads_choice : {A : Type 0} (b : Bool) (r s : At → Reading (A × At)) (P : List ℕ → A → Type 0) → (b ≡ true → Reads r P) → (b ≡ false → Reads s P) → Reads (λ c. cond b (r c) (s c)) P
reads_choice true r s P chosen other = chosen refl
reads_choice false r s P chosen other = other refl
