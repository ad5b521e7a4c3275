-- What is read as a field is in its form, and what is in its form is read.
use Rattle.std.proofs.Common.{◌≡◌, ℕ, ℤ, ◌+◌, ◌-◌, ◌<◌, Bool, true, false, cond, List, [], ◌∷◌, ◌++◌, length, get_or, take, Option, Some, None, refl, sym, ap, subst, ◌∙◌, append_assoc, arith, inl, inr}
use Rattle.std.specs.Prelude.{is_some}
use Rattle.std.specs.Int.{cast_signed}
use Rattle.std.specs.Io.BufRead.{strip_last, ends_with_byte}
use Rattle.std.proofs.lemmas.Bool.Decides.{nat_tests}
use Rattle.std.proofs.lemmas.List.{take_at, take_more, take_all, get_or_at, length-append}
use Rattle.dl_lemmas.proofs.Options.{same_thing}
use Rattle.dl_lemmas.proofs.Bools.{bool_cases}
use Rattle.dl_bytes.specs.declared.cursor.Order.{Order}
use Rattle.dl_bytes.specs.Number.{At, bytes_at, number_at, ◌>>=◌}
use Rattle.dl_bytes.proofs.Number.{bind_some}
use Rattle.dl_args.specs.declared.width.Width.{Width}
use Rattle.dl_args.specs.Width.{byte_count, int_type}
use Rattle.dl_args.specs.Fields.{text_at, name_at, names_at, named_bytes_at, unsigned_at, signed_at}
use Rattle.dl_args.specs.ReadForm.{◌before◌, Is, IsNumber, IsSigned, IsText, IsLength, IsName, AreNames}
use Rattle.dl_args.proofs.Parts.{TakesForm, TakesForm-then, takes_none, at_front, bytes_take, bytes_again, number_takes, number_again}

-- ---- texts

closed : (field : List ℕ) → ends_with_byte 0 field ≡ true → field ≡ take (length field - 1) field ++ 0 ∷ []
closed field ends =
    let long : 0 < length field = grind (arith, nat_tests) in
    let last : get_or field (length field - 1) 0 ≡ 0 = grind (arith, nat_tests) in
    let more = take_more field (length field - 1) 0 (omega arith) in
    let whole : take (length field - 1 + 1) field ≡ field = take_all (length field - 1 + 1) field (omega arith) in
    sym whole ∙ more ∙ ap (λ (b : ℕ). take (length field - 1) field ++ b ∷ []) last

ends_closed : (text : List ℕ) → ends_with_byte 0 (text ++ 0 ∷ []) ≡ true
ends_closed text =
    let len : length (text ++ 0 ∷ []) ≡ length text + 1 = length-append text (0 ∷ []) in
    let last : get_or (text ++ 0 ∷ []) (length (text ++ 0 ∷ []) - 1) 0 ≡ 0 = get_or_at text 0 [] 0 (length (text ++ 0 ∷ []) - 1) (omega (arith, len)) in
    grind (arith, nat_tests)

strip-closed : (text : List ℕ) → strip_last 0 (text ++ 0 ∷ []) ≡ text
strip-closed text =
    let len : length (text ++ 0 ∷ []) ≡ length text + 1 = length-append text (0 ∷ []) in
    let front : take (length (text ++ 0 ∷ []) - 1) (text ++ 0 ∷ []) ≡ text = take_at text (0 ∷ []) (length (text ++ 0 ∷ []) - 1) (omega (arith, len)) in
    ap (λ (b : Bool). cond b (take (length (text ++ 0 ∷ []) - 1) (text ++ 0 ∷ [])) (text ++ 0 ∷ [])) (ends_closed text) ∙ front

pub text_stripped : (field : List ℕ) → IsText (strip_last 0 field) field
text_stripped field =
    elim (bool_cases (ends_with_byte 0 field)) [
      | inl ends ↦ inl (rw ends (closed field ends))
      | inr open_ended ↦ inr (rw open_ended refl, λ front e. let ends : ends_with_byte 0 field ≡ true = rw e (ends_closed front) in absurd cc)
    ]

pub stripped_text : (text field : List ℕ) → IsText text field → strip_last 0 field ≡ text
stripped_text text field (inl e) = rw e (strip-closed text)
stripped_text text field (inr (e, whole)) =
    elim (bool_cases (ends_with_byte 0 field)) [
      | inl ends ↦ absurd (whole (take (length field - 1) field) (closed field ends))
      | inr open_ended ↦ rw open_ended e
    ]

pub text_takes : (order : Order) (n : ℕ) (c : At) (x : List ℕ × At) → c.order ≡ order → text_at n c ≡ Some x → (field : List ℕ) × IsText x.0 field × TakesForm order (Is field) c x.1 × (length field ≡ n)
unfolding text_at
text_takes order n c x same e =
    let b = bind_some (bytes_at n c) (λ field. Some (strip_last 0 field.0, field.1)) x e in
    let t = bytes_take order n c b.0 same b.1 in
    subst (λ (y : List ℕ × At). (field : List ℕ) × IsText y.0 field × TakesForm order (Is field) c y.1 × (length field ≡ n)) (same_thing (strip_last 0 b.0.0, b.0.1) x b.2) (b.0.0, text_stripped b.0.0, t.0, t.1)

pub text_again : (order : Order) (text field rest : List ℕ) → IsText text field → text_at (length field) (at_front order (field ++ rest)) ≡ Some (text, at_front order rest)
unfolding text_at
text_again order text field rest form = rw (bytes_again order (length field) field rest refl, stripped_text text field form) refl

-- a length that stands before its field
length_is : (order : Order) (n : ℕ) (field : List ℕ) (c d : At) → length field ≡ n → TakesForm order (IsNumber order 2 n) c d → TakesForm order (IsLength order field) c d
length_is order n field c d len t = record { front = t.front; form = record { len = t.form.len; value = t.form.value ∙ sym len }; parts = t.parts; same = t.same }

-- ---- names

pub name_takes : (order : Order) (named : Bool) (c : At) (x : Option (List ℕ) × At) → c.order ≡ order → name_at named c ≡ Some x → TakesForm order (IsName order x.0) c x.1 × (is_some x.0 ≡ named)
unfolding name_at
name_takes order false c x same e =
    subst (λ (y : Option (List ℕ) × At). TakesForm order (IsName order y.0) c y.1 × (is_some y.0 ≡ false)) (same_thing (None, c) x e) (takes_none order c same, refl)
name_takes order true c x same e =
    let a = bind_some (number_at 2 c) (λ len. text_at len.0 len.1 >>= λ name. Some (Some name.0, name.1)) x e in
    let b = bind_some (text_at a.0.0 a.0.1) (λ name. Some (Some name.0, name.1)) x a.2 in
    let t0 = number_takes order 2 c a.0 same a.1 in
    let t1 = text_takes order a.0.0 a.0.1 b.0 t0.same b.1 in
    let len : TakesForm order (IsLength order t1.0) c a.0.1 = length_is order a.0.0 t1.0 c a.0.1 t1.3 t0 in
    let both = TakesForm-then order c a.0.1 b.0.1 len t1.2 in
    let named : TakesForm order (IsName order (Some b.0.0)) c b.0.1 = record { front = both.front; form = (t1.0, t1.1, both.form); parts = both.parts; same = both.same } in
    subst (λ (y : Option (List ℕ) × At). TakesForm order (IsName order y.0) c y.1 × (is_some y.0 ≡ true)) (same_thing (Some b.0.0, b.0.1) x b.2) (named, refl)

pub name_again : (order : Order) (name : Option (List ℕ)) (front rest : List ℕ) → IsName order name front → name_at (is_some name) (at_front order (front ++ rest)) ≡ Some (name, at_front order rest)
unfolding name_at
name_again order None front rest form = rw form refl
name_again order (Some name) front rest form =
    let b = form.2 in
    let regrouped : front ++ rest ≡ b.front ++ (form.0 ++ rest) = ap (λ (f : List ℕ). f ++ rest) (b.parts ∙ ap (λ (f : List ℕ). b.front ++ f) b.second) ∙ append_assoc b.front form.0 rest in
    ap (λ (r : List ℕ). name_at true (at_front order r)) regrouped ∙ rw (number_again order 2 (length form.0) b.front (form.0 ++ rest) b.first, text_again order name form.0 rest form.1) refl

names_joined : (order : Order) (name unit field other : List ℕ) (c l m a b : At) → IsText name field → IsText unit other → TakesForm order (IsLength order field) c l → TakesForm order (IsLength order other) l m → TakesForm order (Is field) m a → TakesForm order (Is other) a b
    → TakesForm order (AreNames order (Some name) (Some unit)) c b
names_joined order name unit field other c l m a b name_is unit_is t0 t1 t2 t3 =
    let all = TakesForm-then order c l b t0 (TakesForm-then order l m b t1 (TakesForm-then order m a b t2 t3)) in
    record { front = all.front; form = (field, other, name_is, unit_is, all.form); parts = all.parts; same = all.same }

pub names_take : (order : Order) (named : Bool) (c : At) (x : (Option (List ℕ) × Option (List ℕ)) × At) → c.order ≡ order → names_at named c ≡ Some x → TakesForm order (AreNames order x.0.0 x.0.1) c x.1 × (is_some x.0.0 ≡ named)
unfolding names_at
names_take order false c x same e =
    subst (λ (y : (Option (List ℕ) × Option (List ℕ)) × At). TakesForm order (AreNames order y.0.0 y.0.1) c y.1 × (is_some y.0.0 ≡ false)) (same_thing ((None, None), c) x e) (takes_none order c same, refl)
names_take order true c x same e =
    let l = bind_some (number_at 2 c) (λ name_len. number_at 2 name_len.1 >>= λ unit_len. text_at name_len.0 unit_len.1 >>= λ name. text_at unit_len.0 name.1 >>= λ unit. Some ((Some name.0, Some unit.0), unit.1)) x e in
    let m = bind_some (number_at 2 l.0.1) (λ unit_len. text_at l.0.0 unit_len.1 >>= λ name. text_at unit_len.0 name.1 >>= λ unit. Some ((Some name.0, Some unit.0), unit.1)) x l.2 in
    let a = bind_some (text_at l.0.0 m.0.1) (λ name. text_at m.0.0 name.1 >>= λ unit. Some ((Some name.0, Some unit.0), unit.1)) x m.2 in
    let b = bind_some (text_at m.0.0 a.0.1) (λ unit. Some ((Some a.0.0, Some unit.0), unit.1)) x a.2 in
    let t0 = number_takes order 2 c l.0 same l.1 in
    let t1 = number_takes order 2 l.0.1 m.0 t0.same m.1 in
    let t2 = text_takes order l.0.0 m.0.1 a.0 t1.same a.1 in
    let t3 = text_takes order m.0.0 a.0.1 b.0 t2.2.same b.1 in
    let name_len : TakesForm order (IsLength order t2.0) c l.0.1 = length_is order l.0.0 t2.0 c l.0.1 t2.3 t0 in
    let unit_len : TakesForm order (IsLength order t3.0) l.0.1 m.0.1 = length_is order m.0.0 t3.0 l.0.1 m.0.1 t3.3 t1 in
    let named = names_joined order a.0.0 b.0.0 t2.0 t3.0 c l.0.1 m.0.1 a.0.1 b.0.1 t2.1 t3.1 name_len unit_len t2.2 t3.2 in
    subst (λ (y : (Option (List ℕ) × Option (List ℕ)) × At). TakesForm order (AreNames order y.0.0 y.0.1) c y.1 × (is_some y.0.0 ≡ true)) (same_thing ((Some a.0.0, Some b.0.0), b.0.1) x b.2) (named, refl)

pub names_again : (order : Order) (name unit : Option (List ℕ)) (front rest : List ℕ) → AreNames order name unit front → names_at (is_some name) (at_front order (front ++ rest)) ≡ Some ((name, unit), at_front order rest)
unfolding names_at
names_again order None None front rest form = rw form refl
names_again order None (Some unit) front rest form = absurd form
names_again order (Some name) None front rest form = absurd form
names_again order (Some name) (Some unit) front rest form =
    let field = form.0 in
    let other = form.1 in
    let b = form.4 in
    let c = b.second in
    let d = c.second in
    let spelled : front ≡ b.front ++ (c.front ++ (field ++ other)) =
    b.parts ∙ ap (λ (f : List ℕ). b.front ++ f) (c.parts ∙ ap (λ (f : List ℕ). c.front ++ f) (d.parts ∙ ap (λ (f : List ℕ). f ++ d.back) d.first ∙ ap (λ (f : List ℕ). field ++ f) d.second)) in
    let regrouped : front ++ rest ≡ b.front ++ (c.front ++ (field ++ (other ++ rest))) = ap (λ (f : List ℕ). f ++ rest) spelled ∙ simp append_assoc in
    ap (λ (r : List ℕ). names_at true (at_front order r)) regrouped
    ∙ rw (number_again order 2 (length field) b.front (c.front ++ (field ++ (other ++ rest))) b.first, number_again order 2 (length other) c.front (field ++ (other ++ rest)) c.first, text_again order name field (other ++ rest) form.2, text_again order unit other rest form.3) refl

-- bytes with a name between their length and them
pub named_bytes_take : (order : Order) (named : Bool) (c : At) (x : (Option (List ℕ) × List ℕ) × At) → c.order ≡ order → named_bytes_at named c ≡ Some x → TakesForm order (IsLength order x.0.1 before IsName order x.0.0 before Is x.0.1) c x.1 × (is_some x.0.0 ≡ named)
unfolding named_bytes_at
named_bytes_take order named c x same e =
    let l = bind_some (number_at 2 c) (λ len. name_at named len.1 >>= λ name. bytes_at len.0 name.1 >>= λ bytes. Some ((name.0, bytes.0), bytes.1)) x e in
    let a = bind_some (name_at named l.0.1) (λ name. bytes_at l.0.0 name.1 >>= λ bytes. Some ((name.0, bytes.0), bytes.1)) x l.2 in
    let b = bind_some (bytes_at l.0.0 a.0.1) (λ bytes. Some ((a.0.0, bytes.0), bytes.1)) x a.2 in
    let t0 = number_takes order 2 c l.0 same l.1 in
    let t1 = name_takes order named l.0.1 a.0 t0.same a.1 in
    let t2 = bytes_take order l.0.0 a.0.1 b.0 t1.0.same b.1 in
    let len : TakesForm order (IsLength order b.0.0) c l.0.1 = length_is order l.0.0 b.0.0 c l.0.1 t2.1 t0 in
    let all = TakesForm-then order c l.0.1 b.0.1 len (TakesForm-then order l.0.1 a.0.1 b.0.1 t1.0 t2.0) in
    subst (λ (y : (Option (List ℕ) × List ℕ) × At). TakesForm order (IsLength order y.0.1 before IsName order y.0.0 before Is y.0.1) c y.1 × (is_some y.0.0 ≡ named)) (same_thing ((a.0.0, b.0.0), b.0.1) x b.2) (all, t1.1)

pub named_bytes_again : (order : Order) (name : Option (List ℕ)) (bytes front rest : List ℕ) → (IsLength order bytes before IsName order name before Is bytes) front → named_bytes_at (is_some name) (at_front order (front ++ rest)) ≡ Some ((name, bytes), at_front order rest)
unfolding named_bytes_at
named_bytes_again order name bytes front rest form =
    let c = form.second in
    let spelled : front ≡ form.front ++ (c.front ++ bytes) = form.parts ∙ ap (λ (f : List ℕ). form.front ++ f) (c.parts ∙ ap (λ (f : List ℕ). c.front ++ f) c.second) in
    let regrouped : front ++ rest ≡ form.front ++ (c.front ++ (bytes ++ rest)) = ap (λ (f : List ℕ). f ++ rest) spelled ∙ simp append_assoc in
    ap (λ (r : List ℕ). named_bytes_at (is_some name) (at_front order r)) regrouped
    ∙ rw (number_again order 2 (length bytes) form.front (c.front ++ (bytes ++ rest)) form.first, name_again order name c.front (bytes ++ rest) c.first, bytes_again order (length bytes) bytes rest refl) refl

-- ---- numbers

pub unsigned_takes : (order : Order) (width : Width) (c : At) (x : ℕ × At) → c.order ≡ order → unsigned_at width c ≡ Some x → TakesForm order (IsNumber order (byte_count width) x.0) c x.1
unfolding unsigned_at
unsigned_takes order width c x same e = number_takes order (byte_count width) c x same e

pub unsigned_again : (order : Order) (width : Width) (n : ℕ) (front rest : List ℕ) → IsNumber order (byte_count width) n front → unsigned_at width (at_front order (front ++ rest)) ≡ Some (n, at_front order rest)
unfolding unsigned_at
unsigned_again order width n front rest form = number_again order (byte_count width) n front rest form

pub signed_takes : (order : Order) (width : Width) (c : At) (x : ℤ × At) → c.order ≡ order → signed_at width c ≡ Some x → TakesForm order (IsSigned order width x.0) c x.1
unfolding signed_at
signed_takes order width c x same e =
    let a = bind_some (number_at (byte_count width) c) (λ n. Some (cast_signed (int_type width) n.0, n.1)) x e in
    let t = number_takes order (byte_count width) c a.0 same a.1 in
    let made : TakesForm order (IsSigned order width (cast_signed (int_type width) a.0.0)) c a.0.1 = record { front = t.front; form = record { bits = a.0.0; number = t.form; value = refl }; parts = t.parts; same = t.same } in
    subst (λ (y : ℤ × At). TakesForm order (IsSigned order width y.0) c y.1) (same_thing (cast_signed (int_type width) a.0.0, a.0.1) x a.2) made

pub signed_again : (order : Order) (width : Width) (z : ℤ) (front rest : List ℕ) → IsSigned order width z front → signed_at width (at_front order (front ++ rest)) ≡ Some (z, at_front order rest)
unfolding signed_at
signed_again order width z front rest form = rw (number_again order (byte_count width) form.bits front rest form.number, form.value) refl
