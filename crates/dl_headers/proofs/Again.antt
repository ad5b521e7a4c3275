-- What was written is read again.
use Rattle.std.proofs.Common.{◌≡◌, ℕ, ◌+◌, ◌*◌, ◌/◌, ◌%◌, ◌^◌, ◌<◌, Bool, true, false, ltb, List, [], ◌∷◌, ◌++◌, length, get_or, Option, Some, None, refl, sym, ap, subst, ◌∙◌, append_assoc, length-append, is_some, arith}
use Rattle.std.specs.Prelude.{IfSome}
use Rattle.std.proofs.Props.{props}
use Rattle.std.proofs.lemmas.Bool.{le-ltb}
use Rattle.std.proofs.lemmas.List.{take_at, drop_at}
use Rattle.std.proofs.lemmas.Option.{same_Some}
use Rattle.dl_bytes.specs.Htyp.{has_ecu, has_session, has_ticks}
use Rattle.dl_bytes.specs.Number.{At, Gives, bytes_at}
use Rattle.dl_bytes.specs.declared.cursor.Order.{Order}
use Rattle.dl_bytes.specs.declared.cursor.Cursor.{Cursor}
use Rattle.dl_headers.specs.declared.header.Standard.{Standard}
use Rattle.dl_headers.specs.declared.header.Extended.{Extended}
use Rattle.dl_headers.specs.Header.{optional, extended_header, IsExtended}

abbrev pub pair : {A B : Type 0} → A → B → A × B
pair a x = (a, x)

pub both : {A B : Type 0} {a b : A} {x y : B} → a ≡ b → x ≡ y → pair a x ≡ pair b y
both {b = b} {x = x} p q = ap (λ a. pair a x) p ∙ ap (λ y. pair b y) q

-- an id of four bytes at the front
id_at_front : (id rest : List ℕ) (order : Order) → length id ≡ 4 → bytes_at 4 (record { rest = id ++ rest; order = order }) ≡ Some (id, record { rest = rest; order = order })
id_at_front id rest order len =
    let long : ltb (length (id ++ rest)) 4 ≡ false = le-ltb _ _ (omega (arith, length-append id rest)) in
    rw (long, take_at id rest 4 len, drop_at id rest 4 len) refl

pub id_again : (read : Option (List ℕ)) (left : Cursor) (bytes : List ℕ) (order : Order) (field : Option (List ℕ)) (rest : List ℕ)
    → Gives (λ x. x) read left (bytes_at 4 (record { rest = bytes; order = order })) → is_some field ≡ true → IfSome field (λ id. length id ≡ 4)
    → bytes ≡ optional (λ id. id) field ++ rest → (read ≡ field) × (left.rest.now ≡ rest)
id_again read left bytes order None rest g there len e = absurd cc
id_again None left bytes order (Some id) rest g there len e =
    let front = ap (λ (b : List ℕ). bytes_at 4 (record { rest = b; order = order })) e ∙ id_at_front id rest order len in
    absurd cc
id_again (Some x) left bytes order (Some id) rest g there len e =
    let front = ap (λ (b : List ℕ). bytes_at 4 (record { rest = b; order = order })) e ∙ id_at_front id rest order len in
    let same = same_Some _ _ (sym g ∙ front) in
    (ap (λ (p : List ℕ × At). Some p.0) same, ap (λ (p : List ℕ × At). p.1.rest) same)

-- ids have four bytes
four_items : (xs : List ℕ) → length xs ≡ 4 → xs ≡ get_or xs 0 0 ∷ get_or xs 1 0 ∷ get_or xs 2 0 ∷ get_or xs 3 0 ∷ []
four_items [] len = absurd cc
four_items (a ∷ []) len = absurd cc
four_items (a ∷ b ∷ []) len = absurd cc
four_items (a ∷ b ∷ c ∷ []) len = absurd cc
four_items (a ∷ b ∷ c ∷ d ∷ []) len = refl
four_items (a ∷ b ∷ c ∷ d ∷ e ∷ xs) len = absurd (omega arith)

-- the ten bytes of an extended header say what it is
pub extended_again : (bytes : List ℕ) (head : Extended) (rest : List ℕ) → IsExtended head → bytes ≡ extended_header head ++ rest
    → (get_or bytes 0 0 ≡ head.msin) × (get_or bytes 1 0 ≡ head.noar)
    × (get_or bytes 2 0 ∷ get_or bytes 3 0 ∷ get_or bytes 4 0 ∷ get_or bytes 5 0 ∷ [] ≡ head.apid)
    × (get_or bytes 6 0 ∷ get_or bytes 7 0 ∷ get_or bytes 8 0 ∷ get_or bytes 9 0 ∷ [] ≡ head.ctid)
extended_again bytes head rest is same =
    let apid = four_items head.apid is.apid in
    let ctid = four_items head.ctid is.ctid in
    let e = same ∙ ap (λ (x : List ℕ). ((head.msin ∷ head.noar ∷ []) ++ x ++ head.ctid) ++ rest) apid
    ∙ ap (λ (x : List ℕ). ((head.msin ∷ head.noar ∷ []) ++ (get_or head.apid 0 0 ∷ get_or head.apid 1 0 ∷ get_or head.apid 2 0 ∷ get_or head.apid 3 0 ∷ []) ++ x) ++ rest) ctid in (
      ap (λ (x : List ℕ). get_or x 0 0) e,
      ap (λ (x : List ℕ). get_or x 1 0) e,
      ap (λ (x : List ℕ). get_or x 2 0 ∷ get_or x 3 0 ∷ get_or x 4 0 ∷ get_or x 5 0 ∷ []) e ∙ sym apid,
      ap (λ (x : List ℕ). get_or x 6 0 ∷ get_or x 7 0 ∷ get_or x 8 0 ∷ get_or x 9 0 ∷ []) e ∙ sym ctid,
    )

-- extended headers with the same fields are the same
pub same_extended : (g h : Extended) → g.msin ≡ h.msin → g.noar ≡ h.noar → g.apid ≡ h.apid → g.ctid ≡ h.ctid → g ≡ h
same_extended g h msin noar apid ctid =
    ap (λ (v : ℕ × (ℕ × (List ℕ × List ℕ))). let made : Extended = record { msin = v.0; noar = v.1.0; apid = v.1.1.0; ctid = v.1.1.1 } in made)
    (both msin (both noar (both apid ctid)))

-- LEN as its two bytes say it
pub len_again : (n : ℕ) → n < 2 ^ 16 → (n / 256 % 256) * 256 ^ 1 + (n % 256 * 256 ^ 0 + 0) ≡ n
len_again n lt = omega arith

abbrev Values : Type 0
Values = ℕ × (ℕ × (ℕ × (Option (List ℕ) × (Option ℕ × Option ℕ))))

one_proof : {a b : Bool} (p q : a ≡ b) → p ≡ q
one_proof {a} {b} p q = let prop : IsProp (a ≡ b) = hlevel props in prop p q

same_proofs : (h : Standard) (p : is_some h.ecu ≡ has_ecu h.htyp) (q : is_some h.session ≡ has_session h.htyp) (r : is_some h.ticks ≡ has_ticks h.htyp)
    → h ≡ record { htyp = h.htyp; mcnt = h.mcnt; len = h.len; ecu = h.ecu; session = h.session; ticks = h.ticks; ecu_as_told = p; session_as_told = q; ticks_as_told = r }
same_proofs h p q r =
    let with_ecu : is_some h.ecu ≡ has_ecu h.htyp → Standard = λ x. record { htyp = h.htyp; mcnt = h.mcnt; len = h.len; ecu = h.ecu; session = h.session; ticks = h.ticks; ecu_as_told = x; session_as_told = h.session_as_told; ticks_as_told = h.ticks_as_told } in
    let with_session : is_some h.session ≡ has_session h.htyp → Standard = λ x. record { htyp = h.htyp; mcnt = h.mcnt; len = h.len; ecu = h.ecu; session = h.session; ticks = h.ticks; ecu_as_told = p; session_as_told = x; ticks_as_told = h.ticks_as_told } in
    let with_ticks : is_some h.ticks ≡ has_ticks h.htyp → Standard = λ x. record { htyp = h.htyp; mcnt = h.mcnt; len = h.len; ecu = h.ecu; session = h.session; ticks = h.ticks; ecu_as_told = p; session_as_told = q; ticks_as_told = x } in
    ap with_ecu (one_proof h.ecu_as_told p) ∙ ap with_session (one_proof h.session_as_told q) ∙ ap with_ticks (one_proof h.ticks_as_told r)

-- standard headers with the same fields are the same
pub same_standard : (g h : Standard) → g.htyp ≡ h.htyp → g.mcnt ≡ h.mcnt → g.len ≡ h.len → g.ecu ≡ h.ecu → g.session ≡ h.session → g.ticks ≡ h.ticks → g ≡ h
same_standard g h htyp mcnt len ecu session ticks =
    subst (λ (v : Values). (p : is_some v.1.1.1.0 ≡ has_ecu v.0) (q : is_some v.1.1.1.1.0 ≡ has_session v.0) (r : is_some v.1.1.1.1.1 ≡ has_ticks v.0)
    → g ≡ record { htyp = v.0; mcnt = v.1.0; len = v.1.1.0; ecu = v.1.1.1.0; session = v.1.1.1.1.0; ticks = v.1.1.1.1.1; ecu_as_told = p; session_as_told = q; ticks_as_told = r })
    (both htyp (both mcnt (both len (both ecu (both session ticks))))) (same_proofs g) h.ecu_as_told h.session_as_told h.ticks_as_told

-- the optional fields, one behind another
pub in_order : (ecu session ticks rest : List ℕ) → (ecu ++ session ++ ticks) ++ rest ≡ ecu ++ (session ++ (ticks ++ rest))
in_order ecu session ticks rest = simp append_assoc
