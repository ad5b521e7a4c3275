-- A message as the parts that were read of it.
use Rattle.std.proofs.Common.{◌≡◌, ℕ, ◌+◌, ◌-◌, ◌≤◌, List, ◌++◌, length, take, drop, Option, Some, None, Result, Ok, refl, sym, ap, ◌∙◌, append_assoc, length-append, length-drop, arith}
use Rattle.std.specs.Option.{option_or}
use Rattle.std.specs.Result.{result_ok}
use Rattle.std.proofs.lemmas.List.{take_rest, drop_at}
use Rattle.dl_headers.specs.declared.header.Standard.{Standard}
use Rattle.dl_headers.specs.declared.header.Extended.{Extended}
use Rattle.dl_headers.specs.Header.{extended_header, IsExtended}
use Rattle.dl_headers.specs.Message.{Message}
use Rattle.dl_headers.proofs.Again.{both}
use Rattle.dl_message.specs.Cutting.{Cutting}

-- two parts that stand one behind the other, na and nb items long, and what is behind them
pub two_parts : (bytes a b r : List ℕ) (na nb : ℕ) → na ≤ length bytes → bytes ≡ a ++ drop na bytes → take (length bytes - na) (drop na bytes) ≡ b ++ r
    → length (take (length bytes - na) (drop na bytes)) ≡ nb + length r → (bytes ≡ (a ++ b) ++ drop (na + nb) bytes) × (drop (na + nb) bytes ≡ r)
two_parts bytes a b r na nb le front behind len =
    let next : drop na bytes ≡ b ++ r = sym (take_rest bytes na) ∙ behind in
    let whole : bytes ≡ (a ++ b) ++ r = front ∙ ap (λ (x : List ℕ). a ++ x) next ∙ sym (append_assoc a b r) in
    let size : length (a ++ b) ≡ na + nb =
    omega (arith, length-append a b, length-append a (drop na bytes), length-append b r, ap length front, ap length next, ap length (take_rest bytes na), len, length-drop na bytes) in
    let rest : drop (na + nb) bytes ≡ r = ap (drop (na + nb)) whole ∙ drop_at (a ++ b) r (na + nb) size in
    (whole ∙ ap (λ (x : List ℕ). (a ++ b) ++ x) (sym rest), rest)

-- what `ok()` of a read gives
pub read_as : {A E : Type 0} (read : Option A) (result : Result A E) (x : A) → read ≡ result_ok result → result ≡ Ok x → read ≡ Some x
read_as read result x e f = e ∙ ap result_ok f

pub ok_is : {A E : Type 0} {x y : A} → ◌≡◌ {A = Result A E} (Ok x) (Ok y) → x ≡ y
ok_is e = cc

-- no fault of two is none of the first
pub no_first : {A : Type 0} (x y : Option A) → option_or x y ≡ None → x ≡ None
no_first None y e = refl
no_first (Some x) y e = absurd cc

-- messages of the same parts are the same
pub same_message : (g h : Message) → g.standard ≡ h.standard → g.extended ≡ h.extended → g.payload ≡ h.payload → g ≡ h
same_message g h standard extended payload =
    ap (λ (v : Standard × (Option Extended × List ℕ)). let made : Message = record { standard = v.0; extended = v.1.0; payload = v.1.1 } in made)
    (both standard (both extended payload))

-- an extended header has ten bytes
pub ten : (head : Extended) (rest : List ℕ) → IsExtended head → drop 10 (extended_header head ++ rest) ≡ rest
ten head rest is = drop_at (extended_header head) rest 10 (omega (arith, length-append head.apid head.ctid, is.apid, is.ctid))

-- what contracts see of a cutter, by its parts
pub same_cutting : {limit limit' room room' : ℕ} {unread unread' message message' : List ℕ} → limit ≡ limit' → unread ≡ unread' → message ≡ message' → room ≡ room'
    → ◌≡◌ {A = Cutting} (record { limit = limit; unread = unread; message = message; room = room }) (record { limit = limit'; unread = unread'; message = message'; room = room' })
same_cutting l r m n =
    ap (λ (v : ℕ × (List ℕ × (List ℕ × ℕ))). let made : Cutting = record { limit = v.0; unread = v.1.0; message = v.1.1.0; room = v.1.1.1 } in made) (both l (both r (both m n)))
