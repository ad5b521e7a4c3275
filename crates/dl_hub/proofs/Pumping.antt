-- An outbox that is sent, one piece after another.
use Rattle.std.proofs.Common.{◌≡◌, ℕ, ◌+◌, ◌-◌, ◌≤◌, ◌<◌, Bool, false, cond, eqb, take, drop, List, [], ◌∷◌, ◌++◌, length, Option, Some, None, refl, sym, ap, ◌∙◌, append_assoc, length-drop, subst, suc, zero, arith}
use Rattle.std.specs.Prelude.{slice_get, slice_set, option_map, IsSome, IsSomeAnd}
use Rattle.std.specs.Option.{option_map_or, option_and_then}
use Rattle.std.proofs.lemmas.List.{append-nil, take-take, length-take}
use Rattle.std.proofs.lemmas.Option.{slice_get_within}
use Rattle.std.proofs.lemmas.Bool.Decides.{nat_tests}
use Rattle.std.proofs.Math.Seq.{take-add}
use Rattle.circular_buffer.proofs.Places.{slice_get-set_same}
use Rattle.dl_lemmas.proofs.Options.{some_is}
use Rattle.dl_outside.specs.Outside.{Grows}
use Rattle.dl_outside.proofs.Staying.{stays_both, stays_same}
use Rattle.dl_hub.specs.State.{Client, Waiting, Hub, outbox_of, changed, without, consumed}
use Rattle.dl_outside.specs.Told.{LinkTold}
use Rattle.dl_hub.proofs.Untaken.{consumed_none, consumed_again}
use Rattle.dl_hub.specs.Pumping.{Pumps, IsOnlySent}
use Rattle.dl_hub.proofs.Keeping.{found, changed_at}
use Rattle.dl_hub.proofs.Calls.{some_and}

set_again : {A : Type 0} (xs : List A) (i : ℕ) (a b : A) → slice_set (slice_set xs i a) i b ≡ slice_set xs i b
set_again [] i a b = refl
set_again (x ∷ xs) zero a b = refl
set_again (x ∷ xs) (suc i) a b = ap (λ ys. x ∷ ys) (set_again xs i a b)

set_same : {A : Type 0} (xs : List A) (i : ℕ) (a : A) → slice_get xs i ≡ Some a → slice_set xs i a ≡ xs
set_same [] i a is = refl
set_same (x ∷ xs) zero a is = ap (λ y. y ∷ xs) (sym (some_is is))
set_same (x ∷ xs) (suc i) a is = ap (λ ys. x ∷ ys) (set_same xs i a is)

again : (a b : ℕ) (c : Client) (w : Waiting) → c.outbox ≡ Some w → a ≤ length w.bytes → without b (without a c) ≡ without (a + b) c
again a b c w is within =
    subst (λ o. without b (without a (record c { outbox = o })) ≡ without (a + b) (record c { outbox = o })) (sym is)
    (ap (λ v. record c { outbox = Some v }) (consumed_again a b w within))

nothing : (c : Client) → without 0 c ≡ c
nothing c = by_outbox c.outbox where
  by_outbox : (o : Option Waiting) → without 0 (record c { outbox = o }) ≡ record c { outbox = o }
  by_outbox None = refl
  by_outbox (Some w) = ap (λ v. record c { outbox = Some v }) (consumed_none w)

-- before anything is sent
pub nothing-sent : (number : ℕ) (hub : Hub) (link : LinkTold) → IsSome (outbox_of hub number) → Pumps number hub hub link link
nothing-sent number hub link there =
    let it = found hub number there in
    record {
      count = 0;
      sent = rw it.5 (omega arith, stays_same link.taken);
      left = sym (changed_at hub number (without 0) it.0 it.4 it.2 ∙ ap (λ cs. record hub { clients = cs }) (ap (slice_set hub.clients (number - 1)) (nothing it.0) ∙ set_same hub.clients (number - 1) it.0 it.2));
    } where
      stays_same : (o : Option (List ℕ)) → Grows o o []
      stays_same None = tt {0}
      stays_same (Some b) = ap Some (sym (append-nil b))

grow : (t0 t1 t2 : Option (List ℕ)) (xs ys : List ℕ) → Grows t0 t1 xs → Grows t1 t2 ys → Grows t0 t2 (xs ++ ys)
grow None t1 t2 xs ys a b = tt {0}
grow (Some z) t1 t2 xs ys a b = (subst (λ t. Grows t t2 ys) a b) ∙ ap Some (append_assoc z xs ys)

some_of : {A : Type 0} (o : Option A) (x : A) → o ≡ Some x → IsSome o
some_of o x is = rw is refl

abbrev look : Bool → Option Client → Option Waiting
look b client = option_and_then (λ c. c.outbox) (cond b None client)

-- the outbox after bytes went
pub outbox-after : (number count : ℕ) (hub : Hub) (w : Waiting) → outbox_of hub number ≡ Some w → outbox_of (changed number (without count) hub) number ≡ Some (consumed count w)
outbox-after number count hub w is =
    let it = found hub number (some_of (outbox_of hub number) w is) in
    let same : it.1 ≡ w = some_is (sym it.5 ∙ is) in
    let not_zero : eqb number 0 ≡ false = grind (arith, nat_tests, it.4) in
    let its : option_map (consumed count) it.0.outbox ≡ Some (consumed count w) = rw (it.3, same) refl in
    ap (λ h. outbox_of h number) (changed_at hub number (without count) it.0 it.4 it.2)
    ∙ ap (λ b. look b (slice_get (slice_set hub.clients (number - 1) (without count it.0)) (number - 1))) not_zero
    ∙ ap (look false) (slice_get-set_same hub.clients (number - 1) (without count it.0) (slice_get_within hub.clients (number - 1) it.0 it.2)) ∙ its

-- one piece more
pub more-sent : (number n : ℕ) (old mid new : Hub) (l0 l1 l2 : LinkTold) (piece : List ℕ)
    → Pumps number old mid l0 l1 → IsSome (outbox_of old number)
    → IsSomeAnd (outbox_of mid number) (λ w. piece ≡ take (length piece) w.bytes)
    → n ≤ length piece → 1 ≤ n → Grows l1.taken l2.taken (take n piece) → new ≡ changed number (without n) mid
    → Pumps number old new l0 l2 × IsSome (outbox_of new number)
    × (option_map_or (λ w. length w.bytes) (outbox_of new number) 0 < option_map_or (λ w. length w.bytes) (outbox_of mid number) 0)
more-sent number n old mid new l0 l1 l2 piece pumped there front fits some grown is =
    let it = found old number there in
    let a = pumped.count in
    let was = some_and (λ w. (a ≤ length w.bytes) × Grows l0.taken l1.taken (take a w.bytes)) (outbox_of old number) it.1 it.5 pumped.sent in
    let now : outbox_of mid number ≡ Some (consumed a it.1) = ap (λ hub. outbox_of hub number) pumped.left ∙ outbox-after number a old it.1 it.5 in
    let front_is : piece ≡ take (length piece) (drop a it.1.bytes) = some_and (λ w. piece ≡ take (length piece) w.bytes) (outbox_of mid number) (consumed a it.1) now front in
    let left : length (drop a it.1.bytes) ≡ length it.1.bytes - a = length-drop a it.1.bytes in
    let shorter : length piece ≤ length (drop a it.1.bytes) = at_most piece (drop a it.1.bytes) front_is in
    let part : take n piece ≡ take n (drop a it.1.bytes) = ap (take n) front_is ∙ take-take n (length piece) (drop a it.1.bytes) fits in
    let after : outbox_of new number ≡ Some (consumed n (consumed a it.1)) = ap (λ hub. outbox_of hub number) is ∙ outbox-after number n mid (consumed a it.1) now in
    let all : new ≡ changed number (without (a + n)) old =
    is ∙ ap (changed number (without n)) (pumped.left ∙ changed_at old number (without a) it.0 it.4 it.2)
    ∙ changed_at (record old { clients = slice_set old.clients (number - 1) (without a it.0) }) number (without n) (without a it.0) it.4
    (slice_get-set_same old.clients (number - 1) (without a it.0) (slice_get_within old.clients (number - 1) it.0 it.2))
    ∙ ap (λ cs. record old { clients = cs }) (set_again old.clients (number - 1) (without a it.0) (without n (without a it.0)) ∙ ap (slice_set old.clients (number - 1)) (again a n it.0 it.1 it.3 was.0))
    ∙ sym (changed_at old number (without (a + n)) it.0 it.4 it.2) in (
      record {
        count = a + n;
        sent = rw it.5 (omega (arith, was.0, fits, shorter, left), rw (take-add a n it.1.bytes) (grow l0.taken l1.taken l2.taken (take a it.1.bytes) (take n (drop a it.1.bytes)) was.1 (rw part at grown)));
        left = all;
      },
      some_of (outbox_of new number) (consumed n (consumed a it.1)) after,
      rw (after, now) (omega (arith, length-drop n (drop a it.1.bytes), some, fits, shorter)),
    ) where
      at_most : (xs ys : List ℕ) → xs ≡ take (length xs) ys → length xs ≤ length ys
      at_most xs ys e = omega (arith, ap length e, length-take (length xs) ys)

-- ---- what else a link tells

pub only_sent : (link : LinkTold) → IsOnlySent link link
only_sent link = record { left = stays_same link.left; over = λ is_over. is_over; given = stays_same link.given; idles = refl; shut = refl }

pub only_sent-later : (a b c : LinkTold) → IsOnlySent a b → IsOnlySent b c → IsOnlySent a c
only_sent-later a b c first later = record {
  left = stays_both a.left b.left c.left first.left later.left;
  over = λ is_over. later.over (first.over is_over);
  given = stays_both a.given b.given c.given first.given later.given;
  idles = later.idles ∙ first.idles;
  shut = later.shut ∙ first.shut;
}
