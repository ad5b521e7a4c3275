-- Open clients that are counted.
use Rattle.std.proofs.Common.{◌≡◌, ℕ, zero, suc, ◌+◌, ◌-◌, ◌<◌, ◌≤◌, Bool, true, false, cond, length, take, List, [], ◌∷◌, Option, Some, None, inl, inr, refl, sym, ap, subst, ◌∙◌, arith}
use Rattle.std.specs.Prelude.{count_by, is_some, slice_get, IfSome, IsSomeAnd}
use Rattle.std.specs.Option.{option_and_then}
use Rattle.std.proofs.lemmas.Bool.{cases_lt}
use Rattle.std.proofs.lemmas.List.{take_all}
use Rattle.std.proofs.lemmas.List.Sums.{sum_by-cons}
use Rattle.std.proofs.lemmas.Option.{slice_get_within}
use Rattle.dl_hub.specs.State.{Client, Hub, Waiting, EachHasRoom, IsNextOpen, client_of, is_open, outbox_of}
use Rattle.dl_hub.proofs.Keeping.{found}
use Rattle.dl_hub.proofs.Calls.{client_some}

-- ---- lists of clients

pub one : (c : Client) (cs : List Client) → count_by is_open (c ∷ cs) ≡ cond (is_open c) 1 0 + count_by is_open cs
one c cs = sum_by-cons (λ x. cond (is_open x) 1 0) c cs

shut_first : (b : Bool) (n m : ℕ) → b ≡ false → n ≡ m → cond b 1 0 + n ≡ m
shut_first true n m shut same = absurd cc
shut_first false n m shut same = omega (arith, same)

open_first : (b : Bool) (n : ℕ) → b ≡ true → cond b 1 0 + n ≡ suc n
open_first true n open_so = omega arith
open_first false n open_so = absurd cc

-- the clients at these places are shut
abbrev AreShut : List Client → ℕ → ℕ → Type 0
AreShut clients from till = (place : ℕ) (c : Client) → from ≤ place → place < till → slice_get clients place ≡ Some c → is_open c ≡ false

skip : (clients : List Client) (from till : ℕ) → from ≤ till → AreShut clients from till → count_by is_open (take till clients) ≡ count_by is_open (take from clients)
skip [] zero zero le shut = refl
skip [] zero (suc till) le shut = refl
skip [] (suc from) zero le shut = absurd (omega (arith, le))
skip [] (suc from) (suc till) le shut = refl
skip (c ∷ cs) zero zero le shut = refl
skip (c ∷ cs) zero (suc till) le shut =
    one c (take till cs)
    ∙ shut_first (is_open c) (count_by is_open (take till cs)) 0 (shut 0 c (omega arith) (omega arith) refl)
    (skip cs zero till (omega arith) (λ place d low below at. shut (suc place) d (omega arith) (omega (arith, below)) at))
skip (c ∷ cs) (suc from) zero le shut = absurd (omega (arith, le))
skip (c ∷ cs) (suc from) (suc till) le shut =
    one c (take till cs)
    ∙ ap (λ (n : ℕ). cond (is_open c) 1 0 + n) (skip cs from till (omega (arith, le)) (λ place d low below at. shut (suc place) d (omega (arith, low)) (omega (arith, below)) at))
    ∙ sym (one c (take from cs))

one_more : (clients : List Client) (place : ℕ) (c : Client) → slice_get clients place ≡ Some c → is_open c ≡ true → count_by is_open (take (suc place) clients) ≡ suc (count_by is_open (take place clients))
one_more [] place c at open_so = absurd cc
one_more (d ∷ cs) zero c at open_so =
    let same : d ≡ c = cc in
    one d [] ∙ open_first (is_open d) 0 (ap is_open same ∙ open_so)
one_more (d ∷ cs) (suc place) c at open_so = omega (arith, one d (take (suc place) cs), one d (take place cs), one_more cs place c at open_so)

-- ---- one after the other

if_none : {A : Type 0} (P : A → Type 0) (o : Option A) → o ≡ None → IfSome o P
if_none P None is = tt
if_none P (Some x) is = absurd cc

if_so : (o : Option Waiting) (room : ℕ) → IsSomeAnd o (λ b. room + length b.bytes ≡ b.capacity) → IfSome o (λ b. length b.bytes + 0 ≤ b.capacity)
if_so None room is = tt
if_so (Some b) room is = omega (arith, is)

-- the clients up to this number were counted, and none of their outboxes holds more than it can
pub record SoFar (hub : Hub) (after count : ℕ) : Type 0 where
  pub counted : count_by is_open (take after hub.clients) ≡ count
  pub few : count ≤ after
  pub within : after ≤ length hub.clients
  pub room : (number : ℕ) → number ≤ after → IfSome (outbox_of hub number) (λ b. length b.bytes + 0 ≤ b.capacity)

module _ (hub : Hub) (after count : ℕ) (so : SoFar hub after count) where
  -- none is open behind it, up to this number
  shut_behind : (till : ℕ) → ((number : ℕ) → after < number → number ≤ till → outbox_of hub number ≡ None) → AreShut hub.clients after till
  shut_behind till none = λ place c low below at.
      let place_is : place ≡ place + 1 - 1 = omega arith in
      let its_place : slice_get hub.clients (place + 1 - 1) ≡ Some c = subst (λ (n : ℕ). slice_get hub.clients n ≡ Some c) place_is at in
      let client : client_of hub (place + 1) ≡ Some c = client_some hub (place + 1) c (omega arith) its_place in
      let gone : outbox_of hub (place + 1) ≡ None = none (place + 1) (omega (arith, low)) (omega (arith, below)) in
      let its : c.outbox ≡ None = sym (ap (λ (o : Option Client). option_and_then (λ d. d.outbox) o) client) ∙ gone in
      ap is_some its

  module _ (next room : ℕ) (is : IsNextOpen hub after (Some next)) (has : IsSomeAnd (outbox_of hub next) (λ b. room + length b.bytes ≡ b.capacity)) where
    place_below : next - 1 < length hub.clients
    place_below = let at = found hub next is.1 in slice_get_within hub.clients (next - 1) at.0 at.2

    pub nearer : length hub.clients - next < length hub.clients - after
    nearer = omega (arith, place_below, is.0)

    pub goes_on : SoFar hub next (count + 1)
    goes_on =
        let at = found hub next is.1 in
        let opens : is_open at.0 ≡ true = ap is_some at.3 in
        let number : suc (next - 1) ≡ next = omega (arith, is.0) in
        let more : count_by is_open (take next hub.clients) ≡ suc (count_by is_open (take (next - 1) hub.clients)) =
        ap (λ (n : ℕ). count_by is_open (take n hub.clients)) (sym number) ∙ one_more hub.clients (next - 1) at.0 at.2 opens in
        let others = skip hub.clients after (next - 1) (omega (arith, is.0)) (shut_behind (next - 1) (λ n low le. is.2 n low (omega (arith, le, is.0)))) in
        record {
          counted = omega (arith, more, others, so.counted);
          few = omega (arith, so.few, is.0);
          within = omega (arith, place_below, is.0);
          room = λ n le. elim (cases_lt after n) [
            | inl above ↦ elim (cases_lt n next) [
              | inl below ↦ if_none (λ b. length b.bytes + 0 ≤ b.capacity) (outbox_of hub n) (is.2 n above below)
              | inr least ↦
                  let same : next ≡ n = omega (arith, le, least) in
                  subst (λ (k : ℕ). IfSome (outbox_of hub k) (λ b. length b.bytes + 0 ≤ b.capacity)) same (if_so (outbox_of hub next) room has)
            ]
            | inr low ↦ so.room n low
          ];
        }

  module _ (is : IsNextOpen hub after None) where
    pub all_counted : count ≡ count_by is_open hub.clients
    all_counted =
        let rest = skip hub.clients after (length hub.clients) so.within (shut_behind (length hub.clients) (λ n low le. is n low)) in
        sym so.counted ∙ sym rest ∙ ap (count_by is_open) (take_all (length hub.clients) hub.clients (omega arith))

    pub each_has : EachHasRoom 0 hub
    each_has = λ n. elim (cases_lt after n) [
      | inl above ↦ if_none (λ b. length b.bytes + 0 ≤ b.capacity) (outbox_of hub n) (is n above)
      | inr low ↦ so.room n low
    ]
