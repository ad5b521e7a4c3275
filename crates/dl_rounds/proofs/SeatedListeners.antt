-- Listeners in seats, laid over those of all clients.
use Rattle.std.proofs.Common.{◌≡◌, ◌≢◌, ℕ, zero, suc, pred, ◌-◌, ◌<◌, ◌≤◌, List, [], ◌∷◌, length, Some, inl, inr, refl, sym, ap, subst, ◌∙◌, arith}
use Rattle.std.specs.Prelude.{replicate, slice_get, slice_set}
use Rattle.std.proofs.lemmas.Bool.{cases_lt}
use Rattle.std.proofs.lemmas.Bool.Decides.{eqb_tells}
use Rattle.dl_bytes.specs.Limits.{message_limit}
use Rattle.dl_rounds.specs.declared.listener.Listener.{Listener}
use Rattle.dl_message.specs.Cutting.{unfed}
use Rattle.dl_rounds.specs.Ready.{fresh_listener}
use Rattle.dl_rounds.specs.ListenerPool.{AreApart, Fits, laid}
use Rattle.dl_rounds.proofs.ByPlace.{set_length}
use Rattle.dl_lemmas.proofs.Lists.{set_again, set_here, set_other, there, within_of}

set_twice : {A : Type 0} (xs : List A) (i : ℕ) (x y : A) → slice_set (slice_set xs i x) i y ≡ slice_set xs i y
set_twice [] i x y = refl
set_twice (z ∷ zs) zero x y = refl
set_twice (z ∷ zs) (suc i) x y = ap (λ (ys : List _). z ∷ ys) (set_twice zs i x y)

set_both : {A : Type 0} (xs : List A) (i j : ℕ) (x y : A) → i ≢ j → slice_set (slice_set xs i x) j y ≡ slice_set (slice_set xs j y) i x
set_both [] i j x y apart = refl
set_both (z ∷ zs) zero zero x y apart = absurd (apart refl)
set_both (z ∷ zs) zero (suc j) x y apart = refl
set_both (z ∷ zs) (suc i) zero x y apart = refl
set_both (z ∷ zs) (suc i) (suc j) x y apart = ap (λ (ys : List _). z ∷ ys) (set_both zs i j x y (λ (e : i ≡ j). apart (ap suc e)))

pub apart_behind : (client : ℕ) (clients : List ℕ) → AreApart (client ∷ clients) → AreApart clients
apart_behind client clients apart = λ seat other number one two. ap pred (apart (suc seat) (suc other) number one two)

-- ---- what is laid

pub laid_length : (clients : List ℕ) (listeners past : List Listener) → length (laid clients listeners past) ≡ length past
laid_length [] listeners past = refl
laid_length (c ∷ cs) [] past = refl
laid_length (c ∷ cs) (l ∷ ls) past = set_length (laid cs ls past) (c - 1) l ∙ laid_length cs ls past

-- the clients of two seats have different places
places_apart : (c client seat : ℕ) (cs : List ℕ) → AreApart (c ∷ cs) → 1 ≤ c → 1 ≤ client → slice_get cs seat ≡ Some client → client - 1 ≢ c - 1
places_apart c client seat cs apart one two is = λ e.
    let same : c ≡ client = omega (arith, e, one, two) in
    let at : 0 ≡ suc seat = apart 0 (suc seat) client (ap (λ (n : ℕ). Some n) same) is in
    absurd (omega (arith, at))

-- the listener in a seat stands at its client's number
pub laid_get : (clients : List ℕ) (listeners past : List Listener) (seat client : ℕ) (listener : Listener) → AreApart clients
    → ((seat client : ℕ) → slice_get clients seat ≡ Some client → 1 ≤ client) → slice_get clients seat ≡ Some client → slice_get listeners seat ≡ Some listener → client ≤ length past
    → slice_get (laid clients listeners past) (client - 1) ≡ Some listener
laid_get [] listeners past seat client listener apart from is at within = absurd cc
laid_get (c ∷ cs) [] past seat client listener apart from is at within = absurd cc
laid_get (c ∷ cs) (l ∷ ls) past zero client listener apart from is at within =
    let same : c ≡ client = cc is in
    let one : 1 ≤ client = from 0 client is in
    let here = there (laid cs ls past) (client - 1) (omega (arith, laid_length cs ls past, within, one)) in
    ap (λ (n : ℕ). slice_get (slice_set (laid cs ls past) (n - 1) l) (client - 1)) same ∙ set_here (laid cs ls past) (client - 1) here.0 l here.1 ∙ at
laid_get (c ∷ cs) (l ∷ ls) past (suc seat) client listener apart from is at within =
    set_other (laid cs ls past) (c - 1) (client - 1) l (places_apart c client seat cs apart (from 0 c refl) (from (suc seat) client is) is)
    ∙ laid_get cs ls past seat client listener (apart_behind c cs apart) (λ s n. from (suc s) n) is at within

-- where the listener in a seat changes, it changes at its client's number
pub laid_set : (clients : List ℕ) (listeners past : List Listener) (seat client : ℕ) (now : Listener) → AreApart clients
    → ((seat client : ℕ) → slice_get clients seat ≡ Some client → 1 ≤ client) → slice_get clients seat ≡ Some client → seat < length listeners
    → laid clients (slice_set listeners seat now) past ≡ slice_set (laid clients listeners past) (client - 1) now
laid_set [] listeners past seat client now apart from is within = absurd cc
laid_set (c ∷ cs) [] past seat client now apart from is within = absurd (omega (arith, within))
laid_set (c ∷ cs) (l ∷ ls) past zero client now apart from is within =
    let same : c ≡ client = cc is in
    sym (set_twice (laid cs ls past) (c - 1) l now) ∙ ap (λ (n : ℕ). slice_set (slice_set (laid cs ls past) (c - 1) l) (n - 1) now) same
laid_set (c ∷ cs) (l ∷ ls) past (suc seat) client now apart from is within =
    ap (λ (ys : List Listener). slice_set ys (c - 1) l) (laid_set cs ls past seat client now (apart_behind c cs apart) (λ s n. from (suc s) n) is (omega (arith, within)))
    ∙ set_both (laid cs ls past) (client - 1) (c - 1) now l (places_apart c client seat cs apart (from 0 c refl) (from (suc seat) client is) is)

-- what stands there already changes nothing
pub laid_same : (clients : List ℕ) (listeners past : List Listener)
    → ((seat client : ℕ) (listener : Listener) → slice_get clients seat ≡ Some client → slice_get listeners seat ≡ Some listener → slice_set past (client - 1) listener ≡ past)
    → laid clients listeners past ≡ past
laid_same [] listeners past same = refl
laid_same (c ∷ cs) [] past same = refl
laid_same (c ∷ cs) (l ∷ ls) past same =
    ap (λ (ys : List Listener). slice_set ys (c - 1) l) (laid_same cs ls past (λ seat. same (suc seat))) ∙ same 0 c l refl refl

-- ---- a listener is lent

pub fits_lent : (clients : List ℕ) (listeners past : List Listener) (seat client : ℕ) (now : Listener) → Fits clients listeners past → slice_get clients seat ≡ Some client
    → client ≤ length (laid clients listeners past) → Fits clients (slice_set listeners seat now) past
fits_lent clients listeners past seat client now fits is within = record {
  seats = fits.seats;
  many = set_length listeners seat now ∙ fits.many;
  from_one = fits.from_one;
  apart = fits.apart;
  beyond = λ other number listener whose above at. elim (eqb_tells other seat) [
    | inl this ↦
        let same : number ≡ client = cc (whose, is, this.1) in
        absurd (omega (arith, same, above, within, laid_length clients listeners past))
    | inr else ↦ fits.beyond other number listener whose above (sym (set_other listeners seat other now else.1) ∙ at)
  ];
}

pub lent_set : (clients : List ℕ) (listeners past : List Listener) (seat client : ℕ) (now : Listener) → Fits clients listeners past → slice_get clients seat ≡ Some client
    → laid clients (slice_set listeners seat now) past ≡ slice_set (laid clients listeners past) (client - 1) now
lent_set clients listeners past seat client now fits is =
    laid_set clients listeners past seat client now fits.apart fits.from_one is (omega (arith, within_of clients seat client is, fits.seats, fits.many))

-- ---- a seat is taken over

-- the cutter in each seat is one for clients
pub limit_in : (clients : List ℕ) (listeners past : List Listener) (seat : ℕ) (listener : Listener) → Fits clients listeners past
    → ((place : ℕ) (l : Listener) → slice_get (laid clients listeners past) place ≡ Some l → l.cutter.limit ≡ message_limit) → slice_get listeners seat ≡ Some listener
    → listener.cutter.limit ≡ message_limit
limit_in clients listeners past seat listener fits limits at =
    let whose = there clients seat (omega (arith, within_of listeners seat listener at, fits.seats, fits.many)) in elim (cases_lt (length past) whose.0) [
      | inl above ↦ fits.beyond seat whose.0 listener whose.1 above at
      | inr below ↦ limits (whose.0 - 1) listener (laid_get clients listeners past seat whose.0 listener fits.apart fits.from_one whose.1 at below)
    ]

-- what stands at a place of a list of which one entry changed
at_one : {A : Type 0} (xs : List A) (i : ℕ) (x y : A) → i < length xs → slice_get (slice_set xs i x) i ≡ Some y → y ≡ x
at_one xs i x y within is =
    let was = there xs i within in
    let now : slice_get (slice_set xs i x) i ≡ Some x = set_here xs i was.0 x was.1 in cc (is, now)

pub laid_over : (clients : List ℕ) (listeners past : List Listener) (seat client : ℕ) (now : Listener) → Fits clients listeners past → seat < length clients
    → slice_get (laid clients listeners past) (client - 1) ≡ Some now
    → laid (slice_set clients seat client) (slice_set listeners seat now) (laid clients listeners past) ≡ laid clients listeners past
laid_over clients listeners past seat client now fits within fresh =
    laid_same (slice_set clients seat client) (slice_set listeners seat now) (laid clients listeners past) (λ other number listener whose at. elim (eqb_tells other seat) [
      | inl this ↦
          let same : number ≡ client = at_one clients seat client number within (subst (λ (s : ℕ). slice_get (slice_set clients seat client) s ≡ Some number) this.1 whose) in
          let it : listener ≡ now = at_one listeners seat now listener (omega (arith, within, fits.seats, fits.many)) (subst (λ (s : ℕ). slice_get (slice_set listeners seat now) s ≡ Some listener) this.1 at) in
          set_again (laid clients listeners past) (number - 1) listener
          (ap (λ (n : ℕ). slice_get (laid clients listeners past) (n - 1)) same ∙ fresh ∙ ap (λ (l : Listener). Some l) (sym it))
      | inr else ↦
          let was : slice_get clients other ≡ Some number = sym (set_other clients seat other client else.1) ∙ whose in
          let held : slice_get listeners other ≡ Some listener = sym (set_other listeners seat other now else.1) ∙ at in
          sym (lent_set clients listeners past other number listener fits was) ∙ ap (λ (ls : List Listener). laid clients ls past) (set_again listeners other listener held)
    ])

pub fits_over : (clients : List ℕ) (listeners past : List Listener) (seat client : ℕ) (now : Listener) → Fits clients listeners past → seat < length clients → 1 ≤ client
    → client ≤ length past → ((other : ℕ) → slice_get clients other ≡ Some client → ⊥)
    → Fits (slice_set clients seat client) (slice_set listeners seat now) (laid clients listeners past)
fits_over clients listeners past seat client now fits within one few none = record {
  seats = set_length clients seat client ∙ fits.seats;
  many = set_length listeners seat now ∙ fits.many;
  from_one = λ other number whose. elim (eqb_tells other seat) [
    | inl this ↦ let same = number_here other number this.1 whose in omega (arith, same, one)
    | inr else ↦ fits.from_one other number (was other number else.1 whose)
  ];
  apart = λ first second number whose too. elim (eqb_tells first seat) [
    | inl this ↦ elim (eqb_tells second seat) [
      | inl that ↦ this.1 ∙ sym that.1
      | inr else ↦ absurd (none second (was second number else.1 too ∙ ap (λ (n : ℕ). Some n) (number_here first number this.1 whose)))
    ]
    | inr another ↦ elim (eqb_tells second seat) [
      | inl that ↦ absurd (none first (was first number another.1 whose ∙ ap (λ (n : ℕ). Some n) (number_here second number that.1 too)))
      | inr else ↦ fits.apart first second number (was first number another.1 whose) (was second number else.1 too)
    ]
  ];
  beyond = λ other number listener whose above at. elim (eqb_tells other seat) [
    | inl this ↦ let same = number_here other number this.1 whose in absurd (omega (arith, same, above, few, laid_length clients listeners past))
    | inr else ↦
        fits.beyond other number listener (was other number else.1 whose) (omega (arith, above, laid_length clients listeners past)) (sym (set_other listeners seat other now else.1) ∙ at)
  ];
} where
  was : (other number : ℕ) → other ≢ seat → slice_get (slice_set clients seat client) other ≡ Some number → slice_get clients other ≡ Some number
  was other number apart whose = sym (set_other clients seat other client apart) ∙ whose

  number_here : (other number : ℕ) → other ≡ seat → slice_get (slice_set clients seat client) other ≡ Some number → number ≡ client
  number_here other number this whose = at_one clients seat client number within (subst (λ (s : ℕ). slice_get (slice_set clients seat client) s ≡ Some number) this whose)

-- Where the listener in a seat is cleared, and what all were is kept, none changes.
pub takes_over : (clients : List ℕ) (listeners past past_now : List Listener) (seat client : ℕ) (was now : Listener) → Fits clients listeners past → seat < length clients → 1 ≤ client
    → ((other : ℕ) → slice_get clients other ≡ Some client → ⊥) → slice_get (laid clients listeners past) (client - 1) ≡ Some fresh_listener
    → ((place : ℕ) (l : Listener) → slice_get (laid clients listeners past) place ≡ Some l → l.cutter.limit ≡ message_limit)
    → slice_get listeners seat ≡ Some was → now ≡ record { cutter = unfed was.cutter.limit; served = 0 } → past_now ≡ laid clients listeners past
    → Fits (slice_set clients seat client) (slice_set listeners seat now) past_now
    × (laid (slice_set clients seat client) (slice_set listeners seat now) past_now ≡ laid clients listeners past)
takes_over clients listeners past past_now seat client was now fits within one none fresh limits at cleared kept =
    let limit : was.cutter.limit ≡ message_limit = limit_in clients listeners past seat was fits limits at in
    let alike : now ≡ fresh_listener = cleared ∙ ap (λ (n : ℕ). record { cutter = unfed n; served = 0 }) limit in
    let there_now : slice_get (laid clients listeners past) (client - 1) ≡ Some now = fresh ∙ ap (λ (l : Listener). Some l) (sym alike) in
    let few : client ≤ length past = omega (arith, within_of (laid clients listeners past) (client - 1) fresh_listener fresh, laid_length clients listeners past, one) in (
      subst (λ (ls : List Listener). Fits (slice_set clients seat client) (slice_set listeners seat now) ls) (sym kept) (fits_over clients listeners past seat client now fits within one few none),
      ap (λ (ls : List Listener). laid (slice_set clients seat client) (slice_set listeners seat now) ls) kept ∙ laid_over clients listeners past seat client now fits within there_now,
    )

-- ---- at the begin

get_replicate : {A : Type 0} (many place : ℕ) (x y : A) → slice_get (replicate many x) place ≡ Some y → y ≡ x
get_replicate zero place x y is = absurd cc
get_replicate (suc many) zero x y is = cc is
get_replicate (suc many) (suc place) x y is = get_replicate many place x y is

set_replicate : {A : Type 0} (many place : ℕ) (x : A) → slice_set (replicate many x) place x ≡ replicate many x
set_replicate zero place x = refl
set_replicate (suc many) zero x = refl
set_replicate (suc many) (suc place) x = ap (λ (ys : List _). x ∷ ys) (set_replicate many place x)

-- where all are alike, whatever stands in seats
pub laid_alike : (clients : List ℕ) (seats many : ℕ) (fresh : Listener) → laid clients (replicate seats fresh) (replicate many fresh) ≡ replicate many fresh
laid_alike clients seats many fresh =
    laid_same clients (replicate seats fresh) (replicate many fresh) (λ seat client listener whose at.
    let same : listener ≡ fresh = get_replicate seats seat fresh listener at in
    ap (λ (l : Listener). slice_set (replicate many fresh) (client - 1) l) same ∙ set_replicate many (client - 1) fresh)
