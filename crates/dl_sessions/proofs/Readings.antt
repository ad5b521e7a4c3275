-- Where the messages of a stream stand, and that nothing behind them changes it.
use Rattle.std.proofs.Common.{◌≡◌, ℕ, ◌<◌, ◌≤◌, Bool, true, false, cond, eqb, leb, ltb, List, [], ◌∷◌, ◌++◌, length, take, drop, Option, Some, None, refl, sym, ap, subst, ◌∙◌, length-append, arith}
use Rattle.std.specs.Prelude.{not, is_none, slice_index, ◌&&◌}
use Rattle.std.specs.Cmp.Lexicographic.{pointwise}
use Rattle.std.specs.List.{starts_with}
use Rattle.std.proofs.Math.ListN.{get_or-append}
use Rattle.std.proofs.lemmas.Bool.{cond-true, cond-false, le-leb, leb-true, ltb-false}
use Rattle.std.proofs.lemmas.List.{length-take, length-drop, take-append-le, drop-append-le}
use Rattle.dl_lemmas.proofs.Bools.{both}
use Rattle.dl_bytes.specs.Htyp.{htyp_of, len_of, version, header_len}
use Rattle.dl_bytes.specs.Id.{zero_id}
use Rattle.dl_headers.specs.declared.fault.HeaderFault.{HeaderFault}
use Rattle.dl_headers.specs.declared.fault.HeaderFault.TheVariants.{Short, Version, Length}
use Rattle.dl_headers.specs.Reading.{front_fault}
use Rattle.dl_headers.proofs.Fronts.{front_fault-append, len_of-append}
use Rattle.dl_message.specs.Cut.{IsWholeMessage, serial_header}
use Rattle.dl_message.proofs.Pieces.{whole_front}
use Rattle.dl_sessions.specs.declared.stream.End.TheVariants.{Within, Bad}
use Rattle.dl_sessions.specs.declared.stream.Place.{Place}
use Rattle.dl_sessions.specs.Follows.{EndsBad}
use Rattle.dl_sessions.specs.Stream.{before_len, end_of, first_place, is_bad_front, rest_behind, storage_pattern, stored_ecu, told_at, told_of}

-- ---- where a message stands

pub record IsPlace (bytes : List ℕ) (place : Place) : Type 0 where
  pub ecu_is : place.ecu ≡ stored_ecu bytes
  pub before_is : place.before ≡ before_len bytes
  pub front : front_fault (drop place.before bytes) ≡ None
  pub len : place.len ≡ len_of (drop place.before bytes)
  pub within : place.len ≤ length (drop place.before bytes)

none_is : {A : Type 0} (o : Option A) → is_none o ≡ true → o ≡ None
none_is None e = refl
none_is (Some x) e = absurd cc

pub place_is : (bytes : List ℕ) (place : Place) → first_place bytes ≡ Some place → IsPlace bytes place
place_is bytes place is = by_test (is_none (front_fault behind) && leb (len_of behind) (length behind)) refl is where
  behind : List ℕ
  behind = drop (before_len bytes) bytes

  by_test : (b : Bool) → (is_none (front_fault (drop (before_len bytes) bytes)) && leb (len_of (drop (before_len bytes) bytes)) (length (drop (before_len bytes) bytes))) ≡ b →
      ◌≡◌ {A = Option Place} (cond b (Some (record { ecu = stored_ecu bytes; before = before_len bytes; len = len_of (drop (before_len bytes) bytes) })) None) (Some place) → IsPlace bytes place
  by_test true test some =
      let now = drop (before_len bytes) bytes in
      let found : Place = record { ecu = stored_ecu bytes; before = before_len bytes; len = len_of now } in
      let same : found ≡ place = cc in
      let parts = both (is_none (front_fault now)) (leb (len_of now) (length now)) test in
      subst (IsPlace bytes) same (record { ecu_is = refl; before_is = refl; front = none_is (front_fault now) parts.0; len = refl; within = leb-true (len_of now) (length now) parts.1 })
  by_test false test some = absurd cc

pub message_there : (bytes : List ℕ) (place : Place) → first_place bytes ≡ Some place → IsWholeMessage place.len (take place.len (drop place.before bytes))
message_there bytes place is =
    let p = place_is bytes place is in
    whole_front place.len place.len (drop place.before bytes) p.front p.len p.within (omega arith)

front_long : (m : List ℕ) → front_fault m ≡ None → 4 ≤ length m
front_long m none = by_test (ltb (length m) 4) refl none where
  by_test : (b : Bool) → ltb (length m) 4 ≡ b → ◌≡◌ {A = Option HeaderFault} (cond b (Some (Short 4)) (cond (not (eqb (version (htyp_of m)) 1)) (Some (Version (version (htyp_of m)))) (cond (ltb (len_of m) (header_len (htyp_of m))) (Some (Length (len_of m))) None))) None → 4 ≤ length m
  by_test true is some = absurd cc
  by_test false is rest = ltb-false (length m) 4 is

pub shorter : (bytes : List ℕ) (place : Place) → first_place bytes ≡ Some place → length (rest_behind place bytes) < length bytes
shorter bytes place is =
    let p = place_is bytes place is in
    let m = message_there bytes place is in
    let long = front_long (take place.len (drop place.before bytes)) m.front in
    omega (arith, long, p.within, length-take place.len (drop place.before bytes), length-drop place.len (drop place.before bytes), length-drop place.before bytes)

-- a message is found where it stands
is_found : (bytes : List ℕ) (place : Place) → IsPlace bytes place → first_place bytes ≡ Some place
is_found bytes place p =
    let behind = drop (before_len bytes) bytes in
    let here : drop place.before bytes ≡ behind = ap (λ (n : ℕ). drop n bytes) p.before_is in
    let front : is_none (front_fault behind) ≡ true = ap (λ (m : List ℕ). is_none (front_fault m)) (sym here) ∙ ap is_none p.front in
    let len : place.len ≡ len_of behind = p.len ∙ ap len_of here in
    let whole : leb (len_of behind) (length behind) ≡ true = le-leb (len_of behind) (length behind) (omega (arith, p.within, len, ap length here)) in
    cond-true (is_none (front_fault behind) && leb (len_of behind) (length behind)) _ _ (rw (front, whole) refl)
    ∙ λ i. Some (record { ecu = sym p.ecu_is i; before = sym p.before_is i; len = sym len i })

-- ---- with more bytes behind it

same_start : (pattern a b : List ℕ) → length pattern ≤ length a → starts_with eqb (a ++ b) pattern ≡ starts_with eqb a pattern
same_start pattern a b le = ap (λ (first : List ℕ). pointwise eqb pattern first) (take-append-le (length pattern) a b le)

pub before-append : (a b : List ℕ) → 4 ≤ length a → before_len (a ++ b) ≡ before_len a
before-append a b long = λ i. cond (same_start storage_pattern a b long i) 16 (cond (same_start serial_header a b long i) 4 0)

abbrev ecu_there : List ℕ → List ℕ
ecu_there bytes = slice_index bytes 12 ∷ slice_index bytes 13 ∷ slice_index bytes 14 ∷ slice_index bytes 15 ∷ []

stored-append : (a b : List ℕ) → 4 ≤ length a → before_len a ≤ length a → stored_ecu (a ++ b) ≡ stored_ecu a
stored-append a b long within = by_test (starts_with eqb a storage_pattern) refl where
  by_test : (there : Bool) → starts_with eqb a storage_pattern ≡ there → stored_ecu (a ++ b) ≡ stored_ecu a
  by_test true is =
      let n : before_len a ≡ 16 = cond-true (starts_with eqb a storage_pattern) 16 (cond (starts_with eqb a serial_header) 4 0) is in
      let enough : 16 ≤ length a = omega (arith, n, within) in
      let first : leb 16 (length a) ≡ true = le-leb 16 (length a) enough in
      let second : leb 16 (length (a ++ b)) ≡ true = le-leb 16 (length (a ++ b)) (omega (arith, enough, length-append a b)) in
      let now : starts_with eqb (a ++ b) storage_pattern ≡ true = same_start storage_pattern a b long ∙ is in
      let same : ecu_there (a ++ b) ≡ ecu_there a =
      λ i. get_or-append a b 0 12 (omega (arith, enough)) i ∷ get_or-append a b 0 13 (omega (arith, enough)) i ∷ get_or-append a b 0 14 (omega (arith, enough)) i ∷ get_or-append a b 0 15 (omega (arith, enough)) i ∷ [] in
      cond-true (starts_with eqb (a ++ b) storage_pattern && leb 16 (length (a ++ b))) (ecu_there (a ++ b)) zero_id (λ i. now i && second i) ∙ same
      ∙ sym (cond-true (starts_with eqb a storage_pattern && leb 16 (length a)) (ecu_there a) zero_id (λ i. is i && first i))
  by_test false is =
      let now : starts_with eqb (a ++ b) storage_pattern ≡ false = same_start storage_pattern a b long ∙ is in
      cond-false (starts_with eqb (a ++ b) storage_pattern && leb 16 (length (a ++ b))) (ecu_there (a ++ b)) zero_id (λ i. now i && leb 16 (length (a ++ b)))
      ∙ sym (cond-false (starts_with eqb a storage_pattern && leb 16 (length a)) (ecu_there a) zero_id (λ i. is i && leb 16 (length a)))

module _ (a b : List ℕ) (place : Place) (is : first_place a ≡ Some place) where
  there : IsPlace a place
  there = place_is a place is

  long : 4 ≤ length (drop place.before a)
  long = front_long (drop place.before a) there.front

  sizes : (4 ≤ length a) × (place.before ≤ length a)
  sizes = (omega (arith, long, length-drop place.before a), omega (arith, long, length-drop place.before a))

  pub behind-append : drop place.before (a ++ b) ≡ drop place.before a ++ b
  behind-append = drop-append-le place.before a b sizes.1

  pub first-append : first_place (a ++ b) ≡ Some place
  first-append = is_found (a ++ b) place (record {
    ecu_is = there.ecu_is ∙ sym (stored-append a b sizes.0 (subst (λ (n : ℕ). n ≤ length a) there.before_is sizes.1));
    before_is = there.before_is ∙ sym (before-append a b sizes.0);
    front = ap front_fault behind-append ∙ front_fault-append (drop place.before a) b long ∙ there.front;
    len = there.len ∙ sym (ap len_of behind-append ∙ len_of-append (drop place.before a) b long);
    within = omega (arith, there.within, ap length behind-append, length-append (drop place.before a) b);
  })

  pub told-append : told_at place (a ++ b) ≡ told_at place a
  told-append = ap (λ (m : List ℕ). told_of place.ecu m) (ap (take place.len) behind-append ∙ take-append-le place.len (drop place.before a) b there.within)

  pub rest-append : rest_behind place (a ++ b) ≡ rest_behind place a ++ b
  rest-append = ap (drop place.len) behind-append ∙ drop-append-le place.len (drop place.before a) b there.within

-- ---- what no message begins with

before_most : (bytes : List ℕ) → before_len bytes ≤ 16
before_most bytes = by_tests (starts_with eqb bytes storage_pattern) (starts_with eqb bytes serial_header) where
  by_tests : (stored serial : Bool) → cond stored 16 (cond serial 4 0) ≤ 16
  by_tests true serial = omega arith
  by_tests false true = omega arith
  by_tests false false = omega arith

abbrev front_of : List ℕ → Option HeaderFault
front_of bytes = front_fault (drop (before_len bytes) bytes)

front-append : (a b : List ℕ) → 20 ≤ length a → front_of (a ++ b) ≡ front_of a
front-append a b enough =
    let most = before_most a in
    let n = before_len a in
    ap (λ (k : ℕ). front_fault (drop k (a ++ b))) (before-append a b (omega (arith, enough))) ∙ ap front_fault (drop-append-le n a b (omega (arith, enough, most)))
    ∙ front_fault-append (drop n a) b (omega (arith, enough, most, length-drop n a))

bad_is_some : (front : Option HeaderFault) → is_bad_front front ≡ true → is_none front ≡ false
bad_is_some None bad = absurd cc
bad_is_some (Some fault) bad = refl

bad_front : (bad : Bool) → cond bad Bad Within ≡ Bad → bad ≡ true
bad_front true is = refl
bad_front false is = absurd cc

no_place : (bytes : List ℕ) → is_bad_front (front_of bytes) ≡ true → first_place bytes ≡ None
no_place bytes bad =
    let behind = drop (before_len bytes) bytes in
    let none : is_none (front_of bytes) ≡ false = bad_is_some (front_of bytes) bad in
    cond-false (is_none (front_fault behind) && leb (len_of behind) (length behind)) _ _ (λ i. none i && leb (len_of behind) (length behind))

-- a rest that is bad stays so, where the front of a message would be there
pub stays_bad : (rest : List ℕ) → 20 ≤ length rest → end_of rest ≡ Bad → EndsBad rest
stays_bad [] enough bad = absurd (omega (arith, enough))
stays_bad (byte ∷ rest) enough bad = λ behind.
    let same = front-append (byte ∷ rest) behind enough in
    let now : is_bad_front (front_of ((byte ∷ rest) ++ behind)) ≡ true = ap is_bad_front same ∙ bad_front (is_bad_front (front_of (byte ∷ rest))) bad in
    (no_place ((byte ∷ rest) ++ behind) now, cond-true _ _ _ now)
