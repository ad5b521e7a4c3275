-- Frames that are due to a link, as it takes bytes of them.
use Rattle.std.proofs.Common.{◌≡◌, ℕ, ◌+◌, ◌-◌, ◌*◌, ◌≤◌, ◌<◌, Bool, true, false, cond, take, drop, min, eqb, length-drop, List, [], ◌∷◌, ◌++◌, length, map, refl, sym, ap, ◌∙◌, length-append, append_assoc, subst, suc, zero, arith}
use Rattle.std.specs.Prelude.{◌&&◌, nat_lt, sum_by, Result, Ok, Err, IsOk, OnOk}
use Rattle.std.proofs.lemmas.Bool.Decides.{nat_tests}
use Rattle.std.proofs.lemmas.List.Sums.{sum_by-cons, sum_by-append, sum_by_push}
use Rattle.std.proofs.lemmas.List.{drop-append-le, length-take, map-append, take-append-drop, take_all}
use Rattle.std.proofs.Math.Seq.{drop-append-add, take-append_seam}
use Rattle.circular_buffer.specs.Buffer.{Buffer, buffer}
use Rattle.dl_control.specs.Reply.{daemon_apid, daemon_ctid}
use Rattle.dl_message.specs.Frames.{overflow_record}
use Rattle.dl_model.specs.Along.{along_from}
use Rattle.dl_model.specs.Overflow.{counters}
use Rattle.dl_model.specs.Traffic.{Traffic, Connected, Admitted, Reply, Closed, is_open}
use Rattle.dl_model.specs.Backlog.{size_of, waiting, fitting, refused, due_backlog}
use Rattle.dl_model.specs.ClientStream.{put, sent}
use Rattle.dl_hub.specs.State.{Waiting, consumed}
use Rattle.dl_hub.specs.Untaken.{Due, Outgoing, AreDue, AreShort, IsKept, all_due, bytes_due, in_front, no_message, one_message, outgoing, outgoing_at, past, refusals_told}

sum : (d : Due) (ds : List Due) → bytes_due (d ∷ ds) ≡ d.0 + bytes_due ds
sum d ds = sum_by-cons (λ (x : Due). x.0) d ds

pub none_past : (n : ℕ) → past n [] ≡ []
none_past zero = refl
none_past (suc n) = refl

pub drop_again : {A : Type 0} (n m : ℕ) (xs : List A) → drop m (drop n xs) ≡ drop (n + m) xs
drop_again zero m xs = ap (λ k. drop k xs) (omega arith)
drop_again (suc n) m [] = drop_none m ∙ sym (drop_none (suc n + m)) where
  drop_none : {A : Type 0} (k : ℕ) → drop {A = A} k [] ≡ []
  drop_none zero = refl
  drop_none (suc k) = refl
drop_again (suc n) m (x ∷ xs) = let next : suc n + m ≡ suc (n + m) = omega arith in rw next (drop_again n m xs)

-- bytes are taken, and then more
pub past-past : (a b : ℕ) (ds : List Due) → past b (past a ds) ≡ past (a + b) ds
past-past zero b ds = ap (λ k. past k ds) (omega arith)
past-past (suc n) b [] = none_past b ∙ sym (none_past (suc n + b))
past-past (suc n) b (d ∷ ds) = by_test (past-past (suc n - d.0) b ds) (nat_lt (suc n) d.0) refl where
  whole : suc n + b ≡ suc (n + b)
  whole = omega arith

  more : (b : ℕ) → suc n < d.0 → past b ((d.0 - suc n, d.1) ∷ ds) ≡ past (suc n + b) (d ∷ ds)
  more zero below = let same : suc n + 0 ≡ suc n = omega arith in let test : nat_lt (suc n) d.0 ≡ true = grind (arith, nat_tests, below) in rw (same, test) refl
  more (suc m) below =
      let all : suc n + suc m ≡ suc (n + suc m) = omega arith in
      rw all (by_more (nat_lt (suc m) (d.0 - suc n)) refl) where
        by_more : (t : Bool) → nat_lt (suc m) (d.0 - suc n) ≡ t → past (suc m) ((d.0 - suc n, d.1) ∷ ds) ≡ past (suc (n + suc m)) (d ∷ ds)
        by_more true e =
            let test : nat_lt (suc (n + suc m)) d.0 ≡ true = grind (arith, nat_tests, e, below) in
            let same : d.0 - suc n - suc m ≡ d.0 - suc (n + suc m) = omega (arith, below) in
            rw (e, test, same) refl
        by_more false e =
            let test : nat_lt (suc (n + suc m)) d.0 ≡ false = grind (arith, nat_tests, e, below) in
            let above : d.0 - suc n ≤ suc m = grind (arith, nat_tests, e) in
            let same : suc m - (d.0 - suc n) ≡ suc (n + suc m) - d.0 = omega (arith, below, above) in
            rw (e, test, same) refl

  by_test : past b (past (suc n - d.0) ds) ≡ past (suc n - d.0 + b) ds → (t : Bool) → nat_lt (suc n) d.0 ≡ t → past b (past (suc n) (d ∷ ds)) ≡ past (suc n + b) (d ∷ ds)
  by_test later true e = rw e (more b (grind (arith, nat_tests, e)))
  by_test later false e =
      let above : d.0 ≤ suc n = grind (arith, nat_tests, e) in
      let test : nat_lt (suc (n + b)) d.0 ≡ false = grind (arith, nat_tests, above) in
      let same : suc n - d.0 + b ≡ suc (n + b) - d.0 = omega (arith, above) in
      rw (e, whole, test) (later ∙ ap (λ k. past k ds) same)

-- frames that come behind
pub past-append : (n : ℕ) (ds es : List Due) → n ≤ bytes_due ds → past n (ds ++ es) ≡ past n ds ++ es
past-append zero ds es within = refl
past-append (suc n) [] es within = absurd (omega (arith, within))
past-append (suc n) (d ∷ ds) es within = by_test (past-append (suc n - d.0) ds es) (nat_lt (suc n) d.0) refl where
  by_test : (suc n - d.0 ≤ bytes_due ds → past (suc n - d.0) (ds ++ es) ≡ past (suc n - d.0) ds ++ es) → (t : Bool) → nat_lt (suc n) d.0 ≡ t → past (suc n) ((d ∷ ds) ++ es) ≡ past (suc n) (d ∷ ds) ++ es
  by_test later true e = rw e refl
  by_test later false e = rw e (later (omega (arith, within, sum d ds)))

-- ---- what a ring keeps to

pub four_each : (ds : List Due) → AreDue 4 ds → 4 * length ds ≤ bytes_due ds
four_each [] are = omega arith
four_each (d ∷ ds) are = omega (arith, sum d ds, are.0, four_each ds are.1)

pub few : (ds : List Due) → AreDue 1 ds → 4 * length ds ≤ bytes_due ds + 3
few [] are = omega arith
few (d ∷ ds) are = omega (arith, sum d ds, are.0, four_each ds are.1)

one_of_four : (ds : List Due) → AreDue 4 ds → AreDue 1 ds
one_of_four [] are = tt {0}
one_of_four (d ∷ ds) are = (omega (arith, are.0), are.1)

four_behind : (ds : List Due) (d : Due) → AreDue 4 ds → 4 ≤ d.0 → AreDue 4 (ds ++ d ∷ [])
four_behind [] d are large = (large, tt {0})
four_behind (x ∷ ds) d are large = (are.0, four_behind ds d are.1 large)

pub due_behind : (ds : List Due) (d : Due) → AreDue 1 ds → 4 ≤ d.0 → AreDue 1 (ds ++ d ∷ [])
due_behind [] d are large = (omega (arith, large), tt {0})
due_behind (x ∷ ds) d are large = (are.0, four_behind ds d are.1 large)

pub bytes_behind : (ds : List Due) (d : Due) → bytes_due (ds ++ d ∷ []) ≡ bytes_due ds + d.0
bytes_behind ds d = sum_by_push (λ (x : Due). x.0) ds d

pub due_past : (n : ℕ) (ds : List Due) → AreDue 1 ds → n ≤ bytes_due ds → AreDue 1 (past n ds) × (bytes_due (past n ds) + n ≡ bytes_due ds)
due_past zero ds are within = (are, omega arith)
due_past (suc n) [] are within = absurd (omega (arith, within))
due_past (suc n) (d ∷ ds) are within = by_test (due_past (suc n - d.0) ds) (nat_lt (suc n) d.0) refl where
  by_test : (AreDue 1 ds → suc n - d.0 ≤ bytes_due ds → AreDue 1 (past (suc n - d.0) ds) × (bytes_due (past (suc n - d.0) ds) + (suc n - d.0) ≡ bytes_due ds))
      → (t : Bool) → nat_lt (suc n) d.0 ≡ t → AreDue 1 (past (suc n) (d ∷ ds)) × (bytes_due (past (suc n) (d ∷ ds)) + suc n ≡ bytes_due (d ∷ ds))
  by_test later true e =
      let below : suc n < d.0 = grind (arith, nat_tests, e) in
      rw e ((omega (arith, below), are.1), omega (arith, below, sum d ds, sum (d.0 - suc n, d.1) ds))
  by_test later false e =
      let above : d.0 ≤ suc n = grind (arith, nat_tests, e) in
      let rest = later (one_of_four ds are.1) (omega (arith, within, sum d ds)) in
      rw e (rest.0, omega (arith, rest.1, above, sum d ds))

-- no bytes, no frame
pub none_due : (ds : List Due) → AreDue 1 ds → bytes_due ds ≡ 0 → ds ≡ []
none_due [] are none = refl
none_due (d ∷ ds) are none = absurd (omega (arith, are.0, sum d ds, none))

-- ---- a ring

short_behind : (h : ℕ) (ds : List Due) (d : Due) → AreShort h ds → d.0 ≤ 65535 → AreShort h (ds ++ d ∷ [])
short_behind h [] d are small = (omega (arith, are, small), refl)
short_behind h (x ∷ ds) d are small = (are.0, short_behind 0 ds d are.1 small)

short_past : (h n : ℕ) (ds : List Due) → AreShort h ds → n ≤ bytes_due ds → AreShort (in_front h n ds) (past n ds)
short_past h zero ds are within = are
short_past h (suc n) [] are within = absurd (omega (arith, within))
short_past h (suc n) (d ∷ ds) are within = by_test (short_past 0 (suc n - d.0) ds are.1) (nat_lt (suc n) d.0) refl where
  by_test : (suc n - d.0 ≤ bytes_due ds → AreShort (in_front 0 (suc n - d.0) ds) (past (suc n - d.0) ds))
      → (t : Bool) → nat_lt (suc n) d.0 ≡ t → AreShort (in_front h (suc n) (d ∷ ds)) (past (suc n) (d ∷ ds))
  by_test later true e =
      let below : suc n < d.0 = grind (arith, nat_tests, e) in
      rw e (omega (arith, below, are.0), are.1)
  by_test later false e = rw e (later (omega (arith, within, sum d ds)))

pub begun_short : (h : ℕ) (ds : List Due) → AreShort h ds → h ≤ 65535
begun_short h [] are = omega (arith, are)
begun_short h (d ∷ ds) are = omega (arith, are.0)

-- no more is begun than was taken
pub front_within : (h n : ℕ) (ds : List Due) → in_front h n ds ≤ h + n
front_within h zero ds = omega arith
front_within h (suc n) [] = omega arith
front_within h (suc n) (d ∷ ds) = by_test (front_within 0 (suc n - d.0) ds) (nat_lt (suc n) d.0) refl where
  by_test : in_front 0 (suc n - d.0) ds ≤ 0 + (suc n - d.0) → (t : Bool) → nat_lt (suc n) d.0 ≡ t → in_front h (suc n) (d ∷ ds) ≤ h + suc n
  by_test later true e = rw e (omega arith)
  by_test later false e = rw e (omega (arith, later))

-- frames behind are not begun
pub front-append : (h n : ℕ) (ds es : List Due) → n ≤ bytes_due ds → in_front h n (ds ++ es) ≡ in_front h n ds
front-append h zero ds es within = refl
front-append h (suc n) [] es within = absurd (omega (arith, within))
front-append h (suc n) (d ∷ ds) es within = by_test (front-append 0 (suc n - d.0) ds es) (nat_lt (suc n) d.0) refl where
  by_test : (suc n - d.0 ≤ bytes_due ds → in_front 0 (suc n - d.0) (ds ++ es) ≡ in_front 0 (suc n - d.0) ds)
      → (t : Bool) → nat_lt (suc n) d.0 ≡ t → in_front h (suc n) ((d ∷ ds) ++ es) ≡ in_front h (suc n) (d ∷ ds)
  by_test later true e = rw e refl
  by_test later false e = rw e (later (omega (arith, within, sum d ds)))

-- bytes are taken, and then more
pub front-past : (h a b : ℕ) (ds : List Due) → in_front (in_front h a ds) b (past a ds) ≡ in_front h (a + b) ds
front-past h zero b ds = ap (λ k. in_front h k ds) (omega arith)
front-past h (suc n) b [] = nothing b ∙ sym (ap (λ k. in_front h k []) whole) where
  whole : suc n + b ≡ suc (n + b)
  whole = omega arith

  nothing : (k : ℕ) → in_front 0 k [] ≡ 0
  nothing zero = refl
  nothing (suc k) = refl
front-past h (suc n) b (d ∷ ds) = by_test (front-past 0 (suc n - d.0) b ds) (nat_lt (suc n) d.0) refl where
  whole : suc n + b ≡ suc (n + b)
  whole = omega arith

  more : (b : ℕ) → suc n < d.0 → in_front (h + suc n) b ((d.0 - suc n, d.1) ∷ ds) ≡ in_front h (suc n + b) (d ∷ ds)
  more zero below = let same : suc n + 0 ≡ suc n = omega arith in let test : nat_lt (suc n) d.0 ≡ true = grind (arith, nat_tests, below) in rw (same, test) refl
  more (suc m) below =
      let all : suc n + suc m ≡ suc (n + suc m) = omega arith in
      rw all (by_more (nat_lt (suc m) (d.0 - suc n)) refl) where
        by_more : (t : Bool) → nat_lt (suc m) (d.0 - suc n) ≡ t → in_front (h + suc n) (suc m) ((d.0 - suc n, d.1) ∷ ds) ≡ in_front h (suc (n + suc m)) (d ∷ ds)
        by_more true e =
            let test : nat_lt (suc (n + suc m)) d.0 ≡ true = grind (arith, nat_tests, e, below) in
            rw (e, test) (omega arith)
        by_more false e =
            let test : nat_lt (suc (n + suc m)) d.0 ≡ false = grind (arith, nat_tests, e, below) in
            let above : d.0 - suc n ≤ suc m = grind (arith, nat_tests, e) in
            let same : suc m - (d.0 - suc n) ≡ suc (n + suc m) - d.0 = omega (arith, below, above) in
            rw (e, test, same) refl

  by_test : in_front (in_front 0 (suc n - d.0) ds) b (past (suc n - d.0) ds) ≡ in_front 0 (suc n - d.0 + b) ds
      → (t : Bool) → nat_lt (suc n) d.0 ≡ t → in_front (in_front h (suc n) (d ∷ ds)) b (past (suc n) (d ∷ ds)) ≡ in_front h (suc n + b) (d ∷ ds)
  by_test later true e = rw e (more b (grind (arith, nat_tests, e)))
  by_test later false e =
      let above : d.0 ≤ suc n = grind (arith, nat_tests, e) in
      let test : nat_lt (suc (n + b)) d.0 ≡ false = grind (arith, nat_tests, above) in
      let same : suc n - d.0 + b ≡ suc (n + b) - d.0 = omega (arith, above) in
      rw (e, whole, test) (later ∙ ap (λ k. in_front 0 k ds) same)

pub pushed-kept : (begun bytes capacity : ℕ) (ds : List Due) (places n m : ℕ) → IsKept begun bytes capacity ds places → bytes + n ≤ capacity → 4 ≤ n → n ≤ 65535
    → IsKept begun (bytes + n) capacity (ds ++ (n, m) ∷ []) places × (length ds < places)
pushed-kept begun bytes capacity ds places n m kept room large small = (
  record {
    large = due_behind ds (n, m) kept.large large;
    short = short_behind begun ds (n, m) kept.short small;
    all = omega (arith, bytes_behind ds (n, m), kept.all);
    within = room;
    enough = kept.enough;
  },
  omega (arith, few ds kept.large, kept.all, kept.enough, room, large),
)

pub taken-kept : (begun bytes capacity : ℕ) (ds : List Due) (places n : ℕ) → IsKept begun bytes capacity ds places → n ≤ bytes → IsKept (in_front begun n ds) (bytes - n) capacity (past n ds) places
taken-kept begun bytes capacity ds places n kept within =
    let it = due_past n ds kept.large (omega (arith, within, kept.all)) in
    record {
      large = it.0;
      short = short_past begun n ds kept.short (omega (arith, within, kept.all));
      all = omega (arith, it.1, kept.all);
      within = omega (arith, kept.within);
      enough = kept.enough;
    }

-- ---- messages

pub messages_one : (ds : List Due) (d : Due) → sum_by (λ (x : Due). x.1) (ds ++ d ∷ []) ≡ sum_by (λ (x : Due). x.1) ds + d.1
messages_one ds d = sum_by_push (λ (x : Due). x.1) ds d

pub messages_both : (ds es : List Due) → sum_by (λ (x : Due). x.1) (ds ++ es) ≡ sum_by (λ (x : Due). x.1) ds + sum_by (λ (x : Due). x.1) es
messages_both ds es = sum_by-append (λ (x : Due). x.1) ds es

-- ---- answers

pub on_ok : {T E : Type 0} (r : Result T E) (P : Type 0) → OnOk r P → IsOk r → P
on_ok (Ok x) P h is = h
on_ok (Err e) P h is = absurd cc

pub filled : {A : Type 0} (new : Buffer A) (xs ys : List A) (capacity count : ℕ) → count ≡ min (length ys) (capacity - length xs) → new ≡ buffer (xs ++ take count ys) capacity
    → length xs + length ys ≤ capacity → new ≡ buffer (xs ++ ys) capacity
filled new xs ys capacity count is new_is fits = new_is ∙ ap (λ zs. buffer (xs ++ zs) capacity) (take_all count ys (omega (arith, is, fits)))

-- both parts of another buffer
pub filled-both : {A : Type 0} (one two : Buffer A) (xs ys all : List A) (capacity first second : ℕ) → first ≡ min (length xs) (capacity - 0) → one ≡ buffer (take first xs) capacity
    → second ≡ min (length ys) (one.capacity - length one.items) → two ≡ buffer (one.items ++ take second ys) one.capacity
    → xs ++ ys ≡ all → length all ≤ capacity → two ≡ buffer all capacity
filled-both {A = A} one two xs ys all capacity first second is one_is next two_is both fits =
    let long : length xs + length ys ≡ length all = sym (length-append xs ys) ∙ ap length both in
    let begun : one ≡ buffer xs capacity = one_is ∙ ap (λ zs. buffer zs capacity) (take_all first xs (omega (arith, is, long, fits))) in
    let cap : one.capacity ≡ capacity = ap (λ (b : Buffer A). b.capacity) begun in
    let items : one.items ≡ xs = ap (λ (b : Buffer A). b.items) begun in
    let behind : two ≡ buffer (one.items ++ ys) one.capacity = filled two one.items ys one.capacity second next two_is (omega (arith, cap, ap length items, long, fits)) in
    behind ∙ ap (λ (b : Buffer A). buffer (b.items ++ ys) b.capacity) begun ∙ ap (λ zs. buffer zs capacity) both

pub kept_places : (begun bytes capacity room places more : ℕ) (ds : List Due) → IsKept begun bytes room ds places → bytes ≤ capacity → capacity < 4 * more → IsKept begun bytes capacity ds more × (length ds ≤ more)
kept_places begun bytes capacity room places more ds kept within enough = (
  record { large = kept.large; short = kept.short; all = kept.all; within = within; enough = enough },
  omega (arith, few ds kept.large, kept.all, within, enough),
)

-- ---- the frames of a stream

each_message : (frames : List (List ℕ)) → map (λ (x : Outgoing). x.frame) (map one_message frames) ≡ frames
each_message [] = refl
each_message (f ∷ fs) = ap (λ xs. f ∷ xs) (each_message fs)

each_record : (ecu : List ℕ) (ns : List ℕ) → map (λ (x : Outgoing). x.frame) (map (refusals_told ecu) ns) ≡ map (overflow_record ecu daemon_apid daemon_ctid) ns
each_record ecu [] = refl
each_record ecu (n ∷ ns) = ap (λ xs. overflow_record ecu daemon_apid daemon_ctid n ∷ xs) (each_record ecu ns)

frames_at : (ecu : List ℕ) (buffer client : ℕ) (before : List Traffic) (t : Traffic) → map (λ (x : Outgoing). x.frame) (outgoing_at ecu buffer client before t) ≡ put ecu buffer client before t
frames_at ecu buffer client before (Connected other) = by_test (eqb other client) where
  messages : List Outgoing
  messages = map one_message (fitting buffer (waiting before))

  records : List Outgoing
  records = map (refusals_told ecu) (counters (refused buffer (waiting before)))

  by_test : (b : Bool) → map (λ (x : Outgoing). x.frame) (cond b (messages ++ records) []) ≡ cond b (due_backlog ecu buffer (waiting before)) []
  by_test true =
      map-append (λ (x : Outgoing). x.frame) messages records
      ∙ ap (λ xs. xs ++ map (λ (x : Outgoing). x.frame) records) (each_message (fitting buffer (waiting before)))
      ∙ ap (λ xs. fitting buffer (waiting before) ++ xs) (each_record ecu (counters (refused buffer (waiting before))))
  by_test false = refl
frames_at ecu buffer client before (Admitted frame) = by_test (is_open client before) where
  by_test : (b : Bool) → map (λ (x : Outgoing). x.frame) (cond b (one_message frame ∷ []) []) ≡ cond b (frame ∷ []) []
  by_test true = refl
  by_test false = refl
frames_at ecu buffer client before (Reply other frame) = by_test (eqb other client && is_open client before) where
  by_test : (b : Bool) → map (λ (x : Outgoing). x.frame) (cond b (no_message frame ∷ []) []) ≡ cond b (frame ∷ []) []
  by_test true = refl
  by_test false = refl
frames_at ecu buffer client before (Closed other) = refl

frames_from : (ecu : List ℕ) (buffer client : ℕ) (before ts : List Traffic) → map (λ (x : Outgoing). x.frame) (along_from (outgoing_at ecu buffer client) before ts) ≡ along_from (put ecu buffer client) before ts
frames_from ecu buffer client before [] = refl
frames_from ecu buffer client before (t ∷ ts) =
    map-append (λ (x : Outgoing). x.frame) (outgoing_at ecu buffer client before t) (along_from (outgoing_at ecu buffer client) (before ++ t ∷ []) ts)
    ∙ ap (λ xs. xs ++ map (λ (x : Outgoing). x.frame) (along_from (outgoing_at ecu buffer client) (before ++ t ∷ []) ts)) (frames_at ecu buffer client before t)
    ∙ ap (λ xs. put ecu buffer client before t ++ xs) (frames_from ecu buffer client (before ++ t ∷ []) ts)

pub frames_outgoing : (ecu : List ℕ) (buffer client : ℕ) (ts : List Traffic) → map (λ (x : Outgoing). x.frame) (outgoing ecu buffer client ts) ≡ sent ecu buffer client ts
frames_outgoing ecu buffer client ts = frames_from ecu buffer client [] ts

size_due : (os : List Outgoing) → bytes_due (all_due os) ≡ size_of (map (λ (x : Outgoing). x.frame) os)
size_due [] = refl
size_due (o ∷ os) = omega (arith, sum (length o.frame, o.messages) (all_due os), size_due os, sum_by-cons length o.frame (map (λ (x : Outgoing). x.frame) os))

pub size_outgoing : (ecu : List ℕ) (buffer client : ℕ) (ts : List Traffic) → bytes_due (all_due (outgoing ecu buffer client ts)) ≡ size_of (sent ecu buffer client ts)
size_outgoing ecu buffer client ts = size_due (outgoing ecu buffer client ts) ∙ ap size_of (frames_outgoing ecu buffer client ts)

none_mapped : {A B : Type 0} (f : A → B) (xs : List A) → map f xs ≡ [] → xs ≡ []
none_mapped f [] none = refl
none_mapped f (x ∷ xs) none = absurd cc

-- a client that was sent no frame
pub nothing_outgoing : (ecu : List ℕ) (buffer client : ℕ) (ts : List Traffic) → sent ecu buffer client ts ≡ [] → outgoing ecu buffer client ts ≡ []
nothing_outgoing ecu buffer client ts none = none_mapped (λ (x : Outgoing). x.frame) (outgoing ecu buffer client ts) (frames_outgoing ecu buffer client ts ∙ none)

-- one frame more waits
pub due_one : (frames : List (List ℕ)) (f : List ℕ) → all_due (map one_message (frames ++ f ∷ [])) ≡ all_due (map one_message frames) ++ (length f, 1) ∷ []
due_one [] f = refl
due_one (x ∷ xs) f = ap (λ ds. (length x, 1) ∷ ds) (due_one xs f)

pub records_are : (ecu : List ℕ) (ns : List ℕ) → all_due (map (refusals_told ecu) ns) ≡ map (λ n. (length (overflow_record ecu daemon_apid daemon_ctid n), n)) ns
records_are ecu [] = refl
records_are ecu (n ∷ ns) = ap (λ ds. (length (overflow_record ecu daemon_apid daemon_ctid n), n) ∷ ds) (records_are ecu ns)

pub nothing_kept : (begun bytes capacity places : ℕ) (ds : List Due) → IsKept begun bytes capacity ds places → bytes ≡ 0 → (ds ≡ []) × (begun ≡ 0)
nothing_kept begun bytes capacity places ds kept none =
    let nothing : ds ≡ [] = none_due ds kept.large (kept.all ∙ none) in
    (nothing, subst (AreShort begun) nothing kept.short)

pub no_items : {A : Type 0} (xs : List A) → length xs ≡ 0 → xs ≡ []
no_items [] none = refl
no_items (x ∷ xs) none = absurd (omega (arith, none))

-- bytes that are begun and bytes that wait, one behind the other
pub begun_wait : {A : Type 0} (b : ℕ) (xs : List A) → b ≤ length xs → (length (take b xs) ≡ b) × (length (drop b xs) ≡ length xs - b)
begun_wait b xs within = (omega (arith, length-take b xs, within), length-drop b xs)

pub dropped : {A : Type 0} (n k : ℕ) (xs : List A) → k ≤ n → drop k (drop (n - k) xs) ≡ drop n xs
dropped n k xs within = drop_again (n - k) k xs ∙ ap (λ m. drop m xs) (omega (arith, within))

-- ---- what waits

pub consumed_none : (w : Waiting) → consumed 0 w ≡ w
consumed_none w =
    let nothing : length w.begun + 0 - length w.begun ≡ 0 = omega arith in
    let same : take (length w.begun) (drop (length w.begun + 0 - length w.begun) (w.begun ++ w.bytes)) ≡ w.begun = rw nothing (take-append_seam w.begun w.bytes) in
    ap (λ xs. record w { begun = xs }) same

-- what was taken of the first frame, and what waits, is the end of all that was there
pub drop_nothing : (n : ℕ) → drop {A = ℕ} n [] ≡ []
drop_nothing zero = refl
drop_nothing (suc n) = refl

pub begun_behind : (n k : ℕ) (all : List ℕ) → k ≤ n → take k (drop (n - k) all) ++ drop n all ≡ drop (n - k) all
begun_behind n k all within = ap (λ xs. take k (drop (n - k) all) ++ xs) (sym (dropped n k all within)) ∙ take-append-drop k (drop (n - k) all)

pub consumed_again : (a b : ℕ) (w : Waiting) → a ≤ length w.bytes → consumed b (consumed a w) ≡ consumed (a + b) w
consumed_again a b w within =
    let h = length w.begun in
    let all = w.begun ++ w.bytes in
    let k = in_front h a w.due in
    let j = in_front h (a + b) w.due in
    let most : k ≤ h + a = front_within h a w.due in
    let long : length (take k (drop (h + a - k) all)) ≡ k = omega (arith, length-take k (drop (h + a - k) all), length-drop (h + a - k) all, length-append w.begun w.bytes, most, within) in
    let next : in_front k b (past a w.due) ≡ j = front-past h a b w.due in
    let later : j ≤ k + b = subst (λ i. i ≤ k + b) next (front_within k b (past a w.due)) in
    let bytes : drop a w.bytes ≡ drop (h + a) all = sym (drop-append-add w.begun w.bytes a) in
    let joined : take k (drop (h + a - k) all) ++ drop a w.bytes ≡ drop (h + a - k) all = ap (λ xs. take k (drop (h + a - k) all) ++ xs) bytes ∙ begun_behind (h + a) k all most in
    let place : h + a - k + (k + b - j) ≡ h + (a + b) - j = omega (arith, most, later) in
    let begun : take j (drop (k + b - j) (take k (drop (h + a - k) all) ++ drop a w.bytes)) ≡ take j (drop (h + (a + b) - j) all) =
    ap (λ xs. take j (drop (k + b - j) xs)) joined ∙ ap (take j) (drop_again (h + a - k) (k + b - j) all ∙ ap (λ i. drop i all) place) in
    rw (long, next, drop_again a b w.bytes, past-past a b w.due, begun) refl

-- the same of a stream of which a link took bytes
pub begun_stream : (taken bytes : List ℕ) (count k j : ℕ) → k ≤ length taken → j ≤ k + count → count ≤ length bytes
    → drop (length taken + count - j) (taken ++ take count bytes) ≡ take j (drop (k + count - j) (drop (length taken - k) taken ++ bytes))
begun_stream taken bytes count k j within later fits =
    let n = length taken in
    let seen : drop (n - k) taken ++ bytes ≡ drop (n - k) (taken ++ bytes) = sym (drop-append-le (n - k) taken bytes (omega arith)) in
    let place : n - k + (k + count - j) ≡ n + count - j = omega (arith, within, later) in
    let right : take j (drop (k + count - j) (drop (n - k) taken ++ bytes)) ≡ take j (drop (n + count - j) (taken ++ bytes)) =
    ap (λ xs. take j (drop (k + count - j) xs)) seen ∙ ap (take j) (drop_again (n - k) (k + count - j) (taken ++ bytes) ∙ ap (λ i. drop i (taken ++ bytes)) place) in
    let whole : taken ++ bytes ≡ (taken ++ take count bytes) ++ drop count bytes = ap (λ xs. taken ++ xs) (sym (take-append-drop count bytes)) ∙ sym (append_assoc taken (take count bytes) (drop count bytes)) in
    let long : length (taken ++ take count bytes) ≡ n + count = length-append taken (take count bytes) ∙ omega (arith, length-take count bytes, fits) in
    let rest : length (drop (n + count - j) (taken ++ take count bytes)) ≡ j = omega (arith, length-drop (n + count - j) (taken ++ take count bytes), long, within, later) in
    let cut : drop (n + count - j) (taken ++ bytes) ≡ drop (n + count - j) (taken ++ take count bytes) ++ drop count bytes =
    ap (drop (n + count - j)) whole ∙ drop-append-le (n + count - j) (taken ++ take count bytes) (drop count bytes) (omega (arith, long)) in
    sym (right ∙ ap (take j) cut ∙ ap (λ i. take i (drop (n + count - j) (taken ++ take count bytes) ++ drop count bytes)) (sym rest) ∙ take-append_seam (drop (n + count - j) (taken ++ take count bytes)) (drop count bytes))
