-- What keeps the hub within its bounds.
use Rattle.std.proofs.Common.{◌≡◌, ℕ, ◌+◌, ◌-◌, ◌^◌, ◌≤◌, ◌<◌, ◌⊎◌, inl, inr, Bool, true, false, cond, eqb, leb, get_or, List, [], ◌∷◌, ◌++◌, length, map, Option, Some, None, refl, sym, ◌∙◌, length-append, length-drop, subst, suc, zero, arith}
use Rattle.std.specs.Prelude.{count_by, sum_by, slice_get, slice_set, IfSome, IsSome, IsTrue, nat_lt, nat_le, ◌||◌, ◌&&◌}
use Rattle.std.specs.List.{All, list_any, list_all}
use Rattle.std.specs.Option.{option_and_then, option_map_or}
use Rattle.std.proofs.lemmas.List.{length-map, length-set}
use Rattle.std.proofs.lemmas.Option.{get_or_from_slice_get, slice_get_within}
use Rattle.std.proofs.lemmas.List.Elements.{All-set, All-map, All-append, All-cons}
use Rattle.std.proofs.lemmas.List.Sums.{sum_by-cons, sum_by_push}
use Rattle.std.proofs.lemmas.Bool.{le-leb}
use Rattle.std.proofs.lemmas.Bool.Decides.{nat_tests, leb_tells}
use Rattle.dl_lemmas.proofs.Bools.{both}
use Rattle.dl_model.specs.Backlog.{outbox_limit}
use Rattle.dl_hub.specs.State.{Client, Waiting, Stored, Hub, hub_of, stored, keeps, emptied, with_frame, with_reply, without, shut, is_open, takes, outbox_of, EachHasRoom, changed}
use Rattle.dl_hub.specs.Kept.{Fits, IsBounded, IsFree}
use Rattle.dl_hub.proofs.Places.{slice_get_or, still_open}

-- ---- counts

pub left_more : (clients : List Client) (client : Client) → sum_by (λ (c : Client). c.left) (clients ++ client ∷ []) ≡ sum_by (λ (c : Client). c.left) clients + client.left
left_more clients client = sum_by_push (λ (c : Client). c.left) clients client

pub messages_more : (clients : List Client) (client : Client) → sum_by (λ (c : Client). c.messages) (clients ++ client ∷ []) ≡ sum_by (λ (c : Client). c.messages) clients + client.messages
messages_more clients client = sum_by_push (λ (c : Client). c.messages) clients client

pub count-cons : {X : Type 0} (p : X → Bool) (x : X) (xs : List X) → count_by p (x ∷ xs) ≡ cond (p x) 1 0 + count_by p xs
count-cons p x xs = sum_by-cons (λ y. cond (p y) 1 0) x xs

pub any_counts : {X : Type 0} (p : X → Bool) (xs : List X) → list_any p xs ≡ nat_lt 0 (count_by p xs)
any_counts p [] = refl
any_counts p (x ∷ xs) = rw (count-cons p x xs) (by_test (p x) (any_counts p xs)) where
  by_test : (b : Bool) → list_any p xs ≡ nat_lt 0 (count_by p xs) → (b || list_any p xs) ≡ nat_lt 0 (cond b 1 0 + count_by p xs)
  by_test true later = grind (arith, nat_tests)
  by_test false later = let same : 0 + count_by p xs ≡ count_by p xs = omega arith in rw same later

pub count-set : {X : Type 0} (p : X → Bool) (xs : List X) (i : ℕ) (x y : X) → slice_get xs i ≡ Some x → count_by p (slice_set xs i y) + cond (p x) 1 0 ≡ count_by p xs + cond (p y) 1 0
count-set p [] i x y e = absurd cc
count-set p (z ∷ zs) zero x y e = let same : z ≡ x = cc in rw same (omega (arith, count-cons p y zs, count-cons p x zs))
count-set p (z ∷ zs) (suc i) x y e = omega (arith, count-set p zs i x y e, count-cons p z zs, count-cons p z (slice_set zs i y))

-- ---- a client by its number

-- an open client's number is above 0, and it is there
no_outbox : {A : Type 0} → IsSome {T = Waiting} None → A
no_outbox h = absurd cc

pub found : (hub : Hub) (number : ℕ) → IsSome (outbox_of hub number) → (c : Client) × (w : Waiting) × (slice_get hub.clients (number - 1) ≡ Some c) × (c.outbox ≡ Some w) × (0 < number) × (outbox_of hub number ≡ Some w)
found hub number there = by_number number there (leb_tells 1 number) where
  by_client : (o : Option Client) → IsSome (option_and_then (λ client. client.outbox) o) → (c : Client) × (w : Waiting) × (o ≡ Some c) × (c.outbox ≡ Some w) × (option_and_then (λ client. client.outbox) o ≡ Some w)
  by_client None h = absurd cc
  by_client (Some c) h = by_outbox c.outbox refl h where
    by_outbox : (o : Option Waiting) → c.outbox ≡ o → IsSome c.outbox → (d : Client) × (w : Waiting) × (Some c ≡ Some d) × (d.outbox ≡ Some w) × (c.outbox ≡ Some w)
    by_outbox None e h = no_outbox (subst (λ o. IsSome o) e h)
    by_outbox (Some w) e h = (c, w, refl, e, e)

  by_number : (n : ℕ) → IsSome (outbox_of hub n) → ((leb 1 n ≡ true) × (1 ≤ n)) ⊎ ((leb 1 n ≡ false) × (n < 1)) →
      (c : Client) × (w : Waiting) × (slice_get hub.clients (n - 1) ≡ Some c) × (c.outbox ≡ Some w) × (0 < n) × (outbox_of hub n ≡ Some w)
  by_number n h (inr none) = let is_zero : n ≡ 0 = omega (arith, none.1) in no_outbox (subst (λ k. IsSome (outbox_of hub k)) is_zero h)
  by_number n h (inl some) =
      let not_zero : eqb n 0 ≡ false = grind (arith, nat_tests, some.1) in
      let it = by_client (slice_get hub.clients (n - 1)) (rw not_zero at h) in
      (it.0, it.1, it.2, it.3, some.1, rw not_zero it.4)

pub changed_at : (hub : Hub) (number : ℕ) (change : Client → Client) (c : Client) → 0 < number → slice_get hub.clients (number - 1) ≡ Some c
    → changed number change hub ≡ record hub { clients = slice_set hub.clients (number - 1) (change c) }
changed_at hub number change c some is = let not_zero : eqb number 0 ≡ false = grind (arith, nat_tests) in rw (not_zero, is) refl

-- ---- bounds

-- one client changes, and is open or not as before
pub fits-change : (ecu : List ℕ) (store : Stored) (limit : ℕ) (clients : List Client) (n : ℕ) (free : List Waiting) (place : ℕ) (old new : Client)
    → Fits (hub_of ecu store limit clients n) free → slice_get clients place ≡ Some old → IsBounded store.ring.capacity n new → is_open new ≡ is_open old
    → Fits (hub_of ecu store limit (slice_set clients place new) n) free
fits-change ecu store limit clients n free place old new fits is bounded same = record {
  ecu = fits.ecu;
  came = rw (length-set clients place new) fits.came;
  outboxes = let counted = count-set is_open clients place old new is in omega (arith, fits.outboxes, rw same at counted);
  each = All-set (IsBounded store.ring.capacity n) clients place new bounded fits.each;
  unused = fits.unused;
  fits = fits.fits;
  admissions = fits.admissions;
  frames = fits.frames;
  refusals = fits.refusals;
  bytes = fits.bytes;
}

-- one client goes, and its outbox is free
pub fits-close : (ecu : List ℕ) (store : Stored) (limit : ℕ) (clients : List Client) (n : ℕ) (free : List Waiting) (place : ℕ) (old : Client) (w : Waiting)
    → Fits (hub_of ecu store limit clients n) free → slice_get clients place ≡ Some old → old.outbox ≡ Some w → IsBounded store.ring.capacity n old
    → Fits (hub_of ecu store limit (slice_set clients place (shut old)) n) (free ++ emptied w ∷ [])
fits-close ecu store limit clients n free place old w fits is there bounded = record {
  ecu = fits.ecu;
  came = rw (length-set clients place (shut old)) fits.came;
  outboxes =
      let counted = count-set is_open clients place old (shut old) is in
      let was : is_open old ≡ true = rw there refl in
      rw (length-append free (emptied w ∷ [])) (omega (arith, fits.outboxes, rw was at counted));
  each = All-set (IsBounded store.ring.capacity n) clients place (shut old) (record { outbox = tt {0}; frames = bounded.frames; bytes = bounded.bytes; replies = bounded.replies }) fits.each;
  unused = All-append (IsFree store.ring.capacity) free (emptied w ∷ []) fits.unused (All-cons (IsFree store.ring.capacity) (emptied w) [] (refl, (rw there at bounded.outbox).0, refl, refl) (λ k d below. absurd (omega (arith, below))));
  fits = fits.fits;
  admissions = fits.admissions;
  frames = fits.frames;
  refusals = fits.refusals;
  bytes = fits.bytes;
}

-- ---- what the bounds of the hub say of one client

pub bounded-at : (ecu : List ℕ) (store : Stored) (limit : ℕ) (clients : List Client) (n : ℕ) (free : List Waiting) (place : ℕ) (c : Client)
    → Fits (hub_of ecu store limit clients n) free → slice_get clients place ≡ Some c → IsBounded store.ring.capacity n c
bounded-at ecu store limit clients n free place c fits is =
    subst (IsBounded store.ring.capacity n) (get_or_from_slice_get clients place c c is) (fits.each place c (slice_get_within clients place c is))

-- a reply keeps a client within its bounds
pub bounded-reply : (buffer n : ℕ) (frame : List ℕ) (c : Client) (w : Waiting) → IsBounded buffer n c → c.outbox ≡ Some w → length w.bytes + length frame ≤ w.capacity
    → length frame ≤ 65535 → c.replies < 1000 → IsBounded buffer n (with_reply frame c)
bounded-reply buffer n frame c w bounded there room size few =
    let old : (w.capacity ≡ outbox_limit buffer) × (length w.bytes ≤ outbox_limit buffer) = rw there at bounded.outbox in
    record {
      outbox = rw there ((old.0, rw (length-append w.bytes frame) (omega (arith, room, old.0))));
      frames = omega (arith, bounded.frames);
      bytes = omega (arith, bounded.bytes, size);
      replies = omega (arith, few);
    }

-- and so do bytes that its link takes
pub bounded-took : (buffer n count : ℕ) (c : Client) (w : Waiting) → IsBounded buffer n c → c.outbox ≡ Some w → IsBounded buffer n (without count c)
bounded-took buffer n count c w bounded there =
    let old : (w.capacity ≡ outbox_limit buffer) × (length w.bytes ≤ outbox_limit buffer) = rw there at bounded.outbox in
    record {
      outbox = rw there ((old.0, omega (arith, length-drop count w.bytes, old.1)));
      frames = bounded.frames;
      bytes = bounded.bytes;
      replies = bounded.replies;
    }

-- a frame that is admitted keeps each client within its bounds
pub bounded-frame : (buffer n : ℕ) (frame : List ℕ) (c : Client) → IsBounded buffer n c → IfSome c.outbox (λ w. length w.bytes + length frame ≤ w.capacity)
    → length frame ≤ 1984 → IsBounded buffer (n + 1) (with_frame frame c)
bounded-frame buffer n frame c bounded room size = by_outbox c.outbox bounded room where
  by_outbox : (o : Option Waiting) → IsBounded buffer n (record c { outbox = o })
      → IfSome o (λ w. length w.bytes + length frame ≤ w.capacity) → IsBounded buffer (n + 1) (with_frame frame (record c { outbox = o }))
  by_outbox None b h = record { outbox = tt {0}; frames = omega (arith, b.frames); bytes = b.bytes; replies = b.replies }
  by_outbox (Some w) b h = record {
    outbox = (b.outbox.0, rw (length-append w.bytes frame) (omega (arith, h, b.outbox.0)));
    frames = omega (arith, b.frames);
    bytes = omega (arith, b.bytes, size);
    replies = b.replies;
  }

count-frames : (frame : List ℕ) (clients : List Client) → count_by is_open (map (with_frame frame) clients) ≡ count_by is_open clients
count-frames frame [] = refl
count-frames frame (c ∷ cs) =
    count-cons is_open (with_frame frame c) (map (with_frame frame) cs) ∙ rw (still_open frame c, count-frames frame cs) (sym (count-cons is_open c cs))

-- where a client is open, each open one is sent the frame
pub fits-admit-open : (ecu : List ℕ) (store : Stored) (limit : ℕ) (clients : List Client) (n : ℕ) (free : List Waiting) (frame : List ℕ)
    → Fits (hub_of ecu store limit clients n) free → All (λ c. IfSome c.outbox (λ w. length w.bytes + length frame ≤ w.capacity)) clients → length frame ≤ 1984 → n < 2 ^ 40
    → Fits (hub_of ecu store limit (map (with_frame frame) clients) (n + 1)) free
fits-admit-open ecu store limit clients n free frame fits rooms size few = record {
  ecu = fits.ecu;
  came = rw (length-map clients (with_frame frame)) fits.came;
  outboxes = rw (count-frames frame clients) fits.outboxes;
  each = All-map (IsBounded store.ring.capacity (n + 1)) (with_frame frame) clients
      (λ k d below. bounded-frame store.ring.capacity n frame _ (fits.each k d below) (rooms k d below) size);
  unused = fits.unused;
  fits = fits.fits;
  admissions = omega (arith, few);
  frames = omega (arith, fits.frames);
  refusals = omega (arith, fits.refusals);
  bytes = fits.bytes;
}

leb_true_is : (a : Bool) (x y : ℕ) → (a && leb x y) ≡ true → x ≤ y
leb_true_is true x y e = grind (arith, nat_tests, leb_tells)
leb_true_is false x y e = absurd cc

-- where none is, it waits or is refused
pub fits-admit-waits : (ecu : List ℕ) (store : Stored) (limit : ℕ) (clients : List Client) (n : ℕ) (free : List Waiting) (frame : List ℕ)
    → Fits (hub_of ecu store limit clients n) free → length frame ≤ 1984 → n < 2 ^ 40 → Fits (hub_of ecu (stored frame store) limit clients (n + 1)) free
fits-admit-waits ecu store limit clients n free frame fits size few = by_test (keeps frame store) refl where
  each : All (IsBounded store.ring.capacity (n + 1)) clients
  each = λ k d below. let b = fits.each k d below in record { outbox = b.outbox; frames = omega (arith, b.frames); bytes = b.bytes; replies = b.replies }

  by_test : (b : Bool) → keeps frame store ≡ b → Fits (hub_of ecu (stored frame store) limit clients (n + 1)) free
  by_test true is =
      let within : length store.ring.bytes + length frame ≤ store.ring.capacity = leb_true_is (eqb store.refused 0) (length store.ring.bytes + length frame) store.ring.capacity is in
      record {
        ecu = fits.ecu;
        came = fits.came;
        outboxes = fits.outboxes;
        each = each;
        unused = fits.unused;
        fits = rw (is, length-append store.ring.bytes frame) within;
        admissions = omega (arith, few);
        frames = rw is (omega (arith, fits.frames));
        refusals = rw is (omega (arith, fits.refusals));
        bytes = rw (is, length-append store.ring.bytes frame) (omega (arith, fits.bytes, size));
      }
  by_test false is = record {
    ecu = fits.ecu;
    came = fits.came;
    outboxes = fits.outboxes;
    each = each;
    unused = fits.unused;
    fits = rw is fits.fits;
    admissions = omega (arith, few);
    frames = rw is (omega (arith, fits.frames));
    refusals = rw is (omega (arith, fits.refusals));
    bytes = rw is fits.bytes;
  }

-- ---- who is open, by the outboxes that are free

pub open_by_free : (free : ℕ) (clients : List Client) → free + count_by is_open clients ≡ 8 → nat_lt free 8 ≡ list_any is_open clients
open_by_free free clients eight = rw (any_counts is_open clients) (grind (arith, nat_tests, eight))

-- where one client is open, one is
pub one_is_open : (clients : List Client) (place : ℕ) (c : Client) → slice_get clients place ≡ Some c → is_open c ≡ true → list_any is_open clients ≡ true
one_is_open [] place c is there = absurd cc
one_is_open (x ∷ xs) zero c is there = let same : x ≡ c = cc in rw (same, there) refl
one_is_open (x ∷ xs) (suc place) c is there = rw (one_is_open xs place c is there) (or_true (is_open x)) where
  or_true : (b : Bool) → (b || true) ≡ true
  or_true true = refl
  or_true false = refl

-- ---- room

each_room : (more : ℕ) (hub : Hub) (place : ℕ) (c : Client) → EachHasRoom more hub → slice_get hub.clients place ≡ Some c → IfSome c.outbox (λ w. length w.bytes + more ≤ w.capacity)
each_room more hub place c rooms is =
    let not_zero : eqb (suc place) 0 ≡ false = grind (arith, nat_tests) in
    let before : suc place - 1 ≡ place = omega arith in
    let its : outbox_of hub (suc place) ≡ c.outbox = rw (not_zero, before, is) refl in
    subst (λ o. IfSome o (λ w. length w.bytes + more ≤ w.capacity)) its (rooms (suc place))

-- what is said of each client by its number, as a list
pub all_room : (more : ℕ) (hub : Hub) → EachHasRoom more hub → All (λ c. IfSome c.outbox (λ w. length w.bytes + more ≤ w.capacity)) hub.clients
all_room more hub rooms = λ k d below.
    each_room more hub k (get_or hub.clients k d) rooms (slice_get_or hub.clients k d below)

-- ---- room, as a test

each_passes : {A : Type 0} (p : A → Bool) (xs : List A) (k : ℕ) (x : A) → list_all p xs ≡ true → slice_get xs k ≡ Some x → p x ≡ true
each_passes p [] k x all is = absurd cc
each_passes p (y ∷ ys) zero x all is = let same : y ≡ x = cc in subst (λ z. p z ≡ true) same (both (p y) (list_all p ys) all).0
each_passes p (y ∷ ys) (suc k) x all is = each_passes p ys k x (both (p y) (list_all p ys) all).1 is

passes_each : {A : Type 0} (p : A → Bool) (xs : List A) → ((k : ℕ) (x : A) → slice_get xs k ≡ Some x → p x ≡ true) → list_all p xs ≡ true
passes_each p [] each = refl
passes_each p (x ∷ xs) each = rw (each 0 x refl, passes_each p xs (λ k y is. each (suc k) y is)) refl

takes_tells : (more : ℕ) (c : Client) (b : Bool) → takes more c ≡ b → (IsTrue b → IfSome c.outbox (λ w. length w.bytes + more ≤ w.capacity)) × (IfSome c.outbox (λ w. length w.bytes + more ≤ w.capacity) → IsTrue b)
takes_tells more c b is = by_outbox c.outbox is where
  by_outbox : (o : Option Waiting) → option_map_or (λ w. nat_le (length w.bytes + more) w.capacity) o true ≡ b
      → (IsTrue b → IfSome o (λ w. length w.bytes + more ≤ w.capacity)) × (IfSome o (λ w. length w.bytes + more ≤ w.capacity) → IsTrue b)
  by_outbox None e = ((λ h. tt {0}), (λ h. sym e))
  by_outbox (Some w) e = ((λ h. leb_true_is true (length w.bytes + more) w.capacity (e ∙ h)), (λ h. sym e ∙ le-leb (length w.bytes + more) w.capacity h))

-- each client takes so many bytes exactly where each open one has room for them
pub all_take : (more : ℕ) (hub : Hub) → list_all (takes more) hub.clients ≡ true → EachHasRoom more hub
all_take more hub all = λ number. by_number number (eqb number 0) refl where
  of_client : (o : Option Client) → ((c : Client) → o ≡ Some c → takes more c ≡ true) → IfSome (option_and_then (λ c. c.outbox) o) (λ w. length w.bytes + more ≤ w.capacity)
  of_client None each = tt {0}
  of_client (Some c) each = (takes_tells more c true (each c refl)).0 refl

  by_number : (number : ℕ) (b : Bool) → eqb number 0 ≡ b → IfSome (outbox_of hub number) (λ w. length w.bytes + more ≤ w.capacity)
  by_number number true e = rw e (tt {0})
  by_number number false e = rw e (of_client (slice_get hub.clients (number - 1)) (λ c is. each_passes (takes more) hub.clients (number - 1) c all is))

pub take_all_room : (more : ℕ) (hub : Hub) → EachHasRoom more hub → list_all (takes more) hub.clients ≡ true
take_all_room more hub rooms = passes_each (takes more) hub.clients (λ k c is. true_is (takes more c) ((takes_tells more c (takes more c) refl).1 (each_room more hub k c rooms is))) where
  true_is : (b : Bool) → IsTrue b → b ≡ true
  true_is b h = h
