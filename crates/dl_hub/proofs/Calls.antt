-- What each call of the hub owes, over plain values.
use Rattle.std.proofs.Common.{◌≡◌, ℕ, ◌+◌, ◌-◌, ◌*◌, ◌/◌, ◌%◌, ◌≤◌, ◌<◌, ◌^◌, Bool, true, false, cond, eqb, get_or, take, drop, List, [], ◌∷◌, ◌++◌, length, map, Option, Some, None, refl, sym, ap, ◌∙◌, length-append, replicate, subst, arith}
use Rattle.std.specs.Prelude.{not, count_by, slice_get, slice_set, IfSome, IsSome, IsSomeAnd, nat_lt}
use Rattle.std.specs.List.{All, list_any, concat}
use Rattle.std.proofs.lemmas.List.{append-nil, map-append, take_all, length-replicate, length-map}
use Rattle.std.proofs.Math.Seq.{drop-length}
use Rattle.std.specs.Option.{option_map, option_and_then}
use Rattle.std.proofs.lemmas.Option.{get_or_from_slice_get, slice_get-map}
use Rattle.std.proofs.lemmas.Bool.Decides.{nat_tests, leb_tells, eqb_tells}
use Rattle.std.proofs.lemmas.List.Sums.{sum_by-cons, sum_by-append}
use Rattle.std.proofs.lemmas.List.Folds.{concat-append}
use Rattle.circular_buffer.proofs.Places.{slice_get-append_left, slice_get-last}
use Rattle.dl_message.specs.Frames.{overflow_record}
use Rattle.dl_control.specs.Reply.{daemon_apid, daemon_ctid}
use Rattle.dl_model.specs.Overflow.{counters, overflow_frames}
use Rattle.dl_model.specs.Backlog.{outbox_limit, size_of, waiting, fitting, refused, due_backlog}
use Rattle.dl_model.specs.Traffic.{Connected, Admitted, Reply, Closed}
use Rattle.dl_model.proofs.Rotation.{length-concat}
use Rattle.dl_hub.specs.State.{Client, Waiting, Stored, Hub, hub_of, stored, emptied, added, with_frame, with_reply, without, shut, is_open, is_any_open, client_of, outbox_of, HasRoom, EachHasRoom, changed}
use Rattle.dl_hub.specs.Kept.{Fits, IsBounded, IsFree, places_of}
use Rattle.dl_hub.specs.Overflow.{came, left_over}
use Rattle.std.proofs.lemmas.List.Elements.{All-append, All-cons}
use Rattle.dl_hub.specs.Follows.{Adds, IsAfter}
use Rattle.dl_hub.proofs.Keeping.{any_counts, found, changed_at, fits-change, fits-close, bounded-at, bounded-reply, bounded-took, fits-admit-open, fits-admit-waits, open_by_free, one_is_open, all_room}
use Rattle.dl_hub.proofs.Places.{all_at, count_places, map-same, slice_get_or}
use Rattle.dl_hub.specs.Untaken.{Outgoing, all_due, one_message, refusals_told}
use Rattle.dl_hub.proofs.Untaken.{records_are}
use Rattle.dl_hub.proofs.Overflow.{record_size}
use Rattle.dl_hub.proofs.Following.{admit-open, admit-waits, reply-follows, goes-follows, comes-follows, nothing_waits}

pub is_some_of : {A : Type 0} (P : A → Type 0) (o : Option A) → IsSomeAnd o P → IsSome o
is_some_of P None h = absurd h
is_some_of P (Some x) h = refl

pub some_and : {A : Type 0} (P : A → Type 0) (o : Option A) (x : A) → o ≡ Some x → IsSomeAnd o P → P x
some_and P o x e h = subst (λ p. IsSomeAnd p P) e h

pub client_some : (hub : Hub) (number : ℕ) (c : Client) → 0 < number → slice_get hub.clients (number - 1) ≡ Some c → client_of hub number ≡ Some c
client_some hub number c some is = let not_zero : eqb number 0 ≡ false = grind (arith, nat_tests) in rw (not_zero, is) refl

lt_of : (k : ℕ) → nat_lt k 8 ≡ true → k < 8
lt_of k e = grind (arith, nat_tests, leb_tells)

-- a number above 0, as one more than the place
number_is : (number : ℕ) → 0 < number → number - 1 + 1 ≡ number
number_is number some = omega (arith, some)

-- ---- lists that a loop writes

-- a list of which all entries were written
pub written : {A : Type 0} (n : ℕ) (xs ys : List A) → n ≡ length xs → length ys ≡ length xs → take n (ys ++ drop (length ys) xs) ≡ ys
written n xs ys is same =
    let nothing : drop (length ys) xs ≡ [] = ap (λ k. drop k xs) same ∙ drop-length xs in
    let all : n ≡ length ys = omega (arith, is, same) in
    rw (nothing, append-nil ys, all) (take_all (length ys) ys (omega arith))

module _ (ecu : List ℕ) (store : Stored) (limit : ℕ) (clients : List Client) (n : ℕ) (free : List Waiting) (fits : Fits (hub_of ecu store limit clients n) free) where
  -- ---- a reply
  pub reply-all : (now : Hub) (number : ℕ) (frame : List ℕ) (c d : Client) → hub_of ecu store limit clients n ≡ now → c ≡ get_or clients (number - 1) d
      → HasRoom (length frame) now number → (4 ≤ length frame) × (length frame ≤ 65535) → IsSomeAnd (client_of now number) (λ x. x.replies < 1000)
      → Fits (hub_of ecu store limit (slice_set clients (number - 1) (with_reply frame c)) n) free
      × (hub_of ecu store limit (slice_set clients (number - 1) (with_reply frame c)) n ≡ changed number (with_reply frame) now)
      × Adds (Reply number frame) now (hub_of ecu store limit (slice_set clients (number - 1) (with_reply frame c)) n)
      × (map is_open (slice_set clients (number - 1) (with_reply frame c)) ≡ map is_open clients)
  reply-all now number frame c d e is room size few = subst (λ hub. HasRoom (length frame) hub number → IsSomeAnd (client_of hub number) (λ x. x.replies < 1000)
      → Fits (hub_of ecu store limit (slice_set clients (number - 1) (with_reply frame c)) n) free
      × (hub_of ecu store limit (slice_set clients (number - 1) (with_reply frame c)) n ≡ changed number (with_reply frame) hub)
      × Adds (Reply number frame) hub (hub_of ecu store limit (slice_set clients (number - 1) (with_reply frame c)) n)
      × (map is_open (slice_set clients (number - 1) (with_reply frame c)) ≡ map is_open clients)) e all room few where
        hub : Hub
        hub = hub_of ecu store limit clients n

        all : HasRoom (length frame) hub number → IsSomeAnd (client_of hub number) (λ x. x.replies < 1000)
            → Fits (hub_of ecu store limit (slice_set clients (number - 1) (with_reply frame c)) n) free
            × (hub_of ecu store limit (slice_set clients (number - 1) (with_reply frame c)) n ≡ changed number (with_reply frame) hub)
            × Adds (Reply number frame) hub (hub_of ecu store limit (slice_set clients (number - 1) (with_reply frame c)) n)
            × (map is_open (slice_set clients (number - 1) (with_reply frame c)) ≡ map is_open clients)
        all room few =
            let it = found hub number (is_some_of (λ w. length w.bytes + length frame ≤ w.capacity) (outbox_of hub number) room) in
            let same : c ≡ it.0 = is ∙ get_or_from_slice_get clients (number - 1) it.0 d it.2 in
            let bounded = bounded-at ecu store limit clients n free (number - 1) it.0 fits it.2 in
            let fits_room = some_and (λ w. length w.bytes + length frame ≤ w.capacity) (outbox_of hub number) it.1 it.5 room in
            let few_replies = some_and (λ x. x.replies < 1000) (client_of hub number) it.0 (client_some hub number it.0 it.4 it.2) few in
            let was_open : is_open it.0 ≡ true = rw it.3 refl in
            rw same (
              fits-change ecu store limit clients n free (number - 1) it.0 (with_reply frame it.0) fits it.2 (bounded-reply store.ring.capacity n frame it.0 it.1 bounded it.3 fits_room size.1 few_replies) (rw it.3 refl),
              sym (changed_at hub number (with_reply frame) it.0 it.4 it.2),
              λ ts taken after. subst (λ k. IsAfter (ts ++ Reply k frame ∷ []) taken (hub_of ecu store limit (slice_set clients (number - 1) (with_reply frame it.0)) n)) (number_is number it.4)
                  (reply-follows frame (number - 1) it.0 ts taken hub after it.2 was_open),
              map-same is_open clients (number - 1) it.0 (with_reply frame it.0) it.2 (rw it.3 refl),
            )

  -- ---- a link takes bytes
  pub took-all : (now : Hub) (number count : ℕ) (c d : Client) → hub_of ecu store limit clients n ≡ now → c ≡ get_or clients (number - 1) d
      → IsSomeAnd (outbox_of now number) (λ w. count ≤ length w.bytes)
      → Fits (hub_of ecu store limit (slice_set clients (number - 1) (without count c)) n) free
      × (hub_of ecu store limit (slice_set clients (number - 1) (without count c)) n ≡ changed number (without count) now)
      × (map is_open (slice_set clients (number - 1) (without count c)) ≡ map is_open clients)
  took-all now number count c d e is fits_in = subst (λ hub. IsSomeAnd (outbox_of hub number) (λ w. count ≤ length w.bytes)
      → Fits (hub_of ecu store limit (slice_set clients (number - 1) (without count c)) n) free
      × (hub_of ecu store limit (slice_set clients (number - 1) (without count c)) n ≡ changed number (without count) hub)
      × (map is_open (slice_set clients (number - 1) (without count c)) ≡ map is_open clients)) e all fits_in where
        hub : Hub
        hub = hub_of ecu store limit clients n

        all : IsSomeAnd (outbox_of hub number) (λ w. count ≤ length w.bytes)
            → Fits (hub_of ecu store limit (slice_set clients (number - 1) (without count c)) n) free
            × (hub_of ecu store limit (slice_set clients (number - 1) (without count c)) n ≡ changed number (without count) hub)
            × (map is_open (slice_set clients (number - 1) (without count c)) ≡ map is_open clients)
        all fits_in =
            let it = found hub number (is_some_of (λ w. count ≤ length w.bytes) (outbox_of hub number) fits_in) in
            let same : c ≡ it.0 = is ∙ get_or_from_slice_get clients (number - 1) it.0 d it.2 in
            let bounded = bounded-at ecu store limit clients n free (number - 1) it.0 fits it.2 in
            rw same (
              fits-change ecu store limit clients n free (number - 1) it.0 (without count it.0) fits it.2 (bounded-took store.ring.capacity n count it.0 it.1 bounded it.3) (rw it.3 refl),
              sym (changed_at hub number (without count) it.0 it.4 it.2),
              map-same is_open clients (number - 1) it.0 (without count it.0) it.2 (rw it.3 refl),
            )

  -- ---- a client goes
  pub close-all : (now : Hub) (number : ℕ) (c d : Client) → hub_of ecu store limit clients n ≡ now → c ≡ get_or clients (number - 1) d → IsSome (outbox_of now number)
      → (w : Waiting) × (c.outbox ≡ Some w) × (length free < 8)
      × Fits (hub_of ecu store limit (slice_set clients (number - 1) (shut c)) n) (free ++ emptied w ∷ [])
      × (hub_of ecu store limit (slice_set clients (number - 1) (shut c)) n ≡ changed number shut now)
      × Adds (Closed number) now (hub_of ecu store limit (slice_set clients (number - 1) (shut c)) n)
  close-all now number c d e is there = subst (λ hub. IsSome (outbox_of hub number) → (w : Waiting) × (c.outbox ≡ Some w) × (length free < 8)
      × Fits (hub_of ecu store limit (slice_set clients (number - 1) (shut c)) n) (free ++ emptied w ∷ [])
      × (hub_of ecu store limit (slice_set clients (number - 1) (shut c)) n ≡ changed number shut hub)
      × Adds (Closed number) hub (hub_of ecu store limit (slice_set clients (number - 1) (shut c)) n)) e all there where
        hub : Hub
        hub = hub_of ecu store limit clients n

        all : IsSome (outbox_of hub number) → (w : Waiting) × (c.outbox ≡ Some w) × (length free < 8)
            × Fits (hub_of ecu store limit (slice_set clients (number - 1) (shut c)) n) (free ++ emptied w ∷ [])
            × (hub_of ecu store limit (slice_set clients (number - 1) (shut c)) n ≡ changed number shut hub)
            × Adds (Closed number) hub (hub_of ecu store limit (slice_set clients (number - 1) (shut c)) n)
        all h =
            let it = found hub number h in
            let same : c ≡ it.0 = is ∙ get_or_from_slice_get clients (number - 1) it.0 d it.2 in
            let bounded = bounded-at ecu store limit clients n free (number - 1) it.0 fits it.2 in
            let was_open : is_open it.0 ≡ true = rw it.3 refl in
            let any : list_any is_open clients ≡ true = one_is_open clients (number - 1) it.0 it.2 was_open in
            let fewer : nat_lt (length free) 8 ≡ true = open_by_free (length free) clients fits.outboxes ∙ any in
            rw same (
              it.1,
              it.3,
              lt_of (length free) fewer,
              fits-close ecu store limit clients n free (number - 1) it.0 it.1 fits it.2 it.3 bounded,
              sym (changed_at hub number shut it.0 it.4 it.2),
              λ ts taken after. subst (λ k. IsAfter (ts ++ Closed k ∷ []) taken (hub_of ecu store limit (slice_set clients (number - 1) (shut it.0)) n)) (number_is number it.4)
                  (goes-follows (number - 1) it.0 ts taken hub after it.2 was_open any),
            )

  -- ---- a frame is admitted
  more_room : (frame : List ℕ) (more number : ℕ)
      → IfSome (outbox_of (hub_of ecu store limit clients n) number) (λ w. length w.bytes + (length frame + more) ≤ w.capacity)
      → IfSome (outbox_of (hub_of ecu store limit (map (with_frame frame) clients) (n + 1)) number) (λ w. length w.bytes + more ≤ w.capacity)
  more_room frame more number h = by_number (eqb number 0) h where
    of_outbox : (o : Option Waiting) → IfSome o (λ w. length w.bytes + (length frame + more) ≤ w.capacity) → IfSome (option_map (added frame ((length frame, 1) ∷ [])) o) (λ w. length w.bytes + more ≤ w.capacity)
    of_outbox None h = tt {0}
    of_outbox (Some w) h = rw (length-append w.bytes frame) (omega (arith, h))

    of_client : (o : Option Client) → IfSome (option_and_then (λ c. c.outbox) o) (λ w. length w.bytes + (length frame + more) ≤ w.capacity)
        → IfSome (option_and_then (λ c. c.outbox) (option_map (with_frame frame) o)) (λ w. length w.bytes + more ≤ w.capacity)
    of_client None h = tt {0}
    of_client (Some c) h = of_outbox c.outbox h

    by_number : (b : Bool) → IfSome (option_and_then (λ c. c.outbox) (cond b None (slice_get clients (number - 1)))) (λ w. length w.bytes + (length frame + more) ≤ w.capacity)
        → IfSome (option_and_then (λ c. c.outbox) (cond b None (slice_get (map (with_frame frame) clients) (number - 1)))) (λ w. length w.bytes + more ≤ w.capacity)
    by_number true h = tt {0}
    by_number false h = rw (slice_get-map (with_frame frame) clients (number - 1)) (of_client (slice_get clients (number - 1)) h)

  pub open-all : (now : Hub) (frame : List ℕ) → hub_of ecu store limit clients n ≡ now → is_any_open now ≡ true → EachHasRoom (length frame) now → (4 ≤ length frame) × (length frame ≤ 1984) → now.admitted < 2 ^ 40
      → Fits (hub_of ecu store limit (map (with_frame frame) clients) (n + 1)) free
      × Adds (Admitted frame) now (hub_of ecu store limit (map (with_frame frame) clients) (n + 1))
      × ((more : ℕ) → EachHasRoom (length frame + more) now → EachHasRoom more (hub_of ecu store limit (map (with_frame frame) clients) (n + 1)))
      × All (λ c. IfSome c.outbox (λ w. length w.bytes + length frame ≤ w.capacity)) clients
      × All (λ c. (c.frames < 2 ^ 63) × (c.bytes + length frame < 2 ^ 63)) clients
  open-all now frame e any room size few = subst (λ hub. is_any_open hub ≡ true → EachHasRoom (length frame) hub → hub.admitted < 2 ^ 40
      → Fits (hub_of ecu store limit (map (with_frame frame) clients) (n + 1)) free
      × Adds (Admitted frame) hub (hub_of ecu store limit (map (with_frame frame) clients) (n + 1))
      × ((more : ℕ) → EachHasRoom (length frame + more) hub → EachHasRoom more (hub_of ecu store limit (map (with_frame frame) clients) (n + 1)))
      × All (λ c. IfSome c.outbox (λ w. length w.bytes + length frame ≤ w.capacity)) clients
      × All (λ c. (c.frames < 2 ^ 63) × (c.bytes + length frame < 2 ^ 63)) clients) e all any room few where
        hub : Hub
        hub = hub_of ecu store limit clients n

        all : is_any_open hub ≡ true → EachHasRoom (length frame) hub → n < 2 ^ 40
            → Fits (hub_of ecu store limit (map (with_frame frame) clients) (n + 1)) free
            × Adds (Admitted frame) hub (hub_of ecu store limit (map (with_frame frame) clients) (n + 1))
            × ((more : ℕ) → EachHasRoom (length frame + more) hub → EachHasRoom more (hub_of ecu store limit (map (with_frame frame) clients) (n + 1)))
            × All (λ c. IfSome c.outbox (λ w. length w.bytes + length frame ≤ w.capacity)) clients
            × All (λ c. (c.frames < 2 ^ 63) × (c.bytes + length frame < 2 ^ 63)) clients
        all any room few =
            let rooms = all_room (length frame) hub room in (
              fits-admit-open ecu store limit clients n free frame fits rooms size.1 few,
              λ ts taken after. admit-open frame ts taken hub after any,
              λ more room number. more_room frame more number (room number),
              rooms,
              λ k d below. let b = fits.each k d below in (omega (arith, b.frames, b.replies, fits.admissions), omega (arith, b.frames, b.replies, b.bytes, fits.admissions, size.1)),
            )

  pub waits-all : (now : Hub) (frame : List ℕ) → hub_of ecu store limit clients n ≡ now → is_any_open now ≡ false → (4 ≤ length frame) × (length frame ≤ 1984) → now.admitted < 2 ^ 40
      → Fits (hub_of ecu (stored frame store) limit clients (n + 1)) free
      × Adds (Admitted frame) now (hub_of ecu (stored frame store) limit clients (n + 1))
      × ((more : ℕ) → EachHasRoom (length frame + more) now → EachHasRoom more (hub_of ecu (stored frame store) limit clients (n + 1)))
  waits-all now frame e none size few = subst (λ hub. is_any_open hub ≡ false → hub.admitted < 2 ^ 40
      → Fits (hub_of ecu (stored frame store) limit clients (n + 1)) free
      × Adds (Admitted frame) hub (hub_of ecu (stored frame store) limit clients (n + 1))
      × ((more : ℕ) → EachHasRoom (length frame + more) hub → EachHasRoom more (hub_of ecu (stored frame store) limit clients (n + 1)))) e all none few where
        less : (o : Option Waiting) (more : ℕ) → IfSome o (λ w. length w.bytes + (length frame + more) ≤ w.capacity) → IfSome o (λ w. length w.bytes + more ≤ w.capacity)
        less None more h = tt {0}
        less (Some w) more h = omega (arith, h)

        all : is_any_open (hub_of ecu store limit clients n) ≡ false → n < 2 ^ 40
            → Fits (hub_of ecu (stored frame store) limit clients (n + 1)) free
            × Adds (Admitted frame) (hub_of ecu store limit clients n) (hub_of ecu (stored frame store) limit clients (n + 1))
            × ((more : ℕ) → EachHasRoom (length frame + more) (hub_of ecu store limit clients n) → EachHasRoom more (hub_of ecu (stored frame store) limit clients (n + 1)))
        all none few = (
          fits-admit-waits ecu store limit clients n free frame fits size.1 few,
          λ ts taken after. admit-waits frame ts taken ecu store limit clients n after none,
          λ more room number. less (outbox_of (hub_of ecu store limit clients n) number) more (room number),
        )

-- ---- a client comes

-- there are at most 257
counters_few : (n : ℕ) → n ≤ 2 ^ 40 → length (counters n) ≤ 257
counters_few n few = by_rest (eqb (n % 4294967295) 0) where
  whole : n / 4294967295 ≤ 256
  whole = omega (arith, few)

  by_rest : (b : Bool) → length (replicate (n / 4294967295) 4294967295 ++ cond b [] (n % 4294967295 ∷ [])) ≤ 257
  by_rest true = rw (length-append {A = ℕ} (replicate (n / 4294967295) 4294967295) [], length-replicate {A = ℕ} (n / 4294967295) 4294967295) (omega (arith, whole))
  by_rest false = rw (length-append {A = ℕ} (replicate (n / 4294967295) 4294967295) (n % 4294967295 ∷ []), length-replicate {A = ℕ} (n / 4294967295) 4294967295) (omega (arith, whole))

sizes : (ecu : List ℕ) → length ecu ≡ 4 → (cs : List ℕ) → size_of (map (overflow_record ecu daemon_apid daemon_ctid) cs) ≡ 28 * length cs
sizes ecu four [] = refl
sizes ecu four (x ∷ xs) =
    sum_by-cons length (overflow_record ecu daemon_apid daemon_ctid x) (map (overflow_record ecu daemon_apid daemon_ctid) xs)
    ∙ omega (arith, record_size ecu x four, sizes ecu four xs)

pub overflow_size : (ecu : List ℕ) (n : ℕ) → length ecu ≡ 4 → n ≤ 2 ^ 40 → size_of (overflow_frames ecu daemon_apid daemon_ctid n) ≤ 7196
overflow_size ecu n four few = omega (arith, sizes ecu four (counters n), counters_few n few)

-- where all outboxes are free, nobody is open
nobody_open : (free : ℕ) (clients : List Client) → free + count_by is_open clients ≡ 8 → (b : Bool) → eqb free 8 ≡ b → list_any is_open clients ≡ not b
nobody_open free clients eight true e = rw (any_counts is_open clients) (grind (arith, nat_tests, eqb_tells, eight, e))
nobody_open free clients eight false e = rw (any_counts is_open clients) (grind (arith, nat_tests, eqb_tells, eight, e))

all_front : {A : Type 0} (P : A → Type 0) (xs ys : List A) → All P (xs ++ ys) → All P xs
all_front P xs ys all = λ k d below. all_at P (xs ++ ys) k (get_or xs k d) all (slice_get-append_left xs ys k below ∙ slice_get_or xs k d below)

pub open_one : (b : Bool) (ecu : List ℕ) (capacity : ℕ) (store : Stored) → is_open (came b ecu capacity store) ≡ true
open_one true ecu capacity store = refl
open_one false ecu capacity store = refl

-- and was put no reply
pub unanswered_one : (b : Bool) (ecu : List ℕ) (capacity : ℕ) (store : Stored) → (came b ecu capacity store).replies ≡ 0
unanswered_one true ecu capacity store = refl
unanswered_one false ecu capacity store = refl

count_more : (clients : List Client) (c : Client) → is_open c ≡ true → count_by is_open (clients ++ c ∷ []) ≡ count_by is_open clients + 1
count_more clients c there = sum_by-append (λ x. cond (is_open x) 1 0) clients (c ∷ []) ∙ rw there (omega arith)

-- where an outbox is free, fewer are open than may be
pub few_places : (clients : List Client) (places : List ℕ) (free rest : List Waiting) (w : Waiting) → length free + count_by is_open clients ≡ 8 → free ≡ rest ++ w ∷ []
    → places ≡ places_of 0 (map is_open clients) → length places < 8
few_places clients places free rest w eight is are =
    omega (arith, eight, ap length is, length-append rest (w ∷ []), ap length are, count_places 0 clients)

module _ (ecu : List ℕ) (store : Stored) (limit : ℕ) (clients : List Client) (n : ℕ) (free : List Waiting) (fits : Fits (hub_of ecu store limit clients n) free) (rest : List Waiting) (w : Waiting) (is : free ≡ rest ++ w ∷ []) where
  its : IsFree store.ring.capacity w
  its = all_at (IsFree store.ring.capacity) (rest ++ w ∷ []) (length rest) w (subst (All (IsFree store.ring.capacity)) is fits.unused) (slice_get-last rest w (length rest) refl)

  size : size_of (overflow_frames ecu daemon_apid daemon_ctid store.refused) ≤ 7196
  size = overflow_size ecu store.refused fits.ecu (omega (arith, fits.refusals, fits.admissions))

  -- the outbox of a client that comes has room for what waits
  pub room-comes : (w.bytes ≡ []) × (w.capacity ≡ outbox_limit store.ring.capacity)
      × (length store.ring.bytes + size_of (overflow_frames ecu daemon_apid daemon_ctid store.refused) ≤ w.capacity)
  room-comes = (its.0, its.1, omega (arith, its.1, fits.fits, size))

  abbrev told : List (List ℕ)
  told = overflow_frames ecu daemon_apid daemon_ctid store.refused

  none_bounded : All (IsBounded store.ring.capacity n) []
  none_bounded = λ k d below. absurd (omega (arith, below))

  bounded : (b : Bool) → IsBounded store.ring.capacity n (came b ecu w.capacity store)
  bounded true =
      let few : length told ≤ 257 = rw (length-map (counters store.refused) (overflow_record ecu daemon_apid daemon_ctid)) (counters_few store.refused (omega (arith, fits.refusals, fits.admissions))) in
      let each : size_of told ≡ 28 * length told = rw (length-map (counters store.refused) (overflow_record ecu daemon_apid daemon_ctid)) (sizes ecu fits.ecu (counters store.refused)) in
      record {
        outbox = (its.1, rw (length-append store.ring.bytes (concat told), length-concat told) (omega (arith, fits.fits, size)));
        frames = omega (arith, fits.frames, few);
        bytes = omega (arith, fits.bytes, each);
        replies = omega arith;
      }
  bounded false = record { outbox = (its.1, omega arith); frames = omega arith; bytes = omega arith; replies = omega arith }

  fits-comes : (b : Bool) → length clients < limit → Fits (hub_of ecu (left_over b store) limit (clients ++ came b ecu w.capacity store ∷ []) n) rest
  fits-comes true few = record {
    ecu = fits.ecu;
    came = rw (length-append clients (came true ecu w.capacity store ∷ [])) (omega (arith, few));
    outboxes = omega (arith, fits.outboxes, ap length is, length-append rest (w ∷ []), count_more clients (came true ecu w.capacity store) refl);
    each = All-append (IsBounded store.ring.capacity n) clients (came true ecu w.capacity store ∷ []) fits.each (All-cons (IsBounded store.ring.capacity n) (came true ecu w.capacity store) [] (bounded true) none_bounded);
    unused = all_front (IsFree store.ring.capacity) rest (w ∷ []) (subst (All (IsFree store.ring.capacity)) is fits.unused);
    fits = omega arith;
    admissions = fits.admissions;
    frames = omega arith;
    refusals = omega arith;
    bytes = omega arith;
  }
  fits-comes false few = record {
    ecu = fits.ecu;
    came = rw (length-append clients (came false ecu w.capacity store ∷ [])) (omega (arith, few));
    outboxes = omega (arith, fits.outboxes, ap length is, length-append rest (w ∷ []), count_more clients (came false ecu w.capacity store) refl);
    each = All-append (IsBounded store.ring.capacity n) clients (came false ecu w.capacity store ∷ []) fits.each (All-cons (IsBounded store.ring.capacity n) (came false ecu w.capacity store) [] (bounded false) none_bounded);
    unused = all_front (IsFree store.ring.capacity) rest (w ∷ []) (subst (All (IsFree store.ring.capacity)) is fits.unused);
    fits = fits.fits;
    admissions = fits.admissions;
    frames = fits.frames;
    refusals = fits.refusals;
    bytes = fits.bytes;
  }

  adds-comes : (b : Bool) → list_any is_open clients ≡ not b → Adds (Connected (length clients + 1)) (hub_of ecu store limit clients n) (hub_of ecu (left_over b store) limit (clients ++ came b ecu w.capacity store ∷ []) n)
  adds-comes true none ts taken after =
      let due : due_backlog ecu store.ring.capacity (waiting ts) ≡ fitting store.ring.capacity (waiting ts) ++ told = rw after.waits.refusals refl in
      comes-follows (came true ecu w.capacity store) (length clients + 1) ts taken (hub_of ecu store limit clients n) after refl
      (ap concat due ∙ concat-append (fitting store.ring.capacity (waiting ts)) told ∙ rw after.waits.bytes refl)
      (rw after.waits.refusals (map-append (λ (x : Outgoing). (length x.frame, x.messages)) (map one_message (fitting store.ring.capacity (waiting ts))) (map (refusals_told ecu) (counters store.refused))
      ∙ ap (λ ds. ds ++ all_due (map (refusals_told ecu) (counters store.refused))) after.waits.due ∙ ap (λ ds. store.ring.due ++ ds) (records_are ecu (counters store.refused))))
      refl
      (ap length due ∙ length-append (fitting store.ring.capacity (waiting ts)) told ∙ rw after.waits.frames_kept refl)
      (ap size_of due ∙ sum_by-append length (fitting store.ring.capacity (waiting ts)) told
      ∙ rw (sym (length-concat (fitting store.ring.capacity (waiting ts))), after.waits.bytes) refl)
      refl
  adds-comes false any ts taken after =
      let nothing = nothing_waits ts taken (hub_of ecu store limit clients n) after any in
      let bytes : store.ring.bytes ≡ [] = sym after.waits.bytes ∙ ap (λ fs. concat (fitting store.ring.capacity fs)) nothing in
      let frames : store.frames ≡ 0 = sym after.waits.frames_kept ∙ ap (λ fs. length (fitting store.ring.capacity fs)) nothing in
      let none : store.refused ≡ 0 = sym after.waits.refusals ∙ ap (refused store.ring.capacity) nothing in
      let due_none : store.ring.due ≡ [] = sym after.waits.due ∙ ap (λ fs. all_due (map one_message (fitting store.ring.capacity fs))) nothing in
      rw (bytes, frames, none, due_none)
      (comes-follows (came false ecu w.capacity store) (length clients + 1) ts taken (hub_of ecu store limit clients n) after refl
      (rw nothing refl) (rw nothing refl) refl (rw nothing refl) (rw nothing refl) refl)

  pub comes-all : (now : Hub) (b : Bool) → hub_of ecu store limit clients n ≡ now → eqb (length free) 8 ≡ b → length clients < limit
      → Fits (hub_of ecu (left_over b store) limit (clients ++ came b ecu w.capacity store ∷ []) n) rest
      × Adds (Connected (length clients + 1)) now (hub_of ecu (left_over b store) limit (clients ++ came b ecu w.capacity store ∷ []) n)
  comes-all now b e first few = (
    fits-comes b few,
    subst (λ hub. Adds (Connected (length clients + 1)) hub (hub_of ecu (left_over b store) limit (clients ++ came b ecu w.capacity store ∷ []) n)) e
        (adds-comes b (nobody_open (length free) clients fits.outboxes b first)),
  )
