-- Overflow records, one after the other.
use Rattle.std.proofs.Common.{[], ◌≡◌, ℕ, ◌+◌, ◌-◌, ◌/◌, ◌%◌, ◌<◌, ◌≤◌, ◌^◌, ◌⊎◌, inl, inr, suc, true, false, min, eqb, leb, List, ◌∷◌, length, map, Option, Some, None, refl, sym, ap, ◌∙◌, append_assoc, subst, length-append, arith}
use Rattle.std.specs.Prelude.{IsSomeAnd, IfSome}
use Rattle.std.specs.List.{concat}
use Rattle.std.proofs.lemmas.List.Sums.{sum_by-cons}
use Rattle.std.proofs.lemmas.Bool.Decides.{nat_tests, leb_tells}
use Rattle.dl_model.specs.Overflow.{counters, overflow_frames}
use Rattle.dl_model.specs.Backlog.{size_of}
use Rattle.dl_message.specs.Frames.{overflow_record}
use Rattle.dl_control.specs.Reply.{daemon_apid, daemon_ctid}
use Rattle.dl_hub.specs.Untaken.{Due}
use Rattle.dl_hub.specs.State.{Client, Waiting, with_item}
use Rattle.dl_hub.specs.Overflow.{with_frames, records_due, CanTake}

-- the first counter, and what it leaves
pub counters-step : (n : ℕ) → 0 < n → counters n ≡ min n 4294967295 ∷ counters (n - min n 4294967295)
counters-step n some = by_size (leb_tells 4294967295 n) where
  by_size : ((leb 4294967295 n ≡ true) × (4294967295 ≤ n)) ⊎ ((leb 4294967295 n ≡ false) × (n < 4294967295)) → counters n ≡ min n 4294967295 ∷ counters (n - min n 4294967295)
  by_size (inl above) =
      let enough : 4294967295 ≤ n = above.1 in
      let quotient : n / 4294967295 ≡ suc ((n - 4294967295) / 4294967295) = omega arith in
      let remainder : n % 4294967295 ≡ (n - 4294967295) % 4294967295 = omega arith in
      let first : min n 4294967295 ≡ 4294967295 = omega arith in
      rw (quotient, remainder, first) refl
  by_size (inr below) =
      let few : n < 4294967295 = below.1 in
      let quotient : n / 4294967295 ≡ 0 = omega arith in
      let remainder : n % 4294967295 ≡ n = omega arith in
      let first : min n 4294967295 ≡ n = omega arith in
      let nothing : n - n ≡ 0 = omega arith in
      let not_zero : eqb n 0 ≡ false = grind (arith, nat_tests) in
      rw (quotient, remainder, first, nothing, not_zero) refl

pub frames-step : (ecu apid ctid : List ℕ) (n counter : ℕ) → 0 < n → counter ≡ min n 4294967295 →
    overflow_frames ecu apid ctid n ≡ overflow_record ecu apid ctid counter ∷ overflow_frames ecu apid ctid (n - counter)
frames-step ecu apid ctid n counter some is = rw is (ap (map (overflow_record ecu apid ctid)) (counters-step n some))

pub due-step : (ecu : List ℕ) (n counter : ℕ) → 0 < n → counter ≡ min n 4294967295
    → records_due ecu n ≡ (length (overflow_record ecu daemon_apid daemon_ctid counter), counter) ∷ records_due ecu (n - counter)
due-step ecu n counter some is = rw is (ap (map (λ k. (length (overflow_record ecu daemon_apid daemon_ctid k), k))) (counters-step n some))

-- one record has 28 bytes
pub record_size : (ecu : List ℕ) (n : ℕ) → length ecu ≡ 4 → length (overflow_record ecu daemon_apid daemon_ctid n) ≡ 28
record_size [] n four = absurd (omega (arith, four))
record_size (a ∷ []) n four = absurd (omega (arith, four))
record_size (a ∷ b ∷ []) n four = absurd (omega (arith, four))
record_size (a ∷ b ∷ c ∷ []) n four = absurd (omega (arith, four))
record_size (a ∷ b ∷ c ∷ d ∷ []) n four = refl
record_size (a ∷ b ∷ c ∷ d ∷ e ∷ more) n four = absurd (omega (arith, four))

-- ---- a frame, and then the others

abbrev client_is : (o : Option Waiting) (frames bytes replies left messages : ℕ) → Client
client_is o frames bytes replies left messages = record { outbox = o; frames = frames; bytes = bytes; replies = replies; left = left; messages = messages }

pub one-more : (f : List ℕ) (m : ℕ) (fs : List (List ℕ)) (ds : List Due) (c : Client) → IsSomeAnd c.outbox (λ outbox. length outbox.bytes + size_of (f ∷ fs) ≤ outbox.capacity) →
    with_frames fs ds (with_item f m c) ≡ with_frames (f ∷ fs) ((length f, m) ∷ ds) c
one-more f m fs ds c can = more c.outbox can where
  more : (o : Option Waiting) → IsSomeAnd o (λ outbox. length outbox.bytes + size_of (f ∷ fs) ≤ outbox.capacity) →
      with_frames fs ds (with_item f m (client_is o c.frames c.bytes c.replies c.left c.messages)) ≡ with_frames (f ∷ fs) ((length f, m) ∷ ds) (client_is o c.frames c.bytes c.replies c.left c.messages)
  more None h = absurd h
  more (Some w) h =
      let count : c.frames + 1 + length fs ≡ c.frames + length (f ∷ fs) = omega arith in
      let size : c.bytes + length f + size_of fs ≡ c.bytes + size_of (f ∷ fs) = rw (sum_by-cons length f fs) (omega arith) in
      rw (count, size, append_assoc w.bytes f (concat fs), append_assoc w.due ((length f, m) ∷ []) ds) refl

pub still : (f : List ℕ) (m : ℕ) (fs : List (List ℕ)) (c : Client) → CanTake (f ∷ fs) c → CanTake fs (with_item f m c)
still f m fs c can = more c.outbox can.room can.count can.bytes where
  more : (o : Option Waiting) → IsSomeAnd o (λ outbox. length outbox.bytes + size_of (f ∷ fs) ≤ outbox.capacity) → c.frames + length (f ∷ fs) < 2 ^ 63 → c.bytes + size_of (f ∷ fs) < 2 ^ 63 →
      CanTake fs (with_item f m (client_is o c.frames c.bytes c.replies c.left c.messages))
  more None h count bytes = absurd h
  more (Some w) h count bytes =
      let size = sum_by-cons length f fs in
      record {
        room = rw (length-append w.bytes f) (omega (arith, h, size));
        count = omega (arith, count);
        bytes = omega (arith, bytes, size);
      }

pub fits-first : (f : List ℕ) (fs : List (List ℕ)) (c : Client) → CanTake (f ∷ fs) c →
    IfSome c.outbox (λ r. length r.bytes + length f ≤ r.capacity) × (c.bytes + length f < 2 ^ 63)
fits-first f fs c can = (room c.outbox can.room, omega (arith, can.bytes, sum_by-cons length f fs)) where
  room : (o : Option Waiting) → IsSomeAnd o (λ outbox. length outbox.bytes + size_of (f ∷ fs) ≤ outbox.capacity) → IfSome o (λ r. length r.bytes + length f ≤ r.capacity)
  room None h = tt {0}
  room (Some w) h = omega (arith, h, sum_by-cons length f fs)

-- one turn of the loop: the frame fits, and what is left to do keeps what holds
pub step : (ecu : List ℕ) (left counter : ℕ) (frame : List ℕ) (now initial : Client) (all : Client) → 0 < left → counter ≡ min left 4294967295
    → frame ≡ overflow_record ecu daemon_apid daemon_ctid counter
    → (with_frames (overflow_frames ecu daemon_apid daemon_ctid left) (records_due ecu left) now ≡ all) × CanTake (overflow_frames ecu daemon_apid daemon_ctid left) now
    → (IfSome now.outbox (λ r. length r.bytes + length frame ≤ r.capacity) × (now.bytes + length frame < 2 ^ 63))
    × ((with_frames (overflow_frames ecu daemon_apid daemon_ctid (left - counter)) (records_due ecu (left - counter)) (with_item frame counter now) ≡ all)
    × CanTake (overflow_frames ecu daemon_apid daemon_ctid (left - counter)) (with_item frame counter now))
step ecu left counter frame now initial all some is what holds =
    let rest = overflow_frames ecu daemon_apid daemon_ctid (left - counter) in
    let next : overflow_frames ecu daemon_apid daemon_ctid left ≡ frame ∷ rest = rw what (frames-step ecu daemon_apid daemon_ctid left counter some is) in
    let due : records_due ecu left ≡ (length frame, counter) ∷ records_due ecu (left - counter) = rw what (due-step ecu left counter some is) in
    let can : CanTake (frame ∷ rest) now = subst (λ frames. CanTake frames now) next holds.1 in (
      fits-first frame rest now can,
      (
        one-more frame counter rest (records_due ecu (left - counter)) now can.room
            ∙ ap (λ frames. with_frames frames ((length frame, counter) ∷ records_due ecu (left - counter)) now) (sym next) ∙ ap (λ ds. with_frames (overflow_frames ecu daemon_apid daemon_ctid left) ds now) (sym due) ∙ holds.0,
        still frame counter rest now can,
      ),
    )
