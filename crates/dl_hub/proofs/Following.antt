-- What each entry of traffic does to a hub that stands as the traffic before it has it.
use Rattle.std.proofs.Common.{◌≡◌, ◌≢◌, ℕ, ◌+◌, ◌-◌, ◌≤◌, ◌<◌, ◌⊎◌, inl, inr, Bool, true, false, cond, eqb, leb, take, drop, List, [], ◌∷◌, ◌++◌, length, map, Option, Some, None, refl, sym, ap, ◌∙◌, append_assoc, length-append, length-drop, subst, suc, zero, arith}
use Rattle.std.specs.Prelude.{count_by, slice_get, slice_set, option_map, is_some, IfSome, IsSomeAnd}
use Rattle.std.specs.List.{concat, list_any, range_with_len, after_last}
use Rattle.std.specs.Option.{option_map_or}
use Rattle.std.proofs.lemmas.List.{append-nil, length-map, length-set, length-take, map-append, take-append-drop}
use Rattle.std.proofs.lemmas.List.Elements.{filter_map-append}
use Rattle.std.proofs.lemmas.List.Folds.{concat-append}
use Rattle.std.proofs.lemmas.List.Sums.{sum_by-append, sum_by-cons}
use Rattle.std.proofs.lemmas.Option.{slice_get-map, slice_get_within}
use Rattle.std.proofs.lemmas.Bool.{lt-leb}
use Rattle.std.proofs.lemmas.Bool.Decides.{nat_tests, leb_tells, eqb_tells}
use Rattle.std.proofs.Math.Bool.{and-false}
use Rattle.circular_buffer.proofs.Places.{slice_get-set_same, slice_get-set_other, slice_get-append_left, slice_get-append_right}
use Rattle.dl_lemmas.proofs.Options.{mapped_some, some_is}
use Rattle.dl_lemmas.proofs.Bools.{cond_same, neither}
use Rattle.dl_model.specs.Along.{along_from}
use Rattle.dl_model.specs.Traffic as traffic
use Rattle.dl_model.specs.Traffic.{Traffic, Connected, Admitted, Reply, Closed, comer_of, frame_of, comes_or_goes, is_coming, is_going, clients, admitted_in}
use Rattle.dl_model.specs.Overflow.{counters}
use Rattle.dl_model.specs.Backlog.{size_of, waiting, fitting, refused, due_backlog}
use Rattle.dl_model.specs.ClientStream.{put, sent}
use Rattle.dl_model.proofs.Lists.{along-one}
use Rattle.std.proofs.Math.Nat.{eq-zero-or-pos}
use Rattle.dl_model.proofs.ClientStreams.{fitting-one, is_open-one, same_number, waiting-comes, waiting-goes, waiting-admit, waiting-reply}
use Rattle.dl_model.proofs.Rotation.{length-concat}
use Rattle.dl_hub.specs.Untaken.{Outgoing, all_due, begun_by, bytes_due, in_front, messages_in, no_message, one_message, outgoing, outgoing_at, past, refusals_told, untaken}
use Rattle.dl_hub.proofs.Untaken.{begun_stream, due_one, drop_nothing, front-append, front-past, front_within, nothing_outgoing, past-append, past-past, size_outgoing}
use Rattle.dl_hub.specs.State as state
use Rattle.dl_hub.specs.State.{Client, Waiting, Stored, Hub, stored, keeps, added, with_frame, with_reply, without, consumed, bytes_before, shut}
use Rattle.dl_hub.specs.Follows.{IsAfter, IsStream, IsBacklog, is_reply_to, took_more}

-- ---- lists and options

pub any_numbered : {C : Type 0} (p : ℕ → Bool) (q : C → Bool) (xs : List C) (first : ℕ)
    → ((place : ℕ) (x : C) → slice_get xs place ≡ Some x → p (first + place) ≡ q x)
    → list_any p (range_with_len first (length xs)) ≡ list_any q xs
any_numbered p q [] first same = refl
any_numbered p q (x ∷ xs) first same =
    let here : p first ≡ q x = subst (λ n. p n ≡ q x) (omega arith) (same 0 x refl) in
    let later = any_numbered p q xs (first + 1) (λ place y there. subst (λ n. p n ≡ q y) (omega arith) (same (suc place) y there)) in
    rw (here, later) refl

none_numbered : (n first count : ℕ) → first + count ≤ n → list_any (λ m. eqb m n) (range_with_len first count) ≡ false
none_numbered n first zero above = refl
none_numbered n first (suc count) above =
    let here : eqb first n ≡ false = grind (arith, nat_tests) in
    rw (here, none_numbered n (first + 1) count (omega arith)) refl

pub one_more_number : (first count : ℕ) → range_with_len first count ++ (first + count) ∷ [] ≡ range_with_len first (suc count)
one_more_number first zero = ap (λ n. n ∷ []) (omega arith)
one_more_number first (suc count) = ap (λ xs. first ∷ xs) (ap (λ n. range_with_len (first + 1) count ++ n ∷ []) (omega arith) ∙ one_more_number (first + 1) count)

-- ---- one stream

-- the frames of a stream, and their messages, have the bytes of the stream
taken_within : (ecu : List ℕ) (buffer number : ℕ) (ts : List Traffic) (taken rest : List ℕ) → concat (sent ecu buffer number ts) ≡ taken ++ rest → length taken ≤ bytes_due (all_due (outgoing ecu buffer number ts))
taken_within ecu buffer number ts taken rest is =
    let long : length taken + length rest ≡ size_of (sent ecu buffer number ts) = sym (length-append taken rest) ∙ ap length (sym is) ∙ length-concat (sent ecu buffer number ts) in
    omega (arith, long, size_outgoing ecu buffer number ts)

stream-of : {ecu : List ℕ} {buffer : ℕ} {ts : List Traffic} {taken : List ℕ} {number : ℕ} {client : Client} (t : Traffic) (frames : List (List ℕ)) (now : Client)
    → IsStream ecu buffer ts taken number client
    → put ecu buffer number ts t ≡ frames
    → traffic.is_open number (ts ++ t ∷ []) ≡ state.is_open now
    → client.frames + length frames ≡ now.frames
    → client.bytes + size_of frames ≡ now.bytes
    → count_by (is_reply_to number) (ts ++ t ∷ []) ≡ now.replies
    → IfSome now.outbox (λ new. IsSomeAnd client.outbox (λ old. old.bytes ++ concat frames ≡ new.bytes))
    → (now.outbox ≡ None → (rest : List ℕ) × (concat (sent ecu buffer number ts ++ frames) ≡ taken ++ rest) × (length rest ≡ now.left))
    → (items : List Outgoing) → outgoing_at ecu buffer number ts t ≡ items
    → IfSome now.outbox (λ new. IsSomeAnd client.outbox (λ old. old.begun ≡ new.begun))
    → IfSome now.outbox (λ new. IsSomeAnd client.outbox (λ old. old.due ++ all_due items ≡ new.due))
    → (now.outbox ≡ None → messages_in (past (length taken) (all_due (outgoing ecu buffer number ts ++ items))) ≡ now.messages)
    → IsStream ecu buffer (ts ++ t ∷ []) taken number now
stream-of {ecu} {buffer} {ts} {taken} {number} {client} t frames now is puts there more_frames more_bytes replies left gone items goes begun due lost =
    let all : sent ecu buffer number (ts ++ t ∷ []) ≡ sent ecu buffer number ts ++ frames = along-one (put ecu buffer number) ts t ∙ ap (λ fs. sent ecu buffer number ts ++ fs) puts in
    let all_items : outgoing ecu buffer number (ts ++ t ∷ []) ≡ outgoing ecu buffer number ts ++ items = along-one (outgoing_at ecu buffer number) ts t ∙ ap (λ os. outgoing ecu buffer number ts ++ os) goes in
    record {
      is_there = there;
      frames = rw (all, length-append (sent ecu buffer number ts) frames, is.frames) more_frames;
      bytes = rw (all, sum_by-append length (sent ecu buffer number ts) frames, is.bytes) more_bytes;
      replies = replies;
      left = rw all (joined now.outbox client.outbox left is.left);
      gone = λ none. let it = gone none in (it.0, ap concat all ∙ it.1, it.2);
      due = rw all_items (due_joined now.outbox client.outbox due is.left is.due);
      begun = rw all_items (begun_joined now.outbox client.outbox begun is.left is.begun);
      lost = λ none. ap (λ os. messages_in (past (length taken) (all_due os))) all_items ∙ lost none;
    } where
      begun_joined : (new old : Option Waiting) → IfSome new (λ n. IsSomeAnd old (λ o. o.begun ≡ n.begun))
          → IfSome old (λ o. concat (sent ecu buffer number ts) ≡ taken ++ o.bytes)
          → IfSome old (λ o. drop (length taken - begun_by ecu buffer number ts (length taken)) taken ≡ o.begun)
          → IfSome new (λ n. drop (length taken - in_front 0 (length taken) (all_due (outgoing ecu buffer number ts ++ items))) taken ≡ n.begun)
      begun_joined None old h stands was = tt {0}
      begun_joined (Some n) None h stands was = absurd h
      begun_joined (Some n) (Some o) h stands was =
          ap (λ k. drop (length taken - k) taken)
          (ap (in_front 0 (length taken)) (map-append (λ (x : Outgoing). (length x.frame, x.messages)) (outgoing ecu buffer number ts) items)
          ∙ front-append 0 (length taken) (all_due (outgoing ecu buffer number ts)) (all_due items) (taken_within ecu buffer number ts taken o.bytes stands))
          ∙ was ∙ h

      due_joined : (new old : Option Waiting) → IfSome new (λ n. IsSomeAnd old (λ o. o.due ++ all_due items ≡ n.due))
          → IfSome old (λ o. concat (sent ecu buffer number ts) ≡ taken ++ o.bytes)
          → IfSome old (λ o. untaken ecu buffer number ts (length taken) ≡ o.due)
          → IfSome new (λ n. past (length taken) (all_due (outgoing ecu buffer number ts ++ items)) ≡ n.due)
      due_joined None old h stands was = tt {0}
      due_joined (Some n) None h stands was = absurd h
      due_joined (Some n) (Some o) h stands was =
          ap (past (length taken)) (map-append (λ (x : Outgoing). (length x.frame, x.messages)) (outgoing ecu buffer number ts) items)
          ∙ past-append (length taken) (all_due (outgoing ecu buffer number ts)) (all_due items) (taken_within ecu buffer number ts taken o.bytes stands)
          ∙ ap (λ ds. ds ++ all_due items) was ∙ h

      joined : (new old : Option Waiting) → IfSome new (λ n. IsSomeAnd old (λ o. o.bytes ++ concat frames ≡ n.bytes))
          → IfSome old (λ o. concat (sent ecu buffer number ts) ≡ taken ++ o.bytes)
          → IfSome new (λ n. concat (sent ecu buffer number ts ++ frames) ≡ taken ++ n.bytes)
      joined None old h was = tt {0}
      joined (Some n) None h was = absurd h
      joined (Some n) (Some o) h was =
          concat-append (sent ecu buffer number ts) frames ∙ ap (λ bytes. bytes ++ concat frames) was ∙ append_assoc taken o.bytes (concat frames) ∙ ap (λ bytes. taken ++ bytes) h

-- ---- the hub

-- the traffic says that a client is open exactly where the hub has one
pub any_open : (ts : List Traffic) (taken : ℕ → List ℕ) (hub : Hub) → IsAfter ts taken hub → traffic.is_any_open ts ≡ state.is_any_open hub
any_open ts taken hub is =
    ap (list_any (λ c. traffic.is_open c ts)) is.came
    ∙ any_numbered (λ c. traffic.is_open c ts) state.is_open hub.clients 1
    (λ place client there. subst (λ n. traffic.is_open n ts ≡ state.is_open client) (omega arith) (is.streams place client there).is_there)

-- nothing waits where a client is open
pub nothing_waits : (ts : List Traffic) (taken : ℕ → List ℕ) (hub : Hub) → IsAfter ts taken hub → state.is_any_open hub ≡ true → waiting ts ≡ []
nothing_waits ts taken hub is any = ap (λ b. cond b [] (admitted_in (after_last is_going ts))) (any_open ts taken hub is ∙ any)

-- an entry that isn't a coming leaves the clients that came
same_clients : (ts : List Traffic) (t : Traffic) → comer_of t ≡ None → clients (ts ++ t ∷ []) ≡ clients ts
same_clients ts t none = filter_map-append comer_of ts (t ∷ []) ∙ rw none (append-nil (clients ts))

same_admissions : (ts : List Traffic) (t : Traffic) → frame_of t ≡ None → admitted_in (ts ++ t ∷ []) ≡ admitted_in ts
same_admissions ts t none = filter_map-append frame_of ts (t ∷ []) ∙ rw none (append-nil (admitted_in ts))

more_admissions : (ts : List Traffic) (frame : List ℕ) → length (admitted_in (ts ++ Admitted frame ∷ [])) ≡ length (admitted_in ts) + 1
more_admissions ts frame = ap length (filter_map-append frame_of ts (Admitted frame ∷ [])) ∙ length-append (admitted_in ts) (frame ∷ [])

-- replies to a client, with one entry more
same_replies : (number : ℕ) (ts : List Traffic) (t : Traffic) → is_reply_to number t ≡ false → count_by (is_reply_to number) (ts ++ t ∷ []) ≡ count_by (is_reply_to number) ts
same_replies number ts t none = sum_by-append (λ x. cond (is_reply_to number x) 1 0) ts (t ∷ []) ∙ rw none (omega arith)

more_replies : (number : ℕ) (ts : List Traffic) (t : Traffic) → is_reply_to number t ≡ true → count_by (is_reply_to number) (ts ++ t ∷ []) ≡ count_by (is_reply_to number) ts + 1
more_replies number ts t one = sum_by-append (λ x. cond (is_reply_to number x) 1 0) ts (t ∷ []) ∙ rw one (omega arith)

-- an entry of other clients leaves a stream
untouched : {ecu : List ℕ} {buffer : ℕ} {ts : List Traffic} {taken : List ℕ} {number : ℕ} {client : Client} (t : Traffic)
    → IsStream ecu buffer ts taken number client → put ecu buffer number ts t ≡ [] → outgoing_at ecu buffer number ts t ≡ [] → comes_or_goes number t ≡ false → is_reply_to number t ≡ false
    → IsStream ecu buffer (ts ++ t ∷ []) taken number client
untouched {ecu} {buffer} {ts} {taken} {number} {client} t is puts goes quiet silent =
    stream-of t [] client is puts
    (is_open-one number ts t ∙ rw quiet is.is_there)
    (omega arith) (omega arith)
    (same_replies number ts t silent ∙ is.replies)
    (itself client.outbox)
    (λ none. let it = is.gone none in (it.0, ap concat (append-nil (sent ecu buffer number ts)) ∙ it.1, it.2))
    [] goes (begun_itself client.outbox) (due_itself client.outbox) (λ none. ap (λ os. messages_in (past (length taken) (all_due os))) (append-nil (outgoing ecu buffer number ts)) ∙ is.lost none) where
      begun_itself : (o : Option Waiting) → IfSome o (λ new. IsSomeAnd o (λ old. old.begun ≡ new.begun))
      begun_itself None = tt {0}
      begun_itself (Some w) = refl

      due_itself : (o : Option Waiting) → IfSome o (λ new. IsSomeAnd o (λ old. old.due ++ [] ≡ new.due))
      due_itself None = tt {0}
      due_itself (Some w) = append-nil w.due

      itself : (o : Option Waiting) → IfSome o (λ new. IsSomeAnd o (λ old. old.bytes ++ concat [] ≡ new.bytes))
      itself None = tt {0}
      itself (Some w) = append-nil w.bytes

-- ---- a frame is admitted

admit_stream : {ecu : List ℕ} {buffer : ℕ} {ts : List Traffic} {taken : List ℕ} {number : ℕ} {client : Client} (frame : List ℕ)
    → IsStream ecu buffer ts taken number client → IsStream ecu buffer (ts ++ Admitted frame ∷ []) taken number (with_frame frame client)
admit_stream {ecu} {buffer} {ts} {taken} {number} {client} frame is = by_outbox client.outbox is where
  by_outbox : (o : Option Waiting) → IsStream ecu buffer ts taken number (record client { outbox = o })
      → IsStream ecu buffer (ts ++ Admitted frame ∷ []) taken number (with_frame frame (record client { outbox = o }))
  by_outbox None is = untouched (Admitted frame) is (rw is.is_there refl) (rw is.is_there refl) refl refl
  by_outbox (Some w) is =
      stream-of (Admitted frame) (frame ∷ []) (with_frame frame (record client { outbox = Some w })) is
      (rw is.is_there refl) (is_open-one number ts (Admitted frame) ∙ is.is_there) refl (omega arith)
      (same_replies number ts (Admitted frame) refl ∙ is.replies)
      (ap (λ xs. w.bytes ++ xs) (append-nil frame))
      (λ none. absurd cc)
      (one_message frame ∷ []) (rw is.is_there refl) refl refl (λ none. absurd cc)

-- where a client is open, each open one is sent it
pub admit-open : (frame : List ℕ) (ts : List Traffic) (taken : ℕ → List ℕ) (hub : Hub) → IsAfter ts taken hub → state.is_any_open hub ≡ true
    → IsAfter (ts ++ Admitted frame ∷ []) taken (record hub { clients = map (with_frame frame) hub.clients; admitted = hub.admitted + 1 })
admit-open frame ts taken hub is any = record {
  came = same_clients ts (Admitted frame) refl ∙ is.came ∙ ap (range_with_len 1) (sym (length-map hub.clients (with_frame frame)));
  admissions = more_admissions ts frame ∙ ap (λ n. n + 1) is.admissions;
  streams = λ place client there.
      let old = mapped_some (with_frame frame) (slice_get hub.clients place) client (sym (slice_get-map (with_frame frame) hub.clients place) ∙ there) in
      subst (λ c. IsStream hub.ecu hub.buffer (ts ++ Admitted frame ∷ []) (taken (place + 1)) (place + 1) c) old.2 (admit_stream frame (is.streams place old.0 old.1));
  untaken = λ number above. is.untaken number (rw (length-map hub.clients (with_frame frame)) at above);
  unanswered = λ number above. same_replies number ts (Admitted frame) refl ∙ is.unanswered number (rw (length-map hub.clients (with_frame frame)) at above);
  waits =
      let still : waiting (ts ++ Admitted frame ∷ []) ≡ waiting ts =
      waiting-admit frame ts ∙ ap (λ b. cond b [] (waiting ts ++ frame ∷ [])) (any_open ts taken hub is ∙ any) ∙ sym (nothing_waits ts taken hub is any) in
      rw still (record { bytes = is.waits.bytes; frames_kept = is.waits.frames_kept; refusals = is.waits.refusals; due = is.waits.due });
}

-- ---- a frame waits

-- what the buffer keeps is all, where nothing is refused
kept_all : (limit : ℕ) (frames : List (List ℕ)) → refused limit frames ≡ 0 → (fitting limit frames ≡ frames) × (size_of frames ≤ limit)
kept_all limit [] none = (refl, omega arith)
kept_all limit (f ∷ fs) none = by_size (leb_tells (length f) limit) none (kept_all (limit - length f) fs) where
  by_size : ((leb (length f) limit ≡ true) × (length f ≤ limit)) ⊎ ((leb (length f) limit ≡ false) × (limit < length f)) → refused limit (f ∷ fs) ≡ 0
      → (refused (limit - length f) fs ≡ 0 → (fitting (limit - length f) fs ≡ fs) × (size_of fs ≤ limit - length f))
      → (fitting limit (f ∷ fs) ≡ f ∷ fs) × (size_of (f ∷ fs) ≤ limit)
  by_size (inl fits) none shorter =
      let less : refused (limit - length f) fs ≡ 0 = omega (arith, rw fits.0 at none) in
      let rest = shorter less in
      (rw (fits.0, rest.0) refl, omega (arith, fits.1, rest.1, sum_by-cons length f fs))
  by_size (inr above) none shorter = absurd (no_room (rw above.0 at none)) where
    no_room : suc (length fs) - 0 ≡ 0 → ⊥
    no_room e = omega (arith, e)

-- where a frame was refused, the frames that wait have more bytes than the limit
too_many : (limit : ℕ) (frames : List (List ℕ)) → 0 < refused limit frames → limit < size_of frames
too_many limit [] some = absurd (omega (arith, some))
too_many limit (f ∷ fs) some = by_size (leb_tells (length f) limit) some (too_many (limit - length f) fs) where
  by_size : ((leb (length f) limit ≡ true) × (length f ≤ limit)) ⊎ ((leb (length f) limit ≡ false) × (limit < length f)) → 0 < refused limit (f ∷ fs)
      → (0 < refused (limit - length f) fs → limit - length f < size_of fs) → limit < size_of (f ∷ fs)
  by_size (inl fits) some shorter =
      let less : 0 < refused (limit - length f) fs = omega (arith, rw fits.0 at some) in
      omega (arith, fits.1, shorter less, sum_by-cons length f fs)
  by_size (inr above) some shorter = omega (arith, above.1, sum_by-cons length f fs)

size_behind : (frames : List (List ℕ)) (f : List ℕ) → size_of (frames ++ f ∷ []) ≡ size_of frames + length f
size_behind frames f = sum_by-append length frames (f ∷ []) ∙ omega arith

-- a frame that comes to the backlog
pub backlog-one : (f : List ℕ) (frames : List (List ℕ)) (ecu : List ℕ) (store : Stored) (limit : ℕ) (some later : List Client) (n m : ℕ)
    → IsBacklog store.ring.capacity frames (state.hub_of ecu store limit some n)
    → IsBacklog store.ring.capacity (frames ++ f ∷ []) (state.hub_of ecu (stored f store) limit later m)
backlog-one f frames ecu store limit some later n m is = by_refused (eq-zero-or-pos store.refused) where
  refuses : keeps f store ≡ false
      → refused store.ring.capacity (frames ++ f ∷ []) ≡ store.refused + 1
      → fitting store.ring.capacity (frames ++ f ∷ []) ≡ fitting store.ring.capacity frames
      → IsBacklog store.ring.capacity (frames ++ f ∷ []) (state.hub_of ecu (stored f store) limit later m)
  refuses is_so more same = rw is_so (record { bytes = ap concat same ∙ is.bytes; frames_kept = ap length same ∙ is.frames_kept; refusals = more; due = ap (λ fs. all_due (map one_message fs)) same ∙ is.due })

  by_size : (store.refused ≡ 0) → ((leb (length store.ring.bytes + length f) store.ring.capacity ≡ true) × (length store.ring.bytes + length f ≤ store.ring.capacity))
      ⊎ ((leb (length store.ring.bytes + length f) store.ring.capacity ≡ false) × (store.ring.capacity < length store.ring.bytes + length f))
      → IsBacklog store.ring.capacity (frames ++ f ∷ []) (state.hub_of ecu (stored f store) limit later m)
  by_size none (inl fits) =
      let all = kept_all store.ring.capacity frames (is.refusals ∙ none) in
      let bytes : length store.ring.bytes ≡ size_of frames = ap length (sym is.bytes ∙ ap concat all.0) ∙ length-concat frames in
      let within : leb (size_of (frames ++ f ∷ [])) store.ring.capacity ≡ true = rw (size_behind frames f, sym bytes) fits.0 in
      let kept : fitting store.ring.capacity (frames ++ f ∷ []) ≡ frames ++ f ∷ [] = fitting-one store.ring.capacity frames f ∙ rw within refl in
      let is_so : keeps f store ≡ true = rw (none, fits.0) refl in
      rw is_so (record {
        bytes = ap concat kept ∙ concat-append frames (f ∷ []) ∙ rw (append-nil f) (ap (λ xs. xs ++ f) (ap concat (sym all.0) ∙ is.bytes));
        frames_kept = ap length kept ∙ length-append frames (f ∷ []) ∙ ap (λ k. k + 1) (ap length (sym all.0) ∙ is.frames_kept);
        refusals = ap (λ fs. length (frames ++ f ∷ []) - length fs) kept ∙ omega (arith, none);
        due = ap (λ fs. all_due (map one_message fs)) kept ∙ due_one frames f ∙ ap (λ ds. ds ++ (length f, 1) ∷ []) (ap (λ fs. all_due (map one_message fs)) (sym all.0) ∙ is.due);
      })
  by_size none (inr above) =
      let all = kept_all store.ring.capacity frames (is.refusals ∙ none) in
      let bytes : length store.ring.bytes ≡ size_of frames = ap length (sym is.bytes ∙ ap concat all.0) ∙ length-concat frames in
      let past : leb (size_of (frames ++ f ∷ [])) store.ring.capacity ≡ false = rw (size_behind frames f, sym bytes) above.0 in
      let same : fitting store.ring.capacity (frames ++ f ∷ []) ≡ fitting store.ring.capacity frames = fitting-one store.ring.capacity frames f ∙ rw past refl in
      refuses (rw (none, above.0) refl)
      (ap (λ fs. length (frames ++ f ∷ []) - length fs) same ∙ omega (arith, none, is.refusals, length-append frames (f ∷ []), ap length all.0))
      same

  by_refused : (store.refused ≡ 0) ⊎ (0 < store.refused) → IsBacklog store.ring.capacity (frames ++ f ∷ []) (state.hub_of ecu (stored f store) limit later m)
  by_refused (inl none) = by_size none (leb_tells (length store.ring.bytes + length f) store.ring.capacity)
  by_refused (inr some_were) =
      let many = too_many store.ring.capacity frames (subst (λ k. 0 < k) (sym is.refusals) some_were) in
      let past : leb (size_of (frames ++ f ∷ [])) store.ring.capacity ≡ false = rw (size_behind frames f) (lt-leb (size_of frames + length f) store.ring.capacity (omega (arith, many))) in
      let same : fitting store.ring.capacity (frames ++ f ∷ []) ≡ fitting store.ring.capacity frames = fitting-one store.ring.capacity frames f ∙ rw past refl in
      let not_none : eqb store.refused 0 ≡ false = grind (arith, nat_tests) in
      refuses (rw not_none refl)
      (ap (λ fs. length (frames ++ f ∷ []) - length fs) same ∙ omega (arith, is.refusals, some_were, length-append frames (f ∷ [])))
      same

-- a client that isn't open is sent nothing
shut_each : (all : List Client) → list_any state.is_open all ≡ false → (place : ℕ) (client : Client) → slice_get all place ≡ Some client → state.is_open client ≡ false
shut_each [] none place client there = absurd cc
shut_each (c ∷ cs) none zero client there = subst (λ x. state.is_open x ≡ false) (some_is there) (neither (state.is_open c) (list_any state.is_open cs) none).0
shut_each (c ∷ cs) none (suc place) client there = shut_each cs (neither (state.is_open c) (list_any state.is_open cs) none).1 place client there

closed_stream : {ecu : List ℕ} {buffer : ℕ} {ts : List Traffic} {taken : List ℕ} {number : ℕ} {client : Client} (frame : List ℕ)
    → IsStream ecu buffer ts taken number client → state.is_open client ≡ false → IsStream ecu buffer (ts ++ Admitted frame ∷ []) taken number client
closed_stream frame is shut = untouched (Admitted frame) is (rw (is.is_there, shut) refl) (rw (is.is_there, shut) refl) refl refl

-- where no client is open, it waits
pub admit-waits : (frame : List ℕ) (ts : List Traffic) (taken : ℕ → List ℕ) (ecu : List ℕ) (store : Stored) (limit : ℕ) (all : List Client) (n : ℕ)
    → IsAfter ts taken (state.hub_of ecu store limit all n) → state.is_any_open (state.hub_of ecu store limit all n) ≡ false
    → IsAfter (ts ++ Admitted frame ∷ []) taken (state.hub_of ecu (stored frame store) limit all (n + 1))
admit-waits frame ts taken ecu store limit all n is none =
    let hub = state.hub_of ecu store limit all n in
    let nobody : traffic.is_any_open ts ≡ false = any_open ts taken hub is ∙ none in
    record {
      came = same_clients ts (Admitted frame) refl ∙ is.came;
      admissions = more_admissions ts frame ∙ ap (λ k. k + 1) is.admissions;
      streams = λ place client there. closed_stream frame (is.streams place client there) (shut_each all none place client there);
      untaken = is.untaken;
      unanswered = λ number above. same_replies number ts (Admitted frame) refl ∙ is.unanswered number above;
      waits = rw (waiting-admit frame ts ∙ ap (λ b. cond b [] (waiting ts ++ frame ∷ [])) nobody) (backlog-one frame (waiting ts) ecu store limit all all n (n + 1) is.waits);
    }

-- ---- one client changes

-- an entry of one client: its own stream changes, and the others stay
pub one_changes : (t : Traffic) (number : ℕ) (change : Client → Client) (old : Client) (ts : List Traffic) (taken : ℕ → List ℕ) (hub : Hub)
    → IsAfter ts taken hub
    → slice_get hub.clients number ≡ Some old
    → comer_of t ≡ None → frame_of t ≡ None
    → ((other : ℕ) → other ≢ number → (put hub.ecu hub.buffer (other + 1) ts t ≡ []) × (outgoing_at hub.ecu hub.buffer (other + 1) ts t ≡ []) × (comes_or_goes (other + 1) t ≡ false) × (is_reply_to (other + 1) t ≡ false))
    → IsStream hub.ecu hub.buffer (ts ++ t ∷ []) (taken (number + 1)) (number + 1) (change old)
    → IsBacklog hub.buffer (waiting (ts ++ t ∷ [])) hub
    → IsAfter (ts ++ t ∷ []) taken (record hub { clients = slice_set hub.clients number (change old) })
one_changes t number change old ts taken hub is found no_comer no_frame quiet stream backlog = record {
  came = same_clients ts t no_comer ∙ is.came ∙ ap (range_with_len 1) (sym (length-set hub.clients number (change old)));
  admissions = ap length (same_admissions ts t no_frame) ∙ is.admissions;
  streams = λ place client there. by_place place client there (eqb_tells place number);
  untaken = λ other above. is.untaken other (rw (length-set hub.clients number (change old)) at above);
  unanswered = λ other above.
      let past : length hub.clients < other = rw (length-set hub.clients number (change old)) at above in
      let not_it : other - 1 ≢ number = λ e. absurd (omega (arith, e, past, slice_get_within hub.clients number old found)) in
      same_replies other ts t (subst (λ n. is_reply_to n t ≡ false) (omega (arith, past)) (quiet (other - 1) not_it).3) ∙ is.unanswered other past;
  waits = record { bytes = backlog.bytes; frames_kept = backlog.frames_kept; refusals = backlog.refusals; due = backlog.due };
} where
  by_place : (place : ℕ) (client : Client) → slice_get (slice_set hub.clients number (change old)) place ≡ Some client → ((eqb place number ≡ true) × (place ≡ number)) ⊎ ((eqb place number ≡ false) × (place ≢ number))
      → IsStream hub.ecu hub.buffer (ts ++ t ∷ []) (taken (place + 1)) (place + 1) client
  by_place place client there (inl e) =
      let now : change old ≡ client = some_is (sym (slice_get-set_same hub.clients number (change old) (slice_get_within hub.clients number old found)) ∙ ap (slice_get (slice_set hub.clients number (change old))) (sym e.1) ∙ there) in
      subst (λ n. IsStream hub.ecu hub.buffer (ts ++ t ∷ []) (taken (n + 1)) (n + 1) client) (sym e.1)
      (subst (λ c. IsStream hub.ecu hub.buffer (ts ++ t ∷ []) (taken (number + 1)) (number + 1) c) now stream)
  by_place place client there (inr other) =
      let was = sym (slice_get-set_other hub.clients number place (change old) other.1) ∙ there in
      untouched t (is.streams place client was) (quiet place other.1).0 (quiet place other.1).1 (quiet place other.1).2 (quiet place other.1).3

other_number : (place number : ℕ) → place ≢ number → eqb (number + 1) (place + 1) ≡ false
other_number place number differ = grind (arith, nat_tests)

-- a reply
pub reply-follows : (frame : List ℕ) (number : ℕ) (old : Client) (ts : List Traffic) (taken : ℕ → List ℕ) (hub : Hub)
    → IsAfter ts taken hub → slice_get hub.clients number ≡ Some old → state.is_open old ≡ true
    → IsAfter (ts ++ Reply (number + 1) frame ∷ []) taken (record hub { clients = slice_set hub.clients number (with_reply frame old) })
reply-follows frame number old ts taken hub is found there =
    let t = Reply (number + 1) frame in
    let stream = is.streams number old found in
    let same : waiting (ts ++ t ∷ []) ≡ waiting ts = waiting-reply (number + 1) frame ts in
    one_changes t number (with_reply frame) old ts taken hub is found refl refl
    (λ other differ. (rw (other_number other number differ) refl, rw (other_number other number differ) refl, refl, other_number other number differ))
    (stream-of t (frame ∷ []) (with_reply frame old) stream
    (rw (same_number (number + 1), stream.is_there, there) refl)
    (is_open-one (number + 1) ts t ∙ stream.is_there ∙ there ∙ sym (still_open old.outbox there))
    refl (omega arith)
    (more_replies (number + 1) ts t (same_number (number + 1)) ∙ ap (λ n. n + 1) stream.replies)
    (longer old.outbox)
    (λ none. absurd (still_there old.outbox there none))
    (no_message frame ∷ []) (rw (same_number (number + 1), stream.is_there, there) refl) (begun_longer old.outbox) (due_longer old.outbox) (λ none. absurd (still_there old.outbox there none)))
    (rw same is.waits) where
      begun_longer : (o : Option Waiting) → IfSome (option_map (added frame ((length frame, 0) ∷ [])) o) (λ new. IsSomeAnd o (λ was. was.begun ≡ new.begun))
      begun_longer None = tt {0}
      begun_longer (Some w) = refl

      due_longer : (o : Option Waiting) → IfSome (option_map (added frame ((length frame, 0) ∷ [])) o) (λ new. IsSomeAnd o (λ was. was.due ++ all_due (no_message frame ∷ []) ≡ new.due))
      due_longer None = tt {0}
      due_longer (Some w) = refl

      still_there : (o : Option Waiting) → is_some o ≡ true → option_map (added frame ((length frame, 0) ∷ [])) o ≡ None → ⊥
      still_there None e none = absurd cc
      still_there (Some w) e none = absurd cc

      still_open : (o : Option Waiting) → is_some o ≡ true → is_some (option_map (added frame ((length frame, 0) ∷ [])) o) ≡ true
      still_open None e = absurd cc
      still_open (Some w) e = refl

      longer : (o : Option Waiting) → IfSome (option_map (added frame ((length frame, 0) ∷ [])) o) (λ new. IsSomeAnd o (λ was. was.bytes ++ concat (frame ∷ []) ≡ new.bytes))
      longer None = tt {0}
      longer (Some w) = ap (λ xs. w.bytes ++ xs) (append-nil frame)

-- a client goes
pub goes-follows : (number : ℕ) (old : Client) (ts : List Traffic) (taken : ℕ → List ℕ) (hub : Hub)
    → IsAfter ts taken hub → slice_get hub.clients number ≡ Some old → state.is_open old ≡ true → state.is_any_open hub ≡ true
    → IsAfter (ts ++ Closed (number + 1) ∷ []) taken (record hub { clients = slice_set hub.clients number (shut old) })
goes-follows number old ts taken hub is found there any =
    let t = Closed (number + 1) in
    let stream = is.streams number old found in
    let same : waiting (ts ++ t ∷ []) ≡ waiting ts = waiting-goes (number + 1) ts ∙ sym (nothing_waits ts taken hub is any) in
    one_changes t number shut old ts taken hub is found refl refl
    (λ other differ. (refl, refl, other_number other number differ, refl))
    (stream-of t [] (shut old) stream refl
    (is_open-one (number + 1) ts t ∙ ap (λ b. cond b false (traffic.is_open (number + 1) ts)) (same_number (number + 1)))
    (omega arith) (omega arith)
    (same_replies (number + 1) ts t refl ∙ stream.replies)
    (tt {0})
    (λ none. what_is_left old.outbox there stream.left)
    [] refl (tt {0}) (tt {0})
    (λ none. ap (λ os. messages_in (past (length (taken (number + 1))) (all_due os))) (append-nil (outgoing hub.ecu hub.buffer (number + 1) ts)) ∙ what_is_lost old.outbox there stream.due))
    (rw same is.waits) where
      what_is_lost : (o : Option Waiting) → is_some o ≡ true
          → IfSome o (λ w. untaken hub.ecu hub.buffer (number + 1) ts (length (taken (number + 1))) ≡ w.due)
          → messages_in (untaken hub.ecu hub.buffer (number + 1) ts (length (taken (number + 1)))) ≡ option_map_or (λ w. messages_in w.due) o old.messages
      what_is_lost None e was = absurd cc
      what_is_lost (Some w) e was = ap messages_in was

      what_is_left : (o : Option Waiting) → is_some o ≡ true
          → IfSome o (λ w. concat (sent hub.ecu hub.buffer (number + 1) ts) ≡ taken (number + 1) ++ w.bytes)
          → (rest : List ℕ) × (concat (sent hub.ecu hub.buffer (number + 1) ts ++ []) ≡ taken (number + 1) ++ rest)
          × (length rest ≡ option_map_or (λ w. length w.bytes) o old.left)
      what_is_left None e was = absurd cc
      what_is_left (Some w) e was = (w.bytes, ap concat (append-nil (sent hub.ecu hub.buffer (number + 1) ts)) ∙ was, refl)

-- ---- a client comes

-- a client that has not come was sent nothing
never_came : (ecu : List ℕ) (buffer number : ℕ) (before ts : List Traffic) → traffic.is_open number before ≡ false → list_any (λ m. eqb m number) (clients ts) ≡ false
    → (along_from (put ecu buffer number) before ts ≡ []) × (traffic.is_open number (before ++ ts) ≡ false)
never_came ecu buffer number before [] closed none = (refl, ap (traffic.is_open number) (append-nil before) ∙ closed)
never_came ecu buffer number before (Connected m ∷ ts) closed none =
    let other = neither (eqb m number) (list_any (λ k. eqb k number) (clients ts)) none in
    let still : traffic.is_open number (before ++ Connected m ∷ []) ≡ false = is_open-one number before (Connected m) ∙ rw other.0 closed in
    let rest = never_came ecu buffer number (before ++ Connected m ∷ []) ts still other.1 in
    (rw (other.0, rest.0) refl, ap (traffic.is_open number) (sym (append_assoc before (Connected m ∷ []) ts)) ∙ rest.1)
never_came ecu buffer number before (Admitted frame ∷ ts) closed none =
    let still : traffic.is_open number (before ++ Admitted frame ∷ []) ≡ false = is_open-one number before (Admitted frame) ∙ closed in
    let rest = never_came ecu buffer number (before ++ Admitted frame ∷ []) ts still none in
    (rw (closed, rest.0) refl, ap (traffic.is_open number) (sym (append_assoc before (Admitted frame ∷ []) ts)) ∙ rest.1)
never_came ecu buffer number before (Reply m frame ∷ ts) closed none =
    let still : traffic.is_open number (before ++ Reply m frame ∷ []) ≡ false = is_open-one number before (Reply m frame) ∙ closed in
    let rest = never_came ecu buffer number (before ++ Reply m frame ∷ []) ts still none in
    (rw (closed, and-false (eqb m number), rest.0) refl, ap (traffic.is_open number) (sym (append_assoc before (Reply m frame ∷ []) ts)) ∙ rest.1)
never_came ecu buffer number before (Closed m ∷ ts) closed none =
    let still : traffic.is_open number (before ++ Closed m ∷ []) ≡ false = is_open-one number before (Closed m) ∙ rw closed (cond_same (eqb m number) false) in
    let rest = never_came ecu buffer number (before ++ Closed m ∷ []) ts still none in
    (rest.0, ap (traffic.is_open number) (sym (append_assoc before (Closed m ∷ []) ts)) ∙ rest.1)

-- a new client, that is handed what waits
pub comes-follows : (new : Client) (number : ℕ) (ts : List Traffic) (taken : ℕ → List ℕ) (hub : Hub)
    → IsAfter ts taken hub
    → number ≡ length hub.clients + 1
    → IsSomeAnd new.outbox (λ outbox. concat (due_backlog hub.ecu hub.buffer (waiting ts)) ≡ outbox.bytes)
    → IsSomeAnd new.outbox (λ outbox. all_due (map one_message (fitting hub.buffer (waiting ts)) ++ map (refusals_told hub.ecu) (counters (refused hub.buffer (waiting ts)))) ≡ outbox.due)
    → IsSomeAnd new.outbox (λ outbox. [] ≡ outbox.begun)
    → length (due_backlog hub.ecu hub.buffer (waiting ts)) ≡ new.frames
    → size_of (due_backlog hub.ecu hub.buffer (waiting ts)) ≡ new.bytes
    → new.replies ≡ 0
    → IsAfter (ts ++ Connected number ∷ []) taken (record hub { clients = hub.clients ++ new ∷ []; backlog = []; frames = 0; refused = 0; due = [] })
comes-follows new number ts taken hub is numbered outbox due_so none_begun frames bytes replies = record {
  came = filter_map-append comer_of ts (t ∷ []) ∙ ap (λ xs. xs ++ number ∷ []) is.came
      ∙ rw (numbered) (ap (λ n. range_with_len 1 (length hub.clients) ++ n ∷ []) (omega arith) ∙ one_more_number 1 (length hub.clients)) ∙ ap (range_with_len 1) (sym longer);
  admissions = ap length (same_admissions ts t refl) ∙ is.admissions;
  streams = λ place client there. by_place place client there (leb_tells (length hub.clients) place);
  untaken = λ other above. is.untaken other (omega (arith, above, longer));
  unanswered = λ other above. same_replies other ts t refl ∙ is.unanswered other (omega (arith, above, longer));
  waits = rw (waiting-comes number ts) (record { bytes = refl; frames_kept = refl; refusals = refl; due = refl });
} where
  t : Traffic
  t = Connected number

  longer : length (hub.clients ++ new ∷ []) ≡ suc (length hub.clients)
  longer = length-append hub.clients (new ∷ []) ∙ omega arith

  nobody : list_any (λ m. eqb m number) (clients ts) ≡ false
  nobody = ap (list_any (λ m. eqb m number)) is.came ∙ none_numbered number 1 (length hub.clients) (omega (arith, numbered))

  nothing : (along_from (put hub.ecu hub.buffer number) [] ts ≡ []) × (traffic.is_open number ts ≡ false)
  nothing = never_came hub.ecu hub.buffer number [] ts refl nobody

  due : List (List ℕ)
  due = due_backlog hub.ecu hub.buffer (waiting ts)

  all : sent hub.ecu hub.buffer number (ts ++ t ∷ []) ≡ due
  all = along-one (put hub.ecu hub.buffer number) ts t ∙ rw (nothing.0, same_number number) refl

  first : taken number ≡ []
  first = is.untaken number (omega (arith, numbered))

  items : List Outgoing
  items = map one_message (fitting hub.buffer (waiting ts)) ++ map (refusals_told hub.ecu) (counters (refused hub.buffer (waiting ts)))

  all_items : outgoing hub.ecu hub.buffer number (ts ++ t ∷ []) ≡ items
  all_items = along-one (outgoing_at hub.ecu hub.buffer number) ts t ∙ rw (nothing_outgoing hub.ecu hub.buffer number ts nothing.0, same_number number) refl

  is_begun : (o : Option Waiting) → IsSomeAnd o (λ outbox. [] ≡ outbox.begun) → IfSome o (λ outbox. drop (length (taken number) - begun_by hub.ecu hub.buffer number (ts ++ t ∷ []) (length (taken number))) (taken number) ≡ outbox.begun)
  is_begun None h = absurd h
  is_begun (Some w) h =
      ap (drop (length (taken number) - begun_by hub.ecu hub.buffer number (ts ++ t ∷ []) (length (taken number)))) first
      ∙ drop_nothing (length (taken number) - begun_by hub.ecu hub.buffer number (ts ++ t ∷ []) (length (taken number))) ∙ h

  is_due : (o : Option Waiting) → IsSomeAnd o (λ outbox. all_due items ≡ outbox.due) → IfSome o (λ outbox. untaken hub.ecu hub.buffer number (ts ++ t ∷ []) (length (taken number)) ≡ outbox.due)
  is_due None h = absurd h
  is_due (Some w) h = rw (all_items, first) h

  is_new : (o : Option Waiting) → IsSomeAnd o (λ outbox. concat due ≡ outbox.bytes) → (is_some o ≡ true) × IfSome o (λ outbox. concat (sent hub.ecu hub.buffer number (ts ++ t ∷ [])) ≡ taken number ++ outbox.bytes)
  is_new None h = absurd h
  is_new (Some w) h = (refl, rw (all, first) h)

  is_there_now : (o : Option Waiting) → IsSomeAnd o (λ outbox. concat due ≡ outbox.bytes) → o ≡ None → ⊥
  is_there_now None h none = absurd h
  is_there_now (Some w) h none = absurd cc

  new_stream : IsStream hub.ecu hub.buffer (ts ++ t ∷ []) (taken number) number new
  new_stream = record {
    is_there = is_open-one number ts t ∙ rw (same_number number) (sym (is_new new.outbox outbox).0);
    frames = ap length all ∙ frames;
    bytes = ap size_of all ∙ bytes;
    replies = same_replies number ts t refl ∙ is.unanswered number (omega (arith, numbered)) ∙ sym replies;
    left = (is_new new.outbox outbox).1;
    gone = λ none. absurd (is_there_now new.outbox outbox none);
    due = is_due new.outbox due_so;
    begun = is_begun new.outbox none_begun;
    lost = λ none. absurd (is_there_now new.outbox outbox none);
  }

  by_place : (place : ℕ) (client : Client) → slice_get (hub.clients ++ new ∷ []) place ≡ Some client → ((leb (length hub.clients) place ≡ true) × (length hub.clients ≤ place)) ⊎ ((leb (length hub.clients) place ≡ false) × (place < length hub.clients))
      → IsStream hub.ecu hub.buffer (ts ++ t ∷ []) (taken (place + 1)) (place + 1) client
  by_place place client there (inr below) =
      let was = sym (slice_get-append_left hub.clients (new ∷ []) place below.1) ∙ there in
      let other : eqb number (place + 1) ≡ false = grind (arith, nat_tests, numbered, below.1) in
      untouched t (is.streams place client was) (rw other refl) (rw other refl) other refl
  by_place place client there (inl beyond) =
      let last : place ≡ length hub.clients = omega (arith, beyond.1, longer, slice_get_within (hub.clients ++ new ∷ []) place client there) in
      let it : new ≡ client = some_is (sym (slice_get-append_right hub.clients (new ∷ []) place 0 (omega (arith, last))) ∙ there) in
      let its : number ≡ place + 1 = omega (arith, numbered, last) in
      subst (λ n. IsStream hub.ecu hub.buffer (ts ++ t ∷ []) (taken n) n client) its (subst (λ c. IsStream hub.ecu hub.buffer (ts ++ t ∷ []) (taken number) number c) it new_stream)

-- ---- a link takes bytes

pub took-follows : (count number : ℕ) (old : Client) (ts : List Traffic) (taken : ℕ → List ℕ) (hub : Hub)
    → IsAfter ts taken hub → slice_get hub.clients number ≡ Some old → IsSomeAnd old.outbox (λ outbox. count ≤ length outbox.bytes)
    → IsAfter ts (took_more taken (number + 1) (bytes_before count old.outbox)) (record hub { clients = slice_set hub.clients number (without count old) })
took-follows count number old ts taken hub is found fits = record {
  came = is.came ∙ ap (range_with_len 1) (sym same_length);
  admissions = is.admissions;
  streams = λ place client there. by_place place client there (eqb_tells place number);
  untaken = λ other above.
      let past : length hub.clients < other = rw same_length at above in
      let not_it : eqb other (number + 1) ≡ false = grind (arith, nat_tests, past, slice_get_within hub.clients number old found) in
      rw not_it (is.untaken other past);
  unanswered = λ other above. is.unanswered other (rw same_length at above);
  waits = record { bytes = is.waits.bytes; frames_kept = is.waits.frames_kept; refusals = is.waits.refusals; due = is.waits.due };
} where
  same_length : length (slice_set hub.clients number (without count old)) ≡ length hub.clients
  same_length = length-set hub.clients number (without count old)

  more : ℕ → List ℕ
  more = took_more taken (number + 1) (bytes_before count old.outbox)

  shorter : (o : Option Waiting) → IsSomeAnd o (λ outbox. count ≤ length outbox.bytes)
      → IfSome o (λ outbox. concat (sent hub.ecu hub.buffer (number + 1) ts) ≡ taken (number + 1) ++ outbox.bytes)
      → (is_some (option_map (consumed count) o) ≡ is_some o)
      × IfSome (option_map (consumed count) o) (λ outbox. concat (sent hub.ecu hub.buffer (number + 1) ts) ≡ (taken (number + 1) ++ bytes_before count o) ++ outbox.bytes)
  shorter None h was = absurd h
  shorter (Some w) h was = (refl, was ∙ ap (λ xs. taken (number + 1) ++ xs) (sym (take-append-drop count w.bytes)) ∙ sym (append_assoc (taken (number + 1)) (take count w.bytes) (drop count w.bytes)))

  begun_shorter : (o : Option Waiting) → IsSomeAnd o (λ outbox. count ≤ length outbox.bytes)
      → IfSome o (λ outbox. concat (sent hub.ecu hub.buffer (number + 1) ts) ≡ taken (number + 1) ++ outbox.bytes)
      → IfSome o (λ outbox. untaken hub.ecu hub.buffer (number + 1) ts (length (taken (number + 1))) ≡ outbox.due)
      → IfSome o (λ outbox. drop (length (taken (number + 1)) - begun_by hub.ecu hub.buffer (number + 1) ts (length (taken (number + 1)))) (taken (number + 1)) ≡ outbox.begun)
      → IfSome (option_map (consumed count) o) (λ outbox. drop (length (taken (number + 1) ++ bytes_before count o) - begun_by hub.ecu hub.buffer (number + 1) ts (length (taken (number + 1) ++ bytes_before count o))) (taken (number + 1) ++ bytes_before count o) ≡ outbox.begun)
  begun_shorter None h stands due was = absurd h
  begun_shorter (Some w) h stands due was =
      let n = length (taken (number + 1)) in
      let ds = all_due (outgoing hub.ecu hub.buffer (number + 1) ts) in
      let k = in_front 0 n ds in
      let j = in_front 0 (n + count) ds in
      let long : length (taken (number + 1) ++ take count w.bytes) ≡ n + count = length-append (taken (number + 1)) (take count w.bytes) ∙ omega (arith, h, length-take count w.bytes) in
      let within : k ≤ n = omega (arith, front_within 0 n ds) in
      let has : length w.begun ≡ k = ap length (sym was) ∙ omega (arith, length-drop (n - k) (taken (number + 1)), within) in
      let next : in_front k count w.due ≡ j = ap (in_front k count) (sym due) ∙ front-past 0 n count ds in
      let later : j ≤ k + count = subst (λ i. i ≤ k + count) next (front_within k count w.due) in
      rw (long, has, next) (begun_stream (taken (number + 1)) w.bytes count k j within later h ∙ ap (λ xs. take j (drop (k + count - j) (xs ++ w.bytes))) was)

  due_shorter : (o : Option Waiting) → IsSomeAnd o (λ outbox. count ≤ length outbox.bytes)
      → IfSome o (λ outbox. untaken hub.ecu hub.buffer (number + 1) ts (length (taken (number + 1))) ≡ outbox.due)
      → IfSome (option_map (consumed count) o) (λ outbox. untaken hub.ecu hub.buffer (number + 1) ts (length (taken (number + 1) ++ bytes_before count o)) ≡ outbox.due)
  due_shorter None h was = absurd h
  due_shorter (Some w) h was =
      let long : length (taken (number + 1) ++ take count w.bytes) ≡ length (taken (number + 1)) + count = length-append (taken (number + 1)) (take count w.bytes) ∙ omega (arith, h, length-take count w.bytes) in
      ap (λ k. untaken hub.ecu hub.buffer (number + 1) ts k) long
      ∙ sym (past-past (length (taken (number + 1))) count (all_due (outgoing hub.ecu hub.buffer (number + 1) ts)))
      ∙ ap (past count) was

  still_there : (o : Option Waiting) → IsSomeAnd o (λ outbox. count ≤ length outbox.bytes) → option_map (consumed count) o ≡ None → ⊥
  still_there None h none = absurd h
  still_there (Some w) h none = absurd cc

  stream : IsStream hub.ecu hub.buffer ts (more (number + 1)) (number + 1) (without count old)
  stream =
      let was = is.streams number old found in
      let its = shorter old.outbox fits was.left in
      rw (same_number (number + 1)) (record {
        is_there = was.is_there ∙ sym its.0;
        frames = was.frames;
        bytes = was.bytes;
        replies = was.replies;
        left = its.1;
        gone = λ none. absurd (still_there old.outbox fits none);
        due = due_shorter old.outbox fits was.due;
        begun = begun_shorter old.outbox fits was.left was.due was.begun;
        lost = λ none. absurd (still_there old.outbox fits none);
      })

  by_place : (place : ℕ) (client : Client) → slice_get (slice_set hub.clients number (without count old)) place ≡ Some client
      → ((eqb place number ≡ true) × (place ≡ number)) ⊎ ((eqb place number ≡ false) × (place ≢ number)) → IsStream hub.ecu hub.buffer ts (more (place + 1)) (place + 1) client
  by_place place client there (inl e) =
      let now : without count old ≡ client = some_is (sym (slice_get-set_same hub.clients number (without count old) (slice_get_within hub.clients number old found)) ∙ ap (slice_get (slice_set hub.clients number (without count old))) (sym e.1) ∙ there) in
      subst (λ n. IsStream hub.ecu hub.buffer ts (more (n + 1)) (n + 1) client) (sym e.1) (subst (λ c. IsStream hub.ecu hub.buffer ts (more (number + 1)) (number + 1) c) now stream)
  by_place place client there (inr other) =
      let was = sym (slice_get-set_other hub.clients number place (without count old) other.1) ∙ there in
      let same : more (place + 1) ≡ taken (place + 1) = rw (other_number number place (λ e. other.1 (sym e))) refl in
      subst (λ xs. IsStream hub.ecu hub.buffer ts xs (place + 1) client) (sym same) (is.streams place client was)
