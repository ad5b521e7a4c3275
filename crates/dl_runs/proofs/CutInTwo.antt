-- One line of bytes, and the same in two.
use Rattle.std.proofs.Common.{◌≡◌, ℕ, ◌≤◌, Bool, true, false, cond, eqb, ltb, List, [], ◌∷◌, ◌++◌, length, drop, Option, Some, None, refl, sym, ap, subst, ◌∙◌, append_assoc, arith, inl, inr}
use Rattle.std.specs.Prelude.{map, count_by, is_some, IsSome, ◌⊎◌}
use Rattle.std.specs.List.{filter_map, concat}
use Rattle.std.proofs.lemmas.Bool.{eq-eqb, ne_eqb, cases_eq}
use Rattle.std.proofs.lemmas.List.{append-nil, map-append, drop_at}
use Rattle.std.proofs.lemmas.List.Elements.{filter_map-append}
use Rattle.std.proofs.Math.Seq.{drop-length}
use Rattle.dl_bytes.specs.Limits.{message_limit}
use Rattle.dl_bytes.specs.Bytes.{IsBytes}
use Rattle.dl_bytes.specs.declared.outcome.Done.{Done}
use Rattle.dl_bytes.specs.declared.user.UserMsg.{UserMsg}
use Rattle.dl_headers.specs.declared.fault.HeaderFault.{HeaderFault}
use Rattle.dl_message.specs.Cut.{rest_fault, rest_of, pieces, IsCut}
use Rattle.dl_message.specs.Requests.{requests}
use Rattle.dl_message.proofs.Pieces.{bad_no_piece, bad_stays}
use Rattle.dl_message.proofs.Cuts.{one_cut, its_cut, requests-append, requests-bad}
use Rattle.dl_user.specs.Cut.{messages_of}
use Rattle.dl_user.proofs.Cuts.{cut_goes_on}
use Rattle.dl_events.specs.declared.event.Event.{Event}
use Rattle.dl_events.specs.declared.event.Event.TheVariants as event
use Rattle.dl_events.specs.declared.event.Why.{Why}
use Rattle.dl_events.specs.declared.event.Why.TheVariants as why
use Rattle.dl_model.specs.declared.registry.LevelChange.{LevelChange}
use Rattle.dl_model.specs.Along.{last_that}
use Rattle.dl_model.specs.Setting.{Setting}
use Rattle.dl_model.specs.Journal.{is_connect, comes_or_goes, is_request_of}
use Rattle.dl_script_model.specs.Marks.{Mark, Noted, Fed, Heard, journal, event_of, fed, heard, is_later}
use Rattle.dl_script_model.specs.Steps.{Act, in_sequence, when, changes, level_noted, note_levels, note_levels_now, note, is_open, close, request_now, ask, close_malformed, receive, tell, hear}
use Rattle.dl_model.proofs.Lists.{count_by-append}
use Rattle.dl_runs.proofs.Relations.{AreAll, both, turns, each}
use Rattle.dl_runs.proofs.Turns.{ready}
use Rattle.dl_runs.proofs.WellFormed.{in_sequence-append}
use Rattle.dl_runs.proofs.Unfed.{unfed, unfed-append}
use Rattle.dl_runs.proofs.BlindActs.{is_open_blind, close_blind}
use Rattle.dl_runs.proofs.OtherMarks.{Others, others, none_fed, none_heard, ask_other, tell_other}
use Rattle.dl_runs.proofs.CutLines.{Gone, Alike, open_by, open_more, blind_same, unfed_more, asked_now, asks_blind, malformed_same, received, receive_open, receive_shut, fed-append, heard-append, tells_blind}

-- ---- the requests of more bytes

drop_parts : {A : Type 0} (first more all behind later : List A) → more ≡ first ++ behind → all ≡ more ++ later → drop (length first) all ≡ drop (length first) more ++ drop (length more) all
drop_parts {A = A} first more all behind later e f =
    let whole : all ≡ first ++ (behind ++ later) = f ∙ ap (λ (xs : List A). xs ++ later) e ∙ append_assoc first behind later in
    let left : drop (length first) all ≡ behind ++ later = ap (drop (length first)) whole ∙ drop_at first (behind ++ later) (length first) refl in
    let middle : drop (length first) more ≡ behind = ap (drop (length first)) e ∙ drop_at first behind (length first) refl in
    let right : drop (length more) all ≡ later = ap (drop (length more)) f ∙ drop_at more later (length more) refl in
    left ∙ ap (λ (xs : List A). xs ++ later) (sym middle) ∙ ap (λ (xs : List A). drop (length first) more ++ xs) (sym right)

-- the requests that become whole, for bytes in two parts
requests_parts : (f xs ys : List ℕ) →
    drop (length (requests f)) (requests (f ++ (xs ++ ys))) ≡ drop (length (requests f)) (requests (f ++ xs)) ++ drop (length (requests (f ++ xs))) (requests ((f ++ xs) ++ ys))
requests_parts f xs ys =
    ap (λ (bytes : List ℕ). drop (length (requests f)) (requests bytes)) (sym (append_assoc f xs ys))
    ∙ drop_parts (requests f) (requests (f ++ xs)) (requests ((f ++ xs) ++ ys)) _ _ (requests-append f xs) (requests-append (f ++ xs) ys)

some_fault : (o : Option HeaderFault) → is_some o ≡ true → (fault : HeaderFault) × (o ≡ Some fault)
some_fault None e = absurd cc
some_fault (Some fault) e = (fault, refl)

is_some_of : (o : Option HeaderFault) (fault : HeaderFault) → o ≡ Some fault → IsSome o
is_some_of None fault e = absurd cc
is_some_of (Some other) fault e = refl

-- a stream with a bad header has one however it goes on, and no more requests
abbrev bad : List ℕ → Bool
bad bytes = is_some (rest_fault message_limit (rest_of message_limit bytes))

bad_on : (f ys : List ℕ) → bad f ≡ true → bad (f ++ ys) ≡ true
bad_on f ys e =
    let rest = rest_of 2048 f in
    let fault = some_fault (rest_fault 2048 rest) e in
    let still = bad_stays 2048 rest ys fault.0 fault.1 in
    let first = its_cut 2048 f in
    let whole : IsCut 2048 (f ++ ys) (pieces 2048 f) (rest ++ ys) = record {
      parts = ap (λ (x : List ℕ). x ++ ys) first.parts ∙ append_assoc (concat (pieces 2048 f)) rest ys;
      each = first.each;
      ends = bad_no_piece 2048 (rest ++ ys) fault.0 still;
    } in
    let same : rest_of 2048 (f ++ ys) ≡ rest ++ ys = (one_cut 2048 (f ++ ys) (pieces 2048 (f ++ ys)) (pieces 2048 f) (rest_of 2048 (f ++ ys)) (rest ++ ys) (its_cut 2048 (f ++ ys)) whole).1 in
    ap (λ (r : List ℕ). is_some (rest_fault 2048 r)) same ∙ ap (λ (o : Option HeaderFault). is_some o) still

bad_none : (f ys : List ℕ) → bad f ≡ true → drop (length (requests f)) (requests (f ++ ys)) ≡ []
bad_none f ys e =
    let fault = some_fault (rest_fault 2048 (rest_of 2048 f)) e in
    ap (drop (length (requests f))) (requests-bad f ys (is_some_of (rest_fault 2048 (rest_of 2048 f)) fault.0 fault.1)) ∙ drop-length (requests f)

-- ---- a client that is not open is served nothing

close_shut : (setting : Setting) (client : ℕ) (cause : Why) (done : List Mark) → is_open client done ≡ false → close setting client cause done ≡ []
close_shut setting client cause done shut = ap (λ (b : Bool). when b (note setting (λ _. event.Close client cause)) done) shut

ask_shut : (setting : Setting) (answers : List Done) (client : ℕ) (frame : List ℕ) (done : List Mark) → is_open client done ≡ false → ask setting answers client frame done ≡ []
ask_shut setting answers client frame done shut = by_test (ltb (count_by (is_request_of client) (journal done)) 1000) where
  by_test : (b : Bool) → cond b (when (is_open client done) (in_sequence (note_levels setting ∷ request_now setting answers client frame ∷ note_levels_now setting ∷ [])) done) (close setting client why.TooMany done) ≡ []
  by_test true = ap (λ (o : Bool). when o (in_sequence (note_levels setting ∷ request_now setting answers client frame ∷ note_levels_now setting ∷ [])) done) shut
  by_test false = close_shut setting client why.TooMany done shut

asks_shut : (setting : Setting) (answers : List Done) (client : ℕ) (frames : List (List ℕ)) (done : List Mark) → is_open client done ≡ false → asked_now setting answers client frames done ≡ []
asks_shut setting answers client [] done shut = refl
asks_shut setting answers client (frame ∷ frames) done shut =
    ap (λ (ms : List Mark). ms ++ in_sequence (map (ask setting answers client) frames) (done ++ ms)) (ask_shut setting answers client frame done shut)
    ∙ asks_shut setting answers client frames (done ++ []) (ap (is_open client) (append-nil done) ∙ shut)

malformed_shut : (setting : Setting) (client : ℕ) (done : List Mark) → is_open client done ≡ false → close_malformed setting client done ≡ []
malformed_shut setting client done shut = by_test (bad (fed client done)) where
  by_test : (b : Bool) → when b (close setting client why.Malformed) done ≡ []
  by_test true = close_shut setting client why.Malformed done shut
  by_test false = refl

-- a client that was closed is not open
open_levels : (client : ℕ) (done : List Mark) (cs : List LevelChange) → is_open client (done ++ map level_noted cs) ≡ is_open client done
open_levels client done [] = ap (is_open client) (append-nil done)
open_levels client done (c ∷ cs) =
    ap (is_open client) (sym (append_assoc done (level_noted c ∷ []) (map level_noted cs))) ∙ open_levels client (done ++ level_noted c ∷ []) cs ∙ open_more client done (event.Level c.slot c.level)

open_now : (setting : Setting) (client : ℕ) (done : List Mark) → is_open client (done ++ note_levels_now setting done) ≡ is_open client done
open_now setting client done = by_test (is_later done) where
  by_test : (b : Bool) → is_open client (done ++ cond b [] (note_levels setting done)) ≡ is_open client done
  by_test true = ap (is_open client) (append-nil done)
  by_test false = open_levels client done (changes setting (journal done))

pub note_parts : (setting : Setting) (make : List Mark → Event) (done : List Mark) →
    done ++ note setting make done ≡ (ready setting done ++ Noted (make (ready setting done)) ∷ []) ++ note_levels_now setting (ready setting done ++ Noted (make (ready setting done)) ∷ [])
note_parts setting make done =
    let first = note_levels setting done in
    let e = make (ready setting done) in
    let now = ready setting done ++ Noted e ∷ [] in
    ap (λ (ms : List Mark). done ++ (first ++ Noted e ∷ ms)) (append-nil (note_levels_now setting now))
    ∙ sym (append_assoc done first (Noted e ∷ note_levels_now setting now))
    ∙ sym (append_assoc (ready setting done) (Noted e ∷ []) (note_levels_now setting now))

closed_now : (setting : Setting) (client : ℕ) (cause : Why) (done : List Mark) → is_open client (done ++ close setting client cause done) ≡ false
closed_now setting client cause done = by_open (is_open client done) refl where
  by_open : (b : Bool) → is_open client done ≡ b → is_open client (done ++ when b (note setting (λ _. event.Close client cause)) done) ≡ false
  by_open true there =
      let now = ready setting done ++ Noted (event.Close client cause) ∷ [] in
      ap (is_open client) (note_parts setting (λ _. event.Close client cause) done) ∙ open_now setting client now ∙ open_more client (ready setting done) (event.Close client cause)
      ∙ ap (λ (b : Bool). open_by (cond b (Some (event.Close client cause)) (last_that (comes_or_goes client) (journal (ready setting done))))) (eq-eqb client client refl)
  by_open false shut = ap (is_open client) (append-nil done) ∙ shut

-- ---- bytes of one client in two lines

-- all marks between the marks of bytes
asks_other : (setting : Setting) (answers : List Done) (client : ℕ) (frames : List (List ℕ)) (done : List Mark) → AreAll Others done (asked_now setting answers client frames done)
asks_other setting answers client frames done =
    turns Others (map (ask setting answers client) frames) (each Others (ask setting answers client) (ask_other Others others setting answers client) frames) done

-- a client's own bytes in a mark
own_bytes : (client : ℕ) (bytes : List ℕ) → fed client (Fed client bytes ∷ []) ≡ bytes
own_bytes client bytes = ap (λ (b : Bool). cond b bytes [] ++ []) (eq-eqb client client refl) ∙ append-nil bytes

-- the bytes so far, where a mark of bytes and others follow
fed_now : (client : ℕ) (bytes : List ℕ) (done ms : List Mark) → AreAll Others (done ++ Fed client bytes ∷ []) ms → fed client ((done ++ Fed client bytes ∷ []) ++ ms) ≡ fed client done ++ bytes
fed_now client bytes done ms all =
    fed-append client (done ++ Fed client bytes ∷ []) ms
    ∙ ap (λ (b : List ℕ). fed client (done ++ Fed client bytes ∷ []) ++ b) (none_fed client (done ++ Fed client bytes ∷ []) ms all)
    ∙ append-nil (fed client (done ++ Fed client bytes ∷ []))
    ∙ fed-append client done (Fed client bytes ∷ [])
    ∙ ap (λ (b : List ℕ). fed client done ++ b) (own_bytes client bytes)

-- a mark of bytes is not seen
unfed_mark : (client : ℕ) (bytes : List ℕ) (done ms : List Mark) → unfed (done ++ (Fed client bytes ∷ ms)) ≡ unfed done ++ unfed ms
unfed_mark client bytes done ms = unfed-append done (Fed client bytes ∷ ms)

unfed_marks : (client : ℕ) (xs ys : List ℕ) (done : List Mark) → unfed (done ++ Fed client xs ∷ []) ≡ unfed (done ++ Fed client ys ∷ [])
unfed_marks client xs ys done = unfed_mark client xs done [] ∙ sym (unfed_mark client ys done [])

-- the client that the bytes came from has gone
alike_gone : (client : ℕ) (xs ys : List ℕ) (done z : List Mark) → Gone client (done ++ (Fed client xs ∷ z)) → Alike (done ++ (Fed client xs ∷ z)) (done ++ (Fed client ys ∷ z))
alike_gone client xs ys done z gone = record {
  same = unfed_mark client xs done z ∙ sym (unfed_mark client ys done z);
  fed_so = λ other. by_client other (cases_eq client other);
  heard_so = λ channel. heard-append channel done (Fed client xs ∷ z) ∙ sym (heard-append channel done (Fed client ys ∷ z));
} where
  none : (other : ℕ) (bytes : List ℕ) → (client ≡ other → ⊥) → fed other (done ++ (Fed client bytes ∷ z)) ≡ fed other done ++ fed other z
  none other bytes apart = fed-append other done (Fed client bytes ∷ z) ∙ ap (λ (b : Bool). fed other done ++ (cond b bytes [] ++ fed other z)) (ne_eqb client other apart)

  by_client : (other : ℕ) → (client ≡ other) ⊎ (client ≡ other → ⊥) →
      (Gone other (done ++ (Fed client xs ∷ z))) ⊎ (fed other (done ++ (Fed client xs ∷ z)) ≡ fed other (done ++ (Fed client ys ∷ z)))
  by_client other (inl is) = inl (subst (λ (c : ℕ). Gone c (done ++ (Fed client xs ∷ z))) is gone)
  by_client other (inr apart) = inr (none other xs apart ∙ sym (none other ys apart))

-- the bytes came in one mark, and in two
alike_two : (client : ℕ) (xs ys : List ℕ) (done z w : List Mark) → AreAll Others (done ++ Fed client xs ∷ []) z →
    Alike (done ++ (Fed client (xs ++ ys) ∷ (z ++ w))) (done ++ (Fed client xs ∷ (z ++ (Fed client ys ∷ w))))
alike_two client xs ys done z w all = record {
  same = unfed_mark client (xs ++ ys) done (z ++ w) ∙ ap (λ (ms : List Mark). unfed done ++ ms) (unfed-append z w)
      ∙ sym (unfed_mark client xs done (z ++ (Fed client ys ∷ w)) ∙ ap (λ (ms : List Mark). unfed done ++ ms) (unfed-append z (Fed client ys ∷ w)));
  fed_so = λ other. inr (one_mark other ∙ by_test other (eqb client other) ∙ sym (two_marks other));
  heard_so = λ channel. heard-append channel done (Fed client (xs ++ ys) ∷ (z ++ w)) ∙ ap (λ (b : List ℕ). heard channel done ++ b) (heard-append channel z w)
      ∙ sym (heard-append channel done (Fed client xs ∷ (z ++ (Fed client ys ∷ w))) ∙ ap (λ (b : List ℕ). heard channel done ++ b) (heard-append channel z (Fed client ys ∷ w)));
} where
  none : (other : ℕ) → fed other z ≡ []
  none other = none_fed other (done ++ Fed client xs ∷ []) z all

  one_mark : (other : ℕ) → fed other (done ++ (Fed client (xs ++ ys) ∷ (z ++ w))) ≡ fed other done ++ (cond (eqb client other) (xs ++ ys) [] ++ fed other w)
  one_mark other =
      fed-append other done (Fed client (xs ++ ys) ∷ (z ++ w))
      ∙ ap (λ (b : List ℕ). fed other done ++ (cond (eqb client other) (xs ++ ys) [] ++ b)) (fed-append other z w ∙ ap (λ (b : List ℕ). b ++ fed other w) (none other))

  two_marks : (other : ℕ) → fed other (done ++ (Fed client xs ∷ (z ++ (Fed client ys ∷ w)))) ≡ fed other done ++ (cond (eqb client other) xs [] ++ (cond (eqb client other) ys [] ++ fed other w))
  two_marks other =
      fed-append other done (Fed client xs ∷ (z ++ (Fed client ys ∷ w)))
      ∙ ap (λ (b : List ℕ). fed other done ++ (cond (eqb client other) xs [] ++ b)) (fed-append other z (Fed client ys ∷ w) ∙ ap (λ (b : List ℕ). b ++ fed other (Fed client ys ∷ w)) (none other))

  by_test : (other : ℕ) (b : Bool) → fed other done ++ (cond b (xs ++ ys) [] ++ fed other w) ≡ fed other done ++ (cond b xs [] ++ (cond b ys [] ++ fed other w))
  by_test other true = ap (λ (bytes : List ℕ). fed other done ++ bytes) (append_assoc xs ys (fed other w))
  by_test other false = refl

alike_by : (done a b x y : List Mark) → a ≡ x → b ≡ y → Alike (done ++ x) (done ++ y) → Alike (done ++ a) (done ++ b)
alike_by done a b x y first second is = subst (λ (ms : List Mark). Alike (done ++ ms) (done ++ b)) (sym first) (subst (λ (ms : List Mark). Alike (done ++ x) (done ++ ms)) (sym second) is)

pub alike_self : (done : List Mark) → Alike done done
alike_self done = record { same = refl; fed_so = λ client. inr refl; heard_so = λ channel. refl }

-- a bad header closes the client
malformed_by : (setting : Setting) (client : ℕ) (done : List Mark) (bytes : List ℕ) (b : Bool) → fed client done ≡ bytes → bad bytes ≡ b → close_malformed setting client done ≡ when b (close setting client why.Malformed) done
malformed_by setting client done bytes b same is =
    ap (λ (f : List ℕ). when (bad f) (close setting client why.Malformed) done) same ∙ ap (λ (t : Bool). when t (close setting client why.Malformed) done) is

came_on : (done ms : List Mark) → count_by is_connect (journal done) ≤ count_by is_connect (journal (done ++ ms))
came_on done ms =
    let all = ap (count_by is_connect) (filter_map-append event_of done ms) ∙ count_by-append is_connect (journal done) (filter_map event_of ms) in
    omega (arith, all)

module _ (setting : Setting) (answers : List Done) (client : ℕ) (xs ys : List ℕ) (done : List Mark) (was : is_open client done ≡ true → client ≤ count_by is_connect (journal done)) where
  abbrev f : List ℕ
  f = fed client done

  abbrev first_requests : List (List ℕ)
  first_requests = drop (length (requests f)) (requests (f ++ xs))

  abbrev later_requests : List (List ℕ)
  later_requests = drop (length (requests (f ++ xs))) (requests ((f ++ xs) ++ ys))

  abbrev in_one : List Mark
  in_one = done ++ Fed client (xs ++ ys) ∷ []

  abbrev in_two : List Mark
  in_two = done ++ Fed client xs ∷ []

  abbrev first_asks : List Mark
  first_asks = asked_now setting answers client first_requests in_two

  abbrev later_asks : List Mark
  later_asks = asked_now setting answers client later_requests (in_one ++ first_asks)

  abbrev Cut : Type 0
  Cut = Alike (done ++ receive setting answers client (xs ++ ys) done) (done ++ (receive setting answers client xs done ++ receive setting answers client ys (done ++ receive setting answers client xs done)))

  first_other : AreAll Others in_two first_asks
  first_other = asks_other setting answers client first_requests in_two

  -- the marks of one line
  one_line_is : is_open client done ≡ true →
      receive setting answers client (xs ++ ys) done ≡ Fed client (xs ++ ys) ∷ ((first_asks ++ later_asks) ++ close_malformed setting client (in_one ++ (first_asks ++ later_asks)))
  one_line_is there =
      let all = first_requests ++ later_requests in
      let first : asked_now setting answers client first_requests in_one ≡ first_asks =
      blind_same (asked_now setting answers client first_requests) (asks_blind setting answers client first_requests) in_one in_two (unfed_marks client (xs ++ ys) xs done) in
      let served : asked_now setting answers client all in_one ≡ first_asks ++ later_asks =
      ap (λ (acts : List Act). in_sequence acts in_one) (map-append (ask setting answers client) first_requests later_requests)
      ∙ in_sequence-append (map (ask setting answers client) first_requests) (map (ask setting answers client) later_requests) in_one
      ∙ ap (λ (ms : List Mark). ms ++ asked_now setting answers client later_requests (in_one ++ ms)) first in
      receive_open setting answers client (xs ++ ys) done there
      ∙ ap (λ (frames : List (List ℕ)). received setting answers client (xs ++ ys) frames done) (requests_parts f xs ys)
      ∙ ap (λ (ms : List Mark). Fed client (xs ++ ys) ∷ (ms ++ close_malformed setting client (in_one ++ ms))) served

  two_fed : fed client (in_two ++ first_asks) ≡ f ++ xs
  two_fed = fed_now client xs done first_asks first_other

  first_in_one : AreAll Others in_one first_asks
  first_in_one = subst (λ (ms : List Mark). AreAll Others in_one ms) (blind_same (asked_now setting answers client first_requests) (asks_blind setting answers client first_requests) in_one in_two (unfed_marks client (xs ++ ys) xs done))
      (asks_other setting answers client first_requests in_one)

  both_asks : AreAll Others in_one (first_asks ++ later_asks)
  both_asks = both Others in_one first_asks later_asks first_in_one (asks_other setting answers client later_requests (in_one ++ first_asks))

  one_fed : fed client (in_one ++ (first_asks ++ later_asks)) ≡ f ++ (xs ++ ys)
  one_fed = fed_now client (xs ++ ys) done (first_asks ++ later_asks) both_asks

  same_first : unfed (in_one ++ first_asks) ≡ unfed (in_two ++ first_asks)
  same_first = unfed_more in_one in_two first_asks (unfed_marks client (xs ++ ys) xs done)

  -- what stands behind the first line's mark
  two_is : (ms : List Mark) → done ++ (Fed client xs ∷ (first_asks ++ ms)) ≡ (in_two ++ first_asks) ++ ms
  two_is ms = sym (append_assoc done (Fed client xs ∷ []) (first_asks ++ ms)) ∙ sym (append_assoc in_two first_asks ms)

  gone_with : (z : List Mark) → is_open client done ≡ true → is_open client (done ++ (Fed client xs ∷ z)) ≡ false → Gone client (done ++ (Fed client (xs ++ ys) ∷ z))
  gone_with z there shut =
      let same : unfed (done ++ (Fed client (xs ++ ys) ∷ z)) ≡ unfed (done ++ (Fed client xs ∷ z)) = unfed_mark client (xs ++ ys) done z ∙ sym (unfed_mark client xs done z) in
      record {
        was = omega (arith, was there, came_on done (Fed client (xs ++ ys) ∷ z));
        shut = blind_same (is_open client) (is_open_blind client) (done ++ (Fed client (xs ++ ys) ∷ z)) (done ++ (Fed client xs ∷ z)) same ∙ shut;
      }

  -- the first line shows a bad header
  when_bad : is_open client done ≡ true → bad (f ++ xs) ≡ true → Cut
  when_bad there is =
      let m = close setting client why.Malformed (in_two ++ first_asks) in
      let no_more : later_asks ≡ [] = ap (λ (frames : List (List ℕ)). asked_now setting answers client frames (in_one ++ first_asks)) (bad_none (f ++ xs) ys is) in
      let all : first_asks ++ later_asks ≡ first_asks = ap (λ (ms : List Mark). first_asks ++ ms) no_more ∙ append-nil first_asks in
      let still : bad (f ++ (xs ++ ys)) ≡ true = ap bad (sym (append_assoc f xs ys)) ∙ bad_on (f ++ xs) ys is in
      let closed_one : close_malformed setting client (in_one ++ (first_asks ++ later_asks)) ≡ m =
      malformed_by setting client (in_one ++ (first_asks ++ later_asks)) (f ++ (xs ++ ys)) true one_fed still
      ∙ ap (λ (ms : List Mark). close setting client why.Malformed (in_one ++ ms)) all
      ∙ blind_same (close setting client why.Malformed) (close_blind setting client why.Malformed) (in_one ++ first_asks) (in_two ++ first_asks) same_first in
      let one : receive setting answers client (xs ++ ys) done ≡ Fed client (xs ++ ys) ∷ (first_asks ++ m) =
      one_line_is there ∙ ap (λ (ms : List Mark). Fed client (xs ++ ys) ∷ ((first_asks ++ later_asks) ++ ms)) closed_one ∙ ap (λ (ms : List Mark). Fed client (xs ++ ys) ∷ (ms ++ m)) all in
      let line : receive setting answers client xs done ≡ Fed client xs ∷ (first_asks ++ m) =
      receive_open setting answers client xs done there ∙ ap (λ (ms : List Mark). Fed client xs ∷ (first_asks ++ ms)) (malformed_by setting client (in_two ++ first_asks) (f ++ xs) true two_fed is) in
      let shut : is_open client (done ++ (Fed client xs ∷ (first_asks ++ m))) ≡ false = ap (is_open client) (two_is m) ∙ closed_now setting client why.Malformed (in_two ++ first_asks) in
      let two : receive setting answers client xs done ++ receive setting answers client ys (done ++ receive setting answers client xs done) ≡ Fed client xs ∷ (first_asks ++ m) =
      ap (λ (ms : List Mark). ms ++ receive setting answers client ys (done ++ ms)) line
      ∙ ap (λ (ms : List Mark). (Fed client xs ∷ (first_asks ++ m)) ++ ms) (receive_shut setting answers client ys (done ++ (Fed client xs ∷ (first_asks ++ m))) shut)
      ∙ append-nil (Fed client xs ∷ (first_asks ++ m)) in
      alike_by done (receive setting answers client (xs ++ ys) done) (receive setting answers client xs done ++ receive setting answers client ys (done ++ receive setting answers client xs done))
      (Fed client (xs ++ ys) ∷ (first_asks ++ m)) (Fed client xs ∷ (first_asks ++ m)) one two
      (alike_gone client (xs ++ ys) xs done (first_asks ++ m) (gone_with (first_asks ++ m) there shut))

  -- it shows none
  line_good : is_open client done ≡ true → bad (f ++ xs) ≡ false → receive setting answers client xs done ≡ Fed client xs ∷ first_asks
  line_good there good =
      receive_open setting answers client xs done there ∙ ap (λ (ms : List Mark). Fed client xs ∷ (first_asks ++ ms)) (malformed_by setting client (in_two ++ first_asks) (f ++ xs) false two_fed good)
      ∙ ap (λ (ms : List Mark). Fed client xs ∷ ms) (append-nil first_asks)

  two_is_now : done ++ (Fed client xs ∷ first_asks) ≡ in_two ++ first_asks
  two_is_now = sym (append_assoc done (Fed client xs ∷ []) first_asks)

  -- and the client was closed by its requests
  when_closed : is_open client done ≡ true → bad (f ++ xs) ≡ false → is_open client (in_two ++ first_asks) ≡ false → Cut
  when_closed there good shut =
      let shut_one : is_open client (in_one ++ first_asks) ≡ false = blind_same (is_open client) (is_open_blind client) (in_one ++ first_asks) (in_two ++ first_asks) same_first ∙ shut in
      let no_more : later_asks ≡ [] = asks_shut setting answers client later_requests (in_one ++ first_asks) shut_one in
      let all : first_asks ++ later_asks ≡ first_asks = ap (λ (ms : List Mark). first_asks ++ ms) no_more ∙ append-nil first_asks in
      let not_closed : close_malformed setting client (in_one ++ (first_asks ++ later_asks)) ≡ [] =
      malformed_shut setting client (in_one ++ (first_asks ++ later_asks)) (ap (λ (ms : List Mark). is_open client (in_one ++ ms)) all ∙ shut_one) in
      let one : receive setting answers client (xs ++ ys) done ≡ Fed client (xs ++ ys) ∷ first_asks =
      one_line_is there ∙ ap (λ (ms : List Mark). Fed client (xs ++ ys) ∷ ((first_asks ++ later_asks) ++ ms)) not_closed
      ∙ ap (λ (ms : List Mark). Fed client (xs ++ ys) ∷ ms) (append-nil (first_asks ++ later_asks) ∙ all) in
      let line = line_good there good in
      let shut_now : is_open client (done ++ (Fed client xs ∷ first_asks)) ≡ false = ap (is_open client) two_is_now ∙ shut in
      let two : receive setting answers client xs done ++ receive setting answers client ys (done ++ receive setting answers client xs done) ≡ Fed client xs ∷ first_asks =
      ap (λ (ms : List Mark). ms ++ receive setting answers client ys (done ++ ms)) line
      ∙ ap (λ (ms : List Mark). (Fed client xs ∷ first_asks) ++ ms) (receive_shut setting answers client ys (done ++ (Fed client xs ∷ first_asks)) shut_now)
      ∙ append-nil (Fed client xs ∷ first_asks) in
      alike_by done (receive setting answers client (xs ++ ys) done) (receive setting answers client xs done ++ receive setting answers client ys (done ++ receive setting answers client xs done))
      (Fed client (xs ++ ys) ∷ first_asks) (Fed client xs ∷ first_asks) one two (alike_gone client (xs ++ ys) xs done first_asks (gone_with first_asks there shut_now))

  -- and the client is served on
  when_open : is_open client done ≡ true → bad (f ++ xs) ≡ false → is_open client (in_two ++ first_asks) ≡ true → Cut
  when_open there good on =
      let now = in_two ++ first_asks in
      let then_fed = now ++ Fed client ys ∷ [] in
      let m = close_malformed setting client (in_one ++ (first_asks ++ later_asks)) in
      let same_then : unfed then_fed ≡ unfed (in_one ++ first_asks) = unfed_mark client ys now [] ∙ append-nil (unfed now) ∙ sym same_first in
      let served : asked_now setting answers client later_requests then_fed ≡ later_asks =
      blind_same (asked_now setting answers client later_requests) (asks_blind setting answers client later_requests) then_fed (in_one ++ first_asks) same_then in
      let fed_then : fed client (then_fed ++ later_asks) ≡ fed client (in_one ++ (first_asks ++ later_asks)) =
      fed_now client ys now later_asks (subst (λ (ms : List Mark). AreAll Others then_fed ms) served (asks_other setting answers client later_requests then_fed))
      ∙ ap (λ (bytes : List ℕ). bytes ++ ys) two_fed ∙ append_assoc f xs ys ∙ sym one_fed in
      let same_end : unfed (then_fed ++ later_asks) ≡ unfed (in_one ++ (first_asks ++ later_asks)) =
      unfed_more then_fed (in_one ++ first_asks) later_asks same_then ∙ ap unfed (append_assoc in_one first_asks later_asks) in
      let closed : close_malformed setting client (then_fed ++ later_asks) ≡ m = malformed_same setting client (then_fed ++ later_asks) (in_one ++ (first_asks ++ later_asks)) same_end fed_then in
      let second : receive setting answers client ys now ≡ Fed client ys ∷ (later_asks ++ m) =
      receive_open setting answers client ys now on
      ∙ ap (λ (bytes : List ℕ). received setting answers client ys (drop (length (requests bytes)) (requests (bytes ++ ys))) now) two_fed
      ∙ ap (λ (ms : List Mark). Fed client ys ∷ (ms ++ close_malformed setting client (then_fed ++ ms))) served
      ∙ ap (λ (ms : List Mark). Fed client ys ∷ (later_asks ++ ms)) closed in
      let line = line_good there good in
      let two : receive setting answers client xs done ++ receive setting answers client ys (done ++ receive setting answers client xs done) ≡ Fed client xs ∷ (first_asks ++ (Fed client ys ∷ (later_asks ++ m))) =
      ap (λ (ms : List Mark). ms ++ receive setting answers client ys (done ++ ms)) line
      ∙ ap (λ (ms : List Mark). (Fed client xs ∷ first_asks) ++ receive setting answers client ys ms) two_is_now
      ∙ ap (λ (ms : List Mark). (Fed client xs ∷ first_asks) ++ ms) second in
      let one : receive setting answers client (xs ++ ys) done ≡ Fed client (xs ++ ys) ∷ (first_asks ++ (later_asks ++ m)) =
      one_line_is there ∙ ap (λ (ms : List Mark). Fed client (xs ++ ys) ∷ ms) (append_assoc first_asks later_asks m) in
      alike_by done (receive setting answers client (xs ++ ys) done) (receive setting answers client xs done ++ receive setting answers client ys (done ++ receive setting answers client xs done))
      (Fed client (xs ++ ys) ∷ (first_asks ++ (later_asks ++ m))) (Fed client xs ∷ (first_asks ++ (Fed client ys ∷ (later_asks ++ m)))) one two
      (alike_two client xs ys done first_asks (later_asks ++ m) first_other)

  -- the client is not open
  when_shut : is_open client done ≡ false → Cut
  when_shut shut =
      let line : receive setting answers client xs done ≡ [] = receive_shut setting answers client xs done shut in
      let two : receive setting answers client xs done ++ receive setting answers client ys (done ++ receive setting answers client xs done) ≡ [] =
      ap (λ (ms : List Mark). ms ++ receive setting answers client ys (done ++ ms)) line
      ∙ receive_shut setting answers client ys (done ++ []) (ap (is_open client) (append-nil done) ∙ shut) in
      alike_by done (receive setting answers client (xs ++ ys) done) (receive setting answers client xs done ++ receive setting answers client ys (done ++ receive setting answers client xs done))
      [] [] (receive_shut setting answers client (xs ++ ys) done shut) two (alike_self (done ++ []))

  by_served : is_open client done ≡ true → bad (f ++ xs) ≡ false → (b : Bool) → is_open client (in_two ++ first_asks) ≡ b → Cut
  by_served there good true on = when_open there good on
  by_served there good false shut = when_closed there good shut

  by_header : is_open client done ≡ true → (b : Bool) → bad (f ++ xs) ≡ b → Cut
  by_header there true is = when_bad there is
  by_header there false good = by_served there good (is_open client (in_two ++ first_asks)) refl

  by_client : (b : Bool) → is_open client done ≡ b → Cut
  by_client true there = by_header there (bad (f ++ xs)) refl
  by_client false shut = when_shut shut

  pub cut_bytes : Alike (done ++ receive setting answers client (xs ++ ys) done) (done ++ (receive setting answers client xs done ++ receive setting answers client ys (done ++ receive setting answers client xs done)))
  cut_bytes = by_client (is_open client done) refl

-- ---- bytes of one channel in two lines

heard_mark : (channel : ℕ) (bytes : List ℕ) (done ms : List Mark) → unfed (done ++ (Heard channel bytes ∷ ms)) ≡ unfed done ++ unfed ms
heard_mark channel bytes done ms = unfed-append done (Heard channel bytes ∷ ms)

tells_other : (setting : Setting) (channel : ℕ) (msgs : List UserMsg) (done : List Mark) → AreAll Others done (in_sequence (map (tell setting channel) msgs) done)
tells_other setting channel msgs done = turns Others (map (tell setting channel) msgs) (each Others (tell setting channel) (tell_other Others others setting channel) msgs) done

-- the bytes came on a channel in one mark, and in two
alike_heard : (channel : ℕ) (xs ys : List ℕ) (done z w : List Mark) → AreAll Others (done ++ Heard channel xs ∷ []) z →
    Alike (done ++ (Heard channel (xs ++ ys) ∷ (z ++ w))) (done ++ (Heard channel xs ∷ (z ++ (Heard channel ys ∷ w))))
alike_heard channel xs ys done z w all = record {
  same = heard_mark channel (xs ++ ys) done (z ++ w) ∙ ap (λ (ms : List Mark). unfed done ++ ms) (unfed-append z w)
      ∙ sym (heard_mark channel xs done (z ++ (Heard channel ys ∷ w)) ∙ ap (λ (ms : List Mark). unfed done ++ ms) (unfed-append z (Heard channel ys ∷ w)));
  fed_so = λ client. inr (fed-append client done (Heard channel (xs ++ ys) ∷ (z ++ w)) ∙ ap (λ (b : List ℕ). fed client done ++ b) (fed-append client z w)
      ∙ sym (fed-append client done (Heard channel xs ∷ (z ++ (Heard channel ys ∷ w))) ∙ ap (λ (b : List ℕ). fed client done ++ b) (fed-append client z (Heard channel ys ∷ w))));
  heard_so = λ other. one_mark other ∙ by_test other (eqb channel other) ∙ sym (two_marks other);
} where
  none : (other : ℕ) → heard other z ≡ []
  none other = none_heard other (done ++ Heard channel xs ∷ []) z all

  one_mark : (other : ℕ) → heard other (done ++ (Heard channel (xs ++ ys) ∷ (z ++ w))) ≡ heard other done ++ (cond (eqb channel other) (xs ++ ys) [] ++ heard other w)
  one_mark other =
      heard-append other done (Heard channel (xs ++ ys) ∷ (z ++ w))
      ∙ ap (λ (b : List ℕ). heard other done ++ (cond (eqb channel other) (xs ++ ys) [] ++ b)) (heard-append other z w ∙ ap (λ (b : List ℕ). b ++ heard other w) (none other))

  two_marks : (other : ℕ) → heard other (done ++ (Heard channel xs ∷ (z ++ (Heard channel ys ∷ w)))) ≡ heard other done ++ (cond (eqb channel other) xs [] ++ (cond (eqb channel other) ys [] ++ heard other w))
  two_marks other =
      heard-append other done (Heard channel xs ∷ (z ++ (Heard channel ys ∷ w)))
      ∙ ap (λ (b : List ℕ). heard other done ++ (cond (eqb channel other) xs [] ++ b)) (heard-append other z (Heard channel ys ∷ w) ∙ ap (λ (b : List ℕ). b ++ heard other (Heard channel ys ∷ w)) (none other))

  by_test : (other : ℕ) (b : Bool) → heard other done ++ (cond b (xs ++ ys) [] ++ heard other w) ≡ heard other done ++ (cond b xs [] ++ (cond b ys [] ++ heard other w))
  by_test other true = ap (λ (bytes : List ℕ). heard other done ++ bytes) (append_assoc xs ys (heard other w))
  by_test other false = refl

-- the same, where the bytes of the channel are bytes
pub cut_messages : (setting : Setting) (channel : ℕ) (xs ys : List ℕ) (done : List Mark) → IsBytes (heard channel done ++ (xs ++ ys)) → IsBytes (heard channel done ++ xs) →
    Alike (done ++ hear setting channel (xs ++ ys) done) (done ++ (hear setting channel xs done ++ hear setting channel ys (done ++ hear setting channel xs done)))
cut_messages setting channel xs ys done are are_first =
    let h = heard channel done in
    let first = drop (length (messages_of h)) (messages_of (h ++ xs)) in
    let later = drop (length (messages_of (h ++ xs))) (messages_of ((h ++ xs) ++ ys)) in
    let in_one = done ++ Heard channel (xs ++ ys) ∷ [] in
    let in_two = done ++ Heard channel xs ∷ [] in
    let tells = λ (msgs : List UserMsg) (d : List Mark). in_sequence (map (tell setting channel) msgs) d in
    let first_told = tells first in_two in
    let later_told = tells later (in_one ++ first_told) in
    let are_all : IsBytes ((h ++ xs) ++ ys) = subst IsBytes (sym (append_assoc h xs ys)) are in
    let parts : drop (length (messages_of h)) (messages_of (h ++ (xs ++ ys))) ≡ first ++ later =
    ap (λ (bytes : List ℕ). drop (length (messages_of h)) (messages_of bytes)) (sym (append_assoc h xs ys))
    ∙ drop_parts (messages_of h) (messages_of (h ++ xs)) (messages_of ((h ++ xs) ++ ys)) _ _ (cut_goes_on h xs are_first).0 (cut_goes_on (h ++ xs) ys are_all).0 in
    let same_marks : unfed in_one ≡ unfed in_two = heard_mark channel (xs ++ ys) done [] ∙ sym (heard_mark channel xs done []) in
    let one : hear setting channel (xs ++ ys) done ≡ Heard channel (xs ++ ys) ∷ (first_told ++ later_told) =
    ap (λ (msgs : List UserMsg). Heard channel (xs ++ ys) ∷ tells msgs in_one) parts
    ∙ ap (λ (acts : List Act). Heard channel (xs ++ ys) ∷ in_sequence acts in_one) (map-append (tell setting channel) first later)
    ∙ ap (λ (ms : List Mark). Heard channel (xs ++ ys) ∷ ms) (in_sequence-append (map (tell setting channel) first) (map (tell setting channel) later) in_one)
    ∙ ap (λ (ms : List Mark). Heard channel (xs ++ ys) ∷ (ms ++ tells later (in_one ++ ms))) (blind_same (tells first) (tells_blind setting channel first) in_one in_two same_marks) in
    let now = in_two ++ first_told in
    let then_heard = now ++ Heard channel ys ∷ [] in
    let heard_first : heard channel now ≡ h ++ xs =
    heard-append channel in_two first_told ∙ ap (λ (b : List ℕ). heard channel in_two ++ b) (none_heard channel in_two first_told (tells_other setting channel first in_two))
    ∙ append-nil (heard channel in_two) ∙ heard-append channel done (Heard channel xs ∷ [])
    ∙ ap (λ (b : Bool). h ++ (cond b xs [] ++ [])) (eq-eqb channel channel refl) ∙ ap (λ (b : List ℕ). h ++ b) (append-nil xs) in
    let same_then : unfed then_heard ≡ unfed (in_one ++ first_told) = heard_mark channel ys now [] ∙ append-nil (unfed now) ∙ sym (unfed_more in_one in_two first_told same_marks) in
    let second : hear setting channel ys now ≡ Heard channel ys ∷ later_told =
    ap (λ (b : List ℕ). Heard channel ys ∷ tells (drop (length (messages_of b)) (messages_of (b ++ ys))) then_heard) heard_first
    ∙ ap (λ (ms : List Mark). Heard channel ys ∷ ms) (blind_same (tells later) (tells_blind setting channel later) then_heard (in_one ++ first_told) same_then) in
    let two : hear setting channel xs done ++ hear setting channel ys (done ++ hear setting channel xs done) ≡ Heard channel xs ∷ (first_told ++ (Heard channel ys ∷ later_told)) =
    ap (λ (ms : List Mark). (Heard channel xs ∷ first_told) ++ hear setting channel ys ms) (sym (append_assoc done (Heard channel xs ∷ []) first_told))
    ∙ ap (λ (ms : List Mark). (Heard channel xs ∷ first_told) ++ ms) second in
    alike_by done (hear setting channel (xs ++ ys) done) (hear setting channel xs done ++ hear setting channel ys (done ++ hear setting channel xs done))
    (Heard channel (xs ++ ys) ∷ (first_told ++ later_told)) (Heard channel xs ∷ (first_told ++ (Heard channel ys ∷ later_told))) one two
    (alike_heard channel xs ys done first_told later_told (tells_other setting channel first in_two))
