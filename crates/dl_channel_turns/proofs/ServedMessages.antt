-- Messages that are taken in, one after the other.
use Rattle.std.proofs.Common.{◌≡◌, ℕ, ◌+◌, ◌*◌, ◌/◌, ◌%◌, ◌^◌, ◌<◌, ◌≤◌, Bool, true, false, cond, List, [], ◌∷◌, ◌++◌, length, Option, Some, inl, inr, refl, sym, ap, subst, ◌∙◌, append-nil, append_assoc, length-append, arith}
use Rattle.std.specs.List.{AllByRecursion}
use Rattle.std.specs.Prelude.{OnErr, OnOk, Result, Ok, Err, ◌==◌, replicate}
use Rattle.std.proofs.Math.Nat.{div-add-mod}
use Rattle.std.proofs.lemmas.Grind.{flat_map-append}
use Rattle.std.proofs.lemmas.Nat.{mod_below}
use Rattle.std.proofs.lemmas.Bool.Decides.{eqb_tells}
use Rattle.std.proofs.lemmas.List.{length-map, length-replicate}
use Rattle.dl_bytes.proofs.Cutting.{cut_on}
use Rattle.dl_bytes.specs.Cutting.{AreCut}
use Rattle.dl_bytes.specs.Id.{zero_id}
use Rattle.dl_bytes.specs.declared.moment.Moment.{Moment}
use Rattle.dl_bytes.specs.declared.user.UserMsg.{UserMsg}
use Rattle.dl_bytes.specs.declared.user.UserMsg.TheVariants as user
use Rattle.dl_events.specs.declared.event.Event.{Event}
use Rattle.dl_message.specs.Frames.{overflow_record}
use Rattle.dl_model.specs.Frames.{user_frames}
use Rattle.dl_model.specs.Overflow.{counter_limit, counters}
use Rattle.dl_outside.specs.Told.{FolderTold}
use Rattle.dl_user.specs.Channel as cutter
use Rattle.dl_user.specs.Cut.{Begins, HasRanges, IsSpelled}
use Rattle.dl_channel.specs.State.{Outbox}
use Rattle.dl_channel.specs.declared.outcome.ChannelEnd.{ChannelEnd}
use Rattle.dl_channel.specs.declared.outcome.ChannelEnd.TheVariants.{NoMemory}
use Rattle.dl_core.specs.Admission.{IsLog}
use Rattle.dl_core.specs.State.{Core}
use Rattle.dl_admission.specs.Admission.{ForwardsAll}
use Rattle.dl_channel_turns.specs.Messages.{Alone, Group, ServesOne, Together, messages_in_group, messages_of}
use Rattle.dl_channel_turns.specs.State.{Side, part_of, side}
use Rattle.dl_channel_turns.specs.Turns.{EndsBehind, Finishes, HasServed, ServesAll, ServesEach, StopsAt, StopsServing}

-- ---- how much a message has

eight : (text : List ℕ) (msg : UserMsg) → IsSpelled text msg → 8 ≤ length text
eight text msg spelled = elim spelled.spelled [ inl e ↦ omega (arith, ap length e) | inr e ↦ omega (arith, ap length e) ]

-- what is behind a message is at least eight bytes shorter
pub shorter : (bytes after : List ℕ) (msg : UserMsg) → Begins bytes msg after → length after + 8 ≤ length bytes
shorter bytes after msg begins = omega (arith, eight begins.0 msg begins.1, ap length begins.2, length-append begins.0 after)

last_counter : (n : ℕ) (b : Bool) → length (cond b [] (n ∷ [])) ≤ 1
last_counter n true = omega arith
last_counter n false = omega arith

one_counter : (n : ℕ) → n < 2 ^ 32 → length (counters n) ≤ 1
one_counter n below = elim (eqb_tells (n % counter_limit) 0) [
  | inl none ↦
      let last : length (cond ((n % counter_limit) == 0) [] (n % counter_limit ∷ [])) ≡ 0 = ap (λ (b : Bool). length (cond b [] (n % counter_limit ∷ []))) none.0 in
      omega (arith, below, div-add-mod n counter_limit, sizes, last)
  | inr some ↦ omega (arith, below, some.1, div-add-mod n counter_limit, mod_below n counter_limit (omega arith), sizes, last_counter (n % counter_limit) ((n % counter_limit) == 0))
] where
  sizes : length (counters n) ≡ n / counter_limit + length (cond ((n % counter_limit) == 0) [] (n % counter_limit ∷ []))
  sizes =
      length-append (replicate (n / counter_limit) counter_limit) (cond ((n % counter_limit) == 0) [] (n % counter_limit ∷ []))
      ∙ ap (λ (k : ℕ). k + length (cond ((n % counter_limit) == 0) [] (n % counter_limit ∷ []))) (length-replicate {A = ℕ} (n / counter_limit) counter_limit)

-- it has one frame at most
pub frames_few : (ecu : List ℕ) (msg : UserMsg) → HasRanges msg → length (user_frames ecu msg) ≤ 1
frames_few ecu (user.Log message) ranges = omega arith
frames_few ecu (user.Overflow counter apid) ranges = omega (arith, length-map (counters counter) (overflow_record ecu apid zero_id), one_counter counter ranges.0)
frames_few ecu (user.RegisterApp apid pid text) ranges = omega arith
frames_few ecu (user.UnregisterApp apid pid) ranges = omega arith
frames_few ecu (user.RegisterContext apid ctid position level trace pid text) ranges = omega arith
frames_few ecu (user.UnregisterContext apid ctid pid) ranges = omega arith
frames_few ecu (user.LogLevel level trace position) ranges = omega arith
frames_few ecu (user.Injection position service body) ranges = omega arith

pub few_frames : (ecu bytes after : List ℕ) (msg : UserMsg) → Begins bytes msg after → length (user_frames ecu msg) ≤ 1
few_frames ecu bytes after msg begins = frames_few ecu msg begins.1.ranges

-- ---- one after the other

-- a cut behind which another one begins
cut_between : (bytes rest : List ℕ) (first second : List UserMsg) → AreCut Begins bytes (first ++ second) rest → (middle : List ℕ) × AreCut Begins bytes first middle × AreCut Begins middle second rest
cut_between bytes rest [] second cut = (bytes, refl, cut)
cut_between bytes rest (msg ∷ first) second cut = let behind = cut_between cut.0 rest first second cut.2 in (behind.0, (cut.0, cut.1, behind.1), behind.2)

-- with one message more
pub cut_one : (bytes rest after : List ℕ) (msgs : List UserMsg) (msg : UserMsg) → AreCut Begins bytes msgs rest → Begins rest msg after → AreCut Begins bytes (msgs ++ msg ∷ []) after
cut_one bytes rest after msgs msg cut begins = cut_on Begins bytes rest after msgs (msg ∷ []) cut (after, begins, refl)

-- the messages at the front of these bytes are taken in, but for those that are gathered
pub record SoFar (channel : ℕ) (moment : Moment) (bytes rest : List ℕ) (gathered : List UserMsg) (old new : Side) : Type 0 where
  pub msgs : List UserMsg
  pub cut : AreCut Begins bytes msgs rest
  pub served : HasServed channel moment msgs gathered old new

module _ (channel : ℕ) (moment : Moment) where
  each_both : (gs hs : List Group) (a b c : Side) → ServesEach channel moment gs a b → ServesEach channel moment hs b c → ServesEach channel moment (gs ++ hs) a c
  each_both [] hs a b c first second = subst (λ (s : Side). ServesEach channel moment hs s c) first second
  each_both (g ∷ gs) hs a b c first second = (first.0, first.1, each_both gs hs first.0 b c first.2 second)

  -- none is taken in
  pub served_none : (msgs : List UserMsg) (old new : Side) → new ≡ old → HasServed channel moment msgs msgs old new
  served_none msgs old new same = record { groups = []; all = refl; serves = same }

  -- one by itself
  pub served_alone : (msg : UserMsg) (old new : Side) → ServesOne channel moment msg old new → HasServed channel moment (msg ∷ []) [] old new
  served_alone msg old new one = record { groups = Alone msg ∷ []; all = refl; serves = (new, one, refl) }

  -- log messages together
  pub served_together : (msgs left : List UserMsg) (old new : Side) → AllByRecursion IsLog msgs → ForwardsAll moment channel msgs (part_of old) (part_of new) → new.outboxes ≡ old.outboxes → left ≡ []
      → HasServed channel moment msgs left old new
  served_together msgs left old new logs forwards outboxes none = subst (λ (ms : List UserMsg). HasServed channel moment msgs ms old new) (sym none)
      (record { groups = Together msgs ∷ []; all = sym (append-nil (msgs ++ []) ∙ append-nil msgs); serves = (new, (logs, forwards, outboxes), refl) })

  -- more messages come behind those that are left
  pub served_both : (msgs pending more left : List UserMsg) (a b c : Side) → HasServed channel moment msgs pending a b → HasServed channel moment (pending ++ more) left b c
      → HasServed channel moment (msgs ++ more) left a c
  served_both msgs pending more left a b c first second = record {
    groups = first.groups ++ second.groups;
    all = ap (λ (ms : List UserMsg). ms ++ more) first.all ∙ append_assoc (messages_of first.groups) pending more ∙ ap (λ (ms : List UserMsg). messages_of first.groups ++ ms) second.all
        ∙ sym (append_assoc (messages_of first.groups) (messages_of second.groups) left)
        ∙ ap (λ (ms : List UserMsg). ms ++ left) (sym (flat_map-append messages_in_group first.groups second.groups));
    serves = each_both first.groups second.groups a b c first.serves second.serves;
  }

  -- one more comes behind those that are left, and is left too
  pub served_more : (msgs pending left : List UserMsg) (msg : UserMsg) (old new : Side) → left ≡ pending ++ msg ∷ [] → HasServed channel moment msgs pending old new
      → HasServed channel moment (msgs ++ msg ∷ []) left old new
  served_more msgs pending left msg old new is served =
      subst (λ (ms : List UserMsg). HasServed channel moment (msgs ++ msg ∷ []) ms old new) (sym is)
      (served_both msgs pending (msg ∷ []) (pending ++ msg ∷ []) old new new served (served_none (pending ++ msg ∷ []) new new refl))

  -- one more comes where none is left, and is taken in by itself
  pub served_then : (msgs left : List UserMsg) (msg : UserMsg) (old between new : Side) → left ≡ [] → HasServed channel moment msgs left old between → ServesOne channel moment msg between new
      → HasServed channel moment (msgs ++ msg ∷ []) left old new
  served_then msgs left msg old between new none served one =
      subst (λ (ms : List UserMsg). HasServed channel moment (msgs ++ msg ∷ []) ms old new) (sym none)
      (served_both msgs [] (msg ∷ []) [] old between new (subst (λ (ms : List UserMsg). HasServed channel moment msgs ms old between) none served) (served_alone msg between new one))

  -- none comes behind them
  pub served_on : (msgs pending left : List UserMsg) (a b c : Side) → HasServed channel moment msgs pending a b → HasServed channel moment pending left b c → HasServed channel moment msgs left a c
  served_on msgs pending left a b c first second =
      subst (λ (ms : List UserMsg). HasServed channel moment ms left a c) (append-nil msgs)
      (served_both msgs pending [] left a b c first (subst (λ (ms : List UserMsg). HasServed channel moment ms left b c) (sym (append-nil pending)) second))

  -- where none is taken in, and one is there, one stops it
  pub stops_before : (msgs : List UserMsg) (old new : Side) → 0 < length msgs → new ≡ old → StopsServing channel moment msgs old new
  stops_before [] old new some same = absurd (omega (arith, some))
  stops_before (msg ∷ msgs) old new some same = (msg, msgs, served_none (msg ∷ msgs) old new same)

  some_behind : (msgs : List UserMsg) (msg : UserMsg) → 0 < length (msgs ++ msg ∷ [])
  some_behind msgs msg = omega (arith, length-append msgs (msg ∷ []))

  -- the message behind those that are gathered was not taken in
  pub stops_at_last : (msgs left : List UserMsg) (msg : UserMsg) (old between new : Side) → left ≡ [] → HasServed channel moment msgs left old between → new ≡ between
      → StopsServing channel moment (msgs ++ msg ∷ []) old new
  stops_at_last msgs left msg old between new none served same = (
    msg,
    [],
    served_both msgs [] (msg ∷ []) (msg ∷ []) old between new (subst (λ (ms : List UserMsg). HasServed channel moment msgs ms old between) none served) (served_none (msg ∷ []) between new same),
  )

  -- neither were they
  pub stops_at_first : (msgs : List UserMsg) (msg : UserMsg) (old new : Side) → new ≡ old → StopsServing channel moment (msgs ++ msg ∷ []) old new
  stops_at_first msgs msg old new same = stops_before (msgs ++ msg ∷ []) old new (some_behind msgs msg) same

  pub finishes_left : (msgs : List UserMsg) (behind end : Option ChannelEnd) (old new : Side) → 0 < length msgs → end ≡ Some NoMemory → new ≡ old → Finishes channel moment msgs behind end old new
  finishes_left [] behind end old new some is same = absurd (omega (arith, some))
  finishes_left (msg ∷ msgs) behind end old new some is same = (msg ∷ msgs, is, served_none (msg ∷ msgs) old new same)

  pub finishes_all : (msgs left : List UserMsg) (behind : Option ChannelEnd) (old new : Side) → HasServed channel moment msgs left old new → left ≡ [] → Finishes channel moment msgs behind behind old new
  finishes_all msgs left behind old new served none = ([], refl, subst (λ (ms : List UserMsg). HasServed channel moment msgs ms old new) none served)

  -- more of the messages that came stop it
  pub stops_on : (msgs pending more : List UserMsg) (a b c : Side) → HasServed channel moment msgs pending a b → StopsServing channel moment (pending ++ more) b c → StopsServing channel moment (msgs ++ more) a c
  stops_on msgs pending more a b c far stops = (stops.0, stops.1, served_both msgs pending more (stops.0 ∷ stops.1) a b c far stops.2)

  -- ---- all that stands in the bytes

  module _ (bytes rest : List ℕ) (msgs : List UserMsg) (cut : AreCut Begins bytes msgs rest) (inbox : cutter.Channel) (old new : Side) where
    serves_up_to : (left : List UserMsg) (behind end : Option ChannelEnd) → HasServed channel moment msgs left old new → EndsBehind behind end left → StopsAt behind rest inbox
        → ServesAll channel moment bytes end inbox old new
    serves_up_to [] behind end served ends stops =
        let all : msgs ≡ messages_of served.groups = served.all ∙ append-nil (messages_of served.groups) in
        record {
          groups = served.groups;
          left = rest;
          cut = subst (λ (ms : List UserMsg). AreCut Begins bytes ms rest) all cut;
          serves = served.serves;
          stops = subst (λ (e : Option ChannelEnd). StopsAt e rest inbox) (sym ends) stops;
        }
    serves_up_to (next ∷ others) behind end served ends stops =
        let parts = cut_between bytes rest (messages_of served.groups) (next ∷ others) (subst (λ (ms : List UserMsg). AreCut Begins bytes ms rest) served.all cut) in
        record {
          groups = served.groups;
          left = parts.0;
          cut = parts.1;
          serves = served.serves;
          stops = subst (λ (e : Option ChannelEnd). StopsAt e parts.0 inbox) (sym ends) (next, parts.2.0, parts.2.1);
        }

    -- behind all messages
    pub serves_to_end : (pending : List UserMsg) (behind end : Option ChannelEnd) (between : Side) → HasServed channel moment msgs pending old between
        → Finishes channel moment pending behind end between new → StopsAt behind rest inbox → ServesAll channel moment bytes end inbox old new
    serves_to_end pending behind end between far finishes stops =
        serves_up_to finishes.0 behind end (served_on msgs pending finishes.0 old between new far finishes.2) finishes.1 stops

    -- up to one for which memory was wanting
    pub serves_to_stop : (end : ChannelEnd) → end ≡ NoMemory → StopsServing channel moment msgs old new → ServesAll channel moment bytes (Some end) inbox old new
    serves_to_stop end is stops =
        let parts = cut_between bytes rest (messages_of stops.2.groups) (stops.0 ∷ stops.1) (subst (λ (ms : List UserMsg). AreCut Begins bytes ms rest) stops.2.all cut) in
        record {
          groups = stops.2.groups;
          left = parts.0;
          cut = parts.1;
          serves = stops.2.serves;
          stops = subst (λ (e : ChannelEnd). StopsAt (Some e) parts.0 inbox) (sym is) (stops.0, parts.2.0, parts.2.1);
        }

  -- ---- the bytes so far

  pub starts : (bytes : List ℕ) (gathered : List UserMsg) (s : Side) → gathered ≡ [] → SoFar channel moment bytes bytes gathered s s
  starts bytes gathered s none =
      record { msgs = []; cut = refl; served = subst (λ (ms : List UserMsg). HasServed channel moment [] ms s s) (sym none) (served_none [] s s refl) }

  pub serves_next : (bytes rest after : List ℕ) (gathered gathered_now : List UserMsg) (msg : UserMsg) (old between new : Side) → Begins rest msg after → SoFar channel moment bytes rest gathered old between
      → HasServed channel moment (gathered ++ msg ∷ []) gathered_now between new → SoFar channel moment bytes after gathered_now old new
  serves_next bytes rest after gathered gathered_now msg old between new begins far more = record {
    msgs = far.msgs ++ msg ∷ [];
    cut = cut_one bytes rest after far.msgs msg far.cut begins;
    served = served_both far.msgs gathered (msg ∷ []) gathered_now old between new far.served more;
  }

  pub goes_to_stop : (bytes rest after : List ℕ) (gathered : List UserMsg) (msg : UserMsg) (inbox : cutter.Channel) (old between new : Side) → Begins rest msg after → SoFar channel moment bytes rest gathered old between
      → (end : ChannelEnd) → end ≡ NoMemory → StopsServing channel moment (gathered ++ msg ∷ []) between new → ServesAll channel moment bytes (Some end) inbox old new
  goes_to_stop bytes rest after gathered msg inbox old between new begins far end is stops =
      serves_to_stop bytes after (far.msgs ++ msg ∷ []) (cut_one bytes rest after far.msgs msg far.cut begins) inbox old new end is
      (stops_on far.msgs gathered (msg ∷ []) old between new far.served stops)

  pub goes_to_end : (bytes rest : List ℕ) (gathered : List UserMsg) (inbox : cutter.Channel) (old between new : Side) (behind end : Option ChannelEnd) → SoFar channel moment bytes rest gathered old between
      → Finishes channel moment gathered behind end between new → StopsAt behind rest inbox → ServesAll channel moment bytes end inbox old new
  goes_to_end bytes rest gathered inbox old between new behind end far finishes stops = serves_to_end bytes rest far.msgs far.cut inbox old new gathered behind end between far.served finishes stops

-- ---- counts

pub none_short : (left : List UserMsg) → left ≡ [] → length left < 64
none_short left none = omega (arith, ap length none)

-- there is room for the frames of one message more
pub few_next : (ecu bytes after : List ℕ) (msg : UserMsg) (admitted gathered limit : ℕ) → Begins bytes msg after → 8 * (admitted + gathered) + length bytes ≤ 8 * limit
    → admitted + gathered + length (user_frames ecu msg) ≤ limit
few_next ecu bytes after msg admitted gathered limit begins few = omega (arith, few, shorter bytes after msg begins, few_frames ecu bytes after msg begins)

-- the same once others were admitted
pub few_with : (ecu ecu_now : List ℕ) (msg : UserMsg) (before after gathered left limit : ℕ) → ecu_now ≡ ecu → after + left ≡ before + gathered → before + gathered + length (user_frames ecu msg) ≤ limit
    → after + length (user_frames ecu_now msg) ≤ limit
few_with ecu ecu_now msg before after gathered left limit same so few = omega (arith, so, few, ap (λ (e : List ℕ). length (user_frames e msg)) same)

-- ---- answers

pub on_ok : {A E : Type 0} {P Q : Type 0} (r : Result A E) → (P → Q) → OnOk r P → OnOk r Q
on_ok (Ok x) f holds = f holds
on_ok (Err e) f holds = tt

pub on_err : {A E : Type 0} {P Q : Type 0} (r : Result A E) → (P → Q) → OnErr r P → OnErr r Q
on_err (Ok x) f holds = tt
on_err (Err e) f holds = f holds

pub all_push : (msgs left : List UserMsg) (msg : UserMsg) → left ≡ msgs ++ msg ∷ [] → AllByRecursion IsLog msgs → IsLog msg → AllByRecursion IsLog left
all_push msgs left msg is logs log = subst (AllByRecursion IsLog) (sym is) (all_one msgs logs) where
  all_one : (ms : List UserMsg) → AllByRecursion IsLog ms → AllByRecursion IsLog (ms ++ msg ∷ [])
  all_one [] all = (log, tt)
  all_one (m ∷ ms) all = (all.0, all_one ms all.1)

pub no_logs : (left : List UserMsg) → left ≡ [] → AllByRecursion IsLog left
no_logs left none = subst (AllByRecursion IsLog) (sym none) tt

-- sides whose parts are the same
pub same_side : {a b : Core} {outboxes : List (ℕ × Outbox)} {events events_now : Option (List Event)} {told told_now : FolderTold} → b ≡ a → events_now ≡ events → told_now ≡ told
    → side b outboxes events_now told_now ≡ side a outboxes events told
same_side {a} {b} {outboxes} core events told = λ i. side (core i) outboxes (events i) (told i)
