-- Bytes that come on a channel: what its cutter makes whole.
use Rattle.std.proofs.Common.{◌≡◌, ℕ, ◌-◌, ◌<◌, List, [], ◌∷◌, ◌++◌, length, take, drop, Err, inl, inr, refl, sym, ap, subst, ◌∙◌, append_assoc, length-append, take-append-drop, arith}
use Rattle.std.specs.List.{All}
use Rattle.std.proofs.lemmas.List.{append-nil, drop_at, take_rest}
use Rattle.std.proofs.lemmas.List.Elements.{All-push}
use Rattle.dl_bytes.specs.Bytes.{IsBytes}
use Rattle.dl_bytes.specs.Cutting.{AreCut}
use Rattle.dl_bytes.proofs.Cutting.{cut_on, cut_more}
use Rattle.dl_bytes.specs.UserMessage.{IsFit}
use Rattle.dl_bytes.specs.declared.user.UserMsg.{UserMsg}
use Rattle.dl_bytes.specs.declared.user.UserMsg.TheVariants as of
use Rattle.dl_bytes.proofs.Bytes.{IsBytes-append, IsBytes-drop, IsBytes-take}
use Rattle.dl_user.specs.Channel.{Channel, unfed}
use Rattle.dl_user.specs.Reading.{little, kind_at, message_at}
use Rattle.dl_user.specs.Cut.{Begins, HasRanges, IsOpen, Stops, messages_of, rest_of}
use Rattle.dl_user.specs.Cutter.{Cuts, Feeds}
use Rattle.dl_user.specs.Faults.{ProvesFault}
use Rattle.dl_user.specs.declared.cutter.UserCut.TheVariants.{NeedMore, Bad}
use Rattle.dl_user.specs.declared.fault.Stop.{Stop}
use Rattle.dl_user.specs.declared.fault.Stop.TheVariants as stops
use Rattle.dl_user.specs.declared.fault.UserFault.{UserFault}
use Rattle.dl_user.proofs.FrontLemmas.{open_is}
use Rattle.dl_user.proofs.Cuts.{cut_once, cut_is_there, cut_ended, begins_more, spelled_some}
use Rattle.dl_world.specs.Fed.{CanBeTold, Listens, IsIgnored, IsHeardBy, StandsStill, told_by}

-- ---- one message more

can_be_told : (msg : UserMsg) → IsFit msg → HasRanges msg → CanBeTold msg
can_be_told (of.Log message) fit ranges = (fit, tt)
can_be_told (of.RegisterApp apid pid text) fit ranges = (fit, tt)
can_be_told (of.UnregisterApp apid pid) fit ranges = (fit, tt)
can_be_told (of.RegisterContext apid ctid position level trace pid text) fit ranges = (fit, tt)
can_be_told (of.UnregisterContext apid ctid pid) fit ranges = (fit, tt)
can_be_told (of.LogLevel level trace position) fit ranges = (fit, tt)
can_be_told (of.Injection position service body) fit ranges = (fit, tt)
can_be_told (of.Overflow counter apid) fit ranges = (fit, ranges.1)

-- what a cutter gives can be told
pub told_too : (messages : List UserMsg) (msg : UserMsg) (bytes after : List ℕ) → Begins bytes msg after → All CanBeTold messages → All CanBeTold (messages ++ msg ∷ [])
told_too messages msg bytes after begins each = All-push CanBeTold messages msg each (can_be_told msg begins.1.fit begins.1.ranges)

-- what is unread gets shorter with each message
pub shorter : (bytes after : List ℕ) (msg : UserMsg) → Begins bytes msg after → length after < length bytes
shorter bytes after msg begins = omega (arith, ap length begins.2, length-append begins.0 after, spelled_some begins.0 msg begins.1)

-- the messages that were given of some bytes, behind those before
pub record HasTold (bytes rest : List ℕ) (before after : List UserMsg) : Type 0 where
  pub given : List UserMsg
  pub cut : AreCut Begins bytes given rest
  pub told : after ≡ before ++ given

pub told_none : (bytes : List ℕ) (before : List UserMsg) → HasTold bytes bytes before before
told_none bytes before = record { given = []; cut = refl; told = sym (append-nil before) }

pub told_one : (bytes rest after : List ℕ) (before mid : List UserMsg) (msg : UserMsg) → HasTold bytes rest before mid → Begins rest msg after → HasTold bytes after before (mid ++ msg ∷ [])
told_one bytes rest after before mid msg so begins = record {
  given = so.given ++ msg ∷ [];
  cut = cut_on Begins bytes rest after so.given (msg ∷ []) so.cut (after, begins, refl);
  told = ap (λ (ms : List UserMsg). ms ++ msg ∷ []) so.told ∙ append_assoc before so.given (msg ∷ []);
}

-- ---- a channel's bytes go on

stop_of : (new : Channel) → StandsStill new → (stop : Stop) × Stops new.unread stop
stop_of new (inl waits) = (stops.NeedMore, waits.0)
stop_of new (inr bad) = (stops.Bad bad.0.0, bad.0.1)

module _ (stream more : List ℕ) (bytes : IsBytes stream) (more_bytes : IsBytes more) (given : List UserMsg) (unread rest : List ℕ) (stop : Stop)
    (held : unread ≡ rest_of stream ++ more) (gives : AreCut Begins unread given rest) (ends : Stops rest stop) where
  goes : (messages_of (stream ++ more) ≡ messages_of stream ++ given) × (rest ≡ rest_of (stream ++ more))
  goes =
      let here = cut_is_there stream bytes in
      let whole = cut_is_there (stream ++ more) (IsBytes-append stream more bytes more_bytes) in
      let longer = cut_more Begins begins_more stream (rest_of stream) more (messages_of stream) here.1.0 in
      let next = subst (λ (u : List ℕ). AreCut Begins u given rest) held gives in
      let all = cut_on Begins (stream ++ more) (rest_of stream ++ more) rest (messages_of stream) given longer next in
      let one = cut_once (stream ++ more) (messages_of (stream ++ more)) (messages_of stream ++ given) (rest_of (stream ++ more)) rest whole.0 stop whole.1 (all, ends) in
      (one.0, sym one.1)

-- these messages stand behind those before
pub record HasHeard (stream bytes : List ℕ) (before after : List UserMsg) : Type 0 where
  pub more : List UserMsg
  pub whole : messages_of (stream ++ bytes) ≡ messages_of stream ++ more
  pub told : after ≡ before ++ more

heard_none : (stream : List ℕ) (before : List UserMsg) → HasHeard stream [] before before
heard_none stream before = record { more = []; whole = ap messages_of (append-nil stream) ∙ sym (append-nil (messages_of stream)); told = sym (append-nil before) }

heard_more : (stream first second : List ℕ) (before mid after : List UserMsg) → HasHeard stream first before mid → HasHeard (stream ++ first) second mid after → HasHeard stream (first ++ second) before after
heard_more stream first second before mid after a b = record {
  more = a.more ++ b.more;
  whole = ap messages_of (sym (append_assoc stream first second)) ∙ b.whole ∙ ap (λ (ms : List UserMsg). ms ++ b.more) a.whole ∙ append_assoc (messages_of stream) a.more b.more;
  told = b.told ∙ ap (λ (ms : List UserMsg). ms ++ b.more) a.told ∙ append_assoc before a.more b.more;
}

heard_is : (stream bytes : List ℕ) (before after : List UserMsg) → HasHeard stream bytes before after → after ≡ before ++ told_by stream bytes
heard_is stream bytes before after a =
    let made : told_by stream bytes ≡ a.more = ap (drop (length (messages_of stream))) a.whole ∙ drop_at (messages_of stream) a.more (length (messages_of stream)) refl in
    a.told ∙ ap (λ (ms : List UserMsg). before ++ ms) (sym made)

-- some bytes are taken, and all that they make whole is given
module _ (stream piece : List ℕ) (piece_bytes : IsBytes piece) (count : ℕ) (old mid new : Channel) (before after : List UserMsg) (heard : IsHeardBy stream old) (feeds : Feeds old piece count mid) (some : 0 < count)
    (given : List UserMsg) (gives : AreCut Begins mid.unread given new.unread) (told : after ≡ before ++ given) (stands : StandsStill new) where
  part_bytes : IsBytes (take count piece)
  part_bytes = IsBytes-take count piece piece_bytes

  listened : Listens stream old
  listened = elim heard.stands [
    | inl waits ↦ waits
    | inr ignored ↦ absurd (omega (arith, some, feeds.count_is, ignored.full))
  ]

  held : mid.unread ≡ rest_of stream ++ take count piece
  held = feeds.unread ∙ ap (λ (u : List ℕ). u ++ take count piece) listened.rest

  went : (messages_of (stream ++ take count piece) ≡ messages_of stream ++ given) × (new.unread ≡ rest_of (stream ++ take count piece))
  went = let stop = stop_of new stands in goes stream (take count piece) heard.bytes part_bytes given mid.unread new.unread stop.0 held gives stop.1

  heard_piece : IsHeardBy (stream ++ take count piece) new
  heard_piece = record {
    bytes = IsBytes-append stream (take count piece) heard.bytes part_bytes;
    stands = elim stands [
      | inl waits ↦ inl (record { rest = went.1; good = waits.0; room = waits.1; some = waits.2 })
      | inr bad ↦ inr (record {
        part = stream ++ take count piece;
        untaken = [];
        stream_is = sym (append-nil (stream ++ take count piece));
        rest = went.1;
        bad = bad.0;
        full = bad.1;
      })
    ];
  }

  told_piece : HasHeard stream (take count piece) before after
  told_piece = record { more = given; whole = went.0; told = told }

-- no byte is taken: there was a message that is wrong
module _ (stream bytes : List ℕ) (are_bytes : IsBytes bytes) (old new : Channel) (before : List UserMsg) (heard : IsHeardBy stream old) (feeds : Feeds old bytes 0 new) (some : 0 < length bytes) where
  ignored_is : IsIgnored stream old
  ignored_is = elim heard.stands [
    | inl waits ↦ absurd (omega (arith, some, feeds.count_is, waits.some))
    | inr ignored ↦ ignored
  ]

  shows_there : ProvesFault (rest_of ignored_is.part) ignored_is.bad.0
  shows_there = subst (λ (r : List ℕ). ProvesFault r ignored_is.bad.0) ignored_is.rest ignored_is.bad.1

  same_unread : new.unread ≡ old.unread
  same_unread = feeds.unread ∙ append-nil old.unread

  all_bytes : IsBytes (stream ++ bytes)
  all_bytes = IsBytes-append stream bytes heard.bytes are_bytes

  parts : stream ++ bytes ≡ ignored_is.part ++ (ignored_is.untaken ++ bytes)
  parts = ap (λ (s : List ℕ). s ++ bytes) ignored_is.stream_is ∙ append_assoc ignored_is.part ignored_is.untaken bytes

  heard_ignored : IsHeardBy (stream ++ bytes) new
  heard_ignored = record {
    bytes = all_bytes;
    stands = inr (record {
      part = ignored_is.part;
      untaken = ignored_is.untaken ++ bytes;
      stream_is = parts;
      rest = same_unread ∙ ignored_is.rest;
      bad = (ignored_is.bad.0, subst (λ (r : List ℕ). ProvesFault r ignored_is.bad.0) (sym same_unread) ignored_is.bad.1);
      full = omega (arith, feeds.room, ignored_is.full);
    });
  }

  told_ignored : HasHeard stream bytes before before
  told_ignored =
      let whole = cut_ended ignored_is.part (ignored_is.untaken ++ bytes) ignored_is.bad.0 (subst IsBytes parts all_bytes) shows_there in
      let here = cut_ended ignored_is.part ignored_is.untaken ignored_is.bad.0 (subst IsBytes ignored_is.stream_is heard.bytes) shows_there in
      record {
        more = [];
        whole = ap messages_of parts ∙ whole ∙ sym here ∙ ap messages_of (sym ignored_is.stream_is) ∙ sym (append-nil (messages_of stream));
        told = sym (append-nil before);
      }

-- ---- all bytes, piece by piece

-- the front of the bytes was fed
pub record IsHearing (bytes rest : List ℕ) (old new : Channel) (before after : List UserMsg) : Type 0 where
  pub done : List ℕ
  pub parts : done ++ rest ≡ bytes
  pub rest_bytes : IsBytes rest
  pub heard_so : (stream : List ℕ) → IsHeardBy stream old → IsHeardBy (stream ++ done) new
  pub told_so : (stream : List ℕ) → IsHeardBy stream old → HasHeard stream done before after
  pub each : All CanBeTold before → All CanBeTold after

pub sets_out : (bytes : List ℕ) → IsBytes bytes → (old : Channel) (before : List UserMsg) → IsHearing bytes bytes old old before before
sets_out bytes are_bytes old before = record {
  done = [];
  parts = refl;
  rest_bytes = are_bytes;
  heard_so = λ stream heard. subst (λ (s : List ℕ). IsHeardBy s old) (sym (append-nil stream)) heard;
  told_so = λ stream heard. heard_none stream before;
  each = λ each. each;
}

module _ (bytes rest : List ℕ) (old cutter : Channel) (before mid : List UserMsg) (so : IsHearing bytes rest old cutter before mid) where
  module _ (count : ℕ) (feeding new : Channel) (after : List UserMsg) (feeds : Feeds cutter rest count feeding) (some : 0 < count)
      (gives : (given : List UserMsg) × AreCut Begins feeding.unread given new.unread × (after ≡ mid ++ given)) (stands : StandsStill new) (each : All CanBeTold mid → All CanBeTold after) where
    abbrev part : List ℕ
    part = take count rest

    pub goes_on : IsHearing bytes (take (length rest - count) (drop count rest)) old new before after
    goes_on = record {
      done = so.done ++ part;
      parts = ap (λ (x : List ℕ). (so.done ++ part) ++ x) (take_rest rest count) ∙ append_assoc so.done part (drop count rest) ∙ ap (λ (x : List ℕ). so.done ++ x) (take-append-drop count rest) ∙ so.parts;
      rest_bytes = subst IsBytes (sym (take_rest rest count)) (IsBytes-drop count rest so.rest_bytes);
      heard_so = λ stream heard. subst (λ (s : List ℕ). IsHeardBy s new) (append_assoc stream so.done part)
          (heard_piece (stream ++ so.done) rest so.rest_bytes count cutter feeding new mid after (so.heard_so stream heard) feeds some gives.0 gives.1 gives.2 stands);
      told_so = λ stream heard. heard_more stream so.done part before mid after (so.told_so stream heard)
          (told_piece (stream ++ so.done) rest so.rest_bytes count cutter feeding new mid after (so.heard_so stream heard) feeds some gives.0 gives.1 gives.2 stands);
      each = λ all. each (so.each all);
    }

  -- nothing more is taken
  module _ (new : Channel) (feeds : Feeds cutter rest 0 new) (some : 0 < length rest) where
    pub stops_there : IsHearing bytes [] old new before mid
    stops_there = record {
      done = so.done ++ rest;
      parts = append-nil (so.done ++ rest) ∙ so.parts;
      rest_bytes = λ i. omega arith;
      heard_so = λ stream heard. subst (λ (s : List ℕ). IsHeardBy s new) (append_assoc stream so.done rest) (heard_ignored (stream ++ so.done) rest so.rest_bytes cutter new mid (so.heard_so stream heard) feeds some);
      told_so = λ stream heard. heard_more stream so.done rest before mid mid (so.told_so stream heard) (told_ignored (stream ++ so.done) rest so.rest_bytes cutter new mid (so.heard_so stream heard) feeds some);
      each = so.each;
    }

module _ (bytes : List ℕ) (old new : Channel) (before after : List UserMsg) (so : IsHearing bytes [] old new before after) where
  all_done : so.done ≡ bytes
  all_done = sym (append-nil so.done) ∙ so.parts

  pub arrives : (stream : List ℕ) → IsHeardBy stream old → IsHeardBy (stream ++ bytes) new
  arrives stream heard = subst (λ (d : List ℕ). IsHeardBy (stream ++ d) new) all_done (so.heard_so stream heard)

  pub arrives_told : (stream : List ℕ) → IsHeardBy stream old → after ≡ before ++ told_by stream bytes
  arrives_told stream heard = heard_is stream bytes before after (subst (λ (d : List ℕ). HasHeard stream d before after) all_done (so.told_so stream heard))

-- a channel that nothing came on yet
nothing_read : message_at (little []) ≡ Err stops.NeedMore
unfolding message_at kind_at
nothing_read = refl
