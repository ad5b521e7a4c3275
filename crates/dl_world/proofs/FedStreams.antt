-- A client's stream that goes on: what its cutter makes whole.
use Rattle.std.proofs.Common.{◌≡◌, ℕ, ◌+◌, ◌-◌, ◌<◌, Bool, true, false, List, [], ◌∷◌, ◌++◌, length, take, drop, map, Some, None, inl, inr, refl, sym, ap, subst, ◌∙◌, append_assoc, take-append-drop, arith}
use Rattle.std.specs.Prelude.{◌==◌, is_some, IsSome}
use Rattle.std.specs.List.{All, AllByRecursion, concat, filter}
use Rattle.std.proofs.lemmas.List.{append-nil, drop_at, take_rest}
use Rattle.std.proofs.lemmas.List.Elements.{filter-append}
use Rattle.dl_bytes.specs.Cutting.{AreCut}
use Rattle.dl_bytes.specs.Limits.{message_limit}
use Rattle.dl_bytes.proofs.Cutting.{cut_on, cut_more}
use Rattle.dl_message.specs.Cut.{IsPiece, IsCut, NoPiece, IsOpen, without_serial, pieces, messages, rest_of, rest_fault}
use Rattle.dl_message.specs.Cutting.{Cutting, Begins, Cuts, Feeds}
use Rattle.dl_message.specs.Requests.{asks, requests}
use Rattle.dl_message.specs.declared.cutter.Cut.{Cut}
use Rattle.dl_message.specs.declared.cutter.Cut.TheVariants.{Message, NeedMore, Bad}
use Rattle.dl_message.proofs.Cuts.{one_cut, its_cut, requests-bad}
use Rattle.dl_message.proofs.Pieces.{bad_no_piece, bad_stays}
use Rattle.dl_message.proofs.Calls.{cuts_limit}
use Rattle.dl_core.specs.Serving.{IsRequest}
use Rattle.dl_world.specs.Fed.{Waits, IsShut, IsFedBy, Stands, made_whole}
use Rattle.dl_lemmas.proofs.Options.{is_some_of, some_of}

-- ---- the one cut of a stream

begins_more : (bytes after more message : List ℕ) → Begins message_limit bytes message after → Begins message_limit (bytes ++ more) message (after ++ more)
begins_more bytes after more message b = (b.0, b.1, ap (λ (x : List ℕ). x ++ more) b.2 ∙ append_assoc b.0 after more, b.3)

-- pieces one behind the other are a cut
are_cut : (cut : List (List ℕ)) (bytes rest : List ℕ) → bytes ≡ concat cut ++ rest → AllByRecursion (IsPiece message_limit) cut → AreCut (Begins message_limit) bytes (map without_serial cut) rest
are_cut [] bytes rest parts each = parts
are_cut (piece ∷ cut) bytes rest parts each =
    (concat cut ++ rest, (piece, each.0, parts ∙ append_assoc piece (concat cut) rest, refl), are_cut cut (concat cut ++ rest) rest refl each.1)

-- and a cut is such pieces
record Parted (bytes : List ℕ) (all : List (List ℕ)) (rest : List ℕ) : Type 0 where
  cut : List (List ℕ)
  parts : bytes ≡ concat cut ++ rest
  each : AllByRecursion (IsPiece message_limit) cut
  same : all ≡ map without_serial cut

parted : (bytes : List ℕ) (all : List (List ℕ)) (rest : List ℕ) → AreCut (Begins message_limit) bytes all rest → Parted bytes all rest
parted bytes [] rest a = record { cut = []; parts = a; each = tt; same = refl }
parted bytes (message ∷ others) rest a =
    let piece = a.1.0 in
    let p = parted a.0 others rest a.2 in
    record {
      cut = piece ∷ p.cut;
      parts = a.1.2 ∙ ap (λ (x : List ℕ). piece ++ x) p.parts ∙ sym (append_assoc piece (concat p.cut) rest);
      each = (a.1.1, p.each);
      same = ap (λ (m : List ℕ). m ∷ others) a.1.3 ∙ ap (λ (ms : List (List ℕ)). without_serial piece ∷ ms) p.same;
    }

cut_is : (stream rest : List ℕ) (given : List (List ℕ)) → AreCut (Begins message_limit) stream given rest → NoPiece message_limit rest
    → (given ≡ messages message_limit stream) × (rest ≡ rest_of message_limit stream)
cut_is stream rest given a ends =
    let p = parted stream given rest a in
    let is : IsCut message_limit stream p.cut rest = record { parts = p.parts; each = p.each; ends = ends } in
    let one = one_cut message_limit stream p.cut (pieces message_limit stream) rest (rest_of message_limit stream) is (its_cut message_limit stream) in
    (p.same ∙ ap (map without_serial) one.0, one.1)

its_messages : (stream : List ℕ) → AreCut (Begins message_limit) stream (messages message_limit stream) (rest_of message_limit stream)
its_messages stream = let is = its_cut message_limit stream in are_cut (pieces message_limit stream) stream (rest_of message_limit stream) is.parts is.each

-- ---- the stream goes on

module _ (stream more : List ℕ) (given : List (List ℕ)) (unread rest : List ℕ) (held : unread ≡ rest_of message_limit stream ++ more) (gives : AreCut (Begins message_limit) unread given rest) (ends : NoPiece message_limit rest) where
  goes : (messages message_limit stream ++ given ≡ messages message_limit (stream ++ more)) × (rest ≡ rest_of message_limit (stream ++ more))
  goes =
      let longer = cut_more (Begins message_limit) begins_more stream (rest_of message_limit stream) more (messages message_limit stream) (its_messages stream) in
      let next = subst (λ (u : List ℕ). AreCut (Begins message_limit) u given rest) held gives in
      cut_is (stream ++ more) rest (messages message_limit stream ++ given)
      (cut_on (Begins message_limit) (stream ++ more) (rest_of message_limit stream ++ more) rest (messages message_limit stream) given longer next) ends

  goes_requests : requests (stream ++ more) ≡ requests stream ++ filter asks given
  goes_requests = ap (filter asks) (sym goes.0) ∙ filter-append asks (messages message_limit stream) given

-- behind a bad header nothing is whole any more
shut_rest : (part untaken : List ℕ) → IsSome (rest_fault message_limit (rest_of message_limit part))
    → (rest_of message_limit (part ++ untaken) ≡ rest_of message_limit part ++ untaken) × IsSome (rest_fault message_limit (rest_of message_limit (part ++ untaken)))
shut_rest part untaken bad =
    let rest = rest_of message_limit part in
    let fault = some_of (rest_fault message_limit rest) bad in
    let still = bad_stays message_limit rest untaken fault.0 fault.1 in
    let same : rest ++ untaken ≡ rest_of message_limit (part ++ untaken) = (goes part untaken [] (rest ++ untaken) (rest ++ untaken) refl refl (bad_no_piece message_limit (rest ++ untaken) fault.0 still)).1 in
    (sym same, subst (λ (r : List ℕ). IsSome (rest_fault message_limit r)) same (is_some_of (rest_fault message_limit (rest ++ untaken)) fault.0 still))

-- ---- bytes are fed

-- these requests stand behind those before
pub record HasAsked (stream bytes : List ℕ) (before after : List (List ℕ)) : Type 0 where
  pub more : List (List ℕ)
  pub whole : requests (stream ++ bytes) ≡ requests stream ++ more
  pub asked : after ≡ before ++ more

pub asked_none : (stream : List ℕ) (before : List (List ℕ)) → HasAsked stream [] before before
asked_none stream before = record { more = []; whole = ap requests (append-nil stream) ∙ sym (append-nil (requests stream)); asked = sym (append-nil before) }

pub asked_more : (stream first second : List ℕ) (before mid after : List (List ℕ)) → HasAsked stream first before mid → HasAsked (stream ++ first) second mid after → HasAsked stream (first ++ second) before after
asked_more stream first second before mid after a b = record {
  more = a.more ++ b.more;
  whole = ap requests (sym (append_assoc stream first second)) ∙ b.whole ∙ ap (λ (rs : List (List ℕ)). rs ++ b.more) a.whole ∙ append_assoc (requests stream) a.more b.more;
  asked = b.asked ∙ ap (λ (rs : List (List ℕ)). rs ++ b.more) a.asked ∙ append_assoc before a.more b.more;
}

pub asked_is : (stream bytes : List ℕ) (before after : List (List ℕ)) → HasAsked stream bytes before after → after ≡ before ++ made_whole stream bytes
asked_is stream bytes before after a =
    let made : made_whole stream bytes ≡ a.more = ap (drop (length (requests stream))) a.whole ∙ drop_at (requests stream) a.more (length (requests stream)) refl in
    a.asked ∙ ap (λ (rs : List (List ℕ)). before ++ rs) (sym made)

no_piece : (new : Cutting) → Stands new → NoPiece message_limit new.unread
no_piece new (inl waits) = waits.0.ends
no_piece new (inr shut) = let fault = some_of (rest_fault message_limit new.unread) shut.0 in bad_no_piece message_limit new.unread fault.0 fault.1

-- some bytes are taken, and all that they make whole is given
module _ (stream piece : List ℕ) (count : ℕ) (old mid new : Cutting) (before after : List (List ℕ)) (fed : IsFedBy stream old) (feeds : Feeds old piece count mid) (some : 0 < count)
    (given : List (List ℕ)) (gives : AreCut (Begins message_limit) mid.unread given new.unread) (asked : after ≡ before ++ filter asks given) (limit : new.limit ≡ message_limit) (stands : Stands new) where
  waited : Waits stream old
  waited = elim fed.stands [
    | inl waits ↦ waits
    | inr shut ↦ absurd (omega (arith, some, feeds.count_is, shut.full))
  ]

  held : mid.unread ≡ rest_of message_limit stream ++ take count piece
  held = ap (λ (c : Cutting). c.unread) feeds.taken ∙ ap (λ (u : List ℕ). u ++ take count piece) waited.rest

  rest_now : new.unread ≡ rest_of message_limit (stream ++ take count piece)
  rest_now = (goes stream (take count piece) given mid.unread new.unread held gives (no_piece new stands)).1

  pub fed_piece : IsFedBy (stream ++ take count piece) new
  fed_piece = record {
    limit = limit;
    stands = elim stands [
      | inl waits ↦ inl (record { rest = rest_now; good = waits.0; room = waits.1; some = waits.2 })
      | inr shut ↦ inr (record {
        part = stream ++ take count piece;
        untaken = [];
        stream_is = sym (append-nil (stream ++ take count piece));
        rest = rest_now;
        bad = shut.0;
        full = shut.1;
      })
    ];
  }

  pub asked_piece : HasAsked stream (take count piece) before after
  asked_piece = record { more = filter asks given; whole = goes_requests stream (take count piece) given mid.unread new.unread held gives (no_piece new stands); asked = asked }

-- no byte is taken: there was a bad header
module _ (stream bytes : List ℕ) (old new : Cutting) (before : List (List ℕ)) (fed : IsFedBy stream old) (feeds : Feeds old bytes 0 new) (some : 0 < length bytes) where
  shut_is : IsShut stream old
  shut_is = elim fed.stands [
    | inl waits ↦ absurd (omega (arith, some, feeds.count_is, waits.some))
    | inr shut ↦ shut
  ]

  bad_there : IsSome (rest_fault message_limit (rest_of message_limit shut_is.part))
  bad_there = subst (λ (r : List ℕ). IsSome (rest_fault message_limit r)) shut_is.rest shut_is.bad

  same_unread : new.unread ≡ old.unread
  same_unread = ap (λ (c : Cutting). c.unread) feeds.taken ∙ append-nil old.unread

  pub fed_shut : IsFedBy (stream ++ bytes) new
  fed_shut = record {
    limit = ap (λ (c : Cutting). c.limit) feeds.taken ∙ fed.limit;
    stands = inr (record {
      part = shut_is.part;
      untaken = shut_is.untaken ++ bytes;
      stream_is = ap (λ (s : List ℕ). s ++ bytes) shut_is.stream_is ∙ append_assoc shut_is.part shut_is.untaken bytes;
      rest = same_unread ∙ shut_is.rest;
      bad = subst (λ (r : List ℕ). IsSome (rest_fault message_limit r)) (sym same_unread) shut_is.bad;
      full = omega (arith, ap (λ (c : Cutting). c.room) feeds.taken, shut_is.full);
    });
  }

  pub asked_shut : HasAsked stream bytes before before
  asked_shut =
      let all : requests (shut_is.part ++ (shut_is.untaken ++ bytes)) ≡ requests (shut_is.part ++ shut_is.untaken) = requests-bad shut_is.part (shut_is.untaken ++ bytes) bad_there ∙ sym (requests-bad shut_is.part shut_is.untaken bad_there) in
      record {
        more = [];
        whole =
            ap (λ (s : List ℕ). requests (s ++ bytes)) shut_is.stream_is ∙ ap requests (append_assoc shut_is.part shut_is.untaken bytes) ∙ all
            ∙ ap requests (sym shut_is.stream_is) ∙ sym (append-nil (requests stream));
        asked = sym (append-nil before);
      }

-- ---- whether a bad header was met

no_message : (old new : Cutting) → old.limit ≡ message_limit → NoPiece message_limit old.unread → Cuts old Message new → ⊥
no_message old new limit none cuts = let begins = subst (λ (n : ℕ). Begins n old.unread new.message new.unread) limit cuts.0 in none begins.0 new.unread begins.1 begins.2

abbrev pub is_bad_cut : Cut → Bool
is_bad_cut Message = false
is_bad_cut NeedMore = false
is_bad_cut (Bad fault) = true

waits_next : (stream : List ℕ) (old new : Cutting) (cut : Cut) → old.limit ≡ message_limit → Waits stream old → Cuts old cut new → (is_bad_cut cut ≡ false) × Waits stream new
waits_next stream old new Message limit waits cuts = absurd (no_message old new limit waits.good.ends cuts)
waits_next stream old new NeedMore limit waits cuts =
    let unread : new.unread ≡ old.unread = ap (λ (c : Cutting). c.unread) cuts.2 in
    let room : new.room ≡ old.limit + 4 - length old.unread = ap (λ (c : Cutting). c.room) cuts.2 in
    (refl, record { rest = unread ∙ waits.rest; good = subst (IsOpen message_limit) (sym unread) waits.good; room = omega (arith, room, limit, ap length unread); some = cuts.1 })
waits_next stream old new (Bad fault) limit waits cuts =
    let bad : rest_fault message_limit old.unread ≡ Some fault = ap (λ (n : ℕ). rest_fault n old.unread) (sym limit) ∙ cuts.0 in
    let good = waits.good.good in
    absurd (cc (sym good ∙ bad))

shut_next : (stream : List ℕ) (old new : Cutting) (cut : Cut) → old.limit ≡ message_limit → IsShut stream old → Cuts old cut new → (is_bad_cut cut ≡ true) × IsShut stream new
shut_next stream old new Message limit shut cuts = let fault = some_of (rest_fault message_limit old.unread) shut.bad in absurd (no_message old new limit (bad_no_piece message_limit old.unread fault.0 fault.1) cuts)
shut_next stream old new NeedMore limit shut cuts =
    let fault = some_of (rest_fault message_limit old.unread) shut.bad in
    let good : rest_fault message_limit old.unread ≡ None = ap (λ (n : ℕ). rest_fault n old.unread) (sym limit) ∙ cuts.0.good in
    absurd (cc (sym good ∙ fault.1))
shut_next stream old new (Bad fault) limit shut cuts =
    let unread : new.unread ≡ old.unread = ap (λ (c : Cutting). c.unread) cuts.1 in (
      refl,
      record {
        part = shut.part;
        untaken = shut.untaken;
        stream_is = shut.stream_is;
        rest = unread ∙ shut.rest;
        bad = subst (λ (r : List ℕ). IsSome (rest_fault message_limit r)) (sym unread) shut.bad;
        full = ap (λ (c : Cutting). c.room) cuts.1;
      },
    )

module _ (stream : List ℕ) (old new : Cutting) (cut : Cut) (fed : IsFedBy stream old) (cuts : Cuts old cut new) where
  pub fed_next : IsFedBy stream new
  fed_next = record {
    limit = cuts_limit old new cut cuts ∙ fed.limit;
    stands = elim fed.stands [
      | inl waits ↦ inl (waits_next stream old new cut fed.limit waits cuts).1
      | inr shut ↦ inr (shut_next stream old new cut fed.limit shut cuts).1
    ];
  }

  -- the answer tells whether what is left of the stream is bad
  pub bad_next : is_bad_cut cut ≡ is_some (rest_fault message_limit (rest_of message_limit stream))
  bad_next = elim fed.stands [
    | inl waits ↦ (waits_next stream old new cut fed.limit waits cuts).0 ∙ sym (ap (λ (r : List ℕ). is_some (rest_fault message_limit r)) (sym waits.rest) ∙ ap is_some waits.good.good)
    | inr shut ↦
        let bad = subst (λ (r : List ℕ). IsSome (rest_fault message_limit r)) shut.rest shut.bad in
        (shut_next stream old new cut fed.limit shut cuts).0
        ∙ sym (ap (λ (s : List ℕ). is_some (rest_fault message_limit (rest_of message_limit s))) shut.stream_is ∙ (shut_rest shut.part shut.untaken bad).1)
  ]

-- ---- all bytes, piece by piece

-- the front of the bytes was fed
pub record IsFeeding (bytes rest : List ℕ) (old new : Cutting) (before after : List (List ℕ)) : Type 0 where
  pub done : List ℕ
  pub parts : done ++ rest ≡ bytes
  pub fed_so : (stream : List ℕ) → IsFedBy stream old → IsFedBy (stream ++ done) new
  pub asked : (stream : List ℕ) → IsFedBy stream old → HasAsked stream done before after
  pub each : All IsRequest before → All IsRequest after

pub sets_out : (bytes : List ℕ) (old : Cutting) (before : List (List ℕ)) → IsFeeding bytes bytes old old before before
sets_out bytes old before = record {
  done = [];
  parts = refl;
  fed_so = λ stream fed. subst (λ (s : List ℕ). IsFedBy s old) (sym (append-nil stream)) fed;
  asked = λ stream fed. asked_none stream before;
  each = λ each. each;
}

module _ (bytes rest : List ℕ) (old cutter : Cutting) (before mid : List (List ℕ)) (so : IsFeeding bytes rest old cutter before mid) where
  module _ (count : ℕ) (feeding new : Cutting) (after : List (List ℕ)) (feeds : Feeds cutter rest count feeding) (some : 0 < count)
      (gives : (given : List (List ℕ)) × AreCut (Begins message_limit) feeding.unread given new.unread × (after ≡ mid ++ filter asks given)) (limit : new.limit ≡ message_limit) (stands : Stands new)
      (each : All IsRequest mid → All IsRequest after) where
    abbrev part : List ℕ
    part = take count rest

    pub goes_on : IsFeeding bytes (take (length rest - count) (drop count rest)) old new before after
    goes_on = record {
      done = so.done ++ part;
      parts = ap (λ (x : List ℕ). (so.done ++ part) ++ x) (take_rest rest count) ∙ append_assoc so.done part (drop count rest) ∙ ap (λ (x : List ℕ). so.done ++ x) (take-append-drop count rest) ∙ so.parts;
      fed_so = λ stream fed. subst (λ (s : List ℕ). IsFedBy s new) (append_assoc stream so.done part)
          (fed_piece (stream ++ so.done) rest count cutter feeding new mid after (so.fed_so stream fed) feeds some gives.0 gives.1 gives.2 limit stands);
      asked = λ stream fed. asked_more stream so.done part before mid after (so.asked stream fed)
          (asked_piece (stream ++ so.done) rest count cutter feeding new mid after (so.fed_so stream fed) feeds some gives.0 gives.1 gives.2 limit stands);
      each = λ all. each (so.each all);
    }

  -- nothing more is taken
  module _ (new : Cutting) (feeds : Feeds cutter rest 0 new) (some : 0 < length rest) where
    pub stops : IsFeeding bytes [] old new before mid
    stops = record {
      done = so.done ++ rest;
      parts = append-nil (so.done ++ rest) ∙ so.parts;
      fed_so = λ stream fed. subst (λ (s : List ℕ). IsFedBy s new) (append_assoc stream so.done rest) (fed_shut (stream ++ so.done) rest cutter new mid (so.fed_so stream fed) feeds some);
      asked = λ stream fed. asked_more stream so.done rest before mid mid (so.asked stream fed) (asked_shut (stream ++ so.done) rest cutter new mid (so.fed_so stream fed) feeds some);
      each = so.each;
    }

module _ (bytes : List ℕ) (old new : Cutting) (before after : List (List ℕ)) (so : IsFeeding bytes [] old new before after) where
  all_done : so.done ≡ bytes
  all_done = sym (append-nil so.done) ∙ so.parts

  pub arrives : (stream : List ℕ) → IsFedBy stream old → IsFedBy (stream ++ bytes) new
  arrives stream fed = subst (λ (d : List ℕ). IsFedBy (stream ++ d) new) all_done (so.fed_so stream fed)

  pub arrives_asked : (stream : List ℕ) → IsFedBy stream old → after ≡ before ++ made_whole stream bytes
  arrives_asked stream fed = asked_is stream bytes before after (subst (λ (d : List ℕ). HasAsked stream d before after) all_done (so.asked stream fed))

pub some_left : (xs : List ℕ) → (length xs == 0) ≡ false → 0 < length xs
some_left [] e = absurd cc
some_left (x ∷ xs) e = omega arith
