-- What begins the bytes of a client, and what stands behind it.
use Rattle.std.proofs.Common.{◌≡◌, ℕ, ◌+◌, ◌-◌, ◌*◌, ◌<◌, ◌≤◌, true, false, List, [], ◌∷◌, ◌++◌, length, take, drop, map, Some, refl, sym, ap, subst, ◌∙◌, append_assoc, length-append, length-take, length-drop, take-append-drop, arith}
use Rattle.std.specs.Prelude.{is_some}
use Rattle.std.specs.List.{concat, filter}
use Rattle.std.proofs.lemmas.List.{append-nil, drop-drop, drop_all}
use Rattle.dl_bytes.specs.Limits.{message_limit}
use Rattle.dl_headers.specs.declared.fault.HeaderFault.{HeaderFault}
use Rattle.dl_message.specs.Cut.{IsCut, IsOpen, IsWholeMessage, NoPiece, messages, pieces, rest_fault, rest_of, without_serial}
use Rattle.dl_message.specs.Cutting.{Begins, Cuts, Cutting, Feeds}
use Rattle.dl_message.specs.Requests.{asks, requests}
use Rattle.dl_message.specs.declared.cutter.Cut.TheVariants.{Bad, Message, NeedMore}
use Rattle.dl_message.proofs.Cuts.{its_cut, one_cut}
use Rattle.dl_message.proofs.Pieces.{bad_no_piece, bad_stays, piece_long}
use Rattle.dl_message.proofs.Calls.{cuts_limit}
use Rattle.dl_turns.specs.Sent.{Finds}
use Rattle.dl_turns.specs.declared.cutting.Next.TheVariants as next

-- ---- the one cut of bytes

-- a message that begins the bytes
module _ (bytes message after : List ℕ) (begins : Begins message_limit bytes message after) where
  behind_first : (messages message_limit bytes ≡ message ∷ messages message_limit after) × (rest_of message_limit bytes ≡ rest_of message_limit after)
  behind_first =
      let piece = begins.0 in
      let others = pieces message_limit after in
      let tail = its_cut message_limit after in
      let cut : IsCut message_limit bytes (piece ∷ others) (rest_of message_limit after) = record {
        parts = begins.2 ∙ ap (λ (x : List ℕ). piece ++ x) tail.parts ∙ sym (append_assoc piece (concat others) (rest_of message_limit after));
        each = (begins.1, tail.each);
        ends = tail.ends;
      } in
      let one = one_cut message_limit bytes (pieces message_limit bytes) (piece ∷ others) (rest_of message_limit bytes) (rest_of message_limit after) (its_cut message_limit bytes) cut in
      (ap (map without_serial) one.0 ∙ ap (λ (m : List ℕ). m ∷ messages message_limit after) (sym begins.3), one.1)

  behind_request : asks message ≡ true → requests bytes ≡ message ∷ requests after
  behind_request asking = ap (filter asks) behind_first.0 ∙ rw asking refl

  behind_other : asks message ≡ false → requests bytes ≡ requests after
  behind_other asking = ap (filter asks) behind_first.0 ∙ rw asking refl

-- no message begins them
pub nothing_whole : (bytes : List ℕ) → NoPiece message_limit bytes → (requests bytes ≡ []) × (rest_of message_limit bytes ≡ bytes)
nothing_whole bytes none =
    let cut : IsCut message_limit bytes [] bytes = record { parts = refl; each = tt; ends = none } in
    let one = one_cut message_limit bytes (pieces message_limit bytes) [] (rest_of message_limit bytes) bytes (its_cut message_limit bytes) cut in
    (ap (λ (ps : List (List ℕ)). filter asks (map without_serial ps)) one.0, one.1)

begins_more : (bytes after more message : List ℕ) → Begins message_limit bytes message after → Begins message_limit (bytes ++ more) message (after ++ more)
begins_more bytes after more message b = (b.0, b.1, ap (λ (x : List ℕ). x ++ more) b.2 ∙ append_assoc b.0 after more, b.3)

-- ---- a cutter goes through them

-- what is held and what of the piece isn't fed asks for all that the bytes ask for
pub record IsLooking (bytes piece : List ℕ) (taken : ℕ) (cutter : Cutting) : Type 0 where
  pub limit : cutter.limit ≡ message_limit
  pub within : taken ≤ length piece
  pub asked : requests bytes ≡ requests (cutter.unread ++ drop taken piece)
  pub rest : rest_of message_limit bytes ≡ rest_of message_limit (cutter.unread ++ drop taken piece)

pub sets_out : (piece : List ℕ) (cutter : Cutting) → cutter.limit ≡ message_limit → IsLooking (cutter.unread ++ piece) piece 0 cutter
sets_out piece cutter limit = record { limit = limit; within = omega arith; asked = refl; rest = refl }

-- what is unread gets shorter with each message
pub shorter : (old new : Cutting) → Cuts old Message new → length new.unread < length old.unread
shorter old new cuts =
    let piece = cuts.0.0 in
    omega (arith, ap length cuts.0.2, length-append piece new.unread, (piece_long old.limit piece cuts.0.1).1)

module _ (bytes piece : List ℕ) (taken : ℕ) (old new : Cutting) (so : IsLooking bytes piece taken old) where
  abbrev more : List ℕ
  more = drop taken piece

  module _ (cuts : Cuts old Message new) where
    begins : Begins message_limit (old.unread ++ more) new.message (new.unread ++ more)
    begins = begins_more old.unread new.unread more new.message (subst (λ (n : ℕ). Begins n old.unread new.message new.unread) so.limit cuts.0)

    pub passes_over : asks new.message ≡ false → IsLooking bytes piece taken new
    passes_over other = record {
      limit = cuts_limit old new Message cuts ∙ so.limit;
      within = so.within;
      asked = so.asked ∙ behind_other (old.unread ++ more) new.message (new.unread ++ more) begins other;
      rest = so.rest ∙ (behind_first (old.unread ++ more) new.message (new.unread ++ more) begins).1;
    }

    pub whole_now : IsWholeMessage new.limit new.message → IsWholeMessage message_limit new.message
    whole_now whole = subst (λ (n : ℕ). IsWholeMessage n new.message) (cuts_limit old new Message cuts ∙ so.limit) whole

    pub finds_request : asks new.message ≡ true → IsWholeMessage new.limit new.message → Finds bytes piece (next.Request taken) new
    finds_request asking whole = (
      so.within,
      record { whole = whole_now whole; request = asking },
      so.asked ∙ behind_request (old.unread ++ more) new.message (new.unread ++ more) begins asking,
      so.rest ∙ (behind_first (old.unread ++ more) new.message (new.unread ++ more) begins).1,
    )

  pub finds_bad : (fault : HeaderFault) → Cuts old (Bad fault) new → Finds bytes piece next.Bad new
  finds_bad fault cuts =
      let bad : rest_fault message_limit old.unread ≡ Some fault = ap (λ (n : ℕ). rest_fault n old.unread) (sym so.limit) ∙ cuts.0 in
      let still = bad_stays message_limit old.unread more fault bad in
      let none = nothing_whole (old.unread ++ more) (bad_no_piece message_limit (old.unread ++ more) fault still) in
      (so.asked ∙ none.0, ap (λ (r : List ℕ). is_some (rest_fault message_limit r)) (so.rest ∙ none.1) ∙ ap is_some still)

  module _ (cuts : Cuts old NeedMore new) where
    same_unread : new.unread ≡ old.unread
    same_unread = ap (λ (c : Cutting). c.unread) cuts.2

    open_now : IsOpen message_limit new.unread
    open_now = subst (IsOpen message_limit) (sym same_unread) (subst (λ (n : ℕ). IsOpen n old.unread) so.limit cuts.0)

    pub finds_none : taken ≡ length piece → Finds bytes piece next.NoMore new
    finds_none all =
        let none_left : old.unread ++ more ≡ new.unread = ap (λ (x : List ℕ). old.unread ++ x) (drop_all taken piece (omega (arith, all))) ∙ append-nil old.unread ∙ sym same_unread in
        let none = nothing_whole new.unread open_now.ends in (
          so.asked ∙ ap requests none_left ∙ none.0,
          record {
            limit = cuts_limit old new NeedMore cuts ∙ so.limit;
            rest = sym (so.rest ∙ ap (rest_of message_limit) none_left ∙ none.1);
            good = open_now;
          },
        )

    -- so many of the others are fed
    module _ (fed : List ℕ) (count : ℕ) (then : Cutting) (is_fed : fed ≡ drop taken piece) (feeds : Feeds new fed count then) where
      joined : then.unread ++ drop (taken + count) piece ≡ old.unread ++ more
      joined =
          ap (λ (c : Cutting). c.unread ++ drop (taken + count) piece) feeds.taken
          ∙ ap (λ (x : List ℕ). (new.unread ++ take count fed) ++ x) (sym (drop-drop count taken piece))
          ∙ append_assoc new.unread (take count fed) (drop count more)
          ∙ ap (λ (x : List ℕ). new.unread ++ (take count x ++ drop count more)) is_fed
          ∙ ap (λ (x : List ℕ). new.unread ++ x) (take-append-drop count more)
          ∙ ap (λ (x : List ℕ). x ++ more) same_unread

      pub fewer : taken < length piece → length then.unread + 2 * (length piece - (taken + count)) < length old.unread + 2 * (length piece - taken)
      fewer some =
          let size : length fed ≡ length piece - taken = ap length is_fed ∙ length-drop taken piece in
          let held : length then.unread ≡ length new.unread + length (take count fed) = ap (λ (c : Cutting). length c.unread) feeds.taken ∙ length-append new.unread (take count fed) in
          omega (arith, some, size, held, feeds.count_is, cuts.1, ap length same_unread, length-take count fed)

      pub goes_on : IsLooking bytes piece (taken + count) then
      goes_on = record {
        limit = ap (λ (c : Cutting). c.limit) feeds.taken ∙ cuts_limit old new NeedMore cuts ∙ so.limit;
        within = omega (arith, feeds.count_is, so.within, ap length is_fed, length-drop taken piece);
        asked = so.asked ∙ ap requests (sym joined);
        rest = so.rest ∙ ap (rest_of message_limit) (sym joined);
      }
