-- What bytes of a client make whole, piece by piece.
use Rattle.std.proofs.Common.{◌≡◌, ◌≢◌, ℕ, ◌+◌, ◌-◌, ◌<◌, true, false, List, [], ◌∷◌, ◌++◌, length, Some, inl, inr, refl, sym, ap, subst, ◌∙◌, append_assoc, length-append, arith}
use Rattle.std.specs.List.{All, filter}
use Rattle.std.proofs.lemmas.List.{append-nil}
use Rattle.std.proofs.lemmas.List.Elements.{All-push, filter-append}
use Rattle.dl_bytes.specs.Cutting.{AreCut}
use Rattle.dl_bytes.specs.Limits.{message_limit}
use Rattle.dl_bytes.proofs.Cutting.{cut_on}
use Rattle.dl_message.specs.Cut.{IsWholeMessage, IsOpen, rest_fault}
use Rattle.dl_message.specs.Cutting.{Cutting, Begins, Cuts}
use Rattle.dl_message.specs.Requests.{asks, requests}
use Rattle.dl_message.specs.declared.cutter.Cut.{Cut}
use Rattle.dl_message.specs.declared.cutter.Cut.TheVariants.{Message, NeedMore, Bad}
use Rattle.dl_message.proofs.Pieces.{piece_long}
use Rattle.dl_message.proofs.Calls.{cuts_limit}
use Rattle.dl_core.specs.Serving.{IsRequest}
use Rattle.dl_world.specs.Fed.{Stands}
use Rattle.dl_lemmas.proofs.Options.{is_some_of}

-- ---- one message more

-- the messages that were given of some bytes, and the requests among them behind those before
pub record Gave (bytes rest : List ℕ) (before after : List (List ℕ)) : Type 0 where
  pub given : List (List ℕ)
  pub cut : AreCut (Begins message_limit) bytes given rest
  pub asked : after ≡ before ++ filter asks given

pub gave_none : (bytes : List ℕ) (before : List (List ℕ)) → Gave bytes bytes before before
gave_none bytes before = record { given = []; cut = refl; asked = sym (append-nil before) }

module _ (bytes : List ℕ) (before after : List (List ℕ)) (old new : Cutting) (limit : old.limit ≡ message_limit) (cuts : Cuts old Message new) (gave : Gave bytes old.unread before after) where
  cut_one : AreCut (Begins message_limit) bytes (gave.given ++ new.message ∷ []) new.unread
  cut_one =
      let begins = subst (λ (n : ℕ). Begins n old.unread new.message new.unread) limit cuts.0 in
      cut_on (Begins message_limit) bytes old.unread new.unread gave.given (new.message ∷ []) gave.cut (new.unread, begins, refl)

  asked_with : (more : List (List ℕ)) → filter asks (new.message ∷ []) ≡ more → after ++ more ≡ before ++ filter asks (gave.given ++ new.message ∷ [])
  asked_with more is =
      ap (λ (xs : List (List ℕ)). xs ++ more) gave.asked ∙ append_assoc before (filter asks gave.given) more
      ∙ ap (λ (xs : List (List ℕ)). before ++ (filter asks gave.given ++ xs)) (sym is)
      ∙ ap (λ (xs : List (List ℕ)). before ++ xs) (sym (filter-append asks gave.given (new.message ∷ [])))

  pub gave_request : asks new.message ≡ true → Gave bytes new.unread before (after ++ new.message ∷ [])
  gave_request asks_so = record { given = gave.given ++ new.message ∷ []; cut = cut_one; asked = asked_with (new.message ∷ []) (rw asks_so refl) }

  pub gave_other : asks new.message ≡ false → Gave bytes new.unread before after
  gave_other asks_so = record { given = gave.given ++ new.message ∷ []; cut = cut_one; asked = sym (append-nil after) ∙ asked_with [] (rw asks_so refl) }

-- no message is given
pub gave_all : (bytes : List ℕ) (before after : List (List ℕ)) (old new : Cutting) (cut : Cut) → cut ≢ Message → Cuts old cut new → Gave bytes old.unread before after → Gave bytes new.unread before after
gave_all bytes before after old new Message other cuts gave = absurd (other refl)
gave_all bytes before after old new NeedMore other cuts gave = subst (λ (r : List ℕ). Gave bytes r before after) (sym (ap (λ (c : Cutting). c.unread) cuts.2)) gave
gave_all bytes before after old new (Bad fault) other cuts gave = subst (λ (r : List ℕ). Gave bytes r before after) (sym (ap (λ (c : Cutting). c.unread) cuts.1)) gave

pub stands_now : (old new : Cutting) (cut : Cut) → cut ≢ Message → old.limit ≡ message_limit → Cuts old cut new → Stands new
stands_now old new Message other limit cuts = absurd (other refl)
stands_now old new NeedMore other limit cuts =
    let unread : new.unread ≡ old.unread = ap (λ (c : Cutting). c.unread) cuts.2 in
    let room : new.room ≡ old.limit + 4 - length old.unread = ap (λ (c : Cutting). c.room) cuts.2 in
    inl (subst (IsOpen message_limit) (sym unread) (subst (λ (n : ℕ). IsOpen n old.unread) limit cuts.0), omega (arith, room, limit, ap length unread), cuts.1)
stands_now old new (Bad fault) other limit cuts =
    let unread : new.unread ≡ old.unread = ap (λ (c : Cutting). c.unread) cuts.1 in
    let bad : rest_fault message_limit new.unread ≡ Some fault = ap (rest_fault message_limit) unread ∙ ap (λ (n : ℕ). rest_fault n old.unread) (sym limit) ∙ cuts.0 in
    inr (is_some_of (rest_fault message_limit new.unread) fault bad, ap (λ (c : Cutting). c.room) cuts.1)

-- what is given is a whole message within the limit of clients
pub whole_now : (old new : Cutting) → Cuts old Message new → old.limit ≡ message_limit → IsWholeMessage new.limit new.message → IsWholeMessage message_limit new.message
whole_now old new cuts limit whole = subst (λ (n : ℕ). IsWholeMessage n new.message) (cuts_limit old new Message cuts ∙ limit) whole

-- a whole message that asks is a request
pub is_request_too : (requests : List (List ℕ)) (message : List ℕ) → IsWholeMessage message_limit message → asks message ≡ true → All IsRequest requests → All IsRequest (requests ++ message ∷ [])
is_request_too requests message whole asks_so each = All-push IsRequest requests message each (record { whole = whole; request = asks_so })
