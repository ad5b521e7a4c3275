-- How many replies a client was put: as many as it has requests in the journal.
use Rattle.std.proofs.Common.{◌≡◌, ℕ, ◌+◌, ◌-◌, Bool, true, false, cond, eqb, List, [], ◌∷◌, ◌++◌, map, Some, None, refl, sym, ap, subst, ◌∙◌, arith}
use Rattle.std.specs.Prelude.{count_by, slice_get}
use Rattle.std.proofs.lemmas.Bool.Decides.{nat_tests, eqb_tells}
use Rattle.std.proofs.lemmas.List.Sums.{sum_by-cons}
use Rattle.dl_events.specs.declared.event.Event.{Event}
use Rattle.dl_events.specs.declared.event.Event.TheVariants as event
use Rattle.dl_model.specs.Along.{along_from}
use Rattle.dl_model.specs.Frames.{FrameSource, frames_of}
use Rattle.dl_model.specs.Journal.{is_request_of}
use Rattle.dl_model.specs.Traffic.{Admitted, Reply}
use Rattle.dl_model.specs.ClientStream.{traffic, traffic_of}
use Rattle.dl_model.proofs.Lists.{count_by-append}
use Rattle.dl_hub.specs.State.{Hub, Client, client_of}
use Rattle.dl_hub.specs.Follows.{is_reply_to}
use Rattle.dl_core.specs.State.{Core}
use Rattle.dl_core.specs.Follows.{Run, IsAfter, source_of}

none_admitted : (client : ℕ) (frames : List (List ℕ)) → count_by (is_reply_to client) (map Admitted frames) ≡ 0
none_admitted client [] = refl
none_admitted client (frame ∷ frames) = sum_by-cons (λ t. cond (is_reply_to client t) 1 0) (Admitted frame) (map Admitted frames) ∙ ap (λ (n : ℕ). 0 + n) (none_admitted client frames)

answers_one : (source : FrameSource) (client : ℕ) (before : List Event) (e : Event) → count_by (is_reply_to client) (traffic_of source before e) ≡ cond (is_request_of client e) 1 0
answers_one source client before (event.Log app writer call moment) = none_admitted client (frames_of source (event.Log app writer call moment))
answers_one source client before (event.Lost app count moment) = none_admitted client (frames_of source (event.Lost app count moment))
answers_one source client before (event.User channel msg moment) = none_admitted client (frames_of source (event.User channel msg moment))
answers_one source client before (event.Claim claim moment) = none_admitted client (frames_of source (event.Claim claim moment))
answers_one source client before (event.Level slot level) = none_admitted client (frames_of source (event.Level slot level))
answers_one source client before (event.Connect other) = refl
answers_one source client before (event.Request other frame done) =
    sum_by-cons (λ t. cond (is_reply_to client t) 1 0) (Reply other (source.reply before frame done)) [] ∙ omega arith
answers_one source client before (event.Close other why) = refl

answers_from : (source : FrameSource) (client : ℕ) (before events : List Event) → count_by (is_reply_to client) (along_from (traffic_of source) before events) ≡ count_by (is_request_of client) events
answers_from source client before [] = refl
answers_from source client before (e ∷ events) =
    count_by-append (is_reply_to client) (traffic_of source before e) (along_from (traffic_of source) (before ++ e ∷ []) events)
    ∙ omega (arith, answers_one source client before e, answers_from source client (before ++ e ∷ []) events, sum_by-cons (λ x. cond (is_request_of client x) 1 0) e events)

client_at : (hub : Hub) (number : ℕ) (client : Client) → client_of hub number ≡ Some client → (place : ℕ) × (place + 1 ≡ number) × (slice_get hub.clients place ≡ Some client)
client_at hub number client is = by_test (eqb number 0) refl is where
  by_test : (b : Bool) → eqb number 0 ≡ b → cond b None (slice_get hub.clients (number - 1)) ≡ Some client
      → (place : ℕ) × (place + 1 ≡ number) × (slice_get hub.clients place ≡ Some client)
  by_test true e is = absurd (cc is)
  by_test false e is =
      let some : number - 1 + 1 ≡ number = grind (arith, nat_tests, eqb_tells, e) in
      (number - 1, some, is)

pub replies_are : (run : Run) (events : List Event) (taken : ℕ → List ℕ) (core : Core) (number : ℕ) (client : Client) → IsAfter run events taken core → client_of core.hub number ≡ Some client
    → client.replies ≡ count_by (is_request_of number) events
replies_are run events taken core number client is there =
    let at = client_at core.hub number client there in
    let here : count_by (is_reply_to number) (traffic (source_of run) events) ≡ client.replies =
    subst (λ (n : ℕ). count_by (is_reply_to n) (traffic (source_of run) events) ≡ client.replies) at.1 (is.hub.streams at.0 client at.2).replies in
    sym here ∙ answers_from (source_of run) number [] events
