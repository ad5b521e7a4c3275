-- The rooms that Closes of slow clients tell.
use Rattle.std.proofs.Common.{◌≡◌, ℕ, ◌+◌, List, [], ◌∷◌, ◌++◌, length, append_assoc, append-nil, Option, Some, None, refl, sym, ap, subst, ◌∙◌, arith}
use Rattle.std.specs.Prelude.{IfSome, IsSomeAnd}
use Rattle.std.specs.List.{concat}
use Rattle.dl_events.specs.declared.event.Event.{Event}
use Rattle.dl_events.specs.declared.event.Event.TheVariants as event
use Rattle.dl_events.specs.declared.event.Why.TheVariants as why
use Rattle.dl_model.specs.Backlog.{outbox_limit}
use Rattle.dl_model.specs.ClientStream.{sent, traffic}
use Rattle.dl_hub.specs.State.{Waiting, client_of, outbox_of}
use Rattle.dl_core.specs.State.{Core}
use Rattle.dl_core.specs.Closing.{MayEnd}
use Rattle.dl_core.specs.Follows.{IsAfter, Run, source_of}
use Rattle.dl_core.proofs.OpenClients.{its_stream}
use Rattle.dl_admission.specs.Slow.{TellRooms, TellsRoom}
use Rattle.dl_core.proofs.InTurn.{by_client}

-- a client that may be closed as slow
pub room_told : (run : Run) (past : List Event) (taken : ℕ → List ℕ) (core : Core) (client room need : ℕ) → IsAfter run past taken core → MayEnd core.hub client (why.Slow room need)
    → IsSomeAnd (outbox_of core.hub client) (λ outbox. outbox.capacity ≡ outbox_limit core.hub.buffer) → TellsRoom run taken past (event.Close client (why.Slow room need))
room_told run past taken core client room need is may limit = by (outbox_of core.hub client) refl may.0 limit where
  by : (o : Option Waiting) → outbox_of core.hub client ≡ o → IsSomeAnd o (λ outbox. length outbox.bytes + room ≡ outbox.capacity)
      → IsSomeAnd o (λ outbox. outbox.capacity ≡ outbox_limit core.hub.buffer) → TellsRoom run taken past (event.Close client (why.Slow room need))
  by None there fills limit = absurd fills
  by (Some outbox) there fills limit =
      let found = by_client (client_of core.hub client) outbox there in
      let its = its_stream run past taken core is client found.0 found.1 in
      let left : concat (sent core.hub.ecu core.hub.buffer client (traffic (source_of run) past)) ≡ taken client ++ outbox.bytes =
      subst (λ (o : Option Waiting). IfSome o (λ w. concat (sent core.hub.ecu core.hub.buffer client (traffic (source_of run) past)) ≡ taken client ++ w.bytes)) found.2 its.left in
      let whole : room + length outbox.bytes ≡ outbox_limit core.hub.buffer = omega (arith, fills, limit) in (
        outbox.bytes,
        subst (λ (buffer : ℕ). concat (sent run.setting.ecu buffer client (traffic (source_of run) past)) ≡ taken client ++ outbox.bytes) is.set_to.buffer
            (subst (λ (ecu : List ℕ). concat (sent ecu core.hub.buffer client (traffic (source_of run) past)) ≡ taken client ++ outbox.bytes) is.set_to.unit left),
        whole ∙ ap outbox_limit is.set_to.buffer,
      )

-- of two lists
pub rooms_both : (run : Run) (taken : ℕ → List ℕ) (before xs ys : List Event) → TellRooms run taken before xs → TellRooms run taken (before ++ xs) ys → TellRooms run taken before (xs ++ ys)
rooms_both run taken before [] ys first second = subst (λ (b : List Event). TellRooms run taken b ys) (append-nil before) second
rooms_both run taken before (x ∷ xs) ys first second = (
  first.0,
  rooms_both run taken (before ++ x ∷ []) xs ys first.1 (subst (λ (b : List Event). TellRooms run taken b ys) (sym (append_assoc before (x ∷ []) xs)) second),
)
