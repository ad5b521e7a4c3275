-- Of a client that asked too much as many requests were served as one may have.
use Rattle.std.proofs.Common.{◌≡◌, ℕ, Bool, true, false, cond, List, [], ◌∷◌, Option, Some, None, inl, inr, sym, subst}
use Rattle.std.specs.Prelude.{IsSomeAnd, option_map}
use Rattle.dl_bytes.specs.Limits.{request_limit}
use Rattle.dl_events.specs.declared.event.Why.{Why}
use Rattle.dl_events.specs.declared.event.Why.TheVariants.{Malformed, TooMany}
use Rattle.dl_outside.specs.Told.{LinkTold}
use Rattle.dl_outside.specs.declared.link.Gave.{Gave}
use Rattle.dl_outside.specs.declared.link.Gave.TheVariants as gave
use Rattle.dl_hub.specs.State.{Client as HubClient, client_of, shut}
use Rattle.dl_core.specs.State.{Core}
use Rattle.dl_turns.specs.Events.{Closes}
use Rattle.dl_turns.specs.State.{Side, Stage}
use Rattle.dl_turns.specs.Stopping.{HasClosingTurns}
use Rattle.dl_turns.specs.Turns.{Heeds, IsPump, IsTurn, ServesEach}
use Rattle.dl_turns.proofs.ClientChanges.{client_changed}
use Rattle.dl_rounds.specs.Shown.{WasServedAll}

bad_not_many : {A : Type 0} (bad : Bool) → Some TooMany ≡ cond bad (Some Malformed) None → A
bad_not_many true is = absurd (cc is)
bad_not_many false is = absurd (cc is)

each_served : (client : ℕ) (frames : List (List ℕ)) (bad : Bool) (old new : Side) → ServesEach client frames bad (Some TooMany) old new → WasServedAll client TooMany new.core.hub
each_served client [] bad old new all = bad_not_many bad all.0
each_served client (frame ∷ frames) bad old new (inl refused) = subst (λ (s : Side). WasServedAll client TooMany s.core.hub) (sym refused.1) refused.0
each_served client (frame ∷ frames) bad old new (inr served) = each_served client frames bad served.0 new served.2

heeds_served : (client : ℕ) (unread : List ℕ) (answer : Gave) (into : List ℕ) (old new : Side) → Heeds client unread answer into (Some TooMany) old new → WasServedAll client TooMany new.core.hub
heeds_served client unread (gave.Bytes count) into old new heeds = each_served client _ _ old new heeds
heeds_served client unread gave.NotYet into old new heeds = absurd (cc heeds.0)
heeds_served client unread gave.End into old new heeds = absurd (cc heeds.0)
heeds_served client unread gave.Failed into old new heeds = absurd (cc heeds.0)

-- its Close changes nothing of that
closes_served : (client : ℕ) (why : Why) (old new : Side) → Closes client why old new → WasServedAll client TooMany old.core.hub → WasServedAll client TooMany new.core.hub
closes_served client why old new closes served =
    subst (λ (core : Core). WasServedAll client TooMany core.hub) (sym closes.core)
    (subst (λ (o : Option HubClient). IsSomeAnd o (λ c. c.replies ≡ request_limit)) (sym (client_changed old.core.hub client shut)) (by (client_of old.core.hub client) served))
  where
    by : (o : Option HubClient) → IsSomeAnd o (λ c. c.replies ≡ request_limit) → IsSomeAnd (option_map shut o) (λ c. c.replies ≡ request_limit)
    by None has = absurd has
    by (Some c) has = has

pub turn_served : (client : ℕ) (why : Why) (old new : Stage) → IsTurn client (Some why) old new → WasServedAll client why new.side.core.hub
turn_served client TooMany old new turn =
    closes_served client TooMany turn.between new.side turn.closes (heeds_served client old.cutter.unread turn.listens.answer turn.listens.into old.side turn.between turn.listens.heeds)
turn_served client _ old new turn = tt

pub pump_served : (client : ℕ) (why : Why) (link link_now : LinkTold) (old new : Side) → IsPump client (Some why) link link_now old new → WasServedAll client why new.core.hub
pump_served client TooMany link link_now old new pump = absurd pump.sends
pump_served client _ link link_now old new pump = tt

pub stop_served : (client : ℕ) (why : Why) (old new : Stage) → HasClosingTurns client why old new → WasServedAll client why new.side.core.hub
stop_served client TooMany old new wound = elim wound.ends [
  | inl closed ↦ elim closed.1 [
    | inl turn ↦ turn_served client TooMany wound.last new turn
    | inr sent ↦ absurd sent.2.sends
  ]
  | inr stopped ↦ absurd stopped.2
]
stop_served client _ old new wound = tt
