-- A client that is closed at the end of its turn.
use Rattle.std.proofs.Common.{◌≡◌, ℕ, ◌≤◌, Bool, true, false, cond, List, [], ◌∷◌, Option, Some, None, inl, inr, refl, sym, ap, subst, ◌∙◌}
use Rattle.std.specs.Prelude.{option_map, IsSomeAnd}
use Rattle.dl_bytes.specs.Limits.{request_limit}
use Rattle.dl_events.specs.Journal as notes
use Rattle.dl_events.specs.declared.event.Event.{Event}
use Rattle.dl_events.specs.declared.event.Event.TheVariants as event
use Rattle.dl_events.specs.declared.event.Why.{Why}
use Rattle.dl_events.specs.declared.event.Why.TheVariants.{Left, Broken, Slow, Malformed, TooMany, NoMemory, Stuck, Stopped}
use Rattle.dl_message.specs.Cutting.{Cutting}
use Rattle.dl_outside.specs.Told.{FolderTold, LinkTold}
use Rattle.dl_desk.specs.Told.{ControlTold}
use Rattle.dl_outside.specs.declared.link.Gave.{Gave}
use Rattle.dl_outside.specs.declared.link.Gave.TheVariants as gave
use Rattle.dl_model.specs.Backlog.{outbox_limit}
use Rattle.dl_registry.specs.Kept.{owed_change}
use Rattle.dl_hub.specs.State.{Client, Hub, changed, client_of, outbox_of, shut, without}
use Rattle.dl_core.specs.Closing.{MayEnd}
use Rattle.dl_core.specs.Follows.{AddsAlone}
use Rattle.dl_core.specs.State.{Core}
use Rattle.dl_core.proofs.Noted.{added_one}
use Rattle.dl_turns.specs.Events.{Closes, HasServed}
use Rattle.dl_turns.specs.State.{Side, Stage, side}
use Rattle.dl_turns.specs.Turns.{Heeds, IsTurn, Refuses, ServesEach}
use Rattle.dl_turns.proofs.ClientChanges.{client_changed}

-- ---- the cause that is told is one that a client may be closed for

may_refused : (client : ℕ) (frame : List ℕ) (why : Why) (core : Core) → Refuses client frame why core → MayEnd core.hub client why
may_refused client frame TooMany core refused = tt
may_refused client frame NoMemory core refused = tt
may_refused client frame (Slow room need) core refused = (refused.2, refused.1)
may_refused client frame Left core refused = absurd refused
may_refused client frame Broken core refused = absurd refused
may_refused client frame Malformed core refused = absurd refused
may_refused client frame (Stuck left) core refused = absurd refused
may_refused client frame Stopped core refused = absurd refused

may_plain : (hub : Hub) (client : ℕ) (why : Why) (cause : Option Why) → Some why ≡ cause → IsSomeAnd cause (λ c. MayEnd hub client c) → MayEnd hub client why
may_plain hub client why cause is may = subst (λ (o : Option Why). IsSomeAnd o (λ c. MayEnd hub client c)) (sym is) may

may_bad : (hub : Hub) (client : ℕ) (why : Why) (bad : Bool) → Some why ≡ cond bad (Some Malformed) None → MayEnd hub client why
may_bad hub client why true is = may_plain hub client why (Some Malformed) is tt
may_bad hub client why false is = absurd cc

may_each : (client : ℕ) (frames : List (List ℕ)) (bad : Bool) (why : Why) (old new : Side) → ServesEach client frames bad (Some why) old new → MayEnd new.core.hub client why
may_each client [] bad why old new all = may_bad new.core.hub client why bad all.0
may_each client (frame ∷ frames) bad why old new all = elim all [
  | inl refused ↦ subst (λ (s : Side). MayEnd s.core.hub client why) (sym refused.1) (may_refused client frame why old.core refused.0)
  | inr served ↦ may_each client frames bad why served.0 new served.2
]

pub may_end : (client : ℕ) (unread : List ℕ) (answer : Gave) (into : List ℕ) (why : Why) (old new : Side) → Heeds client unread answer into (Some why) old new → MayEnd new.core.hub client why
may_end client unread (gave.Bytes count) into why old new heeds = may_each client _ _ why old new heeds
may_end client unread gave.NotYet into why old new heeds = absurd (cc heeds.0)
may_end client unread gave.End into why old new heeds = may_plain new.core.hub client why (Some Left) heeds.0 tt
may_end client unread gave.Failed into why old new heeds = may_plain new.core.hub client why (Some Broken) heeds.0 tt

-- ---- the Close

pub closes : (client : ℕ) (why : Why) (old new : Core) (desk : ControlTold) (events events_now : Option (List Event)) (folder : FolderTold)
    → MayEnd old.hub client why → IsSomeAnd (outbox_of old.hub client) (λ outbox. outbox.capacity ≡ outbox_limit old.hub.buffer) → owed_change old.registry ≡ None
    → new ≡ record old { hub = changed client shut old.hub } → AddsAlone (event.Close client why ∷ []) old new
    → notes.Adds events events_now (event.Close client why)
    → Closes client why (side old desk events folder) (side new desk events_now folder)
closes client why old new desk events events_now folder may limit settled value after noted = record {
  may = may;
  limit = limit;
  settled = settled;
  core = value;
  after = after;
  events = added_one events events_now (event.Close client why) (event.Close client why) refl noted;
  desk = refl;
  folder = refl;
}

-- as many requests were served as before
pub served_shut : (client served : ℕ) (old new : Core) → new ≡ record old { hub = changed client shut old.hub } → HasServed client served old → HasServed client served new
served_shut client served old new is has =
    subst (λ (o : Option Client). IsSomeAnd o (λ c. (c.replies ≡ served) × (served ≤ request_limit)))
    (sym (ap (λ (core : Core). client_of core.hub client) is ∙ client_changed old.hub client shut)) (by (client_of old.hub client) has) where
      by : (o : Option Client) → IsSomeAnd o (λ c. (c.replies ≡ served) × (served ≤ request_limit)) → IsSomeAnd (option_map shut o) (λ c. (c.replies ≡ served) × (served ≤ request_limit))
      by None has = absurd has
      by (Some c) has = has

pub served_pumped : (client served count : ℕ) (old new : Hub) → new ≡ changed client (without count) old → IsSomeAnd (client_of old client) (λ c. (c.replies ≡ served) × (served ≤ request_limit))
    → IsSomeAnd (client_of new client) (λ c. (c.replies ≡ served) × (served ≤ request_limit))
served_pumped client served count old new is has =
    subst (λ (o : Option Client). IsSomeAnd o (λ c. (c.replies ≡ served) × (served ≤ request_limit)))
    (sym (ap (λ (h : Hub). client_of h client) is ∙ client_changed old client (without count))) (by (client_of old client) has) where
      by : (o : Option Client) → IsSomeAnd o (λ c. (c.replies ≡ served) × (served ≤ request_limit)) → IsSomeAnd (option_map (without count) o) (λ c. (c.replies ≡ served) × (served ≤ request_limit))
      by None has = absurd has
      by (Some c) has = has

-- ---- the same by other names

pub turn_by : (client : ℕ) (why : Option Why) (old : Stage) (link : LinkTold) (cutter cutter_now : Cutting) (now : Side) → cutter_now ≡ cutter
    → IsTurn client why old (record { link = link; cutter = cutter; side = now }) → IsTurn client why old (record { link = link; cutter = cutter_now; side = now })
turn_by client why old link cutter cutter_now now same turn = subst (λ (c : Cutting). IsTurn client why old (record { link = link; cutter = c; side = now })) (sym same) turn
