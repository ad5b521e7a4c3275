-- Why a client is stopped, or is stuck.
use Rattle.std.proofs.Common.{◌≡◌, ℕ, zero, suc, ◌+◌, ◌<◌, ◌≤◌, Bool, true, false, cond, List, [], ◌∷◌, ◌++◌, length, Option, Some, None, inl, inr, ◌⊎◌, sym, ap, subst, ◌∙◌, length-append, arith}
use Rattle.std.specs.Prelude.{IsSomeAnd}
use Rattle.dl_outside.proofs.Staying.{grows_both}
use Rattle.dl_events.specs.declared.event.Why.{Why}
use Rattle.dl_events.specs.declared.event.Why.TheVariants.{Left, Broken, Malformed, Stuck, Stopped}
use Rattle.dl_outside.specs.Link.{HasReceiveCause}
use Rattle.dl_outside.specs.Outside.{HasRisen}
use Rattle.dl_outside.specs.Told.{LinkTold}
use Rattle.dl_outside.specs.declared.link.Gave.{Gave}
use Rattle.dl_outside.specs.declared.link.Gave.TheVariants as gave
use Rattle.dl_hub.specs.State.{Waiting, outbox_of}
use Rattle.dl_core.specs.State.{Core}
use Rattle.dl_turns.specs.State.{Side, Stage}
use Rattle.dl_turns.specs.Stopping.{GoesOn, HasStopCause, HasTried, IsClosedIn, IsEmpty, IsStop, HasClosingTurns, TurnsOn}
use Rattle.dl_turns.specs.Turns.{HasSent, Heeds, Refuses, SendsRightly, ServesEach, heard}
use Rattle.dl_turns.proofs.GrownBytes.{gives_heard, stays_grow, stays_same}

-- ---- what a link tells grows

idles_stay : (old new : LinkTold) (answer : Gave) → HasReceiveCause old new answer → old.idles ≤ new.idles
idles_stay old new (gave.Bytes n) cause = omega (arith, cause.1)
idles_stay old new gave.NotYet cause = cause.1.0
idles_stay old new gave.End cause = omega (arith, cause.1)
idles_stay old new gave.Failed cause = omega (arith, cause.1)

-- ---- turns that are not quiet

waits_grow : (client : ℕ) (core : Core) (old new : LinkTold) → HasSent client core old new → old.waits ≤ new.waits
waits_grow client core old new sent = elim sent [
  | inl none ↦ omega (arith, none.1)
  | inr busy ↦ busy.1.0
]

tried_one : (client : ℕ) (old new : Stage) → GoesOn client false old new → HasTried 1 old.link new.link
tried_one client old new goes =
    let hears = goes.listens.hears in
    let ungiven = stays_grow goes.heard.link.given new.link.given goes.pumps.only_sent.given in
    let later = waits_grow client goes.pumps.between.core goes.heard.link new.link goes.pumps.sends.0 in
    elim goes.is_quiet [
      | inl some ↦ record {
        busy = 0;
        bytes = some.0 ++ [];
        waited = omega (arith, hears.waits, later);
        gave = grows_both old.link.given goes.heard.link.given new.link.given some.0 [] some.1 ungiven;
        enough = omega (arith, some.2, length-append some.0 []);
      }
      | inr risen ↦
          let given = heard goes.listens.answer goes.listens.into in
          let gives = gives_heard old.link.given goes.heard.link.given goes.listens.answer goes.listens.into hears.given in
          record {
            busy = 1;
            bytes = given ++ [];
            waited = omega (arith, hears.waits, risen.1);
            gave = grows_both old.link.given goes.heard.link.given new.link.given given [] gives ungiven;
            enough = omega arith;
          }
    ]

tried_both : (first second : ℕ) (a b c : LinkTold) → HasTried first a b → HasTried second b c → HasTried (first + second) a c
tried_both first second a b c one two = record {
  busy = one.busy + two.busy;
  bytes = one.bytes ++ two.bytes;
  waited = omega (arith, one.waited, two.waited);
  gave = grows_both a.given b.given c.given one.bytes two.bytes one.gave two.gave;
  enough = omega (arith, one.enough, two.enough, length-append one.bytes two.bytes);
}

tried_none : (link : LinkTold) → HasTried 0 link link
tried_none link = record { busy = 0; bytes = []; waited = omega arith; gave = stays_grow link.given link.given (stays_same link.given); enough = omega arith }

tried : (client count : ℕ) (old last : Stage) → TurnsOn client count old last → HasTried count old.link last.link
tried client zero old last turns = subst (λ (s : Stage). HasTried 0 old.link s.link) (sym turns) (tried_none old.link)
tried client (suc count) old last turns =
    let next : 1 + count ≡ suc count = omega arith in
    subst (λ (n : ℕ). HasTried n old.link last.link) next
    (tried_both 1 count old.link turns.0.link last.link (tried_one client old turns.0 turns.1) (tried client count turns.0 last turns.2))

idles_grow : (client count : ℕ) (old last : Stage) → TurnsOn client count old last → old.link.idles ≤ last.link.idles
idles_grow client zero old last turns = omega (arith, ap (λ (s : Stage). s.link.idles) turns)
idles_grow client (suc count) old last turns =
    let goes = turns.1 in
    let first = idles_stay old.link goes.heard.link goes.listens.answer goes.listens.hears.cause in
    omega (arith, first, goes.pumps.only_sent.idles, idles_grow client count turns.0 last turns.2)

-- ---- where something waits at the end, the last turn was busy

blocked_one : (client : ℕ) (old new : Stage) → GoesOn client false old new → (IsEmpty client new.side → ⊥) → HasRisen old.link.waits new.link.waits
blocked_one client old new goes some =
    let heard = goes.listens.hears.waits in
    elim goes.pumps.sends.0 [
      | inl none ↦ absurd (some (subst (λ (s : Side). IsEmpty client s) (sym goes.pumps.closes) none.0))
      | inr busy ↦ (omega (arith, heard, busy.1.0), omega (arith, heard, busy.1.1))
    ]

blocked : (client count : ℕ) (old last : Stage) → 0 < count → TurnsOn client count old last → (IsEmpty client last.side → ⊥) → HasRisen old.link.waits last.link.waits
blocked client zero old last many turns some = absurd (omega (arith, many))
blocked client (suc zero) old last many turns some =
    subst (λ (s : Stage). HasRisen old.link.waits s.link.waits) (sym turns.2)
    (blocked_one client old turns.0 turns.1 (λ none. some (subst (λ (s : Stage). IsEmpty client s.side) (sym turns.2) none)))
blocked client (suc (suc count)) old last many turns some =
    let goes = turns.1 in
    let heard = goes.listens.hears.waits in
    let first = waits_grow client goes.pumps.between.core goes.heard.link turns.0.link goes.pumps.sends.0 in
    let later = blocked client (suc count) turns.0 last (omega arith) turns.2 some in
    (omega (arith, heard, first, later.0), omega (arith, heard, first, later.1))

-- ---- no turn closes a client for a cause of the stop

never_refused : (client : ℕ) (frame : List ℕ) (why : Why) (core : Core) → IsStop why → Refuses client frame why core → ⊥
never_refused client frame Stopped core stop refused = refused
never_refused client frame (Stuck left) core stop refused = refused
never_refused client frame _ core stop refused = stop

never_cause : (why : Why) (cause : Option Why) → Some why ≡ cause → IsStop why → IsSomeAnd cause IsStop
never_cause why cause is stop = subst (λ (o : Option Why). IsSomeAnd o IsStop) is stop

never_bad : (why : Why) (bad : Bool) → Some why ≡ cond bad (Some Malformed) None → IsStop why → ⊥
never_bad why true is stop = never_cause why (Some Malformed) is stop
never_bad why false is stop = absurd cc

never_each : (client : ℕ) (frames : List (List ℕ)) (bad : Bool) (why : Why) (old new : Side) → IsStop why → ServesEach client frames bad (Some why) old new → ⊥
never_each client [] bad why old new stop all = never_bad why bad all.0 stop
never_each client (frame ∷ frames) bad why old new stop all = elim all [
  | inl refused ↦ never_refused client frame why old.core stop refused.0
  | inr served ↦ never_each client frames bad why served.0 new stop served.2
]

never_heeds : (client : ℕ) (unread : List ℕ) (answer : Gave) (into : List ℕ) (why : Why) (old new : Side) → IsStop why → Heeds client unread answer into (Some why) old new → ⊥
never_heeds client unread (gave.Bytes count) into why old new stop heeds = never_each client _ _ why old new stop heeds
never_heeds client unread gave.NotYet into why old new stop heeds = absurd (cc heeds.0)
never_heeds client unread gave.End into why old new stop heeds = never_cause why (Some Left) heeds.0 stop
never_heeds client unread gave.Failed into why old new stop heeds = never_cause why (Some Broken) heeds.0 stop

never_sends : (client : ℕ) (why : Why) (core : Core) (link link_now : LinkTold) → IsStop why → SendsRightly client (Some why) core link link_now → ⊥
never_sends client Stopped core link link_now stop sends = sends
never_sends client (Stuck left) core link link_now stop sends = sends
never_sends client _ core link link_now stop sends = stop

never_closed : (client : ℕ) (why : Why) (old new : Stage) → IsStop why → IsClosedIn client why old new → ⊥
never_closed client why old new stop closed = elim closed [
  | inl turn ↦ never_heeds client old.cutter.unread turn.listens.answer turn.listens.into why old.side turn.between stop turn.listens.heeds
  | inr pumped ↦ never_sends client why pumped.2.between.core pumped.0.link new.link stop pumped.2.sends
]

-- ---- the causes

filled : {A : Type 0} (o : Option Waiting) (left : ℕ) → IsSomeAnd o (λ b. length b.bytes ≡ left) → 0 < left → IsSomeAnd o (λ b. b.bytes ≡ []) → A
filled None left long some none = absurd none
filled (Some b) left long some none = absurd (omega (arith, long, some, ap length none))

module _ (client : ℕ) (old new : Stage) where
  is_stopped : HasClosingTurns client Stopped old new → HasRisen old.link.idles new.link.idles ⊎ HasTried 1000 old.link new.link
  is_stopped wound = elim wound.ends [
    | inl closed ↦ absurd (never_closed client Stopped wound.last new tt closed.1)
    | inr stopped ↦ elim stopped.1 [
      | inl quiet ↦
          let goes = quiet.1 in
          let first = idles_grow client wound.count old wound.last wound.turns in
          let risen = goes.is_quiet.0 in
          let last : new.link.idles ≡ goes.heard.link.idles = ap (λ (l : LinkTold). l.idles) stopped.4 ∙ goes.pumps.only_sent.idles in
          inl (omega (arith, first, risen.0, last), omega (arith, first, risen.1, last))
      | inr all ↦
          let link : new.link ≡ wound.last.link = stopped.4 ∙ ap (λ (s : Stage). s.link) all.1 in
          inr (subst (λ (l : LinkTold). HasTried 1000 old.link l) (sym link) (subst (λ (n : ℕ). HasTried n old.link wound.last.link) all.0 (tried client wound.count old wound.last wound.turns)))
    ]
  ]

  is_stuck : (left : ℕ) → HasClosingTurns client (Stuck left) old new → HasRisen old.link.waits new.link.waits × HasTried 1000 old.link new.link
  is_stuck left wound = elim wound.ends [
    | inl closed ↦ absurd (never_closed client (Stuck left) wound.last new tt closed.1)
    | inr stopped ↦
        let some : IsEmpty client stopped.0.side → ⊥ = filled (outbox_of stopped.0.side.core.hub client) left stopped.3.may.0 stopped.3.may.1 in
        elim stopped.1 [
          | inl quiet ↦ absurd (some quiet.1.is_quiet.1)
          | inr all ↦
              let link : new.link ≡ wound.last.link = stopped.4 ∙ ap (λ (s : Stage). s.link) all.1 in
              subst (λ (l : LinkTold). HasRisen old.link.waits l.waits × HasTried 1000 old.link l) (sym link) (
                blocked client wound.count old wound.last (omega (arith, all.0)) wound.turns (λ none. some (subst (λ (s : Stage). IsEmpty client s.side) (sym all.1) none)),
                subst (λ (n : ℕ). HasTried n old.link wound.last.link) all.0 (tried client wound.count old wound.last wound.turns),
              )
        ]
  ]

pub stop_cause_of : (client : ℕ) (why : Why) (old new : Stage) → HasClosingTurns client why old new → HasStopCause why old.link new.link
stop_cause_of client Stopped old new wound = is_stopped client old new wound
stop_cause_of client (Stuck left) old new wound = is_stuck client old new left wound
stop_cause_of client _ old new wound = tt
