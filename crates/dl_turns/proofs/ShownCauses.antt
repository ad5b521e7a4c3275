-- What a link did shows why its client went.
use Rattle.std.proofs.Common.{◌≡◌, ℕ, ◌<◌, Bool, true, false, cond, List, [], ◌∷◌, ◌++◌, length, Option, Some, None, inl, inr, refl, sym, ap, subst, ◌∙◌, length-append, arith}
use Rattle.std.specs.Prelude.{IfSome, IsSome}
use Rattle.dl_events.specs.declared.event.Why.{Why}
use Rattle.dl_events.specs.declared.event.Why.TheVariants.{Left, Broken, Slow, Malformed, TooMany, NoMemory, Stuck, Stopped}
use Rattle.dl_model.specs.ClientEnds.{LinkDid, WasTried}
use Rattle.dl_outside.specs.Outside.{Grows, HasRisen}
use Rattle.dl_outside.specs.Told.{LinkTold}
use Rattle.dl_outside.specs.declared.link.Gave.{Gave}
use Rattle.dl_outside.specs.declared.link.Gave.TheVariants as gave
use Rattle.dl_core.specs.State.{Core}
use Rattle.dl_turns.specs.Gone.{IsShown, ShowsCause, Tells}
use Rattle.dl_turns.specs.State.{Side, Stage}
use Rattle.dl_turns.specs.Stopping.{HasStopCause, HasTried, IsClosedIn, IsStop, HasClosingTurns}
use Rattle.dl_turns.specs.Turns.{Hears, Heeds, IsPump, IsTurn, Listens, Refuses, SendsRightly, ServesEach}
use Rattle.dl_turns.proofs.StopCauses.{stop_cause_of}

-- ---- in a turn

module _ (did : LinkDid) where
  refused_shown : (client : ℕ) (frame : List ℕ) (core : Core) (why : Why) → Refuses client frame why core → IsShown did why
  refused_shown client frame core TooMany refused = tt
  refused_shown client frame core NoMemory refused = tt
  refused_shown client frame core (Slow room need) refused = tt
  refused_shown client frame core _ refused = absurd refused

  bad_shown : (why : Why) (bad : Bool) → Some why ≡ cond bad (Some Malformed) None → IsShown did why
  bad_shown why true is = subst (λ (o : Option Why). IfSome o (IsShown did)) (sym is) tt
  bad_shown why false is = absurd (cc is)

  each_shown : (client : ℕ) (frames : List (List ℕ)) (bad : Bool) (why : Why) (old new : Side) → ServesEach client frames bad (Some why) old new → IsShown did why
  each_shown client [] bad why old new all = bad_shown why bad all.0
  each_shown client (frame ∷ frames) bad why old new (inl refused) = refused_shown client frame old.core why refused.0
  each_shown client (frame ∷ frames) bad why old new (inr served) = each_shown client frames bad why served.0 new served.2

  risen_shown : (faults faults_now : ℕ) → HasRisen faults faults_now → faults_now ≡ did.faults → 0 < did.faults
  risen_shown faults faults_now risen is = omega (arith, risen.0, risen.1, is)

  heeds_shown : (client : ℕ) (link link_now : LinkTold) (unread : List ℕ) (answer : Gave) (into : List ℕ) (why : Why) (old new : Side) → Hears link link_now answer into
      → Heeds client unread answer into (Some why) old new → link_now.faults ≡ did.faults → (why ≡ Left → did.is_over ≡ true) → IsShown did why
  heeds_shown client link link_now unread (gave.Bytes count) into why old new hears heeds faults over = each_shown client _ _ why old new heeds
  heeds_shown client link link_now unread gave.NotYet into why old new hears heeds faults over = absurd (cc heeds.0)
  heeds_shown client link link_now unread gave.End into why old new hears heeds faults over =
      let is : why ≡ Left = cc heeds.0 in subst (λ (w : Why). IsShown did w) (sym is) (over is)
  heeds_shown client link link_now unread gave.Failed into why old new hears heeds faults over =
      let is : why ≡ Broken = cc heeds.0 in subst (λ (w : Why). IsShown did w) (sym is) (risen_shown link.faults link_now.faults hears.cause.0 faults)

  by_turn : (client : ℕ) (why : Why) (old new : Stage) → IsTurn client (Some why) old new → new.link.faults ≡ did.faults → (why ≡ Left → did.is_over ≡ true) → IsShown did why
  by_turn client why old new turn faults over =
      let listens = turn.listens in
      heeds_shown client old.link new.link old.cutter.unread listens.answer listens.into why old.side turn.between listens.hears listens.heeds faults over

  -- ---- in a pump

  sends_shown : (client : ℕ) (why : Why) (core : Core) (link link_now : LinkTold) → SendsRightly client (Some why) core link link_now → link_now.faults ≡ did.faults → IsShown did why
  sends_shown client Broken core link link_now sends faults = risen_shown link.faults link_now.faults sends.0 faults
  sends_shown client _ core link link_now sends faults = absurd sends

  by_pump : (client : ℕ) (why : Why) (link link_now : LinkTold) (old new : Side) → IsPump client (Some why) link link_now old new → link_now.faults ≡ did.faults → IsShown did why
  by_pump client why link link_now old new pump faults = sends_shown client why pump.between.core link link_now pump.sends faults

  -- ---- at the stop

  tried_shown : (link link_now : LinkTold) → HasTried 1000 link link_now → Tells link link_now did → WasTried did
  tried_shown link link_now tried tells = by link.given refl tells.before where
    by : (o : Option (List ℕ)) → link.given ≡ o → IsSome o → WasTried did
    by None told there = absurd cc
    by (Some bytes) told there =
        let grown : link_now.given ≡ Some (bytes ++ tried.bytes) = subst (λ (o : Option (List ℕ)). Grows o link_now.given tried.bytes) told tried.gave in
        let given : did.given ≡ bytes ++ tried.bytes = cc (sym tells.given ∙ grown) in
        omega (arith, tried.waited, tried.enough, tells.waits, ap length given, length-append bytes tried.bytes)

  stop_shown : (why : Why) (link link_now : LinkTold) → IsStop why → HasStopCause why link link_now → Tells link link_now did → IsShown did why
  stop_shown Stopped link link_now stop (inl idle) tells = inl (omega (arith, idle.0, idle.1, tells.idles))
  stop_shown Stopped link link_now stop (inr tried) tells = inr (tried_shown link link_now tried tells)
  stop_shown (Stuck left) link link_now stop cause tells = (omega (arith, cause.0.0, cause.0.1, tells.waits), tried_shown link link_now cause.1 tells)
  stop_shown _ link link_now stop cause tells = absurd stop

  closed_shown : (client : ℕ) (why : Why) (old new : Stage) → IsClosedIn client why old new → new.link.faults ≡ did.faults → (why ≡ Left → did.is_over ≡ true) → IsShown did why
  closed_shown client why old new (inl turn) faults over = by_turn client why old new turn faults over
  closed_shown client why old new (inr pumped) faults over = by_pump client why pumped.0.link new.link pumped.0.side new.side pumped.2 faults

  by_stop : (client : ℕ) (why : Why) (old new : Stage) → HasClosingTurns client why old new → Tells old.link new.link did → (why ≡ Left → did.is_over ≡ true) → IsShown did why
  by_stop client why old new wound tells over = elim wound.ends [
    | inl closed ↦ closed_shown client why wound.last new closed.1 tells.faults over
    | inr stopped ↦ stop_shown why old.link new.link stopped.2 (stop_cause_of client why old new wound) tells
  ]

-- ---- for each link that tells

pub turn_shows : (client : ℕ) (why : Why) (old new : Stage) (did : LinkDid) → IsTurn client (Some why) old new → Tells old.link new.link did → (why ≡ Left → did.is_over ≡ true) → IsShown did why
turn_shows client why old new did turn tells over = by_turn did client why old new turn tells.faults over

pub pump_shows : (client : ℕ) (why : Why) (old new : Stage) (did : LinkDid) → IsPump client (Some why) old.link new.link old.side new.side → Tells old.link new.link did → IsShown did why
pump_shows client why old new did pump tells = by_pump did client why old.link new.link old.side new.side pump tells.faults

pub stop_shows : (client : ℕ) (why : Why) (old new : Stage) (did : LinkDid) → HasClosingTurns client why old new → Tells old.link new.link did → (why ≡ Left → did.is_over ≡ true) → IsShown did why
stop_shows client why old new did wound tells over = by_stop did client why old new wound tells over

-- a client left only where its link was over, if it tells that
bad_not_left : (bad : Bool) → Some Left ≡ cond bad (Some Malformed) None → ⊥
bad_not_left true is = absurd (cc is)
bad_not_left false is = absurd (cc is)

not_left : (client : ℕ) (frames : List (List ℕ)) (bad : Bool) (old new : Side) → ServesEach client frames bad (Some Left) old new → ⊥
not_left client [] bad old new all = bad_not_left bad all.0
not_left client (frame ∷ frames) bad old new (inl refused) = refused.0
not_left client (frame ∷ frames) bad old new (inr served) = not_left client frames bad served.0 new served.2

left_by : (client : ℕ) (link link_now : LinkTold) (unread : List ℕ) (answer : Gave) (into : List ℕ) (old new : Side) → Hears link link_now answer into
    → Heeds client unread answer into (Some Left) old new → (o : Option Bool) → link.over ≡ o → IsSome o → link_now.over ≡ Some true
left_by client link link_now unread answer into old new hears heeds None told there = absurd cc
left_by client link link_now unread (gave.Bytes count) into old new hears heeds (Some b) told there = absurd (not_left client _ _ old new heeds)
left_by client link link_now unread gave.NotYet into old new hears heeds (Some b) told there = absurd (cc heeds.0)
left_by client link link_now unread gave.Failed into old new hears heeds (Some b) told there = absurd (cc heeds.0)
left_by client link link_now unread gave.End into old new hears heeds (Some b) told there =
    let over : b ≡ true = subst (λ (o : Option Bool). IfSome o (λ is_over. is_over ≡ true)) told hears.end.0 in
    hears.over (told ∙ ap Some over)

pub left_listens : (client : ℕ) (why : Why) (old new : Stage) → Listens client (Some why) old new → why ≡ Left → IsSome old.link.over → new.link.over ≡ Some true
left_listens client why old new listens is there =
    left_by client old.link new.link old.cutter.unread listens.answer listens.into old.side new.side listens.hears
    (subst (λ (w : Why). Heeds client old.cutter.unread listens.answer listens.into (Some w) old.side new.side) is listens.heeds) old.link.over refl there

pub left_over : (client : ℕ) (old new : Stage) → IsTurn client (Some Left) old new → IsSome old.link.over → new.link.over ≡ Some true
left_over client old new turn there = left_listens client Left old (record new { side = turn.between }) turn.listens refl there

-- a pump and a stop close no client that left
pub not_pumped : {A : Type 0} (client : ℕ) (why : Why) (link link_now : LinkTold) (old new : Side) → IsPump client (Some why) link link_now old new → why ≡ Left → A
not_pumped client why link link_now old new pump is =
    absurd (subst (λ (w : Why). SendsRightly client (Some w) pump.between.core link link_now) is pump.sends)

pub not_stopped : {A : Type 0} (why : Why) → IsStop why → why ≡ Left → A
not_stopped why stop is = absurd (subst IsStop is stop)

-- ---- for each link, whatever it tells

-- what a link did, as far as its counts tell
abbrev counted : LinkTold → LinkDid
counted link = record { given = []; taken = []; is_over = true; faults = link.faults; idles = link.idles; waits = link.waits }

by_counts : (link : LinkTold) (why : Why) → IsShown (counted link) why → ShowsCause link why
by_counts link Broken shown = shown
by_counts link (Stuck left) shown = shown.0
by_counts link _ shown = tt

by_cause : (link link_now : LinkTold) (why : Why) → IsStop why → HasStopCause why link link_now → ShowsCause link_now why
by_cause link link_now Stopped stop cause = tt
by_cause link link_now (Stuck left) stop cause = omega (arith, cause.0.0, cause.0.1)
by_cause link link_now _ stop cause = absurd stop

pub turn_counts : (client : ℕ) (why : Why) (old new : Stage) → IsTurn client (Some why) old new → ShowsCause new.link why
turn_counts client why old new turn = by_counts new.link why (by_turn (counted new.link) client why old new turn refl (λ left. refl))

pub pump_counts : (client : ℕ) (why : Why) (old new : Stage) → IsPump client (Some why) old.link new.link old.side new.side → ShowsCause new.link why
pump_counts client why old new pump = by_counts new.link why (by_pump (counted new.link) client why old.link new.link old.side new.side pump refl)

pub stop_counts : (client : ℕ) (why : Why) (old new : Stage) → HasClosingTurns client why old new → ShowsCause new.link why
stop_counts client why old new wound = elim wound.ends [
  | inl closed ↦ by_counts new.link why (closed_shown (counted new.link) client why wound.last new closed.1 refl (λ left. refl))
  | inr stopped ↦ by_cause old.link new.link why stopped.2 (stop_cause_of client why old new wound)
]
