-- Of the hub only one client changes, in a turn, in a pump and in a stop.
use Rattle.std.proofs.Common.{◌≡◌, ◌≢◌, ℕ, zero, suc, Bool, true, false, List, [], ◌∷◌, length, Option, Some, None, inl, inr, refl, sym, ap, subst, ◌∙◌}
use Rattle.std.specs.Prelude.{slice_set, ◌-◌}
use Rattle.std.specs.Option.{option_map_or}
use Rattle.dl_events.specs.declared.event.Why.{Why}
use Rattle.dl_model.specs.declared.registry.LevelChange.{LevelChange}
use Rattle.dl_outside.specs.Told.{LinkTold}
use Rattle.dl_outside.specs.declared.link.Gave.{Gave}
use Rattle.dl_outside.specs.declared.link.Gave.TheVariants as gave
use Rattle.dl_hub.specs.State.{Client, Hub, IsSameHub, changed, client_of, shut, with_reply, without}
use Rattle.dl_core.specs.Serving.{reply_now}
use Rattle.dl_core.specs.State.{Core}
use Rattle.dl_turns.specs.Events.{Asks, Closes, ServesOne, SetsLevels}
use Rattle.dl_turns.specs.State.{Side, Stage}
use Rattle.dl_turns.specs.Stopping.{GoesOn, IsClosedIn, HasClosingTurns, TurnsOn}
use Rattle.dl_turns.specs.Turns.{ClosesFor, Heeds, IsPump, IsTurn, Listens, ServesEach}
use Rattle.dl_turns.proofs.ClientChanges.{client_other}
use Rattle.dl_rounds.proofs.ByPlace.{set_length}
use Rattle.dl_core.proofs.Admitted.{same_hub-later}

-- all other clients are as they were, and as many came
pub record IsBut (client : ℕ) (old new : Hub) : Type 0 where
  pub same : IsSameHub old new
  pub many : length new.clients ≡ length old.clients
  pub others : (other : ℕ) → other ≢ client → client_of new other ≡ client_of old other

pub but_none : (client : ℕ) (hub : Hub) → IsBut client hub hub
but_none client hub = record { same = record { ecu = refl; buffer = refl; limit = refl }; many = refl; others = λ other apart. refl }

pub but_same : (client : ℕ) (old new : Hub) → new ≡ old → IsBut client old new
but_same client old new same = subst (λ (h : Hub). IsBut client old h) (sym same) (but_none client old)

pub but_both : (client : ℕ) (a b c : Hub) → IsBut client a b → IsBut client b c → IsBut client a c
but_both client a b c one two = record {
  same = record { ecu = two.same.ecu ∙ one.same.ecu; buffer = two.same.buffer ∙ one.same.buffer; limit = two.same.limit ∙ one.same.limit };
  many = two.many ∙ one.many;
  others = λ other apart. two.others other apart ∙ one.others other apart;
}

changed_many : (hub : Hub) (client : ℕ) (f : Client → Client) → length (changed client f hub).clients ≡ length hub.clients
changed_many hub client f = by (client_of hub client) where
  by : (o : Option Client) → length (option_map_or (λ (c : Client). slice_set hub.clients (client - 1) (f c)) o hub.clients) ≡ length hub.clients
  by None = refl
  by (Some c) = set_length hub.clients (client - 1) (f c)

pub but_changed : (client : ℕ) (f : Client → Client) (old new : Hub) → new ≡ changed client f old → IsBut client old new
but_changed client f old new is = subst (λ (h : Hub). IsBut client old h) (sym is) (record {
  same = record { ecu = refl; buffer = refl; limit = refl };
  many = changed_many old client f;
  others = λ other apart. client_other old client other f apart;
})

-- ---- a turn

but_asks : (client : ℕ) (frame : List ℕ) (old new : Side) → Asks client frame old new → IsBut client old.core.hub new.core.hub
but_asks client frame old new asks =
    subst (λ (n : ℕ). IsBut n old.core.hub new.core.hub) asks.of_client
    (but_changed asks.ready.client (with_reply (reply_now old.core asks.ready.frame asks.serves.answer)) old.core.hub new.core.hub asks.serves.reply)

but_levels : (client : ℕ) (changes : List LevelChange) (old new : Side) → SetsLevels changes old new → IsBut client old.core.hub new.core.hub
but_levels client [] old new all = but_same client old.core.hub new.core.hub (ap (λ (s : Side). s.core.hub) all.0)
but_levels client (next ∷ others) old new all =
    but_both client old.core.hub all.0.core.hub new.core.hub (but_same client old.core.hub all.0.core.hub (ap (λ (c : Core). c.hub) all.1.core)) (but_levels client others all.0 new all.2)

but_one : (client : ℕ) (frame : List ℕ) (old new : Side) → ServesOne client frame old new → IsBut client old.core.hub new.core.hub
but_one client frame old new one = but_both client old.core.hub one.0.core.hub new.core.hub (but_asks client frame old one.0 one.1) (but_levels client one.2.0 one.0 new one.2.1)

but_side : (client : ℕ) (old new : Side) → new ≡ old → IsBut client old.core.hub new.core.hub
but_side client old new same = but_same client old.core.hub new.core.hub (ap (λ (s : Side). s.core.hub) same)

but_each : (client : ℕ) (frames : List (List ℕ)) (bad : Bool) (why : Option Why) (old new : Side) → ServesEach client frames bad why old new → IsBut client old.core.hub new.core.hub
but_each client [] bad why old new all = but_side client old new all.1
but_each client (frame ∷ frames) bad why old new all = elim all [
  | inl refused ↦ but_side client old new refused.1
  | inr served ↦ but_both client old.core.hub served.0.core.hub new.core.hub (but_one client frame old served.0 served.1) (but_each client frames bad why served.0 new served.2)
]

but_heeds : (client : ℕ) (unread : List ℕ) (answer : Gave) (into : List ℕ) (why : Option Why) (old new : Side) → Heeds client unread answer into why old new → IsBut client old.core.hub new.core.hub
but_heeds client unread (gave.Bytes count) into why old new heeds = but_each client _ _ why old new heeds
but_heeds client unread gave.NotYet into why old new heeds = but_side client old new heeds.1
but_heeds client unread gave.End into why old new heeds = but_side client old new heeds.1
but_heeds client unread gave.Failed into why old new heeds = but_side client old new heeds.1

but_listens : (client : ℕ) (why : Option Why) (old new : Stage) → Listens client why old new → IsBut client old.side.core.hub new.side.core.hub
but_listens client why old new listens = but_heeds client old.cutter.unread listens.answer listens.into why old.side new.side listens.heeds

pub but_closes : (client : ℕ) (why : Why) (old new : Side) → Closes client why old new → IsBut client old.core.hub new.core.hub
but_closes client why old new closes = but_changed client shut old.core.hub new.core.hub (ap (λ (c : Core). c.hub) closes.core)

but_closed : (client : ℕ) (why : Option Why) (old new : Side) → ClosesFor client why old new → IsBut client old.core.hub new.core.hub
but_closed client None old new same = but_side client old new same
but_closed client (Some why) old new closes = but_closes client why old new closes

pub but_turn : (client : ℕ) (why : Option Why) (old new : Stage) → IsTurn client why old new → IsBut client old.side.core.hub new.side.core.hub
but_turn client why old new turn =
    but_both client old.side.core.hub turn.between.core.hub new.side.core.hub
    (but_heeds client old.cutter.unread turn.listens.answer turn.listens.into why old.side turn.between turn.listens.heeds)
    (but_closed client why turn.between new.side turn.closes)

-- ---- a pump

pub but_pump : (client : ℕ) (why : Option Why) (link link_now : LinkTold) (old new : Side) → IsPump client why link link_now old new → IsBut client old.core.hub new.core.hub
but_pump client why link link_now old new pump =
    but_both client old.core.hub pump.between.core.hub new.core.hub (but_changed client (without pump.pumps.count) old.core.hub pump.between.core.hub pump.pumps.left)
    (but_closed client why pump.between new pump.closes)

-- ---- a stop

but_goes : (client : ℕ) (quiet : Bool) (old new : Stage) → GoesOn client quiet old new → IsBut client old.side.core.hub new.side.core.hub
but_goes client quiet old new goes =
    but_both client old.side.core.hub goes.heard.side.core.hub new.side.core.hub (but_listens client None old goes.heard goes.listens)
    (but_pump client None goes.heard.link new.link goes.heard.side new.side goes.pumps)

but_turns : (client count : ℕ) (old new : Stage) → TurnsOn client count old new → IsBut client old.side.core.hub new.side.core.hub
but_turns client zero old new same = but_same client old.side.core.hub new.side.core.hub (ap (λ (s : Stage). s.side.core.hub) same)
but_turns client (suc count) old new turns =
    but_both client old.side.core.hub turns.0.side.core.hub new.side.core.hub (but_goes client false old turns.0 turns.1) (but_turns client count turns.0 new turns.2)

but_closed_in : (client : ℕ) (why : Why) (old new : Stage) → IsClosedIn client why old new → IsBut client old.side.core.hub new.side.core.hub
but_closed_in client why old new closed = elim closed [
  | inl turn ↦ but_turn client (Some why) old new turn
  | inr sent ↦
      but_both client old.side.core.hub sent.0.side.core.hub new.side.core.hub (but_listens client None old sent.0 sent.1)
      (but_pump client (Some why) sent.0.link new.link sent.0.side new.side sent.2)
]

pub but_stop : (client : ℕ) (why : Why) (old new : Stage) → HasClosingTurns client why old new → IsBut client old.side.core.hub new.side.core.hub
but_stop client why old new wound =
    let turns = but_turns client wound.count old wound.last wound.turns in
    but_both client old.side.core.hub wound.last.side.core.hub new.side.core.hub turns (elim wound.ends [
      | inl closed ↦ but_closed_in client why wound.last new closed.1
      | inr stopped ↦
          but_both client wound.last.side.core.hub stopped.0.side.core.hub new.side.core.hub (elim stopped.1 [
            | inl quiet ↦ but_goes client true wound.last stopped.0 quiet.1
            | inr all ↦ but_same client wound.last.side.core.hub stopped.0.side.core.hub (ap (λ (s : Stage). s.side.core.hub) all.1)
          ]) (but_closes client why stopped.0.side new.side stopped.3)
    ])
