-- Clients stay ready to be closed while calls, claims and losses are taken.
use Rattle.std.proofs.Common.{◌≡◌, ℕ, zero, suc, ◌+◌, ◌-◌, ◌≤◌, Bool, true, false, cond, eqb, List, [], ◌∷◌, length, map, Option, Some, None, is_some, refl, sym, ap, ◌∙◌, arith}
use Rattle.std.specs.Prelude.{IsSome, IsSomeAnd, slice_get, unwrap_or}
use Rattle.std.specs.Option.{option_map}
use Rattle.std.proofs.lemmas.List.{length-map}
use Rattle.dl_bytes.specs.Limits.{request_limit}
use Rattle.dl_events.specs.declared.event.Event.{Event}
use Rattle.dl_events.specs.declared.event.Why.{Why}
use Rattle.dl_model.specs.Report.{why_of}
use Rattle.dl_outside.specs.Links.{Links}
use Rattle.dl_desk.specs.Told.{ControlTold}
use Rattle.dl_registry.specs.Kept.{owed_change}
use Rattle.dl_hub.specs.State.{Client, Hub, client_of, outbox_of, replies_of}
use Rattle.dl_core.specs.State.{Core}
use Rattle.dl_admission.specs.Admission.{KeepsClients}
use Rattle.dl_admission.proofs.StandingClients.{as_many, same_replies, served_by, was_open}
use Rattle.dl_turns.specs.Events.{HasServed, IsDeskOf}
use Rattle.dl_rounds.specs.Ready.{AreHeard, AreLinked, open_clients}
use Rattle.dl_rounds.specs.ListenerPool.{Seated}

pub linked_still : {L : Type 0} (noted : List Event) (links : Links L) (old new : Core) (spare spare_now : ℕ) → AreLinked links old spare → KeepsClients noted old.hub new.hub
    → owed_change new.registry ≡ None → open_clients new.hub ≤ spare_now → AreLinked links new spare_now
linked_still noted links old new spare spare_now linked keeps settled room = record {
  many = as_many noted old.hub new.hub keeps ∙ linked.many;
  few = omega (arith, linked.few, as_many noted old.hub new.hub keeps, keeps.same.limit);
  place = omega (arith, linked.place, keeps.same.limit);
  settled = settled;
  room = room;
}

served_still : (noted : List Event) (number served : ℕ) (old new : Core) → KeepsClients noted old.hub new.hub → HasServed number served old → HasServed number served new
served_still noted number served old new keeps has = served_by served (client_of old.hub number) (client_of new.hub number) (same_replies old.hub new.hub number keeps.replies) has

pub heard_still : (noted : List Event) (seated : Seated) (old new : Core) (desk desk_now : ControlTold) → AreHeard seated old desk → KeepsClients noted old.hub new.hub → IsDeskOf new.registry desk_now
    → AreHeard seated new desk_now
heard_still noted seated old new desk desk_now heard keeps desk_so = record {
  enough = omega (arith, heard.enough, keeps.same.limit);
  limits = heard.limits;
  counts = λ place listener is below. served_still noted (place + 1) listener.served old new keeps (heard.counts place listener is (omega (arith, below, as_many noted old.hub new.hub keeps)));
  unused = λ place listener is above. heard.unused place listener is (omega (arith, above, as_many noted old.hub new.hub keeps));
  waiting = λ number open_so. heard.waiting number (was_open noted old.hub new.hub number keeps open_so);
  desk_so = desk_so;
}
