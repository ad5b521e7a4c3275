-- What visits to channels leave of a server.
use Rattle.std.proofs.Common.{◌≡◌, Bool, List, Option, None, sym, subst, ◌∙◌, arith}
use Rattle.dl_bytes.specs.declared.moment.Moment.{Moment}
use Rattle.dl_channel.specs.declared.outcome.ChannelEnd.{ChannelEnd}
use Rattle.dl_core.specs.State.{Core}
use Rattle.dl_outside.specs.Links.{Links}
use Rattle.dl_registry.specs.Kept.{owed_change}
use Rattle.dl_channels.specs.Rounds.{HearsAll, PumpsAll, Scene}
use Rattle.dl_admission.proofs.StandingClients.{as_many}
use Rattle.dl_server.specs.Server.{HaveLinks}
use Rattle.dl_server.specs.State.{State, scene_of}
use Rattle.dl_server.specs.Steps.{HearsPrograms, PumpsPrograms}
use Rattle.dl_server.proofs.ReadyListeners.{Keeps}

-- the scene of a state, with these ends
abbrev pub scene_with : State → List (Option ChannelEnd) → Scene
scene_with s ends = record (scene_of s) { ends = ends }

pub heard_so : (moment : Moment) (moved : Bool) (old new : State) (ends ends_now : List (Option ChannelEnd)) → ends ≡ old.ends → new.ends ≡ ends_now
    → HearsAll moment moved (scene_with old ends) (scene_with new ends_now)
    → new ≡ record old { core = new.core; events = new.events; folder = new.folder; channels = new.channels; programs = new.programs; ends = new.ends } → HearsPrograms moment moved old new
heard_so moment moved old new ends ends_now were are hears rest = record {
  hears = subst (λ (es : List (Option ChannelEnd)). HearsAll moment moved (scene_of old) (scene_with new es)) (sym are)
      (subst (λ (es : List (Option ChannelEnd)). HearsAll moment moved (scene_with old es) (scene_with new ends_now)) were hears);
  rest = rest;
}

pub pumped_so : (moment : Moment) (old new : State) (ends ends_now : List (Option ChannelEnd)) → ends ≡ old.ends → new.ends ≡ ends_now
    → PumpsAll moment (scene_with old ends) (scene_with new ends_now)
    → new ≡ record old { core = new.core; events = new.events; folder = new.folder; channels = new.channels; programs = new.programs; ends = new.ends } → PumpsPrograms moment old new
pumped_so moment old new ends ends_now were are pumps rest = record {
  pumps = subst (λ (es : List (Option ChannelEnd)). PumpsAll moment (scene_of old) (scene_with new es)) (sym are)
      (subst (λ (es : List (Option ChannelEnd)). PumpsAll moment (scene_with old es) (scene_with new ends_now)) were pumps);
  rest = rest;
}

-- where the clients stay and no level is owed, they have their links
pub links_still : {L : Type 0} (links : Links L) (old new : Core) → Keeps old.hub new.hub → owed_change new.registry ≡ None → HaveLinks links old → HaveLinks links new
links_still links old new keeps settled have =
    let many = as_many keeps.0 old.hub new.hub keeps.1 in
    record {
      many = many ∙ have.many;
      few = omega (arith, have.few, many, keeps.1.same.limit);
      place = omega (arith, have.place, keeps.1.same.limit);
      settled = settled;
    }
