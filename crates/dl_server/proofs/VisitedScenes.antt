-- What stays in a round over channels: the clients, and how many channels may come.
use Rattle.std.proofs.Common.{◌≡◌, ℕ, Bool, true, false, List, [], ◌∷◌, Option, ap, ◌∙◌}
use Rattle.dl_bytes.specs.declared.moment.Moment.{Moment}
use Rattle.dl_channel.specs.declared.outcome.ChannelEnd.{ChannelEnd}
use Rattle.dl_channels.specs.Rounds.{Heard, HearsAll, PumpsAll, Scene, Sent, Stopped, StopsAll, StopsSome, VisitsEach, Visited, seen_by}
use Rattle.dl_channels.proofs.LeftOpen.{ended_leaves, heard_leaves, pumped_leaves}
use Rattle.dl_socket.specs.Channels.{Channels, open_in}
use Rattle.dl_socket.specs.Turns.{ChannelView}
use Rattle.dl_server.proofs.KeptHubs.{ends_keep, hears_keep, keeps_both, keeps_same, pumps_keep}
use Rattle.dl_server.proofs.ReadyListeners.{Keeps}

-- the clients stay, and as many channels may come and came
pub record Stays (old new : Scene) : Type 0 where
  pub clients : Keeps old.part.core.hub new.part.core.hub
  pub in_all : new.channels.in_all ≡ old.channels.in_all
  pub opened : new.channels.opened ≡ old.channels.opened

stays_same : (old new : Scene) → new ≡ old → Stays old new
stays_same old new same = record {
  clients = keeps_same old.part.core.hub new.part.core.hub (ap (λ (s : Scene). s.part.core.hub) same);
  in_all = ap (λ (s : Scene). s.channels.in_all) same;
  opened = ap (λ (s : Scene). s.channels.opened) same;
}

pub stays_both : (old between new : Scene) → Stays old between → Stays between new → Stays old new
stays_both old between new first second = record {
  clients = keeps_both old.part.core.hub between.part.core.hub new.part.core.hub first.clients second.clients;
  in_all = second.in_all ∙ first.in_all;
  opened = second.opened ∙ first.opened;
}

module _ (Visit : ℕ → Bool → List (Option ChannelEnd) → List (Option ChannelEnd) → ChannelView → ChannelView → Channels → Channels → Type 0)
    (one : (channel : ℕ) (moved : Bool) (old new : Scene) → Visited Visit channel moved old new → Stays old new) where
  pub each_stays : (channels : List ℕ) (moved : Bool) (old new : Scene) → VisitsEach Visit channels moved old new → Stays old new
  each_stays [] moved old new visits = stays_same old new visits.1
  each_stays (channel ∷ others) moved old new visits =
      stays_both old visits.0 new (one channel visits.1 old visits.0 visits.4) (each_stays others visits.2 visits.0 new visits.5)

heard_stays : (moment : Moment) (channel : ℕ) (moved : Bool) (old new : Scene) → Visited (Heard moment) channel moved old new → Stays old new
heard_stays moment channel moved old new visited =
    let visit = visited.visit in
    let left = heard_leaves channel moment visit.end visit.end_now (seen_by visited.link old.part) (seen_by visited.link_now new.part) old.channels new.channels visit.hears in
    record {
      clients = hears_keep channel moment visit.end visit.end_now (seen_by visited.link old.part) (seen_by visited.link_now new.part) old.channels new.channels visit.hears;
      in_all = left.in_all;
      opened = left.opened;
    }

sent_stays : (moment : Moment) (channel : ℕ) (moved : Bool) (old new : Scene) → Visited (Sent moment) channel moved old new → Stays old new
sent_stays moment channel moved old new visited =
    let visit = visited.visit in
    let left = pumped_leaves channel moment visit.end visit.end_now (seen_by visited.link old.part) (seen_by visited.link_now new.part) old.channels new.channels visit.pumps in
    record {
      clients = pumps_keep channel moment visit.end visit.end_now (seen_by visited.link old.part) (seen_by visited.link_now new.part) old.channels new.channels visit.pumps;
      in_all = left.in_all;
      opened = left.opened;
    }

stopped_stays : (moment : Moment) (closed : Bool) (channel : ℕ) (moved : Bool) (old new : Scene) → Visited (Stopped moment closed) channel moved old new → Stays old new
stopped_stays moment closed channel moved old new visited =
    let visit = visited.visit in
    let left = ended_leaves channel moment closed (seen_by visited.link old.part) (seen_by visited.link_now new.part) old.channels new.channels visit.stops in
    record {
      clients = ends_keep channel moment closed (seen_by visited.link old.part) (seen_by visited.link_now new.part) old.channels new.channels visit.stops;
      in_all = left.in_all;
      opened = left.opened;
    }

pub all_heard : (moment : Moment) (moved : Bool) (old new : Scene) → HearsAll moment moved old new → Stays old new
all_heard moment moved old new hears = each_stays (Heard moment) (heard_stays moment) (open_in old.channels) moved old new hears

pub all_sent : (moment : Moment) (old new : Scene) → PumpsAll moment old new → Stays old new
all_sent moment old new pumps = each_stays (Sent moment) (sent_stays moment) (open_in old.channels) false old new pumps

pub all_stopped : (moment : Moment) (old new : Scene) → StopsAll moment old new → Stays old new
all_stopped moment old new stops = each_stays (Stopped moment true) (stopped_stays moment true) (open_in old.channels) false old new stops.0

pub some_stopped : (moment : Moment) (old new : Scene) → StopsSome moment old new → Stays old new
some_stopped moment old new stops =
    stays_both old stops.between new (each_stays (Stopped moment true) (stopped_stays moment true) stops.done false old stops.between stops.stops)
    (stopped_stays moment false stops.channel false stops.between new stops.begins)
