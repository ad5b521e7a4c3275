-- A server that was opened, ran and closed, as steps.
use Rattle.std.proofs.Common.{◌≡◌, ℕ, zero, suc, Bool, true, List, [], replicate, Option, Some, None, sym, ap, subst}
use Rattle.std.specs.Prelude.{slice_get}
use Rattle.dl_bytes.specs.Limits.{client_limit}
use Rattle.dl_channel.specs.declared.outcome.ChannelEnd.{ChannelEnd}
use Rattle.dl_events.specs.declared.event.Event.{Event}
use Rattle.dl_outside.specs.Told.{LinkTold, NetTold}
use Rattle.dl_rounds.specs.Ready.{fresh_listener}
use Rattle.dl_rounds.specs.declared.listener.Listener.{Listener}
use Rattle.dl_server.specs.State as server
use Rattle.dl_socket.specs.Channels.{Channels, channel_limit}
use Rattle.dl_server.specs.State.{seen}
use Rattle.dl_machine.specs.Steps.{Goes, IsToldBy}
use Rattle.dl_machine.proofs.Composed.{goes_both}
use Rattle.dl_machine.proofs.Joined.{replicate_at}
use Rattle.dl_machine.proofs.LowNumbers.{AreLowIn}
use Rattle.dl_serve.proofs.ServerSteps.{IsReady, Leading, TellsOvers, closing_goes, lead_both, lead_same, map_tells, round_leads, state_in, state_of}
use Rattle.dl_serve.specs.declared.beginning.Begun.{Begun}
use Rattle.dl_serve.specs.declared.closed.Closed.{Closed}
use Rattle.dl_serve.specs.Program.{HasOpened}
use Rattle.dl_serve.specs.Rounds.{AreRounds, IsSeen, kept}
use Rattle.dl_serve.specs.Told.{Told}

-- a server to which nobody came is ready
pub first_ready : (s : server.State) (clients programs : ℕ) → s.channels.inboxes ≡ [] → s.listeners ≡ replicate clients fresh_listener → s.ends ≡ replicate programs None → IsReady s
first_ready s clients programs inboxes listeners ends = record {
  low = subst AreLowIn (sym inboxes) tt;
  ends = record { none = λ place end above there. replicate_at programs place None end (subst (λ (es : List (Option ChannelEnd)). slice_get es place ≡ Some end) ends there) };
  listeners = record { none = λ place l above there. replicate_at clients place fresh_listener l (subst (λ (ls : List Listener). slice_get ls place ≡ Some l) listeners there) };
}

-- the links of clients that are seen of a server are told
pub seen_tells : {J L : Type 0} (told : L → LinkTold) (events : J → Option (List Event)) (may_run_out : Bool) (s : server.State) → IsSeen told events may_run_out s → TellsOvers told s.clients
seen_tells told events may_run_out s is_seen = subst (λ (t : server.State). TellsOvers told t.clients) (sym is_seen.is) (map_tells told is_seen.server.clients.links)

module _ {L : Type 0} (told : L → LinkTold) where
  rounds_lead : (many : ℕ) (net net_now users users_now : NetTold L) (old new : server.State) → AreRounds told many net net_now users users_now old new → Leading told old new
  rounds_lead zero net net_now users users_now old new rounds = lead_same told old new rounds.2
  rounds_lead (suc many) net net_now users users_now old new rounds =
      lead_both told old rounds.2 new (rounds_lead many net rounds.0 users rounds.1 old rounds.2 rounds.3) (round_leads told rounds.0 net_now rounds.1 users_now rounds.2 new rounds.5 (seen_tells told kept true rounds.2 rounds.6))

  module _ (begun : Begun) (old new : Told L) (full : Bool) (closed : Closed L) (has : HasOpened told begun full old new closed) where
    -- as it was opened, and in the end
    abbrev pub first : server.State
    first = seen told kept true old.folder has.opened.server

    abbrev pub final : server.State
    final = has.run.closes.0

    pub serving_goes : Goes (IsToldBy told) (state_of first) (state_in true final)
    serving_goes =
        let made = has.is_opened.made in
        let last : server.State = has.run.last in
        let rounds = rounds_lead has.run.served.many has.net new.net has.users new.users first last has.run.served.rounds (first_ready first client_limit channel_limit (ap (λ (c : Channels). c.inboxes) made.channels_are) made.listeners_are made.no_end) in
        goes_both (IsToldBy told) (state_of first) (state_of last) (state_in true final) rounds.0 (closing_goes told has.run.moment last final rounds.1.low has.run.closes.2)
