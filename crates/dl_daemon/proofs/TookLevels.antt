-- What the links of programs outside took, of a daemon that was opened, ran and closed.
use Rattle.std.proofs.Common.{inl, inr, ℕ, zero, suc, map, Some, None, refl, sym, ap, subst, false}
use Rattle.dl_bytes.specs.declared.conf.Conf.{Conf}
use Rattle.dl_core.specs.Follows.{Run}
use Rattle.dl_core.specs.State.{Core}
use Rattle.dl_events.specs.Told.{Told}
use Rattle.dl_loop.specs.Daemon.{TellTaken}
use Rattle.dl_model.specs.Setting.{Setting}
use Rattle.dl_outside.specs.Links.{Links}
use Rattle.dl_outside.specs.Told.{FolderTold, LinkTold, NetTold}
use Rattle.dl_rounds.specs.Clients.{Clients}
use Rattle.dl_rounds.specs.Passing.{AreLater}
use Rattle.dl_rounds.specs.Visits.{ClosesAll}
use Rattle.dl_server.specs.State.{State, seen}
use Rattle.dl_startup.specs.Setup.{IsBegun}
use Rattle.dl_turns.specs.Gone.{TellTheEnd}
use Rattle.dl_serve.proofs.ServerSteps.{state_of}
use Rattle.dl_serve.specs.declared.beginning.Begun.{Begun}
use Rattle.dl_serve.specs.declared.closed.Closed.{Closed}
use Rattle.dl_serve.specs.Comes.{run_in}
use Rattle.dl_serve.specs.Levels.{AllTookLevels}
use Rattle.dl_serve.proofs.CameTo.{what_stood}
use Rattle.dl_serve.proofs.ServingSteps.{seen_tells}
use Rattle.dl_serve.proofs.TookServings.{first_stands}
use Rattle.dl_serve.proofs.WholeServers.{IsSettled, Stands, keeps_on, kept_settled, left_took, round_stands}
use Rattle.dl_daemon.specs.declared.limits.Limits.{Limits}
use Rattle.dl_daemon.specs.declared.rounds.Stop.{Stop}
use Rattle.dl_daemon.specs.Open.{setting}
use Rattle.dl_daemon.specs.Outside.{Outside}
use Rattle.dl_daemon.specs.Program.{HasOpened}
use Rattle.dl_daemon.specs.Renewing.{Renewed, untried}
use Rattle.dl_daemon.specs.Rounds.{AreRounds, IsRenewedRound, noted, with_trace}
use Rattle.dl_daemon.proofs.DaemonSteps.{BeginsIn, begins_in, renewed, renewed_leads}

-- where a trace is begun, the registry stands
begun_settled : (old new : State) → BeginsIn old.core new.core → IsSettled old → IsSettled new
begun_settled old new (inl same) settled = kept_settled old new (ap (λ (c : Core). c.registry) same) settled
begun_settled old new (inr anew) settled = kept_settled old new (ap (λ (c : Core). c.registry) anew.2) settled

module _ {L : Type 0} (told : L → LinkTold) (conf : Conf) (set : Setting) (room : ℕ) where
  abbrev Standing : State → Type 0
  Standing s = Stands told set room s

  -- with a trace that may be begun anew, and nets that are asked again
  one_stands : (kept kept_now : Renewed) (net net_now users users_now : NetTold L) (old new : State) → IsRenewedRound told conf kept kept_now net net_now users users_now old new → Standing old → Standing new
  one_stands kept kept_now net net_now users users_now old new r stands =
      let mid : State = renewed told conf kept kept_now net net_now users users_now old new r in
      let lead = renewed_leads told conf kept kept_now net net_now users users_now old new r stands.ready in
      round_stands told set room net net_now users users_now mid new r.round (seen_tells told noted false (with_trace old r.core r.folder) r.seen_so) (record {
        keeps = keeps_on told set room (state_of old) (state_of mid) lead.0 stands.keeps;
        ready = lead.1;
        settled = begun_settled old mid (begins_in told conf kept kept_now net net_now users users_now old new r) stands.settled;
        whole = stands.whole;
      })

  pub rounds_stand : (many : ℕ) (kept kept_now : Renewed) (net net_now users users_now : NetTold L) (old new : State) → AreRounds told conf many kept kept_now net net_now users users_now old new → Standing old → Standing new
  rounds_stand zero kept kept_now net net_now users users_now old new rounds stands = subst Standing (sym rounds.3) stands
  rounds_stand (suc many) kept kept_now net net_now users users_now old new rounds stands =
      one_stands rounds.0 kept_now rounds.1 net_now rounds.2 users_now rounds.3 new rounds.5 (rounds_stand many kept rounds.0 net rounds.1 users rounds.2 old rounds.3 rounds.4 stands)

module _ {L : Type 0} (told : L → LinkTold) (closed_so : (old new : Clients) → ClosesAll (TellTheEnd told) old new → AreLater old new) (most : Limits) (begun : Begun) (old new : Outside L) (why : Stop) (closed : Closed L)
    (first : FolderTold) (begins : IsBegun begun.conf first.files begun.trace) (has : HasOpened told most begun why old new closed) where
  pub took_so : AllTookLevels (TellTaken told) (setting most begun) closed.events.events (map told closed.users.links) closed.ends
  took_so =
      let opened = has.is_opened in
      let made = opened.made in
      let before = what_stood begun.conf first.files begun.trace begins in
      let set : Setting = setting most begun in
      let run : Run = run_in set before.stood in
      let after = opened.begins run refl refl before.after in
      let start : State = seen told noted false old.folder has.opened.server in
      let at_first : Stands told set most.channels start =
      first_stands told set most.channels start most.open_channels most.clients most.channels (ap (λ (j : Told). Some j.events) made.journal_is) (ap (λ (ls : Links L). map told ls.links) made.no_program)
      made.channels_are made.listeners_are made.no_end (record { registry = after.registry; level = after.set_to.level }) opened.is_server.linked.settled in
      left_took told set most.channels closed_so has.run.moment has.run.last has.run.closes.0 has.run.closes.2
      (rounds_stand told begun.conf set most.channels has.run.served.many (record { tries = untried; anew = None }) has.run.served.kept has.net new.net has.users new.users start has.run.last has.run.served.rounds at_first)
      closed has.run.closes.3
