-- What the links of programs outside took, of a server that was opened, ran and closed.
use Rattle.std.proofs.Common.{◌≡◌, ℕ, zero, suc, Bool, List, [], map, Some, None, refl, sym, ap, subst, replicate, true}
use Rattle.std.specs.Prelude.{slice_get}
use Rattle.dl_bytes.specs.Limits.{client_limit}
use Rattle.dl_core.specs.Follows.{Run}
use Rattle.dl_events.specs.Journal.{Journaled}
use Rattle.dl_loop.specs.Daemon.{TellTaken}
use Rattle.dl_machine.proofs.ProgramSteps.{programs_with}
use Rattle.dl_serve.proofs.ServerSteps.{state_of}
use Rattle.dl_model.specs.Setting.{Setting}
use Rattle.dl_outside.specs.Links.{Links}
use Rattle.dl_outside.specs.Told.{FolderTold, LinkTold, NetTold}
use Rattle.dl_rounds.specs.Clients.{Clients}
use Rattle.dl_rounds.specs.Passing.{AreLater}
use Rattle.dl_rounds.specs.Ready.{fresh_listener}
use Rattle.dl_rounds.specs.Visits.{ClosesAll}
use Rattle.dl_server.specs.State.{State}
use Rattle.dl_socket.specs.Channels.{Channels, channel_limit, none_opened, open_channel_limit}
use Rattle.dl_startup.specs.Setup.{IsBegun}
use Rattle.dl_turns.specs.Gone.{TellTheEnd}
use Rattle.dl_serve.specs.declared.beginning.Begun.{Begun}
use Rattle.dl_serve.specs.declared.closed.Closed.{Closed}
use Rattle.dl_serve.specs.Comes.{run_in}
use Rattle.dl_serve.specs.Levels.{AllTookLevels}
use Rattle.dl_serve.specs.Open.{setting}
use Rattle.dl_serve.specs.Program.{HasOpened}
use Rattle.dl_serve.specs.Rounds.{AreRounds, kept}
use Rattle.dl_serve.specs.Told.{Told}
use Rattle.dl_serve.proofs.CameTo.{what_stood}
use Rattle.dl_serve.proofs.NotedSteps.{Follows}
use Rattle.dl_serve.proofs.ServingSteps.{first as first_state, first_ready, seen_tells}
use Rattle.dl_serve.proofs.TookSteps.{first_keeps}
use Rattle.dl_serve.proofs.WholeServers.{IsSettled, Stands, left_took, round_stands}

module _ {L : Type 0} (told : L → LinkTold) (set : Setting) (room : ℕ) where
  -- before anybody came
  pub first_stands : (s : State) (at_once clients programs : ℕ) → s.events ≡ Some [] → s.programs ≡ [] → s.channels ≡ none_opened at_once room → s.listeners ≡ replicate clients fresh_listener
      → s.ends ≡ replicate programs None → Follows set [] s.core → IsSettled s → Stands told set room s
  first_stands s at_once clients programs events nobody channels listeners ends follows settled = record {
    keeps = first_keeps (TellTaken told) set at_once room (state_of s) events (ap (λ (ls : List LinkTold). programs_with ls s.ends) nobody) channels follows;
    ready = first_ready s clients programs (ap (λ (c : Channels). c.inboxes) channels) listeners ends;
    settled = settled;
    whole = λ past kept place link there slot. absurd (let bad : slice_get [] place ≡ Some link = subst (λ (ls : List LinkTold). slice_get ls place ≡ Some link) nobody there in cc bad);
  }

  rounds_stand : (many : ℕ) (net net_now users users_now : NetTold L) (old new : State) → AreRounds told many net net_now users users_now old new → Stands told set room old → Stands told set room new
  rounds_stand zero net net_now users users_now old new rounds stands = subst (Stands told set room) (sym rounds.2) stands
  rounds_stand (suc many) net net_now users users_now old new rounds stands =
      round_stands told set room rounds.0 net_now rounds.1 users_now rounds.2 new rounds.5 (seen_tells told kept true rounds.2 rounds.6) (rounds_stand many net rounds.0 users rounds.1 old rounds.2 rounds.3 stands)

module _ {L : Type 0} (told : L → LinkTold) (closed_so : (old new : Clients) → ClosesAll (TellTheEnd told) old new → AreLater old new) (begun : Begun) (old new : Told L) (full : Bool) (closed : Closed L) (first : FolderTold)
    (begins : IsBegun begun.conf first.files begun.trace) (has : HasOpened told begun full old new closed) where
  pub took_so : AllTookLevels (TellTaken told) (setting begun) closed.events.events (map told closed.users.links) closed.ends
  took_so =
      let opened = has.is_opened in
      let made = opened.made in
      let before = what_stood begun.conf first.files begun.trace begins in
      let run : Run = run_in (setting begun) before.stood in
      let after = opened.begins run refl refl before.after in
      let start : State = first_state told begun old new full closed has in
      let at_first : Stands told (setting begun) channel_limit start =
      first_stands told (setting begun) channel_limit start open_channel_limit client_limit channel_limit (ap (λ (j : Journaled). Some j.events) made.journal_is) (ap (λ (ls : Links L). map told ls.links) made.no_program)
      made.channels_are made.listeners_are made.no_end (record { registry = after.registry; level = after.set_to.level }) opened.is_server.linked.settled in
      left_took told (setting begun) channel_limit closed_so has.run.moment has.run.last has.run.closes.0 has.run.closes.2
      (rounds_stand told (setting begun) channel_limit has.run.served.many has.net new.net has.users new.users start has.run.last has.run.served.rounds at_first) closed has.run.closes.3
