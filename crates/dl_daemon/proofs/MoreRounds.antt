-- Rounds of a daemon, one after the other.
use Rattle.std.proofs.Common.{◌≡◌, ℕ, suc, true, Option, None, refl, sym, ap, subst, ◌∙◌, false}
use Rattle.dl_bytes.specs.declared.conf.Conf.{Conf}
use Rattle.dl_bytes.specs.declared.moment.Moment.{Moment}
use Rattle.dl_outside.specs.Told.{FolderTold, LinkTold, NetTold}
use Rattle.dl_server.specs.Round.{IsRound}
use Rattle.dl_server.specs.Server.{IsServer}
use Rattle.dl_server.specs.State.{State, seen}
use Rattle.dl_server.specs.declared.server.Server.{Server}
use Rattle.dl_events.specs.Told.{Told}
use Rattle.dl_daemon.specs.declared.renewing.Tries.{Tries}
use Rattle.dl_daemon.specs.Renewing.{Anew, Renewed, Renews, last_anew}
use Rattle.dl_daemon.specs.declared.watch.Watched.{Watched}
use Rattle.dl_daemon.specs.Rounds.{AreRounds, HasRoom, IsRenewedRound, asked_again, noted, opened_again, with_trace}
use Rattle.dl_daemon.specs.Watching.{answered, let_begin}

-- the tries so far, and the last beginning
abbrev pub kept_so : Tries → Option Anew → Renewed
kept_so tries anew = record { tries = tries; anew = anew }

-- some rounds, as many as the watch let begin
abbrev pub SomeRounds : {L : Type 0} → (L → LinkTold) → Conf → Tries → Tries → NetTold L → NetTold L → NetTold L → NetTold L → Watched → Watched → State → State → Type 0
SomeRounds told conf tries tries_now net net_now users users_now watch watch_now old new =
    (many : ℕ) × (anew : Option Anew) × AreRounds told conf many (kept_so tries None) (kept_so tries_now anew) net net_now users users_now old new
    × (watch_now ≡ let_begin many watch)

module _ {L : Type 0} (told : L → LinkTold) (conf : Conf) where
  pub no_round : (tries : Tries) (net users : NetTold L) (watch : Watched) (s : State) → SomeRounds told conf tries tries net net users users watch watch s s
  no_round tries net users watch s = (0, None, (refl, refl, refl, refl), refl)

  -- one round of a server, whose trace was tried to be begun anew, or not, before its nets were asked again
  pub one_round_more : (tries tries_then tries_now : Tries) (net net_then net_now users users_then users_now : NetTold L) (watch watch_then watch_now : Watched) (old : State) (folder folder_then : FolderTold) (was next again : Server Told L) (new : State)
      (moment : Moment) (begun : Option ℕ) → SomeRounds told conf tries tries_then net net_then users users_then watch watch_then old (seen told noted false folder was) → HasRoom was.core → watch_now ≡ answered true watch_then
      → Renews conf was.core.ecu moment begun tries_then tries_now was.core.trace next.core.trace folder folder_then → next.core ≡ record was.core { trace = next.core.trace } → next ≡ record was { core = next.core } → IsServer told next → again ≡ opened_again next
      → IsRound told net_then net_now users_then users_now (seen told noted false folder_then again) new → SomeRounds told conf tries tries_now net net_now users users_now watch watch_now old new
  one_round_more tries tries_then tries_now net net_then net_now users users_then users_now watch watch_then watch_now old folder folder_then was next again new moment begun some room let_so renews core rest is_server is round =
      let between : State = seen told noted false folder was in
      let anew : Option Anew = last_anew begun moment folder (noted was.journal) some.1 in
      let at_then : IsRound told net_then net_now users_then users_now (seen told noted false folder_then (opened_again next)) new =
      subst (λ (s : Server Told L). IsRound told net_then net_now users_then users_now (seen told noted false folder_then s) new) is round in
      let at_was : IsRound told net_then net_now users_then users_now (asked_again (with_trace between next.core folder_then)) new =
      subst (λ (s : Server Told L). IsRound told net_then net_now users_then users_now (seen told noted false folder_then (opened_again s)) new) rest at_then in
      let step : IsRenewedRound told conf (kept_so tries_then some.1) (kept_so tries_now anew) net_then net_now users_then users_now between new = record {
        room = room;
        moment = moment;
        begun = begun;
        core = next.core;
        folder = folder_then;
        renews = renews;
        rest = core;
        anew = refl;
        seen_so = record { server = next; folder = folder_then; is_server = is_server; is = sym (ap (λ (s : Server Told L). seen told noted false folder_then s) rest) };
        round = at_was;
      } in
      (suc some.0, anew, (kept_so tries_then some.1, net_then, users_then, between, some.2, step), let_so ∙ ap (answered true) some.3)
