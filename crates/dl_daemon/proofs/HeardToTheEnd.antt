-- Nets that listen through all rounds.
use Rattle.std.proofs.Common.{◌≡◌, ℕ, zero, suc, Option, Some, None, refl, sym, subst}
use Rattle.dl_bytes.specs.declared.conf.Conf.{Conf}
use Rattle.dl_outside.specs.Outside.{Stays}
use Rattle.dl_outside.specs.Told.{LinkTold, NetTold}
use Rattle.dl_server.specs.State.{State}
use Rattle.dl_serve.proofs.HeardNets.{round_listens}
use Rattle.dl_daemon.specs.Renewing.{Renewed}
use Rattle.dl_daemon.specs.Rounds.{AreRounds, asked_again, with_trace}

stays_both : (first between now : Option (Option ℕ)) → Stays first between → Stays between now → Stays first now
stays_both None between now one two = tt
stays_both (Some port) between now one two = subst (λ (o : Option (Option ℕ)). Stays o now) one two

stays_same : (first : Option (Option ℕ)) → Stays first first
stays_same None = tt
stays_same (Some port) = refl

module _ {L : Type 0} (told : L → LinkTold) where
  stays_with : (old new : NetTold L) → new ≡ old → Stays old.listens_on new.listens_on
  stays_with old new same = subst (λ (n : NetTold L). Stays old.listens_on n.listens_on) (sym same) (stays_same old.listens_on)

  pub rounds_listen : (conf : Conf) (many : ℕ) (kept kept_now : Renewed) (net net_now users users_now : NetTold L) (old new : State)
      → AreRounds told conf many kept kept_now net net_now users users_now old new
      → Stays net.listens_on net_now.listens_on × Stays users.listens_on users_now.listens_on
  rounds_listen conf zero kept kept_now net net_now users users_now old new same = (stays_with net net_now same.1, stays_with users users_now same.2)
  rounds_listen conf (suc many) kept kept_now net net_now users users_now old new rounds =
      let first = rounds_listen conf many kept rounds.0 net rounds.1 users rounds.2 old rounds.3 rounds.4 in
      let r = rounds.5 in
      let last = round_listens told rounds.1 net_now rounds.2 users_now (asked_again (with_trace rounds.3 r.core r.folder)) new r.round in
      (stays_both net.listens_on rounds.1.listens_on net_now.listens_on first.0 last.0, stays_both users.listens_on rounds.2.listens_on users_now.listens_on first.1 last.1)
