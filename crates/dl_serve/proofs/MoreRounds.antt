-- Rounds, one after the other.
use Rattle.std.proofs.Common.{◌≡◌, ◌+◌, ◌<◌, ℕ, suc, true, refl, subst, ◌∙◌, arith}
use Rattle.dl_events.specs.Journal.{Journaled}
use Rattle.dl_outside.specs.Told.{LinkTold, NetTold}
use Rattle.dl_server.specs.Round.{IsRound}
use Rattle.dl_server.specs.Server.{SameLimits}
use Rattle.dl_server.specs.State.{State}
use Rattle.dl_server.specs.declared.server.Server.{Server}
use Rattle.dl_serve.specs.Rounds.{AreRounds, HasRoom, HasMadeRounds, IsFull, IsSeen, kept}

pub same_limits : {L : Type 0} (s : Server Journaled L) → SameLimits s s
same_limits s = record { clients = refl; channels = refl }

pub limits_both : {L : Type 0} (a b c : Server Journaled L) → SameLimits a b → SameLimits b c → SameLimits a c
limits_both a b c one two = record { clients = two.clients ∙ one.clients; channels = two.channels ∙ one.channels }

module _ {L : Type 0} (told : L → LinkTold) where
  pub one_more : (many : ℕ) (net net_then net_now users users_then users_now : NetTold L) (old between new : State) → AreRounds told many net net_then users users_then old between
      → HasRoom between.events → IsRound told net_then net_now users_then users_now between new → IsSeen told kept true between → AreRounds told (many + 1) net net_now users users_now old new
  one_more many net net_then net_now users users_then users_now old between new rounds room round seen =
      let next : suc many ≡ many + 1 = omega arith in
      subst (λ (n : ℕ). AreRounds told n net net_now users users_now old new) next (net_then, users_then, between, rounds, room, round, seen)

  pub served_some : (asked many : ℕ) (net net_now users users_now : NetTold L) (old new : State) → many < asked → IsFull new.events → AreRounds told many net net_now users users_now old new
      → HasMadeRounds told asked true net net_now users users_now old new
  served_some asked many net net_now users users_now old new some full rounds = record { many = many; rounds = rounds; all = λ none. absurd (cc none); fewer = λ _. (some, full) }
