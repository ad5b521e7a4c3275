-- What is left of a server where room was to be made in its journal.
use Rattle.std.proofs.Common.{◌≡◌, sym, ap, subst, ◌∙◌}
use Rattle.dl_outside.specs.Told.{LinkTold}
use Rattle.dl_server.specs.Server.{IsServer, SameLimits}
use Rattle.dl_server.specs.declared.server.Server.{Server}

module _ {J L : Type 0} where
  pub roomy_server : (told : L → LinkTold) (old new : Server J L) → new ≡ record old { journal = new.journal; wanted = new.wanted } → IsServer told old → IsServer told new
  roomy_server told old new rest is = subst (λ (s : Server J L). IsServer told s) (sym rest)
      (record { linked = is.linked; heard = is.heard; programs = is.programs; given = is.given; enough = is.enough; few = is.few; shut = is.shut })

  pub roomy_limits : (old new : Server J L) → new ≡ record old { journal = new.journal; wanted = new.wanted } → SameLimits old new
  roomy_limits old new rest = record { clients = ap (λ (s : Server J L). s.core.hub.limit) rest; channels = ap (λ (s : Server J L). s.channels.in_all) rest }

  pub limits_both : (old between new : Server J L) → SameLimits old between → SameLimits between new → SameLimits old new
  limits_both old between new first second = record { clients = second.clients ∙ first.clients; channels = second.channels ∙ first.channels }
