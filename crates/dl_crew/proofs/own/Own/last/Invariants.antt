use Rattle.std.proofs.Common.{◌≡◌, take}
use Rattle.std.specs.Prelude.{IfSome}
use Rattle.dl_model.specs.Along.{last_that}
use Rattle.dl_crew.specs.Calls.{has_name}
use Rattle.dl_crew.proofs.OwnContexts.{there}
use Rattle.dl_crew.proofs.own.Own.last.Given as goal

-- the last of those so far
abbrev pub invariant-loop-ctx : goal.invariant-loop-ctx
invariant-loop-ctx l = record {
  found : l.last ≡ last_that (has_name l.app l.ctid) (there (take l.ctx-index l.ctx-items));
  app : IfSome l.last (λ ctx. ctx.app ≡ l.app);
}
