use Rattle.std.proofs.Common.{◌≡◌, [], ℕ, sym, subst}
use Rattle.dl_hub.specs.Follows as hub
use Rattle.dl_hub.specs.State.{Hub}
use Rattle.dl_core.specs.State.{Core}
use Rattle.dl_core.specs.Settings.{begun_for}
use Rattle.dl_core.specs.Follows.{IsAfter}
use Rattle.dl_core.proofs.Parts.{core_of}
use Rattle.dl_core.proofs.Beginnings.{begins}
use Rattle.dl_core.proofs.daemon.Core.make_for.Goals as goal

pub returns-clause-value : goal.returns-clause-value
returns-clause-value c = λ i. record {
  ecu = c.args.conf.now.ecu;
  level = c.args.conf.now.level;
  injection = c.args.conf.now.injection;
  software = c.args.software;
  registry = c.in_ok-make.ensures i;
  hub = c.in_ok-make_for.ensures.value i;
  trace = c.in_ok-writer_of.ensures i;
}

pub returns-clause-after : goal.returns-clause-after
returns-clause-after c = λ run set none stood.
    let new = core_of c.args.conf.now.ecu c.args.conf.now.level c.args.conf.now.injection c.args.software c.in_ok-make.field-0 c.in_ok-make_for.field-0 c.in_ok-writer_of.field-0 in
    let whole : new ≡ begun_for c.args.software c.args.conf.now c.args.stored c.args.first c.args.trace c.args.clients = returns-clause-value c in
    let hubs = subst (λ (h : Hub). hub.IsAfter [] (λ (n : ℕ). []) h) c.in_ok-make_for.ensures.value c.in_ok-make_for.ensures.after in
    subst (λ (k : Core). IsAfter run [] (λ (n : ℕ). []) k) (sym whole)
    (begins run c.args.software c.args.conf.now c.args.stored c.args.first c.args.clients c.args.trace set none hubs c.requires.trace stood)
