use Rattle.std.proofs.Common.{◌==◌, ap, sym, ◌∙◌}
use Rattle.dl_registry.proofs.Informing.{nobody-listed}
use Rattle.dl_registry.proofs.registry.Registry.names_nobody.Goals as goal

pub returns : goal.returns
returns c = ap (λ n. n == 0) c.listed.ensures ∙ sym (nobody-listed c.args.apid c.args.ctid c.args.self.now.registry.apps)
