use Rattle.std.proofs.Common.{Some, [], ◌∷◌, ◌++◌, ap, sym, ◌∙◌}
use Rattle.std.specs.Prelude.{map}
use Rattle.dl_memory.specs.Clients.{link_of}
use Rattle.dl_memory.proofs.Queues.{pushed}
use Rattle.dl_memory.proofs.memory_net.MemoryNetNet.launch.Goals as goal

pub returns-clause-waiting : goal.returns-clause-waiting
returns-clause-waiting c =
    let client = c.in-Ok-prepared.client in
    let more = pushed link_of c.push_back.result c.prepared.new.self.waiting.items c.push_back.new.self.items client (sym c.is_err-2.ensures.value ∙ c.if-is_err-2.false) c.push_back.ensures.items in
    (link_of client, ap Some (more ∙ ap (λ w. map link_of w.items ++ link_of client ∷ []) c.prepared.ensures.waiting))
