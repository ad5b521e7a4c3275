use Rattle.dl_model.specs.ClientStream.{traffic}
use Rattle.dl_core.specs.Follows.{source_of}
use Rattle.dl_core.proofs.laws.what_links_take.Goals as goal

pub returns : goal.returns
returns c = λ run events taken core count client is fits. record {
  set_to = record { ecu = is.set_to.ecu; unit = is.set_to.unit; buffer = is.set_to.buffer; level = is.set_to.level; injection = is.set_to.injection; clients = is.set_to.clients; software = is.set_to.software };
  registry = is.registry;
  hub = c.what_links_take.ensures count client (traffic (source_of run) events) taken core.hub is.hub fits;
  begun = is.begun;
  trace = is.trace;
}
