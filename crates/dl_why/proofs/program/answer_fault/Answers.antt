use Rattle.dl_why.proofs.Ending.{says}
use Rattle.dl_why.proofs.program.answer_fault.Goals as goal

pub returns : goal.returns
returns g c = record {
  status = c.fault_status-status.result;
  number_is = c.number.ensures;
  ends = c.fault_status-status.ensures;
  said = says c.fault_status-status.result (g.E.Sink.told c.args.err.now) (g.E.Sink.told c.say.new.err) c.say.ensures.silent c.say.ensures.told;
}
