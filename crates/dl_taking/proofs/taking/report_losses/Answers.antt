use Rattle.std.proofs.Common.{ℕ, subst}
use Rattle.dl_admission.specs.Admission.{Uses}
use Rattle.dl_taking.proofs.Steps.{one_report}
use Rattle.dl_taking.proofs.taking.report_losses.Goals as goal

pub returns-clause-reports : goal.returns-clause-reports
returns-clause-reports g c = record {
  moment = c.now.result;
  apid = c.apid-apid.result;
  its_apid = c.apid-apid.ensures;
  took = c.losses-count.ensures.reported;
  small = c.losses-count.ensures.small;
  tells = c.tell.ensures.tells;
  uses = subst (λ (n : ℕ). Uses n c.args.core.now.hub c.tell.new.core.hub (g.J.Journal.noted c.args.journal.now) (g.J.Journal.noted c.tell.new.journal)
      (g.J.Journal.spare c.args.journal.now) (g.J.Journal.spare c.tell.new.journal)) (one_report c.args.core.now.ecu c.args.app c.apid-apid.result c.losses-count.result c.now.result) c.tell.ensures.uses;
  desk = c.losses-count.ensures.told;
}
