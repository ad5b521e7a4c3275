use Rattle.std.proofs.Common.{◌<◌, ◌^◌, List, sym, subst, arith}
use Rattle.dl_events.specs.declared.event.Event.{Event}
use Rattle.dl_report.specs.Losses.{told}
use Rattle.dl_account.specs.Settled.{refusals_of}
use Rattle.dl_ending.specs.Ending.{claims_of, records_of}
use Rattle.dl_ending.proofs.finishing.report_of.Goals as goal

-- the journal tells no more lost calls than there are records
pub left_of-backlog-requires-clause-losses : goal.left_of-backlog-requires-clause-losses
left_of-backlog-requires-clause-losses c =
    let account = c.args.account.now in
    let told_few = c.records_account_for_a_journal.ensures.told c.requires.setting.first account.events (λ app. 0) (refusals_of account.books) (claims_of account) (records_of account) c.requires.is_account.accounted in
    subst (λ (events : List Event). told events < 2 ^ 63) (sym c.events-events.ensures) (omega (arith, told_few, c.requires.few))
