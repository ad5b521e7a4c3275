use Rattle.dl_model.specs.Report.{records_of_app}
use Rattle.dl_runs.proofs.LostUnsaid.{three_answers, admitted_are_queued, all_calls}
use Rattle.dl_runs.proofs.accounts.nothing_is_lost_unsaid.Goals as goal

pub returns-clause-answers : goal.returns-clause-answers
returns-clause-answers c = λ app records. three_answers (records_of_app app records)

pub returns-clause-admitted : goal.returns-clause-admitted
returns-clause-admitted c = λ account app whole. admitted_are_queued account.first account.events account.pending account.refusals account.pushed account.records whole app

pub returns-clause-calls : goal.returns-clause-calls
returns-clause-calls c = λ account app whole. all_calls account.first account.events account.pending account.refusals account.pushed account.records whole app

pub returns-clause-told : goal.returns-clause-told
returns-clause-told c = λ account app whole. whole.told app
