use Rattle.std.proofs.Common.{List, ℕ, sym, subst}
use Rattle.std.specs.Prelude.{◌≡◌, IfOk}
use Rattle.dl_call_timeline.specs.declared.call.Call.{Call}
use Rattle.dl_model.specs.WholeAccounts.{source_of_records}
use Rattle.dl_fates.specs.Found.{TellsWhole}
use Rattle.dl_fates.proofs.CaseLists.{cases_are}
use Rattle.dl_fates.proofs.cases.find_cases.Goals as goal

pub returns : goal.returns
returns c = λ setting same.
    let sources = c.args.sources.now in
    let source = source_of_records setting sources.records.now sources.specs.now in
    let fates = c.in_ok-fates.fates in
    let tells = subst (λ (n : ℕ). TellsWhole source c.args.buffer n c.args.events.now fates.calls) (sym c.in_ok-fates.ensures.client) (c.in_ok-fates.ensures.fates setting same) in
    subst (λ (l : List Call). IfOk c.cases_by.result (λ cases. cases.items ≡ l))
    (cases_are sources.records.now fates source c.args.buffer c.args.events.now c.in_ok-fates.ensures.client tells c.args.calls.now) c.cases_by.ensures
