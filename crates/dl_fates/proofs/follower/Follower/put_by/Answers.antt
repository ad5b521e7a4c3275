use Rattle.std.proofs.Common.{◌≡◌, ◌∙◌, false, rules}
use Rattle.dl_model.specs.Journal.{is_close, is_connect}
use Rattle.dl_model.specs.WholeAccounts.{source_of_records}
use Rattle.dl_fates.proofs.Following.{is_asked, puts_admitted}
use Rattle.dl_fates.proofs.follower.Follower.put_by.Goals as goal

pub returns-in-Log : goal.returns-in-Log
returns-in-Log c = λ setting events same is.
    let comes : is_connect c.args.event.now ≡ false = search rules in
    let goes : is_close c.args.event.now ≡ false = search rules in
    let asks : is_asked c.args.event.now ≡ false = search rules in
    let source = source_of_records setting c.args.sources.now.records.now c.args.sources.now.specs.now in
    c.while_open-in-Log.ensures ∙ puts_admitted source c.args.self.now.waiting.limit c.args.self.now.client events c.args.event.now c.admitted_by.result c.args.self.now.listens comes goes asks
    (c.admitted_by.ensures.batch setting same) (is.opened setting)
