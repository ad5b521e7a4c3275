use Rattle.std.proofs.Common.{◌≡◌, ◌++◌, List, ℕ, sym, ap, subst, ◌∙◌}
use Rattle.std.specs.Prelude.{OnOk}
use Rattle.dl_model.specs.WholeAccounts.{source_of_records}
use Rattle.dl_fates.specs.Found.{TellsWhole}
use Rattle.dl_fates.specs.Claims.{claim_words, slots_claimed}
use Rattle.dl_fates.specs.Rows.{more_words}
use Rattle.dl_fates.specs.Written.{more_by, storage_by}
use Rattle.dl_fates.proofs.Lawful.{rows_are}
use Rattle.dl_fates.proofs.findings.push_findings.Goals as goal

pub returns : goal.returns
returns c = λ setting stood same rotating.
    let sources = c.args.sources.now in
    let source = source_of_records setting sources.records.now sources.specs.now in
    let nobody = c.in_ok-find_fates.field-0 in
    let claims = c.args.claims.now in
    let taken = c.in_ok-slots_claimed.field-0.items in
    let tells = subst (λ (n : ℕ). TellsWhole source c.args.buffer n c.args.events.now nobody.calls) (sym c.in_ok-find_fates.ensures.client) (c.in_ok-find_fates.ensures.fates setting same) in
    subst (λ (rows : List ℕ). OnOk c.push_rows.result (c.push_rows.new.text.items ≡ c.args.text.now.items ++ rows))
    (rows_are source c.args.buffer c.args.events.now sources.specs.now nobody c.in_ok-find_all.field-0.items c.in_ok-find_fates.ensures.client tells (c.in_ok-find_all.ensures.fates setting same)
    c.in_ok-find_all.ensures.clients (more_by claims taken c.args.directory.now c.in_ok-find_storage.field-0) (more_words setting stood source c.args.events.now claims)
    (λ at r. ap (λ (slots : List ℕ). claim_words claims slots at r ++ storage_by c.args.directory.now c.in_ok-find_storage.field-0 r) c.in_ok-slots_claimed.ensures
    ∙ ap (λ (text : List ℕ). claim_words claims (slots_claimed c.args.events.now) at r ++ text) (c.in_ok-find_storage.ensures setting stood r same rotating)) sources.records.now c.args.calls.now) c.push_rows.ensures
