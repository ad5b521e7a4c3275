use Rattle.std.proofs.Common.{eqb, ◌≡◌, ℕ, ◌+◌, ◌<◌, List, sym, ap, subst, ◌∙◌, arith, option_map}
use Rattle.std.specs.Prelude.{slice_get}
use Rattle.std.specs.List.{find}
use Rattle.dl_lemmas.proofs.Lists.{lent_is}
use Rattle.dl_events.specs.declared.record.Record.{Record}
use Rattle.dl_model.specs.Accounts.{AreNumbered}
use Rattle.dl_model.specs.WholeAccounts.{records_by}
use Rattle.dl_model.proofs.Records.{found_at, none_below, records_at}
use Rattle.dl_report.proofs.batch.record_of.Goals as goal

pub returns-in_err-place : goal.returns-in_err-place
returns-in_err-place c =
    let below : c.args.call < 1 = grind (arith, c.in_err-place.ensures) in
    ap (option_map (λ r. r.now)) c.from_residual.ensures
    ∙ sym (none_below 1 c.args.call (records_by c.args.writer c.args.records.now) (c.requires c.args.writer) below)

pub returns : goal.returns
returns c =
    let at : option_map (λ r. r.now) c.get.result ≡ slice_get c.of.result.now c.in_ok-place.place = lent_is c.of.result.now c.in_ok-place.place c.get.result c.get.ensures.lookup in
    let own : records_by c.args.writer c.args.records.now ≡ c.of.result.now = records_at c.args.writer c.args.records.now c.of.result.now c.if-writer-eq0.false c.of.ensures in
    let numbered : AreNumbered c.of.result.now = subst AreNumbered own (c.requires c.args.writer) in
    let number : 1 + c.in_ok-place.place ≡ c.args.call = omega (arith, c.in_ok-place.ensures.0, c.in_ok-place.ensures.1) in
    at ∙ sym (found_at 1 c.in_ok-place.place c.of.result.now numbered)
    ∙ ap (λ (n : ℕ). find (λ (r : Record). eqb r.item.call n) c.of.result.now) number
    ∙ ap (λ (rs : List Record). find (λ (r : Record). eqb r.item.call c.args.call) rs) (sym own)
