use Rattle.std.proofs.Common.{◌∙◌, ap}
use Rattle.dl_startup.specs.Failures.{status_of}
use Rattle.dl_startup.specs.declared.failures.Failures.{Failures}
use Rattle.dl_ending.specs.Ending.{failures_with, text_of}
use Rattle.dl_ending.specs.Storage.{report_text, with_storage}
use Rattle.dl_ending.proofs.Finished.{finished, two_texts}
use Rattle.dl_ending.proofs.finishing.finish.Goals as goal

pub returns : goal.returns
returns g c = λ setting is.
    finished (report_text setting c.args.account.now c.args.filters.now c.args.ends.now.filters) (with_storage c.args.ends.now.filters (failures_with c.args.account.now c.args.failures))
    (g.O.Sink.told c.args.out.now) (g.O.Sink.told c.write_pieces.new.out) c.write_pieces.result c.is_err-output.result c.status.result
    (two_texts c.all.result.now c.all-2.result.now (text_of setting c.args.account.now) _ (c.all.ensures ∙ c.in-Ok.ensures setting is) (c.all-2.ensures ∙ c.in-Ok-storage_lines.ensures))
    c.write_pieces.ensures.ok c.write_pieces.ensures.front c.is_err-output.ensures.value
    (c.status.ensures ∙ ap (λ (f : Failures). status_of (record f { output = c.is_err-output.result }))
    (c.with_storage-failures.ensures ∙ ap (with_storage c.args.ends.now.filters) c.failures_with.ensures))
