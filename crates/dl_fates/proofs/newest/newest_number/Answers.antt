use Rattle.std.proofs.Common.{◌∙◌}
use Rattle.dl_fates.proofs.NamedNumbers.{newest_more}
use Rattle.dl_fates.proofs.newest.newest_number.Goals as goal

pub loop-file-preserved : goal.loop-file-preserved
loop-file-preserved c = λ directory stood are small.
    newest_more directory c.args.files.now stood c.loop-file.file-index c.loop-file.newest c.number_in.result c.greater-newest.result c.file-item.result are small c.loop-file-test.true c.file-item.is
    (λ number within named. c.number_in.ensures directory number within (c.all.ensures ∙ named)) (c.loop-file.invariant directory stood are small) c.greater-newest.ensures
