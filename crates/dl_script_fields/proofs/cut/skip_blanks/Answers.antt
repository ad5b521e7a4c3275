use Rattle.dl_script_fields.proofs.Boundaries.{past_blanks}
use Rattle.dl_script_fields.proofs.cut.skip_blanks.Goals as goal

pub range_from-requires : goal.range_from-requires
range_from-requires c some =
    rw (c.unwrap_or-blanks.ensures, c.first_letter.ensures.value, c.as_bytes.ensures.value) (past_blanks c.args.text.now c.utf8.text)
