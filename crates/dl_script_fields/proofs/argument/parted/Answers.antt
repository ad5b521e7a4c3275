use Rattle.dl_script_fields.proofs.Boundaries.{before_colon, behind_colon}
use Rattle.dl_script_fields.proofs.argument.parted.Goals as goal

pub range-requires-clause-end_boundary : goal.range-requires-clause-end_boundary
range-requires-clause-end_boundary c =
    before_colon c.args.text.now c.in_ok-place.place (rw c.as_bytes.ensures.value at c.in_ok-place.ensures.value) (rw c.as_bytes.ensures.value at c.in_ok-place.ensures.within)

pub range_from-requires : goal.range_from-requires
range_from-requires c some =
    behind_colon c.args.text.now c.in_ok-place.place c.utf8.text (rw c.as_bytes.ensures.value at c.in_ok-place.ensures.value) (rw c.as_bytes.ensures.value at c.in_ok-place.ensures.within)
