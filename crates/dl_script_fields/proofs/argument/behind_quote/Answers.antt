use Rattle.std.proofs.Common.{◌≡◌, ◌≤◌, length, get_or, arith}
use Rattle.std.proofs.lemmas.Str.{IsCharBoundary-after_ascii}
use Rattle.dl_script_fields.proofs.argument.behind_quote.Goals as goal

pub range_from-requires : goal.range_from-requires
range_from-requires c some =
    let len : 1 ≤ length c.args.text.now = rw c.as_bytes.ensures.value at c.in-len1-up.len_at_least in
    let first : get_or c.args.text.now 0 0 ≡ 34 = rw c.as_bytes.ensures.value at c.if-first-eq34.true in
    IsCharBoundary-after_ascii c.args.text.now 0 c.utf8.text (omega arith) (omega (arith, first))
