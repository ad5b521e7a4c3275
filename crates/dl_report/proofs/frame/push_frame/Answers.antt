use Rattle.std.proofs.Common.{◌∙◌, arith}
use Rattle.dl_report.proofs.Spelling.{line_ended, some_letters}
use Rattle.dl_report.proofs.frame.push_frame.Goals as goal

pub overflow_sub-blank : goal.overflow_sub-blank
overflow_sub-blank c =
    some_letters c.args.text.now.items c.push_bytes.new.text.items c.args.frame.now c.len-blank.result (grind (arith, c.if-is_empty.ensures))
    c.in_ok-push_bytes.ensures (c.len-blank.ensures ∙ c.push_bytes.new.text.ok.0)

pub index_mut-requires : goal.index_mut-requires
index_mut-requires c =
    let some = some_letters c.args.text.now.items c.push_bytes.new.text.items c.args.frame.now c.len-blank.result (grind (arith, c.if-is_empty.ensures))
    c.in_ok-push_bytes.ensures (c.len-blank.ensures ∙ c.push_bytes.new.text.ok.0) in
    omega (arith, some, c.len-blank.ensures)

pub returns : goal.returns
returns c =
    line_ended c.args.text.now.items c.push_bytes.new.text.items c.args.frame.now c.len-blank.result (grind (arith, c.if-is_empty.ensures))
    c.in_ok-push_bytes.ensures (c.len-blank.ensures ∙ c.push_bytes.new.text.ok.0)
