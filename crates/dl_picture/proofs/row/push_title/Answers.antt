use Rattle.std.proofs.Common.{◌++◌}
use Rattle.std.specs.Prelude.{codes}
use Rattle.dl_picture.specs.Element.{escaped}
use Rattle.dl_picture.specs.Row.{bin_title, count_words, line_words}
use Rattle.dl_picture.proofs.Walking.{behind}
use Rattle.dl_picture.proofs.row.push_title.Goals as goal

pub returns : goal.returns
unfolding bin_title
returns c =
    let bin = c.args.bin.now in
    let t1 = c.push_escaped.new.text.items in
    let t2 = c.push_lines.new.text.items in
    let t3 = c.push_count.new.text.items in
    let t4 = c.push_count-2.new.text.items in
    let t5 = c.push_count-3.new.text.items in
    let t6 = c.push_count-4.new.text.items in
    let a = escaped c.args.name.now in
    let l = line_words bin.first_line bin.last_line in
    let w1 = count_words (codes ", messages ") bin.messages in
    let w2 = count_words (codes ", missing ") bin.missing in
    let w3 = count_words (codes ", told as lost ") bin.lost in
    let w4 = count_words (codes ", filtered ") bin.filtered in
    let t0 = c.args.text.now.items in
    behind t0 t5 t6 (a ++ l ++ w1 ++ w2 ++ w3) w4
    (behind t0 t4 t5 (a ++ l ++ w1 ++ w2) w3
    (behind t0 t3 t4 (a ++ l ++ w1) w2 (behind t0 t2 t3 (a ++ l) w1 (behind t0 t1 t2 a l c.in_ok-push_escaped.ensures c.in_ok-push_lines.ensures) c.in_ok-push_count.ensures) c.in_ok-push_count-2.ensures)
    c.in_ok-push_count-3.ensures)
    c.in_ok-push_count-4.ensures
