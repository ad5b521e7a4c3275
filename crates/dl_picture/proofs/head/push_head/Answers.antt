use Rattle.std.proofs.Common.{◌++◌}
use Rattle.std.specs.Prelude.{codes}
use Rattle.dl_picture.specs.Element.{label, rect}
use Rattle.dl_picture.specs.Picture.{front, ground, head, keys}
use Rattle.dl_picture.proofs.Walking.{behind}
use Rattle.dl_picture.proofs.head.push_head.Goals as goal

pub returns : goal.returns
unfolding head
returns c =
    let t1 = c.push_front.new.text.items in
    let t2 = c.push_rect.new.text.items in
    let t3 = c.push_label.new.text.items in
    let t4 = c.push_keys.new.text.items in
    let a = front c.args.height in
    let b = rect (ground c.args.height) (codes "#ffffff") in
    let title = label (record { x = 8; y = 20 }) (codes " font-size='14' font-weight='bold'") c.args.title.now in
    let t0 = c.args.text.now.items in
    behind t0 t3 t4 (a ++ b ++ title) (keys c.args.filters) (behind t0 t2 t3 (a ++ b) title (behind t0 t1 t2 a b c.in_ok-push_front.ensures c.in_ok-push_rect.ensures) c.in_ok-push_label.ensures) c.in_ok-push_keys.ensures
