use Rattle.std.proofs.Common.{◌++◌}
use Rattle.std.specs.Prelude.{codes}
use Rattle.dl_picture.specs.Picture.{filter_key, key, keys}
use Rattle.dl_picture.specs.Row.{lost_colour, message_colour, missing_colour}
use Rattle.dl_picture.proofs.Walking.{behind}
use Rattle.dl_picture.proofs.head.push_keys.Goals as goal

pub returns : goal.returns
unfolding keys
returns c =
    let t1 = c.push_key.new.text.items in
    let t2 = c.push_key-2.new.text.items in
    let t3 = c.push_key-3.new.text.items in
    let t4 = c.push_filter_key.new.text.items in
    let k1 = key 200 message_colour (codes "messages") in
    let k2 = key 300 missing_colour (codes "missing") in
    let k3 = key 400 lost_colour (codes "told as lost") in
    let k4 = filter_key c.args.filters in
    let t0 = c.args.text.now.items in
    behind t0 t3 t4 (k1 ++ k2 ++ k3) k4 (behind t0 t2 t3 (k1 ++ k2) k3 (behind t0 t1 t2 k1 k2 c.in_ok-push_key.ensures c.in_ok-push_key-2.ensures) c.in_ok-push_key-3.ensures) c.in_ok-push_filter_key.ensures
