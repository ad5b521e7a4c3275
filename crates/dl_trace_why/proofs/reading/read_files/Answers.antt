use Rattle.std.proofs.Common.{◌≡◌, ◌∷◌, length, ap, arith}
use Rattle.std.specs.Vec.Iter.{into_iter_items, into_iter_len}
use Rattle.dl_trace_why.proofs.Stopping.{goes_on}
use Rattle.dl_trace_why.proofs.reading.read_files.Goals as goal

pub loop-name-preserved : goal.loop-name-preserved
loop-name-preserved g c =
    let at = c.loop-name in
    let steps : into_iter_items at.name-iterator ≡ c.in-Some.name ∷ into_iter_items c.next.new.self = c.in-Some.ensures.steps.0 in
    let was = at.invariant.count_is in
    let gone = c.in-Some.ensures.steps.1 in
    let short = ap length steps in
    let counted : into_iter_len c.next.new.self ≡ length (into_iter_items c.next.new.self) = omega arith in
    goes_on c.args.is_alone (g.F.Folder.told c.args.folder.now) (g.F.Folder.told at.folder) (g.F.Folder.told c.add_file.new.folder) (into_iter_items c.into_iter-name-iterator.result) at.yielded
    (into_iter_items at.name-iterator) (into_iter_items c.next.new.self) c.in-Some.name (into_iter_len at.name-iterator) (into_iter_len c.next.new.self) at.reading c.add_file.new.reading at.invariant steps counted
    (c.in-Ok.ensures.adds at.invariant.told.0 at.invariant.told.1) c.in-Ok.ensures.left
