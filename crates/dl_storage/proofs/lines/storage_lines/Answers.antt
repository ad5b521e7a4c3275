use Rattle.std.proofs.Common.{◌∙◌}
use Rattle.std.proofs.lemmas.Slice.Zip.{either_empty_from_Zip}
use Rattle.dl_storage.proofs.LastLines.{at_end}
use Rattle.dl_storage.proofs.lines.storage_lines.Goals as goal

pub returns : goal.returns
returns c =
    c.over.ensures
    ∙ at_end c.loop-filter.text.items c.loop-filter.filter-iterator.a.rest.now c.loop-filter.filter-iterator.b.rest.now _
    (either_empty_from_Zip c.loop-filter.filter-iterator c.next.new.self c.next.result c.in-None.is c.next.ensures.steps) c.loop-filter.invariant
