use Rattle.std.proofs.Common.{◌∙◌}
use Rattle.dl_outside.proofs.Staying.{stays_same}
use Rattle.dl_trace_why.proofs.Ending.{drawn_by}
use Rattle.dl_trace_why.proofs.writing.draw_into.Goals as goal

pub returns-in-Ok : goal.returns-in-Ok
returns-in-Ok g c = λ stream at.
    drawn_by c.args.name.now c.deref.result.now stream (g.F.Folder.told c.args.folder.now) (g.F.Folder.told c.put_picture.new.folder) c.put_picture.result (c.deref.ensures.value ∙ c.in-Ok.ensures stream at)
    c.put_picture.ensures

pub returns-in-Err : goal.returns-in-Err
returns-in-Err g c = λ stream at. stays_same (g.F.Folder.told c.args.folder.now).files
