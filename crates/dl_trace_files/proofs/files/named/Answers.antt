use Rattle.std.specs.Prelude.{Err}
use Rattle.dl_trace_files.proofs.Looking.{looks_on}
use Rattle.dl_trace_files.proofs.Naming.{sets_out}
use Rattle.dl_trace_files.proofs.files.named.Goals as goal

pub loop-name-init : goal.loop-name-init
loop-name-init g c = sets_out (g.F.Folder.told c.args.folder.now) c.new-all.result.items c.new-all.ensures.items

pub returns-in-Err-clause-looks : goal.returns-in-Err-clause-looks
returns-in-Err-clause-looks g c =
    looks_on (g.F.Folder.told c.args.folder.now) (g.F.Folder.told c.loop-name.folder) (g.F.Folder.told c.files_of.new.folder) (Err c.in-Err.fault) c.loop-name.invariant.left c.loop-name.invariant.well c.in-Err.ensures.looks
