use Rattle.std.proofs.Common.{sym, ◌∙◌, subst, arith, Err}
use Rattle.dl_bytes.specs.declared.outcome.TraceEnd.{TraceEnd}
use Rattle.dl_trace.specs.Steps.{names_of, RemovesAll}
use Rattle.dl_trace.proofs.Removing.{removes_one_of, stops_there_at}
use Rattle.dl_trace.proofs.files.remove_all.Goals as goal

pub returns-in-Err-clause-folder : goal.returns-in-Err-clause-folder
returns-in-Err-clause-folder g c =
    subst (λ (end : TraceEnd). RemovesAll (g.F.Folder.told c.args.folder.now).files (g.F.Folder.told c.remove.new.self).files (Err end) (names_of c.args.files.now)) (sym c.end_of.ensures)
    (stops_there_at (g.F.Folder.told c.args.folder.now).files (g.F.Folder.told c.loop-file.folder).files (g.F.Folder.told c.remove.new.self).files c.args.files.now c.loop-file.file-index c.file-item.result c.as_text.result.now c.in-Err.fault
    (omega arith) c.file-item.is (c.as_text.ensures ∙ c.all.ensures) c.loop-file.invariant.0 c.in-Err.ensures.files)

pub loop-file-preserved : goal.loop-file-preserved
loop-file-preserved g c = (
  removes_one_of (g.F.Folder.told c.args.folder.now).files (g.F.Folder.told c.loop-file.folder).files (g.F.Folder.told c.remove.new.self).files c.args.files.now c.loop-file.file-index c.file-item.result c.as_text.result.now
      (omega arith) c.file-item.is (c.as_text.ensures ∙ c.all.ensures) c.loop-file.invariant.0 c.in-Ok.ensures.files,
  c.in-Ok.ensures.cause ∙ c.loop-file.invariant.1,
  c.remove.ensures.unappended ∙ c.loop-file.invariant.2,
)
