use Rattle.std.proofs.Common.{inr}
use Rattle.dl_outside.specs.Told.{FolderTold, SinkTold, SourceTold}
use Rattle.dl_replay.proofs.Endings.{earlier}
use Rattle.dl_replay.proofs.Folders.{own_files}
use Rattle.dl_replay.proofs.Runs.{refusal_changes}
use Rattle.dl_replay.proofs.program.serve.Goals as goal

pub returns-in-Ok-clause-outcome : goal.returns-in-Ok-clause-outcome
returns-in-Ok-clause-outcome g c =
    let old : FolderTold = g.F.Folder.told c.args.folder.now in
    let mid : FolderTold = g.F.Folder.told c.begin.new.folder in
    let new : FolderTold = g.F.Folder.told c.perform.new.folder in
    let out : SinkTold = g.O.Sink.told c.args.out.now in
    let out_now : SinkTold = g.O.Sink.told c.perform.new.out in
    inr (
      record { start = c.in-Ok.start; said = c.in-Ok.ensures.begins.0; read = c.in-Ok.ensures.begins.1 },
      earlier c.args.task c.in-Ok.start old mid new out out_now c.perform.result c.in-Ok.ensures.begins.2 c.perform.ensures.ends,
    )

pub returns-in-Ok-clause-others : goal.returns-in-Ok-clause-others
returns-in-Ok-clause-others g c =
    own_files c.args.task (g.I.Source.told c.args.input.now).left (g.F.Folder.told c.args.folder.now).files (g.F.Folder.told c.begin.new.folder).files (g.F.Folder.told c.perform.new.folder).files c.in-Ok.start c.in-Ok.ensures.begins.0
    c.in-Ok.ensures.begins.2.unchanged.files c.perform.ensures.others

pub returns-in-Err-clause-others : goal.returns-in-Err-clause-others
returns-in-Err-clause-others g c =
    let input : SourceTold = g.I.Source.told c.args.input.now in
    let input_now : SourceTold = g.I.Source.told c.begin.new.input in
    let old : FolderTold = g.F.Folder.told c.args.folder.now in
    let new : FolderTold = g.F.Folder.told c.begin.new.folder in
    refusal_changes c.args.task input input_now old new c.in-Err.status c.in-Err.ensures.begins
