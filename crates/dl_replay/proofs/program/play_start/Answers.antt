use Rattle.std.proofs.Common.{◌≤◌, ℕ, subst}
use Rattle.dl_outside.specs.Told.{FolderTold}
use Rattle.dl_replay.proofs.Playings.{changes_own, is_run, own_stay}
use Rattle.dl_replay.proofs.program.play_start.Goals as goal

pub returns-in-Err-Failed-clause-others : goal.returns-in-Err-Failed-clause-others
returns-in-Err-Failed-clause-others g c =
    own_stay c.args.start (g.F.Folder.told c.args.folder.now).files (g.F.Folder.told c.trace_over.new.folder).files c.in-Err-Failed.ensures.stays

pub returns-in-Err-OutOfMemory-clause-others :
    goal.returns-in-Err-OutOfMemory-clause-others
returns-in-Err-OutOfMemory-clause-others g c =
    own_stay c.args.start (g.F.Folder.told c.args.folder.now).files (g.F.Folder.told c.trace_over.new.folder).files c.in-Err-OutOfMemory.ensures.stays

pub returns-in-Ok-play-clause-plays : goal.returns-in-Ok-play-clause-plays
returns-in-Ok-play-clause-plays g c =
    let old : FolderTold = g.F.Folder.told c.args.folder.now in
    let new : FolderTold = g.F.Folder.told c.play.new.folder in (
      is_run c.args.start old (g.F.Folder.told c.trace_over.new.folder) new c.in-Ok.trace c.in-Ok-play.played c.in-Ok.ensures.stays c.in-Ok.ensures.cause c.in-Ok.ensures.begun
          c.in-Ok-play.ensures.played,
      subst (λ (n : ℕ). n ≤ (g.F.Folder.told c.play.new.folder).faults) c.in-Ok.ensures.cause c.in-Ok-play.ensures.later,
    )

pub returns-in-Ok-play-clause-others : goal.returns-in-Ok-play-clause-others
returns-in-Ok-play-clause-others g c =
    changes_own c.args.start (g.F.Folder.told c.args.folder.now).files (g.F.Folder.told c.trace_over.new.folder).files (g.F.Folder.told c.play.new.folder).files c.in-Ok.trace c.in-Ok.ensures.stays c.in-Ok.ensures.begun
    c.in-Ok-play.ensures.others

pub returns-clause-others : goal.returns-clause-others
returns-clause-others g c =
    changes_own c.args.start (g.F.Folder.told c.args.folder.now).files (g.F.Folder.told c.trace_over.new.folder).files (g.F.Folder.told c.play.new.folder).files c.in-Ok.trace c.in-Ok.ensures.stays c.in-Ok.ensures.begun c.in-Err.ensures.others
