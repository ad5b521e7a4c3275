use Rattle.dl_fates.proofs.Following.{goes_on}
use Rattle.dl_fates.proofs.follower.Follower.note.Goals as goal

pub returns-clause-after : goal.returns-clause-after
returns-clause-after c = λ events may was.
    goes_on c.args.sources.now events c.args.event.now c.args.self.now c.note.new.waiting c.put_by-more.result c.in-Some.frames c.open_behind-self.result was
    (c.note.ensures.after events may was.waits) c.note.ensures.limit (λ setting same. c.put_by-more.ensures setting events same was) c.in-Some.ensures.1 c.open_behind-self.ensures
