use Rattle.std.proofs.Common.{◌≡◌, ◌≤◌, ◌+◌, take}
use Rattle.dl_turns.specs.State.{side}
use Rattle.dl_rounds.specs.Greetings.{GreetsEach, MayGreet, hello_of, registered}
use Rattle.dl_rounds.proofs.greeting.greet.Given as goal

-- the first applications have told all
abbrev pub invariant-loop-place : goal.invariant-loop-place
invariant-loop-place g l = let s = side in record {
  greets : GreetsEach l.fn.moment (hello_of (take l.place l.fn.apps))
      (s l.fn.core (g.D.WriterControl.told l.fn.desk) (g.J.Journal.events l.fn.journal) (g.F.Folder.told l.fn.folder)) (s l.core (g.D.WriterControl.told l.desk) (g.J.Journal.events l.journal) (g.F.Folder.told l.folder));
  may : MayGreet l.core (g.D.WriterControl.told l.desk) (g.J.Journal.spare l.journal);
  place : registered l.core ≤ registered l.fn.core + l.place;
  apps : (g.D.WriterControl.told l.desk).apps ≡ (g.D.WriterControl.told l.fn.desk).apps;
  spare : g.J.Journal.spare l.fn.journal ≤ g.J.Journal.spare l.journal;
  same : g.D.WriterControl.same_rest l.fn.desk l.desk;
}
