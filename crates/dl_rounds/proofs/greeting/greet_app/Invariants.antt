use Rattle.std.proofs.Common.{◌≡◌, ◌≤◌, ◌+◌, take, drop}
use Rattle.std.specs.List.{sum_by, AllByRecursion}
use Rattle.dl_turns.specs.State.{side}
use Rattle.dl_rounds.specs.Greetings.{GreetsEach, IsRegistration, MayGreet, apps_in, registered}
use Rattle.dl_rounds.proofs.greeting.greet_app.Given as goal

-- the first messages were noted, and the others may be
abbrev pub invariant-loop-msg : goal.invariant-loop-msg
invariant-loop-msg g l = let s = side in record {
  greets : GreetsEach l.fn.moment (take l.msg-index l.fn.app.hello)
      (s l.fn.core (g.D.WriterControl.told l.fn.desk) (g.J.Journal.events l.fn.journal) (g.F.Folder.told l.fn.folder)) (s l.core (g.D.WriterControl.told l.desk) (g.J.Journal.events l.journal) (g.F.Folder.told l.folder));
  others : AllByRecursion IsRegistration (drop l.msg-index l.fn.app.hello);
  may : MayGreet l.core (g.D.WriterControl.told l.desk) (g.J.Journal.spare l.journal);
  place : registered l.core + sum_by apps_in (drop l.msg-index l.fn.app.hello) ≤ registered l.fn.core + 1;
  apps : (g.D.WriterControl.told l.desk).apps ≡ (g.D.WriterControl.told l.fn.desk).apps;
  spare : g.J.Journal.spare l.fn.journal ≤ g.J.Journal.spare l.journal;
  same : g.D.WriterControl.same_rest l.fn.desk l.desk;
}
