use Rattle.std.proofs.Common.{List, ◌∷◌, [], ◌++◌, Option, sym, subst}
use Rattle.dl_receive.specs.declared.counting.Counter.{Counter}
use Rattle.dl_receive.specs.Counting.{entry_with}
use Rattle.dl_receive.specs.Receiving.{Keeps}
use Rattle.dl_receive.proofs.Counters.{keeps_other}
use Rattle.dl_receive.proofs.printer.Printer.add_before.Goals as goal

pub returns-in-None-clause-keeps : goal.returns-in-None-clause-keeps
returns-in-None-clause-keeps c = λ before keeps kind.
    subst (λ (o : Option Counter). Keeps c.args.self.now (before ++ entry_with kind o ∷ [])) (sym c.in-None.is) (keeps_other c.args.self.now before kind keeps)
