use Rattle.std.proofs.Common.{ℕ, List, ◌++◌, ap, ◌∙◌, append_assoc}
use Rattle.dl_receive.specs.Text.{gap_before, kind_line}
use Rattle.dl_receive.proofs.Counters.{on_ok, then_ok}
use Rattle.dl_receive.proofs.printer.Printer.print.Goals as goal

pub returns-clause-keeps : goal.returns-clause-keeps
returns-clause-keeps c = λ before keeps. on_ok c.push_kind.result _ (c.in_ok-add_before.ensures.keeps before keeps c.args.entry.kind)

pub returns-clause-text : goal.returns-clause-text
returns-clause-text c = λ before keeps.
    let entry = c.args.entry in
    let text = c.args.self.now.text.items in
    then_ok c.push_kind.result _ _
    (λ e. e ∙ ap (λ (t : List ℕ). t ++ kind_line entry.kind) (c.in_ok-add_before.ensures.text before keeps) ∙ append_assoc text (gap_before before entry.counter) (kind_line entry.kind))
    c.push_kind.ensures
