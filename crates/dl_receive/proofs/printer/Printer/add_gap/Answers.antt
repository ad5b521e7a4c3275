use Rattle.std.proofs.Common.{◌≡◌, ℕ, List, ◌++◌, refl, ap, ◌∙◌}
use Rattle.dl_receive.specs.Text.{gap, gap_line}
use Rattle.dl_receive.proofs.Counters.{keeps_counted, on_ok, then_ok}
use Rattle.dl_receive.proofs.printer.Printer.add_gap.Goals as goal

pub returns-clause-keeps : goal.returns-clause-keeps
returns-clause-keeps c = λ before keeps.
    let new = record c.note.new.self { text = c.push_gap.new.text } in
    on_ok c.push_gap.result _ (λ kind. keeps_counted c.args.self.now new before kind c.args.counter keeps c.in_ok-missing.ensures.noted)

pub returns-clause-text : goal.returns-clause-text
returns-clause-text c = λ before keeps.
    let seid = c.args.counter.counted.seid in
    let text = c.args.self.now.text.items in
    let missing : c.in_ok-missing.missing ≡ gap before c.args.counter = c.in_ok-missing.ensures.missing before keeps in
    let same : c.note.new.self.text.items ≡ text = rw c.note.ensures.text refl in
    then_ok c.push_gap.result _ _
    (λ e. e ∙ ap (λ (t : List ℕ). t ++ gap_line seid c.in_ok-missing.missing) same ∙ ap (λ (n : ℕ). text ++ gap_line seid n) missing) c.push_gap.ensures
