use Rattle.std.proofs.Common.{List, ℕ, ◌∷◌, [], ◌++◌, ap, subst, ◌∙◌}
use Rattle.dl_message.specs.Cutting.{Cutting}
use Rattle.dl_receive.specs.declared.counting.Counting.{Counting}
use Rattle.dl_receive.specs.declared.counting.Entry.{Entry}
use Rattle.dl_receive.specs.Counting.{entry_of}
use Rattle.dl_receive.specs.Receiving.{Keeps}
use Rattle.dl_receive.specs.Text.{lines_of}
use Rattle.dl_receive.proofs.Receivers.{message_printed}
use Rattle.dl_receive.proofs.receiver.Receiver.print_whole.Goals as goal

pub loop-self-preserved : goal.loop-self-preserved
loop-self-preserved c =
    let cuts = c.in-Message.ensures.answer in
    let printer = c.print.new.self in
    let old = c.loop-self.self in
    let print = c.in_ok-print-in-Message.ensures in
    record {
      limit = ap (λ (v : Cutting). v.limit) cuts.1 ∙ c.loop-self.invariant.limit;
      after = λ counting stream shown first.
          let after = c.loop-self.invariant.after counting stream shown first in
          let entry = c.entry_of.ensures ∙ ap (entry_of old.counting) c.message.ensures ∙ ap (λ (k : Counting). entry_of k c.next.new.self.message) after.counts in
          message_printed counting stream shown old c.next.new.self printer after cuts
          (λ before keeps. subst (λ (e : Entry). Keeps printer (before ++ e ∷ [])) entry (print.keeps before keeps))
          (λ before keeps. print.text before keeps ∙ ap (λ (e : Entry). old.printer.text.items ++ lines_of before e) entry);
    }
