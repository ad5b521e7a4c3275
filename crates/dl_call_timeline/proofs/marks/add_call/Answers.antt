use Rattle.std.proofs.Common.{◌++◌, ◌∷◌, [], List, subst, append_assoc}
use Rattle.std.specs.Prelude.{OnOk}
use Rattle.dl_picture.specs.Tally.{Keeps}
use Rattle.dl_picture.specs.declared.tally.Mark.{Mark}
use Rattle.dl_call_timeline.specs.Marks.{own_mark, record_marks}
use Rattle.dl_call_timeline.proofs.marks.add_call.Goals as goal

pub returns : goal.returns
returns c = λ calls marks columns keeps.
    let scale = c.args.scale.now in
    let call = c.args.call.now in
    let own : Mark = own_mark scale call in
    let first = subst (λ (m : Mark). Keeps c.add.new.self (marks ++ m ∷ [])) c.own_mark.ensures (c.in_ok-add.ensures marks keeps) in
    subst (λ (l : List Mark). OnOk c.add_record.result (Keeps c.add_record.new.tally l)) (append_assoc marks (own ∷ []) (record_marks scale calls call)) (c.add_record.ensures scale calls (marks ++ own ∷ []) columns first)
