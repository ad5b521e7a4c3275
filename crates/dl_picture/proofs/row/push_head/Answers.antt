use Rattle.std.proofs.Common.{◌+◌, ◌++◌, ℕ, List, ap, ◌∙◌}
use Rattle.std.specs.Prelude.{codes}
use Rattle.dl_picture.specs.Element.{label, rect}
use Rattle.dl_picture.specs.Row.{row_head}
use Rattle.dl_picture.proofs.Walking.{behind}
use Rattle.dl_picture.proofs.row.push_head.Goals as goal

pub returns : goal.returns
unfolding row_head
returns c =
    let top = c.args.top in
    let t0 = c.args.text.now.items in
    let t1 = c.push_label.new.text.items in
    let t2 = c.push_label-2.new.text.items in
    let t3 = c.push_rect.new.text.items in
    let t4 = c.push_rect-2.new.text.items in
    let name : List ℕ → List ℕ = label (record { x = 8; y = top + 20 }) (codes " font-weight='bold'") in
    let note : List ℕ → List ℕ = label (record { x = 8; y = top + 38 }) (codes " fill='#666666'") in
    let ground = rect (record { x = 200; y = top; width = 960; height = 54 }) (codes "#f2f2f2") in
    let line = rect (record { x = 200; y = top + 30; width = 960; height = 1 }) (codes "#bbbbbb") in
    let n1 = c.deref.result.now in
    let n2 = c.deref-2.result.now in
    behind t0 t3 t4 (name n1 ++ note n2 ++ ground) line
    (behind t0 t2 t3 (name n1 ++ note n2) ground (behind t0 t1 t2 (name n1) (note n2) c.in_ok-push_label.ensures c.in_ok-push_label-2.ensures) c.in_ok-push_rect.ensures) c.in_ok-push_rect-2.ensures
    ∙ ap (λ (n : List ℕ). t0 ++ (name n ++ note n2 ++ ground ++ line)) c.deref.ensures.value
    ∙ ap (λ (n : List ℕ). t0 ++ (name c.args.row.now.name.items ++ note n ++ ground ++ line)) c.deref-2.ensures.value
