use Rattle.std.proofs.Common.{◌∙◌, ℕ, List, Bool, cond, ap, subst}
use Rattle.std.specs.Prelude.{Some, None, option_map}
use Rattle.dl_why.specs.Program.{Prints, drawing_of}
use Rattle.dl_why.proofs.Ending.{not_drawn, written}
use Rattle.dl_why.proofs.program.write_explanation.Goals as goal

pub returns-in-Ok-put_where_wanted : goal.returns-in-Ok-put_where_wanted
returns-in-Ok-put_where_wanted g c = λ stood rotating.
    let start = c.args.start in
    let drawn = option_map (λ name. name.now) c.args.picture in
    let was = g.O.Sink.told c.args.out.now in
    let now = g.O.Sink.told c.print.new.out in
    written start stood drawn (g.F.Folder.told c.args.folder.now) (g.F.Folder.told c.put_where_wanted.new.folder) was now c.print.result
    (c.in-Ok-put_where_wanted.ensures (drawing_of start.setup start.script) (c.in-Ok.ensures.picture ∙ ap (λ (b : Bool). cond b (Some (drawing_of start.setup start.script)) None) c.is_some.ensures))
    (subst (λ (text : List ℕ). Prints text was now c.print.result) (c.deref.ensures.value ∙ c.in-Ok.ensures.text stood rotating) c.print.ensures)

pub returns : goal.returns
returns g c = λ stood rotating.
    let start = c.args.start in
    not_drawn start stood (option_map (λ name. name.now) c.args.picture) (g.F.Folder.told c.args.folder.now) (g.F.Folder.told c.put_where_wanted.new.folder) (g.O.Sink.told c.args.out.now) c.in-Err.status
    (c.in-Err.ensures (drawing_of start.setup start.script) (c.in-Ok.ensures.picture ∙ ap (λ (b : Bool). cond b (Some (drawing_of start.setup start.script)) None) c.is_some.ensures))
