use Rattle.dl_why.proofs.Ending.{no_name, put, some_drawn}
use Rattle.dl_why.proofs.drawing.put_where_wanted.Goals as goal

pub returns-in-Some-drawn : goal.returns-in-Some-drawn
returns-in-Some-drawn g c = λ text is.
    put (λ name. name.now) (λ shown. shown.items) c.args.name c.args.drawn.now text is c.in-Some.name c.in-Some-drawn.text c.deref.result.now (g.F.Folder.told c.args.folder.now)
    (g.F.Folder.told c.put_picture.new.folder) c.put_picture.result c.in-Some.is c.in-Some-drawn.is c.deref.ensures.value c.put_picture.ensures

pub returns-in-None : goal.returns-in-None
returns-in-None g c = λ text is. absurd (some_drawn (λ name. name.now) (λ shown. shown.items) c.args.name c.args.drawn.now text is c.in-Some.name c.in-Some.is c.in-None.is)

pub returns-in_default : goal.returns-in_default
returns-in_default g c = λ text is. no_name (λ name. name.now) (λ shown. shown.items) c.args.name c.args.drawn.now text is (g.F.Folder.told c.args.folder.now) c.in_default.is
