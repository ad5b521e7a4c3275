use Rattle.std.proofs.Common.{refl, inl, inr}
use Rattle.dl_why.proofs.program.run_file.Goals as goal

pub returns-in-Ok : goal.returns-in-Ok
returns-in-Ok g c =
    inl (record { text = c.in-Ok.text; read = g.F.Folder.told c.text_in.new.folder; has = c.in-Ok.ensures; runs = c.run_text.ensures })

pub returns-in-Err : goal.returns-in-Err
returns-in-Err g c =
    inr (record { status = c.in-Err.status; lacks = c.in-Err.ensures; silent = refl; number_is = c.refuse.ensures.number; said = c.refuse.ensures.said })
