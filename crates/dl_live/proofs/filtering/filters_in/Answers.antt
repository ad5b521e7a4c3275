use Rattle.std.proofs.Common.{Err, Ok, ◌≡◌, ◌∙◌, ap, map, sym}
use Rattle.dl_storage.specs.FilterWhole.{storage_said, wanted_of}
use Rattle.dl_live.proofs.FiltersText.{says_of_text}
use Rattle.dl_live.proofs.filtering.filters_in.Goals as goal

pub returns-in-Ok-clause-said : goal.returns-in-Ok-clause-said
returns-in-Ok-clause-said g c =
    says_of_text (g.F.Folder.told c.args.folder.now).files c.in-Ok-Some.field-0 c.in-Ok-Some.text (Ok (map wanted_of c.in-Ok.filters)) c.in-Ok-Some.ensures.found c.in-Ok-Some.field-0-is
    (ap storage_said (sym c.all.ensures) ∙ c.in-Ok.ensures)

pub returns-in-Err-Fault-clause-said : goal.returns-in-Err-Fault-clause-said
returns-in-Err-Fault-clause-said g c =
    let refused : storage_said c.all.result.now ≡ Err (c.in-Err-Fault.line, c.in-Err-Fault.kind) = rw c.in-Err-Fault.field-0-is at c.in-Err-Fault.ensures in
    says_of_text (g.F.Folder.told c.args.folder.now).files c.in-Ok-Some.field-0 c.in-Ok-Some.text (Err (c.in-Err-Fault.line, c.in-Err-Fault.kind)) c.in-Ok-Some.ensures.found c.in-Ok-Some.field-0-is
    (ap storage_said (sym c.all.ensures) ∙ refused)
