use Rattle.std.proofs.Common.{Err, ◌≡◌, ◌∙◌, ap, sym}
use Rattle.dl_conf.specs.Stored.{stored_said}
use Rattle.dl_startup.proofs.StoredText.{says_of_text}
use Rattle.dl_startup.proofs.setup.stored_in.Goals as goal

pub returns-in-Err-Fault-clause-said : goal.returns-in-Err-Fault-clause-said
returns-in-Err-Fault-clause-said g c =
    let refused : stored_said c.all.result.now ≡ Err (c.in-Err-Fault.line, c.in-Err-Fault.kind) = rw c.in-Err-Fault.field-0-is at c.in-Err-Fault.ensures in
    says_of_text (g.F.Folder.told c.args.folder.now).files c.in-Ok-Some.field-0 c.in-Ok-Some.text (Err (c.in-Err-Fault.line, c.in-Err-Fault.kind)) c.in-Ok-Some.ensures.found c.in-Ok-Some.field-0-is (ap stored_said (sym c.all.ensures) ∙ refused)
