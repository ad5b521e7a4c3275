use Rattle.std.proofs.Common.{refl}
use Rattle.std.specs.Prelude.{option_map}
use Rattle.dl_core.specs.Settings.{setting_of}
use Rattle.dl_trace.specs.InFolder.{HasFiles}
use Rattle.dl_why.specs.Program.{told}
use Rattle.dl_why.proofs.Ending.{ended, not_begun, not_looked, told_before}
use Rattle.dl_startup.proofs.Told.{quiet_on}
use Rattle.dl_why.proofs.program.explain_steps.Goals as goal

pub returns-in-Err : goal.returns-in-Err
returns-in-Err g c =
    not_begun (option_map (λ name. name.now) c.args.picture) (g.I.Source.told c.args.input.now) (g.I.Source.told c.begin.new.input) (g.F.Folder.told c.args.folder.now) (g.F.Folder.told c.begin.new.folder)
    (g.O.Sink.told c.args.out.now) c.in-Err.status c.in-Err.ensures.begins

pub returns-in-Ok-look_at_trace : goal.returns-in-Ok-look_at_trace
returns-in-Ok-look_at_trace g c =
    let begins = c.in-Ok.ensures.begins in
    let looks = c.in-Ok-look_at_trace.ensures in
    let start = c.in-Ok.start in
    let stood = looks.0.stood in
    let first = g.F.Folder.told c.args.folder.now in
    let begun = g.F.Folder.told c.begin.new.folder in
    let looked = g.F.Folder.told c.look_at_trace.new.folder in
    ended start stood (option_map (λ name. name.now) c.args.picture) (told (g.I.Source.told c.args.input.now) first (g.O.Sink.told c.args.out.now))
    (told (g.I.Source.told c.begin.new.input) (g.F.Folder.told c.write_explanation.new.folder) (g.O.Sink.told c.write_explanation.new.out)) looked c.write_explanation.result begins.0
    (λ some. told_before (λ files. HasFiles start.setup.conf.directory files stood) first.files begun.files begins.2.unchanged.files (looks.0.stand some)) begins.1
    (quiet_on first begun looked begins.2 looks.1)
    (c.write_explanation.ensures stood (looks.0.rotates (setting_of start.setup.conf start.setup.stored 0) (record { directory = refl; file_size = refl; max_size = refl })))

pub returns-in-Err-look_at_trace : goal.returns-in-Err-look_at_trace
returns-in-Err-look_at_trace g c =
    let begins = c.in-Ok.ensures.begins in
    not_looked (option_map (λ name. name.now) c.args.picture) c.in-Ok.start.setup.conf (g.I.Source.told c.args.input.now) (g.I.Source.told c.begin.new.input) (g.F.Folder.told c.args.folder.now)
    (g.F.Folder.told c.begin.new.folder) (g.F.Folder.told c.look_at_trace.new.folder) (g.O.Sink.told c.args.out.now) c.in-Err-look_at_trace.status begins.2 c.in-Err-look_at_trace.ensures
