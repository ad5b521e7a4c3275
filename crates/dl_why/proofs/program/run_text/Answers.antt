use Rattle.std.proofs.Common.{ℕ, List, Some, sym, ap, subst, ◌∙◌, option_map}
use Rattle.dl_outside.specs.Told.{SourceTold}
use Rattle.dl_memory.specs.Kept.{Supply}
use Rattle.dl_why.specs.Program.{RunsSteps, told}
use Rattle.dl_why.proofs.program.run_text.Goals as goal

pub returns : goal.returns
returns g c =
    let over : SourceTold = record { left = Some c.run_steps.new.input.bytes; faults = 0 } in
    let bytes = ap (λ (s : Supply). s.bytes) c.make-input.ensures ∙ c.into_vec.ensures in (
      over,
      subst (λ (b : List ℕ). RunsSteps (option_map (λ name. name.now) c.args.picture) (told (record { left = Some b; faults = 0 }) (g.F.Folder.told c.args.folder.now) (g.O.Sink.told c.args.out.now))
          (told over (g.F.Folder.told c.run_steps.new.folder) (g.O.Sink.told c.run_steps.new.out)) (g.E.Sink.told c.args.err.now) (g.E.Sink.told c.run_steps.new.err) c.run_steps.result)
          bytes c.run_steps.ensures,
    )
