use Rattle.std.proofs.Common.{[], ◌∷◌, sym, ap, ◌∙◌}
use Rattle.dl_trace_files.specs.Files.{with_name}
use Rattle.dl_trace_files.proofs.Naming.{with_names-append}
use Rattle.dl_trace_files.proofs.files.once.Goals as goal

pub loop-name-preserved : goal.loop-name-preserved
loop-name-preserved c =
    c.in_ok-add_once.ensures ∙ (ap (λ all. with_name all c.in-Some.name) c.loop-name.invariant ∙ sym (with_names-append [] c.loop-name.yielded (c.in-Some.name ∷ [])))
