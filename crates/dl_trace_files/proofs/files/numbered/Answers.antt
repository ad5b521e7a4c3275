use Rattle.std.proofs.Common.{rules, filter, ap, ◌∙◌}
use Rattle.std.proofs.lemmas.Fn.{filter_same}
use Rattle.dl_trace_files.specs.Files.{is_trace_name}
use Rattle.dl_trace_files.proofs.files.numbered.Goals as goal

pub returns : goal.returns
returns c =
    c.over.ensures ∙ filter_same _ (is_trace_name c.args.front.now) _ (λ x b f' k. search rules) _ _ c.retain.ensures.filtered
    ∙ ap (filter (is_trace_name c.args.front.now)) c.into_vec-kept.ensures
