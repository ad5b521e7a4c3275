use Rattle.std.proofs.Common.{arith, rules, string_bytes, sym, ap, ◌∙◌}
use Rattle.std.proofs.lemmas.Str.Pattern.{split_parts}
use Rattle.dl_trace_files.specs.Files.{parts_of, with_parts}
use Rattle.dl_trace_files.proofs.Parts.{last_part, one_part}
use Rattle.dl_trace_files.proofs.names.plain.Goals as goal

pub loop-part-preserved : goal.loop-part-preserved
loop-part-preserved c =
    let rest = c.loop-part.rest.now in
    let part = c.in-Some.part.now in
    let behind = c.in-Some.behind.now in
    let cut = rw c.in-Some.is at (split_parts 47 rest c.split_once.result c.split_once.ensures.cases (omega arith)) in
    record {
      same = ap (λ t. with_parts t (parts_of behind)) c.in_ok-go_on.ensures
          ∙ (sym (one_part (string_bytes c.loop-part.folder) part rest behind cut.0 cut.1) ∙ c.loop-part.invariant.same);
      text = search rules;
    }

pub returns : goal.returns
returns c =
    let rest = c.loop-part.rest.now in
    let none = rw c.in_default.is at (split_parts 47 rest c.split_once.result c.split_once.ensures.cases (omega arith)) in
    c.in_ok-go_on-2.ensures ∙ (sym (last_part (string_bytes c.loop-part.folder) rest none) ∙ c.loop-part.invariant.same)
