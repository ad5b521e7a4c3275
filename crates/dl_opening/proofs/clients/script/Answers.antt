use Rattle.std.proofs.Common.{Option, List, take, ◌++◌, ℕ, sym, ap, ◌∙◌}
use Rattle.std.specs.List.{filter_map, flat_map}
use Rattle.std.specs.Option.{option_or}
use Rattle.dl_opening.specs.Scenario.{first_of, leave_in, sent_in}
use Rattle.dl_opening.proofs.ClientScripts.{first_more}
use Rattle.dl_opening.proofs.Taken.{filter_map_taken, flat_map_taken}
use Rattle.dl_opening.proofs.clients.script.Goals as goal

pub loop-line-preserved : goal.loop-line-preserved
loop-line-preserved c =
    let l = c.loop-line in
    let lines = c.args.lines.now in
    let line = c.line-item.result in
    let so_far = take l.line-index lines in
    let sent = sent_in c.args.client in
    let leave = leave_in c.args.client in
    record {
      sends = c.in_ok-extend_from_slice.ensures.items ∙ ap (λ (bytes : List ℕ). bytes ++ c.sent_in.result.now) l.invariant.sends ∙ ap (λ (bytes : List ℕ). flat_map sent so_far ++ bytes) c.sent_in.ensures
          ∙ sym (flat_map_taken lines l.line-index line c.loop-line-test.true c.line-item.is sent);
      leave = c.or-leave.ensures ∙ ap (λ (o : Option ℕ). option_or o c.leave_in.result) l.invariant.leave ∙ first_more (filter_map leave so_far) c.leave_in.result
          ∙ ap first_of (sym (filter_map_taken lines l.line-index line c.loop-line-test.true c.line-item.is leave c.leave_in.result (sym c.leave_in.ensures)));
    }
