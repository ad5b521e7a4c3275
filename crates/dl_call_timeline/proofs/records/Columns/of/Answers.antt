use Rattle.std.proofs.Common.{List, get_or, take, sym, subst}
use Rattle.std.proofs.lemmas.List.{take_more}
use Rattle.dl_call_timeline.specs.Records.{KeepsColumns}
use Rattle.dl_call_timeline.specs.declared.call.Call.{Call}
use Rattle.dl_call_timeline.specs.declared.call.Outcome.TheVariants.{Admitted}
use Rattle.dl_call_timeline.proofs.records.Columns.of.Goals as goal

pub loop-call-preserved : goal.loop-call-preserved
loop-call-preserved c =
    let i = c.loop-call.call-index in
    let calls = c.args.calls.now in
    let none : Call = record { writer = 0; line = 0; ticks = 0; outcome = Admitted } in
    let call : Call = get_or calls i none in
    subst (λ (l : List Call). KeepsColumns c.args.scale.now l c.note.new.self.records) (sym (take_more calls i none c.loop-call-test.true)) (c.in_ok-note.ensures (take i calls) c.loop-call.invariant)
