use Rattle.std.proofs.Common.{◌≡◌, ◌+◌, ◌++◌, ◌∷◌, [], List, get_or, take, sym, ap, subst, ◌∙◌}
use Rattle.std.specs.List.{flat_map}
use Rattle.std.proofs.lemmas.List.{append-nil, take_more}
use Rattle.std.proofs.lemmas.Grind.{flat_map-append}
use Rattle.dl_picture.specs.Tally.{Keeps}
use Rattle.dl_picture.specs.declared.tally.Mark.{Mark}
use Rattle.dl_call_timeline.specs.Marks.{call_marks}
use Rattle.dl_call_timeline.specs.declared.call.Call.{Call}
use Rattle.dl_call_timeline.specs.declared.call.Outcome.TheVariants.{Admitted}
use Rattle.dl_call_timeline.proofs.marks.tally_of.Goals as goal

pub loop-call-preserved : goal.loop-call-preserved
loop-call-preserved c =
    let i = c.loop-call.call-index in
    let calls = c.args.calls.now in
    let none : Call = record { writer = 0; line = 0; ticks = 0; outcome = Admitted } in
    let call : Call = get_or calls i none in
    let marks : List Call → List Mark = flat_map (call_marks c.args.scale.now calls) in
    let one : take (i + 1) calls ≡ take i calls ++ call ∷ [] = take_more calls i none c.loop-call-test.true in
    let more : marks (take (i + 1) calls) ≡ marks (take i calls) ++ call_marks c.args.scale.now calls call =
    ap marks one ∙ flat_map-append (call_marks c.args.scale.now calls) (take i calls) (call ∷ []) ∙ ap (λ (l : List Mark). marks (take i calls) ++ l) (append-nil (call_marks c.args.scale.now calls call)) in
    subst (Keeps c.add_call.new.tally) (sym more) (c.in_ok-add_call.ensures calls (marks (take i calls)) c.in_ok-columns.ensures c.loop-call.invariant)
