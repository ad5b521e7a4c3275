use Rattle.std.proofs.Common.{◌≡◌, ◌+◌, ◌++◌, ◌∷◌, [], List, take, sym, ap, subst, ◌∙◌}
use Rattle.std.specs.List.{flat_map}
use Rattle.std.proofs.lemmas.List.{append-nil}
use Rattle.std.proofs.lemmas.Grind.{flat_map-append}
use Rattle.dl_lemmas.proofs.Lists.{item_here}
use Rattle.dl_sessions.specs.declared.session.Told.{Told}
use Rattle.dl_timeline.specs.Timeline.{KeepsMarks, message_mark}
use Rattle.dl_timeline.specs.declared.timeline.SpotMark.{SpotMark}
use Rattle.dl_timeline.proofs.timeline.add_messages.Goals as goal

pub loop-told-preserved : goal.loop-told-preserved
loop-told-preserved c =
    let i = c.loop-told.told-index in
    let stream = c.args.stream.now in
    let t : Told = c.told-item.result in
    let marks : List Told → List SpotMark = flat_map (message_mark c.args.axis) in
    let here = item_here stream i t c.loop-told-test.true c.told-item.is in
    let more : marks (take (i + 1) stream) ≡ marks (take i stream) ++ message_mark c.args.axis t =
    ap marks here.0 ∙ flat_map-append (message_mark c.args.axis) (take i stream) (t ∷ []) ∙ ap (λ (l : List SpotMark). marks (take i stream) ++ l) (append-nil (message_mark c.args.axis t)) in
    subst (KeepsMarks c.add_message.new.spots) (sym more) (c.in_ok-add_message.ensures (marks (take i stream)) c.loop-told.invariant)
