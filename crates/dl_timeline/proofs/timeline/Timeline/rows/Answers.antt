use Rattle.std.proofs.Common.{◌≡◌, ◌+◌, ◌++◌, ◌∷◌, [], List, map, take, sym, ap, ◌∙◌}
use Rattle.std.proofs.lemmas.List.{map-append}
use Rattle.dl_lemmas.proofs.Lists.{item_here}
use Rattle.dl_picture.specs.Row.{ChartRow, shown}
use Rattle.dl_picture.specs.declared.chart.Row.{Row}
use Rattle.dl_sessions.specs.declared.session.Session.{Session}
use Rattle.dl_timeline.specs.Timeline.{row_of}
use Rattle.dl_timeline.proofs.timeline.Timeline.rows.Goals as goal

pub loop-session-preserved : goal.loop-session-preserved
loop-session-preserved c = λ stream after is.
    let i = c.loop-session.session-index in
    let all = c.sessions-sessions.result.now in
    let s : Session = c.session-item.result in
    let old = c.loop-session.rows.items in
    let row : Row = c.in_ok-row.row in
    let one : take (i + 1) all ≡ take i all ++ s ∷ [] = (item_here all i s c.loop-session-test.true c.session-item.is).0 in
    ap (map shown) c.in_ok-push.ensures.items ∙ map-append shown old (row ∷ []) ∙ ap (λ (l : List ChartRow). l ++ shown row ∷ []) (c.loop-session.invariant stream after is)
    ∙ ap (λ (r : ChartRow). map (row_of stream) (take i all) ++ r ∷ []) (c.in_ok-row.ensures stream after is) ∙ sym (ap (map (row_of stream)) one ∙ map-append (row_of stream) (take i all) (s ∷ []))
