use Rattle.std.proofs.Common.{ℕ, ◌+◌, ◌++◌, List, [], drop, refl, sym, ap, ◌∙◌, append_assoc}
use Rattle.dl_lemmas.proofs.Lists.{item_here}
use Rattle.dl_sessions.specs.declared.session.Told.{Told}
use Rattle.dl_timeline.specs.Timeline.{column_behind, report_of, reports_from}
use Rattle.dl_timeline.specs.declared.timeline.Report.{Report}
use Rattle.dl_timeline.proofs.timeline.add_reports.Goals as goal

pub loop-told-init : goal.loop-told-init
loop-told-init c = ([], c.requires, refl)

pub loop-told-preserved : goal.loop-told-preserved
loop-told-preserved c =
    let i = c.loop-told.told-index in
    let stream = c.args.stream.now in
    let axis = c.args.axis in
    let column = c.loop-told.column in
    let t : Told = c.told-item.result in
    let so_far : List Report = c.loop-told.invariant.0 in
    let behind = drop (i + 1) stream in
    let here = item_here stream i t c.loop-told-test.true c.told-item.is in (
      so_far ++ report_of column t,
      c.in_ok-note_report.ensures so_far c.loop-told.invariant.1,
      ap (λ (n : ℕ). (so_far ++ report_of column t) ++ reports_from axis n behind) c.column_behind-column.ensures
          ∙ append_assoc so_far (report_of column t) (reports_from axis (column_behind axis column t) behind)
          ∙ ap (λ (l : List Told). so_far ++ reports_from axis column l) (sym here.1) ∙ c.loop-told.invariant.2,
    )
