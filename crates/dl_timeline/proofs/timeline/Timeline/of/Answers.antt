use Rattle.std.proofs.Common.{◌++◌, map, subst}
use Rattle.std.specs.List.{flat_map}
use Rattle.dl_picture.specs.declared.axis.Axis.{Axis}
use Rattle.dl_sessions.specs.Account.{holes, totals_of}
use Rattle.dl_sessions.specs.Gaps.{entries}
use Rattle.dl_timeline.specs.Timeline.{KeepsMarks, KeepsReports, hole_mark, message_mark, reports_from}
use Rattle.dl_timeline.proofs.timeline.Timeline.of.Goals as goal

pub returns : goal.returns
returns c = λ after.
    let stream = c.args.stream.now in
    let is = c.axis_of-axis.ensures in
    record {
      axis_is = is;
      spots_are = subst (λ (a : Axis). KeepsMarks c.add_holes.new.spots (flat_map (message_mark a) stream ++ map (hole_mark a (λ session. totals_of session (entries stream))) (holes stream))) is
          (c.in_ok-add_holes.ensures stream (flat_map (message_mark c.axis_of-axis.result) stream) after c.in_ok-add_messages.ensures);
      reports_are = subst (λ (a : Axis). KeepsReports c.add_reports.new.reports (reports_from a 0 stream)) is c.in_ok-add_reports.ensures;
    }
