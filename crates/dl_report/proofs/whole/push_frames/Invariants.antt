use Rattle.std.proofs.Common.{◌≡◌, ◌++◌, take}
use Rattle.std.specs.List.{flat_map}
use Rattle.dl_model.specs.Report.{frame_line}
use Rattle.dl_report.proofs.whole.push_frames.Given as goal

abbrev pub invariant-loop-frame : goal.invariant-loop-frame
invariant-loop-frame l = l.text.items ≡ l.initial.text.items ++ flat_map frame_line (take l.frame-index l.frames)
