use Rattle.std.proofs.Common.{◌≡◌, ◌≤◌, ◌++◌, drop, length, map}
use Rattle.dl_picture.specs.Picture.{marks_from}
use Rattle.dl_picture.proofs.head.push_marks.Given as goal

-- what is there, with the columns that are left, is all
abbrev pub invariant-loop-column : goal.invariant-loop-column
invariant-loop-column l = record {
  text : l.text.items ++ marks_from l.height l.column (map (λ name. name.items) (drop l.column l.names)) ≡ l.initial.text.items ++ marks_from l.height 0 (map (λ name. name.items) l.names);
  within : l.column ≤ length l.names;
}
