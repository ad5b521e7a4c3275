use Rattle.std.proofs.Common.{◌≡◌, ◌*◌, ◌++◌, take, drop, length}
use Rattle.std.specs.List.{flat_map}
use Rattle.dl_report.specs.Line.{spelled}
use Rattle.dl_report.proofs.frame.spell.Given as goal

-- the letters so far, with those of the bytes that are left, are all
abbrev pub invariant-loop-place : goal.invariant-loop-place
invariant-loop-place l = record {
  size : length l.letters ≡ 192;
  spelled : take (3 * l.place) l.letters ++ flat_map spelled (drop l.place l.piece) ≡ flat_map spelled l.piece;
}
