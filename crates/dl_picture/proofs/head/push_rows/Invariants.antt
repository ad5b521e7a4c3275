use Rattle.std.proofs.Common.{◌≡◌, ◌≤◌, ◌++◌, drop, length, map}
use Rattle.dl_picture.specs.Picture.{rows_from}
use Rattle.dl_picture.specs.Row.{shown}
use Rattle.dl_picture.proofs.head.push_rows.Given as goal

-- what is there, with the rows that are left, is all
abbrev pub invariant-loop-number : goal.invariant-loop-number
invariant-loop-number l = record {
  text : l.text.items ++ rows_from (map (λ name. name.items) l.names) l.number (map shown (drop l.number l.rows)) ≡ l.initial.text.items ++ rows_from (map (λ name. name.items) l.names) 0 (map shown l.rows);
  within : l.number ≤ length l.rows;
}
