use Rattle.std.proofs.Common.{◌≡◌, None}
use Rattle.std.specs.List.{filter_map, last_or}
use Rattle.dl_text.specs.Lines.{lines_of}
use Rattle.dl_conf.specs.Stored.{default_in}
use Rattle.dl_conf.proofs.stored.default_level.Given as goal

-- the lines that are left say what all lines say, after the level so far
abbrev pub invariant-loop-line : goal.invariant-loop-line
invariant-loop-line l = last_or l.level (filter_map default_in l.line-iterator) ≡ last_or None (filter_map default_in (lines_of l.fn.text))
