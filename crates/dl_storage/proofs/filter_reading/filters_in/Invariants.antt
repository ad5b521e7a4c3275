use Rattle.std.proofs.Common.{◌≡◌, ◌++◌}
use Rattle.std.specs.Prelude.{map}
use Rattle.std.specs.List.{filter_map}
use Rattle.dl_text.specs.Lines.{lines_of}
use Rattle.dl_storage.specs.FilterWhole.{wanted_in, wanted_of}
use Rattle.dl_storage.proofs.filter_reading.filters_in.Given as goal

-- the filters so far go before those of the lines that are left
abbrev pub invariant-loop-line : goal.invariant-loop-line
invariant-loop-line l = map wanted_of l.filters.items ++ filter_map wanted_in l.line-iterator ≡ filter_map wanted_in (lines_of l.fn.text)
