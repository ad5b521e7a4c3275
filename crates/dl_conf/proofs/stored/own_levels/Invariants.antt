use Rattle.std.proofs.Common.{◌≡◌, ◌++◌, List}
use Rattle.std.specs.List.{filter_map}
use Rattle.dl_bytes.specs.declared.conf.StoredLevel.{StoredLevel}
use Rattle.dl_text.specs.Lines.{lines_of}
use Rattle.dl_conf.specs.Stored.{own_in, held}
use Rattle.dl_conf.proofs.stored.own_levels.Given as goal

-- what holds of the own levels so far, which go before those of the lines that are left
abbrev pub invariant-loop-line : goal.invariant-loop-line
invariant-loop-line l = (done : List StoredLevel) × (l.held.items ≡ held done) × (done ++ filter_map own_in l.line-iterator ≡ filter_map own_in (lines_of l.fn.text))
