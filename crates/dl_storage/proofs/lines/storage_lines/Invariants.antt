use Rattle.std.proofs.Common.{◌≡◌, ◌++◌}
use Rattle.dl_storage.specs.Text.{storage_lines}
use Rattle.dl_storage.proofs.lines.storage_lines.Given as goal

-- the lines so far go before those of the filters that are left
abbrev pub invariant-loop-filter : goal.invariant-loop-filter
invariant-loop-filter l = l.text.items ++ storage_lines l.filter-iterator.a.rest.now l.filter-iterator.b.rest.now ≡ storage_lines l.filters l.ends.filters
