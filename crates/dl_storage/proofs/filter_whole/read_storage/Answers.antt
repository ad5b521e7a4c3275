use Rattle.std.proofs.Common.{sym, ◌∙◌}
use Rattle.dl_text.specs.Lines.{lines_of}
use Rattle.dl_storage.proofs.FilterNames.{are_filters}
use Rattle.dl_storage.proofs.filter_whole.read_storage.Goals as goal

pub over-requires : goal.over-requires
over-requires c = are_filters c.in-Ok.filters.items (lines_of c.without_return-text.result.now) (sym c.faulty_line.ensures ∙ c.in_default.is) c.in-Ok.ensures
