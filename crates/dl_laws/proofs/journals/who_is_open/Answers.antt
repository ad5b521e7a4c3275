use Rattle.std.proofs.Common.{sym, ◌∙◌}
use Rattle.dl_laws.proofs.ClientStays.{is_open_in, opened_is}
use Rattle.dl_laws.proofs.JournalStreams.{open_same}
use Rattle.dl_laws.proofs.journals.who_is_open.Goals as goal

pub returns : goal.returns
returns c = λ source client events. (
  λ is. is_open_in client events (sym (open_same source client events) ∙ is),
  λ is. open_same source client events ∙ opened_is client events is,
)
