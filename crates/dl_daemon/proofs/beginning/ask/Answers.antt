use Rattle.std.proofs.Common.{map}
use Rattle.std.specs.String.{string_bytes}
use Rattle.dl_daemon.proofs.AskedWords.{asks_nothing}
use Rattle.dl_daemon.proofs.beginning.ask.Goals as goal

pub returns-in-Err : goal.returns-in-Err
returns-in-Err c = asks_nothing (map string_bytes c.args.words.now) c.in-Err.fault c.refusal.result c.refusal.ensures c.in-Err.ensures.said
