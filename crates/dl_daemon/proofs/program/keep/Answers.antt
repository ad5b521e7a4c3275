use Rattle.std.proofs.Common.{map}
use Rattle.std.specs.String.{string_bytes}
use Rattle.dl_daemon.specs.Outside.{outside}
use Rattle.dl_daemon.proofs.program.keep.Goals as goal

pub returns : goal.returns
returns g c =
    let old = outside (g.F.Folder.told c.args.folder.now) (g.N.Net.told c.args.net.now) (g.N.Net.told c.args.users.now) (g.W.Watch.watched c.args.watch.now) in
    let new = outside (g.F.Folder.told c.keep_words-ended.new.folder) (g.N.Net.told c.keep_words-ended.new.net) (g.N.Net.told c.keep_words-ended.new.users) (g.W.Watch.watched c.keep_words-ended.new.watch) in
    c.an_end_is_a_keeping.ensures (map string_bytes c.args.words.now) old new (g.E.Sink.told c.args.err.now) (g.E.Sink.told c.say.new.err) c.keep_words-ended.result.status c.keep_words-ended.result.left
    c.keep_words-ended.ensures (c.say.ensures.silent, c.say.ensures.told)
