use Rattle.std.proofs.Common.{map}
use Rattle.std.specs.String.{string_bytes}
use Rattle.dl_serve.specs.Told.{told}
use Rattle.dl_serve.proofs.program.serve.Goals as goal

pub returns : goal.returns
returns g c =
    let old = told (g.F.Folder.told c.args.folder.now) (g.N.Net.told c.args.net.now) (g.N.Net.told c.args.users.now) (g.O.Sink.told c.args.out.now) in
    let new = told (g.F.Folder.told c.serve_words-status.new.folder) (g.N.Net.told c.serve_words-status.new.net) (g.N.Net.told c.serve_words-status.new.users) (g.O.Sink.told c.serve_words-status.new.out) in record {
      status = c.serve_words-status.result.status;
      closed = c.serve_words-status.result.closed;
      serving = c.an_end_is_a_serving.ensures (map string_bytes c.args.words.now) old new (g.E.Sink.told c.args.err.now) (g.E.Sink.told c.say.new.err) c.serve_words-status.result.status c.serve_words-status.result.closed
          c.serve_words-status.ensures (c.say.ensures.silent, c.say.ensures.told);
      back = c.served_of.ensures;
    }
