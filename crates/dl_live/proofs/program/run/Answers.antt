use Rattle.std.proofs.Common.{map}
use Rattle.std.specs.String.{string_bytes}
use Rattle.dl_live.specs.Told.{told}
use Rattle.dl_live.proofs.program.run.Goals as goal

pub returns : goal.returns
returns g c =
    let old = told (g.F.Folder.told c.args.folder.now) (g.N.Net.told c.args.net.now) (g.O.Sink.told c.args.out.now) in
    let new = told (g.F.Folder.told c.ask-came.new.folder) (g.N.Net.told c.ask-came.new.net) (g.O.Sink.told c.ask-came.new.out) in record {
      status = c.ask-came.result.status;
      number_is = c.number.ensures;
      run = c.an_outcome_is_a_run.ensures (map string_bytes c.args.words.now) old new (g.E.Sink.told c.args.err.now) (g.E.Sink.told c.say.new.err) c.ask-came.result.status c.ask-came.result.account
          c.ask-came.result.links c.ask-came.result.storage c.ask-came.ensures.outcome c.ask-came.ensures.others (c.say.ensures.silent, c.say.ensures.told);
    }
