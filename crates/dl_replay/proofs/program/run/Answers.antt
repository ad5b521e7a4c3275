use Rattle.std.proofs.Common.{map}
use Rattle.std.specs.String.{string_bytes}
use Rattle.dl_outside.specs.Told.{SinkTold}
use Rattle.dl_replay.specs.Told.{Told}
use Rattle.dl_replay.proofs.Runs.{a_run}
use Rattle.dl_replay.proofs.program.run.Goals as goal

pub returns : goal.returns
returns g c =
    let old : Told = record {
      input = g.I.Source.told c.args.input.now;
      folder = g.F.Folder.told c.args.folder.now;
      out = g.O.Sink.told c.args.out.now;
    } in
    let new : Told = record {
      input = g.I.Source.told c.ask-status.new.input;
      folder = g.F.Folder.told c.ask-status.new.folder;
      out = g.O.Sink.told c.ask-status.new.out;
    } in
    let said : SinkTold = g.E.Sink.told c.args.err.now in
    let said_now : SinkTold = g.E.Sink.told c.say.new.err in
    a_run (map string_bytes c.args.words.now) old new said said_now c.ask-status.result c.ask-status.ensures.asked c.ask-status.ensures.at_most c.ask-status.ensures.others c.say.ensures.silent c.say.ensures.told
