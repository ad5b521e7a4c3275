use Rattle.std.proofs.Common.{◌∙◌}
use Rattle.dl_ending.proofs.Finished.{finished}
use Rattle.dl_serve.specs.Closed.{text_of}
use Rattle.dl_serve.proofs.finishing.finish.Goals as goal

pub returns : goal.returns
returns g c =
    finished (text_of c.args.closed.now) c.args.failures (g.O.Sink.told c.args.out.now) (g.O.Sink.told c.write_text.new.out) c.write_text.result c.is_err-output.result c.status.result
    (c.all.ensures ∙ c.in-Ok.ensures) c.write_text.ensures.ok c.write_text.ensures.front c.is_err-output.ensures.value c.status.ensures
