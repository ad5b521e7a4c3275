use Rattle.dl_receive.specs.Listening.{sides}
use Rattle.dl_receive.proofs.Listeners.{had_served, outcome}
use Rattle.dl_receive.proofs.program.connect.Goals as goal

pub returns : goal.returns
returns g c =
    outcome c.args.counting _ (sides (g.D.S.Source.told c.in-Ok.source) (g.O.Sink.told c.args.out.now))
    (sides (g.D.S.Source.told c.listen-status.new.source) (g.O.Sink.told c.listen-status.new.out))
    (g.D.Dial.told c.args.dial.now) (g.D.Dial.told c.dial.new.self) c.in-Ok.ensures.cause c.in-Ok.ensures.sound
    (had_served (g.D.Dial.told c.args.dial.now).serves c.args.port ((g.D.S.Source.told c.in-Ok.source).left) c.in-Ok.ensures.bytes)
    c.listen-status.result c.listen-status.ensures
