use Rattle.std.proofs.Common.{ℕ, [], refl, subst, arith, ◌∙◌}
use Rattle.dl_outside.specs.Outside.{HasRisen}
use Rattle.dl_receive.specs.Listening.{Sides, sides}
use Rattle.dl_receive.proofs.Sources.{nothing_given, given_stays, read_up}
use Rattle.dl_receive.proofs.Listeners.{is_good, goes_on, ends}
use Rattle.dl_receive.proofs.Receivers.{takes_start}
use Rattle.dl_receive.proofs.listen.listen.Goals as goal

pub loop-total-init : goal.loop-total-init
loop-total-init g c = record {
  stream = [];
  printed = (nothing_given (g.S.Source.told c.args.source.now).left, record { all = takes_start c.args.counting (g.O.Sink.told c.args.out.now).held; well = refl });
  at = c.in-Ok.ensures;
  count = refl;
  reads_on = refl;
}

pub returns-in-End-2 : goal.returns-in-End-2
returns-in-End-2 g c =
    let i = c.loop-total.invariant in
    let had = (g.S.Source.told c.args.source.now).left in
    let before = (g.S.Source.told c.loop-total.source).left in
    let now = (g.S.Source.told c.read.new.self).left in
    let nothing = c.in-End.ensures.bytes in (
      i.stream,
      (given_stays had before now i.stream i.printed.0 nothing.0, i.printed.1),
      c.is_whole.ensures.truncated c.args.counting i.stream i.at c.if-is_whole.false,
      read_up had before now i.stream i.printed.0 nothing.0 nothing.1,
      c.in-End.ensures.cause ∙ i.reads_on,
    )

pub returns-in-Failed : goal.returns-in-Failed
returns-in-Failed g c =
    let i = c.loop-total.invariant in
    let had = (g.S.Source.told c.args.source.now).left in
    let before = (g.S.Source.told c.loop-total.source).left in
    let now = (g.S.Source.told c.read.new.self).left in
    let risen = subst (λ (n : ℕ). HasRisen n (g.S.Source.told c.read.new.self).faults) i.reads_on c.in-Failed.ensures.cause in
    (i.stream, (given_stays had before now i.stream i.printed.0 c.in-Failed.ensures.bytes, i.printed.1), is_good c.args.counting i.stream c.loop-total.receiver i.at, risen)

pub returns-in-Some : goal.returns-in-Some
returns-in-Some g c =
    let i = c.loop-total.invariant in
    let heard = c.in-Some.ensures c.args.counting i.stream i.at in
    let first : Sides = sides (g.S.Source.told c.args.source.now) (g.O.Sink.told c.args.out.now) in
    let before : Sides = sides (g.S.Source.told c.loop-total.source) (g.O.Sink.told c.loop-total.out) in
    let now : Sides = sides (g.S.Source.told c.read.new.self) (g.O.Sink.told c.hear.new.out) in
    ends c.args.counting first before now c.loop-total.total c.loop-total.receiver c.hear.new.receiver i c.read.new.into c.in-Bytes.count c.in-Bytes.ensures.bytes c.in-Bytes.ensures.cause heard.0 heard.1 c.in-Some.status heard.2

pub loop-total-preserved : goal.loop-total-preserved
loop-total-preserved g c =
    let i = c.loop-total.invariant in
    let heard = c.in_default-hear.ensures c.args.counting i.stream i.at in
    let first : Sides = sides (g.S.Source.told c.args.source.now) (g.O.Sink.told c.args.out.now) in
    let before : Sides = sides (g.S.Source.told c.loop-total.source) (g.O.Sink.told c.loop-total.out) in
    let now : Sides = sides (g.S.Source.told c.read.new.self) (g.O.Sink.told c.hear.new.out) in
    goes_on c.args.counting first before now c.loop-total.total c.loop-total.receiver c.hear.new.receiver i c.read.new.into c.in-Bytes.count c.in-Bytes.ensures.bytes c.in-Bytes.ensures.cause heard.0 heard.1 heard.2

pub returns : goal.returns
returns g c =
    let i = c.loop-total.invariant in
    let many = c.loop-total-test.false in
    (i.stream, i.printed, is_good c.args.counting i.stream c.loop-total.receiver i.at, omega (arith, i.count, many), i.reads_on)
