use Rattle.std.proofs.Common.{inl}
use Rattle.dl_client.proofs.calls.filter.Goals as goal

pub returns-then-count_filtered : goal.returns-then-count_filtered
returns-then-count_filtered c payload = (c.args.context.now, c.count_filtered.ensures.counted c.if-count_filtered.true)

pub returns : goal.returns
returns c payload = (
  c.count_filtered.ensures.same c.if-count_filtered.false,
  (c.args.context.now, c.requires.at, inl (c.count_filtered.ensures.full c.if-count_filtered.false)),
)
