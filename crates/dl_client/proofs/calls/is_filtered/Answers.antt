use Rattle.std.proofs.Common.{inl, inr}
use Rattle.dl_client.proofs.calls.is_filtered.Goals as goal

pub returns-then-context-severity-clause-filtered : goal.returns-then-context-severity-clause-filtered
returns-then-context-severity-clause-filtered c so = (c.context_at-context.result, c.count_filtered.ensures.counted so)

pub returns-then-context-severity-clause-passed : goal.returns-then-context-severity-clause-passed
returns-then-context-severity-clause-passed c not_so = inr (c.context_at-context.result, c.context_at-context.ensures, inr (c.count_filtered.ensures.full not_so))

pub returns-clause-passed : goal.returns-clause-passed
returns-clause-passed c not_so = inr (c.context_at-context.result, c.context_at-context.ensures, inl c.if-context-severity.false)
