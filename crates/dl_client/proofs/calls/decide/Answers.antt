use Rattle.std.proofs.Common.{List, inr, refl, ℕ}
use Rattle.dl_client.proofs.calls.decide.Goals as goal

pub returns-then-counts_are_full : goal.returns-then-counts_are_full
returns-then-counts_are_full c = (
  λ (taken : List ℕ). refl,
  (c.context_at-context.result, c.context_at-context.ensures, c.counts_are_full.ensures.full c.if-counts_are_full.true),
)

pub count_lost-requires-clause-cause : goal.count_lost-requires-clause-cause
count_lost-requires-clause-cause c = inr (c.requires.untold c.if-told.false)

pub returns : goal.returns
returns c = (c.context_at-context.result, c.count_lost.ensures)
