use Rattle.std.proofs.Common.{List, subst, sym, ℕ}
use Rattle.dl_client.specs.Outcomes.{filters}
use Rattle.dl_client.specs.Program.{Program, Runs}
use Rattle.dl_client.specs.Seen.{seen}
use Rattle.dl_client.proofs.Accounts.{runs_filters}
use Rattle.dl_client.proofs.calls.count_calls.Goals as goal

pub returns-clause-counted : goal.returns-clause-counted
returns-clause-counted c so = (
  c.context_at-context.result,
  λ (taken : List ℕ).
      subst (λ (p : Program). Runs (seen c.args.client.now taken) (filters c.args.place c.context_at-context.result c.args.count) p)
      (sym (c.set_context.ensures.set taken))
      (runs_filters c.args.count (seen c.args.client.now taken) c.args.place c.context_at-context.result c.context_at-context.ensures),
)
