use Rattle.std.proofs.Common.{List, ap, inl, slice_get, subst, ℕ, ◌∙◌}
use Rattle.dl_client.specs.Program.{Does, Loses, Program, one_queued, with_context}
use Rattle.dl_client.specs.Seen.{seen}
use Rattle.dl_client.specs.declared.context.Context.{Context}
use Rattle.dl_client.proofs.calls.queue.Goals as goal

pub returns-then-push_call : goal.returns-then-push_call
returns-then-push_call c = (
  c.args.context.now,
  λ (taken : List ℕ). (
    c.requires.at,
    c.requires.passes,
    c.requires.told,
    c.count_queued.ensures taken
        ∙ ap (λ (p : Program). with_context p c.args.place (one_queued c.args.context.now)) (c.push_call.ensures.pushed c.if-push_call.true taken),
  ),
)

pub count_lost-requires-clause-at : goal.count_lost-requires-clause-at
count_lost-requires-clause-at c = ap (λ (xs : List Context). slice_get xs c.args.place) c.push_call.ensures.contexts ∙ c.requires.at

pub count_lost-requires-clause-cause : goal.count_lost-requires-clause-cause
count_lost-requires-clause-cause c = inl (c.push_call.ensures.full c.if-push_call.false)

pub returns : goal.returns
returns c = (
  c.args.context.now,
  λ (taken : List ℕ).
      subst (λ (p : Program). Does p (Loses c.args.place c.args.context.now c.args.call.now c.args.payload.now) (seen c.count_lost.new.client taken))
      (c.push_call.ensures.same c.if-push_call.false taken) (c.count_lost.ensures taken),
)
