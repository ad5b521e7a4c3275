use Rattle.std.proofs.Common.{◌∙◌}
use Rattle.dl_rounds.specs.Ready.{fresh_listener}
use Rattle.dl_rounds.specs.ListenerPool.{laid}
use Rattle.dl_rounds.proofs.SeatedListeners.{laid_alike}
use Rattle.dl_rounds.proofs.listener_pool.ListenerPool.make.Goals as goal

pub returns : goal.returns
returns c =
    (λ i. laid c.in_ok-from_array.field-0.items (c.in_ok-listeners.ensures i) (c.fresh.ensures i)) ∙ laid_alike c.in_ok-from_array.field-0.items 8 c.args.most_clients fresh_listener
