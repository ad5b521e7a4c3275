use Rattle.std.proofs.Common.{length, ◌≡◌}
use Rattle.dl_client.specs.Outcomes.{NoneLostBelow, OnlyAccounts}
use Rattle.dl_client.proofs.calls.tell_each.Given as goal

abbrev pub invariant-loop-place : goal.invariant-loop-place
invariant-loop-place l = record {
  accounts : OnlyAccounts l.fn.client l.client;
  told : NoneLostBelow l.place l.client.contexts.now;
  places : length l.client.contexts.now ≡ length l.fn.client.contexts.now;
}
