use Rattle.std.proofs.Common.{ap, ◌∙◌, replicate, None, Option}
use Rattle.dl_socket.specs.declared.ways.Way.{Way}
use Rattle.dl_socket.proofs.messenger.Messenger.make.Goals as goal

pub returns : goal.returns
returns c = λ i. record {
  outboxes = c.make.ensures i;
  ways = (c.in_ok-no_ways.ensures ∙ ap (λ n. replicate {A = Option Way} n None) c.from-count.ensures) i;
  sets = c.new.ensures.0 i;
  refused = c.new.ensures.1 i;
}
