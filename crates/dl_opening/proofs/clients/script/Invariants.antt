use Rattle.std.proofs.Common.{◌≡◌, take}
use Rattle.std.specs.List.{filter_map, flat_map}
use Rattle.dl_opening.specs.Scenario.{first_of, leave_in, sent_in}
use Rattle.dl_opening.proofs.clients.script.Given as goal

abbrev pub invariant-loop-line : goal.invariant-loop-line
invariant-loop-line l = record {
  sends : l.sends.items ≡ flat_map (sent_in l.client) (take l.line-index l.lines);
  leave : l.leave ≡ first_of (filter_map (leave_in l.client) (take l.line-index l.lines));
}
