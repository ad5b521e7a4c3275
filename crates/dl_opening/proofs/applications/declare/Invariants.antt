use Rattle.std.proofs.Common.{◌≡◌, ◌++◌, ◌-◌, length, map, take}
use Rattle.dl_opening.specs.Scenario.{contexts_of, placed, registered}
use Rattle.dl_opening.proofs.applications.declare.Given as goal

abbrev pub invariant-loop-line : goal.invariant-loop-line
invariant-loop-line l = record {
  handles : l.contexts.items ≡ l.initial.contexts.items ++ placed l.initial.app.number l.apid (length l.initial.app.hello - 1) (contexts_of l.apid (take l.line-index l.lines));
  hello : l.app ≡ record l.initial.app { hello = l.initial.app.hello ++ map (registered l.apid) (contexts_of l.apid (take l.line-index l.lines)) };
}
