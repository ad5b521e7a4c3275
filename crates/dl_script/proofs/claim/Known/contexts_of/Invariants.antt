use Rattle.std.proofs.Common.{◌≡◌, ◌+◌, ◌<◌, ◌^◌, length}
use Rattle.std.specs.List.{count_by}
use Rattle.dl_script.specs.Earlier.{is_of}
use Rattle.dl_script.proofs.claim.Known.contexts_of.Given as goal

-- the count so far with that of the others
abbrev pub invariant-loop-context : goal.invariant-loop-context
invariant-loop-context l = record {
  counted : l.count + count_by (is_of l.apid) l.context-iterator ≡ count_by (is_of l.apid) l.self.contexts;
  few : l.count + length l.context-iterator < 2 ^ 63;
}
