use Rattle.std.proofs.Common.{◌≡◌, ◌-◌, ◌≤◌, ◌++◌, length, take, Some}
use Rattle.std.specs.Prelude.{IfSome}
use Rattle.dl_outside.proofs.writing.write_text.Given as goal

-- the front of the text is written
abbrev pub invariant-loop-done : goal.invariant-loop-done
invariant-loop-done g l = record {
  within : l.done ≤ length l.text;
  held : IfSome (g.O.Sink.told l.initial.out).held (λ bytes. (g.O.Sink.told l.out).held ≡ Some (bytes ++ take l.done l.text));
  well : (g.O.Sink.told l.out).faults ≡ (g.O.Sink.told l.initial.out).faults;
}

abbrev pub decreases-loop-done : goal.decreases-loop-done
decreases-loop-done g l = length l.text - l.done
