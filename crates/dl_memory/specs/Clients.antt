-- The connections that wait in a net in memory.
use Rattle.std.specs.Prelude.{[], false}
use Rattle.dl_memory.specs.declared.failing.Failing.{Failing}
use Rattle.dl_memory.specs.declared.wire.Prepared.{Prepared}
use Rattle.dl_memory.specs.Wire.{Wire}

-- the connection that a client is given: nothing has gone through it, and its counts are 0
abbrev pub link_of : Prepared → Failing Wire
link_of client = record {
  inner = record { left = client.sends.items; given = []; taken = []; leave = client.leave; room = client.room; idles = 0; waits = 0; is_shut = false };
  chosen = client.manner.fails;
  calls = 0;
  faults = 0;
  changes = 0;
  appends = 0;
}
