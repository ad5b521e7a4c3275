-- The fields of a writer, and what is true of them.
use Rattle.std.specs.Prelude.{◌≡◌, ◌+◌, ◌*◌, ◌%◌, ◌^◌, ◌<◌, ◌≤◌, length}
use Rattle.dl_ring.specs.Items.{calls_in, claims_in}
use Rattle.dl_writer.specs.declared.writer.Writer.TheInside as writer
use Rattle.dl_writer.specs.State.{WriterState}
use Rattle.dl_writer.specs.Calls.{passed}
use Rattle.dl_writer.specs.Claiming.{TellsClaims}

abbrev pub writer_state : writer.Inside → WriterState
writer_state w = record {
  app = w.owner.app;
  calls = w.calls;
  apid = w.owner.apid;
  base = w.owner.base;
  waiting = w.waiting;
  registers = w.registers;
  table_full = w.table_full;
  push = w.push;
  reader = w.reader;
  losses = w.losses;
  injections = w.injections;
}

-- the counts are of what its handles show, its slots and its application's words are there, and its claims are as they always are
pub record IsWriter (w : writer.Inside) : Type 0 where
  pub app : w.owner.app < 16
  pub number : w.number ≡ w.push.number
  pub low : 1 ≤ w.number
  pub high : w.number ≤ 32
  pub slots : 64 * w.owner.app + 64 ≤ w.reader.slots
  pub apps : w.owner.app < w.losses.apps
  pub counter : w.mcnt ≡ passed (writer_state w) % 256
  pub queued : w.queued ≡ length (calls_in w.push.pushed)
  pub claimed : w.claimed ≡ length (claims_in w.push.pushed)
  pub made : passed (writer_state w) ≤ w.calls
  pub few : w.calls ≤ 2 ^ 40
  pub given : w.injected ≡ length w.injections.taken
  pub claims : TellsClaims (writer_state w)
