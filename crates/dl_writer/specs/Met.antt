-- What a call met, as the record that tells of it.
use Rattle.std.specs.Prelude.{ℕ, ◌%◌}
use Rattle.dl_bytes.specs.Context.{Context, slot_of}
use Rattle.dl_bytes.specs.Payload.{Arguments}
use Rattle.dl_bytes.specs.declared.level.Severity.{Severity}
use Rattle.dl_events.specs.declared.record.Record.{Record}
use Rattle.dl_ring.specs.declared.call.Call.{Call}
use Rattle.dl_writer.specs.declared.writer.Met.{Met}
use Rattle.dl_writer.specs.Calls.{item_of, passed}
use Rattle.dl_writer.specs.State.{WriterState}

-- the call of a writer that was counted last, with the message counter of the next that passes
abbrev pub last_call : WriterState → Context → Severity → ℕ → Call
last_call w ctx severity at = record { app = w.app; writer = w.push.number; severity = severity; mcnt = passed w % 256; at = at; apid = ctx.apid; ctid = ctx.ctid; number = w.calls }

-- the record of the next call, which met this
abbrev pub record_of : WriterState → Context → Severity → ℕ → Arguments → Met → Record
record_of w ctx severity at payload met = record { item = item_of w ctx severity at payload; slot = slot_of ctx; version = met.seen.version; held = met.seen.level; answer = met.answer }
