-- What the code has of a client after the events so far. (Of the code alone: no promise rests on these words.)
use Rattle.std.specs.Prelude.{◌≡◌, ℕ, ◌-◌, ◌==◌, ◌&&◌, nat_le, List, length, Option, if◌then◌else◌}
use Rattle.dl_events.specs.declared.event.Event.{Event}
use Rattle.dl_model.specs.ClientStream.{traffic, stream}
use Rattle.dl_model.specs.Setting.{Setting}
use Rattle.dl_model.specs.Traffic.{is_open}
use Rattle.dl_model.specs.WholeAccounts.{source_of_records}
use Rattle.dl_laws.specs.Fates.{Fate, InStream, BufferFull, ForOthers, kept}
use Rattle.dl_report.specs.Following.{IsAfter}
use Rattle.dl_report.specs.declared.batch.Sources.{Sources}
use Rattle.dl_fates.specs.declared.follower.Follower.{Follower}

-- whether the client is open, how many frames its stream has, and what waits
pub record IsFollowing (sources : Sources) (events : List Event) (now : Follower) : Type 0 where
  pub waits : IsAfter sources events now.waiting
  pub opened : (setting : Setting) → now.listens ≡ is_open now.client (traffic (source_of_records setting sources.records.now sources.specs.now) events)
  pub sent : (setting : Setting) → setting.ecu ≡ sources.ecu → now.frames ≡ length (stream (source_of_records setting sources.records.now sources.specs.now) now.waiting.limit now.client events)

-- what becomes of a frame of so many bytes, where this client comes next
abbrev pub fate_by : Follower → ℕ → Option ℕ → Fate
fate_by now size next =
    if now.listens then InStream now.frames
    else if now.waiting.clients == 0
    then (if (now.waiting.backlog.refused == 0) && nat_le size (now.waiting.limit - now.waiting.backlog.bytes) then kept now.client now.waiting.backlog.frames next else BufferFull next)
    else ForOthers
