-- What the code has after the events so far. (Of the code alone: no promise rests on these words.)
use Rattle.std.specs.Prelude.{◌≡◌, ◌+◌, ◌-◌, false, ℕ, ◌<◌, ◌≤◌, ◌^◌, ◌==◌, List, length, count_by, if◌then◌else◌}
use Rattle.std.specs.Option.{option_map_or}
use Rattle.dl_events.specs.declared.event.Event.{Event}
use Rattle.dl_events.specs.declared.event.Event.TheVariants.{Connect, Close}
use Rattle.dl_model.specs.Along.{last_that}
use Rattle.dl_model.specs.Backlog.{waiting}
use Rattle.dl_model.specs.ClientStream.{traffic}
use Rattle.dl_model.specs.Journal.{comes_or_goes, is_connect}
use Rattle.dl_model.specs.Setting.{Setting}
use Rattle.dl_model.specs.WholeAccounts.{source_of_records}
use Rattle.dl_report.specs.Losses.{told, told_in}
use Rattle.dl_report.specs.Keeping.{counted, kept}
use Rattle.dl_report.specs.declared.batch.Sources.{Sources}
use Rattle.dl_report.specs.declared.waiting.Waiting.{Waiting}

-- so many clients are open: there is a list of them, with each one once
pub record AreOpen (count : ℕ) (events : List Event) : Type 0 where
  pub clients : List ℕ
  pub size : length clients ≡ count
  pub each : (client : ℕ) → count_by (λ other. other == client) clients
      ≡ (if option_map_or is_connect (last_that (comes_or_goes client) events) false then 1 else 0)

-- the open clients are counted, and the backlog is that of the frames that wait
pub record IsAfter (sources : Sources) (events : List Event) (now : Waiting) : Type 0 where
  pub open_now : AreOpen now.clients events
  pub few : now.clients ≤ length events
  pub within : now.backlog.bytes ≤ now.limit
  pub short : counted now.backlog ≤ length events + told events
  pub waits : (setting : Setting) → setting.ecu ≡ sources.ecu
      → now.backlog ≡ kept now.limit (waiting (traffic (source_of_records setting sources.records.now sources.specs.now) events))

-- an event may be noted: there is a client that may go, the count of clients has room, and so have those of frames
abbrev pub MayNote : Event → Waiting → Type 0
MayNote (Connect client) now = now.clients < 2 ^ 64 - 1
MayNote (Close client why) now = 0 < now.clients
MayNote event now = (now.backlog.bytes ≤ now.limit) × (counted now.backlog + (1 + told_in event) < 2 ^ 64)
