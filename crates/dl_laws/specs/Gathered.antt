-- An account as one value: what laws over journals with their records speak of.
use Rattle.std.specs.Prelude.{ℕ, List}
use Rattle.dl_bytes.specs.Claim.{Claimed}
use Rattle.dl_events.specs.declared.event.Event.{Event}
use Rattle.dl_events.specs.declared.record.Record.{Record}
use Rattle.dl_model.specs.Frames.{FrameSource}
use Rattle.dl_model.specs.Journal.{IsWellFormed}
use Rattle.dl_model.specs.Report.{records_of_app}
use Rattle.dl_model.specs.Setting.{Setting}
use Rattle.dl_model.specs.WholeAccounts.{IsAccounted, IsOwnedSoFar}

-- A journal with the first version of its slots, the losses of each application that are pending, the pushes of each writer that its ring
-- refused, the claims that rings took of each, and the records of each.
pub record Account : Type 0 where
  pub first : ℕ
  pub events : List Event
  pub pending : ℕ → ℕ
  pub refusals : ℕ → ℕ
  pub pushed : List (List Claimed)
  pub records : List (List Record)

-- it is accounted
abbrev pub IsWhole : Account → Type 0
IsWhole account = IsAccounted account.first account.events account.pending account.refusals account.pushed account.records

-- the recorded calls of an application
abbrev pub calls_in : Account → ℕ → List Record
calls_in account app = records_of_app app account.records

-- Records are those of one writer that has its account so far, in a well-formed journal.
pub record AreOfWriter (setting : Setting) (source : FrameSource) (events : List Event) (records : List Record) : Type 0 where
  pub first : ℕ
  pub writer : ℕ
  pub refusals : ℕ
  pub pushed : List Claimed
  pub formed : IsWellFormed setting source events
  pub owned : IsOwnedSoFar first events writer refusals pushed records
