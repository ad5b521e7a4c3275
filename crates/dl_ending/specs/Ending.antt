-- How a run of threads ends: what is written of its account, and its status.
use Rattle.std.specs.Prelude.{◌≡◌, ℕ, ◌^◌, ◌<◌, ◌⊎◌, ◌||◌, Bool, true, false, List, length, map, None}
use Rattle.std.specs.List.{flat_map, list_any}
use Rattle.dl_bytes.specs.Claim.{Claimed}
use Rattle.dl_bytes.specs.declared.conf.Conf.{Conf}
use Rattle.dl_events.specs.declared.event.Event.{Event}
use Rattle.dl_events.specs.declared.event.Event.TheVariants as event
use Rattle.dl_events.specs.declared.event.Why.TheVariants as why
use Rattle.dl_events.specs.declared.record.Record.{Record}
use Rattle.dl_account.specs.Settled.{refusals_of}
use Rattle.dl_account.specs.State.{AccountState}
use Rattle.dl_model.specs.Backlog.{left}
use Rattle.dl_model.specs.ClientStream.{traffic}
use Rattle.dl_model.specs.Frames.{FrameSource}
use Rattle.dl_model.specs.Journal.{IsWellFormed}
use Rattle.dl_model.specs.Report.{report}
use Rattle.dl_model.specs.Setting.{Setting}
use Rattle.dl_model.specs.WholeAccounts.{IsAccounted, source_of_records}
use Rattle.dl_outside.specs.Told.{SinkTold}
use Rattle.dl_outside.specs.Written.{WroteAll, WroteFront, WroteNothing}
use Rattle.dl_startup.specs.Failures.{status_of, unserved, with_trace}
use Rattle.dl_startup.specs.declared.failures.Failures.{Failures}
use Rattle.dl_startup.specs.declared.status.Status.{Status}
use Rattle.dl_startup.specs.declared.status.Status.TheVariants.{OutOfMemory}

-- ---- the report of an account

-- the records of all writers, by their numbers
abbrev pub records_of : AccountState → List (List Record)
records_of account = map (λ b. b.records) account.books

-- the claims that rings took of them
abbrev pub claims_of : AccountState → List (List Claimed)
claims_of account = map (λ b. b.claims) account.books

-- where the frames of its events come from: those of log calls from its records
abbrev pub source_of : Setting → AccountState → FrameSource
source_of setting account = source_of_records setting (records_of account) account.apps

-- its journal is well-formed, and its records account for it, with no loss pending
pub record IsAccountIn (setting : Setting) (account : AccountState) : Type 0 where
  pub formed : IsWellFormed setting (source_of setting account) account.events
  pub accounted : IsAccounted setting.first account.events (λ app. 0) (refusals_of account.books) (claims_of account) (records_of account)

-- the text that is printed of it, with the backlog that is left
abbrev pub text_of : Setting → AccountState → List ℕ
text_of setting account =
    report (records_of account) account.events account.apps account.outcome (left setting.buffer (traffic (source_of setting account) account.events)) None

-- ---- its status

-- a client was closed at a request for which there was no memory
abbrev pub is_unheard : Event → Bool
is_unheard (event.Close client why.NoMemory) = true
is_unheard _ = false

abbrev pub unheard : List Event → Bool
unheard events = list_any is_unheard events

-- what went wrong in a run, with what its account tells: memory was wanted for a Store, for a Reset or for a client's request, or the trace ended
abbrev pub failures_with : AccountState → Failures → Failures
failures_with account failures =
    with_trace account.outcome.trace.end (record failures { memory = failures.memory || (unserved account.events || unheard account.events) })

-- A text was written, whole or its front, and that decides the status with all else that went wrong; or there was no memory for the text, and
-- nothing was written.
abbrev pub Finishes : List ℕ → Failures → SinkTold → SinkTold → Status → Type 0
Finishes text failures out out_now status =
    (WroteNothing out out_now × (status ≡ OutOfMemory))
    ⊎ (WroteAll out out_now text × (status ≡ status_of (record failures { output = false })))
    ⊎ (WroteFront out out_now text × (status ≡ status_of (record failures { output = true })))

-- ---- for inner functions

-- as far as a report tells, this is the setting of a run with this configuration
pub record IsSettingOf (conf : Conf) (setting : Setting) : Type 0 where
  pub ecu : setting.ecu ≡ conf.ecu
  pub buffer : setting.buffer ≡ conf.buffer

-- the text is that of the account, in a run with this configuration
abbrev pub IsTextOf : Conf → AccountState → List ℕ → Type 0
IsTextOf conf account text = (setting : Setting) → IsSettingOf conf setting → text ≡ text_of setting account

-- in some setting it is an account, and its records can be counted
pub record CanReport (account : AccountState) : Type 0 where
  pub setting : Setting
  pub is_account : IsAccountIn setting account
  pub few : length (flat_map (λ (records : List Record). records) (records_of account)) < 2 ^ 63
