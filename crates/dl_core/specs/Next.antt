-- Which events may stand next in a journal, told by the core that stands for it.
use Rattle.std.specs.Prelude.{◌≡◌, ◌≤◌, ℕ, ◌+◌, ◌++◌, Bool, List, length, None, IsSomeAnd}
use Rattle.dl_bytes.specs.declared.outcome.Done.{Done}
use Rattle.dl_events.specs.declared.event.Event.{Event}
use Rattle.dl_events.specs.declared.event.Event.TheVariants.{Connect}
use Rattle.dl_events.specs.declared.event.Why.{Why}
use Rattle.dl_model.specs.Backlog.{outbox_limit}
use Rattle.dl_model.specs.Journal.{AreInTurn, IsFramesNeed, IsInTurn, IsRunning, IsWellFormed}
use Rattle.dl_outside.specs.Told.{FolderTold}
use Rattle.dl_registry.specs.Kept.{owed_change}
use Rattle.dl_services.specs.declared.wish.Want.{Want}
use Rattle.dl_hub.specs.State.{outbox_of, MayAsk}
use Rattle.dl_core.specs.Closing.{MayEnd}
use Rattle.dl_core.specs.Follows.{IsAfter, Run, source_of}
use Rattle.dl_core.specs.Serving.{Answers, reply_now, wanted_now}
use Rattle.dl_core.specs.State.{Core}

-- ---- in their turn

-- An event stands in its turn behind whatever journal made the core what it is, where these others follow it.
abbrev pub ComesInTurn : Event → List Event → Core → Type 0
ComesInTurn event later core = (run : Run) (past : List Event) (taken : ℕ → List ℕ) → IsAfter run past taken core → IsInTurn run.setting (source_of run) past event later

-- the same of a journal in which no client was closed at the daemon's stop
abbrev pub ComesWhileRunning : Event → List Event → Core → Type 0
ComesWhileRunning event later core =
    (run : Run) (past : List Event) (taken : ℕ → List ℕ) → IsAfter run past taken core → IsRunning past → IsInTurn run.setting (source_of run) past event later

-- the same of the next client's Connect, and of a well-formed journal
abbrev pub ConnectsInTurn : List Event → Core → Type 0
ConnectsInTurn later core =
    (run : Run) (past : List Event) (taken : ℕ → List ℕ) → IsAfter run past taken core → IsRunning past → IsWellFormed run.setting (source_of run) past
    → IsInTurn run.setting (source_of run) past (Connect (length core.hub.clients + 1)) later

-- the same of an event before frames of which there are so many bytes
abbrev pub ComesBeforeFrames : Event → ℕ → List Event → Core → Type 0
ComesBeforeFrames event need later core =
    (run : Run) (past : List Event) (taken : ℕ → List ℕ) → IsAfter run past taken core → IsFramesNeed (source_of run) later need
    → IsInTurn run.setting (source_of run) past event later

-- Events stand in their turn behind whatever journal made the core what it is.
abbrev pub ComeInTurn : List Event → Core → Type 0
ComeInTurn events core = (run : Run) (past : List Event) (taken : ℕ → List ℕ) → IsAfter run past taken core → AreInTurn run.setting (source_of run) past events

-- These events make one core of another: whatever journal made the one, with these events more it makes the other, whatever the links of
-- its clients took meanwhile.
abbrev pub Makes : List Event → Core → Core → Type 0
Makes events old new =
    (run : Run) (past : List Event) (taken : ℕ → List ℕ) → IsAfter run past taken old → (taken_now : ℕ → List ℕ) × IsAfter run (past ++ events) taken_now new

-- Whatever well-formed journal made the core what it is, it is well-formed with these events more.
abbrev pub StaysFormed : List Event → Core → Type 0
StaysFormed events core =
    (run : Run) (past : List Event) (taken : ℕ → List ℕ) → IsAfter run past taken core → IsWellFormed run.setting (source_of run) past
    → IsWellFormed run.setting (source_of run) (past ++ events)

-- ---- clients

-- A client's request can be served now, and what it wants of the folder or of an application's queue had this answer.
pub record IsAnswered (core : Core) (client : ℕ) (frame : List ℕ) (answer : Done) : Type 0 where
  pub few : MayAsk core.hub client
  pub settled : owed_change core.registry ≡ None
  pub want : Want
  pub wanted : want ≡ wanted_now core frame
  pub pushed : Bool
  pub folder : FolderTold
  pub folder_now : FolderTold
  pub acts : Answers want pushed answer folder folder_now

-- A client may be closed for this cause now: it has an outbox, of the size that each has, for which the cause is so.
pub record CanEnd (core : Core) (client : ℕ) (why : Why) : Type 0 where
  pub settled : owed_change core.registry ≡ None
  pub may : MayEnd core.hub client why
  pub limit : IsSomeAnd (outbox_of core.hub client) (λ outbox. outbox.capacity ≡ outbox_limit core.hub.buffer)

-- A reply has so many bytes, and at most 65,535.
pub record IsReplySize (core : Core) (size : ℕ) : Type 0 where
  pub frame : List ℕ
  pub answer : Done
  pub size_is : size ≡ length (reply_now core frame answer)
  pub limit : size ≤ 65535
