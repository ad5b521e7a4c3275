-- What is true of a program after any list of steps.
use Rattle.std.specs.Prelude.{◌≡◌, ℕ, ◌+◌, List, [], ◌∷◌, ◌++◌, Option, Some, None, slice_get, nat_eq, if◌then◌else◌}
use Rattle.dl_client.specs.Account.{account}
use Rattle.dl_client.specs.Program.{Program, Step, Filters, Queues, Loses, Tells, Announces, Opens, Obeys, Takes, Sizes, Runs, message_of, registration}
use Rattle.dl_client.specs.declared.context.Context.{Context}
use Rattle.dl_client.specs.declared.context.Sender.{Sender}
use Rattle.dl_user.specs.Layout.{user_message}

-- the bytes that a step queues
abbrev pub bytes_of : Sender → Step → List ℕ
bytes_of sender (Filters place context severity) = []
bytes_of sender (Queues place context call payload) = message_of sender context call payload
bytes_of sender (Loses place context call payload) = []
bytes_of sender (Tells place context number ticks) = account sender context number ticks
bytes_of sender (Announces msg) = user_message msg
bytes_of sender (Opens place context own pid text) = user_message (registration place context own pid text)
bytes_of sender (Obeys place context level) = []
bytes_of sender (Takes count) = []
bytes_of sender (Sizes size) = []

-- all that was queued, in order
abbrev pub queued_by : Sender → List Step → List ℕ
queued_by sender [] = []
queued_by sender (step ∷ steps) = bytes_of sender step ++ queued_by sender steps

-- what can become of a call
pub data Fate : Type 0 where
  Filtered : Fate
  Queued : Fate
  Lost : Fate

-- how many calls of a context became that since its last account
abbrev pub count_of : Fate → Context → ℕ
count_of Filtered context = context.filtered
count_of Queued context = context.queued
count_of Lost context = context.lost

abbrev pub count_at : Fate → Option Context → ℕ
count_at fate None = 0
count_at fate (Some context) = count_of fate context

-- a number where the places are the same
abbrev pub where_same : ℕ → ℕ → ℕ → ℕ
where_same place here n = if nat_eq here place then n else 0

-- one where the step is a call of the context at this place that becomes that
abbrev pub calls_of : Fate → ℕ → Step → ℕ
calls_of Filtered place (Filters here context severity) = where_same place here 1
calls_of Queued place (Queues here context call payload) = where_same place here 1
calls_of Lost place (Loses here context call payload) = where_same place here 1
calls_of fate place step = 0

-- the calls that an account of the context at this place tells
abbrev pub told_of : Fate → ℕ → Step → ℕ
told_of fate place (Tells here context number ticks) = where_same place here (count_of fate context)
told_of fate place step = 0

abbrev pub total : (Step → ℕ) → List Step → ℕ
total f [] = 0
total f (step ∷ steps) = f step + total f steps

-- the level of a context
abbrev pub level_at : Option Context → ℕ
level_at None = 0
level_at (Some context) = context.level

-- the level of the context at a place after a step: the daemon tells it, or it comes with a context that the place is given
abbrev pub level_by : ℕ → ℕ → Step → ℕ
level_by place level (Obeys here context now) = if nat_eq here place then now else level
level_by place level (Opens here context own pid text) = if nat_eq here place then context.level else level
level_by place level step = level

-- the level that a place was told last
abbrev pub level_after : ℕ → ℕ → List Step → ℕ
level_after place level [] = level
level_after place level (step ∷ steps) = level_after place (level_by place level step) steps

-- What the link took and what waits is what was queued, in order and nothing else; what accounts told of each fate of a context's
-- calls, and what is counted since, is how many calls became that; each place holds the level that it was told last.
pub record AddsUp (old : Program) (steps : List Step) (new : Program) : Type 0 where
  pub bytes : new.taken ++ new.waiting ≡ (old.taken ++ old.waiting) ++ queued_by old.sender steps
  pub counts : (fate : Fate) (place : ℕ) → total (told_of fate place) steps + count_at fate (slice_get new.contexts place)
      ≡ count_at fate (slice_get old.contexts place) + total (calls_of fate place) steps
  pub levels : (place : ℕ) → level_at (slice_get new.contexts place) ≡ level_after place (level_at (slice_get old.contexts place)) steps
  pub sender : new.sender ≡ old.sender

abbrev pub EachCallIsAccountedFor : Type 0
EachCallIsAccountedFor = (steps : List Step) (old new : Program) → Runs old steps new → AddsUp old steps new
