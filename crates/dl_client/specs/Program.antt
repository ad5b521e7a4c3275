-- What a program does with the calls of its contexts, step by step.
use Rattle.std.specs.Prelude.{◌≡◌, ℕ, ◌+◌, ◌%◌, ◌<◌, ◌≤◌, List, [], ◌∷◌, ◌++◌, length, take, drop, slice_get, slice_set, Option, Some, ◌⊎◌, pos, negsuc}
use Rattle.dl_bytes.specs.declared.user.UserMsg.{UserMsg}
use Rattle.dl_bytes.specs.declared.user.UserMsg.TheVariants.{RegisterContext}
use Rattle.dl_user.specs.Layout.{user_message, marker, uint32, signed, level_number}
use Rattle.dl_client.specs.declared.context.Call.{Call}
use Rattle.dl_client.specs.declared.context.Context.{Context}
use Rattle.dl_client.specs.declared.context.Opening.{Opening}
use Rattle.dl_client.specs.declared.context.Sender.{Sender}
use Rattle.dl_client.specs.declared.message.Source.{Source}
use Rattle.dl_client.specs.Account.{account}
use Rattle.dl_client.specs.Message.{message, user_log}

-- the contexts by their places, how many bytes may wait, the number of the next account, the bytes that wait, and those that
-- the link took so far, which aren't kept
pub record Program : Type 0 where
  pub contexts : List Context
  pub size : ℕ
  pub sender : Sender
  pub accounts : ℕ
  pub waiting : List ℕ
  pub taken : List ℕ

-- A call is filtered, its message is queued, or it is lost. A context's account is told. A registration is queued, or one with
-- which a context begins at a place. The daemon tells a level. The link takes bytes. The queue is given other memory. The context is
-- given as it was.
pub data Step : Type 0 where
  Filters : (place : ℕ) (context : Context) (severity : ℕ) → Step
  Queues : (place : ℕ) (context : Context) (call : Call) (payload : List ℕ) → Step
  Loses : (place : ℕ) (context : Context) (call : Call) (payload : List ℕ) → Step
  Tells : (place : ℕ) (context : Context) (number ticks : ℕ) → Step
  Announces : (msg : UserMsg) → Step
  Opens : (place : ℕ) (context : Context) (own : Option ℕ) (pid : ℕ) (text : List ℕ) → Step
  Obeys : (place : ℕ) (context : Context) (level : ℕ) → Step
  Takes : (count : ℕ) → Step
  Sizes : (size : ℕ) → Step

-- the context of a message, and its MCNT
abbrev pub source_of : Context → Source
source_of context = record { apid = context.apid; ctid = context.ctid; mcnt = context.mcnt }

-- the message of a call, as the daemon takes it
abbrev pub message_of : Sender → Context → Call → List ℕ → List ℕ
message_of sender context call payload = user_log (message sender (source_of context) call payload)

-- the registration of a context
abbrev pub registration : ℕ → Context → Option ℕ → ℕ → List ℕ → UserMsg
registration place context own pid text = RegisterContext context.apid context.ctid place own (pos 0) pid text

-- its bytes up to the trace status
abbrev pub registration_front : ℕ → Context → Option ℕ → List ℕ
registration_front place context own =
    marker ++ uint32 4 ++ context.apid ++ context.ctid ++ uint32 place ++ signed (level_number (negsuc 0) own) ++ signed (pos 0)

-- a context that was just registered, of which nothing is counted
abbrev pub opened : Opening → Context
opened opening = record {
  apid = opening.apid;
  ctid = opening.ctid;
  level = opening.level;
  mcnt = 0;
  filtered = 0;
  queued = 0;
  lost = 0;
}

-- this context stands at the place instead
abbrev pub with_context : Program → ℕ → Context → Program
with_context old place context = record old { contexts = slice_set old.contexts place context }

-- these bytes wait behind all others
abbrev pub with_bytes : Program → List ℕ → Program
with_bytes old bytes = record old { waiting = old.waiting ++ bytes }

-- one account more was told
abbrev pub next_account : Program → Program
next_account old = record old { accounts = (old.accounts + 1) % 256 }

-- there is no room for these bytes
abbrev pub IsFull : Program → List ℕ → Type 0
IsFull old bytes = old.size < length old.waiting + length bytes

-- one call more of each kind, and all counts told
abbrev pub one_filtered : Context → Context
one_filtered context = record context { filtered = context.filtered + 1 }

abbrev pub one_queued : Context → Context
one_queued context = record context { mcnt = (context.mcnt + 1) % 256; queued = context.queued + 1 }

abbrev pub one_lost : Context → Context
one_lost context = record context { mcnt = (context.mcnt + 1) % 256; lost = context.lost + 1 }

abbrev pub told : Context → Context
told context = record context { filtered = 0; queued = 0; lost = 0 }

-- nothing was counted since the last account
abbrev pub IsTold : Context → Type 0
IsTold context = (context.filtered ≡ 0) × (context.queued ≡ 0) × (context.lost ≡ 0)

-- each loss was told
abbrev pub NoneLost : List Context → Type 0
NoneLost contexts = (place : ℕ) (context : Context) → slice_get contexts place ≡ Some context → context.lost ≡ 0

-- a loss is to be told, and there is no room for its account
abbrev pub CannotTell : Program → ℕ → Type 0
CannotTell old ticks = (place : ℕ) × (context : Context) × (slice_get old.contexts place ≡ Some context) × (0 < context.lost)
    × IsFull old (account old.sender context old.accounts ticks)

-- What a step does. A call's level decides; a message is queued only where each loss was told before it; and a level changes, or
-- a place is given anew, only where all of the context's calls were told.
abbrev pub Does : Program → Step → Program → Type 0
Does old (Filters place context severity) new =
    (slice_get old.contexts place ≡ Some context) × (context.level < severity)
    × (new ≡ with_context old place (one_filtered context))
Does old (Queues place context call payload) new =
    (slice_get old.contexts place ≡ Some context) × (call.severity ≤ context.level) × NoneLost old.contexts
    × (new ≡ with_bytes (with_context old place (one_queued context)) (message_of old.sender context call payload))
Does old (Loses place context call payload) new =
    (slice_get old.contexts place ≡ Some context) × (call.severity ≤ context.level)
    × (IsFull old (message_of old.sender context call payload) ⊎ CannotTell old call.ticks)
    × (new ≡ with_context old place (one_lost context))
Does old (Tells place context number ticks) new =
    (slice_get old.contexts place ≡ Some context) × (number ≡ old.accounts)
    × (new ≡ next_account (with_bytes (with_context old place (told context)) (account old.sender context number ticks)))
Does old (Announces msg) new = new ≡ with_bytes old (user_message msg)
Does old (Opens place context own pid text) new =
    (before : Context) × (slice_get old.contexts place ≡ Some before) × IsTold before × IsTold context
    × (new ≡ with_bytes (with_context old place context) (user_message (registration place context own pid text)))
Does old (Obeys place context level) new =
    (slice_get old.contexts place ≡ Some context) × IsTold context
    × (new ≡ with_context old place (record context { level = level }))
Does old (Takes count) new =
    new ≡ record old { waiting = drop count old.waiting; taken = old.taken ++ take count old.waiting }
Does old (Sizes size) new = (length old.waiting ≤ size) × (new ≡ record old { size = size })

-- steps one after the other
abbrev pub Runs : Program → List Step → Program → Type 0
Runs old [] new = old ≡ new
Runs old (step ∷ steps) new = (between : Program) × Does old step between × Runs between steps new

-- accounts and nothing else
abbrev pub AreAccounts : List Step → Type 0
AreAccounts [] = Unit {0}
AreAccounts (Tells place context number ticks ∷ steps) = AreAccounts steps
AreAccounts (step ∷ steps) = ⊥
