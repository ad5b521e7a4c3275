-- What each call of a client comes to.
use Rattle.std.specs.Prelude.{◌≡◌, ℕ, zero, suc, ◌+◌, ◌-◌, ◌^◌, ◌<◌, ◌≤◌, List, [], ◌∷◌, ◌++◌, length, slice_get, Some, ◌⊎◌}
use Rattle.dl_bytes.specs.Limits.{text_limit}
use Rattle.dl_bytes.specs.declared.user.UserMsg.{UserMsg}
use Rattle.dl_bytes.specs.declared.user.UserMsg.TheVariants.{RegisterApp, UnregisterContext}
use Rattle.dl_user.specs.Layout.{user_message}
use Rattle.dl_client.specs.Account.{account}
use Rattle.dl_client.specs.Program.{Step, Filters, Queues, Loses, Announces, Opens, Obeys, Does, Runs, AreAccounts, IsFull, IsTold, one_filtered, opened, registration}
use Rattle.dl_client.specs.Seen.{seen, IsSame}
use Rattle.dl_client.specs.declared.client.Client.{Client}
use Rattle.dl_client.specs.declared.context.Call.{Call}
use Rattle.dl_client.specs.declared.context.Context.{Context}
use Rattle.dl_client.specs.declared.context.Opening.{Opening}
use Rattle.dl_client.specs.declared.outcome.Answer.{Answer}
use Rattle.dl_client.specs.declared.outcome.Answer.TheVariants as answer
use Rattle.dl_client.specs.declared.outcome.Logged.{Logged}
use Rattle.dl_client.specs.declared.outcome.Logged.TheVariants.{Filtered, Queued, Lost, Refused}

-- accounts were told, and nothing else was done
abbrev pub OnlyAccounts : Client → Client → Type 0
OnlyAccounts old new = (accounts : List Step) × AreAccounts accounts × ((taken : List ℕ) → Runs (seen old taken) accounts (seen new taken))

-- accounts were told, and then a step was done
abbrev pub Ends : Client → Step → Client → Type 0
Ends old step new = (accounts : List Step) × AreAccounts accounts × ((taken : List ℕ) → Runs (seen old taken) (accounts ++ step ∷ []) (seen new taken))

-- the context at this place is so
abbrev pub At : List Context → ℕ → (Context → Type 0) → Type 0
At contexts place P = (context : Context) × (slice_get contexts place ≡ Some context) × P context

-- nothing of the contexts before this place is lost that was not told
abbrev pub NoneLostBelow : ℕ → List Context → Type 0
NoneLostBelow end contexts = (place : ℕ) (context : Context) → place < end → slice_get contexts place ≡ Some context → context.lost ≡ 0

-- all calls of the context at this place were told
abbrev pub IsToldAt : List Context → ℕ → Type 0
IsToldAt contexts place = (context : Context) → slice_get contexts place ≡ Some context → IsTold context

-- there is no room for the account of the context at this place
abbrev pub NoRoomToTell : Client → ℕ → ℕ → Type 0
NoRoomToTell old place ticks = At old.contexts.now place (λ context. IsFull (seen old []) (account old.sender context old.accounts ticks))

-- no call: there is no such severity, or so long a payload isn't taken
abbrev pub IsNoCall : Call → List ℕ → Type 0
IsNoCall call payload = ((call.severity ≡ 0) ⊎ (6 < call.severity)) ⊎ (1390 < length payload)

-- a count is at its end
abbrev pub CountsAreFull : Context → Type 0
CountsAreFull context = (context.filtered ≡ 2 ^ 64 - 1) ⊎ ((context.queued ≡ 2 ^ 64 - 1) ⊎ (context.lost ≡ 2 ^ 64 - 1))

-- why a call isn't filtered: it has no context, its level lets it through, or it can't be counted
abbrev pub IsNotFiltered : List Context → ℕ → ℕ → Type 0
IsNotFiltered contexts place severity =
    (length contexts ≤ place) ⊎ At contexts place (λ context. (severity ≤ context.level) ⊎ (context.filtered ≡ 2 ^ 64 - 1))

-- so many calls of this context in one go, each filtered by its level
abbrev pub filters : ℕ → Context → ℕ → List Step
filters place context zero = []
filters place context (suc count) = Filters place context (context.level + 1) ∷ filters place (one_filtered context) count

-- so many calls can't be counted: there is no such context, or its count would be above its end
abbrev pub IsNotCounted : List Context → ℕ → ℕ → Type 0
IsNotCounted contexts place count = (length contexts ≤ place) ⊎ At contexts place (λ context. 2 ^ 64 ≤ context.filtered + count)

-- what became of a call, where accounts are no matter any more
abbrev pub IsDecided : Logged → ℕ → Call → List ℕ → Client → Client → Type 0
IsDecided Filtered place call payload old new = (context : Context) × ((taken : List ℕ) → Does (seen old taken) (Filters place context call.severity) (seen new taken))
IsDecided Queued place call payload old new = (context : Context) × ((taken : List ℕ) → Does (seen old taken) (Queues place context call payload) (seen new taken))
IsDecided Lost place call payload old new = (context : Context) × ((taken : List ℕ) → Does (seen old taken) (Loses place context call payload) (seen new taken))
IsDecided Refused place call payload old new = IsSame old new × At old.contexts.now place CountsAreFull

-- What became of a call: one step, before which losses may be told. One that is refused is no call, has no context, or can't be counted.
abbrev pub IsLogged : Logged → ℕ → Call → List ℕ → Client → Client → Type 0
IsLogged Filtered place call payload old new = (context : Context) × Ends old (Filters place context call.severity) new
IsLogged Queued place call payload old new = (context : Context) × Ends old (Queues place context call payload) new
IsLogged Lost place call payload old new = (context : Context) × Ends old (Loses place context call payload) new
IsLogged Refused place call payload old new = OnlyAccounts old new
    × ((length old.contexts.now ≤ place) ⊎ (IsNoCall call payload ⊎ At new.contexts.now place CountsAreFull))

-- What became of a level that the daemon told.
abbrev pub IsObeyed : Answer → ℕ → ℕ → ℕ → Client → Client → Type 0
IsObeyed answer.Done place level ticks old new = (context : Context) × Ends old (Obeys place context level) new
IsObeyed answer.Waits place level ticks old new = IsSame old new × NoRoomToTell old place ticks
IsObeyed answer.Refused place level ticks old new = IsSame old new × ((length old.contexts.now ≤ place) ⊎ (6 < level))

-- no context can be registered so: no place of four bytes, no such level, or too long a description
abbrev pub IsNoOpening : ℕ → Opening → Type 0
IsNoOpening place opening = (2 ^ 32 ≤ place) ⊎ ((6 < opening.level) ⊎ (text_limit < length opening.text.now))

-- the bytes that register a context as it is opened
abbrev pub opening_bytes : ℕ → Context → Opening → List ℕ
opening_bytes place context opening = user_message (registration place context opening.own opening.pid opening.text.now)

-- the registration of a context
abbrev pub registration_of : ℕ → Opening → UserMsg
registration_of place opening = registration place (opened opening) opening.own opening.pid opening.text.now

-- What became of a context that was to be registered.
abbrev pub IsOpened : Answer → ℕ → Opening → ℕ → Client → Client → Type 0
IsOpened answer.Done place opening ticks old new = Ends old (Opens place (opened opening) opening.own opening.pid opening.text.now) new
IsOpened answer.Waits place opening ticks old new =
    (IsSame old new × NoRoomToTell old place ticks) ⊎ (OnlyAccounts old new × IsFull (seen new []) (user_message (registration_of place opening)))
IsOpened answer.Refused place opening ticks old new = IsSame old new × ((length old.contexts.now ≤ place) ⊎ IsNoOpening place opening)

-- that a context is gone
abbrev pub gone : Context → ℕ → UserMsg
gone context pid = UnregisterContext context.apid context.ctid pid

-- What became of a context that was to be unregistered.
abbrev pub IsClosed : Answer → ℕ → ℕ → ℕ → Client → Client → Type 0
IsClosed answer.Done place pid ticks old new = At new.contexts.now place (λ context. Ends old (Announces (gone context pid)) new)
IsClosed answer.Waits place pid ticks old new =
    (IsSame old new × NoRoomToTell old place ticks)
    ⊎ (OnlyAccounts old new × At new.contexts.now place (λ context. IsFull (seen new []) (user_message (gone context pid))))
IsClosed answer.Refused place pid ticks old new = IsSame old new × (length old.contexts.now ≤ place)

-- What became of a user message that was to be queued.
abbrev pub IsAnnounced : Answer → UserMsg → Client → Client → Type 0
IsAnnounced answer.Done msg old new = (taken : List ℕ) → Does (seen old taken) (Announces msg) (seen new taken)
IsAnnounced answer.Waits msg old new = IsSame old new × IsFull (seen old []) (user_message msg)
IsAnnounced answer.Refused msg old new = ⊥

-- What became of an application that was to be registered.
abbrev pub IsRegistered : Answer → List ℕ → ℕ → List ℕ → Client → Client → Type 0
IsRegistered answer.Done apid pid text old new = IsAnnounced answer.Done (RegisterApp apid pid text) old new
IsRegistered answer.Waits apid pid text old new = IsAnnounced answer.Waits (RegisterApp apid pid text) old new
IsRegistered answer.Refused apid pid text old new = IsSame old new × (text_limit < length text)
