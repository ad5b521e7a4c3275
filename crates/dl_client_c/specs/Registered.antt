-- A context as C registers it.
use Rattle.std.specs.Prelude.{◌≡◌, ℕ, ◌<◌, ◌≤◌, ◌^◌, List, [], length, Option, None, ◌⊎◌}
use Rattle.dl_bytes.specs.Level.{own_level_of}
use Rattle.dl_bytes.specs.Limits.{text_limit}
use Rattle.dl_user.specs.Layout.{user_message}
use Rattle.dl_client.specs.Outcomes.{NoRoomToTell, OnlyAccounts}
use Rattle.dl_client.specs.Program.{IsFull, registration}
use Rattle.dl_client.specs.Seen.{seen, IsSame}
use Rattle.dl_client.specs.declared.client.Client.{Client}
use Rattle.dl_client.specs.declared.context.Context.{Context}
use Rattle.dl_client_c.specs.declared.registration.Registration.{Registration}

-- the context, of which nothing is counted
abbrev pub registered : Registration → Context
registered context = record {
  apid = context.apid;
  ctid = context.ctid;
  level = context.level;
  mcnt = 0;
  filtered = 0;
  queued = 0;
  lost = 0;
}

-- there is no room for the account of the context that had the place, or for the registration
abbrev pub WaitsToOpen : ℕ → Registration → Option ℕ → List ℕ → ℕ → Client → Client → Type 0
WaitsToOpen place context own text ticks old new = (IsSame old new × NoRoomToTell old place ticks)
    ⊎ (OnlyAccounts old new × IsFull (seen new []) (user_message (registration place (registered context) own context.pid text)))

-- no context can be registered so
abbrev pub IsNoRegistration : ℕ → Registration → List ℕ → Client → Type 0
IsNoRegistration place context text old = (own_level_of context.own ≡ None)
    ⊎ ((length old.contexts.now ≤ place) ⊎ ((2 ^ 32 ≤ place) ⊎ ((6 < context.level) ⊎ (text_limit < length text))))
