-- An application of this process: what it tells the daemon of itself and of its contexts.
use Rattle.std.specs.Prelude.{ℕ, ◌+◌, ◌-◌, ◌==◌, nat_lt, Bool, false, List, [], ◌∷◌, ◌++◌, length, negsuc, Option, Some, None, if◌then◌else◌}
use Rattle.std.specs.List.{list_any}
use Rattle.std.specs.Str.{bytes_eq}
use Rattle.dl_bytes.specs.Context.{Context}
use Rattle.dl_bytes.specs.Limits.{text_limit}
use Rattle.dl_bytes.specs.declared.conf.AppSpec.{AppSpec}
use Rattle.dl_bytes.specs.declared.user.UserMsg.{UserMsg}
use Rattle.dl_bytes.specs.declared.user.UserMsg.TheVariants.{RegisterApp, RegisterContext}
use Rattle.dl_desk.specs.declared.fault.AppFault.{AppFault}
use Rattle.dl_desk.specs.declared.fault.AppFault.TheVariants.{Started, ContextsFull, Twice, TooLong}

-- an application: its number, its id, its registrations, its own and then those of its contexts in their order, and whether a
-- writer of it was made
pub record AppState : Type 0 where
  pub number : ℕ
  pub apid : List ℕ
  pub hello : List UserMsg
  pub started : Bool

-- the registration of an application carries no process id
abbrev pub registration : AppSpec → UserMsg
registration spec = RegisterApp spec.apid 0 spec.text

-- that of a context carries no process id, the position 0 and the trace status -1
abbrev pub context_registration : List ℕ → List ℕ → Option ℕ → List ℕ → UserMsg
context_registration apid ctid level text = RegisterContext apid ctid 0 level (negsuc 0) 0 text

-- how many contexts an application has
abbrev pub contexts : AppState → ℕ
contexts app = length app.hello - 1

-- the message registers a context of this id
abbrev pub registers : List ℕ → UserMsg → Bool
registers ctid (RegisterContext apid other position level trace pid text) = bytes_eq other ctid
registers ctid _ = false

-- one of the messages does
abbrev pub is_registered : List ℕ → List UserMsg → Bool
is_registered ctid hello = list_any (registers ctid) hello

-- An application has at most 64 contexts, each of an id of its own, with a description of at most 255 bytes. It declares them
-- before its first writer is made: the places behind them are for those that writers claim.
abbrev pub context_fault : AppState → List ℕ → List ℕ → Option AppFault
context_fault app ctid text =
    if app.started then Some Started
    else if contexts app == 64 then Some ContextsFull
    else if is_registered ctid app.hello then Some Twice
    else if nat_lt text_limit (length text) then Some TooLong
    else None

-- the application with one context more, at the end
abbrev pub with_context : AppState → List ℕ → Option ℕ → List ℕ → AppState
with_context app ctid level text = record app { hello = app.hello ++ context_registration app.apid ctid level text ∷ [] }

-- the handle of an application's next context
abbrev pub next_context : AppState → List ℕ → Context
next_context app ctid = record { app = app.number; place = contexts app; apid = app.apid; ctid = ctid }

-- the application of this number, as it is declared
abbrev pub declared_app : ℕ → AppSpec → AppState
declared_app number spec = record { number = number; apid = spec.apid; hello = registration spec ∷ []; started = false }

-- the applications of these declarations, numbered from here on
abbrev pub declared_apps : ℕ → List AppSpec → List AppState
declared_apps number [] = []
declared_apps number (spec ∷ specs) = declared_app number spec ∷ declared_apps (number + 1) specs
