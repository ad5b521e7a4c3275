-- What the lines so far declare, and why a line may not follow them.
use Rattle.std.specs.Prelude.{◌≡◌, ℕ, ◌+◌, ◌-◌, Bool, true, false, not, ◌==◌, ◌&&◌, ◌||◌, nat_le, nat_lt, List, [], ◌∷◌, ◌++◌, length, slice_get, slice_set, count_by, is_none, Option, Some, None, Result, Ok, Err, if◌then◌else◌}
use Rattle.std.specs.List.{list_any}
use Rattle.std.specs.Option.{option_map_or}
use Rattle.std.specs.Str.{bytes_eq}
use Rattle.dl_script.specs.declared.claim.Claim.{Claim}
use Rattle.dl_script.specs.declared.claim.Claim.TheVariants as claim
use Rattle.dl_script.specs.declared.claim.ContextName.{ContextName}
use Rattle.dl_script.specs.declared.claim.PlaceName.{PlaceName}
use Rattle.dl_script.specs.declared.claim.Client.{Client}
use Rattle.dl_script_fields.specs.declared.kind.LineError.{LineError}
use Rattle.dl_script_fields.specs.declared.kind.LineError.TheVariants.{Fault, OutOfMemory}
use Rattle.dl_script_fields.specs.declared.kind.ScriptKind.{ScriptKind}
use Rattle.dl_script_fields.specs.declared.kind.ScriptKind.TheVariants.{Order, Unknown, Twice, Limit}

-- what the lines so far declare, each in the order of the lines
pub record Declared : Type 0 where
  pub apps : List (List ℕ)  -- the applications
  pub contexts : List ContextName
  pub places : List PlaceName  -- those that writers claim
  pub writers : List (List ℕ)  -- the application of each writer
  pub clients : List Client
  pub calls : ℕ  -- how many log calls
  pub user : Bool  -- whether user messages came

abbrev pub nothing : Declared
nothing = record { apps = []; contexts = []; places = []; writers = []; clients = []; calls = 0; user = false }

-- ---- who is declared

abbrev pub is_app : Declared → List ℕ → Bool
is_app known apid = list_any (λ id. bytes_eq id apid) known.apps

-- a context of this application
abbrev pub is_of : List ℕ → ContextName → Bool
is_of apid context = bytes_eq context.apid apid

abbrev pub is_named : List ℕ → List ℕ → ContextName → Bool
is_named apid ctid context = bytes_eq context.apid apid && bytes_eq context.ctid ctid

abbrev pub is_context : Declared → List ℕ → List ℕ → Bool
is_context known apid ctid = list_any (is_named apid ctid) known.contexts

-- an entry of a list that is counted from 1
abbrev pub numbered : {A : Type 0} → List A → ℕ → Option A
numbered entries number = if number == 0 then None else slice_get entries (number - 1)

-- a place that is claimed on this application
abbrev pub is_on : List ℕ → PlaceName → Bool
is_on apid place = bytes_eq place.apid apid

abbrev pub is_claimed_on : Declared → List ℕ → Bool
is_claimed_on known apid = list_any (is_on apid) known.places

-- how many contexts of an application are declared, and places of it claimed
abbrev pub places_on : Declared → List ℕ → ℕ
places_on known apid = count_by (is_of apid) known.contexts + count_by (is_on apid) known.places

-- a writer claims a place for this id
abbrev pub is_claim_of : ℕ → List ℕ → PlaceName → Bool
is_claim_of writer ctid place = (place.writer == writer) && bytes_eq place.ctid ctid

abbrev pub claims_for : Declared → ℕ → List ℕ → Bool
claims_for known writer ctid = list_any (is_claim_of writer ctid) known.places

-- the context that a writer names: one that is declared of its application, or one that it claims
abbrev pub logs_under : Declared → ℕ → List ℕ → Bool
logs_under known writer ctid = option_map_or (λ apid. is_context known apid ctid || claims_for known writer ctid) (numbered known.writers writer) false

-- ---- why a line may not follow

-- the first that holds
abbrev pub first_of : List (Bool × ScriptKind) → Option ScriptKind
first_of [] = None
first_of (cause ∷ causes) = if cause.0 then Some cause.1 else first_of causes

-- why a line with this claim may not follow
abbrev pub refusal : Declared → Claim → Option ScriptKind
refusal known claim.Nothing = None
refusal known (claim.App apid) = first_of (
    (known.user, Order) ∷ (is_app known apid, Twice) ∷ (nat_le 16 (length known.apps), Limit) ∷ [])
refusal known (claim.Context apid ctid) = first_of (
    (known.user || is_claimed_on known apid, Order) ∷ (not (is_app known apid), Unknown) ∷ (is_context known apid ctid, Twice)
    ∷ (nat_le 64 (places_on known apid), Limit) ∷ [])
refusal known (claim.Writer apid) = first_of ((not (is_app known apid), Unknown) ∷ (nat_le 32 (length known.writers), Limit) ∷ [])
refusal known (claim.Place writer ctid) =
    option_map_or (λ apid. first_of ((nat_le 64 (places_on known apid), Limit) ∷ [])) (numbered known.writers writer) (Some Unknown)
refusal known (claim.Calls writer ctid count) = first_of ((not (logs_under known writer ctid), Unknown) ∷ (nat_lt 1000000 (known.calls + count), Limit) ∷ [])
refusal known (claim.OfWriter writer) = first_of ((is_none (numbered known.writers writer), Unknown) ∷ [])
refusal known (claim.OfApp apid) = first_of ((not (is_app known apid), Unknown) ∷ [])
refusal known claim.Connect = None
refusal known claim.Client = first_of ((nat_le 32 (length known.clients), Limit) ∷ [])
refusal known (claim.OfClient client) = first_of ((is_none (numbered known.clients client), Unknown) ∷ [])
refusal known claim.User = None
refusal known (claim.Send client bytes) =
    option_map_or (λ c. first_of ((nat_lt 1000000 (c.sent + bytes), Limit) ∷ [])) (numbered known.clients client) (Some Unknown)
refusal known (claim.Leave client) =
    option_map_or (λ c. first_of ((c.leaves, Twice) ∷ [])) (numbered known.clients client) (Some Unknown)

-- ---- what a line adds

-- a client that has sent so many bytes more
abbrev pub sends_more : ℕ → Client → Client
sends_more bytes client = record { sent = client.sent + bytes; leaves = client.leaves }

abbrev pub leaving : Client → Client
leaving client = record { sent = client.sent; leaves = true }

-- a client changed, counted from 1
abbrev pub changed : (Client → Client) → ℕ → List Client → List Client
changed change number clients = option_map_or (λ client. slice_set clients (number - 1) (change client)) (numbered clients number) clients

-- what is declared with a line of this claim
abbrev pub noted : Declared → Claim → Declared
noted known claim.Nothing = known
noted known (claim.App apid) = record known { apps = known.apps ++ apid ∷ [] }
noted known (claim.Context apid ctid) = record known { contexts = known.contexts ++ record { apid = apid; ctid = ctid } ∷ [] }
noted known (claim.Writer apid) = record known { writers = known.writers ++ apid ∷ [] }
noted known (claim.Place writer ctid) = option_map_or (λ apid. record known { places = known.places ++ record { writer = writer; apid = apid; ctid = ctid } ∷ [] }) (numbered known.writers writer) known
noted known (claim.Calls writer ctid count) = record known { calls = known.calls + count }
noted known (claim.OfWriter writer) = known
noted known (claim.OfApp apid) = known
noted known claim.Connect = record known { clients = known.clients ++ record { sent = 0; leaves = false } ∷ [] }
noted known claim.Client = record known { clients = known.clients ++ record { sent = 0; leaves = false } ∷ [] }
noted known (claim.OfClient client) = known
noted known claim.User = record known { user = true }
noted known (claim.Send client bytes) = record known { clients = changed (sends_more bytes) client known.clients }
noted known (claim.Leave client) = record known { clients = changed leaving client known.clients }

-- A line with this claim may follow, and is noted; or it may not, for this cause, and nothing is noted. Want of memory
-- notes nothing either.
abbrev pub Admits : Claim → Result Unit LineError → Declared → Declared → Type 0
Admits claim (Ok done) old new = (refusal old claim ≡ None) × (new ≡ noted old claim)
Admits claim (Err (Fault kind)) old new = (refusal old claim ≡ Some kind) × (new ≡ old)
Admits claim (Err OutOfMemory) old new = new ≡ old
