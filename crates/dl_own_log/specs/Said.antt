-- What each message of the daemon says: its arguments, one behind the other.
use Rattle.std.specs.Prelude.{ℕ, ◌≡◌, ◌<◌, ◌+◌, ◌*◌, List, [], ◌∷◌, ◌++◌, length, codes}
use Rattle.std.specs.List.{concat, flat_map}
use Rattle.dl_client.specs.Area.{held}
use Rattle.dl_client.specs.declared.area.bytes.Area.{Area}
use Rattle.dl_own_log.specs.Parts.{text, number}
use Rattle.dl_own_log.specs.declared.standing.Standing.{Standing}

-- so many arguments were added, these and nothing else; or there was no room
abbrev pub Says : ℕ → Area → Area → List (List ℕ) → Type 0
Says args old new fields = 0 < args → (args ≡ length fields) × (held new ≡ held old ++ concat fields)

-- a context has a level
abbrev pub level_fields : Standing → List ℕ → List (List ℕ)
level_fields one why = text one.apid ∷ text one.ctid ∷ text (codes "level") ∷ number one.level ∷ text why ∷ []

unfoldable pub client_payload : ℕ → List ℕ
client_payload client = concat (text (codes "client") ∷ number client ∷ [])

abbrev pub clients_payload : List ℕ → List ℕ
clients_payload clients = flat_map client_payload clients

-- the same by a request of one of these clients
abbrev pub SaysAsked : ℕ → Area → Area → Standing → List ℕ → Type 0
SaysAsked args old new one clients = 0 < args
    → (args ≡ 5 + 2 * length clients) × (held new ≡ held old ++ (concat (level_fields one (codes "requested by")) ++ clients_payload clients))

-- a context came or went
abbrev pub context_fields : List ℕ → List ℕ → List ℕ → List (List ℕ)
context_fields apid ctid what = text (codes "context") ∷ text apid ∷ text ctid ∷ text what ∷ []

-- an application came or went
abbrev pub application_fields : List ℕ → List ℕ → List (List ℕ)
application_fields apid what = text (codes "application") ∷ text apid ∷ text what ∷ []

-- a client or an external application came
abbrev pub connected_fields : List ℕ → ℕ → List (List ℕ)
connected_fields who n = text who ∷ number n ∷ text (codes "connected") ∷ []

-- and went
abbrev pub disconnected_fields : List ℕ → ℕ → List ℕ → List (List ℕ)
disconnected_fields who n why = text who ∷ number n ∷ text (codes "disconnected") ∷ text why ∷ []

abbrev pub untaken_fields : ℕ → List (List ℕ)
untaken_fields bytes = text (codes "bytes not taken") ∷ number bytes ∷ []

-- the trace goes on in another file
abbrev pub trace_file_fields : ℕ → ℕ → List (List ℕ)
trace_file_fields n removed = text (codes "trace file") ∷ number n ∷ text (codes "begun, files removed") ∷ number removed ∷ []

-- it has ended
abbrev pub ended_fields : List ℕ → List (List ℕ)
ended_fields why = text (codes "offline trace ended") ∷ text why ∷ []

-- it was begun anew
abbrev pub restarted_fields : ℕ → List (List ℕ)
restarted_fields missing = text (codes "offline trace restarted, messages in no trace file") ∷ number missing ∷ []

-- a session began, without so many messages that waited
abbrev pub session_fields : ℕ → ℕ → List (List ℕ)
session_fields n lost = text (codes "session") ∷ number n ∷ text (codes "begun, messages lost that waited for a client") ∷ number lost ∷ []
