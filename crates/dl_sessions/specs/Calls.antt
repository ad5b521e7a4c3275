-- What an account of a program's library tells: its payload, as the library writes it, read at its fields' places.
use Rattle.std.specs.Prelude.{ℕ, ◌==◌, Bool, true, false, List, [], ◌∷◌, length, drop, slice_index, Option, Some, None, if◌then◌else◌}
use Rattle.std.specs.Str.{bytes_eq}
use Rattle.byteorder.specs.Endian.{little_number}
use Rattle.dl_bytes.specs.Id.{zero_id}
use Rattle.dl_client.specs.Account.{account_payload}
use Rattle.dl_client.specs.declared.context.Context.{Context}
use Rattle.dl_sessions.specs.declared.session.Calls.{Calls}

-- the context of which the library would tell these calls
abbrev pub context_told : Calls → Context
context_told calls = record {
  apid = zero_id;
  ctid = calls.ctid;
  level = calls.level;
  mcnt = 0;
  filtered = calls.filtered;
  queued = calls.queued;
  lost = calls.lost;
}

-- what a message tells that is no account
abbrev pub no_calls : Calls
no_calls = record { are_told = false; ctid = zero_id; level = 0; filtered = 0; queued = 0; lost = 0 }

-- the id, the level and the counts at their places
abbrev pub calls_at : List ℕ → Calls
calls_at payload = record {
  are_told = true;
  ctid = slice_index payload 18 ∷ slice_index payload 19 ∷ slice_index payload 20 ∷ slice_index payload 21 ∷ [];
  level = slice_index payload 39;
  filtered = little_number 8 (drop 59 payload);
  queued = little_number 8 (drop 84 payload);
  lost = little_number 8 (drop 107 payload);
}

-- the library writes this payload of these calls
unfoldable pub is_written : Calls → List ℕ → Bool
is_written calls payload = bytes_eq payload (account_payload (context_told calls))

-- a payload is an account's where the library writes it so of what is read of it
abbrev pub calls_of : List ℕ → Calls
calls_of payload = if length payload == 115 then (if is_written (calls_at payload) payload then calls_at payload else no_calls) else no_calls

-- the calls that are told, where some are
abbrev pub calls_in : Calls → Option Calls
calls_in calls = if calls.are_told then Some calls else None
