-- The limits of the daemon's rounds, each once.
use Rattle.std.specs.Prelude.{ℕ, ◌+◌, ◌*◌}
use Rattle.dl_bytes.specs.Limits.{app_limit, client_limit, context_limit}

-- how many takes of an application may give in a round
abbrev pub take_limit : ℕ
take_limit = 64

-- how many places for contexts all applications together have
abbrev pub place_limit : ℕ
place_limit = app_limit * context_limit

-- how many Claim events rounds may note: one more than there are places
abbrev pub claim_limit : ℕ
claim_limit = place_limit + 1

-- for how many events beside its Log and Lost events a daemon needs room: the Claim events with a Level event of each, and a Connect and a Close
-- of each client
abbrev pub more_events : ℕ
more_events = 2 * claim_limit + 2 * client_limit
