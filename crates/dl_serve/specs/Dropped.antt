-- Why links were dropped.
use Rattle.std.specs.Prelude.{◌≡◌, ◌⊎◌, ◌≤◌, ℕ, Bool, true, length}
use Rattle.dl_bytes.specs.Limits.{open_client_limit}
use Rattle.dl_serve.specs.declared.closed.Closed.{Closed}
use Rattle.dl_socket.specs.Channels.{open_channel_limit}

-- Of so many clients and so many channels that came so many links were dropped: none; or memory was wanting; or as many clients came as may be open at
-- once, or as many channels.
abbrev pub DropsFor : ℕ → ℕ → Bool → ℕ → Type 0
DropsFor clients channels wanted dropped = (dropped ≡ 0) ⊎ (wanted ≡ true) ⊎ (open_client_limit ≤ clients) ⊎ (open_channel_limit ≤ channels)

-- so it is of what was served
abbrev pub HasDropped : {L : Type 0} → Closed L → Type 0
HasDropped closed = DropsFor (length closed.clients.links) (length closed.users.links) closed.memory closed.state.dropped
