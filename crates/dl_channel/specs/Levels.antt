-- The levels that a program is told.
use Rattle.std.specs.Prelude.{ℕ, ◌+◌, true, nat_le, List, ◌++◌, length, negsuc, if◌then◌else◌}
use Rattle.dl_bytes.specs.declared.user.UserMsg.TheVariants.{LogLevel}
use Rattle.dl_user.specs.Layout.{user_message}
use Rattle.dl_channel.specs.State.{Outbox, waiting_limit}

-- the message that tells the level of the context at a position of the program's own table; its trace status is -1
abbrev pub level_message : ℕ → ℕ → List ℕ
level_message level position = user_message (LogLevel level (negsuc 0) position)

-- A message is put behind what waits, where it fits. The first one that doesn't makes it full, and nothing is put into a full one.
abbrev pub with_message : List ℕ → Outbox → Outbox
with_message message outbox =
    if outbox.full then outbox
    else if nat_le (length outbox.waiting + length message) waiting_limit then record outbox { waiting = outbox.waiting ++ message }
    else record outbox { full = true }

-- that of a context's level
abbrev pub with_level : ℕ → ℕ → Outbox → Outbox
with_level level position outbox = with_message (level_message level position) outbox
