-- What waits for the daemon.
use Rattle.std.specs.Prelude.{ℕ, ◌-◌, List, length}
use Rattle.dl_world_calls.specs.declared.queue.Entry.{Entry}

-- all that came, in order, and how much of it is gone
pub record Waiting : Type 0 where
  pub entries : List Entry
  pub gone : ℕ

-- how much waits
abbrev pub waiting : Waiting → ℕ
waiting queue = length queue.entries - queue.gone
