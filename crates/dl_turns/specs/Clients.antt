-- A client in its turn, as inner calls are handed it.
use Rattle.std.specs.Prelude.{◌≡◌}
use Rattle.dl_turns.specs.declared.client.Client.{Client}

-- it is the client that it was, with the same number, and with references to the same cutter and the same count
pub record IsSame (old new : Client) : Type 0 where
  pub number : new.number ≡ old.number
  pub cutter : new.cutter.ghost_name ≡ old.cutter.ghost_name
  pub served : new.served.ghost_name ≡ old.served.ghost_name
