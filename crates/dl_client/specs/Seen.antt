-- What contracts see of a client.
use Rattle.std.specs.Prelude.{◌≡◌, ℕ, List, length}
use Rattle.dl_client.specs.Area.{held}
use Rattle.dl_client.specs.Program.{Program}
use Rattle.dl_client.specs.declared.client.Client.{Client}

-- a client whose link took these bytes so far
abbrev pub seen : Client → List ℕ → Program
seen client taken = record {
  contexts = client.contexts.now;
  size = length client.queue.bytes.now;
  sender = client.sender;
  accounts = client.accounts;
  waiting = held client.queue;
  taken = taken;
}

-- nothing changed
abbrev pub IsSame : Client → Client → Type 0
IsSame old new = (taken : List ℕ) → seen new taken ≡ seen old taken
