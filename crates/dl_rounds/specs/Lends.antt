-- A listener that is lent out of its seat.
use Rattle.std.specs.Prelude.{ℕ, ◌-◌, slice_set}
use Rattle.std.specs.Borrow.{Lends, MutBor, Fml}
use Rattle.dl_rounds.specs.declared.listener.Listener.{Listener}
use Rattle.dl_rounds.specs.contracts.listener.Listener.{the_row as listener_row}
use Rattle.dl_rounds.specs.contracts.listener_pool.ListenerPool.{the_row}
use Rattle.dl_rounds.specs.ListenerPool.{Seated}

-- the listeners with this one at a client's number
abbrev pub with_listener : Seated → ℕ → Listener → Seated
with_listener seated client listener = record { listeners = slice_set seated.listeners (client - 1) listener; clients = seated.clients }

-- r lends the listener of a client: what is last left behind r is that client's listener, and the others stay
abbrev pub LendsListener : MutBor Seated → ℕ → MutBor Listener → Fml
LendsListener seated client r = Lends the_row listener_row seated r (with_listener seated.now client)
