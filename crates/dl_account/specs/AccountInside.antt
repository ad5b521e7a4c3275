-- The fields of an account, and what is true of them.
use Rattle.std.specs.Prelude.{◌≡◌, length}
use Rattle.dl_account.specs.declared.account.Account.TheInside as account
use Rattle.dl_account.specs.Books.{given_by}
use Rattle.dl_account.specs.ClosingInside.{HaveBooks, HaveHandles}
use Rattle.dl_account.specs.Entries.{entries_of}
use Rattle.dl_account.specs.Known.{IsDrained}
use Rattle.dl_account.specs.State.{AccountState, ClosingState}

abbrev pub account_state : account.Inside → AccountState
account_state a = record { apps = a.apps; handles = a.handles; books = a.books.value; events = a.journal.events; outcome = a.ends }

-- of the daemon's side when nothing was left to take or to tell
abbrev pub settled_side : account.Inside → ClosingState
settled_side a = record { apps = a.apps; handles = a.handles; books = a.books.value }

pub record IsAccount (a : account.Inside) : Type 0 where
  pub books : HaveBooks (length a.apps) a.books.value
  pub handles : HaveHandles (settled_side a)
  pub drained : IsDrained (settled_side a)
  pub injected : a.injected.items ≡ given_by (length a.apps) a.books.value
  pub entries : a.entries ≡ entries_of a.books.value
