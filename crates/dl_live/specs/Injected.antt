-- What became of the data that clients sent to applications.
use Rattle.std.specs.Prelude.{◌≡◌, ℕ, ◌+◌, ◌≤◌, [], length}
use Rattle.dl_desk.specs.Told.{told_by}
use Rattle.dl_account.specs.Books.{injected_of}
use Rattle.dl_account.specs.State.{AccountState}
use Rattle.dl_model.specs.Setting.{Setting}
use Rattle.dl_turns.specs.Injected.{AreRefusedFull, injected_by, refused_by}

-- The queue of an application took just the injections of the requests that were done, and refused those of the ones that failed, each behind at
-- least 16 that it took. Its writers were given no more than it took, and no more than 16 were left.
pub record IsInjected (setting : Setting) (account : AccountState) (app : ℕ) : Type 0 where
  pub pushed : (told_by (length account.apps) account.handles).pushed app ≡ injected_by setting app [] account.events
  pub refused : (told_by (length account.apps) account.handles).refusals app ≡ length (refused_by setting app [] account.events)
  pub full : AreRefusedFull setting app 0 [] account.events
  pub given : injected_of app account.books ≤ length (injected_by setting app [] account.events)
  pub left : length (injected_by setting app [] account.events) ≤ injected_of app account.books + 16
