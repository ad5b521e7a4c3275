-- What a follower stands for: the messages of files that came in pieces, and of the last one what stands behind its messages.
use Rattle.std.specs.Prelude.{◌≡◌, ℕ, Bool, true, List, [], ◌++◌, None}
use Rattle.dl_sessions.specs.declared.follower.Counts.{Counts}
use Rattle.dl_sessions.specs.declared.follower.Follower.{Follower}
use Rattle.dl_sessions.specs.declared.session.Told.{Told}
use Rattle.dl_sessions.specs.declared.stream.End.TheVariants.{Bad}
use Rattle.dl_sessions.specs.Account.{IsAfter}
use Rattle.dl_sessions.specs.Ledger.{IsLedgerOf}
use Rattle.dl_sessions.specs.Stream.{Tells, end_of, first_place}

-- What is counted is of these messages; where they are kept, they are there.
pub record AreAfter (stream : List Told) (counts : Counts) : Type 0 where
  pub account_is : IsAfter stream counts.account
  pub ledger_is : IsLedgerOf stream counts.ledger
  pub kept : counts.keeps ≡ true → counts.stream.items ≡ stream

-- bytes begin with messages that told this, behind which these stand: so it is whatever bytes come behind both
abbrev pub IsReadTo : (bytes rest : List ℕ) → List Told → Type 0
IsReadTo bytes rest stream = (behind : List ℕ) (more : List Told) (last : List ℕ) → Tells (rest ++ behind) more last → Tells (bytes ++ behind) (stream ++ more) last

-- The messages that begin these bytes were counted behind others, up to a rest that no whole message begins.
pub record HasCounted (before : List Told) (bytes rest : List ℕ) (counts : Counts) : Type 0 where
  pub stream : List Told
  pub read : IsReadTo bytes rest stream
  pub counted : AreAfter (before ++ stream) counts
  pub none : first_place rest ≡ None

-- Between two files: their messages are counted.
pub record IsAt (stream : List Told) (follower : Follower) : Type 0 where
  pub counted : AreAfter stream follower.counts
  pub empty : follower.held.items ≡ []

-- Within a file: the files before it told this, and of its own bytes these came.
abbrev pub Follows : List Told → List ℕ → Follower → Type 0
Follows before bytes follower = HasCounted before bytes follower.held.items follower.counts

-- A file that ended was let go, and another one may begin.
pub record HasClosed (before : List Told) (bytes rest : List ℕ) (follower : Follower) : Type 0 where
  pub stream : List Told
  pub tells : Tells bytes stream rest
  pub at : IsAt (before ++ stream) follower

-- no message begins with a rest, whatever comes behind it
abbrev pub EndsBad : List ℕ → Type 0
EndsBad rest = (behind : List ℕ) → (first_place (rest ++ behind) ≡ None) × (end_of (rest ++ behind) ≡ Bad)
