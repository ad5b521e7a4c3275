-- What each round of a daemon does for those who are there, and for its trace.
use Rattle.std.specs.Prelude.{◌≡◌, ◌<◌, ◌≤◌, ◌+◌, ℕ, Option, Some, None, false}
use Rattle.dl_bytes.specs.Limits.{admitted_limit}
use Rattle.dl_bytes.specs.declared.conf.Conf.{Conf}
use Rattle.dl_bytes.specs.declared.moment.Moment.{Moment}
use Rattle.dl_model.specs.Setting.{Setting}
use Rattle.dl_outside.specs.Told.{FolderTold, LinkTold, NetTold}
use Rattle.dl_serve.specs.Open.{IsHeard, Listens}
use Rattle.dl_serve.specs.Service.{IsClosing, Rounds, ServesRound, Standing, frames_in, nobody}
use Rattle.dl_serve.specs.declared.beginning.Begun.{Begun}
use Rattle.dl_serve.specs.declared.closed.Closed.{Closed}
use Rattle.dl_trace.specs.State.{Trace}
use Rattle.dl_daemon.specs.declared.limits.Limits.{Limits}
use Rattle.dl_daemon.specs.declared.rounds.Stop.{Stop}
use Rattle.dl_daemon.specs.declared.rounds.Stop.TheVariants.{Asked, Spent}
use Rattle.dl_daemon.specs.declared.watch.Watched.{Watched}
use Rattle.dl_daemon.specs.Open.{setting}
use Rattle.dl_daemon.specs.Renewing.{Renewed, Renews, last_anew, untried}
use Rattle.dl_daemon.specs.Rounds.{turn_frames}
use Rattle.dl_daemon.specs.Watching.{ended_for, let_begin}

-- What stands between two rounds of a daemon: what stands of a server; the trace, and what the folder tells; and how the trace was kept so far.
pub record Between (L : Type 0) : Type 0 where
  pub standing : Standing L
  pub trace : Option Trace
  pub folder : FolderTold
  pub renewed : Renewed

-- before the first round, over this trace
abbrev pub untouched : {L : Type 0} → NetTold L → NetTold L → Option Trace → FolderTold → Between L
untouched net users trace folder =
    record { standing = nobody net users; trace = trace; folder = folder; renewed = record { tries = untried; anew = None } }

-- ---- a round

-- One round, which began with room for the frames of a turn. Before it a try to begin the trace anew was made where one was due, and else none; where it was
-- begun, what the folder told and what was noted until then is kept. Then who is there was served, and each net was asked, whether it had failed or not.
pub record ServesOnce {L : Type 0} (told : L → LinkTold) (conf : Conf) (setting : Setting) (old new : Between L) : Type 0 where
  pub room : frames_in setting old.standing.events + turn_frames ≤ admitted_limit
  pub moment : Moment
  pub begun : Option ℕ
  pub trace : Option Trace
  pub folder : FolderTold
  pub renews : Renews conf setting.ecu moment begun old.renewed.tries new.renewed.tries old.trace trace old.folder folder
  pub anew : new.renewed.anew ≡ last_anew begun moment old.folder (Some old.standing.events) old.renewed.anew
  pub serves : ServesRound told false setting old.standing.net.faults old.standing.users.faults old.standing new.standing

-- why rounds end, by how many frames were admitted: a channel's turn might admit more than may be; or the watch ended them, and none might
abbrev pub EndsFor : Stop → ℕ → Type 0
EndsFor Spent frames = admitted_limit < frames + turn_frames
EndsFor Asked frames = frames + turn_frames ≤ admitted_limit

-- The daemon went on, by what both nets tell before and after it, and the folder before it. First both nets listened, each on its port. Then rounds were made until
-- there was a cause to end them, as many as the watch let begin, each of which served who was there. Behind the last of them was the closing. Both nets listen on
-- their ports at the end, too.
pub record HasGoneOn {L : Type 0} (told : L → LinkTold) (most : Limits) (begun : Begun) (why : Stop) (folder : FolderTold) (net net_now users users_now : NetTold L)
    (watch watch_now : Watched) (closed : Closed L) (last : Between L) : Type 0 where
  pub first_net : NetTold L
  pub first_users : NetTold L
  pub net_heard : IsHeard begun.port net first_net
  pub users_heard : IsHeard begun.users users first_users
  pub many : ℕ
  pub rounds : Rounds (ServesOnce told begun.conf (setting most begun)) many (untouched first_net first_users begun.trace folder) last
  pub ends : EndsFor why (frames_in (setting most begun) last.standing.events)
  pub watched : watch_now ≡ ended_for why (let_begin many watch)
  pub net_last : last.standing.net ≡ net_now
  pub users_last : last.standing.users ≡ users_now
  pub closing : IsClosing told (setting most begun) last.standing closed
  pub net_listens : Listens begun.port net net_now
  pub users_listen : Listens begun.users users users_now
