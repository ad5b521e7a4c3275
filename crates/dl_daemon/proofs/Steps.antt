-- What the daemon comes to, step by step.
use Rattle.std.proofs.Common.{◌≡◌, ◌≢◌, ℕ, List, map, Option, Some, None, refl, sym, ap, subst, false}
use Rattle.std.specs.Prelude.{Err}
use Rattle.dl_bytes.specs.declared.conf.Conf.{Conf}
use Rattle.dl_bytes.specs.declared.moment.Moment.{Moment}
use Rattle.dl_outside.proofs.Staying.{stays_same}
use Rattle.dl_loop.specs.Daemon.{TellTaken}
use Rattle.dl_outside.specs.Told.{FolderTold, LinkTold, NetTold}
use Rattle.dl_server.specs.State.{State, seen}
use Rattle.dl_server.specs.declared.server.Server.{Server}
use Rattle.dl_startup.specs.Configuration.{Unset}
use Rattle.dl_startup.specs.Unchanged.{IsUnchanged}
use Rattle.dl_startup.specs.declared.status.Status.{Status}
use Rattle.dl_startup.specs.declared.status.Status.TheVariants as status
use Rattle.dl_events.specs.Told.{Told}
use Rattle.dl_words.specs.Daemon.{Daemon, daemon_of}
use Rattle.dl_serve.specs.declared.beginning.Begun.{Begun}
use Rattle.dl_serve.specs.declared.closed.Closed.{Closed}
use Rattle.dl_serve.specs.Admitted.{AllAdmitted, TellGiven}
use Rattle.dl_serve.specs.Begin.{IsStart}
use Rattle.dl_serve.specs.Dropped.{HasDropped}
use Rattle.dl_serve.specs.Levels.{AllTookLevels}
use Rattle.dl_serve.specs.Open.{IsHeard, Listen}
use Rattle.dl_serve.specs.Shown.{AllShowEnds, TellLeft}
use Rattle.dl_serve.specs.Went.{EachCloseHasCause}
use Rattle.dl_serve.proofs.HeardNets.{still_listens}
use Rattle.dl_daemon.specs.declared.left.Left.{Left}
use Rattle.dl_daemon.specs.declared.limits.Limits.{Limits}
use Rattle.dl_daemon.specs.declared.opened.Opened.{Opened}
use Rattle.dl_daemon.specs.declared.renewing.Tries.{Tries}
use Rattle.dl_daemon.specs.declared.rounds.Stop.{Stop}
use Rattle.dl_daemon.specs.Begin.{Asks, Refuses, Started, serving}
use Rattle.dl_daemon.specs.Comes.{IsKeptTo}
use Rattle.dl_daemon.specs.Left.{ClosesTo}
use Rattle.dl_daemon.specs.Limits.{limits}
use Rattle.dl_daemon.specs.Open.{IsOpenedFor, setting}
use Rattle.dl_daemon.specs.Outside.{Outside, outside}
use Rattle.dl_daemon.specs.Program.{Ended, EndsBegun, EndsEarly, EndsWith, HasOpened, HasRun, LeavesEarly}
use Rattle.dl_daemon.specs.Renewing.{Renewed, untried}
use Rattle.dl_daemon.specs.Rounds.{HasGoneRound, noted}
use Rattle.dl_daemon.specs.Service.{Between, HasGoneOn}
use Rattle.dl_daemon.specs.Status.{status_of}
use Rattle.dl_daemon.specs.Watching.{told_for, told_of}
use Rattle.dl_daemon.specs.declared.watch.Watched.{Watched}
use Rattle.dl_daemon.proofs.HeardToTheEnd.{rounds_listen}

-- they ask for nothing, and the folder is not asked
pub unasked : (said : List (List ℕ)) (folder : FolderTold) (s : Status) → Asks said (Err s) → Refuses said folder folder s
unasked said folder status.WordsRefused none = (none, refl)
unasked said folder status.OutOfMemory none = record { unchanged = record { files = stays_same folder.files; changes = refl }; well = refl }
unasked said folder status.NetFault none = absurd none
unasked said folder status.Ok none = absurd none
unasked said folder (status.ConfRefused line kind) none = absurd none
unasked said folder (status.StoredRefused line kind) none = absurd none
unasked said folder (status.ScriptRefused line kind) none = absurd none
unasked said folder status.WriteFault none = absurd none
unasked said folder status.FolderFault none = absurd none
unasked said folder status.NamesSpent none = absurd none
unasked said folder status.ReadFault none = absurd none
unasked said folder status.JournalFull none = absurd none
unasked said folder (status.StorageRefused line kind) none = absurd none

-- so the watch is told nothing, but that memory may have run out
pub untold : (said : List (List ℕ)) (watch : Watched) (s : Status) → Asks said (Err s) → s ≢ status.OutOfMemory → watch ≡ told_for (daemon_of said) watch
untold said watch status.WordsRefused none some = ap (λ (o : Option Daemon). told_for o watch) (sym none)
untold said watch status.OutOfMemory none some = absurd (some refl)
untold said watch status.NetFault none some = absurd none
untold said watch status.Ok none some = absurd none
untold said watch (status.ConfRefused line kind) none some = absurd none
untold said watch (status.StoredRefused line kind) none some = absurd none
untold said watch (status.ScriptRefused line kind) none some = absurd none
untold said watch status.WriteFault none some = absurd none
untold said watch status.FolderFault none some = absurd none
untold said watch status.NamesSpent none some = absurd none
untold said watch status.ReadFault none some = absurd none
untold said watch status.JournalFull none some = absurd none
untold said watch (status.StorageRefused line kind) none some = absurd none

-- what they ask for has no configurations, or no trace
pub unset : (said : List (List ℕ)) (asked : Daemon) (old new : FolderTold) (s : Status) → daemon_of said ≡ Some asked → Unset asked.conf old new s → Refuses said old new s
unset said asked old new status.WordsRefused is none = absurd none
unset said asked old new status.OutOfMemory is none = none
unset said asked old new status.NetFault is none = absurd none
unset said asked old new status.Ok is none = absurd none
unset said asked old new (status.ConfRefused line kind) is none = (asked, is, none)
unset said asked old new (status.StoredRefused line kind) is none = (asked, is, none)
unset said asked old new (status.ScriptRefused line kind) is none = absurd none
unset said asked old new status.WriteFault is none = absurd none
unset said asked old new status.FolderFault is none = (asked, is, none)
unset said asked old new status.NamesSpent is none = absurd none
unset said asked old new status.ReadFault is none = absurd none
unset said asked old new status.JournalFull is none = absurd none
unset said asked old new (status.StorageRefused line kind) is none = absurd none

module _ {L : Type 0} (link_told : L → LinkTold) where
  -- ---- what was opened

  -- memory was wanting for its closing
  pub opened_nothing : (conf : Conf) (tries : Tries) (server : Server Told L) (old new : Outside L) (s : Status) (left : Option (Left L)) → s ≡ status.OutOfMemory → left ≡ None
      → EndsWith link_told conf tries server old new s left
  opened_nothing conf tries server old new s left is none = subst (λ (l : Option (Left L)). EndsWith link_told conf tries server old new s l) (sym none) is

  -- it ran, and closed
  pub opened_closed : (conf : Conf) (tries : Tries) (server : Server Told L) (why : Stop) (old new : Outside L) (last : State) (moment : Moment) (left : Left L) (s : Status) → s ≡ status_of why
      → HasGoneRound link_told conf tries why old.net new.net old.users new.users old.watch new.watch (seen link_told noted false old.folder server) last → ClosesTo link_told moment last new.folder left
      → EndsWith link_told conf tries server old new s (Some left)
  opened_closed conf tries server why old new last moment left s is served closes =
      (why, is, closes.0, closes.1, record { last = last; served = served; moment = moment; closes = closes.2 })

  -- ---- what was begun

  -- it was not opened, or a net did not listen
  pub begun_nothing : (most : Limits) (begun : Begun) (old new : Outside L) (s early : Status) (left : Option (Left L)) → s ≡ early → left ≡ None → LeavesEarly begun old new early
      → EndsBegun link_told most begun old new s left
  begun_nothing most begun old new s early left is none leaves =
      subst (λ (l : Option (Left L)). EndsBegun link_told most begun old new s l) (sym none) (subst (λ (t : Status). LeavesEarly begun old new t) (sym is) leaves)

  unheard : (begun : Begun) (old new : Outside L) (s : Status) → Listen begun.port begun.users old.net new.net old.users new.users (Err s) → new.folder ≡ old.folder → new.watch ≡ old.watch → LeavesEarly begun old new s
  unheard begun old new status.NetFault listen same still = (same, still, listen)
  unheard begun old new status.OutOfMemory listen same still = tt
  unheard begun old new status.Ok listen same still = absurd listen
  unheard begun old new status.WordsRefused listen same still = absurd listen
  unheard begun old new (status.ConfRefused line kind) listen same still = absurd listen
  unheard begun old new (status.StoredRefused line kind) listen same still = absurd listen
  unheard begun old new (status.ScriptRefused line kind) listen same still = absurd listen
  unheard begun old new status.WriteFault listen same still = absurd listen
  unheard begun old new status.FolderFault listen same still = absurd listen
  unheard begun old new status.NamesSpent listen same still = absurd listen
  unheard begun old new status.ReadFault listen same still = absurd listen
  unheard begun old new status.JournalFull listen same still = absurd listen
  unheard begun old new (status.StorageRefused line kind) listen same still = absurd listen

  -- the same of the ports that were opened
  pub unheard_on : (most : Limits) (begun : Begun) (opened : Opened L) (old new : Outside L) (s : Status) → IsOpenedFor link_told most begun opened
      → Listen opened.port opened.users old.net new.net old.users new.users (Err s) → new.folder ≡ old.folder → new.watch ≡ old.watch → LeavesEarly begun old new s
  unheard_on most begun opened old new s is listen same still =
      unheard begun old new s (subst (λ (n : ℕ). Listen begun.port n old.net new.net old.users new.users (Err s)) is.users
      (subst (λ (n : ℕ). Listen n opened.users old.net new.net old.users new.users (Err s)) is.port listen)) same still

  -- the same of the trace that it was opened for
  ran_for : (most : Limits) (begun : Begun) (opened : Opened L) (old new : Outside L) (why : Stop) (closed : Closed L) → IsOpenedFor link_told most begun opened
      → HasRun link_told opened.renewal.conf opened.renewal.tries opened.server why old new closed → HasRun link_told begun.conf untried opened.server why old new closed
  ran_for most begun opened old new why closed is run =
      subst (λ (c : Conf). HasRun link_told c untried opened.server why old new closed) is.conf
      (subst (λ (t : Tries). HasRun link_told opened.renewal.conf t opened.server why old new closed) is.tries run)

  -- it was opened, both nets listen, and it ran
  pub begun_ran : (most : Limits) (begun : Begun) (opened : Opened L) (old : Outside L) (net users : NetTold L) (new : Outside L) (s : Status) (left : Option (Left L)) → IsOpenedFor link_told most begun opened
      → IsHeard begun.port old.net net → IsHeard begun.users old.users users
      → EndsWith link_told opened.renewal.conf opened.renewal.tries opened.server (outside old.folder net users old.watch) new s left → EndsBegun link_told most begun old new s left
  begun_ran most begun opened old net users new s None is net_heard users_heard ends = subst (λ (t : Status). LeavesEarly begun old new t) (sym ends) tt
  begun_ran most begun opened old net users new s (Some left) is net_heard users_heard ends =
      let run = ran_for most begun opened (outside old.folder net users old.watch) new ends.0 ends.2 is ends.4 in
      let listen = rounds_listen link_told begun.conf run.served.many (record { tries = untried; anew = None }) run.served.kept net new.net users new.users (seen link_told noted false old.folder opened.server) run.last run.served.rounds in (
        ends.0,
        ends.1,
        ends.2,
        ends.3,
        record {
          opened = opened;
          is_opened = is;
          net = net;
          users = users;
          net_heard = net_heard;
          users_heard = users_heard;
          run = run;
          net_listens = still_listens link_told begun.port old.net net new.net net_heard listen.0;
          users_listen = still_listens link_told begun.users old.users users new.users users_heard listen.1;
        },
      )

  -- ---- the words

  -- they begin nothing
  pub refused : (said : List (List ℕ)) (old new : Outside L) (s : Status) → Refuses said old.folder new.folder s → new.net ≡ old.net → new.users ≡ old.users
      → (s ≢ status.OutOfMemory → new.watch ≡ told_for (daemon_of said) old.watch) → EndsEarly said old new s
  refused said old new status.NetFault why net users watch = absurd why.2
  refused said old new status.OutOfMemory why net users watch = tt
  refused said old new status.Ok why net users watch = (why, net, users, watch (λ same. absurd (cc same)))
  refused said old new status.WordsRefused why net users watch = (why, net, users, watch (λ same. absurd (cc same)))
  refused said old new (status.ConfRefused line kind) why net users watch = (why, net, users, watch (λ same. absurd (cc same)))
  refused said old new (status.StoredRefused line kind) why net users watch = (why, net, users, watch (λ same. absurd (cc same)))
  refused said old new (status.ScriptRefused line kind) why net users watch = (why, net, users, watch (λ same. absurd (cc same)))
  refused said old new status.WriteFault why net users watch = (why, net, users, watch (λ same. absurd (cc same)))
  refused said old new status.FolderFault why net users watch = (why, net, users, watch (λ same. absurd (cc same)))
  refused said old new status.NamesSpent why net users watch = (why, net, users, watch (λ same. absurd (cc same)))
  refused said old new status.ReadFault why net users watch = (why, net, users, watch (λ same. absurd (cc same)))
  refused said old new status.JournalFull why net users watch = (why, net, users, watch (λ same. absurd (cc same)))
  refused said old new (status.StorageRefused line kind) why net users watch = (why, net, users, watch (λ same. absurd (cc same)))

  pub refused_nothing : (said : List (List ℕ)) (old new : Outside L) (s early : Status) (left : Option (Left L)) → s ≡ early → left ≡ None → EndsEarly said old new early
      → Ended link_told said old new s left
  refused_nothing said old new s early left is none ends =
      subst (λ (l : Option (Left L)). Ended link_told said old new s l) (sym none) (subst (λ (t : Status). EndsEarly said old new t) (sym is) ends)

  left_early : (said : List (List ℕ)) (old new : Outside L) (start : Started said old.folder) (s : Status) → LeavesEarly start.begun (record old { folder = start.between; watch = told_of start.asked.status old.watch }) new s → EndsEarly said old new s
  left_early said old new start status.NetFault early =
      (start, subst (λ (f : FolderTold). IsUnchanged old.folder f) (sym early.0) start.start.quiet.unchanged, early.2, early.1)
  left_early said old new start status.OutOfMemory early = tt
  left_early said old new start status.Ok early = absurd early
  left_early said old new start status.WordsRefused early = absurd early
  left_early said old new start (status.ConfRefused line kind) early = absurd early
  left_early said old new start (status.StoredRefused line kind) early = absurd early
  left_early said old new start (status.ScriptRefused line kind) early = absurd early
  left_early said old new start status.WriteFault early = absurd early
  left_early said old new start status.FolderFault early = absurd early
  left_early said old new start status.NamesSpent early = absurd early
  left_early said old new start status.ReadFault early = absurd early
  left_early said old new start status.JournalFull early = absurd early
  left_early said old new start (status.StorageRefused line kind) early = absurd early

  -- what was served within these limits, and what it came to
  abbrev KeptWith : Begun → Outside L → FolderTold → Watched → Outside L → Stop → Closed L → Limits → Type 0
  KeptWith begun old between watch new why closed most =
      (last : Between L) × HasGoneOn link_told most begun why between old.net new.net old.users new.users watch new.watch closed last
      × IsKeptTo link_told (setting most begun) begun last.renewed.anew old.folder new.folder closed

  -- they begin what they ask for, and it runs
  pub began : (said : List (List ℕ)) (asked : Daemon) (begun : Begun) (old : Outside L) (between : FolderTold) (new : Outside L) (s : Status) (left : Option (Left L)) (most : Limits) → most ≡ limits
      → ((why : Stop) (closed : Closed L) → (has : HasOpened link_told most begun why (record old { folder = between; watch = told_of asked.status old.watch }) new closed)
      → IsKeptTo link_told (setting most begun) begun has.run.served.kept.anew old.folder new.folder closed)
      → ((why : Stop) (closed : Closed L) → HasOpened link_told most begun why (record old { folder = between; watch = told_of asked.status old.watch }) new closed → TellGiven link_told
      → AllAdmitted closed.events.events (map link_told closed.users.links) closed.ends)
      → ((why : Stop) (closed : Closed L) → HasOpened link_told most begun why (record old { folder = between; watch = told_of asked.status old.watch }) new closed → AllShowEnds (TellLeft link_told) (map link_told closed.users.links) closed.ends)
      → ((why : Stop) (closed : Closed L) → HasOpened link_told most begun why (record old { folder = between; watch = told_of asked.status old.watch }) new closed → EachCloseHasCause link_told (setting most begun) closed)
      → ((why : Stop) (closed : Closed L) → HasOpened link_told most begun why (record old { folder = between; watch = told_of asked.status old.watch }) new closed
      → AllTookLevels (TellTaken link_told) (setting most begun) closed.events.events (map link_told closed.users.links) closed.ends)
      → ((why : Stop) (closed : Closed L) → (has : HasOpened link_told most begun why (record old { folder = between; watch = told_of asked.status old.watch }) new closed) → (last : Between L) × (last.renewed ≡ has.run.served.kept)
      × HasGoneOn link_told most begun why between old.net new.net old.users new.users (told_of asked.status old.watch) new.watch closed last)
      → ((why : Stop) (closed : Closed L) → HasOpened link_told limits begun why (record old { folder = between; watch = told_of asked.status old.watch }) new closed → HasDropped closed)
      → daemon_of said ≡ Some asked → IsStart (serving asked) old.folder between begun → EndsBegun link_told most begun (record old { folder = between; watch = told_of asked.status old.watch }) new s left → Ended link_told said old new s left
  began said asked begun old between new s None most is_most comes admits shows went took serves dropped is start ends =
      left_early said old new (record { asked = asked; is_asked = is; begun = begun; between = between; start = start }) s ends
  began said asked begun old between new s (Some left) most is_most comes admits shows went took serves dropped is start ends =
      let opens = ends.4 in
      let served = serves ends.0 ends.2 opens in
      let come = subst (λ (r : Renewed). IsKeptTo link_told (setting most begun) begun r.anew old.folder new.folder ends.2) (sym served.1) (comes ends.0 ends.2 opens) in
      let kept = subst (KeptWith begun old between (told_of asked.status old.watch) new ends.0 ends.2) is_most (served.0, served.2, come) in (
        ends.0,
        ends.1,
        record {
          it = record { asked = asked; is_asked = is; begun = begun; between = between; start = start };
          closed = ends.2;
          is_left = ends.3;
          last = kept.0;
          serves = kept.1;
          comes = kept.2;
          admits = admits ends.0 ends.2 opens;
          shows = shows ends.0 ends.2 opens;
          went = subst (λ (m : Limits). EachCloseHasCause link_told (setting m begun) ends.2) is_most (went ends.0 ends.2 opens);
          took = subst (λ (m : Limits). AllTookLevels (TellTaken link_told) (setting m begun) ends.2.events.events (map link_told ends.2.users.links) ends.2.ends) is_most (took ends.0 ends.2 opens);
          dropped = dropped ends.0 ends.2 (subst (λ (m : Limits). HasOpened link_told m begun ends.0 (record old { folder = between; watch = told_of asked.status old.watch }) new ends.2) is_most opens);
        },
      )
