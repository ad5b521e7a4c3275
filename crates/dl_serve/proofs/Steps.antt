-- What serving comes to, step by step.
use Rattle.std.proofs.Common.{◌≡◌, ℕ, Bool, true, false, List, map, Option, Some, None, refl, sym, ap, subst, ◌∙◌}
use Rattle.std.specs.Prelude.{◌||◌, Err}
use Rattle.dl_bytes.specs.declared.moment.Moment.{Moment}
use Rattle.dl_ending.specs.Ending.{Finishes, unheard as closed_unheard}
use Rattle.dl_events.specs.Journal.{Journaled}
use Rattle.dl_outside.specs.Told.{FolderTold, LinkTold, NetTold}
use Rattle.dl_outside.specs.Written.{WroteNothing}
use Rattle.dl_server.specs.State.{State, seen}
use Rattle.dl_server.specs.declared.server.Server.{Server}
use Rattle.dl_startup.specs.Unchanged.{IsUnchanged}
use Rattle.dl_startup.specs.Failures.{unserved}
use Rattle.dl_startup.specs.declared.failures.Failures.{Failures}
use Rattle.dl_startup.specs.declared.status.Status.{Status}
use Rattle.dl_startup.specs.declared.status.Status.TheVariants as status
use Rattle.dl_words.specs.Serve.{Serve, serve_of}
use Rattle.dl_serve.specs.declared.beginning.Begun.{Begun}
use Rattle.dl_serve.specs.declared.closed.Closed.{Closed}
use Rattle.dl_serve.specs.declared.faults.Faults.{Faults}
use Rattle.dl_serve.specs.declared.opened.Opened.{Opened}
use Rattle.dl_serve.specs.Admitted.{AllAdmitted, TellGiven}
use Rattle.dl_serve.specs.Begin.{IsStart, Refuses}
use Rattle.dl_serve.specs.Closed.{HasClosedTo, failures_of, has_wanted, is_short, starved, text_of}
use Rattle.dl_serve.specs.Comes.{IsComeTo}
use Rattle.dl_serve.specs.Ends.{EndsEarly, Started}
use Rattle.dl_serve.specs.Open.{IsHeard, IsOpenedFor, Listen, setting}
use Rattle.dl_serve.specs.Program.{Ended, EndsBegun, EndsWith, HasOpened, IsServed, LeavesEarly, counts}
use Rattle.dl_serve.specs.Rounds.{HasMadeRounds, kept}
use Rattle.dl_serve.specs.Service.{Standing, frames_in}
use Rattle.dl_serve.specs.Dropped.{HasDropped}
use Rattle.dl_serve.specs.WhoWaited.{HasAcceptedInOrder, NetsStand}
use Rattle.dl_serve.specs.Levels.{AllTookLevels}
use Rattle.dl_loop.specs.Daemon.{TellTaken}
use Rattle.dl_serve.specs.Shown.{AllShowEnds, TellLeft}
use Rattle.dl_serve.specs.Told.{Told, told}
use Rattle.dl_serve.specs.Went.{EachCloseHasCause}
use Rattle.dl_serve.proofs.EndedServings.{ended}
use Rattle.dl_serve.proofs.HeardNets.{rounds_listen, still_listens}
use Rattle.dl_serve.proofs.KnownServings.{counts_same, ends_from}

module _ {L : Type 0} (link_told : L → LinkTold) where
  -- ---- what was opened

  -- memory was wanting for its closing
  pub opened_nothing : (server : Server Journaled L) (asked : ℕ) (old new : Told L) (s : Status) (closed : Option (Closed L)) → s ≡ status.OutOfMemory → closed ≡ None → WroteNothing old.out new.out
      → EndsWith link_told server asked old new s closed
  opened_nothing server asked old new s closed is none nothing = subst (λ (c : Option (Closed L)). EndsWith link_told server asked old new s c) (sym none) (is, nothing)

  -- it ran, and closed
  pub opened_closed : (server : Server Journaled L) (asked : ℕ) (full : Bool) (old new : Told L) (last : State) (moment : Moment) (closed : Closed L) (before now : Faults) (failures : Failures) (s : Status)
      → HasMadeRounds link_told asked full old.net new.net old.users new.users (seen link_told kept true old.folder server) last → HasClosedTo link_told moment last new.folder closed
      → before ≡ counts old → now ≡ counts new → failures ≡ failures_of closed before now full → Finishes (text_of closed) failures old.out new.out s
      → EndsWith link_told server asked old new s (Some closed)
  opened_closed server asked full old new last moment closed before now failures s served closes before_is now_is failures_are finishes =
      let known : failures ≡ failures_of closed (counts old) (counts new) full =
      failures_are ∙ ap (λ (f : Faults). failures_of closed f now full) before_is ∙ ap (λ (f : Faults). failures_of closed (counts old) f full) now_is in (
        full,
        record { last = last; served = served; moment = moment; closes = closes },
        ended closed (counts old) (counts new) old.out new.out full s (subst (λ (f : Failures). Finishes (text_of closed) f old.out new.out s) known finishes),
      )

  -- ---- what was begun

  -- it was not opened, or a net did not listen
  pub begun_nothing : (begun : Begun) (old new : Told L) (s early : Status) (closed : Option (Closed L)) → s ≡ early → closed ≡ None → WroteNothing old.out new.out → LeavesEarly begun old new early
      → EndsBegun link_told begun old new s closed
  begun_nothing begun old new s early closed is none nothing leaves =
      subst (λ (c : Option (Closed L)). EndsBegun link_told begun old new s c) (sym none) (subst (λ (t : Status). LeavesEarly begun old new t) (sym is) leaves, nothing)

  pub unheard : (begun : Begun) (old new : Told L) (s : Status) → Listen begun.port begun.users old.net new.net old.users new.users (Err s) → new.folder ≡ old.folder → LeavesEarly begun old new s
  unheard begun old new status.NetFault listen same = (same, listen)
  unheard begun old new status.OutOfMemory listen same = tt
  unheard begun old new status.Ok listen same = absurd listen
  unheard begun old new status.WordsRefused listen same = absurd listen
  unheard begun old new (status.ConfRefused line kind) listen same = absurd listen
  unheard begun old new (status.StoredRefused line kind) listen same = absurd listen
  unheard begun old new (status.ScriptRefused line kind) listen same = absurd listen
  unheard begun old new status.WriteFault listen same = absurd listen
  unheard begun old new status.FolderFault listen same = absurd listen
  unheard begun old new status.NamesSpent listen same = absurd listen
  unheard begun old new status.ReadFault listen same = absurd listen
  unheard begun old new status.JournalFull listen same = absurd listen
  unheard begun old new (status.StorageRefused line kind) listen same = absurd listen

  -- the same of the ports that were opened
  pub unheard_on : (begun : Begun) (opened : Opened L) (old new : Told L) (s : Status) → IsOpenedFor link_told begun opened → Listen opened.port opened.users old.net new.net old.users new.users (Err s)
      → new.folder ≡ old.folder → LeavesEarly begun old new s
  unheard_on begun opened old new s is listen same =
      unheard begun old new s (subst (λ (n : ℕ). Listen begun.port n old.net new.net old.users new.users (Err s)) is.users
      (subst (λ (n : ℕ). Listen n opened.users old.net new.net old.users new.users (Err s)) is.port listen)) same

  -- it was opened, both nets listen, and it ran
  pub begun_ran : (begun : Begun) (opened : Opened L) (old : Told L) (net users : NetTold L) (new : Told L) (s : Status) (closed : Option (Closed L)) → IsOpenedFor link_told begun opened
      → IsHeard begun.port old.net net → IsHeard begun.users old.users users → EndsWith link_told opened.server opened.rounds (told old.folder net users old.out) new s closed
      → EndsBegun link_told begun old new s closed
  begun_ran begun opened old net users new s None is net_heard users_heard ends = (subst (λ (t : Status). LeavesEarly begun old new t) (sym ends.0) tt, ends.1)
  begun_ran begun opened old net users new s (Some closed) is net_heard users_heard ends =
      let listen = rounds_listen link_told ends.1.served.many net new.net users new.users (seen link_told kept true old.folder opened.server) ends.1.last ends.1.served.rounds in (
        ends.0,
        record {
          opened = opened;
          is_opened = is;
          net = net;
          users = users;
          net_heard = net_heard;
          users_heard = users_heard;
          run = record {
            last = ends.1.last;
            served = subst (λ (n : ℕ). HasMadeRounds link_told n ends.0 net new.net users new.users (seen link_told kept true old.folder opened.server) ends.1.last) is.rounds ends.1.served;
            moment = ends.1.moment;
            closes = ends.1.closes;
          };
          net_listens = still_listens link_told begun.port old.net net new.net net_heard listen.0;
          users_listen = still_listens link_told begun.users old.users users new.users users_heard listen.1;
        },
        ends_from closed ends.0 (counts old) (counts (told old.folder net users old.out)) (counts new) old.out new.out s
            (counts_same old.folder old.folder old.net net old.users users refl net_heard.faults users_heard.faults) ends.2,
      )

  -- ---- the words

  -- they begin nothing
  pub refused : (said : List (List ℕ)) (old new : Told L) (s : Status) → Refuses said old.folder new.folder s → new.net ≡ old.net → new.users ≡ old.users → EndsEarly said old new s
  refused said old new status.NetFault why net users = absurd why.2
  refused said old new status.OutOfMemory why net users = tt
  refused said old new status.Ok why net users = (why, net, users)
  refused said old new status.WordsRefused why net users = (why, net, users)
  refused said old new (status.ConfRefused line kind) why net users = (why, net, users)
  refused said old new (status.StoredRefused line kind) why net users = (why, net, users)
  refused said old new (status.ScriptRefused line kind) why net users = (why, net, users)
  refused said old new status.WriteFault why net users = (why, net, users)
  refused said old new status.FolderFault why net users = (why, net, users)
  refused said old new status.NamesSpent why net users = (why, net, users)
  refused said old new status.ReadFault why net users = (why, net, users)
  refused said old new status.JournalFull why net users = (why, net, users)
  refused said old new (status.StorageRefused line kind) why net users = (why, net, users)

  pub refused_nothing : (said : List (List ℕ)) (old new : Told L) (s early : Status) (closed : Option (Closed L)) → s ≡ early → closed ≡ None → WroteNothing old.out new.out → EndsEarly said old new early
      → Ended link_told said old new s closed
  refused_nothing said old new s early closed is none nothing ends =
      subst (λ (c : Option (Closed L)). Ended link_told said old new s c) (sym none) (subst (λ (t : Status). EndsEarly said old new t) (sym is) ends, nothing)

  left_early : (said : List (List ℕ)) (old new : Told L) (start : Started said old.folder) (s : Status) → LeavesEarly start.begun (record old { folder = start.between }) new s → EndsEarly said old new s
  left_early said old new start status.NetFault early =
      (start, subst (λ (f : FolderTold). IsUnchanged old.folder f) (sym early.0) start.start.quiet.unchanged, early.1)
  left_early said old new start status.OutOfMemory early = tt
  left_early said old new start status.Ok early = absurd early
  left_early said old new start status.WordsRefused early = absurd early
  left_early said old new start (status.ConfRefused line kind) early = absurd early
  left_early said old new start (status.StoredRefused line kind) early = absurd early
  left_early said old new start (status.ScriptRefused line kind) early = absurd early
  left_early said old new start status.WriteFault early = absurd early
  left_early said old new start status.FolderFault early = absurd early
  left_early said old new start status.NamesSpent early = absurd early
  left_early said old new start status.ReadFault early = absurd early
  left_early said old new start status.JournalFull early = absurd early
  left_early said old new start (status.StorageRefused line kind) early = absurd early

  -- where no memory was wanted, none was in the rounds
  unwanted : (closed : Closed L) → has_wanted closed ≡ false → closed.memory ≡ false
  unwanted closed none = by closed.memory none where
    by : (b : Bool) → (b || unserved closed.events.events || closed_unheard closed.events.events || starved closed.ends || is_short closed.state.trace.end) ≡ false → b ≡ false
    by true none = absurd (let bad : true ≡ false = none in cc bad)
    by false none = refl

  -- they begin what they ask for, and it is served
  pub began : (said : List (List ℕ)) (asked : Serve) (begun : Begun) (old : Told L) (between : FolderTold) (new : Told L) (s : Status) (closed : Option (Closed L))
      → ((full : Bool) (left : Closed L) → HasOpened link_told begun full (record old { folder = between }) new left → IsComeTo link_told (setting begun) begun old.folder new.folder left)
      → ((full : Bool) (left : Closed L) → HasOpened link_told begun full (record old { folder = between }) new left → TellGiven link_told
      → AllAdmitted left.events.events (map link_told left.users.links) left.ends)
      → ((full : Bool) (left : Closed L) → HasOpened link_told begun full (record old { folder = between }) new left → AllShowEnds (TellLeft link_told) (map link_told left.users.links) left.ends)
      → ((full : Bool) (left : Closed L) → HasOpened link_told begun full (record old { folder = between }) new left → EachCloseHasCause link_told (setting begun) left)
      → ((full : Bool) (left : Closed L) → HasOpened link_told begun full (record old { folder = between }) new left
      → AllTookLevels (TellTaken link_told) (setting begun) left.events.events (map link_told left.users.links) left.ends)
      → ((full : Bool) (left : Closed L) → HasOpened link_told begun full (record old { folder = between }) new left → HasDropped left)
      → ((full : Bool) (left : Closed L) (last : Standing L) (has : HasOpened link_told begun full (record old { folder = between }) new left) → frames_in (setting begun) last.events ≡ has.run.last.core.hub.admitted
      → IsServed link_told begun full old.net new.net old.users new.users left last → full ≡ false → left.memory ≡ false → NetsStand (record old { folder = between }) new
      → HasAcceptedInOrder link_told begun.rounds last.events old.net new.net old.users new.users left)
      → ((full : Bool) (left : Closed L) (has : HasOpened link_told begun full (record old { folder = between }) new left)
      → (last : Standing L) × (has.run.last.events ≡ Some last.events) × (frames_in (setting begun) last.events ≡ has.run.last.core.hub.admitted) × IsServed link_told begun full old.net new.net old.users new.users left last)
      → serve_of said ≡ Some asked → IsStart asked old.folder between begun → EndsBegun link_told begun (record old { folder = between }) new s closed → Ended link_told said old new s closed
  began said asked begun old between new s None comes admits shows went took dropped hands serves is start ends =
      (left_early said old new (record { asked = asked; is_asked = is; begun = begun; between = between; start = start }) s ends.0, ends.1)
  began said asked begun old between new s (Some closed) comes admits shows went took dropped hands serves is start ends = (let served = serves ends.0 closed ends.1 in (
    ends.0,
    record {
      it = record { asked = asked; is_asked = is; begun = begun; between = between; start = start };
      last = served.0;
      serves = served.3;
      comes = comes ends.0 closed ends.1;
      admits = admits ends.0 closed ends.1;
      shows = shows ends.0 closed ends.1;
      went = went ends.0 closed ends.1;
      took = took ends.0 closed ends.1;
      dropped = dropped ends.0 closed ends.1;
      hands = λ well stand. hands ends.0 closed served.0 ends.1 served.2 served.3 well.room (unwanted closed well.memory) (record { net = stand.net; users = stand.users });
    },
    ends_from closed ends.0 (counts old) (counts (record old { folder = between })) (counts new) old.out new.out s
        (counts_same old.folder between old.net old.net old.users old.users start.quiet.well refl refl) ends.2,
  ))
