-- Service: what each round does for those who are there, by what nets, links and journal tell before it and after it.
use Rattle.std.specs.Prelude.{◌≡◌, ◌≤◌, ◌<◌, ◌⊎◌, ◌&&◌, ◌+◌, ◌-◌, ◌^◌, ◌++◌, ℕ, zero, suc, min, Bool, true, false, List, [], length, map, count_by, slice_get, Option, Some, None, IfSome, IsSome, IsSomeAnd}
use Rattle.std.specs.List.{AllByRecursion, concat}
use Rattle.dl_bytes.specs.Limits.{admitted_limit}
use Rattle.dl_bytes.specs.declared.moment.Moment.{Moment}
use Rattle.dl_channel.specs.declared.outcome.ChannelEnd.{ChannelEnd}
use Rattle.dl_core.specs.Follows.{source_of}
use Rattle.dl_events.specs.declared.event.Event.{Event}
use Rattle.dl_events.specs.declared.event.Event.TheVariants as event
use Rattle.dl_loop.specs.Daemon.{TellTaken}
use Rattle.dl_model.specs.Backlog.{left}
use Rattle.dl_model.specs.ClientStream.{stream, traffic}
use Rattle.dl_model.specs.Frames.{FrameSource, admitted}
use Rattle.dl_model.specs.Journal.{IsOpen, IsRunning, is_connect}
use Rattle.dl_model.specs.Setting.{Setting}
use Rattle.dl_outside.specs.Link.{IsFresh}
use Rattle.dl_outside.specs.Outside.{Grows, HasRisen, Stays}
use Rattle.dl_outside.specs.Told.{LinkTold, NetTold}
use Rattle.dl_rounds.specs.Arrivals.{Takes}
use Rattle.dl_turns.specs.Turns.{HasGiven}
use Rattle.dl_serve.specs.Admitted.{AreAdmitted, IsFarewell, TellGiven}
use Rattle.dl_serve.specs.Comes.{run_in}
use Rattle.dl_serve.specs.Levels.{levels_put}
use Rattle.dl_serve.specs.declared.closed.Closed.{Closed}

-- ---- between two rounds

-- a program outside that came: what its link tells, and why its channel has ended, where it has
pub record Program : Type 0 where
  pub link : LinkTold
  pub end : Option ChannelEnd

-- What stands between two rounds: what both nets tell; the events that were noted; what the links of the clients tell, and the programs, by number; how
-- many links were dropped; and whether memory was wanted.
pub record Standing (L : Type 0) : Type 0 where
  pub net : NetTold L
  pub users : NetTold L
  pub events : List Event
  pub clients : List LinkTold
  pub programs : List Program
  pub dropped : ℕ
  pub wanted : Bool

-- before anybody came
abbrev pub nobody : {L : Type 0} → NetTold L → NetTold L → Standing L
nobody net users = record { net = net; users = users; events = []; clients = []; programs = []; dropped = 0; wanted = false }

-- where the frames of a journal come from that tells of no call of this process
abbrev pub source_in : Setting → FrameSource
source_in setting = source_of (run_in setting [])

-- how many frames a journal admits
abbrev pub frames_in : Setting → List Event → ℕ
frames_in setting events = length (admitted (source_in setting) events)

-- ---- who comes

-- An acceptor was asked once. Who waited longest was handed out: one came, or was dropped. Or nobody was handed out: none waited; or the net's count of
-- faults has risen above this one; or memory was wanted. That count never falls.
abbrev pub Accepts : {L : Type 0} → (L → LinkTold) → ℕ → Bool → NetTold L → NetTold L → ℕ → ℕ → Type 0
Accepts {L} told faults wanted old new came dropped =
    ((link : L) × Takes told old new link × (came + dropped ≡ 1))
    ⊎ ((came + dropped ≡ 0) × Stays old.waiting new.waiting × (old.faults ≤ new.faults)
    × (IfSome old.waiting (λ waiting. waiting ≡ []) ⊎ HasRisen faults new.faults ⊎ (wanted ≡ true)))

-- ---- links

-- A link goes on: what it gave and took is what it was, or more, and none of its counts fell.
pub record GoesOn (was now : LinkTold) : Type 0 where
  pub gave : List ℕ
  pub given : Grows was.given now.given gave
  pub took : List ℕ
  pub taken : Grows was.taken now.taken took
  pub faults : was.faults ≤ now.faults
  pub idles : was.idles ≤ now.idles
  pub waits : was.waits ≤ now.waits

-- a fresh link, as a link of this kind tells it
abbrev pub IsNewLink : {L : Type 0} → (L → LinkTold) → LinkTold → Type 0
IsNewLink {L} told was = IsFresh was × ((link : L) × (was ≡ told link))

-- Each one that is there now was there before, at its place, or is one that comes behind them; and this holds of it.
abbrev pub EachNow : {A : Type 0} → (A → Type 0) → (ℕ → A → A → Type 0) → List A → List A → Type 0
EachNow {A} Comes Holds old new =
    (place : ℕ) (now : A) → slice_get new place ≡ Some now
    → (was : A) × ((slice_get old place ≡ Some was) ⊎ ((length old ≤ place) × Comes was)) × Holds place was now

-- ---- what is done for them

-- a link gave a byte or more, or had nothing to give yet, its count of idle turns risen
abbrev pub WasRead : LinkTold → LinkTold → Type 0
WasRead was now = HasGiven was.given now.given ⊎ HasRisen was.idles now.idles

-- a link took just these bytes so far, where links tell that; or it could take nothing more, its count of busy turns risen
abbrev pub WasSent : Type 0 → List ℕ → LinkTold → LinkTold → Type 0
WasSent Tells bytes was now = (Tells → now.taken ≡ Some bytes) ⊎ HasRisen was.waits now.waits

-- A client whose link was so before a round and is so behind it. Where it is open then, and memory was not wanted for its Close, its link was read, and was sent
-- all of its stream. The link of one that is gone is shut.
pub record ServesClient (Tells : Type 0) (setting : Setting) (events : List Event) (wanted : Bool) (place : ℕ) (was now : LinkTold) : Type 0 where
  pub goes_on : GoesOn was now
  pub read : IsOpen (place + 1) events → wanted ≡ false → WasRead was now
  pub sent : IsOpen (place + 1) events → wanted ≡ false → WasSent Tells (concat (stream (source_in setting) setting.buffer (place + 1) events)) was now
  pub shut : (IsOpen (place + 1) events → ⊥) → now.is_shut ≡ true

-- The same of a program. Where its channel is open behind the round it was so before, and its link was read, and was sent all levels that were set for it;
-- it may be unread where a turn might admit more frames than may be. The link of one whose channel has ended is shut.
pub record ServesProgram (Tells : Type 0) (setting : Setting) (events : List Event) (place : ℕ) (was now : Program) : Type 0 where
  pub goes_on : GoesOn was.link now.link
  pub still_open : now.end ≡ None → was.end ≡ None
  pub read : now.end ≡ None → WasRead was.link now.link ⊎ (admitted_limit < frames_in setting events + 4096)
  pub sent : now.end ≡ None → WasSent Tells (levels_put setting (place + 1) events) was.link now.link
  pub shut : IsSome now.end → now.link.is_shut ≡ true

-- a program comes with a fresh link, and its channel is open
abbrev pub IsNewProgram : {L : Type 0} → (L → LinkTold) → Program → Type 0
IsNewProgram told program = IsNewLink told program.link × (program.end ≡ None)

-- of each program: all messages of what its link gave were noted, in their order, each once
abbrev pub EachAdmitted : List Event → List Program → Type 0
EachAdmitted events programs =
    (place : ℕ) (program : Program) → slice_get programs place ≡ Some program
    → (stream : List ℕ) × (program.link.given ≡ Some stream) × AreAdmitted events (place + 1) program.end stream

-- ---- one round

-- One round, where the nets are told to have failed by counts of faults above these: each acceptor was asked once, and each who was handed out came or was
-- dropped; each client that came has its Connect; more may be noted, but no Close as at a stop; what the links of programs gave was noted; who is open was so
-- before, unless it came; and each client and each program was served. Where memory was wanted before, it still is; clients may be left unserved then, but only
-- where the journal may want memory for their Closes.
pub record ServesRound {L : Type 0} (told : L → LinkTold) (may_run_out : Bool) (setting : Setting) (faults user_faults : ℕ) (old new : Standing L) : Type 0 where
  pub clients_came : ℕ
  pub clients_dropped : ℕ
  pub accepts : Accepts told faults new.wanted old.net new.net clients_came clients_dropped
  pub clients_many : length new.clients ≡ length old.clients + clients_came
  pub connected : length new.clients ≡ count_by is_connect new.events
  pub programs_came : ℕ
  pub programs_dropped : ℕ
  pub enters : Accepts told user_faults new.wanted old.users new.users programs_came programs_dropped
  pub programs_many : length new.programs ≡ length old.programs + programs_came
  pub dropped : new.dropped ≡ min (old.dropped + clients_dropped + programs_dropped) (2 ^ 32 - 1)
  pub more : List Event
  pub noted : new.events ≡ old.events ++ more
  pub running : IsRunning new.events
  pub admits : TellGiven told → EachAdmitted new.events new.programs
  pub still_wanted : old.wanted ≡ true → new.wanted ≡ true
  pub still_open : (place : ℕ) → place < length old.clients → IsOpen (place + 1) new.events → IsOpen (place + 1) old.events
  pub clients : EachNow (IsNewLink told) (ServesClient (TellTaken told) setting new.events (may_run_out && new.wanted)) old.clients new.clients
  pub programs : EachNow (IsNewProgram told) (ServesProgram (TellTaken told) setting new.events) old.programs new.programs

-- so many rounds, one after the other
abbrev pub Rounds : {A : Type 0} → (A → A → Type 0) → ℕ → A → A → Type 0
Rounds Round zero old new = new ≡ old
Rounds {A} Round (suc many) old new = (between : A) × Rounds Round many old between × Round between new

-- ---- the closing

-- what a closing may note: what ends of channels say of applications, at this moment; and what clients have of it
abbrev pub IsAt : Moment → Event → Type 0
IsAt moment (event.User channel msg at) = (at ≡ moment) × IsFarewell msg
IsAt moment (event.Level slot level) = Unit {0}
IsAt moment (event.Request client frame answer) = Unit {0}
IsAt moment (event.Close client why) = Unit {0}
IsAt moment other = ⊥

-- none comes
abbrev pub ComesNever : {A : Type 0} → A → Type 0
ComesNever one = ⊥

-- The closing behind the last round: of programs it noted no more than that their applications are gone, at one moment. All links go on to be those that are left, and are shut; why channels have
-- ended, how many links were dropped and whether memory was wanted stands; and what waits for the next client is what the journal leaves waiting.
pub record IsClosing {L : Type 0} (told : L → LinkTold) (setting : Setting) (last : Standing L) (closed : Closed L) : Type 0 where
  pub moment : Moment
  pub more : List Event
  pub noted : closed.events.events ≡ last.events ++ more
  pub at_once : AllByRecursion (IsAt moment) more
  pub clients_many : length closed.clients.links ≡ length last.clients
  pub clients : EachNow ComesNever (λ place was now. GoesOn was now) last.clients (map told closed.clients.links)
  pub programs_many : length closed.users.links ≡ length last.programs
  pub programs : EachNow ComesNever (λ place was now. GoesOn was now) (map (λ program. program.link) last.programs) (map told closed.users.links)
  pub clients_shut : (place : ℕ) (link : LinkTold) → slice_get (map told closed.clients.links) place ≡ Some link → link.is_shut ≡ true
  pub programs_shut : (place : ℕ) (link : LinkTold) (end : Option ChannelEnd) → slice_get (map told closed.users.links) place ≡ Some link
      → slice_get closed.ends place ≡ Some end → link.is_shut ≡ true
  pub ends : (place : ℕ) (end : Option ChannelEnd) → slice_get closed.ends place ≡ Some end → IsSomeAnd (slice_get last.programs place) (λ program. program.end ≡ end)
  pub dropped : closed.state.dropped ≡ last.dropped
  pub wanted : closed.memory ≡ last.wanted
  pub backlog : closed.backlog ≡ left setting.buffer (traffic (source_in setting) closed.events.events)
