-- What the daemon comes to, by the laws of its rounds and of its closing.
use Rattle.std.proofs.Common.{◌≡◌, ◌⊎◌, inl, inr, ℕ, zero, suc, Bool, true, List, [], ◌++◌, map, Option, Some, None, is_some, refl, sym, ap, subst, ◌∙◌, append-nil, append_assoc, false}
use Rattle.std.specs.Prelude.{◌↔◌, IfSome, IsSome, IsSomeAnd}
use Rattle.std.proofs.lemmas.List.{length-map}
use Rattle.dl_bytes.specs.declared.moment.Moment.{Moment}
use Rattle.dl_core.specs.Follows.{HoldsFiles, IsAfter, Run, begun_anew, files_with, stored_by, unstored_records}
use Rattle.dl_core.proofs.Beginnings.{goes_on_with}
use Rattle.dl_core.specs.Settings.{HasSizes}
use Rattle.dl_core.specs.State.{Core}
use Rattle.dl_events.specs.declared.event.Event.{Event}
use Rattle.dl_hub.specs.State.{outbox_of}
use Rattle.dl_loop.specs.Daemon.{TellTaken}
use Rattle.dl_model.specs.Journal.{IsOpen}
use Rattle.dl_model.specs.Setting.{Setting}
use Rattle.dl_model.specs.TraceFiles.{StoredFile, trace_files}
use Rattle.dl_outside.specs.Folder.{Files}
use Rattle.dl_outside.specs.Links.{Links}
use Rattle.dl_outside.specs.Outside.{Stays}
use Rattle.dl_outside.specs.Told.{FolderTold, LinkTold, NetTold}
use Rattle.dl_server.specs.Closing.{IsClosed}
use Rattle.dl_server.specs.Holds.{GoesOn, GoesOnUntilClosed, Holds}
use Rattle.dl_server.specs.Round.{IsRound}
use Rattle.dl_server.specs.State.{State, seen}
use Rattle.dl_server.proofs.HeldStates.{goes_aside, goes_both}
use Rattle.dl_startup.specs.Setup.{IsBegun}
use Rattle.dl_startup.specs.Unchanged.{IsQuiet}
use Rattle.dl_trace.specs.Made.{HasBegun}
use Rattle.dl_trace.specs.InFolder.{HasFiles}
use Rattle.dl_trace.specs.State.{Trace}
use Rattle.dl_turns.specs.Gone.{TellTheEnd}
use Rattle.dl_events.specs.Told.{Told}
use Rattle.dl_serve.specs.declared.beginning.Begun.{Begun}
use Rattle.dl_serve.specs.declared.closed.Closed.{Closed}
use Rattle.dl_serve.specs.Closed.{IsLeft}
use Rattle.dl_serve.specs.Comes.{run_in}
use Rattle.dl_serve.proofs.CameTo.{IsFresh, fresh_holds, has_come, stood_there, what_stood}
use Rattle.dl_daemon.specs.declared.limits.Limits.{Limits}
use Rattle.dl_daemon.specs.declared.rounds.Stop.{Stop}
use Rattle.dl_daemon.specs.Comes.{IsKeptTo}
use Rattle.dl_daemon.specs.Open.{setting}
use Rattle.dl_daemon.specs.Outside.{Outside}
use Rattle.dl_daemon.specs.Program.{HasOpened}
use Rattle.dl_daemon.specs.Renewing.{Anew, Renewed, last_anew, untried}
use Rattle.dl_daemon.specs.Rounds.{AreRounds, IsRenewedRound, asked_again, noted, with_trace}
use Rattle.dl_daemon.proofs.Renewals.{HasEnded, IsAnew, IsStill, renewed_so, some_stays, told_so, with_new}

-- the run whose trace was begun behind so many stored frames, with these
abbrev pub run_behind : Setting → List StoredFile → ℕ × List (List ℕ) → Run
run_behind set stood before = record (run_in set stood) { before = before.0; head = before.1 }

-- the run whose trace was begun anew
abbrev pub anew_in : Setting → List StoredFile → Anew → List Event → Run
anew_in set stood anew past = begun_anew stood (unstored_records set.ecu anew.moment anew.unstored) past (run_in set stood)

-- ---- the folder holds the trace still

holds_still : (run : Run) (events : List Event) (trace : Option Trace) (old new : Option Files) → Stays old new ⊎ HasEnded trace → IfSome trace (λ kept. kept.state.end ≡ None → HoldsFiles run (stored_by run events) old)
    → IfSome trace (λ kept. kept.state.end ≡ None → HoldsFiles run (stored_by run events) new)
holds_still run events None old new stays holds = tt
holds_still run events (Some kept) old new (inr ended) holds = λ goes_on. absurd (ended goes_on)
holds_still run events (Some kept) old new (inl stays) holds = λ goes_on. some_stays (λ (files : Files). HasFiles run.setting.directory files (files_with run (stored_by run events))) old new stays (holds goes_on)

module _ (Tell Held : Type 0) where
  -- without a word on the folder
  folderless : (Runs : Type 0) (run : Run) (events : List Event) (s : State) → Holds Tell Held Runs run events s → Holds Tell ⊥ Runs run events s
  folderless Runs run events s h = record {
    kept = h.kept;
    took = h.took;
    after = h.after;
    taken = h.taken;
    many = h.many;
    settled = h.settled;
    running = h.running;
    formed = h.formed;
    trace = λ none. absurd none;
  }

  -- what was done in vain
  holds_as : (run : Run) (events : List Event) (s : State) (folder : FolderTold) → Stays s.folder.files folder.files ⊎ HasEnded s.core.trace → Holds Tell Held (Unit {0}) run events s
      → Holds Tell Held (Unit {0}) run events (with_trace s s.core folder)
  holds_as run events s folder stays h = record {
    kept = h.kept;
    took = h.took;
    after = h.after;
    taken = h.taken;
    many = h.many;
    settled = h.settled;
    running = h.running;
    formed = h.formed;
    trace = λ held. holds_still run events s.core.trace s.folder.files folder.files stays (h.trace held);
  }

  pub holds_same : (run : Run) (events : List Event) (s : State) (core : Core) (folder : FolderTold) → core ≡ s.core → Stays s.folder.files folder.files ⊎ HasEnded s.core.trace → Holds Tell Held (Unit {0}) run events s
      → Holds Tell Held (Unit {0}) run events (with_trace s core folder)
  holds_same run events s core folder same stays h =
      subst (λ (c : Core). Holds Tell Held (Unit {0}) run events (with_trace s c folder)) (sym same) (holds_as run events s folder stays h)

-- ---- behind the last beginning

-- in the run whose trace was begun then
pub record FromAnew (Tell Runs : Type 0) (set : Setting) (begun : Begun) (anew : Anew) (s : State) : Type 0 where
  pub past : List Event
  pub noted : anew.past ≡ Some past
  pub stood : List StoredFile
  pub stood_so : IfSome anew.folder.files (λ files. HasFiles begun.conf.directory files stood)
  pub later : List Event
  pub holds : Holds Tell (IsSome anew.folder.files) Runs (anew_in set stood anew past) (past ++ later) s

-- a trace was begun
begins_anew : (Tell : Type 0) (set : Setting) (begun : Begun) → HasSizes begun.conf set → (stood : List StoredFile) (before : ℕ × List (List ℕ)) (events : List Event) (s : State) (moment : Moment) (so : Option ℕ) (core : Core)
    (folder : FolderTold) (new : IsAnew begun.conf moment so s.core core s.folder folder) → Holds Tell ⊥ (Unit {0}) (run_behind set stood before) events s
    → FromAnew Tell (Unit {0}) set begun (record { folder = s.folder; past = s.events; moment = moment; unstored = new.unstored }) (with_trace s (with_new s.core new.trace) folder)
begins_anew Tell set begun sizes stood before events s moment so core folder new h =
    let there : List StoredFile = new.stood in
    let anew : Anew = record { folder = s.folder; past = s.events; moment = moment; unstored = new.unstored } in
    let head : List ℕ → List (List ℕ) = λ ecu. unstored_records ecu moment new.unstored in
    let conf = begun.conf in
    let has : HasBegun conf there (head set.ecu) new.trace = subst (λ (ecu : List ℕ). HasBegun conf there (head ecu) new.trace) h.after.set_to.ecu new.has in
    let next = goes_on_with conf (head set.ecu) new.trace s.core (run_behind set stood before) events h.took there h.after sizes has in
    let holds = subst (λ (ecu : List ℕ). IfSome s.folder.files (λ was. IsSomeAnd folder.files (λ files. HasFiles conf.directory files (trace_files conf.file_size conf.max_size there (head ecu))))) h.after.set_to.ecu new.files in
    let now : Holds Tell (IsSome s.folder.files) (Unit {0}) (anew_in set there anew events) events (with_trace s (with_new s.core new.trace) folder) = record {
      kept = h.kept;
      took = h.took;
      after = next.0;
      taken = h.taken;
      many = h.many;
      settled = h.settled;
      running = h.running;
      formed = h.formed;
      trace = λ told. next.1 folder (told_so (IsSomeAnd folder.files (λ files. HasFiles conf.directory files (trace_files conf.file_size conf.max_size there (head set.ecu)))) s.folder.files holds told);
    } in record {
      past = events;
      noted = h.kept;
      stood = there;
      stood_so = new.stood_so;
      later = [];
      holds = subst (λ (es : List Event). Holds Tell (IsSome s.folder.files) (Unit {0}) (anew_in set there anew events) es (with_trace s (with_new s.core new.trace) folder)) (sym (append-nil events)) now;
    }

module _ {L : Type 0} (link_told : L → LinkTold)
    (round : (held : Bool) (net net_now users users_now : NetTold L) (old new : State) → IsRound link_told net net_now users users_now old new → GoesOn (TellTaken link_told) (held ≡ true) old new)
    (close : (held : Bool) (moment : Moment) (old new : State) → IsClosed (TellTheEnd link_told) moment old new → GoesOnUntilClosed (TellTaken link_told) (held ≡ true) old new)
    (outbox : (run : Run) (events : List Event) (taken : ℕ → List ℕ) (core : Core) (client : ℕ) → IsAfter run events taken core → IsSome (outbox_of core.hub client) ↔ IsOpen client events)
    (most : Limits) (begun : Begun) (first : FolderTold) (begins : IsBegun begun.conf first.files begun.trace) where
  abbrev Tell : Type 0
  Tell = TellTaken link_told

  abbrev set : Setting
  set = setting most begun

  abbrev stood : List StoredFile
  stood = (what_stood begun.conf first.files begun.trace begins).stood

  sizes : HasSizes begun.conf set
  sizes = record { directory = refl; file_size = refl; max_size = refl }

  -- what is known after rounds: of the first trace, or behind the last beginning
  abbrev Known : Type 0 → Option Anew → State → Type 0
  Known Runs None s = (events : List Event) × Holds Tell (IsSome first.files) Runs (run_in set stood) events s
  Known Runs (Some anew) s = FromAnew Tell Runs set begun anew s

  -- ---- it goes on

  goes_on : (anew : Option Anew) (was now : State) → ((held : Bool) → GoesOn Tell (held ≡ true) was now) → Known (Unit {0}) anew was → Known (Unit {0}) anew now
  goes_on None was now goes known =
      let one = goes (is_some first.files) (run_in set stood) known.0 known.1 in (known.0 ++ one.0, one.1)
  goes_on (Some anew) was now goes known =
      let run : Run = anew_in set known.stood anew known.past in
      let one = goes (is_some anew.folder.files) run (known.past ++ known.later) known.holds in record {
        past = known.past;
        noted = known.noted;
        stood = known.stood;
        stood_so = known.stood_so;
        later = known.later ++ one.0;
        holds = subst (λ (es : List Event). Holds Tell (IsSome anew.folder.files) (Unit {0}) run es now) (append_assoc known.past known.later one.0) one.1;
      }

  goes_out : (anew : Option Anew) (was now : State) → ((held : Bool) → GoesOnUntilClosed Tell (held ≡ true) was now) → Known (Unit {0}) anew was → Known ⊥ anew now
  goes_out None was now goes known =
      let one = goes (is_some first.files) (run_in set stood) known.0 known.1 in (known.0 ++ one.0, one.1)
  goes_out (Some anew) was now goes known =
      let run : Run = anew_in set known.stood anew known.past in
      let one = goes (is_some anew.folder.files) run (known.past ++ known.later) known.holds in record {
        past = known.past;
        noted = known.noted;
        stood = known.stood;
        stood_so = known.stood_so;
        later = known.later ++ one.0;
        holds = subst (λ (es : List Event). Holds Tell (IsSome anew.folder.files) ⊥ run es now) (append_assoc known.past known.later one.0) one.1;
      }

  -- ---- nothing was begun, or a trace was

  goes_still : (anew : Option Anew) (s : State) (core : Core) (folder : FolderTold) → core ≡ s.core → Stays s.folder.files folder.files ⊎ HasEnded s.core.trace → Known (Unit {0}) anew s
      → Known (Unit {0}) anew (with_trace s core folder)
  goes_still None s core folder same stays known = (known.0, holds_same Tell (IsSome first.files) (run_in set stood) known.0 s core folder same stays known.1)
  goes_still (Some anew) s core folder same stays known = record {
    past = known.past;
    noted = known.noted;
    stood = known.stood;
    stood_so = known.stood_so;
    later = known.later;
    holds = holds_same Tell (IsSome anew.folder.files) (anew_in set known.stood anew known.past) (known.past ++ known.later) s core folder same stays known.holds;
  }

  goes_anew : (anew : Option Anew) (s : State) (moment : Moment) (so : Option ℕ) (core : Core) (folder : FolderTold) (new : IsAnew begun.conf moment so s.core core s.folder folder) → Known (Unit {0}) anew s
      → Known (Unit {0}) (Some (record { folder = s.folder; past = s.events; moment = moment; unstored = new.unstored })) (with_trace s (with_new s.core new.trace) folder)
  goes_anew None s moment so core folder new known =
      begins_anew Tell set begun sizes stood (0, []) known.0 s moment so core folder new (folderless Tell (IsSome first.files) (Unit {0}) (run_in set stood) known.0 s known.1)
  goes_anew (Some anew) s moment so core folder new known =
      let run : Run = anew_in set known.stood anew known.past in
      begins_anew Tell set begun sizes known.stood (run.before, run.head) (known.past ++ known.later) s moment so core folder new
      (folderless Tell (IsSome anew.folder.files) (Unit {0}) run (known.past ++ known.later) s known.holds)

  -- by what was done
  module _ (kept : Option Anew) (s : State) (moment : Moment) (core : Core) (folder : FolderTold) (known : Known (Unit {0}) kept s) where
    abbrev last : Option ℕ → Option Anew
    last so = last_anew so moment s.folder s.events kept

    by_what : (so : Option ℕ) → IsStill so s.core core s.folder folder ⊎ IsAnew begun.conf moment so s.core core s.folder folder → Known (Unit {0}) (last so) (with_trace s core folder)
    by_what so (inl still) =
        subst (λ (o : Option ℕ). Known (Unit {0}) (last o) (with_trace s core folder)) (sym still.unbegun) (goes_still kept s core folder still.same still.stays known)
    by_what so (inr new) =
        let at_new = goes_anew kept s moment so core folder new known in
        let at_core : Known (Unit {0}) (last (Some new.unstored)) (with_trace s core folder) =
        subst (λ (c : Core). Known (Unit {0}) (last (Some new.unstored)) (with_trace s c folder)) (sym new.is) at_new in
        subst (λ (o : Option ℕ). Known (Unit {0}) (last o) (with_trace s core folder)) (sym new.begun_so) at_core

  -- ---- rounds

  one_on : (kept kept_now : Renewed) (net net_now users users_now : NetTold L) (between new : State) → IsRenewedRound link_told begun.conf kept kept_now net net_now users users_now between new
      → Known (Unit {0}) kept.anew between → Known (Unit {0}) kept_now.anew new
  one_on kept kept_now net net_now users users_now between new r known =
      let renewed : State = with_trace between r.core r.folder in
      let what = renewed_so begun.conf r.moment r.begun between.core r.core between.folder r.folder r.rest kept.tries kept_now.tries r.renews in
      let so_far : Known (Unit {0}) kept_now.anew renewed =
      subst (λ (a : Option Anew). Known (Unit {0}) a renewed) (sym r.anew) (by_what kept.anew between r.moment r.core r.folder known r.begun what) in
      goes_on kept_now.anew renewed new (λ held. goes_both Tell (held ≡ true) renewed (asked_again renewed) new
      (goes_aside Tell (held ≡ true) renewed (asked_again renewed) refl refl refl refl) (round held net net_now users users_now (asked_again renewed) new r.round)) so_far

  rounds_on : (many : ℕ) (kept kept_now : Renewed) (net net_now users users_now : NetTold L) (old new : State) → AreRounds link_told begun.conf many kept kept_now net net_now users users_now old new
      → Known (Unit {0}) kept.anew old → Known (Unit {0}) kept_now.anew new
  rounds_on zero kept kept_now net net_now users users_now old new h known =
      subst (λ (k : Renewed). Known (Unit {0}) k.anew new) (sym h.0) (subst (λ (s : State). Known (Unit {0}) kept.anew s) (sym h.3) known)
  rounds_on (suc many) kept kept_now net net_now users users_now old new h known =
      one_on h.0 kept_now h.1 net_now h.2 users_now h.3 new h.5 (rounds_on many kept h.0 net h.1 users h.2 old h.3 h.4 known)

  -- ---- the whole

  module _ (old new : Outside L) (why : Stop) (closed : Closed L) (quiet : IsQuiet first old.folder) (has : HasOpened link_told most begun why old new closed) where
    abbrev start : State
    start = seen link_told noted false old.folder has.opened.server

    abbrev final : State
    final = has.run.closes.0

    fresh : IsFresh set begun start
    fresh = record {
      kept = ap (λ (j : Told). Some j.events) has.is_opened.made.journal_is;
      begins = has.is_opened.begins;
      trace = ap (λ (c : Core). c.trace) has.is_opened.made.core_is;
      no_client = ap (λ (ls : Links L). map link_told ls.links) has.is_opened.made.no_client;
      many = has.is_opened.is_server.linked.many ∙ sym (length-map has.opened.server.clients.links link_told);
      settled = has.is_opened.is_server.linked.settled;
      directory = refl;
    }

    left : IsLeft link_told final closed
    left = has.run.closes.3

    comes_so : (anew : Option Anew) → Known ⊥ anew final → IsKeptTo link_told set begun anew first final.folder closed
    comes_so None known =
        let same : known.0 ≡ closed.events.events = cc (known.1.kept, left.events) in record {
          stood = stood;
          stood_so = stood_there begun.conf first.files begun.trace stood (what_stood begun.conf first.files begun.trace begins).told;
          comes = has_come link_told outbox (run_in set stood) first final has.run.closes.2.clients.none_open closed left
              (subst (λ (es : List Event). Holds Tell (IsSome first.files) ⊥ (run_in set stood) es final) same known.1);
        }
    comes_so (Some anew) known =
        let run : Run = anew_in set known.stood anew known.past in
        let same : known.past ++ known.later ≡ closed.events.events = cc (known.holds.kept, left.events) in record {
          past = known.past;
          noted = known.noted;
          later = known.later;
          all = sym same;
          stood = known.stood;
          stood_so = known.stood_so;
          comes = has_come link_told outbox run anew.folder final has.run.closes.2.clients.none_open closed left
              (subst (λ (es : List Event). Holds Tell (IsSome anew.folder.files) ⊥ run es final) same known.holds);
        }

    pub kept_to : IsKeptTo link_told (setting most begun) begun has.run.served.kept.anew first new.folder closed
    kept_to =
        let served = has.run.served in
        let rounds = rounds_on served.many (record { tries = untried; anew = None }) served.kept has.net new.net has.users new.users start has.run.last served.rounds
        ([], fresh_holds Tell set begun first begins start quiet fresh) in
        let out = goes_out served.kept.anew has.run.last final (λ held. close held has.run.moment has.run.last final has.run.closes.2) rounds in
        subst (λ (f : FolderTold). IsKeptTo link_told set begun served.kept.anew first f closed) has.run.closes.1 (comes_so served.kept.anew out)
