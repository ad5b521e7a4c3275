-- What serving comes to, by the laws of rounds and of a closing.
use Rattle.std.proofs.Common.{◌≡◌, ◌≢◌, ◌+◌, ◌<◌, ◌==◌, ℕ, Bool, true, List, [], ◌++◌, length, map, slice_get, Option, Some, None, is_some, refl, sym, ap, subst, ◌∙◌, arith}
use Rattle.std.specs.Prelude.{◌↔◌, IfSome, IsSome}
use Rattle.std.specs.List.{concat}
use Rattle.std.specs.Option.{option_and_then, option_map_or}
use Rattle.std.proofs.lemmas.List.{length-map}
use Rattle.dl_bytes.specs.declared.conf.Conf.{Conf}
use Rattle.dl_bytes.specs.declared.outcome.Ends.{Ends}
use Rattle.dl_bytes.specs.declared.outcome.LinkEnd.{LinkEnd}
use Rattle.dl_core.specs.Follows.{Begins, HoldsFiles, HoldsTrace, IsAfter, Run, source_of, stored_by}
use Rattle.dl_core.specs.State.{Core}
use Rattle.dl_events.specs.declared.event.Event.{Event}
use Rattle.dl_hub.specs.State.{Client as HubClient, client_of, outbox_of}
use Rattle.dl_loop.specs.Daemon.{TellTaken}
use Rattle.dl_loop.specs.Holds.{AreTaken}
use Rattle.dl_model.specs.ClientStream.{sent, traffic}
use Rattle.dl_model.specs.Journal.{IsOpen}
use Rattle.dl_model.specs.Setting.{Setting}
use Rattle.dl_model.specs.TraceFiles.{StoredFile}
use Rattle.dl_outside.specs.Folder.{Files}
use Rattle.dl_outside.specs.Told.{FolderTold, LinkTold}
use Rattle.dl_registry.specs.Kept.{owed_change}
use Rattle.dl_server.specs.Holds.{GoesOnUntilClosed, Holds}
use Rattle.dl_server.specs.State.{State}
use Rattle.dl_settling.specs.Ends.{end_in, ends_in}
use Rattle.dl_settling.specs.Went.{TellStreams}
use Rattle.dl_settling.proofs.WentClients.{client_at, end_at, streams_told}
use Rattle.dl_startup.specs.Setup.{IsBegun}
use Rattle.dl_startup.specs.Unchanged.{IsQuiet}
use Rattle.dl_trace.specs.InFolder.{HasFiles}
use Rattle.dl_trace.specs.State as trace
use Rattle.dl_trace.specs.State.{Trace}
use Rattle.dl_core.proofs.Connecting.{came_by_journal}
use Rattle.dl_core.proofs.OpenClients.{its_stream}
use Rattle.dl_serve.specs.declared.beginning.Begun.{Begun}
use Rattle.dl_serve.specs.declared.closed.Closed.{Closed}
use Rattle.dl_serve.specs.Closed.{IsLeft}
use Rattle.dl_serve.specs.Comes.{HasCome, IsComeTo, TookStream, TookStreams, run_in}
use Rattle.dl_lemmas.proofs.Lists.{within_of}
use Rattle.dl_lemmas.proofs.Options.{one_is, if_some_is, not_some}

-- ---- the trace files that stood before

pub record HaveStood (conf : Conf) (files : Option Files) (kept : Option Trace) : Type 0 where
  pub stood : List StoredFile
  pub after : IfSome kept (trace.IsAfter stood [])
  pub told : IfSome kept (λ _. IfSome files (λ all. HasFiles conf.directory all stood))

pub what_stood : (conf : Conf) (files : Option Files) (kept : Option Trace) → IsBegun conf files kept → HaveStood conf files kept
what_stood conf files None begun = record { stood = []; after = tt; told = tt }
what_stood conf files (Some kept) begun = record { stood = begun.2.0; after = begun.2.1; told = begun.2.2 }

pub stood_there : (conf : Conf) (files : Option Files) (kept : Option Trace) (stood : List StoredFile) → IfSome kept (λ _. IfSome files (λ all. HasFiles conf.directory all stood)) → kept ≢ None
    → IfSome files (λ all. HasFiles conf.directory all stood)
stood_there conf files None stood told some = absurd (some refl)
stood_there conf files (Some kept) stood told some = told

-- ---- what links took

module _ (run : Run) (events : List Event) (took : ℕ → List ℕ) (core : Core) (links : List LinkTold) (is : IsAfter run events took core) (taken : AreTaken links took)
    (none_open : (number : ℕ) → outbox_of core.hub number ≡ None) where
  -- of one client
  took_one : (place : ℕ) (link : LinkTold) (end : LinkEnd) (client : HubClient) → client_of core.hub (place + 1) ≡ Some client → slice_get links place ≡ Some link → end_in core.hub (place + 1) ≡ end
      → TookStream run events (place + 1) link end
  took_one place link end client there at same =
      let its = its_stream run events took core is (place + 1) client there in
      let shut : client.outbox ≡ None = ap (λ (o : Option HubClient). option_and_then (λ (c : HubClient). c.outbox) o) (sym there) ∙ none_open (place + 1) in
      let gone = its.gone shut in
      let streamed : (ecu : List ℕ) (buffer : ℕ) → List ℕ = λ ecu buffer. concat (sent ecu buffer (place + 1) (traffic (source_of run) events)) in
      let as_set : streamed run.setting.ecu run.setting.buffer ≡ streamed core.hub.ecu core.hub.buffer =
      sym (ap (λ (e : List ℕ). streamed e core.hub.buffer) is.set_to.unit ∙ ap (λ (b : ℕ). streamed run.setting.ecu b) is.set_to.buffer) in record {
        taken = took (place + 1);
        rest = gone.0;
        told = taken place link at;
        all = as_set ∙ gone.1;
        complete = ap (λ (e : LinkEnd). e.complete) (sym same) ∙ ap (λ (o : Option HubClient). option_map_or (λ (c : HubClient). c.left) o 0 == 0) there ∙ ap (λ (n : ℕ). n == 0) (sym gone.2);
      }

  took_all : TookStreams run events links (ends_in core.hub)
  took_all = λ place link end at there.
      let streams = streams_told run events took core is in
      let below : place < length core.hub.clients = omega (arith, within_of (ends_in core.hub) place end there, streams.many_so) in
      let client = client_at core.hub place below in
      let number : 1 + place ≡ place + 1 = omega arith in
      let same : end_in core.hub (place + 1) ≡ end =
      one_is (end_in core.hub (place + 1)) end (slice_get (ends_in core.hub) place) (end_at (end_in core.hub) 1 (length core.hub.clients) place below ∙ ap (λ (n : ℕ). Some (end_in core.hub n)) number) there in
      took_one place link end client.0 client.1 at same

-- ---- the whole

if_some : {A : Type 0} (o : Option A) (P : Type 0) → (IsSome o → P) → IfSome o (λ _. P)
if_some None P holds = tt
if_some (Some x) P holds = holds refl

-- what a run came to whose journal is that of a server that closed
module _ {L : Type 0} (link_told : L → LinkTold)
    (outbox : (run : Run) (events : List Event) (taken : ℕ → List ℕ) (core : Core) (client : ℕ) → IsAfter run events taken core → IsSome (outbox_of core.hub client) ↔ IsOpen client events)
    (run : Run) (old : FolderTold) (final : State) (none_open : (number : ℕ) → outbox_of final.core.hub number ≡ None) (closed : Closed L) (left : IsLeft link_told final closed)
    (ends : Holds (TellTaken link_told) (IsSome old.files) ⊥ run closed.events.events final) where
  pub has_come : HasCome link_told run old final.folder closed
  has_come =
      let hub = final.core.hub in
      let long : length closed.clients.links ≡ length hub.clients = sym (length-map closed.clients.links link_told) ∙ ap (λ (ls : List LinkTold). length ls) left.clients ∙ sym ends.many in
      let links : closed.state.links ≡ ends_in hub = ap (λ (e : Ends). e.links) left.state in record {
        formed = ends.formed;
        many = long ∙ came_by_journal run closed.events.events ends.took final.core ends.after;
        none_open = λ client open_so. not_some (outbox_of hub client) (none_open client) ((outbox run closed.events.events ends.took final.core client ends.after).1 open_so);
        streams = subst (λ (n : ℕ). TellStreams run closed.events.events n closed.state.links) (sym long)
            (subst (TellStreams run closed.events.events (length hub.clients)) (sym links) (streams_told run closed.events.events ends.took final.core ends.after));
        took = λ tells. subst (λ (es : List LinkEnd). TookStreams run closed.events.events (map link_told closed.clients.links) es) (sym links)
            (subst (λ (ls : List LinkTold). TookStreams run closed.events.events ls (ends_in hub)) (sym left.clients)
            (took_all run closed.events.events ends.took final.core final.clients ends.after (ends.taken tells) none_open));
        kept = final.core.trace;
        trace = ap (λ (e : Ends). e.trace) left.state;
        traced = record {
          after = ends.after.trace;
          holds = if_some old.files (IfSome final.core.trace (λ t. t.state.end ≡ None → HoldsFiles run (stored_by run closed.events.events) final.folder.files)) ends.trace;
        };
      }

-- What is seen of a server that was just made of what was begun: it notes into an empty journal, nobody came, and its core begins each run of this
-- setting, over the trace files that its trace found.
pub record IsFresh (set : Setting) (begun : Begun) (s : State) : Type 0 where
  pub kept : s.events ≡ Some []
  pub begins : Begins set begun.trace s.core
  pub trace : s.core.trace ≡ begun.trace
  pub no_client : s.clients ≡ []
  pub many : length s.core.hub.clients ≡ length s.clients
  pub settled : owed_change s.core.registry ≡ None
  pub directory : set.directory ≡ begun.conf.directory

module _ (Tell : Type 0) (set : Setting) (begun : Begun) (first : FolderTold) (begins : IsBegun begun.conf first.files begun.trace) (start : State) (quiet : IsQuiet first start.folder)
    (fresh : IsFresh set begun start) where
  abbrev before_run : HaveStood begun.conf first.files begun.trace
  before_run = what_stood begun.conf first.files begun.trace begins

  abbrev run : Run
  run = run_in set before_run.stood

  no_such : (place : ℕ) (link : LinkTold) → slice_get start.clients place ≡ Some link → ⊥
  no_such place link at = (let none : slice_get [] place ≡ Some link = subst (λ (ls : List LinkTold). slice_get ls place ≡ Some link) fresh.no_client at in cc none)

  stood_holds : (files : Files) → first.files ≡ Some files → begun.trace ≢ None → HoldsFiles run (stored_by run []) start.folder.files
  stood_holds files is some =
      let told : start.folder.files ≡ Some files = if_some_is first.files (λ (all : Files). start.folder.files ≡ Some all) files is quiet.unchanged.files in
      let stood : HasFiles begun.conf.directory files before_run.stood =
      if_some_is first.files (λ (all : Files). HasFiles begun.conf.directory all before_run.stood) files is (stood_there begun.conf first.files begun.trace before_run.stood before_run.told some) in
      let here : HasFiles set.directory files before_run.stood = subst (λ (d : List ℕ). HasFiles d files before_run.stood) (sym fresh.directory) stood in
      subst (λ (o : Option Files). HoldsFiles run (stored_by run []) o) (sym told) here

  first_trace : (files : Files) → first.files ≡ Some files → HoldsTrace run [] start.core start.folder
  first_trace files is = by start.core.trace refl where
    by : (o : Option Trace) → start.core.trace ≡ o → IfSome o (λ t. t.state.end ≡ None → HoldsFiles run (stored_by run []) start.folder.files)
    by None none = tt
    by (Some t) some = λ goes_on. stood_holds files is (λ none. (let both : None ≡ Some t = sym none ∙ sym fresh.trace ∙ some in cc both))

  held_at_first : (files : Option Files) → first.files ≡ files → IsSome files → HoldsTrace run [] start.core start.folder
  held_at_first None is some = absurd (cc some)
  held_at_first (Some files) is some = first_trace files is

  -- what it is to its empty journal
  pub fresh_holds : Holds Tell (IsSome first.files) (Unit {0}) run [] start
  fresh_holds = record {
    kept = fresh.kept;
    took = λ _. [];
    after = fresh.begins run refl refl before_run.after;
    taken = λ tells place link at. absurd (no_such place link at);
    many = fresh.many;
    settled = fresh.settled;
    running = λ _. refl;
    formed = tt;
    trace = held_at_first first.files refl;
  }

module _ {L : Type 0} (link_told : L → LinkTold)
    (outbox : (run : Run) (events : List Event) (taken : ℕ → List ℕ) (core : Core) (client : ℕ) → IsAfter run events taken core → IsSome (outbox_of core.hub client) ↔ IsOpen client events)
    (set : Setting) (begun : Begun) (first : FolderTold) (begins : IsBegun begun.conf first.files begun.trace) (start final : State) (quiet : IsQuiet first start.folder) (fresh : IsFresh set begun start)
    (goes : (held : Bool) → GoesOnUntilClosed (TellTaken link_told) (held ≡ true) start final) (none_open : (number : ℕ) → outbox_of final.core.hub number ≡ None)
    (closed : Closed L) (left : IsLeft link_told final closed) where
  abbrev stood_before : HaveStood begun.conf first.files begun.trace
  stood_before = what_stood begun.conf first.files begun.trace begins

  abbrev whole_run : Run
  whole_run = run_in set stood_before.stood

  -- what the journal is at the end
  at_end : Holds (TellTaken link_told) (IsSome first.files) ⊥ whole_run closed.events.events final
  at_end =
      let out = goes (is_some first.files) whole_run [] (fresh_holds (TellTaken link_told) set begun first begins start quiet fresh) in
      let same : [] ++ out.0 ≡ closed.events.events = cc (out.1.kept, left.events) in
      subst (λ (es : List Event). Holds (TellTaken link_told) (IsSome first.files) ⊥ whole_run es final) same out.1

  pub come_to : IsComeTo link_told set begun first final.folder closed
  come_to = record {
    stood = stood_before.stood;
    stood_so = stood_there begun.conf first.files begun.trace stood_before.stood stood_before.told;
    comes = has_come link_told outbox whole_run first final none_open closed left at_end;
  }
