-- What becomes of the folder at the daemon's stop.
use Rattle.std.proofs.Common.{◌≡◌, ℕ, List, ◌++◌, Option, Some, None, refl, sym, ap, subst, ◌∙◌, append_assoc}
use Rattle.dl_bytes.specs.declared.conf.AppSpec.{AppSpec}
use Rattle.dl_bytes.specs.declared.outcome.TraceEnd.{TraceEnd}
use Rattle.dl_events.specs.declared.event.Event.{Event}
use Rattle.dl_outside.specs.Links.{Links}
use Rattle.dl_outside.specs.Told.{FolderTold, LinkTold}
use Rattle.dl_trace.specs.State.{Trace}
use Rattle.dl_account.specs.Settled.{account_of}
use Rattle.dl_account.specs.State.{AccountState, ClosingState}
use Rattle.dl_core.specs.Follows.{IsAfter, Run}
use Rattle.dl_core.specs.State.{Core}
use Rattle.dl_core.specs.Files.{Leaves}
use Rattle.dl_core.specs.Later.{IsFolderLater}
use Rattle.dl_core.proofs.LaterFolders.{folder_both}
use Rattle.dl_core.proofs.LeftFiles.{leaves_both}
use Rattle.dl_admission.specs.Kept.{end_of}
use Rattle.dl_taking.specs.Drained.{GivesTook, IsDrain}
use Rattle.dl_taking.specs.Draining.{closing_took}
use Rattle.dl_taking.specs.Took.{Took}
use Rattle.dl_taking.proofs.DrainedEvents.{all_drain}
use Rattle.dl_turns.proofs.LaterStages.{WhatLinksTake}
use Rattle.dl_settling.specs.Ends.{ends_of, trace_told}
use Rattle.dl_settling.specs.Settling.{Closes, Drains, Settles}
use Rattle.dl_settling.specs.State.{Stopping, clients_of, taking_of}
use Rattle.dl_settling.specs.Stopped.{account_took}
use Rattle.dl_settling.proofs.StoppedEvents.{same_took}
use Rattle.dl_loop.proofs.FolderEvents.{folder_kept, leaves_kept}
use Rattle.dl_loop.proofs.FolderSides.{FolderGoesOn, closed_on}
use Rattle.dl_loop.proofs.TakenEvents.{drain_asks}

-- ---- what a trace tells

pub told_end : (trace : Option Trace) → end_of trace ≡ (trace_told trace).end
told_end None = refl
told_end (Some trace) = refl

-- ---- a stop

-- The folder of a stop that ends with this core: no file of others changed, and it is later by the events of the stop, in each run that gives what was taken.
pub record FolderStops {L : Type 0} (old : Stopping L) (core : Core) (account : AccountState) (folder folder_now : FolderTold) : Type 0 where
  pub trace : account.outcome.trace ≡ trace_told core.trace
  pub leaves : Leaves old.core core folder folder_now
  pub more : List Event
  pub events : account.events ≡ old.journal.events ++ more
  pub later : (run : Run) (past : List Event) (taken : ℕ → List ℕ) → GivesTook account.apps (account_took account) run → IsAfter run past taken old.core
      → IsFolderLater run.setting past more (end_of old.core.trace) account.outcome.trace.end folder folder_now

module _ {L : Type 0} (told : L → LinkTold) (takes : WhatLinksTake) (dropped : ℕ) (old drained closed : Stopping L) (folder between folder_now : FolderTold)
    (drain : Drains old drained folder between) (closes : Closes told drained closed between folder_now) where
  first : IsDrain old.closing.apps (taking_of old folder) (taking_of drained between)
  first = all_drain old.closing.apps (taking_of old folder) (taking_of drained between) drain.drains

  on : FolderGoesOn (clients_of told drained between).side (clients_of told closed folder_now).side
  on = closed_on takes (clients_of told drained between) (clients_of told closed folder_now) closes.closes

  gives_first : (run : Run) → GivesTook closed.closing.apps (closing_took closed.closing) run → GivesTook old.closing.apps (closing_took drained.closing) run
  gives_first run gives =
      let apps : closed.closing.apps ≡ old.closing.apps = ap (λ (c : ClosingState). c.apps) closes.same ∙ ap (λ (c : ClosingState). c.apps) drain.same in
      record {
        frames = (subst (λ (t : Took). GivesTook closed.closing.apps t run) (same_took drained.closing closed.closing closes.same) gives).frames;
        apids = (subst (λ (specs : List AppSpec). GivesTook specs (closing_took closed.closing) run) apps gives).apids;
      }

  stops : FolderStops old closed.core (account_of closed.closing closed.journal.events (ends_of closed.core dropped)) folder folder_now
  stops =
      let drained_events : drained.journal.events ≡ old.journal.events ++ first.more = cc first.events in
      let closed_events : closed.journal.events ≡ drained.journal.events ++ on.0 = cc on.1.events in
      record {
        trace = refl;
        leaves = leaves_both old.core drained.core closed.core folder between folder_now (leaves_kept old.core drained.core folder between first.trace) on.1.leaves;
        more = first.more ++ on.0;
        events = closed_events ∙ ap (λ (es : List Event). es ++ on.0) drained_events ∙ append_assoc old.journal.events first.more on.0;
        later = λ run past taken gives is.
            let one = first.after run past taken (gives_first run gives) is in
            subst (λ (e : Option TraceEnd). IsFolderLater run.setting past (first.more ++ on.0) (end_of old.core.trace) e folder folder_now) (told_end closed.core.trace)
            (folder_both run.setting past first.more on.0 (end_of old.core.trace) (end_of drained.core.trace) (end_of closed.core.trace) folder between folder_now
            (folder_kept old.core.trace drained.core.trace folder between first.trace run.setting past first.more (drain_asks first.more first.kinds))
            (on.1.later run (past ++ first.more) taken one.0));
      }

pub folder_stops : {L : Type 0} (told : L → LinkTold) (dropped : ℕ) (old : Stopping L) (account : AccountState) (links : Links L) (folder folder_now : FolderTold) → WhatLinksTake
    → (settles : Settles told dropped old account links folder folder_now) → FolderStops old settles.closed.core account folder folder_now
folder_stops told dropped old account links folder folder_now takes settles =
    subst (λ (a : AccountState). FolderStops old settles.closed.core a folder folder_now) (sym settles.account_is)
    (stops told takes dropped old settles.drained settles.closed folder settles.between folder_now settles.drains settles.closes)
