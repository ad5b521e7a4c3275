-- The laws of the daemon, each of its lemma.
use Rattle.std.proofs.Common.{◌≡◌, ◌≤◌, ℕ, Bool, true, length, map, sym, ap, refl, subst, ◌∙◌, arith}
use Rattle.std.proofs.lemmas.List.{length-map}
use Rattle.dl_outside.specs.Told.{FolderTold, LinkTold, NetTold}
use Rattle.dl_desk.specs.Made.{IsLater}
use Rattle.dl_desk.specs.State.{DeskState}
use Rattle.dl_core.specs.State.{Core}
use Rattle.dl_rounds.specs.Clients.{Clients, VisitsAll}
use Rattle.dl_rounds.specs.Passing.{StayAsNoted}
use Rattle.dl_turns.specs.Gone.{TellTheEnd}
use Rattle.dl_rounds.specs.Ready.{AreHeard}
use Rattle.dl_rounds.specs.Shown.{ShowWhy, TellOvers}
use Rattle.dl_rounds.specs.Visits.{HearsAll, Pumped}
use Rattle.dl_rounds.specs.ListenerPool.{Seated}
use Rattle.dl_rounds.specs.declared.accepting.Arrival.{Arrival}
use Rattle.dl_taking.specs.Took.{took_by}
use Rattle.dl_settling.specs.Room.{HasFewClaims, IsFew}
use Rattle.dl_settling.specs.Went.{TellBytes}
use Rattle.dl_loop.specs.Bounds.{HasBounds}
use Rattle.dl_loop.specs.Daemon.{IsDaemon, TellTaken}
use Rattle.dl_loop.specs.Holds.{Gives, HoldsIn}
use Rattle.dl_loop.specs.Made.{IsMade, fresh_listeners}
use Rattle.dl_loop.specs.State.{DaemonState, desk_told}
use Rattle.dl_loop.specs.Steps.{Accepts, GoesOn, Hears, Pumps}
use Rattle.dl_loop.proofs.Accepted.{accepted, folder_none}
use Rattle.dl_loop.proofs.LaterDaemons.{later_daemon}
use Rattle.dl_loop.proofs.MadeDaemons.{made_daemon}
use Rattle.dl_loop.proofs.ShownDaemons.{tell_overs}
use Rattle.dl_loop.proofs.Visited.{PumpsAreEvents, heard_admits_none, heard_runs, pumped_admits_none, pumped_runs}

pub made_is : {L : Type 0} (told : L → LinkTold) (d : DaemonState L) → IsMade d → IsDaemon told d
unfolding fresh_listeners
made_is told d made =
    let m = made_daemon told d.core d.desk d.journal d.links d.seated d.calls made.begins made.untouched made.events made.links made.listeners made.room in record {
      told_by = m.told_by;
      linked = m.linked;
      heard = m.heard;
      room = record {
        noted = made.noted ∙ m.room.noted;
        claimed = made.claimed ∙ m.room.claimed;
        few = omega (arith, made.noted);
        few_claims = omega (arith, made.claimed);
        limit = m.room.limit;
        spare = omega (arith, m.room.spare, made.noted, made.claimed);
      };
      bounds = subst (λ n. HasBounds n d.core.hub.admitted d.desk.handles.losses.reported) (sym made.noted) m.bounds;
      few = subst (λ (n : ℕ). IsFew n (took_by d.desk.handles) (length d.desk.apps)) (sym made.noted) m.few;
      few_claims = subst (λ (n : ℕ). HasFewClaims n (took_by d.desk.handles) (length d.desk.apps)) (sym made.claimed) m.few_claims;
      apps = m.apps;
      desk = subst (λ (first : DeskState). IsLater first d.desk) (sym made.first_desk) m.desk;
      running = m.running;
      runs = λ run gives. subst (λ (first : DeskState). HoldsIn (TellTaken told) (TellBytes told) (d.greeted ≡ true) run (map told d.links.links) d.seated.listeners d.journal.events d.core (desk_told first) (desk_told d.desk))
          (sym made.first_desk)
          (subst (λ (greeted : Bool). HoldsIn (TellTaken told) (TellBytes told) (greeted ≡ true) run (map told d.links.links) d.seated.listeners d.journal.events d.core (desk_told d.desk) (desk_told d.desk)) (sym made.greeted)
          (m.runs run (subst (λ (first : Core). Gives run first d.desk.apps d.desk.handles) made.first_core gives)));
      shown = λ run gives. m.shown run (subst (λ (first : Core). Gives run first d.desk.apps d.desk.handles) made.first_core gives);
    }

pub accept_is : {L : Type 0} (told : L → LinkTold) (came : Arrival) (net net_now : NetTold L) (old new : DaemonState L) → IsDaemon told old
    → Accepts told came net net_now old new → IsDaemon told new
accept_is {L} told came net net_now old new is accepts = subst (λ (d : DaemonState L). IsDaemon told d) (sym accepts.rest)
    (accepted told old is came net net_now new.core new.journal new.links new.dropped new.failed new.wanted accepts.arrives accepts.connects accepts.linked accepts.heard accepts.spare accepts.unused)

pub hear_is : ((moved : Bool) (old new : Clients) → HearsAll moved old new → StayAsNoted old new) → {L : Type 0} (told : L → LinkTold)
    → ((moved : Bool) (old new : Clients) → HearsAll moved old new → (TellTheEnd told → TellOvers old.links) → ShowWhy (TellTheEnd told) old → ShowWhy (TellTheEnd told) new) → (moved : Bool) (folder folder_now : FolderTold) (old new : DaemonState L)
    → IsDaemon told old → Hears told moved folder folder_now old new → GoesOn old new → IsDaemon told new
hear_is stays {L} told shows moved folder folder_now old new is hears goes = subst (λ (d : DaemonState L). IsDaemon told d) (sym hears.rest)
    (later_daemon told old is new.core new.desk new.journal new.links new.seated folder folder_now (stays moved _ _ hears.visits) (shows moved _ _ hears.visits (tell_overs told old.links.links)) (heard_runs moved _ _ hears.visits is.running)
    (heard_admits_none moved _ _ hears.visits) hears.desk goes.linked goes.heard goes.room goes.same)

pub pump_is : ((moved : Bool) (old new : Clients) → VisitsAll Pumped moved old new → StayAsNoted old new) → PumpsAreEvents → {L : Type 0} (told : L → LinkTold)
    → ((moved : Bool) (old new : Clients) → VisitsAll Pumped moved old new → ShowWhy (TellTheEnd told) old → ShowWhy (TellTheEnd told) new) → (moved : Bool) (old new : DaemonState L)
    → IsDaemon told old → Pumps told moved old new → GoesOn old new → IsDaemon told new
pump_is stays pump {L} told shows moved old new is pumps goes =
    let enough : length (map told old.links.links) ≤ length old.seated.listeners = omega (arith, length-map old.links.links told, is.linked.many, is.linked.few, is.heard.enough) in
    let visits = pumps.visits (desk_told old.desk) folder_none old.seated.listeners enough in
    let desk : new.desk ≡ old.desk = ap (λ (d : DaemonState L). d.desk) pumps.rest in
    let seated : new.seated ≡ old.seated = ap (λ (d : DaemonState L). d.seated) pumps.rest in
    subst (λ (d : DaemonState L). IsDaemon told d) (sym pumps.rest)
    (later_daemon told old is new.core old.desk new.journal new.links old.seated folder_none folder_none (stays moved _ _ visits) (shows moved _ _ visits) (pumped_runs pump moved _ _ visits is.running)
    (pumped_admits_none moved _ _ visits) refl goes.linked (subst (λ (de : DeskState). AreHeard old.seated new.core (desk_told de)) desk (subst (λ (s : Seated). AreHeard s new.core (desk_told new.desk)) seated goes.heard)) goes.room goes.same)
