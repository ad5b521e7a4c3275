-- What is true of a daemon is true of one that was just made.
use Rattle.std.proofs.Common.{◌≡◌, ◌≤◌, ◌+◌, ℕ, zero, suc, Bool, true, false, List, [], ◌∷◌, Some, None, length, map, replicate, slice_get, append-nil, refl, sym, ap, subst, ◌∙◌, ◌==◌, if◌then◌else◌, arith}
use Rattle.std.specs.Prelude.{count_by, slice_index_or, unwrap_or}
use Rattle.std.proofs.lemmas.List.{length-replicate}
use Rattle.dl_bytes.specs.declared.conf.Stored.{Stored}
use Rattle.dl_bytes.specs.declared.conf.StoredLevel.{StoredLevel}
use Rattle.dl_events.specs.declared.event.Event.{Event}
use Rattle.dl_cells.specs.LevelHistory.{current_version}
use Rattle.dl_cells.specs.Losses.{reported_of}
use Rattle.dl_model.specs.Journal.{IsRunning}
use Rattle.dl_events.specs.Journal.{Journaled}
use Rattle.dl_outside.specs.Links.{Links}
use Rattle.dl_outside.specs.Told.{LinkTold}
use Rattle.dl_model.specs.declared.registry.Slot.{Slot}
use Rattle.dl_model.specs.Registry.{all_slots, first_change}
use Rattle.dl_desk.specs.State.{DeskState}
use Rattle.dl_registry.specs.Kept.{made, owed_change, slots}
use Rattle.dl_registry.specs.Table.{unset}
use Rattle.dl_bytes.specs.Limits.{client_limit}
use Rattle.dl_hub.specs.State.{Client, fresh, outbox_of}
use Rattle.std.specs.Option.{option_and_then}
use Rattle.dl_account.specs.Known.{told_as}
use Rattle.dl_core.specs.Settings.{begun}
use Rattle.dl_core.specs.State.{Core}
use Rattle.dl_turns.specs.Events.{IsDeskOf}
use Rattle.dl_turns.specs.Gone.{TellTheEnd}
use Rattle.dl_rounds.specs.Ready.{AreLinked, fresh_listener}
use Rattle.dl_rounds.specs.Shown.{AllShowWhy}
use Rattle.dl_rounds.specs.ListenerPool.{Seated}
use Rattle.dl_rounds.specs.declared.listener.Listener.{Listener}
use Rattle.dl_taking.specs.Drained.{is_claim, is_noted}
use Rattle.dl_loop.specs.Daemon.{IsDaemon, TellTaken}
use Rattle.dl_loop.specs.Holds.{HoldsIn}
use Rattle.dl_loop.specs.Made.{IsBegun, IsUntouched}
use Rattle.dl_loop.specs.Limits.{more_events}
use Rattle.dl_loop.specs.State.{desk_told}
use Rattle.dl_loop.specs.Told.{IsToldBy}
use Rattle.dl_loop.proofs.DeskRest.{later_none}
use Rattle.dl_settling.specs.Went.{TellBytes}
use Rattle.dl_settling.proofs.NoRequests.{still}
use Rattle.dl_loop.proofs.NotedDaemons.{noted_none}

-- a registry with nobody there owes no Level event
pub none_owed : (held : ℕ → Slot) (level : ℕ) (stored : List StoredLevel) (all : List ℕ) → first_change held (record { level = level; stored = stored; apps = [] }) all ≡ None
none_owed held level stored [] = refl
none_owed held level stored (slot ∷ all) = none_owed held level stored all

pub made_owes_none : (level : ℕ) (stored : Stored) (first : ℕ) → owed_change (made level stored first) ≡ None
unfolding owed_change
made_owes_none level stored first = none_owed (slots (made level stored first)) (unwrap_or stored.level level) stored.own all_slots

unset_there : (first many slot : ℕ) → slice_index_or (replicate many (unset first)) slot (unset first) ≡ unset first
unset_there first zero slot = refl
unset_there first (suc many) zero = refl
unset_there first (suc many) (suc slot) = unset_there first many slot

pub each_fresh : (many place : ℕ) (listener : Listener) → slice_get (replicate many fresh_listener) place ≡ Some listener → listener ≡ fresh_listener
each_fresh zero place listener is = absurd cc
each_fresh (suc many) zero listener is = cc is
each_fresh (suc many) (suc place) listener is = each_fresh many place listener is

all_fresh : (listeners : List Listener) → listeners ≡ replicate 32 fresh_listener → (place : ℕ) (listener : Listener) → slice_get listeners place ≡ Some listener → listener ≡ fresh_listener
all_fresh listeners all place listener is = each_fresh 32 place listener (ap (λ (ls : List Listener). slice_get ls place) (sym all) ∙ is)

-- nobody is open in a hub to which nobody came
pub nobody_open : (ecu : List ℕ) (buffer limit number : ℕ) → outbox_of (fresh ecu buffer limit) number ≡ None
nobody_open ecu buffer limit number = by_test (number == 0) where
  by_test : (b : Bool) → option_and_then (λ (c : Client). c.outbox) (if b then None else None) ≡ None
  by_test true = refl
  by_test false = refl

-- a core that was just made, and a desk that was not touched
made_desk : (level : ℕ) (stored : Stored) (desk : DeskState) → IsUntouched desk → IsDeskOf (made level stored 0) (desk_told desk)
made_desk level stored desk untouched = record {
  numbered = tt;
  versions = λ slot within. ap (λ (s : Slot). s.version) (unset_there 0 1024 slot)
      ∙ sym (ap (λ first. current_version first slot desk.handles.levels.sets) untouched.first ∙ ap (λ sets. current_version 0 slot sets) untouched.sets);
}

pub made_daemon : {L : Type 0} (told : L → LinkTold) (core : Core) (desk : DeskState) (journal : Journaled) (links : Links L) (seated : Seated) (calls : ℕ)
    → IsBegun core → IsUntouched desk → journal.events ≡ [] → links ≡ record { links = []; room = 32 } → seated.listeners ≡ replicate 32 fresh_listener → calls + more_events ≤ journal.spare
    → IsDaemon told (record {
      core = core;
      desk = desk;
      journal = journal;
      links = links;
      seated = seated;
      calls = calls;
      noted = 0;
      claimed = 0;
      dropped = 0;
      failed = false;
      wanted = false;
      greeted = false;
      first_core = core;
      first_desk = desk;
    })
unfolding IsBegun
made_daemon told core desk journal links seated calls begins untouched events no_links fresh_all room =
    let conf = begins.0 in
    let stored = begins.1 in
    let trace = begins.2 in
    subst (λ (c : Core). IsDaemon told (record {
      core = c;
      desk = desk;
      journal = journal;
      links = links;
      seated = seated;
      calls = calls;
      noted = 0;
      claimed = 0;
      dropped = 0;
      failed = false;
      wanted = false;
      greeted = false;
      first_core = c;
      first_desk = desk;
    })) (sym begins.3)
    (record {
      told_by = subst (λ es. IsToldBy es (length desk.apps) desk.handles) (sym events) (record {
        admitted = λ app. sym (ap (map (told_as app)) (untouched.taken app));
        losses = λ app. sym (ap (reported_of app) untouched.reported);
        alone = λ app beyond. (refl, refl);
        first = untouched.first;
        levels = untouched.sets;
      });
      linked = subst (λ ls. AreLinked ls (begun conf stored 0 trace) journal.spare) (sym no_links)
          (record { many = refl; few = omega arith; place = omega arith; settled = made_owes_none conf.level stored 0; room = omega arith });
      heard = record {
        enough = omega (arith, ap (λ (ls : List Listener). length ls) fresh_all, length-replicate 32 fresh_listener);
        limits = λ place listener there. ap (λ (l : Listener). l.cutter.limit) (all_fresh seated.listeners fresh_all place listener there);
        counts = λ place listener there low. absurd (omega (arith, low));
        unused = λ place listener there none. all_fresh seated.listeners fresh_all place listener there;
        waiting = λ number is. (let none = nobody_open conf.ecu conf.buffer client_limit number in absurd cc);
        desk_so = made_desk conf.level stored desk untouched;
      };
      room = record { noted = sym (ap (count_by is_noted) events); claimed = sym (ap (count_by is_claim) events); few = omega arith; few_claims = omega arith; limit = refl; spare = omega (arith, room) };
      bounds = record { few = omega arith; small = λ app. omega (arith, ap (reported_of app) untouched.reported) };
      few = omega arith;
      few_claims = omega arith;
      apps = untouched.few;
      desk = later_none desk;
      running = subst IsRunning (sym events) refl;
      runs = λ run gives. subst (λ (es : List Event). HoldsIn (TellTaken told) (TellBytes told) (false ≡ true) run (map told links.links) seated.listeners es (begun conf stored 0 trace) (desk_told desk) (desk_told desk)) (sym events)
          (subst (λ (ls : Links _). HoldsIn (TellTaken told) (TellBytes told) (false ≡ true) run (map told ls.links) seated.listeners [] (begun conf stored 0 trace) (desk_told desk) (desk_told desk)) (sym no_links) (record {
            took = λ number. [];
            taken = λ tells place link there. absurd cc;
            after = gives.begins;
            noted = λ tells. noted_none run [] (λ number. []) seated.listeners (begun conf stored 0 trace) gives.begins;
            formed = tt;
            posted = λ app. record { took = sym (append-nil _); refused = still _; full = tt };
            there = λ greeted. absurd (cc greeted);
          }));
      shown = λ run gives. subst (λ (ls : Links _). AllShowWhy (TellTheEnd told) journal.events (begun conf stored 0 trace).hub (map told ls.links)) (sym no_links) (λ number link there gone at. absurd (cc at));
    })
