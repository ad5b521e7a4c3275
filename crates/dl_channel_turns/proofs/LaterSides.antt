-- Sides that are later, one after the other.
use Rattle.std.proofs.Common.{◌≡◌, ℕ, Bool, true, false, List, [], ◌∷◌, ◌++◌, Option, None, refl, sym, ap, subst, ◌∙◌, append_assoc}
use Rattle.std.proofs.lemmas.List.{append-nil}
use Rattle.dl_bytes.specs.declared.moment.Moment.{Moment}
use Rattle.dl_bytes.specs.declared.user.UserMsg.{UserMsg}
use Rattle.dl_events.specs.declared.event.Event.{Event}
use Rattle.dl_events.specs.declared.event.Event.TheVariants as event
use Rattle.dl_outside.specs.Told.{FolderTold}
use Rattle.dl_outside.specs.declared.link.Gave.{Gave}
use Rattle.dl_outside.specs.declared.link.Gave.TheVariants as gave
use Rattle.dl_user.specs.Channel as cutter
use Rattle.dl_model.specs.Journal.{IsWellFormed}
use Rattle.dl_model.specs.declared.registry.LevelChange.{LevelChange}
use Rattle.dl_model.proofs.LongerJournals.{goes_on}
use Rattle.dl_registry.specs.Kept.{owed_change}
use Rattle.dl_channel.specs.declared.outcome.ChannelEnd.{ChannelEnd}
use Rattle.dl_core.specs.Admission.{has_frames}
use Rattle.dl_core.specs.Follows.{Adds, source_of}
use Rattle.dl_core.specs.State.{Core}
use Rattle.dl_core.proofs.InTurn.{level_in_turn, user_in_turn}
use Rattle.dl_admission.specs.Admission.{ForwardsAll}
use Rattle.dl_admission.proofs.Added.{adds_both, adds_each_both, adds_each_none, adds_none}
use Rattle.dl_admission.proofs.Admitted.{running_both}
use Rattle.dl_channel_turns.specs.Later.{IsLater}
use Rattle.dl_channel_turns.specs.Levels.{TellsLevel, TellsLevels}
use Rattle.dl_channel_turns.specs.Messages.{Alone, Group, Notes, Serves, ServesGroup, Together}
use Rattle.dl_channel_turns.specs.State.{Side, Stage, part_of}
use Rattle.dl_channel_turns.specs.Turns.{Heeds, IsTurn, ServesEach}

pub later_none : (side : Side) → IsLater side side
later_none side = record {
  more = [];
  events = adds_each_none side.events;
  running = refl;
  after = adds_none side.core side.folder;
  formed = λ run past taken is running well. subst (IsWellFormed run.setting (source_of run)) (sym (append-nil past)) well;
}

same_later : (old new : Side) → new ≡ old → IsLater old new
same_later old new same = subst (IsLater old) (sym same) (later_none old)

pub later_both : (old between new : Side) → IsLater old between → IsLater between new → IsLater old new
later_both old between new first second = record {
  more = first.more ++ second.more;
  events = adds_each_both old.events between.events new.events first.more second.more first.events second.events;
  running = running_both first.more second.more first.running second.running;
  after = λ run past taken gives is.
      adds_both first.more second.more (λ run. Unit {0}) (λ run. Unit {0}) old.core between.core new.core old.folder between.folder new.folder first.after second.after run past taken (tt, tt) is;
  formed = λ run past taken is running well.
      subst (IsWellFormed run.setting (source_of run)) (append_assoc past first.more second.more)
      (second.formed run (past ++ first.more) taken (first.after run past taken tt is).0 (running_both past first.more running first.running) (first.formed run past taken is running well));
}

-- ---- levels

pub level_later : (next : LevelChange) (old new : Side) → TellsLevel next old new → IsLater old new
level_later next old new one =
    let level : Event = event.Level next.slot next.level in
    record {
      more = level ∷ [];
      events = one.events;
      running = refl;
      after = subst (λ (f : FolderTold). Adds (level ∷ []) (λ run. Unit {0}) old.core new.core old.folder f) (sym one.folder) (one.after old.folder);
      formed = λ run past taken is running well. goes_on run.setting (source_of run) past (level ∷ []) well (level_in_turn old.core next [] one.owed run past taken is, tt);
    }

levels_later : (changes : List LevelChange) (old new : Side) → TellsLevels changes old new → IsLater old new
levels_later [] old new levels = same_later old new levels.0
levels_later (next ∷ others) old new levels = later_both old levels.0 new (level_later next old levels.0 levels.1) (levels_later others levels.0 new levels.2)

levels_settled : (changes : List LevelChange) (old new : Side) → TellsLevels changes old new → owed_change new.core.registry ≡ None
levels_settled [] old new levels = ap (λ (s : Side). owed_change s.core.registry) levels.0 ∙ levels.1
levels_settled (next ∷ others) old new levels = levels_settled others levels.0 new levels.2

-- ---- messages

module _ (channel : ℕ) (moment : Moment) where
  notes_later : (msg : UserMsg) (old new : Side) → Notes channel moment msg old new → owed_change old.core.registry ≡ None → IsLater old new
  notes_later msg old new notes settled =
      let user : Event = event.User channel msg moment in
      record {
        more = user ∷ [];
        events = notes.notes.event;
        running = refl;
        after = notes.notes.after;
        formed = λ run past taken is running well. goes_on run.setting (source_of run) past (user ∷ []) well (user_in_turn old.core channel msg moment [] settled run past taken is running, tt);
      }

  forwards_later : (msgs : List UserMsg) (old new : Side) → ForwardsAll moment channel msgs (part_of old) (part_of new) → IsLater old new
  forwards_later msgs old new forwards = record {
    more = forwards.more;
    events = forwards.events;
    running = forwards.running;
    after = forwards.after;
    formed = λ run past taken is running well. forwards.formed run past taken tt is running well;
  }

  one_later : (msg : UserMsg) (b : Bool) (old new : Side) → Serves b channel moment msg old new → owed_change old.core.registry ≡ None → IsLater old new
  one_later msg true old new serves settled =
      let forwards = serves.0 in
      record {
        more = forwards.more;
        events = forwards.events;
        running = forwards.running;
        after = forwards.after;
        formed = λ run past taken is running well. forwards.formed run past taken tt is running well;
      }
  one_later msg false old new serves settled = later_both old serves.0 new (notes_later msg old serves.0 serves.1 settled) (levels_later serves.2.0 serves.0 new serves.2.1)

  one_settled : (msg : UserMsg) (b : Bool) (old new : Side) → Serves b channel moment msg old new → owed_change old.core.registry ≡ None → owed_change new.core.registry ≡ None
  one_settled msg true old new serves settled = ap (λ (k : Core). owed_change k.registry) serves.0.rest ∙ settled
  one_settled msg false old new serves settled = levels_settled serves.2.0 serves.0 new serves.2.1

  group_later : (group : Group) (old new : Side) → ServesGroup channel moment group old new → owed_change old.core.registry ≡ None → IsLater old new
  group_later (Together msgs) old new serves settled = forwards_later msgs old new serves.1
  group_later (Alone msg) old new serves settled = one_later msg (has_frames msg) old new serves settled

  group_settled : (group : Group) (old new : Side) → ServesGroup channel moment group old new → owed_change old.core.registry ≡ None → owed_change new.core.registry ≡ None
  group_settled (Together msgs) old new serves settled = ap (λ (k : Core). owed_change k.registry) serves.1.rest ∙ settled
  group_settled (Alone msg) old new serves settled = one_settled msg (has_frames msg) old new serves settled

  each_later : (groups : List Group) (old new : Side) → ServesEach channel moment groups old new → owed_change old.core.registry ≡ None → IsLater old new
  each_later [] old new serves settled = same_later old new serves
  each_later (group ∷ groups) old new serves settled =
      later_both old serves.0 new (group_later group old serves.0 serves.1 settled) (each_later groups serves.0 new serves.2 (group_settled group old serves.0 serves.1 settled))

  heeds_later : (answer : Gave) (into : List ℕ) (end : Option ChannelEnd) (inbox inbox_now : cutter.Channel) (old new : Side) → Heeds channel moment answer into end inbox inbox_now old new
      → owed_change old.core.registry ≡ None → IsLater old new
  heeds_later (gave.Bytes count) into end inbox inbox_now old new heeds settled = each_later heeds.groups old new heeds.serves settled
  heeds_later gave.NotYet into end inbox inbox_now old new heeds settled = same_later old new heeds.2
  heeds_later gave.End into end inbox inbox_now old new heeds settled = same_later old new heeds.2
  heeds_later gave.Failed into end inbox inbox_now old new heeds settled = same_later old new heeds.2

  pub turn_later : (end : Option ChannelEnd) (old new : Stage) → IsTurn channel moment end old new → owed_change old.side.core.registry ≡ None → IsLater old.side new.side
  turn_later end old new turn settled = heeds_later turn.answer turn.into end old.inbox new.inbox old.side new.side turn.heeds settled
