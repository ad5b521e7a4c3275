-- What the daemon's own applications tell, told by its events.
use Rattle.std.proofs.Common.{◌≡◌, ℕ, List, [], ◌∷◌, ◌++◌, refl, sym, ap, subst, ◌∙◌, append_assoc}
use Rattle.std.specs.List.{AllByRecursion, filter_map}
use Rattle.std.proofs.lemmas.List.{append-nil}
use Rattle.std.proofs.lemmas.List.Elements.{filter_map-append}
use Rattle.dl_bytes.specs.declared.moment.Moment.{Moment}
use Rattle.dl_bytes.specs.declared.user.UserMsg.{UserMsg}
use Rattle.dl_events.specs.declared.event.Event.{Event}
use Rattle.dl_events.specs.declared.event.Event.TheVariants as event
use Rattle.dl_model.specs.declared.registry.LevelChange.{LevelChange}
use Rattle.dl_outside.specs.Told.{FolderTold}
use Rattle.dl_desk.specs.Told.{ControlTold}
use Rattle.dl_core.specs.Follows.{Adds, HoldsTrace, IsAfter}
use Rattle.dl_core.specs.State.{Core}
use Rattle.dl_turns.specs.Events.{SetsLevel, SetsLevels}
use Rattle.dl_turns.specs.Later.{IsDeskLater}
use Rattle.dl_turns.specs.State.{Side}
use Rattle.dl_turns.proofs.AddedEvents.{each_both, each_none}
use Rattle.dl_turns.proofs.LaterSides.{desk_both}
use Rattle.dl_rounds.specs.Greetings.{AreGreeted, Greets, GreetsEach, IsOfGreeting, told_in}

both_adds : (first second : List Event) (old between new : Core) (folder folder_between folder_now : FolderTold) → Adds first (λ run. Unit {0}) old between folder folder_between
    → Adds second (λ run. Unit {0}) between new folder_between folder_now → Adds (first ++ second) (λ run. Unit {0}) old new folder folder_now
both_adds first second old between new folder folder_between folder_now one two run events taken gives after =
    let a = one run events taken tt after in
    let b = two run (events ++ first) taken tt a.0 in
    let same = append_assoc events first second in
    (subst (λ (es : List Event). IsAfter run es taken new) same b.0, λ held. subst (λ (es : List Event). HoldsTrace run es new folder_now) same (b.1 (a.1 held)))

pub both_of_greeting : (first second : List Event) → AllByRecursion IsOfGreeting first → AllByRecursion IsOfGreeting second → AllByRecursion IsOfGreeting (first ++ second)
both_of_greeting [] second one two = two
both_of_greeting (e ∷ first) second one two = (one.0, both_of_greeting first second one.1 two)

greeted_none : (side : Side) → AreGreeted [] side side
greeted_none side = record {
  more = [];
  events = each_none side.events;
  of_greeting = tt;
  told = refl;
  after = λ run events taken gives after.
      let same : events ≡ events ++ [] = sym (append-nil events) in
      (subst (λ (es : List Event). IsAfter run es taken side.core) same after, λ held. subst (λ (es : List Event). HoldsTrace run es side.core side.folder) same held);
  desk = record { sets = sym (append-nil side.desk.sets); apps = refl; first = refl };
}

greeted_both : (some others : List UserMsg) (a b c : Side) → AreGreeted some a b → AreGreeted others b c → AreGreeted (some ++ others) a c
greeted_both some others a b c one two = record {
  more = one.more ++ two.more;
  events = each_both a.events b.events c.events one.more two.more one.events two.events;
  of_greeting = both_of_greeting one.more two.more one.of_greeting two.of_greeting;
  told = filter_map-append told_in one.more two.more ∙ ap (λ (ms : List UserMsg). ms ++ filter_map told_in two.more) one.told ∙ ap (λ (ms : List UserMsg). some ++ ms) two.told;
  after = both_adds one.more two.more a.core b.core c.core a.folder b.folder c.folder one.after two.after;
  desk = desk_both one.more two.more a.desk b.desk c.desk one.desk two.desk;
}

greeted_level : (next : LevelChange) (old new : Side) → SetsLevel next old new → AreGreeted [] old new
greeted_level next old new sets = record {
  more = event.Level next.slot next.level ∷ [];
  events = sets.events;
  of_greeting = (tt, tt);
  told = refl;
  after = subst (λ (f : FolderTold). Adds (event.Level next.slot next.level ∷ []) (λ run. Unit {0}) old.core new.core old.folder f) (sym sets.folder) (sets.after old.folder);
  desk = record { sets = ap (λ (d : ControlTold). d.sets) sets.desk; apps = ap (λ (d : ControlTold). d.apps) sets.desk; first = ap (λ (d : ControlTold). d.first) sets.desk };
}

greeted_levels : (changes : List LevelChange) (old new : Side) → SetsLevels changes old new → AreGreeted [] old new
greeted_levels [] old new all = subst (λ (s : Side). AreGreeted [] old s) (sym all.0) (greeted_none old)
greeted_levels (next ∷ others) old new all = greeted_both [] [] old all.0 new (greeted_level next old all.0 all.1) (greeted_levels others all.0 new all.2)

greeted_one : (moment : Moment) (msg : UserMsg) (old new : Side) → Greets moment msg old new → AreGreeted (msg ∷ []) old new
greeted_one moment msg old new greets =
    greeted_both (msg ∷ []) [] old greets.between new (record {
      more = event.User 0 msg moment ∷ [];
      events = greets.notes.event;
      of_greeting = (refl, tt);
      told = refl;
      after = greets.notes.after;
      desk = record {
        sets = ap (λ (d : ControlTold). d.sets) greets.desk ∙ sym (append-nil old.desk.sets);
        apps = ap (λ (d : ControlTold). d.apps) greets.desk;
        first = ap (λ (d : ControlTold). d.first) greets.desk;
      };
    }) (greeted_levels greets.levels.0 greets.between new greets.levels.1)

pub greeted_each : (moment : Moment) (msgs : List UserMsg) (old new : Side) → GreetsEach moment msgs old new → AreGreeted msgs old new
greeted_each moment [] old new same = subst (λ (s : Side). AreGreeted [] old s) (sym same) (greeted_none old)
greeted_each moment (msg ∷ msgs) old new all = greeted_both (msg ∷ []) msgs old all.0 new (greeted_one moment msg old all.0 all.1) (greeted_each moment msgs all.0 new all.2)
