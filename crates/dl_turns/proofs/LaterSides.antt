-- A side is later, event by event.
use Rattle.std.proofs.Common.{◌≡◌, ◌≢◌, ℕ, Bool, true, false, cond, eqb, List, [], ◌∷◌, ◌++◌, Option, Some, None, inl, inr, refl, sym, ap, subst, ◌∙◌, append_assoc}
use Rattle.std.specs.Prelude.{IfSome}
use Rattle.std.specs.List.{AllByRecursion, filter_map}
use Rattle.std.proofs.lemmas.List.{append-nil}
use Rattle.std.proofs.lemmas.List.Elements.{filter_map-append}
use Rattle.dl_events.specs.declared.event.Event.{Event}
use Rattle.dl_events.specs.declared.event.Event.TheVariants as event
use Rattle.dl_events.specs.declared.event.Why.{Why}
use Rattle.dl_cells.specs.declared.level_history.Change.{Change}
use Rattle.dl_model.specs.declared.registry.LevelChange.{LevelChange}
use Rattle.dl_outside.specs.Told.{FolderTold}
use Rattle.dl_desk.specs.Told.{ControlTold}
use Rattle.dl_outside.specs.declared.link.Gave.{Gave}
use Rattle.dl_outside.specs.declared.link.Gave.TheVariants as gave
use Rattle.dl_hub.specs.Follows.{took_more}
use Rattle.dl_hub.specs.State.{Client, Hub, MayAsk, changed, client_of, shut, with_reply}
use Rattle.dl_core.specs.Admission.{AddsEach}
use Rattle.dl_core.specs.Follows.{Adds, HoldsTrace, IsAfter}
use Rattle.dl_core.specs.Serving.{reply_now}
use Rattle.dl_core.specs.State.{Core}
use Rattle.dl_core.proofs.Noted.{added_one}
use Rattle.dl_core.specs.Next.{ComesInTurn}
use Rattle.dl_core.proofs.Asking.{request_in_turn}
use Rattle.dl_core.proofs.Following.{both_come, one_comes}
use Rattle.dl_core.proofs.InTurn.{level_in_turn}
use Rattle.dl_turns.specs.Events.{Asks, Closes, ServesOne, SetsLevel, SetsLevels}
use Rattle.dl_turns.specs.Later.{AddsSending, IsCalm, IsDeskLater, IsLater, close_of, level_in}
use Rattle.dl_turns.specs.State.{Side}
use Rattle.dl_turns.specs.Turns.{ClosesFor, Heeds, ServesEach}
use Rattle.dl_turns.proofs.AddedEvents.{each_both, each_none}
use Rattle.dl_turns.proofs.ClientChanges.{client_other}
use Rattle.dl_turns.proofs.LeftBytes.{has_left}
use Rattle.dl_turns.proofs.PostedSides.{posted_both, posted_close, posted_level, posted_none, posted_request, posts_keep}

-- ---- what links took

took_nothing : (taken : ℕ → List ℕ) (client : ℕ) → took_more taken client [] ≡ taken
took_nothing taken client = λ i other. by (eqb other client) (taken other) i where
  by : (b : Bool) (bytes : List ℕ) → cond b (bytes ++ []) bytes ≡ bytes
  by true bytes = append-nil bytes
  by false bytes = refl

took_both : (taken : ℕ → List ℕ) (client : ℕ) (xs ys : List ℕ) → took_more (took_more taken client xs) client ys ≡ took_more taken client (xs ++ ys)
took_both taken client xs ys = λ i other. by (eqb other client) (taken other) i where
  by : (b : Bool) (bytes : List ℕ) → cond b (cond b (bytes ++ xs) bytes ++ ys) (cond b (bytes ++ xs) bytes) ≡ cond b (bytes ++ (xs ++ ys)) bytes
  by true bytes = append_assoc bytes xs ys
  by false bytes = refl

-- ---- the core and the folder

-- where the link took nothing
pub sends_none : (client : ℕ) (more : List Event) (old new : Side) → Adds more (λ run. Unit {0}) old.core new.core old.folder new.folder → AddsSending client more [] old new
sends_none client more old new adds run past taken was =
    let so = adds run past taken tt was in
    (subst (λ (t : ℕ → List ℕ). IsAfter run (past ++ more) t new.core) (sym (took_nothing taken client)) so.0, so.1)

pub sends_both : (client : ℕ) (first second : List Event) (sent others : List ℕ) (old between new : Side) → AddsSending client first sent old between → AddsSending client second others between new
    → AddsSending client (first ++ second) (sent ++ others) old new
sends_both client first second sent others old between new one two run past taken was =
    let here = one run past taken was in
    let there = two run (past ++ first) (took_more taken client sent) here.0 in
    let same = append_assoc past first second in (
      subst (λ (t : ℕ → List ℕ). IsAfter run (past ++ (first ++ second)) t new.core) (took_both taken client sent others)
          (subst (λ (es : List Event). IsAfter run es (took_more (took_more taken client sent) client others) new.core) same there.0),
      λ held. subst (λ (es : List Event). HoldsTrace run es new.core new.folder) same (there.1 (here.1 held)),
    )

-- ---- later and later

-- the client's alone
pub calm_both : (client : ℕ) (first second : List Event) → AllByRecursion (IsCalm client) first → AllByRecursion (IsCalm client) second → AllByRecursion (IsCalm client) (first ++ second)
calm_both client [] second one two = two
calm_both client (e ∷ first) second one two = (one.0, calm_both client first second one.1 two)

pub desk_both : (some others : List Event) (a b c : ControlTold) → IsDeskLater some a b → IsDeskLater others b c → IsDeskLater (some ++ others) a c
desk_both some others a b c one two = record {
  sets = two.sets ∙ ap (λ (cs : List Change). cs ++ filter_map level_in others) one.sets ∙ append_assoc a.sets (filter_map level_in some) (filter_map level_in others)
      ∙ ap (λ (cs : List Change). a.sets ++ cs) (sym (filter_map-append level_in some others));
  apps = two.apps ∙ one.apps;
  first = two.first ∙ one.first;
}

-- where nothing happened
unfoldable pub later_same : (client : ℕ) (old new : Side) → new ≡ old → IsLater client None [] old new
later_same client old new same =
    let back : old ≡ new = sym same in
    record {
      more = [];
      events = subst (λ (s : Side). AddsEach old.events s.events []) back (each_none old.events);
      calm = [];
      all_calm = tt;
      ends = refl;
      formed = λ run past taken was. tt;
      after = sends_none client [] old new (λ run past taken gives was.
          let none : past ≡ past ++ [] = sym (append-nil past) in (
            subst (λ (s : Side). IsAfter run (past ++ []) taken s.core) back (subst (λ (es : List Event). IsAfter run es taken old.core) none was),
            λ held. subst (λ (s : Side). HoldsTrace run (past ++ []) s.core s.folder) back (subst (λ (es : List Event). HoldsTrace run es old.core old.folder) none held),
          ));
      desk = record {
        sets = ap (λ (s : Side). s.desk.sets) same ∙ sym (append-nil old.desk.sets);
        apps = ap (λ (s : Side). s.desk.apps) same;
        first = ap (λ (s : Side). s.desk.first) same;
      };
      posts = λ run past taken was app. posted_none run.setting past app old.desk new.desk (ap (λ (s : Side). s.desk.pushed app) same) (ap (λ (s : Side). s.desk.refusals app) same);
      leaves = tt;
      others = λ other apart. ap (λ (s : Side). client_of s.core.hub other) same;
    }

unfoldable pub later_both : (client : ℕ) (why : Option Why) (sent others : List ℕ) (old between new : Side) → IsLater client None sent old between → IsLater client why others between new
    → IsLater client why (sent ++ others) old new
later_both client why sent others old between new one two =
    let first : one.more ≡ one.calm = one.ends ∙ append-nil one.calm in
    record {
      more = one.more ++ two.more;
      events = each_both old.events between.events new.events one.more two.more one.events two.events;
      calm = one.more ++ two.calm;
      all_calm = calm_both client one.more two.calm (subst (λ (es : List Event). AllByRecursion (IsCalm client) es) (sym first) one.all_calm) two.all_calm;
      ends = ap (λ (es : List Event). one.more ++ es) two.ends ∙ sym (append_assoc one.more two.calm (close_of client why));
      formed = both_come old.core between.core one.more two.more (λ run past taken was. (took_more taken client sent, (one.after run past taken was).0)) one.formed two.formed;
      after = sends_both client one.more two.more sent others old between new one.after two.after;
      desk = desk_both one.more two.more old.desk between.desk new.desk one.desk two.desk;
      posts = λ run past taken was app.
          posted_both run.setting past one.more two.more app old.desk between.desk new.desk (one.posts run past taken was app)
          (two.posts run (past ++ one.more) (took_more taken client sent) (one.after run past taken was).0 app);
      leaves = two.leaves;
      others = λ other apart. two.others other apart ∙ one.others other apart;
    }

-- ---- one event

pub others_by : (old new : Hub) (client : ℕ) (f : Client → Client) → new ≡ changed client f old → (other : ℕ) → other ≢ client → client_of new other ≡ client_of old other
others_by old new client f is other apart = ap (λ (h : Hub). client_of h other) is ∙ client_other old client other f apart

unfoldable pub later_asks : (client : ℕ) (frame : List ℕ) (old new : Side) → Asks client frame old new → IsLater client None [] old new
later_asks client frame old new asks =
    let serves = asks.serves in
    let ready = asks.ready in
    let kept = posts_keep ready.want asks.pushed old.desk new.desk asks.posts in
    record {
      more = event.Request ready.client ready.frame serves.answer ∷ [];
      events = added_one old.events new.events (event.Request ready.client ready.frame serves.answer) (event.Request ready.client ready.frame serves.answer) refl serves.notes;
      calm = event.Request ready.client ready.frame serves.answer ∷ [];
      all_calm = (asks.of_client, tt);
      ends = refl;
      formed = one_comes old.core (event.Request ready.client ready.frame serves.answer) (request_in_turn old.core ready.client ready.frame serves.answer [] (record {
        few = subst (λ (n : ℕ). MayAsk old.core.hub n) (sym asks.of_client) asks.few;
        settled = asks.settled;
        want = ready.want;
        wanted = asks.is_ready.want;
        pushed = asks.pushed;
        folder = old.folder;
        folder_now = new.folder;
        acts = serves.acts;
      }));
      after = sends_none client (event.Request ready.client ready.frame serves.answer ∷ []) old new serves.after;
      desk = record { sets = kept.0 ∙ sym (append-nil old.desk.sets); apps = kept.1; first = kept.2 };
      posts = λ run past taken was app.
          posted_request run past taken old.core was ready.client ready.frame ready.want asks.pushed serves.answer _ _ old.desk new.desk asks.is_ready.want serves.acts asks.posts app;
      leaves = tt;
      others = λ other apart. others_by old.core.hub new.core.hub ready.client (with_reply (reply_now old.core ready.frame serves.answer)) serves.reply other (λ e. apart (e ∙ asks.of_client));
    }

unfoldable pub later_sets : (client : ℕ) (next : LevelChange) (old new : Side) → SetsLevel next old new → IsLater client None [] old new
later_sets client next old new sets = record {
  more = event.Level next.slot next.level ∷ [];
  events = sets.events;
  calm = event.Level next.slot next.level ∷ [];
  all_calm = (tt, tt);
  ends = refl;
  formed = one_comes old.core (event.Level next.slot next.level) (level_in_turn old.core next [] sets.owed);
  after = sends_none client (event.Level next.slot next.level ∷ []) old new
      (subst (λ (f : FolderTold). Adds (event.Level next.slot next.level ∷ []) (λ run. Unit {0}) old.core new.core old.folder f) (sym sets.folder) (sets.after old.folder));
  desk = record { sets = ap (λ (d : ControlTold). d.sets) sets.desk; apps = ap (λ (d : ControlTold). d.apps) sets.desk; first = ap (λ (d : ControlTold). d.first) sets.desk };
  posts = λ run past taken was app.
      posted_level run.setting past app old.desk new.desk (ap (λ (d : ControlTold). d.pushed app) sets.desk) (ap (λ (d : ControlTold). d.refusals app) sets.desk) next.slot next.level;
  leaves = tt;
  others = λ other apart. ap (λ (c : Core). client_of c.hub other) sets.core;
}

unfoldable pub later_closes : (client : ℕ) (why : Why) (old new : Side) → ComesInTurn (event.Close client why) [] old.core → Closes client why old new
    → IsLater client (Some why) [] old new
later_closes client why old new comes closes = record {
  more = event.Close client why ∷ [];
  events = closes.events;
  calm = [];
  all_calm = tt;
  ends = refl;
  formed = one_comes old.core (event.Close client why) comes;
  after = sends_none client (event.Close client why ∷ []) old new
      (subst (λ (f : FolderTold). Adds (event.Close client why ∷ []) (λ run. Unit {0}) old.core new.core old.folder f) (sym closes.folder) (closes.after old.folder));
  desk = record {
    sets = ap (λ (d : ControlTold). d.sets) closes.desk ∙ sym (append-nil old.desk.sets);
    apps = ap (λ (d : ControlTold). d.apps) closes.desk;
    first = ap (λ (d : ControlTold). d.first) closes.desk;
  };
  posts = λ run past taken was app.
      posted_close run.setting past app old.desk new.desk (ap (λ (d : ControlTold). d.pushed app) closes.desk) (ap (λ (d : ControlTold). d.refusals app) closes.desk) client why;
  leaves = has_left client why old new closes;
  others = λ other apart. others_by old.core.hub new.core.hub client shut (ap (λ (c : Core). c.hub) closes.core) other apart;
}

-- ---- many

unfoldable pub later_levels : (client : ℕ) (changes : List LevelChange) (old new : Side) → SetsLevels changes old new → IsLater client None [] old new
later_levels client [] old new all = later_same client old new all.0
later_levels client (next ∷ others) old new all = later_both client None [] [] old all.0 new (later_sets client next old all.0 all.1) (later_levels client others all.0 new all.2)

unfoldable pub later_one : (client : ℕ) (frame : List ℕ) (old new : Side) → ServesOne client frame old new → IsLater client None [] old new
later_one client frame old new one = later_both client None [] [] old one.0 new (later_asks client frame old one.0 one.1) (later_levels client one.2.0 one.0 new one.2.1)

unfoldable pub later_each : (client : ℕ) (frames : List (List ℕ)) (bad : Bool) (why : Option Why) (old new : Side) → ServesEach client frames bad why old new → IsLater client None [] old new
later_each client [] bad why old new all = later_same client old new all.1
later_each client (frame ∷ frames) bad why old new (inl refused) = later_same client old new refused.1
later_each client (frame ∷ frames) bad why old new (inr served) =
    later_both client None [] [] old served.0 new (later_one client frame old served.0 served.1) (later_each client frames bad why served.0 new served.2)

unfoldable pub later_heeds : (client : ℕ) (unread : List ℕ) (answer : Gave) (into : List ℕ) (why : Option Why) (old new : Side) → Heeds client unread answer into why old new → IsLater client None [] old new
later_heeds client unread (gave.Bytes count) into why old new heeds = later_each client _ _ why old new heeds
later_heeds client unread gave.NotYet into why old new heeds = later_same client old new heeds.1
later_heeds client unread gave.End into why old new heeds = later_same client old new heeds.1
later_heeds client unread gave.Failed into why old new heeds = later_same client old new heeds.1

-- the client is closed, where there is a cause
unfoldable pub later_closed : (client : ℕ) (why : Option Why) (old new : Side) → IfSome why (λ cause. ComesInTurn (event.Close client cause) [] old.core) → ClosesFor client why old new
    → IsLater client why [] old new
later_closed client None old new comes same = later_same client old new same
later_closed client (Some why) old new comes closes = later_closes client why old new comes closes

pub closed_calm : (client : ℕ) (why : Option Why) (old new : Side) (comes : IfSome why (λ cause. ComesInTurn (event.Close client cause) [] old.core)) (closes : ClosesFor client why old new)
    → (later_closed client why old new comes closes).calm ≡ []
unfolding later_closed later_same later_closes
closed_calm client None old new comes same = refl
closed_calm client (Some why) old new comes closes = refl
