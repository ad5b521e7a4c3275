-- An event behind the Level events that wait, and those that it owes behind it; clients that come and go by such calls.
use Rattle.std.proofs.Common.{◌≡◌, ◌⊎◌, inl, inr, ℕ, ◌+◌, ◌<◌, ◌≤◌, Bool, true, false, cond, List, [], ◌∷◌, ◌++◌, length, map, None, refl, sym, ap, subst, ◌∙◌, arith}
use Rattle.std.specs.Prelude.{IsSome, IsTrue, is_some, count_by, nat_lt, ◌&&◌}
use Rattle.std.proofs.lemmas.Bool.Decides.{nat_tests}
use Rattle.std.proofs.lemmas.List.{append-nil, take_all}
use Rattle.std.proofs.lemmas.List.Elements.{filter_map-append}
use Rattle.dl_bytes.specs.declared.outcome.Done.{Done}
use Rattle.dl_events.specs.declared.event.Event.{Event}
use Rattle.dl_events.specs.declared.event.Event.TheVariants as event
use Rattle.dl_events.specs.declared.event.Why.{Why}
use Rattle.dl_outside.specs.Told.{FolderTold}
use Rattle.dl_model.specs.declared.registry.LevelChange.{LevelChange}
use Rattle.dl_model.specs.Setting.{Setting}
use Rattle.dl_model.specs.Journal.{is_connect, is_close}
use Rattle.dl_script_model.specs.Marks.{Mark, Noted, event_of, journal, is_later}
use Rattle.dl_script_model.specs.Steps.{Act, changes, level_noted, note_levels, note_levels_now, note, close, connect}
use Rattle.dl_model.proofs.Lists.{count_by-append}
use Rattle.dl_hub.specs.State.{Hub, outbox_of, is_open}
use Rattle.dl_core.specs.Follows.{Run, source_of}
use Rattle.dl_world.specs.Follows.{IsRunOf, IsAfter, Doing, MayConnect, answers_in, noting, open_among}
use Rattle.dl_world.specs.State.{taken_by}
use Rattle.dl_world.specs.declared.world.World.{World}
use Rattle.dl_world.proofs.Deeds.{does_as, does_none}
use Rattle.dl_world.proofs.Delivering.{shut_where}
use Rattle.dl_world.proofs.Telling.{does_note}
use Rattle.dl_world.proofs.Doings.{ComesTo, doing_by}
use Rattle.dl_world.proofs.Going.{open_by_hub, known_by_hub}
use Rattle.dl_world.proofs.Noting.{came_by_events}
use Rattle.dl_world.proofs.StoredFiles.{asked_by, asked_in}
use Rattle.dl_lemmas.proofs.Bools.{and_false, both_true}

-- ---- an event in its turn

pub doing_note : (make : List Mark → Event) (old one two new : World) → Doing note_levels old one → Doing (noting make) one two → Doing note_levels_now two new → Doing (λ setting. note setting make) old new
doing_note make old one two new before noted behind told = does_note make old one two new told told before (noted told) behind

-- no request is among them
levels_unasked : (cs : List LevelChange) → asked_in (map level_noted cs) ≡ []
levels_unasked [] = refl
levels_unasked (c ∷ cs) = levels_unasked cs

now_unasked : (setting : Setting) (done : List Mark) → asked_in (note_levels_now setting done) ≡ []
now_unasked setting done = by (is_later done) where
  by : (b : Bool) → asked_in (cond b [] (note_levels setting done)) ≡ []
  by true = refl
  by false = levels_unasked (changes setting (journal done))

nothing_asked : (xs ys : List Mark) → asked_in xs ≡ [] → asked_in ys ≡ [] → asked_in (xs ++ ys) ≡ []
nothing_asked xs ys none nothing = filter_map-append asked_by xs ys ∙ ap (λ (more : List Done). more ++ asked_in ys) none ∙ nothing

note_unasked : (setting : Setting) (make : List Mark → Event) (done : List Mark) → ((now : List Mark) → asked_in (Noted (make now) ∷ []) ≡ []) → asked_in (note setting make done) ≡ []
note_unasked setting make done none =
    let waiting = note_levels setting done in
    let mark = Noted (make (done ++ waiting)) ∷ [] in
    let behind = note_levels_now setting ((done ++ waiting) ++ mark) in
    nothing_asked waiting (mark ++ (behind ++ [])) (levels_unasked (changes setting (journal done)))
    (nothing_asked mark (behind ++ []) (none (done ++ waiting)) (nothing_asked behind [] (now_unasked setting ((done ++ waiting) ++ mark)) refl))

-- what a call that is an act comes to after these marks
pub comes_of : (act : Setting → Act) (old new : World) → Doing act old new → (run : Run) (done : List Mark) → IsAfter run done old → IsRunOf run (done ++ act run.setting done) → asked_in (act run.setting done) ≡ []
    → ComesTo run done (act run.setting done) old new
comes_of act old new doing run done after is_run none =
    let goes = λ (told : FolderTold). (doing told).goes run done (answers_in done ++ (doing told).answered) ([], sym (append-nil (answers_in done ++ (doing told).answered))) after is_run in
    record {
      after = (goes (record { files = None; faults = 0; changes = 0; appends = 0 })).after;
      holds = λ told held. (goes told).holds held;
      stands = λ told first kept. (goes told).stands first kept;
      unasked = none;
    }

-- ---- a client goes

pub close_shut : (world : World) (client : ℕ) (cause : Why) (b : Bool) → b ≡ false → ((1 ≤ client) × (client ≤ length world.clients) × IsSome (outbox_of world.core.hub client) → IsTrue b)
    → Doing (λ setting. close setting client cause) world world
close_shut world client cause b shut tells told = does_none (λ setting answers. close setting client cause) world told
    (λ run done answers after. ap (λ (c : Bool). cond c (note run.setting (λ _. event.Close client cause) done) []) (open_by_hub run done world client after ∙ not_there run done after)) where
      no_outbox : (c : Bool) → (c ≡ true → ⊥) → c ≡ false
      no_outbox true none = absurd (none refl)
      no_outbox false none = refl

      not_there : (run : Run) (done : List Mark) → IsAfter run done world → is_some (outbox_of world.core.hub client) ≡ false
      not_there run done after =
          no_outbox (is_some (outbox_of world.core.hub client))
          (λ there. shut_where b ((1 ≤ client) × (client ≤ length world.clients) × IsSome (outbox_of world.core.hub client)) (IsSome (outbox_of world.core.hub client)) shut tells
          (λ at. (let known = known_by_hub run done world client after at in (known.0, known.1, at))) there)

pub close_opened : (old new : World) (client : ℕ) (cause : Why) → IsSome (outbox_of old.core.hub client) → Doing (λ setting. note setting (λ _. event.Close client cause)) old new
    → Doing (λ setting. close setting client cause) old new
close_opened old new client cause there doing told =
    does_as (λ setting answers. note setting (λ _. event.Close client cause)) (λ setting answers. close setting client cause) old new told told
    (λ run done answers after. ap (λ (c : Bool). cond c (note run.setting (λ _. event.Close client cause) done) []) (open_by_hub run done old client after ∙ there)) (doing told)

-- ---- a client comes

-- what the marks say of who came and who is open
record IsComing (done : List Mark) (world : World) : Type 0 where
  came_is : count_by is_connect (journal done) ≡ length world.clients
  hub_is : length world.core.hub.clients ≡ length world.clients
  open_is : count_by is_close (journal done) + open_among world ≡ length world.clients
  all_is : open_among world ≡ count_by is_open world.core.hub.clients

coming : (run : Run) (done : List Mark) (world : World) → IsAfter run done world → IsComing done world
coming run done world after =
    let came = came_by_events (source_of run) (journal done) (taken_by world.clients) world.core.hub after.so_far.core_so.hub in
    let all : open_among world ≡ count_by is_open world.core.hub.clients = ap (count_by is_open) (take_all (length world.clients) world.core.hub.clients (omega (arith, after.so_far.came_so))) in
    record {
      came_is = omega (arith, came, after.so_far.came_so);
      hub_is = sym after.so_far.came_so;
      open_is = omega (arith, all, after.so_far.gone_so, after.so_far.came_so);
      all_is = all;
    }

none_and : (a b : Bool) → a ≡ false → (a && b) ≡ false
none_and a b e = ap (λ (x : Bool). x && b) e

not_below : (a b : ℕ) → b ≤ a → nat_lt a b ≡ false
not_below a b le = grind (arith, nat_tests, le)

is_below : (a b : ℕ) → a < b → nat_lt a b ≡ true
is_below a b lt = grind (arith, nat_tests, lt)

pub connect_refused : (world : World) → (length world.clients ≡ 32) ⊎ (8 ≤ open_among world) → Doing connect world world
connect_refused world full told = does_none (λ setting answers. connect setting) world told
    (λ run done answers after.
    let came = count_by is_connect (journal done) in
    ap (λ (c : Bool). cond c (note run.setting (λ _. event.Connect (came + 1)) done) []) (not_so run.setting.clients after.so_far.limit_so done (coming run done world after) full)) where
      not_so : (limit : ℕ) → limit ≡ 32 → (done : List Mark) → IsComing done world → (length world.clients ≡ 32) ⊎ (8 ≤ open_among world)
          → (nat_lt (count_by is_connect (journal done)) limit && nat_lt (count_by is_connect (journal done)) (count_by is_close (journal done) + 8)) ≡ false
      not_so limit limit_is done at (inl all) =
          none_and (nat_lt (count_by is_connect (journal done)) limit) (nat_lt (count_by is_connect (journal done)) (count_by is_close (journal done) + 8))
          (not_below (count_by is_connect (journal done)) limit (omega (arith, at.came_is, all, limit_is)))
      not_so limit limit_is done at (inr many) =
          and_false (nat_lt (count_by is_connect (journal done)) limit) (nat_lt (count_by is_connect (journal done)) (count_by is_close (journal done) + 8))
          (not_below (count_by is_connect (journal done)) (count_by is_close (journal done) + 8) (omega (arith, at.came_is, at.open_is, many)))

-- Level events are nobody's coming
levels_come : (done : List Mark) (cs : List LevelChange) → count_by is_connect (journal (done ++ map level_noted cs)) ≡ count_by is_connect (journal done)
levels_come done cs =
    ap (count_by is_connect) (filter_map-append event_of done (map level_noted cs)) ∙ count_by-append is_connect (journal done) (journal (map level_noted cs)) ∙ (let none = nobody cs in omega (arith, none)) where
      nobody : (cs : List LevelChange) → count_by is_connect (journal (map level_noted cs)) ≡ 0
      nobody [] = refl
      nobody (c ∷ cs) = omega (arith, count_by-append is_connect (event.Level c.slot c.level ∷ []) (journal (map level_noted cs)), nobody cs)

abbrev next_number : List Mark → Event
next_number now = event.Connect (1 + count_by is_connect (journal now))

-- the event has the same number, whether the Level events before it are counted or not
numbered_alike : (setting : Setting) (done : List Mark) → note setting next_number done ≡ note setting (λ _. event.Connect (count_by is_connect (journal done) + 1)) done
numbered_alike setting done =
    let waiting = note_levels setting done in
    let same : 1 + count_by is_connect (journal (done ++ waiting)) ≡ count_by is_connect (journal done) + 1 = omega (arith, levels_come done (changes setting (journal done))) in
    ap (λ (n : ℕ). waiting ++ (Noted (event.Connect n) ∷ [] ++ (note_levels_now setting ((done ++ waiting) ++ Noted (event.Connect n) ∷ []) ++ []))) same

pub connect_accepted : (old one two new : World) → length old.clients < 32 → open_among old < 8 → Doing note_levels old one → one.clients ≡ old.clients → one.core.hub ≡ old.core.hub
    → (MayConnect one → Doing (noting (λ now. event.Connect (1 + count_by is_connect (journal now)))) one two) → Doing note_levels_now two new → new.core.trace ≡ old.core.trace
    → Doing connect old new
connect_accepted old one two new few open_few before clients_are hub_is noted behind same =
    doing_by connect old new same
    (λ run done after is_run.
    let at = coming run done old after in
    let came = count_by is_connect (journal done) in
    let closes = count_by is_close (journal done) in
    let limit_is : run.setting.clients ≡ 32 = after.so_far.limit_so in
    let test : (nat_lt came run.setting.clients && nat_lt came (closes + 8)) ≡ true =
    both_true (nat_lt came run.setting.clients) (nat_lt came (closes + 8)) (is_below came run.setting.clients (omega (arith, at.came_is, few, limit_is))) (is_below came (closes + 8) (omega (arith, at.came_is, at.open_is, open_few))) in
    let marks : connect run.setting done ≡ note run.setting next_number done =
    ap (λ (c : Bool). cond c (note run.setting (λ _. event.Connect (came + 1)) done) []) test ∙ sym (numbered_alike run.setting done) in
    let may : MayConnect one = (omega (arith, ap (λ (h : Hub). length h.clients) hub_is, ap (λ (h : Hub). h.limit) hub_is, after.so_far.core_so.set_to.clients, limit_is, at.hub_is, few), omega (arith, ap (λ (h : Hub). count_by is_open h.clients) hub_is, at.all_is, open_few)) in
    subst (λ (more : List Mark). ComesTo run done more old new) (sym marks)
    (comes_of (λ setting. note setting next_number) old new (doing_note next_number old one two new before (noted may) behind) run done after
    (subst (λ (more : List Mark). IsRunOf run (done ++ more)) marks is_run) (note_unasked run.setting next_number done (λ now. refl))))

-- what a test that holds tells at last
pub opened_where : (b : Bool) (P Q R : Type 0) → b ≡ true → (IsTrue b → P × Q × R) → R
opened_where true P Q R is tells = (tells refl).2
opened_where false P Q R is tells = absurd cc
