-- What all log calls are after a declaration.
use Rattle.std.proofs.Common.{◌≡◌, ◌≢◌, ℕ, zero, suc, ◌+◌, ◌-◌, ◌≤◌, ◌<◌, ◌⊎◌, inl, inr, Bool, true, false, cond, eqb, get_or, set, List, [], ◌∷◌, ◌++◌, length, length-append, Option, Some, None, refl, sym, ap, subst, ◌∙◌, arith}
use Rattle.std.specs.Prelude.{map, slice_get}
use Rattle.std.specs.List.{filter, filter_map, position, position_or_len}
use Rattle.std.specs.Option.{option_and_then}
use Rattle.std.specs.Str.{bytes_eq}
use Rattle.std.proofs.lemmas.List.{append-nil, map-append, get_or_past}
use Rattle.std.proofs.lemmas.List.Elements.{filter_map-append, filter-append, All-append, All-cons}
use Rattle.std.proofs.lemmas.List.Folds.{position_or_len_push, position_or_len-set}
use Rattle.std.proofs.lemmas.List.Sums.{passes_at_first}
use Rattle.std.proofs.lemmas.Bool.Decides.{nat_tests, eqb_tells}
use Rattle.dl_bytes.specs.declared.conf.AppSpec.{AppSpec}
use Rattle.dl_script_model.specs.declared.line.AppLine.{AppLine}
use Rattle.dl_script_model.specs.declared.line.ContextLine.{ContextLine}
use Rattle.dl_model.proofs.Presence.{bytes_tell, same_bytes}
use Rattle.dl_script_model.specs.Marks.{Mark, HasApp, HasContext, HasWriter, app_of, context_of, writer_of, apps, contexts_of, number_of}
use Rattle.dl_script_model.specs.Steps.{just}
use Rattle.dl_script_model.proofs.Marks.{contexts-same, writers-same}
use Rattle.dl_world_calls.specs.declared.queue.OwnPlace.{OwnPlace}
use Rattle.dl_world_calls.specs.State.{App, Writer, Calls, new_app, new_writer, numbered}
use Rattle.dl_world_calls.specs.Follows.{no_app, no_writer, writer_at, line_of, is_named, contexts_in, IsOwned, IsWriterAfter, IsClaimerAfter, IsAppAfter, IsAfter, Does}
use Rattle.dl_world_calls.proofs.WriterMarks.{stays}
use Rattle.dl_world_calls.proofs.AppMarks.{Keeps, IsApart, app-stays}
use Rattle.dl_world_calls.proofs.ClaimMarks.{claimers-stay, claimed-stay, same_kept}
use Rattle.dl_world_calls.proofs.Places.{get_or-set, each_set, told_set, get_or-push, get_or-past, position_to_len, position-map, any_default}
use Rattle.dl_lemmas.proofs.Lists.{get_more, position-more}
use Rattle.dl_world_calls.proofs.Following.{apps-same, number-same, lines_set, owned_on, held_keeps}

-- ---- an application more

new_contexts : (apps : List App) (spec : AppSpec) (apid : List ℕ) → contexts_in (apps ++ new_app spec ∷ []) apid ≡ contexts_in apps apid
new_contexts apps spec apid = elim (eqb_tells (position_or_len (is_named apid) apps) (length apps)) as (λ _. contexts_in (apps ++ new_app spec ∷ []) apid ≡ contexts_in apps apid) [
  | inl none ↦
      let before : contexts_in apps apid ≡ [] = ap (λ (app : App). app.contexts) (get_or_past apps (position_or_len (is_named apid) apps) no_app (omega (arith, none.1))) in
      let place : position_or_len (is_named apid) (apps ++ new_app spec ∷ []) ≡ length apps + cond (is_named apid (new_app spec)) 0 1 =
      position_or_len_push (is_named apid) apps (new_app spec) ∙ rw none.0 refl in
      ap (λ (k : ℕ). (get_or (apps ++ new_app spec ∷ []) k no_app).contexts) place ∙ last_two (is_named apid (new_app spec)) ∙ sym before
  | inr some ↦
      let place : position_or_len (is_named apid) (apps ++ new_app spec ∷ []) ≡ position_or_len (is_named apid) apps =
      position_or_len_push (is_named apid) apps (new_app spec) ∙ rw some.0 refl in
      let old : get_or (apps ++ new_app spec ∷ []) (position_or_len (is_named apid) apps) no_app ≡ get_or apps (position_or_len (is_named apid) apps) no_app =
      get_or-push apps (position_or_len (is_named apid) apps) (new_app spec) no_app ∙ rw some.0 refl in
      ap (λ (k : ℕ). (get_or (apps ++ new_app spec ∷ []) k no_app).contexts) place ∙ ap (λ (app : App). app.contexts) old
] where
  last_two : (b : Bool) → (get_or (apps ++ new_app spec ∷ []) (length apps + cond b 0 1) no_app).contexts ≡ []
  last_two true =
      let at : length apps + 0 ≡ length apps = omega arith in
      let same : eqb (length apps) (length apps) ≡ true = grind (arith, nat_tests) in
      let last : get_or (apps ++ new_app spec ∷ []) (length apps) no_app ≡ new_app spec = get_or-push apps (length apps) (new_app spec) no_app ∙ rw same refl in
      ap (λ (k : ℕ). (get_or (apps ++ new_app spec ∷ []) k no_app).contexts) at ∙ ap (λ (app : App). app.contexts) last
  last_two false =
      let beyond : length (apps ++ new_app spec ∷ []) ≤ length apps + 1 = omega (arith, length-append apps (new_app spec ∷ [])) in
      ap (λ (app : App). app.contexts) (get_or_past (apps ++ new_app spec ∷ []) (length apps + 1) no_app beyond)

fresh_app : (done : List Mark) (ws : List Writer) (k : ℕ) (spec : AppSpec) → IsAppAfter done ws k no_app → IsAppAfter done ws k (new_app spec)
fresh_app done ws k spec is = record {
  ring_is = is.ring_is;
  taken_is = is.taken_is;
  pending_is = is.pending_is;
  told_at_most = is.told_at_most;
}

pub keeps_all : (ws : List Writer) → Keeps ws ws
keeps_all ws at r e = e

pub app-declared : (done : List Mark) (calls : Calls) (line : AppLine) (spec : AppSpec) → line_of (new_app spec) ≡ line → IsAfter done calls
    → IsAfter (done ++ HasApp line ∷ []) (record { apps = calls.apps ++ new_app spec ∷ []; writers = calls.writers })
app-declared done calls line spec same is = let mark = HasApp line in record {
  apps_are = map-append line_of calls.apps (new_app spec ∷ []) ∙ rw (is.apps_are, same) (sym (filter_map-append app_of done (mark ∷ [])));
  writers_are = is.writers_are ∙ sym (writers-same done mark refl);
  contexts_are = λ apid. new_contexts calls.apps spec apid ∙ is.contexts_are apid ∙ ap (map (λ (context : ContextLine). context.ctid)) (sym (contexts-same apid done mark refl));
  owned = λ k d below.
      let own = is.owned k d below in
      let w = get_or calls.writers k d in
      record {
        app_is = ap (position (λ (app : AppLine). bytes_eq app.apid w.apid)) (filter_map-append app_of done (mark ∷ [])) ∙ position-more (λ (app : AppLine). bytes_eq app.apid w.apid) (apps done) (line ∷ []) w.app own.app_is;
        pushes = own.pushes;
        counts = own.counts;
      };
  each_writer = λ k. stays done k (writer_at calls.writers k) mark refl (is.each_writer k);
  each_claimer = claimers-stay done mark calls.writers calls.writers (record { no_claim = refl; no_announcement = refl }) is.each_claimer (λ k. same_kept (writer_at calls.writers k));
  claimed_are = claimed-stay done mark calls.apps (calls.apps ++ new_app spec ∷ []) refl is.claimed_are claimed_pushed;
  each_app = λ k. subst (IsAppAfter (done ++ mark ∷ []) calls.writers k) (sym (get_or-push calls.apps k (new_app spec) no_app))
      (each_set (IsAppAfter (done ++ mark ∷ []) calls.writers) (λ j. get_or calls.apps j no_app) (length calls.apps) (new_app spec)
      (fresh_app (done ++ mark ∷ []) calls.writers (length calls.apps) spec
      (app-stays done calls.writers calls.writers (length calls.apps) no_app mark (quiet_for (length calls.apps))
      (keeps_all calls.writers) (subst (IsAppAfter done calls.writers (length calls.apps)) (get_or-past calls.apps no_app) (is.each_app (length calls.apps)))))
      (λ j differs. app-stays done calls.writers calls.writers j (get_or calls.apps j no_app) mark (quiet_for j) (keeps_all calls.writers) (is.each_app j))
      k);
} where
  quiet_for : (j : ℕ) → IsApart j (HasApp line)
  quiet_for j = record { not_pushed = refl; not_taken = refl; not_lost = refl; not_counted = refl }

  -- nothing of it is claimed
  claimed_pushed : (k : ℕ) → (get_or (calls.apps ++ new_app spec ∷ []) k no_app).claimed ≡ (get_or calls.apps k no_app).claimed
  claimed_pushed k =
      subst (λ (x : App). x.claimed ≡ (get_or calls.apps k no_app).claimed) (sym (get_or-push calls.apps k (new_app spec) no_app))
      (each_set (λ j (x : App). x.claimed ≡ (get_or calls.apps j no_app).claimed) (λ j. get_or calls.apps j no_app) (length calls.apps) (new_app spec)
      (ap (λ (x : App). x.claimed) (sym (get_or-past calls.apps no_app))) (λ j differs. refl) k)

-- ---- a writer more

own_more : {A : Type 0} (f : Writer → List A) (ws : List Writer) (y : Writer) (at : OwnPlace) (x : A)
    → cond (eqb at.writer 0) None (option_and_then (λ (writer : Writer). slice_get (f writer) at.place) (slice_get ws (at.writer - 1))) ≡ Some x
    → cond (eqb at.writer 0) None (option_and_then (λ (writer : Writer). slice_get (f writer) at.place) (slice_get (ws ++ y ∷ []) (at.writer - 1))) ≡ Some x
own_more f ws y at x e = by_test (eqb at.writer 0) e where
  by_writer : (o : Option Writer) → slice_get ws (at.writer - 1) ≡ o → option_and_then (λ (writer : Writer). slice_get (f writer) at.place) o ≡ Some x
      → option_and_then (λ (writer : Writer). slice_get (f writer) at.place) (slice_get (ws ++ y ∷ []) (at.writer - 1)) ≡ Some x
  by_writer None is e = absurd cc
  by_writer (Some w) is e = rw (get_more ws (y ∷ []) (at.writer - 1) w is) e

  by_test : (b : Bool) → cond b None (option_and_then (λ (writer : Writer). slice_get (f writer) at.place) (slice_get ws (at.writer - 1))) ≡ Some x
      → cond b None (option_and_then (λ (writer : Writer). slice_get (f writer) at.place) (slice_get (ws ++ y ∷ []) (at.writer - 1))) ≡ Some x
  by_test true e = absurd cc
  by_test false e = by_writer (slice_get ws (at.writer - 1)) refl e

new_writer_keeps : (ws : List Writer) (y : Writer) → Keeps ws (ws ++ y ∷ [])
new_writer_keeps ws y = held_keeps ws (ws ++ y ∷ []) (own_more (λ (w : Writer). w.records) ws y) (own_more (λ (w : Writer). w.claims) ws y)

fresh_writer : (done : List Mark) (k app : ℕ) (apid : List ℕ) → IsWriterAfter done k no_writer → IsWriterAfter done k (new_writer app apid)
fresh_writer done k app apid is = record { begun = is.begun; counter = is.counter; push_is = is.push_is; count_is = is.count_is; records_are = is.records_are }

fresh_claimer : (done : List Mark) (k app : ℕ) (apid : List ℕ) → IsClaimerAfter done k no_writer → IsClaimerAfter done k (new_writer app apid)
fresh_claimer done k app apid is = record { claims_are = is.claims_are; own = tt {0}; announced_are = is.announced_are; announced_at_most = is.announced_at_most }

-- a list of writers with one more
each_more : (P : ℕ → Writer → Type 0) (ws : List Writer) (app : ℕ) (apid : List ℕ) → ((k : ℕ) → P k no_writer → P k (new_writer app apid)) → ((k : ℕ) → P k (writer_at ws k)) → (k : ℕ) → P k (writer_at (ws ++ new_writer app apid ∷ []) k)
each_more P ws app apid fresh all zero = all 0
each_more P ws app apid fresh all (suc j) =
    let not_zero : eqb (suc j) 0 ≡ false = grind (arith, nat_tests) in
    let back : suc j - 1 ≡ j = omega arith in
    rw (not_zero, back, get_or-push ws j (new_writer app apid) no_writer)
    (each_set (λ i. P (suc i)) (λ i. get_or ws i no_writer) (length ws) (new_writer app apid)
    (fresh (suc (length ws)) (subst (P (suc (length ws))) (get_or-past ws no_writer) (at (length ws))))
    (λ i differs. at i) j) where
      at : (i : ℕ) → P (suc i) (get_or ws i no_writer)
      at i =
          let not_zero : eqb (suc i) 0 ≡ false = grind (arith, nat_tests) in
          let back : suc i - 1 ≡ i = omega arith in
          let all_at = all (suc i) in
          rw (not_zero, back) at all_at

-- the number of an application, in both words
pub number_is : (done : List Mark) (calls : Calls) (apid : List ℕ) → map line_of calls.apps ≡ apps done → numbered calls apid ≡ number_of apid done
number_is done calls apid same =
    sym (position-map line_of (λ (line : AppLine). bytes_eq line.apid apid) calls.apps) ∙ ap (position (λ (line : AppLine). bytes_eq line.apid apid)) same

pub writer-declared : (done : List Mark) (calls : Calls) (apid : List ℕ) (app : ℕ) → numbered calls apid ≡ Some app → IsAfter done calls
    → IsAfter (done ++ HasWriter apid ∷ []) (record { apps = calls.apps; writers = calls.writers ++ new_writer app apid ∷ [] })
writer-declared done calls apid app known is = let mark = HasWriter apid in let y = new_writer app apid in record {
  apps_are = is.apps_are ∙ sym (apps-same done mark refl);
  writers_are = map-append (λ (writer : Writer). writer.apid) calls.writers (y ∷ []) ∙ rw is.writers_are (sym (filter_map-append writer_of done (mark ∷ [])));
  contexts_are = λ id. is.contexts_are id ∙ ap (map (λ (context : ContextLine). context.ctid)) (sym (contexts-same id done mark refl));
  owned = All-append (IsOwned (done ++ mark ∷ [])) calls.writers (y ∷ [])
      (λ k d below. owned_on done mark refl (get_or calls.writers k d) (is.owned k d below))
      (All-cons (IsOwned (done ++ mark ∷ [])) y [] (record { app_is = number-same apid done mark refl ∙ sym (number_is done calls apid is.apps_are) ∙ known; pushes = tt {0}; counts = tt {0} }) (λ k d below. absurd (omega (arith, below))));
  each_writer = each_more (IsWriterAfter (done ++ mark ∷ [])) calls.writers app apid (λ k. fresh_writer (done ++ mark ∷ []) k app apid) (λ k. stays done k (writer_at calls.writers k) mark refl (is.each_writer k));
  each_claimer = each_more (IsClaimerAfter (done ++ mark ∷ [])) calls.writers app apid (λ k. fresh_claimer (done ++ mark ∷ []) k app apid)
      (claimers-stay done mark calls.writers calls.writers (record { no_claim = refl; no_announcement = refl }) is.each_claimer (λ k. same_kept (writer_at calls.writers k)));
  claimed_are = claimed-stay done mark calls.apps calls.apps refl is.claimed_are (λ k. refl);
  each_app = λ k. app-stays done calls.writers (calls.writers ++ new_writer app apid ∷ []) k (get_or calls.apps k no_app) mark
      (record { not_pushed = refl; not_taken = refl; not_lost = refl; not_counted = refl })
      (new_writer_keeps calls.writers y) (is.each_app k);
}

-- ---- a context more

pub context-declared : (done : List Mark) (calls : Calls) (line : ContextLine) (a : ℕ) (app : App) → numbered calls line.apid ≡ Some a → app ≡ get_or calls.apps a no_app → IsAfter done calls
    → IsAfter (done ++ HasContext line ∷ []) (record { apps = set calls.apps a (record app { contexts = app.contexts ++ line.ctid ∷ [] }); writers = calls.writers })
context-declared done calls line a app known app_is is = record {
  apps_are = lines_set calls.apps a z spec ∙ is.apps_are ∙ sym (apps-same done mark refl);
  writers_are = is.writers_are ∙ sym (writers-same done mark refl);
  contexts_are = λ apid. by_id apid (bytes_tell line.apid apid);
  owned = λ k d below. owned_on done mark refl (get_or calls.writers k d) (is.owned k d below);
  each_writer = λ k. stays done k (writer_at calls.writers k) mark refl (is.each_writer k);
  each_claimer = claimers-stay done mark calls.writers calls.writers (record { no_claim = refl; no_announcement = refl }) is.each_claimer (λ k. same_kept (writer_at calls.writers k));
  claimed_are = claimed-stay done mark calls.apps (set calls.apps a z) refl is.claimed_are (λ k. told_set (λ (x : App). x.claimed) calls.apps a k z no_app (ap (λ (x : App). x.claimed) app_is));
  each_app = λ k. subst (IsAppAfter (done ++ mark ∷ []) calls.writers k) (sym (get_or-set calls.apps a k z no_app at.1))
      (each_set (IsAppAfter (done ++ mark ∷ []) calls.writers) (λ j. get_or calls.apps j no_app) a z (same_counts a (subst (IsAppAfter (done ++ mark ∷ []) calls.writers a) (sym app_is) (stay a))) (λ j differs. stay j) k);
} where
  mark : Mark
  mark = HasContext line

  z : App
  z = record app { contexts = app.contexts ++ line.ctid ∷ [] }

  spec : z.spec ≡ (get_or calls.apps a no_app).spec
  spec = ap (λ (x : App). x.spec) app_is

  at : (position_or_len (is_named line.apid) calls.apps ≡ a) × (a < length calls.apps)
  at = position_to_len (is_named line.apid) calls.apps a known

  stay : (j : ℕ) → IsAppAfter (done ++ mark ∷ []) calls.writers j (get_or calls.apps j no_app)
  stay j = app-stays done calls.writers calls.writers j (get_or calls.apps j no_app) mark
      (record { not_pushed = refl; not_taken = refl; not_lost = refl; not_counted = refl }) (keeps_all calls.writers) (is.each_app j)

  same_counts : (j : ℕ) → IsAppAfter (done ++ mark ∷ []) calls.writers j app → IsAppAfter (done ++ mark ∷ []) calls.writers j z
  same_counts j is = record {
    ring_is = is.ring_is;
    taken_is = is.taken_is;
    pending_is = is.pending_is;
    told_at_most = is.told_at_most;
  }

  -- what the marks have of an id
  told : (apid : List ℕ) → contexts_of apid (done ++ mark ∷ []) ≡ contexts_of apid done ++ cond (bytes_eq line.apid apid) (line ∷ []) []
  told apid =
      ap (filter (λ (context : ContextLine). bytes_eq context.apid apid)) (filter_map-append context_of done (mark ∷ []))
      ∙ filter-append (λ (context : ContextLine). bytes_eq context.apid apid) (filter_map context_of done) (line ∷ [])

  same_place : (apid : List ℕ) → position_or_len (is_named apid) (set calls.apps a z) ≡ position_or_len (is_named apid) calls.apps
  same_place apid = position_or_len-set (is_named apid) calls.apps a z no_app (rw spec refl)

  by_id : (apid : List ℕ) → ((bytes_eq line.apid apid ≡ true) × (line.apid ≡ apid)) ⊎ ((bytes_eq line.apid apid ≡ false) × (line.apid ≢ apid)) →
      contexts_in (set calls.apps a z) apid ≡ map (λ (context : ContextLine). context.ctid) (contexts_of apid (done ++ mark ∷ []))
  by_id apid (inl same) =
      let place : position_or_len (is_named apid) (set calls.apps a z) ≡ a = same_place apid ∙ ap (λ (id : List ℕ). position_or_len (is_named id) calls.apps) (sym same.1) ∙ at.0 in
      let now : get_or (set calls.apps a z) a no_app ≡ z = let itself : eqb a a ≡ true = grind (arith, nat_tests) in get_or-set calls.apps a a z no_app at.1 ∙ rw itself refl in
      let before : app.contexts ≡ map (λ (context : ContextLine). context.ctid) (contexts_of apid done) =
      ap (λ (x : App). x.contexts) app_is ∙ ap (λ (k : ℕ). (get_or calls.apps k no_app).contexts) (sym (ap (λ (id : List ℕ). position_or_len (is_named id) calls.apps) (sym same.1) ∙ at.0)) ∙ is.contexts_are apid in
      let more : contexts_of apid (done ++ mark ∷ []) ≡ contexts_of apid done ++ line ∷ [] = told apid ∙ rw same.0 refl in
      ap (λ (k : ℕ). (get_or (set calls.apps a z) k no_app).contexts) place ∙ ap (λ (x : App). x.contexts) now
      ∙ ap (λ (ids : List (List ℕ)). ids ++ line.ctid ∷ []) before
      ∙ sym (ap (map (λ (context : ContextLine). context.ctid)) more ∙ map-append (λ (context : ContextLine). context.ctid) (contexts_of apid done) (line ∷ []))
  by_id apid (inr other) =
      let none : contexts_of apid (done ++ mark ∷ []) ≡ contexts_of apid done = told apid ∙ rw other.0 (append-nil (contexts_of apid done)) in
      ap (λ (k : ℕ). (get_or (set calls.apps a z) k no_app).contexts) (same_place apid) ∙ others (eqb_tells (position_or_len (is_named apid) calls.apps) a) ∙ is.contexts_are apid
      ∙ sym (ap (map (λ (context : ContextLine). context.ctid)) none) where
        others : ((eqb (position_or_len (is_named apid) calls.apps) a ≡ true) × (position_or_len (is_named apid) calls.apps ≡ a)) ⊎ ((eqb (position_or_len (is_named apid) calls.apps) a ≡ false) × (position_or_len (is_named apid) calls.apps ≢ a)) →
            (get_or (set calls.apps a z) (position_or_len (is_named apid) calls.apps) no_app).contexts ≡ (get_or calls.apps (position_or_len (is_named apid) calls.apps) no_app).contexts
        others (inr differs) =
            let old : get_or (set calls.apps a z) (position_or_len (is_named apid) calls.apps) no_app ≡ get_or calls.apps (position_or_len (is_named apid) calls.apps) no_app =
            get_or-set calls.apps a (position_or_len (is_named apid) calls.apps) z no_app at.1 ∙ rw differs.0 refl in
            ap (λ (x : App). x.contexts) old
        others (inl here) =
            let one : is_named apid (get_or calls.apps (position_or_len (is_named apid) calls.apps) no_app) ≡ true = passes_at_first (is_named apid) calls.apps no_app (omega (arith, here.1, at.1)) in
            let two : is_named line.apid (get_or calls.apps (position_or_len (is_named line.apid) calls.apps) no_app) ≡ true = passes_at_first (is_named line.apid) calls.apps no_app (omega (arith, at.0, at.1)) in
            let one_at : bytes_eq (get_or calls.apps a no_app).spec.apid apid ≡ true = subst (λ (k : ℕ). is_named apid (get_or calls.apps k no_app) ≡ true) here.1 one in
            let two_at : bytes_eq (get_or calls.apps a no_app).spec.apid line.apid ≡ true = subst (λ (k : ℕ). is_named line.apid (get_or calls.apps k no_app) ≡ true) at.0 two in
            absurd (other.1 (sym (same_bytes (get_or calls.apps a no_app).spec.apid line.apid two_at) ∙ same_bytes (get_or calls.apps a no_app).spec.apid apid one_at))

-- ---- the same as calls

module _ (apps : List App) (ws : List Writer) (now : Calls) (view_is : record { apps = apps; writers = ws } ≡ now) where
  pub app-does : (line : AppLine) (spec : AppSpec) (y : App) (items : List App) → line_of (new_app spec) ≡ line → y ≡ new_app spec → items ≡ apps ++ y ∷ []
      → Does (just (HasApp line)) now (record { apps = items; writers = ws })
  app-does line spec y items same y_is items_are = subst (λ (old : Calls). Does (just (HasApp line)) old (record { apps = items; writers = ws })) view_is
      (λ done is. rw (items_are, y_is) (app-declared done (record { apps = apps; writers = ws }) line spec same is))

  pub writer-does : (apid : List ℕ) (app : ℕ) (y : Writer) (items : List Writer) → numbered now apid ≡ Some app → y ≡ new_writer app apid → items ≡ ws ++ y ∷ []
      → Does (just (HasWriter apid)) now (record { apps = apps; writers = items })
  writer-does apid app y items known y_is items_are = subst (λ (old : Calls). Does (just (HasWriter apid)) old (record { apps = apps; writers = items })) view_is
      (λ done is. rw (items_are, y_is) (writer-declared done (record { apps = apps; writers = ws }) apid app (subst (λ (k : Calls). numbered k apid ≡ Some app) (sym view_is) known) is))

  pub context-does : (line : ContextLine) (a : ℕ) (app z : App) → numbered now line.apid ≡ Some a → app ≡ get_or apps a app → z ≡ record app { contexts = app.contexts ++ line.ctid ∷ [] }
      → Does (just (HasContext line)) now (record { apps = set apps a z; writers = ws })
  context-does line a app z known app_is z_is = subst (λ (old : Calls). Does (just (HasContext line)) old (record { apps = set apps a z; writers = ws })) view_is
      (λ done is. rw z_is (context-declared done (record { apps = apps; writers = ws }) line a app known_here (app_is ∙ any_default apps a app no_app (position_to_len (is_named line.apid) apps a known_here).1) is)) where
        known_here : numbered (record { apps = apps; writers = ws }) line.apid ≡ Some a
        known_here = subst (λ (k : Calls). numbered k line.apid ≡ Some a) (sym view_is) known
