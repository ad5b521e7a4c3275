-- One call after the other: what each of them comes to makes what both come to.
use Rattle.std.proofs.Common.{◌≡◌, ◌+◌, List, [], ◌∷◌, ◌++◌, length, sym, ap, subst, ◌∙◌, append_assoc, length-append, arith}
use Rattle.std.specs.Prelude.{count_by}
use Rattle.std.specs.List.{filter_map, AllByRecursion}
use Rattle.std.proofs.lemmas.List.{append-nil}
use Rattle.std.proofs.lemmas.List.Elements.{filter_map-append}
use Rattle.dl_bytes.specs.declared.outcome.Done.{Done}
use Rattle.dl_model.specs.Setting.{Setting}
use Rattle.dl_script_model.specs.Marks.{Call, Mark, apps, app_of, call_of, journal}
use Rattle.dl_script_model.specs.Steps.{Act, in_sequence}
use Rattle.dl_model.proofs.Lists.{count_by-append}
use Rattle.dl_core.specs.Follows.{Run, HoldsTrace}
use Rattle.dl_runs.proofs.KeptIds.{kept_id}
use Rattle.dl_outside.specs.Told.{FolderTold}
use Rattle.dl_core.specs.Standing.{KeepsTrace}
use Rattle.dl_world.specs.Follows.{GivesCall, IsRunOf, IsAfter, BeginWith, answers_in, is_failure, Deed, Goes, Does, Doing}
use Rattle.dl_world.specs.Stored.{HoldsStored}
use Rattle.dl_world.specs.declared.world.World.{World}
use Rattle.dl_lemmas.proofs.Lists.{all_first as front}

-- ---- parts of what is given

pub begin_before : (xs ys answers : List Done) → BeginWith (xs ++ ys) answers → BeginWith xs answers
begin_before xs ys answers begins = (ys ++ begins.0, begins.1 ∙ append_assoc xs ys begins.0)

-- a run of marks is a run of the first of them
pub run_before : (run : Run) (done more : List Mark) → IsRunOf run (done ++ more) → IsRunOf run done
run_before run done more is_run = record {
  frames = front (GivesCall run) (filter_map call_of done) (filter_map call_of more) (subst (λ (calls : List Call). AllByRecursion (GivesCall run) calls) (filter_map-append call_of done more) is_run.frames);
  apids = λ app below. is_run.apids app (omega (arith, below, ap length (filter_map-append app_of done more), length-append (apps done) (apps more))) ∙ kept_id done more app below;
}

-- ---- one deed, and the other after it

abbrev pub both : Deed → Deed → Deed
both first second setting answers done = first setting answers done ++ second setting answers (done ++ first setting answers done)

module _ (first second : Deed) (old mid new : World) (told told_mid told_now : FolderTold) (one : Does first old mid told told_mid) (two : Does second mid new told_mid told_now) where
  -- the folder failed at no request of either
  none_failed : count_by is_failure (one.answered ++ two.answered) ≡ 0 → (count_by is_failure one.answered ≡ 0) × (count_by is_failure two.answered ≡ 0)
  none_failed fine = let parts = count_by-append is_failure one.answered two.answered in (omega (arith, parts, fine), omega (arith, parts, fine))

  goes_both : (run : Run) (done : List Mark) (answers : List Done) → BeginWith (answers_in done ++ (one.answered ++ two.answered)) answers → IsAfter run done old
      → IsRunOf run (done ++ both first second run.setting answers done)
      → Goes run done (both first second run.setting answers done) old new told told_now (one.answered ++ two.answered)
  goes_both run done answers begins after is_run =
      let more = first run.setting answers done in
      let later = second run.setting answers (done ++ more) in
      let apart : (done ++ more) ++ later ≡ done ++ (more ++ later) = append_assoc done more later in
      let here : IsRunOf run ((done ++ more) ++ later) = subst (λ (ms : List Mark). IsRunOf run ms) (sym apart) is_run in
      let grouped : BeginWith ((answers_in done ++ one.answered) ++ two.answered) answers =
      subst (λ (xs : List Done). BeginWith xs answers) (sym (append_assoc (answers_in done) one.answered two.answered)) begins in
      let so_far = one.goes run done answers (begin_before (answers_in done ++ one.answered) two.answered answers grouped) after (run_before run (done ++ more) later here) in
      let behind : BeginWith (answers_in (done ++ more) ++ two.answered) answers = subst (λ (xs : List Done). BeginWith (xs ++ two.answered) answers) (sym so_far.answers) grouped in
      let rest = two.goes run (done ++ more) answers behind so_far.after here in
      record {
        after = subst (λ (ms : List Mark). IsAfter run ms new) apart rest.after;
        holds = λ holds. subst (λ (ms : List Mark). HoldsTrace run (journal ms) new.core told_now) apart (rest.holds (so_far.holds holds));
        stands = λ before kept. subst (λ (ms : List Mark). KeepsTrace run before (journal ms) new.core told_now) apart (rest.stands before (so_far.stands before kept));
        stored = λ first fine holds.
            let none = none_failed fine in
            subst (λ (ms : List Mark). HoldsStored run.setting first (journal ms) told_now.files) apart (rest.stored first none.1 (so_far.stored first none.0 holds));
        answers = ap answers_in (sym apart) ∙ rest.answers ∙ ap (λ (xs : List Done). xs ++ two.answered) so_far.answers ∙ append_assoc (answers_in done) one.answered two.answered;
      }

  pub does_both : Does (both first second) old new told told_now
  does_both = record {
    answered = one.answered ++ two.answered;
    goes = goes_both;
    trace_failed = one.trace_failed + two.trace_failed;
    failures = omega (arith, one.failures, two.failures);
    rose = omega (arith, one.rose, two.rose, count_by-append is_failure one.answered two.answered);
  }

-- two acts in turn
pub two_turns : (first second : Act) (done : List Mark) → in_sequence (first ∷ second ∷ []) done ≡ first done ++ second (done ++ first done)
two_turns first second done = ap (λ (ms : List Mark). first done ++ ms) (append-nil (second (done ++ first done)))

-- two calls without a folder
pub doing_two : (first second : Setting → Act) (old mid new : World) → Doing first old mid → Doing second mid new
    → Doing (λ setting. in_sequence (first setting ∷ second setting ∷ [])) old new
doing_two first second old mid new one two told =
    subst (λ (deed : Deed). Does deed old new told told) (λ i setting answers done. sym (two_turns (first setting) (second setting) done) i)
    (does_both (λ setting answers. first setting) (λ setting answers. second setting) old mid new told told told (one told) (two told))
