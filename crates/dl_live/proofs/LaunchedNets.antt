-- The net of a run: who was launched, and which connections were taken.
use Rattle.std.proofs.Common.{◌≡◌, inl, inr, ℕ, ◌+◌, ◌-◌, ◌^◌, ◌<◌, ◌≤◌, min, List, [], ◌∷◌, ◌++◌, drop, length, Option, Some, None, ap, subst, ◌∙◌, arith}
use Rattle.std.specs.Prelude.{IfSome}
use Rattle.std.proofs.lemmas.Bool.{cases_lt}
use Rattle.dl_launch.specs.Launching.{AreStarted, Launched}
use Rattle.dl_loop.specs.Later.{IsNetLater}
use Rattle.dl_opening.specs.Scenario.{scripts_of}
use Rattle.dl_outside.specs.Outside.{HasRisen, Stays}
use Rattle.dl_outside.specs.Told.{NetTold}
use Rattle.dl_outside.specs.declared.client.ClientScript.{ClientScript}
use Rattle.dl_script_model.specs.declared.scenario.ScenarioLine.{ScenarioLine}
use Rattle.dl_live.specs.Clients.{IsHeard, IsNetAfter}
use Rattle.dl_lemmas.proofs.Options.{if_some_is}

-- those that were started and those at which the net failed are all
pub as_many_tried : (all started : List ClientScript) (failed : ℕ) → AreStarted all started failed → length started + failed ≡ length all
as_many_tried [] started failed are = let none = ap length are.0 in let zero = are.1 in omega (arith, none, zero)
as_many_tried (script ∷ scripts) started failed are = elim are [
  | inl started_so ↦
      let rest = as_many_tried scripts started_so.0 failed started_so.2 in
      let long = ap length started_so.1 in
      omega (arith, rest, long)
  | inr refused ↦
      let rest = as_many_tried scripts started refused.0 refused.2 in
      let one = refused.1 in
      omega (arith, rest, one)
]

-- where the net failed at none, all were started
pub all_started : (all started : List ClientScript) (failed : ℕ) → AreStarted all started failed → failed ≡ 0 → started ≡ all
all_started [] started failed are none = are.0
all_started (script ∷ scripts) started failed are none = elim are [
  | inl started_so ↦ started_so.1 ∙ ap (λ (rest : List ClientScript). script ∷ rest) (all_started scripts started_so.0 failed started_so.2 none)
  | inr refused ↦ absurd (let one = refused.1 in omega (arith, one, none))
]

-- what stays, and stays again, stays
pub stays_both : {A : Type 0} (one two three : Option A) → Stays one two → Stays two three → Stays one three
stays_both None two three first second = tt
stays_both (Some x) two three first second = if_some_is two (λ told. three ≡ Some told) x first second

-- what is said of what an object tells, and of what it told before
pub known_before : {A : Type 0} (old mid : Option A) (P : A → Type 0) → Stays old mid → IfSome mid P → IfSome old P
known_before None mid P stays holds = tt
known_before (Some x) mid P stays holds = if_some_is mid P x stays holds

-- ---- the net of a run

module _ {L : Type 0} (port : ℕ) (lines : List ScenarioLine) (old heard launched now : NetTold L) (listens : IsHeard port old heard) (count : ℕ) (launches : Launched (scripts_of lines) heard launched count)
    (later : IsNetLater launched now) where
  listens_now : IfSome old.listens_on (λ _. now.listens_on ≡ Some (Some port))
  listens_now = by_told old.listens_on listens.listens where
    by_told : (told : Option (Option ℕ)) → IfSome told (λ _. heard.listens_on ≡ Some (Some port)) → IfSome told (λ _. now.listens_on ≡ Some (Some port))
    by_told None so = tt
    by_told (Some before) so = if_some_is heard.listens_on (λ at. now.listens_on ≡ Some at) (Some port) so (stays_both heard.listens_on launched.listens_on now.listens_on launches.listens later.listens)

  launched_now : IfSome old.launched (λ before. now.launched ≡ Some (before ++ launches.started))
  launched_now = known_before old.launched heard.launched (λ before. now.launched ≡ Some (before ++ launches.started)) listens.launched (by_told heard.launched launches.launched) where
    by_told : (told : Option (List ClientScript)) → IfSome told (λ before. launched.launched ≡ Some (before ++ launches.started)) → IfSome told (λ before. now.launched ≡ Some (before ++ launches.started))
    by_told None so = tt
    by_told (Some before) so = if_some_is launched.launched (λ all. now.launched ≡ Some all) (before ++ launches.started) so later.launched

  faults_rose : min (old.faults + launches.failed) (2 ^ 64 - 1) ≤ now.faults
  faults_rose = let rose = launches.faults.rose in let more = later.faults in let same = listens.faults in omega (arith, rose, more, same)

  never_falls : old.faults ≤ now.faults
  never_falls = let rose = launches.faults.never_falls in let more = later.faults in let same = listens.faults in omega (arith, rose, more, same)

  -- of the connections that wait the oldest were taken
  abbrev AreTaken : ℕ → List L → Type 0
  AreTaken came before = (links : List L) × (length links ≡ length launches.started) × (came ≤ length (before ++ links)) × (now.waiting ≡ Some (drop came (before ++ links)))

  waiting_now : (came : ℕ) → IfSome launched.waiting (λ links. (came ≤ length links) × (now.waiting ≡ Some (drop came links))) → IfSome old.waiting (AreTaken came)
  waiting_now came taken = known_before old.waiting heard.waiting (AreTaken came) listens.waiting (by_told heard.waiting launches.waiting) where
    by_told : (told : Option (List L)) → IfSome told (λ before. (links : List L) × (length links ≡ count) × (launched.waiting ≡ Some (before ++ links))) → IfSome told (AreTaken came)
    by_told None so = tt
    by_told (Some before) so =
        let now_so = if_some_is launched.waiting (λ links. (came ≤ length links) × (now.waiting ≡ Some (drop came links))) (before ++ so.0) so.2 taken in
        (so.0, so.1 ∙ launches.counted, now_so.0, now_so.1)

  -- so the net is as a run leaves it
  pub net_after : (connected dropped let_go : ℕ) → dropped ≡ min let_go (2 ^ 32 - 1)
      → IfSome launched.waiting (λ links. (connected + let_go ≤ length links) × (now.waiting ≡ Some (drop (connected + let_go) links)))
      → IsNetAfter port lines connected dropped old now
  net_after connected dropped let_go counted taken = record {
    started = launches.started;
    refused = launches.failed;
    are = launches.are;
    faults = never_falls;
    rose = faults_rose;
    listens = listens_now;
    launched = launched_now;
    let_go = let_go;
    counted = counted;
    waiting = waiting_now (connected + let_go) taken;
  }

  -- ---- what a run that went well knows

  -- all were launched
  pub all_launched : count ≡ length (scripts_of lines) → IfSome old.launched (λ before. now.launched ≡ Some (before ++ scripts_of lines))
  all_launched all =
      let tried = as_many_tried (scripts_of lines) launches.started launches.failed launches.are in
      let counted = launches.counted in
      let started = all_started (scripts_of lines) launches.started launches.failed launches.are (omega (arith, tried, counted, all)) in
      subst (λ (scripts : List ClientScript). IfSome old.launched (λ before. now.launched ≡ Some (before ++ scripts))) started launched_now

  -- where some were not, the net failed
  pub not_launched : (count ≡ length (scripts_of lines) → ⊥) → HasRisen old.faults now.faults
  not_launched some =
      let tried = as_many_tried (scripts_of lines) launches.started launches.failed launches.are in
      let counted = launches.counted in
      let refused : 0 < launches.failed = elim (cases_lt 0 launches.failed) [ inl more ↦ more | inr none ↦ absurd (some (omega (arith, tried, counted, none))) ] in
      let rose = faults_rose in
      (never_falls, omega (arith, rose, refused))
