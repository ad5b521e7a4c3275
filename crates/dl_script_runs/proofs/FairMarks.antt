-- In the run of a script no message of this process unregisters, and each call is named by its load.
use Rattle.std.proofs.Common.{◌≡◌, ℕ, ◌≤◌, Bool, true, false, List, [], ◌∷◌, ◌++◌, map, Some, refl, sym, subst, arith, inl, inr, true≢false}
use Rattle.std.specs.Prelude.{negsuc}
use Rattle.std.specs.List.{AllByRecursion}
use Rattle.std.proofs.lemmas.Bool.{cases_lt}
use Rattle.dl_bytes.specs.declared.outcome.Done.{Done}
use Rattle.dl_bytes.specs.declared.user.UserMsg.{UserMsg}
use Rattle.dl_bytes.specs.declared.user.UserMsg.TheVariants as user
use Rattle.dl_bytes.specs.declared.user.UserMsg.TheVariants.{RegisterApp, UnregisterApp, UnregisterContext}
use Rattle.dl_events.specs.declared.event.Event.{Event}
use Rattle.dl_events.specs.declared.event.Event.TheVariants as event
use Rattle.dl_script_model.specs.declared.line.ClaimLine.{ClaimLine}
use Rattle.dl_script_model.specs.declared.step.Step.{Step}
use Rattle.dl_script_model.specs.declared.step.Step.TheVariants as line
use Rattle.dl_model.proofs.StandingApps.{is_message}
use Rattle.dl_script.specs.Playable.{IsInBounds, IsPlayable}
use Rattle.dl_script_model.specs.Marks.{Call, Mark, HasApp, HasContext, HasClaim, Filtered, Passed, Noted, Heard, call_of, is_load, journal, moment}
use Rattle.dl_model.specs.Setting.{Setting}
use Rattle.dl_script_model.specs.Steps.{Act, act_of, announce_all, claim, claim_made, end_of, finish, just, new_messages, note_levels, note_levels_now, run, tell}
use Rattle.dl_runs.proofs.Relations.{AreAll, Keeps, and_one, asked_for, each, second_part, turns, weaker}
use Rattle.dl_script_runs.proofs.Walks.{IsNamed, Still, announces_all, ends, finishes, hands_out, hands_out_now, no_message, still_line}

-- ---- events that keep what this process registered

abbrev pub unregisters : UserMsg → Bool
unregisters (UnregisterApp apid pid) = true
unregisters (UnregisterContext apid ctid pid) = true
unregisters _ = false

-- a message that unregisters is of another process
abbrev pub StaysIn : Event → Type 0
StaysIn (event.User channel msg moment) = unregisters msg ≡ true → 1 ≤ channel
StaysIn _ = Unit {0}

abbrev pub registers_app : UserMsg → Bool
registers_app (RegisterApp apid pid text) = true
registers_app _ = false

-- a message of this process registers an application
abbrev pub IsCalm : Event → Type 0
IsCalm (event.User channel msg moment) = channel ≡ 0 → registers_app msg ≡ true
IsCalm _ = Unit {0}

abbrev pub Fair : List Mark → Mark → Type 0
Fair done (Filtered c) = IsNamed done c
Fair done (Passed c) = IsNamed done c
Fair done (Noted e) = StaysIn e
Fair done _ = Unit {0}

-- marks that declare no context besides
abbrev pub Calm : List Mark → Mark → Type 0
Calm done (Filtered c) = IsNamed done c
Calm done (Passed c) = IsNamed done c
Calm done (Noted e) = IsCalm e
Calm done (HasContext context) = ⊥
Calm done _ = Unit {0}

message_stays : (channel : ℕ) (msg : UserMsg) → (channel ≡ 0 → registers_app msg ≡ true) → unregisters msg ≡ true → 1 ≤ channel
message_stays channel (RegisterApp apid pid text) calm goes = absurd (true≢false (sym goes))
message_stays channel msg calm goes = elim (cases_lt 0 channel) [
  | inl other ↦ omega (arith, other)
  | inr own ↦ absurd (both_kinds msg goes (calm (omega (arith, own))))
]
  where
    both_kinds : (m : UserMsg) → unregisters m ≡ true → registers_app m ≡ true → ⊥
    both_kinds (RegisterApp apid pid text) goes comes = true≢false (sym goes)
    both_kinds _ goes comes = true≢false (sym comes)

calm_stays : (e : Event) → IsCalm e → StaysIn e
calm_stays (event.User channel msg moment) calm = message_stays channel msg calm
calm_stays _ calm = tt

pub calm_fair : (done : List Mark) (mark : Mark) → Calm done mark → Fair done mark
calm_fair done (Filtered c) calm = calm
calm_fair done (Passed c) calm = calm
calm_fair done (Noted e) calm = calm_stays e calm
calm_fair done _ calm = tt

no_message_calm : (e : Event) → is_message e ≡ false → IsCalm e
no_message_calm (event.User channel msg moment) none = absurd (true≢false none)
no_message_calm _ none = tt

still_calm : (done : List Mark) (mark : Mark) → Still done mark → Calm done mark
still_calm done (Filtered c) still = still
still_calm done (Passed c) still = still
still_calm done (Noted e) still = no_message_calm e still
still_calm done (HasContext context) still = still
still_calm done _ still = tt

pub calmly : (act : Act) → Keeps Still act → Keeps Calm act
calmly act still done = weaker Still Calm still_calm done (act done) (still done)

pub fairly : (act : Act) → Keeps Calm act → Keeps Fair act
fairly act calm done = weaker Calm Fair calm_fair done (act done) (calm done)

-- ---- lines

module _ (setting : Setting) where
  pub levels_calm : Keeps Calm (note_levels setting)
  levels_calm = calmly (note_levels setting) (hands_out setting is_message (no_message setting))

  pub levels_now_calm : Keeps Calm (note_levels_now setting)
  levels_now_calm = calmly (note_levels_now setting) (hands_out_now setting is_message (no_message setting))

  tells_calm : (channel : ℕ) (msg : UserMsg) → (channel ≡ 0 → registers_app msg ≡ true) → Keeps Calm (tell setting channel msg)
  tells_calm channel msg calm =
      turns Calm (note_levels setting ∷ (λ done. Noted (event.User channel msg (moment done)) ∷ []) ∷ note_levels_now setting ∷ [])
      (levels_calm, ((λ done. (calm, tt)), (levels_now_calm, tt)))

  claims_calm : (asked : ClaimLine) → Keeps Calm (claim asked)
  claims_calm asked done = asked_for Calm (claim_made asked done) (λ c. just (HasClaim c)) done (λ c e. (tt, tt))

  -- lines that declare no context
  abbrev pub IsNoContext : Step → Type 0
  IsNoContext (line.Context context) = ⊥
  IsNoContext _ = Unit {0}

  pub line_calm : (answers : List Done) (step : Step) → IsInBounds step → IsNoContext step → Keeps Calm (act_of setting answers step)
  line_calm answers (line.Context context) bounds none = absurd none
  line_calm answers (line.App app) bounds none =
      turns Calm (just (HasApp app) ∷ tell setting 0 (user.RegisterApp app.apid 0 app.text) ∷ []) ((λ _. (tt, tt)), (tells_calm 0 (user.RegisterApp app.apid 0 app.text) (λ own. refl), tt))
  line_calm answers (line.Writer apid) bounds none = λ _. (tt, tt)
  line_calm answers (line.Claim asked) bounds none =
      turns Calm (finish asked.writer ∷ claim asked ∷ []) (calmly (finish asked.writer) (finishes setting asked.writer), (claims_calm asked, tt))
  line_calm answers (line.Register asked) bounds none =
      turns Calm (finish asked.writer ∷ claim asked ∷ announce_all asked.writer ∷ [])
      (calmly (finish asked.writer) (finishes setting asked.writer), (claims_calm asked, (calmly (announce_all asked.writer) (announces_all setting asked.writer), tt)))
  line_calm answers (line.User channel bytes) bounds none = λ done.
      let msgs = new_messages channel bytes done in
      turns Calm (just (Heard channel bytes) ∷ map (tell setting channel) msgs)
      ((λ _. (tt, tt)), each Calm (tell setting channel) (λ msg. tells_calm channel msg (λ own. absurd (omega (arith, own, bounds)))) msgs) done
  line_calm answers step bounds none = calmly (act_of setting answers step) (still_line setting answers step tt)

  pub line_fair : (answers : List Done) (step : Step) → IsInBounds step → Keeps Fair (act_of setting answers step)
  line_fair answers (line.Context context) bounds =
      let msg = user.RegisterContext context.apid context.ctid 0 context.level (negsuc 0) 0 context.text in
      let told : Keeps Fair (tell setting 0 msg) =
      turns Fair (note_levels setting ∷ (λ done. Noted (event.User 0 msg (moment done)) ∷ []) ∷ note_levels_now setting ∷ [])
      (fairly (note_levels setting) levels_calm, ((λ done. ((λ goes. absurd (true≢false (sym goes))), tt)), (fairly (note_levels_now setting) levels_now_calm, tt))) in
      turns Fair (just (HasContext context) ∷ tell setting 0 msg ∷ []) ((λ _. (tt, tt)), (told, tt))
  line_fair answers step bounds = fairly (act_of setting answers step) (line_calm answers step bounds tt)

  lines_fair : (answers : List Done) (steps : List Step) → AllByRecursion IsInBounds steps → AllByRecursion (Keeps Fair) (map (act_of setting answers) steps)
  lines_fair answers [] bounds = tt
  lines_fair answers (step ∷ steps) bounds = (line_fair answers step bounds.0, lines_fair answers steps bounds.1)

  -- ---- runs

  pub run_fair : (answers : List Done) (steps : List Step) → IsPlayable steps → AreAll Fair [] (run setting answers steps)
  run_fair answers steps playable =
      let acts = map (act_of setting answers) steps in
      turns Fair (acts ++ end_of setting ∷ []) (and_one Fair acts (end_of setting) (lines_fair answers steps playable.bounds) (fairly (end_of setting) (calmly (end_of setting) (ends setting)))) []

pub events_stay : (before marks : List Mark) → AreAll Fair before marks → AllByRecursion StaysIn (journal marks)
events_stay before [] all = tt
events_stay before (Noted e ∷ marks) all = (all.0, events_stay (before ++ Noted e ∷ []) marks all.1)
events_stay before (mark ∷ marks) all = events_stay (before ++ mark ∷ []) marks all.1

-- a call that was loaded is named by its load
pub load_named : (marks before after : List Mark) (load : Mark) (c : Call) → AreAll Fair [] marks → marks ≡ before ++ load ∷ after → is_load load ≡ true → call_of load ≡ Some c → IsNamed before c
load_named marks before after load c all parts first_step of_call = by load first_step of_call (second_part Fair [] before (load ∷ after) (subst (AreAll Fair []) parts all)).0 where
  by : (mark : Mark) → is_load mark ≡ true → call_of mark ≡ Some c → Fair before mark → IsNamed before c
  by (Filtered d) is of_call fair = let same : d ≡ c = cc in subst (IsNamed before) same fair
  by (Passed d) is of_call fair = let same : d ≡ c = cc in subst (IsNamed before) same fair
  by _ is of_call fair = absurd (true≢false (sym is))
