-- What is found of the calls of a journal, one event after the other.
use Rattle.std.proofs.Common.{◌≡◌, ℕ, ◌+◌, Bool, true, false, cond, eqb, List, [], ◌∷◌, ◌++◌, Option, Some, None, refl, sym, ap, subst, ◌∙◌}
use Rattle.std.specs.Prelude.{is_some}
use Rattle.std.specs.HashMap as hash
use Rattle.std.proofs.lemmas.Bool.{eqb-true}
use Rattle.dl_lemmas.proofs.Bools.{both}
use Rattle.dl_bytes.specs.declared.moment.Moment.{Moment}
use Rattle.dl_events.specs.declared.event.Event.{Event}
use Rattle.dl_events.specs.declared.event.Event.TheVariants as event
use Rattle.dl_model.specs.Frames.{FrameSource}
use Rattle.dl_laws.specs.Fates.{logs, of_frame, of_queued}
use Rattle.dl_laws.specs.Fates as law
use Rattle.dl_fates.specs.Found.{TellsAll, or_later, said, same_call}
use Rattle.dl_fates.specs.declared.fate.CallName.{CallName}
use Rattle.dl_fates.specs.declared.fate.Fate.{Fate}

-- ---- names

pub name_is : (a b : CallName) → same_call a b ≡ true → a ≡ b
name_is a b e =
    let parts = both (eqb a.writer b.writer) (eqb a.call b.call) e in
    let p = eqb-true a.writer b.writer parts.0 in
    let q = eqb-true a.call b.call parts.1 in
    λ i. record { writer = p i; call = q i }

-- ---- one event

-- an event that logs no call of this name
skips : (source : FrameSource) (buffer client : ℕ) (name : CallName) (before after : List Event) (e : Event) → logs name.writer name.call e ≡ false →
    of_queued source buffer client name.writer name.call before (e ∷ after) ≡ of_queued source buffer client name.writer name.call (before ++ e ∷ []) after
skips source buffer client name before after e not =
    ap (λ (b : Bool). cond b (of_frame source buffer client before (source.frame name.writer name.call) after) (of_queued source buffer client name.writer name.call (before ++ e ∷ []) after)) not

-- the event of a call
abbrev pub log_of : ℕ → Moment → CallName → Event
log_of app moment call = event.Log app call.writer call.call moment

module _ (source : FrameSource) (buffer client : ℕ) (target : CallName → law.Fate) (before after : List Event) (app : ℕ) (moment : Moment) (call : CallName) where
  abbrev log : Event
  log = log_of app moment call

  -- the call was logged before
  pub known : {S : Type 0} (found : hash.HashMap CallName Fate S) → is_some (hash.get same_call found call) ≡ true → TellsAll source buffer client target found before (log ∷ after) → TellsAll source buffer client target found (before ++ log ∷ []) after
  known {S} found there tells name = by_test (same_call call name) refl where
    later : law.Fate
    later = of_queued source buffer client name.writer name.call (before ++ log ∷ []) after

    either : (o : Option Fate) (a b : law.Fate) → is_some o ≡ true → or_later o a ≡ or_later o b
    either None a b some = absurd cc
    either (Some x) a b some = refl

    by_test : (b : Bool) → same_call call name ≡ b → target name ≡ or_later (hash.get same_call found name) later
    by_test false apart = tells name ∙ ap (or_later (hash.get same_call found name)) (skips source buffer client name before after log apart)
    by_test true same =
        let there_too : is_some (hash.get same_call found name) ≡ true = subst (λ (x : CallName). is_some (hash.get same_call found x) ≡ true) (name_is call name same) there in
        tells name ∙ either (hash.get same_call found name) (of_queued source buffer client name.writer name.call before (log ∷ after)) later there_too

  -- it is logged the first time
  pub first : {S : Type 0} (found now : hash.HashMap CallName Fate S) (fate : Fate) → is_some (hash.get same_call found call) ≡ false →
      ((name : CallName) → hash.get same_call now name ≡ cond (same_call call name) (Some fate) (hash.get same_call found name)) →
      said fate ≡ of_frame source buffer client before (source.frame call.writer call.call) after →
      TellsAll source buffer client target found before (log ∷ after) → TellsAll source buffer client target now (before ++ log ∷ []) after
  first {S} found now fate none noted is tells name = by_test (same_call call name) refl where
    later : law.Fate
    later = of_queued source buffer client name.writer name.call (before ++ log ∷ []) after

    here : law.Fate
    here = of_frame source buffer client before (source.frame name.writer name.call) after

    without : (o : Option Fate) (x : law.Fate) → is_some o ≡ false → or_later o x ≡ x
    without None x none = refl
    without (Some y) x none = absurd cc

    by_test : (b : Bool) → same_call call name ≡ b → target name ≡ or_later (hash.get same_call now name) later
    by_test false apart =
        tells name ∙ ap (or_later (hash.get same_call found name)) (skips source buffer client name before after log apart)
        ∙ ap (λ (o : Option Fate). or_later o later) (sym (noted name ∙ ap (λ (b : Bool). cond b (Some fate) (hash.get same_call found name)) apart))
    by_test true same =
        let it = name_is call name same in
        let nothing : is_some (hash.get same_call found name) ≡ false = subst (λ (x : CallName). is_some (hash.get same_call found x) ≡ false) it none in
        tells name ∙ without (hash.get same_call found name) (of_queued source buffer client name.writer name.call before (log ∷ after)) nothing
        ∙ ap (λ (b : Bool). cond b here later) same
        ∙ sym (is ∙ ap (λ (x : CallName). of_frame source buffer client before (source.frame x.writer x.call) after) it)
        ∙ ap (λ (o : Option Fate). or_later o later) (sym (noted name ∙ ap (λ (b : Bool). cond b (Some fate) (hash.get same_call found name)) same))
