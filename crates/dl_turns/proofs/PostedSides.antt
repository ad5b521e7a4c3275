-- What the queues took and refused, event by event.
use Rattle.std.proofs.Common.{◌≡◌, ℕ, ◌+◌, ◌<◌, ◌≤◌, ◌==◌, Bool, true, false, cond, List, [], ◌∷◌, ◌++◌, length, Result, Ok, inl, inr, refl, sym, ap, subst, ◌∙◌, append_assoc, length-append, add-zero, arith}
use Rattle.std.proofs.lemmas.Bool.Decides.{eqb_tells}
use Rattle.std.proofs.lemmas.List.{append-nil}
use Rattle.dl_bytes.specs.declared.item.Injection.{Injection}
use Rattle.dl_bytes.specs.declared.outcome.Done.{Done}
use Rattle.dl_bytes.specs.declared.outcome.Done.TheVariants as did
use Rattle.dl_control.specs.declared.request.Request.{Request}
use Rattle.dl_control.specs.declared.request.Request.TheVariants.{Store, Reset, Inject}
use Rattle.dl_control.specs.declared.request.RequestFault.{RequestFault}
use Rattle.dl_events.specs.declared.event.Event.{Event}
use Rattle.dl_events.specs.declared.event.Event.TheVariants as event
use Rattle.dl_events.specs.declared.event.Why.{Why}
use Rattle.dl_model.specs.Registry.{Registry}
use Rattle.dl_model.specs.Reply.{apid_of, asked, ctid_of}
use Rattle.dl_model.specs.Setting.{Setting}
use Rattle.dl_model.specs.declared.registry.Slot.{Slot}
use Rattle.dl_model.proofs.Lists.{along_from-append}
use Rattle.dl_outside.specs.Told.{FolderTold}
use Rattle.dl_desk.specs.Told.{ControlTold, with_pushed, with_refused}
use Rattle.dl_services.specs.Wish.{wanted}
use Rattle.dl_services.specs.declared.wish.Want.{Want}
use Rattle.dl_services.specs.declared.wish.Want.TheVariants as want
use Rattle.dl_core.specs.Follows.{IsAfter, Run}
use Rattle.dl_core.specs.Serving.{Answers, wanted_now}
use Rattle.dl_core.specs.Settings.{seen}
use Rattle.dl_core.specs.State.{Core}
use Rattle.dl_turns.specs.Events.{Posts}
use Rattle.dl_turns.specs.Injected.{AreRefusedFull, HasInjected, injected_at, injected_by, refused_at, refused_by, refused_of, sent_to, taken_of, wanted_after}

-- ---- a request wants the same by the core and by the journal

wanted_alike : (s t : Setting) (slots slots_now : ℕ → Slot) (r r_now : Registry) (apid ctid : List ℕ) (request : Result Request RequestFault) → s.level ≡ t.level → s.injection ≡ t.injection
    → slots ≡ slots_now → r ≡ r_now → wanted s slots r apid ctid request ≡ wanted t slots_now r_now apid ctid request
wanted_alike s t slots slots_now r r_now apid ctid (Ok Store) level injection sl re = λ i. wanted s (sl i) (re i) apid ctid (Ok Store)
wanted_alike s t slots slots_now r r_now apid ctid (Ok Reset) level injection sl re = λ i. wanted (record s { level = level i }) (sl i) (re i) apid ctid (Ok Reset)
wanted_alike s t slots slots_now r r_now apid ctid (Ok (Inject service body)) level injection sl re = λ i. wanted (record s { injection = injection i }) (sl i) (re i) apid ctid (Ok (Inject service body))
wanted_alike s t slots slots_now r r_now apid ctid _ level injection sl re = refl

wanted_is : (run : Run) (past : List Event) (taken : ℕ → List ℕ) (core : Core) (frame : List ℕ) → IsAfter run past taken core → wanted_now core frame ≡ wanted_after run.setting past frame
wanted_is run past taken core frame after =
    wanted_alike (seen core) run.setting _ _ _ _ (apid_of frame) (ctid_of frame) (asked frame) after.set_to.level after.set_to.injection after.registry.slots after.registry.registry

-- ---- one request

-- the queue of an application took or refused what the answer says
record IsPosted (app : ℕ) (answer : Done) (wants : Want) (old new : ControlTold) : Type 0 where
  took : new.pushed app ≡ old.pushed app ++ taken_of app answer wants
  refused : new.refusals app ≡ old.refusals app + length (refused_of app answer wants)
  full : 0 < length (refused_of app answer wants) → 16 ≤ length (old.pushed app)

none_taken : (app : ℕ) (answer : Done) (wants : Want) → sent_to app wants ≡ [] → taken_of app answer wants ≡ []
none_taken app did.Yes wants none = none
none_taken app did.Failed wants none = refl
none_taken app did.NoMemory wants none = refl

none_refused : (app : ℕ) (answer : Done) (wants : Want) → sent_to app wants ≡ [] → refused_of app answer wants ≡ []
none_refused app did.Yes wants none = refl
none_refused app did.Failed wants none = none
none_refused app did.NoMemory wants none = refl

module _ (app : ℕ) (old new : ControlTold) where
  posted_quiet : (answer : Done) (wants : Want) → sent_to app wants ≡ [] → new ≡ old → IsPosted app answer wants old new
  posted_quiet answer wants none same =
      let nothing = none_refused app answer wants none in
      record {
        took = ap (λ (d : ControlTold). d.pushed app) same ∙ sym (append-nil (old.pushed app)) ∙ ap (λ (xs : List Injection). old.pushed app ++ xs) (sym (none_taken app answer wants none));
        refused = ap (λ (d : ControlTold). d.refusals app) same ∙ sym (add-zero (old.refusals app)) ∙ ap (λ (xs : List Injection). old.refusals app + length xs) (sym nothing);
        full = λ some. absurd (omega (arith, some, ap length nothing));
      }

  posted_pushed : (other : ℕ) (item : Injection) → new ≡ with_pushed other item old → IsPosted app did.Yes (want.Inject other item) old new
  posted_pushed other item is = record {
    took = ap (λ (d : ControlTold). d.pushed app) is ∙ by (app == other);
    refused = ap (λ (d : ControlTold). d.refusals app) is ∙ sym (add-zero (old.refusals app));
    full = λ some. absurd (omega (arith, some));
  } where
    by : (b : Bool) → cond b (old.pushed app ++ item ∷ []) (old.pushed app) ≡ old.pushed app ++ cond b (item ∷ []) []
    by true = refl
    by false = sym (append-nil (old.pushed app))

  posted_refused : (other : ℕ) (item : Injection) → new ≡ with_refused other old → 16 ≤ length (old.pushed other) → IsPosted app did.Failed (want.Inject other item) old new
  posted_refused other item is many = record {
    took = ap (λ (d : ControlTold). d.pushed app) is ∙ sym (append-nil (old.pushed app));
    refused = ap (λ (d : ControlTold). d.refusals app) is ∙ by (app == other);
    full = λ some. elim (eqb_tells app other) [
      | inl same ↦ subst (λ (n : ℕ). 16 ≤ length (old.pushed n)) (sym same.1) many
      | inr apart ↦ absurd (omega (arith, some, ap (λ (b : Bool). length (cond b (item ∷ []) [])) apart.0))
    ];
  } where
    by : (b : Bool) → cond b (old.refusals app + 1) (old.refusals app) ≡ old.refusals app + length (cond b (item ∷ []) [])
    by true = refl
    by false = sym (add-zero (old.refusals app))

  posted_by : (wants : Want) (pushed : Bool) (answer : Done) (folder folder_now : FolderTold) → Answers wants pushed answer folder folder_now → Posts wants pushed old new
      → IsPosted app answer wants old new
  posted_by want.Nothing pushed answer folder folder_now acts same = posted_quiet answer want.Nothing refl same
  posted_by (want.Put text stored) pushed answer folder folder_now acts same = posted_quiet answer (want.Put text stored) refl same
  posted_by want.Remove pushed answer folder folder_now acts same = posted_quiet answer want.Remove refl same
  posted_by (want.Inject other item) true answer folder folder_now acts is =
      subst (λ (a : Done). IsPosted app a (want.Inject other item) old new) (sym acts.0) (posted_pushed other item is)
  posted_by (want.Inject other item) false answer folder folder_now acts is =
      subst (λ (a : Done). IsPosted app a (want.Inject other item) old new) (sym acts.0) (posted_refused other item is.0 is.1)

-- its Request event says so
pub posted_request : (run : Run) (past : List Event) (taken : ℕ → List ℕ) (core : Core) → IsAfter run past taken core → (client : ℕ) (frame : List ℕ) (wants : Want) (pushed : Bool) (answer : Done)
    (folder folder_now : FolderTold) (old new : ControlTold) → wants ≡ wanted_now core frame → Answers wants pushed answer folder folder_now → Posts wants pushed old new
    → (app : ℕ) → HasInjected run.setting past (event.Request client frame answer ∷ []) app old new
posted_request run past taken core after client frame wants pushed answer folder folder_now old new is acts posts app =
    let one = posted_by app old new wants pushed answer folder folder_now acts posts in
    let same = is ∙ wanted_is run past taken core frame after in
    record {
      took = one.took ∙ ap (λ (w : Want). old.pushed app ++ taken_of app answer w) same
          ∙ ap (λ (xs : List Injection). old.pushed app ++ xs) (sym (append-nil (taken_of app answer (wanted_after run.setting past frame))));
      refused = one.refused ∙ ap (λ (w : Want). old.refusals app + length (refused_of app answer w)) same
          ∙ ap (λ (xs : List Injection). old.refusals app + length xs) (sym (append-nil (refused_of app answer (wanted_after run.setting past frame))));
      full = (λ some. one.full (subst (λ (w : Want). 0 < length (refused_of app answer w)) (sym same) some), tt);
    }

-- which levels were set and which applications there are is as before
pub posts_keep : (wants : Want) (pushed : Bool) (old new : ControlTold) → Posts wants pushed old new → (new.sets ≡ old.sets) × (new.apps ≡ old.apps) × (new.first ≡ old.first)
posts_keep (want.Inject other item) true old new is = (ap (λ (d : ControlTold). d.sets) is, ap (λ (d : ControlTold). d.apps) is, ap (λ (d : ControlTold). d.first) is)
posts_keep (want.Inject other item) false old new is = (ap (λ (d : ControlTold). d.sets) is.0, ap (λ (d : ControlTold). d.apps) is.0, ap (λ (d : ControlTold). d.first) is.0)
posts_keep want.Nothing pushed old new is = (ap (λ (d : ControlTold). d.sets) is, ap (λ (d : ControlTold). d.apps) is, ap (λ (d : ControlTold). d.first) is)
posts_keep (want.Put text stored) pushed old new is = (ap (λ (d : ControlTold). d.sets) is, ap (λ (d : ControlTold). d.apps) is, ap (λ (d : ControlTold). d.first) is)
posts_keep want.Remove pushed old new is = (ap (λ (d : ControlTold). d.sets) is, ap (λ (d : ControlTold). d.apps) is, ap (λ (d : ControlTold). d.first) is)

-- ---- other events, and many

module _ (setting : Setting) (past : List Event) (app : ℕ) (old new : ControlTold) (pushed : new.pushed app ≡ old.pushed app) (refusals : new.refusals app ≡ old.refusals app) where
  pub posted_none : HasInjected setting past [] app old new
  posted_none = record { took = pushed ∙ sym (append-nil (old.pushed app)); refused = refusals ∙ sym (add-zero (old.refusals app)); full = tt }

  pub posted_level : (slot level : ℕ) → HasInjected setting past (event.Level slot level ∷ []) app old new
  posted_level slot level = record {
    took = pushed ∙ sym (append-nil (old.pushed app));
    refused = refusals ∙ sym (add-zero (old.refusals app));
    full = (λ some. absurd (omega (arith, some)), tt);
  }

  pub posted_close : (client : ℕ) (why : Why) → HasInjected setting past (event.Close client why ∷ []) app old new
  posted_close client why = record {
    took = pushed ∙ sym (append-nil (old.pushed app));
    refused = refusals ∙ sym (add-zero (old.refusals app));
    full = (λ some. absurd (omega (arith, some)), tt);
  }

full_both : (setting : Setting) (app count : ℕ) (past first second : List Event) → AreRefusedFull setting app count past first
    → AreRefusedFull setting app (count + length (injected_by setting app past first)) (past ++ first) second → AreRefusedFull setting app count past (first ++ second)
full_both setting app count past [] second one two =
    subst (λ (n : ℕ). AreRefusedFull setting app n past second) (add-zero count) (subst (λ (es : List Event). AreRefusedFull setting app (count + 0) es second) (append-nil past) two)
full_both setting app count past (e ∷ first) second one two =
    let here = injected_at setting app past e in
    let later = injected_by setting app (past ++ e ∷ []) first in
    let all : count + length (here ++ later) ≡ count + length here + length later = omega (arith, length-append here later) in (
      one.0,
      full_both setting app (count + length here) (past ++ e ∷ []) first second one.1
          (subst (λ (es : List Event). AreRefusedFull setting app (count + length here + length later) es second) (sym (append_assoc past (e ∷ []) first))
          (subst (λ (n : ℕ). AreRefusedFull setting app n (past ++ e ∷ first) second) all two)),
    )

pub posted_both : (setting : Setting) (past first second : List Event) (app : ℕ) (a b c : ControlTold) → HasInjected setting past first app a b → HasInjected setting (past ++ first) second app b c
    → HasInjected setting past (first ++ second) app a c
posted_both setting past first second app a b c one two =
    let taken = along_from-append (injected_at setting app) past first second in
    let refused = along_from-append (refused_at setting app) past first second in
    let xs = refused_by setting app past first in
    let ys = refused_by setting app (past ++ first) second in
    let sum : length (refused_by setting app past (first ++ second)) ≡ length xs + length ys = ap length refused ∙ length-append xs ys in
    let pushed : length (b.pushed app) ≡ length (a.pushed app) + length (injected_by setting app past first) = ap length one.took ∙ length-append (a.pushed app) (injected_by setting app past first) in
    record {
      took = two.took ∙ ap (λ (ps : List Injection). ps ++ injected_by setting app (past ++ first) second) one.took
          ∙ append_assoc (a.pushed app) (injected_by setting app past first) (injected_by setting app (past ++ first) second) ∙ ap (λ (ps : List Injection). a.pushed app ++ ps) (sym taken);
      refused = omega (arith, one.refused, two.refused, sum);
      full = full_both setting app (length (a.pushed app)) past first second one.full (subst (λ (n : ℕ). AreRefusedFull setting app n (past ++ first) second) pushed two.full);
    }
