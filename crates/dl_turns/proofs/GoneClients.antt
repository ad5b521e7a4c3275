-- A client is open after its turn as it was before, or has gone as the model says.
use Rattle.std.proofs.Common.{◌≡◌, ◌≢◌, ℕ, List, [], ◌∷◌, ◌++◌, length, Option, Some, None, refl, sym, ap, subst, ◌∙◌, append_assoc}
use Rattle.std.specs.Prelude.{IsSomeAnd}
use Rattle.std.specs.List.{AllByRecursion, concat, cons_option}
use Rattle.std.proofs.lemmas.List.{append-nil}
use Rattle.std.proofs.lemmas.Bool.{eq-eqb, ne_eqb}
use Rattle.dl_events.specs.declared.event.Event.{Event}
use Rattle.dl_events.specs.declared.event.Event.TheVariants as event
use Rattle.dl_events.specs.declared.event.Why.{Why}
use Rattle.dl_events.specs.declared.event.Why.TheVariants.{Left, Broken, Slow, Malformed, TooMany, NoMemory, Stuck, Stopped}
use Rattle.dl_model.specs.Backlog.{outbox_limit}
use Rattle.dl_model.specs.ClientEnds.{HasGone, IsCause, IsMalformed, LinkDid, asked_by, asked_in}
use Rattle.dl_model.specs.ClientStream.{sent, stream, traffic}
use Rattle.dl_model.specs.Setting.{Setting}
use Rattle.dl_hub.specs.Follows.{took_more}
use Rattle.dl_hub.specs.State.{Client, client_of}
use Rattle.dl_core.specs.Follows.{IsAfter, Run, source_of}
use Rattle.dl_core.specs.State.{Core}
use Rattle.dl_core.proofs.OpenClients.{its_stream}
use Rattle.dl_turns.specs.Gone.{IsShown}
use Rattle.dl_turns.specs.Later.{HasHeard, IsCalm, IsLater, IsLaterStage, IsOpenWith, LeavesSo, close_of}
use Rattle.dl_turns.specs.State.{Side, Stage}
use Rattle.dl_turns.proofs.HeardSides.{asked_both}

-- what is left of its stream
record IsLeftOf (run : Run) (past : List Event) (client : ℕ) (why : Why) (took : List ℕ) : Type 0 where
  left : List ℕ
  parts : concat (stream (source_of run) run.setting.buffer client past) ≡ took ++ left
  leaves : LeavesSo (outbox_limit run.setting.buffer) why (length left)

left_by : (run : Run) (past : List Event) (taken : ℕ → List ℕ) (core : Core) (client : ℕ) (why : Why) → IsAfter run past taken core → (o : Option Client) → client_of core.hub client ≡ o
    → IsSomeAnd o (λ c. (c.outbox ≡ None) × LeavesSo (outbox_limit core.hub.buffer) why c.left) → IsLeftOf run past client why (taken client)
left_by run past taken core client why is None there gone = absurd gone
left_by run past taken core client why is (Some c) there gone =
    let its = its_stream run past taken core is client c there in
    let rest = its.gone gone.0 in
    let frames : (ecu : List ℕ) (buffer : ℕ) → List (List ℕ) = λ ecu buffer. sent ecu buffer client (traffic (source_of run) past) in
    let ecu : concat (frames core.hub.ecu core.hub.buffer) ≡ concat (frames run.setting.ecu core.hub.buffer) = ap (λ (e : List ℕ). concat (frames e core.hub.buffer)) is.set_to.unit in
    let buffer : concat (frames run.setting.ecu core.hub.buffer) ≡ concat (frames run.setting.ecu run.setting.buffer) = ap (λ (b : ℕ). concat (frames run.setting.ecu b)) is.set_to.buffer in
    record {
      left = rest.0;
      parts = sym (ecu ∙ buffer) ∙ rest.1;
      leaves = subst (λ (n : ℕ). LeavesSo (outbox_limit run.setting.buffer) why n) (sym rest.2)
          (subst (λ (b : ℕ). LeavesSo (outbox_limit b) why c.left) is.set_to.buffer gone.1);
    }

-- the cause is so
cause_so : (setting : Setting) (did : LinkDid) (left : ℕ) (why : Why) → (Some why ≡ Some Malformed → IsMalformed did.given) → LeavesSo (outbox_limit setting.buffer) why left → IsShown did why
    → IsCause setting did left why
cause_so setting did left Left bad leaves shown = shown
cause_so setting did left Broken bad leaves shown = shown
cause_so setting did left Malformed bad leaves shown = bad refl
cause_so setting did left (Slow room need) bad leaves shown = leaves
cause_so setting did left (Stuck bytes) bad leaves shown = (leaves.0, leaves.1, shown.0, shown.1)
cause_so setting did left Stopped bad leaves shown = (leaves, shown)
cause_so setting did left TooMany bad leaves shown = tt
cause_so setting did left NoMemory bad leaves shown = tt

same_cause : (why cause : Why) → Some why ≡ Some cause → why ≡ cause
same_cause why cause is = cc is

pub goes : (client : ℕ) (why : Why) (old new : Stage) (later : IsLaterStage client (Some why) old new) (run : Run) (past : List Event) (taken : ℕ → List ℕ) (from : List ℕ) (did : LinkDid)
    → IsOpenWith client run past taken from old → did.given ≡ from ++ later.given → did.taken ≡ taken client ++ later.sent → IsShown did why
    → HasGone run.setting (source_of run) (past ++ later.side.more) client did
goes client why old new later run past taken from did was given took shown =
    let side = later.side in
    let after = (side.after run past taken was.after).0 in
    let heard = later.heard run past taken from was in
    let here : took_more taken client later.sent client ≡ taken client ++ later.sent = rw (eq-eqb client client refl) refl in
    let left = left_by run (past ++ side.more) (took_more taken client later.sent) new.side.core client why after (client_of new.side.core.hub client) refl side.leaves in
    let heard_now = subst (λ (bytes : List ℕ). HasHeard (source_of run) (past ++ side.calm) client (Some why) bytes) (sym given) heard in
    record {
      before = past ++ side.calm;
      cause = why;
      after = [];
      place = ap (λ (es : List Event). past ++ es) side.ends ∙ sym (append_assoc past side.calm (close_of client (Some why)));
      left = left.left;
      took = left.parts ∙ ap (λ (bytes : List ℕ). bytes ++ left.left) (here ∙ sym took);
      so = cause_so run.setting did (length left.left) why (λ is. heard_now.bad is) left.leaves shown;
      asked = heard_now.asked;
      malformed = λ is same. same_cause why Malformed (heard_now.malformed is same);
      too_many = λ many full. same_cause why TooMany (heard_now.too_many many full);
    }

-- ---- a client that stays

pub stays : (client : ℕ) (old new : Stage) (later : IsLaterStage client None old new) (run : Run) (past : List Event) (taken : ℕ → List ℕ) (from : List ℕ) → IsOpenWith client run past taken from old
    → IsOpenWith client run (past ++ later.side.more) (took_more taken client later.sent) (from ++ later.given) new
stays client old new later run past taken from was =
    let all : later.side.more ≡ later.side.calm = later.side.ends ∙ append-nil later.side.calm in
    record {
      after = (later.side.after run past taken was.after).0;
      cut = later.cut from refl was.cut;
      asked = ap (λ (es : List Event). asked_by client (past ++ es)) all ∙ sym (later.heard run past taken from was).asked;
    }

-- and the others
unasked_one : (client other : ℕ) (e : Event) (others : List (List ℕ)) → other ≢ client → IsCalm client e → cons_option (asked_in other e) others ≡ others
unasked_one client other (event.Request asker frame answer) others apart calm =
    rw (ne_eqb asker other (λ same. apart (sym same ∙ calm))) refl
unasked_one client other (event.Level slot level) others apart calm = refl
unasked_one client other _ others apart calm = absurd calm

unasked_calm : (client other : ℕ) (events : List Event) → other ≢ client → AllByRecursion (IsCalm client) events → asked_by other events ≡ []
unasked_calm client other [] apart all = refl
unasked_calm client other (e ∷ events) apart all = unasked_one client other e (asked_by other events) apart all.0 ∙ unasked_calm client other events apart all.1

unasked_close : (client other : ℕ) (why : Option Why) → asked_by other (close_of client why) ≡ []
unasked_close client other None = refl
unasked_close client other (Some why) = refl

pub unasked : (client other : ℕ) (why : Option Why) (sent : List ℕ) (old new : Side) (later : IsLater client why sent old new) → other ≢ client → asked_by other later.more ≡ []
unasked client other why sent old new later apart =
    ap (asked_by other) later.ends ∙ asked_both other later.calm (close_of client why)
    ∙ ap (λ (fs : List (List ℕ)). fs ++ asked_by other (close_of client why)) (unasked_calm client other later.calm apart later.all_calm) ∙ unasked_close client other why
