-- Log calls of a batch, one after the other.
use Rattle.std.proofs.Common.{◌≡◌, ℕ, ◌+◌, List, [], ◌∷◌, ◌++◌, length, map, suc, Option, Some, None, sym, ap, subst, ◌∙◌, append_assoc, length-append, arith}
use Rattle.std.specs.Prelude.{IfSome, option_map}
use Rattle.std.proofs.lemmas.List.{map-append}
use Rattle.std.proofs.lemmas.List.Sums.{sum_by-cons}
use Rattle.dl_bytes.specs.declared.item.Item.{Item}
use Rattle.dl_bytes.specs.declared.moment.Moment.{Moment}
use Rattle.dl_events.specs.Journal as notes
use Rattle.dl_events.specs.Journal.{one_more}
use Rattle.dl_events.specs.declared.event.Event.{Event}
use Rattle.dl_message.specs.Frames.{log_message}
use Rattle.dl_model.specs.Backlog.{size_of}
use Rattle.dl_model.specs.Frames.{stored}
use Rattle.dl_model.specs.Traffic.{Admitted}
use Rattle.dl_hub.specs.State.{Hub, IsSameHub, EachHasRoom, is_open, replies_of}
use Rattle.dl_hub.specs.Follows.{Adds}
use Rattle.dl_trace.specs.declared.writer.TraceWriter.{TraceWriter}
use Rattle.dl_core.specs.Admission.{Admits, AddsEach, log_event, more_noted}
use Rattle.dl_trace.specs.Writer.{trace_in}
use Rattle.dl_core.proofs.Admitted.{admits-one, same_hub-later}

-- a call's frame as it is stored
abbrev pub stored_call : List ℕ → Moment → Item → List ℕ
stored_call ecu moment item = stored ecu moment (log_message ecu item)

-- these calls are admitted, gathered and noted, and those are left
pub record Gathered (ecu : List ℕ) (moment : Moment) (done left : List Item) (h0 h1 : Hub) (w0 w1 : Option TraceWriter) (e0 e1 : Option (List Event)) (n0 n1 s0 s1 : ℕ) : Type 0 where
  pub adds : Admits (map (log_message ecu) done) h0 h1
  pub same : IsSameHub h0 h1
  pub still_open : map is_open h1.clients ≡ map is_open h0.clients
  pub replies : replies_of h1 ≡ replies_of h0
  pub admitted : h1.admitted ≡ h0.admitted + length done
  pub trace_is : trace_in w1 ≡ trace_in w0
  pub batch_is : IfSome w1 (λ (w : TraceWriter). w.batch ≡ map (stored_call ecu moment) done)
  pub events_are : AddsEach e0 e1 (map (log_event moment) done)
  pub noted_so : n1 ≡ more_noted (length done) n0
  pub spare_is : s1 + length done ≡ s0
  pub room : EachHasRoom (size_of (map (log_message ecu) left)) h1

pub each-more : (e0 e1 e2 : Option (List Event)) (more : List Event) (event : Event) → AddsEach e0 e1 more → notes.Adds e1 e2 event → AddsEach e0 e2 (more ++ event ∷ [])
each-more None None e2 more event first second = second
each-more None (Some x) e2 more event first second = absurd (cc first)
each-more (Some x) None e2 more event first second = absurd (cc first)
each-more (Some x) (Some y) e2 more event first second =
    let same : y ≡ x ++ more = cc first in
    second ∙ ap Some (ap (λ (es : List Event). es ++ event ∷ []) same ∙ append_assoc x more (event ∷ []))

pub batch-more : (w1 w2 : Option TraceWriter) (frames : List (List ℕ)) (frame : List ℕ) → IfSome w1 (λ (w : TraceWriter). w.batch ≡ frames)
    → option_map (λ (w : TraceWriter). w.batch) w2 ≡ option_map (λ (w : TraceWriter). w.batch ++ frame ∷ []) w1
    → IfSome w2 (λ (w : TraceWriter). w.batch ≡ frames ++ frame ∷ [])
batch-more w1 None frames frame is more = tt {0}
batch-more None (Some y) frames frame is more = absurd (cc more)
batch-more (Some x) (Some y) frames frame is more =
    let here : y.batch ≡ x.batch ++ frame ∷ [] = cc more in
    here ∙ ap (λ (fs : List (List ℕ)). fs ++ frame ∷ []) is

-- one call more
pub gathers_one : (ecu : List ℕ) (moment : Moment) (done left : List Item) (item : Item) (frame : List ℕ) (h0 h1 h2 : Hub) (w0 w1 w2 : Option TraceWriter) (e0 e1 e2 : Option (List Event)) (n0 n1 n2 s0 s1 s2 : ℕ)
    → Gathered ecu moment done (item ∷ left) h0 h1 w0 w1 e0 e1 n0 n1 s0 s1
    → frame ≡ log_message ecu item
    → Adds (Admitted frame) h1 h2 → ((more : ℕ) → EachHasRoom (length frame + more) h1 → EachHasRoom more h2) → IsSameHub h1 h2
    → map is_open h2.clients ≡ map is_open h1.clients → replies_of h2 ≡ replies_of h1 → h2.admitted ≡ h1.admitted + 1
    → trace_in w2 ≡ trace_in w1
    → option_map (λ (w : TraceWriter). w.batch) w2 ≡ option_map (λ (w : TraceWriter). w.batch ++ stored ecu moment frame ∷ []) w1
    → notes.Adds e1 e2 (log_event moment item) → n2 ≡ one_more n1 → s2 + 1 ≡ s1
    → Gathered ecu moment (done ++ item ∷ []) left h0 h2 w0 w2 e0 e2 n0 n2 s0 s2
gathers_one ecu moment done left item frame h0 h1 h2 w0 w1 w2 e0 e1 e2 n0 n1 n2 s0 s1 s2 far what adds rooms same still asked admitted trace batch event noted spare =
    let count : length (done ++ item ∷ []) ≡ suc (length done) = length-append done (item ∷ []) ∙ omega arith in record {
      adds = subst (λ (fs : List (List ℕ)). Admits fs h0 h2) (sym (map-append (log_message ecu) done (item ∷ [])))
          (admits-one (map (log_message ecu) done) (log_message ecu item) h0 h1 h2 far.adds (subst (λ (f : List ℕ). Adds (Admitted f) h1 h2) what adds));
      same = same_hub-later h0 h1 h2 far.same same;
      still_open = still ∙ far.still_open;
      replies = asked ∙ far.replies;
      admitted = omega (arith, admitted, far.admitted, count);
      trace_is = trace ∙ far.trace_is;
      batch_is = subst (λ (fs : List (List ℕ)). IfSome w2 (λ (w : TraceWriter). w.batch ≡ fs)) (sym (map-append (stored_call ecu moment) done (item ∷ [])))
          (batch-more w1 w2 (map (stored_call ecu moment) done) (stored_call ecu moment item) far.batch_is
          (subst (λ (f : List ℕ). option_map (λ (w : TraceWriter). w.batch) w2 ≡ option_map (λ (w : TraceWriter). w.batch ++ stored ecu moment f ∷ []) w1) what batch));
      events_are = subst (λ (es : List Event). AddsEach e0 e2 es) (sym (map-append (log_event moment) done (item ∷ [])))
          (each-more e0 e1 e2 (map (log_event moment) done) (log_event moment item) far.events_are event);
      noted_so = noted ∙ ap one_more far.noted_so ∙ ap (λ (k : ℕ). more_noted k n0) (sym count);
      spare_is = omega (arith, spare, far.spare_is, count);
      room =
          let size : size_of (map (log_message ecu) (item ∷ left)) ≡ length frame + size_of (map (log_message ecu) left) =
          sum_by-cons length (log_message ecu item) (map (log_message ecu) left) ∙ ap (λ (f : List ℕ). length f + size_of (map (log_message ecu) left)) (sym what) in
          rooms (size_of (map (log_message ecu) left)) (subst (λ (n : ℕ). EachHasRoom n h1) size far.room);
    }
