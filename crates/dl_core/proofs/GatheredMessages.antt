-- Log messages of a batch, one after the other.
use Rattle.std.proofs.Common.{◌≡◌, ℕ, ◌+◌, List, [], ◌∷◌, ◌++◌, length, map, take, drop, zero, suc, Option, Some, None, refl, sym, ap, subst, ◌∙◌, append-nil, append_assoc, length-append, arith}
use Rattle.std.specs.List.{AllByRecursion}
use Rattle.std.specs.Prelude.{IfSome, option_map, option_to_list, slice_get}
use Rattle.std.proofs.lemmas.Grind.{flat_map-append}
use Rattle.std.proofs.lemmas.List.{map-append}
use Rattle.std.proofs.lemmas.List.Sums.{sum_by-append, sum_by-cons}
use Rattle.dl_bytes.specs.declared.moment.Moment.{Moment}
use Rattle.dl_bytes.specs.declared.user.UserMsg.{UserMsg}
use Rattle.dl_bytes.specs.declared.user.UserMsg.TheVariants as user
use Rattle.dl_events.specs.Journal as notes
use Rattle.dl_events.specs.Journal.{one_more}
use Rattle.dl_events.specs.declared.event.Event.{Event}
use Rattle.dl_model.specs.Backlog.{size_of}
use Rattle.dl_model.specs.Frames.{stored, user_frames}
use Rattle.dl_model.specs.Traffic.{Admitted}
use Rattle.dl_hub.specs.State.{Hub, IsSameHub, EachHasRoom, is_open, replies_of}
use Rattle.dl_hub.specs.Follows.{Adds}
use Rattle.dl_trace.specs.declared.writer.TraceWriter.{TraceWriter}
use Rattle.dl_core.specs.Admission.{Admits, AddsEach, IsLog, message_frames, more_noted, user_event}
use Rattle.dl_trace.specs.Writer.{trace_in}
use Rattle.dl_core.proofs.Admitted.{admits-none, admits-one, same_hub-later}
use Rattle.dl_core.proofs.Gathered.{batch-more, each-more}

-- ---- lists

-- the first one, and what is behind it
pub popped : {A : Type 0} (xs : List A) (x : A) → Some x ≡ slice_get xs 0 → xs ≡ x ∷ drop 1 xs
popped [] x is = absurd (cc is)
popped {A} (y ∷ ys) x is = let same : x ≡ y = cc is in ap (λ (z : A). z ∷ ys) (sym same)

pub none_popped : {A : Type 0} (xs : List A) → None ≡ slice_get xs 0 → xs ≡ []
none_popped [] is = refl
none_popped (y ∷ ys) is = absurd (cc is)

take_next : {A : Type 0} (xs : List A) (k : ℕ) → take (suc k) xs ≡ take k xs ++ option_to_list (slice_get xs k)
take_next [] zero = refl
take_next [] (suc k) = refl
take_next (x ∷ xs) zero = refl
take_next {A} (x ∷ xs) (suc k) = ap (λ (ys : List A). x ∷ ys) (take_next xs k)

-- ---- the frames of log messages

pub one_frame : (ecu : List ℕ) (msg : UserMsg) → IsLog msg → length (user_frames ecu msg) ≡ 1
one_frame ecu (user.Log message) is = refl
one_frame ecu (user.Overflow counter apid) is = absurd is
one_frame ecu (user.RegisterApp apid pid text) is = absurd is
one_frame ecu (user.UnregisterApp apid pid) is = absurd is
one_frame ecu (user.RegisterContext apid ctid position level trace pid text) is = absurd is
one_frame ecu (user.UnregisterContext apid ctid pid) is = absurd is
one_frame ecu (user.LogLevel a b c) is = absurd is
one_frame ecu (user.Injection a b c) is = absurd is

-- each has one
pub one_each : (ecu : List ℕ) (msgs : List UserMsg) → AllByRecursion IsLog msgs → length (message_frames ecu msgs) ≡ length msgs
one_each ecu [] all = refl
one_each ecu (msg ∷ msgs) all = omega (arith, length-append (user_frames ecu msg) (message_frames ecu msgs), one_frame ecu msg all.0, one_each ecu msgs all.1)

-- how many bytes the frames have, with those of one message more
pub need_more : (ecu : List ℕ) (msgs : List UserMsg) (place need more : ℕ) → need ≡ size_of (message_frames ecu (take place msgs))
    → more ≡ size_of (message_frames ecu (option_to_list (slice_get msgs place))) → need + more ≡ size_of (message_frames ecu (take (place + 1) msgs))
need_more ecu msgs place need more so one =
    let next : place + 1 ≡ suc place = omega arith in
    let first = message_frames ecu (take place msgs) in
    let other = message_frames ecu (option_to_list (slice_get msgs place)) in
    let all : message_frames ecu (take (place + 1) msgs) ≡ first ++ other =
    ap (λ (k : ℕ). message_frames ecu (take k msgs)) next ∙ ap (message_frames ecu) (take_next msgs place) ∙ flat_map-append (user_frames ecu) (take place msgs) (option_to_list (slice_get msgs place)) in
    omega (arith, so, one, ap size_of all, sum_by-append length first other)

-- ---- one after the other

-- some of these messages are admitted, gathered and noted, and those are left
pub record GatheredMessages (ecu : List ℕ) (moment : Moment) (channel : ℕ) (all left : List UserMsg) (h0 h1 : Hub) (w0 w1 : Option TraceWriter) (e0 e1 : Option (List Event)) (n0 n1 s0 s1 : ℕ) : Type 0 where
  pub done : List UserMsg
  pub all_is : all ≡ done ++ left
  pub logs : AllByRecursion IsLog left
  pub one_each : length (message_frames ecu done) ≡ length done
  pub adds : Admits (message_frames ecu done) h0 h1
  pub same : IsSameHub h0 h1
  pub still_open : map is_open h1.clients ≡ map is_open h0.clients
  pub replies : replies_of h1 ≡ replies_of h0
  pub admitted : h1.admitted ≡ h0.admitted + length done
  pub trace_is : trace_in w1 ≡ trace_in w0
  pub batch_is : IfSome w1 (λ (w : TraceWriter). w.batch ≡ map (stored ecu moment) (message_frames ecu done))
  pub events_are : AddsEach e0 e1 (map (user_event moment channel) done)
  pub noted_so : n1 ≡ more_noted (length done) n0
  pub spare_is : s1 + length done ≡ s0
  pub room : EachHasRoom (size_of (message_frames ecu left)) h1

none_added : (e : Option (List Event)) → AddsEach e e []
none_added None = refl
none_added (Some events) = ap Some (sym (append-nil events))

pub gathers_none : (ecu : List ℕ) (moment : Moment) (channel : ℕ) (all : List UserMsg) (h : Hub) (w : Option TraceWriter) (e : Option (List Event)) (n s : ℕ)
    → AllByRecursion IsLog all → IfSome w (λ (w : TraceWriter). w.batch ≡ []) → EachHasRoom (size_of (message_frames ecu all)) h
    → GatheredMessages ecu moment channel all all h h w w e e n n s s
gathers_none ecu moment channel all h w e n s logs empty room = record {
  done = [];
  all_is = refl;
  logs = logs;
  one_each = refl;
  adds = admits-none h;
  same = record { ecu = refl; buffer = refl; limit = refl };
  still_open = refl;
  replies = refl;
  admitted = omega arith;
  trace_is = refl;
  batch_is = empty;
  events_are = none_added e;
  noted_so = refl;
  spare_is = omega arith;
  room = room;
}

module _ (ecu : List ℕ) (moment : Moment) (channel : ℕ) (all left : List UserMsg) (msg : UserMsg) (frame : List ℕ) (h0 h1 h2 : Hub) (w0 w1 w2 : Option TraceWriter)
    (e0 e1 e2 : Option (List Event)) (n0 n1 n2 s0 s1 s2 : ℕ) (far : GatheredMessages ecu moment channel all (msg ∷ left) h0 h1 w0 w1 e0 e1 n0 n1 s0 s1)
    (what : (ecu : List ℕ) → user_frames ecu msg ≡ frame ∷ []) where
  here : all ≡ far.done ++ msg ∷ left
  here = far.all_is

  size : size_of (message_frames ecu (msg ∷ left)) ≡ length frame + size_of (message_frames ecu left)
  size = ap (λ (fs : List (List ℕ)). size_of (fs ++ message_frames ecu left)) (what ecu) ∙ sum_by-cons length frame (message_frames ecu left)

  -- one message more
  pub gathers_message : Adds (Admitted frame) h1 h2 → ((more : ℕ) → EachHasRoom (length frame + more) h1 → EachHasRoom more h2) → IsSameHub h1 h2
      → map is_open h2.clients ≡ map is_open h1.clients → replies_of h2 ≡ replies_of h1 → h2.admitted ≡ h1.admitted + 1
      → trace_in w2 ≡ trace_in w1
      → option_map (λ (w : TraceWriter). w.batch) w2 ≡ option_map (λ (w : TraceWriter). w.batch ++ stored ecu moment frame ∷ []) w1
      → notes.Adds e1 e2 (user_event moment channel msg) → n2 ≡ one_more n1 → s2 + 1 ≡ s1
      → GatheredMessages ecu moment channel all left h0 h2 w0 w2 e0 e2 n0 n2 s0 s2
  gathers_message adds rooms same still asked admitted trace batch event noted spare =
      let done = far.done ++ msg ∷ [] in
      let count : length done ≡ suc (length far.done) = length-append far.done (msg ∷ []) ∙ omega arith in
      let frames : message_frames ecu done ≡ message_frames ecu far.done ++ frame ∷ [] =
      flat_map-append (user_frames ecu) far.done (msg ∷ []) ∙ ap (λ (fs : List (List ℕ)). message_frames ecu far.done ++ (fs ++ [])) (what ecu) in
      let each : map (stored ecu moment) (message_frames ecu done) ≡ map (stored ecu moment) (message_frames ecu far.done) ++ stored ecu moment frame ∷ [] =
      ap (map (stored ecu moment)) frames ∙ map-append (stored ecu moment) (message_frames ecu far.done) (frame ∷ []) in
      record {
        done = done;
        all_is = here ∙ sym (append_assoc far.done (msg ∷ []) left);
        logs = far.logs.1;
        one_each = omega (arith, ap length frames, length-append (message_frames ecu far.done) (frame ∷ []), far.one_each, count);
        adds = subst (λ (fs : List (List ℕ)). Admits fs h0 h2) (sym frames) (admits-one (message_frames ecu far.done) frame h0 h1 h2 far.adds adds);
        same = same_hub-later h0 h1 h2 far.same same;
        still_open = still ∙ far.still_open;
        replies = asked ∙ far.replies;
        admitted = omega (arith, admitted, far.admitted, count);
        trace_is = trace ∙ far.trace_is;
        batch_is = subst (λ (fs : List (List ℕ)). IfSome w2 (λ (w : TraceWriter). w.batch ≡ fs)) (sym each)
            (batch-more w1 w2 (map (stored ecu moment) (message_frames ecu far.done)) (stored ecu moment frame) far.batch_is batch);
        events_are = subst (λ (es : List Event). AddsEach e0 e2 es) (sym (map-append (user_event moment channel) far.done (msg ∷ [])))
            (each-more e0 e1 e2 (map (user_event moment channel) far.done) (user_event moment channel msg) far.events_are event);
        noted_so = noted ∙ ap one_more far.noted_so ∙ ap (λ (k : ℕ). more_noted k n0) (sym count);
        spare_is = omega (arith, spare, far.spare_is, count);
        room = rooms (size_of (message_frames ecu left)) (subst (λ (n : ℕ). EachHasRoom n h1) size far.room);
      }

-- all are gathered where none is left
pub whole_batch : (all left done : List UserMsg) → all ≡ done ++ left → left ≡ [] → done ≡ all
whole_batch all left done is none = sym (append-nil done) ∙ ap (λ (ms : List UserMsg). done ++ ms) (sym none) ∙ sym is
