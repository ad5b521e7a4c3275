-- One client behind one event more, and what becomes of a frame.
use Rattle.std.proofs.Common.{◌≡◌, ℕ, ◌+◌, ◌-◌, ◌≤◌, Bool, true, false, cond, eqb, leb, List, [], ◌∷◌, ◌++◌, length, map, Option, refl, sym, ap, ◌∙◌, length-append, arith, inl, inr}
use Rattle.std.specs.Prelude.{◌⊎◌, ◌&&◌, ◌≢◌, replicate, zero, suc}
use Rattle.std.proofs.lemmas.Bool.{lt-leb}
use Rattle.std.proofs.lemmas.Bool.Decides.{eqb_tells, leb_tells}
use Rattle.std.proofs.lemmas.List.{append-nil, length-map}
use Rattle.std.proofs.lemmas.List.Sums.{sum_by-append}
use Rattle.dl_bytes.specs.declared.outcome.Backlog.{Backlog}
use Rattle.dl_control.specs.Reply.{daemon_apid, daemon_ctid}
use Rattle.dl_message.specs.Frames.{overflow_record}
use Rattle.dl_events.specs.declared.event.Event.{Event}
use Rattle.dl_events.specs.declared.event.Event.TheVariants as event
use Rattle.dl_bytes.specs.declared.outcome.Done.{Done}
use Rattle.dl_model.specs.Along.{along_from}
use Rattle.dl_model.specs.Backlog.{due_backlog, fitting, refused, size_of, waiting}
use Rattle.dl_model.specs.ClientStream.{put, sent, stream, traffic, traffic_of}
use Rattle.dl_model.specs.Frames.{FrameSource, frames_of}
use Rattle.dl_model.specs.Journal.{comes_or_goes, is_close, is_connect}
use Rattle.dl_model.specs.Overflow.{counters}
use Rattle.dl_model.specs.Setting.{Setting}
use Rattle.dl_model.specs.Traffic as t
use Rattle.dl_model.specs.Traffic.{Traffic, Admitted, Connected, Reply, is_any_open}
use Rattle.dl_model.specs.WholeAccounts.{source_of_records}
use Rattle.dl_model.proofs.ClientStreams.{is_open-one}
use Rattle.dl_model.proofs.Lists.{along-one, along_from-append}
use Rattle.dl_laws.specs.Fates.{Fate, BufferFull, ForOthers, InStream, next_client, of_frame}
use Rattle.dl_laws.specs.Fates as law
use Rattle.dl_laws.proofs.ClientStays.{opened-one}
use Rattle.dl_laws.proofs.JournalStreams.{open_same}
use Rattle.dl_report.specs.Batches.{IsBatch}
use Rattle.dl_report.specs.Following.{IsAfter}
use Rattle.dl_report.specs.Keeping.{kept}
use Rattle.dl_report.specs.declared.batch.Batch.{Batch}
use Rattle.dl_report.specs.declared.batch.Sources.{Sources}
use Rattle.dl_report.specs.declared.waiting.Waiting.{Waiting}
use Rattle.dl_report.proofs.Buffers.{all_kept, batch_len, behind}
use Rattle.dl_report.proofs.OpenClients.{counts_open}
use Rattle.dl_fates.specs.Followed.{IsFollowing, fate_by}
use Rattle.dl_fates.specs.declared.follower.Follower.{Follower}

-- ---- what an event puts into a stream

abbrev pub put_of : FrameSource → (buffer client : ℕ) → List Event → Event → List (List ℕ)
put_of source buffer client events e = along_from (put source.ecu buffer client) (traffic source events) (traffic_of source events e)

pub stream_more : (source : FrameSource) (buffer client : ℕ) (events : List Event) (e : Event) →
    length (stream source buffer client (events ++ e ∷ [])) ≡ length (stream source buffer client events) + length (put_of source buffer client events e)
stream_more source buffer client events e =
    let f = put source.ecu buffer client in
    ap (λ (ts : List Traffic). length (sent source.ecu buffer client ts)) (along-one (traffic_of source) events e)
    ∙ ap length (along_from-append f [] (traffic source events) (traffic_of source events e))
    ∙ length-append (stream source buffer client events) (put_of source buffer client events e)

admits : (ecu : List ℕ) (buffer client : ℕ) (ts : List Traffic) (frames : List (List ℕ)) → length (along_from (put ecu buffer client) ts (map Admitted frames)) ≡ cond (t.is_open client ts) (length frames) 0
admits ecu buffer client ts [] = by_test (t.is_open client ts) where
  by_test : (b : Bool) → 0 ≡ cond {A = ℕ} b 0 0
  by_test true = refl
  by_test false = refl
admits ecu buffer client ts (frame ∷ frames) =
    let rest = along_from (put ecu buffer client) (ts ++ Admitted frame ∷ []) (map Admitted frames) in
    let same : length rest ≡ cond (t.is_open client ts) (length frames) 0 =
    admits ecu buffer client (ts ++ Admitted frame ∷ []) frames ∙ ap (λ (b : Bool). cond b (length frames) 0) (is_open-one client ts (Admitted frame)) in
    by_test (t.is_open client ts) rest same where
      by_test : (b : Bool) (rest : List (List ℕ)) → length rest ≡ cond b (length frames) 0 → length (cond b (frame ∷ []) [] ++ rest) ≡ cond b (length (frame ∷ frames)) 0
      by_test true rest same = omega (arith, same)
      by_test false rest same = same

abbrev pub is_asked : Event → Bool
is_asked (event.Request client frame done) = true
is_asked _ = false

-- an event of nobody's coming, going or asking: its frames, while the client is open
puts_frames : (source : FrameSource) (buffer client : ℕ) (events : List Event) (e : Event) → is_connect e ≡ false → is_close e ≡ false → is_asked e ≡ false →
    length (put_of source buffer client events e) ≡ cond (t.is_open client (traffic source events)) (length (frames_of source e)) 0
puts_frames source buffer client events (event.Connect other) comes goes asks = absurd cc
puts_frames source buffer client events (event.Close other why) comes goes asks = absurd cc
puts_frames source buffer client events (event.Request other frame done) comes goes asks = absurd cc
puts_frames source buffer client events (event.Claim claim moment) comes goes asks = admits source.ecu buffer client (traffic source events) []
puts_frames source buffer client events (event.Level slot level) comes goes asks = admits source.ecu buffer client (traffic source events) []
puts_frames source buffer client events (event.Log app writer call moment) comes goes asks =
    admits source.ecu buffer client (traffic source events) (frames_of source (event.Log app writer call moment))
puts_frames source buffer client events (event.Lost app count moment) comes goes asks =
    admits source.ecu buffer client (traffic source events) (frames_of source (event.Lost app count moment))
puts_frames source buffer client events (event.User channel msg moment) comes goes asks =
    admits source.ecu buffer client (traffic source events) (frames_of source (event.User channel msg moment))

pub puts_admitted : (source : FrameSource) (buffer client : ℕ) (events : List Event) (e : Event) (batch : Batch) (listens : Bool) → is_connect e ≡ false → is_close e ≡ false → is_asked e ≡ false →
    IsBatch batch (frames_of source e) → listens ≡ t.is_open client (traffic source events) → cond listens batch.frames 0 ≡ length (put_of source buffer client events e)
puts_admitted source buffer client events e batch listens comes goes asks are is =
    ap (λ (b : Bool). cond b batch.frames 0) is ∙ ap (λ (n : ℕ). cond (t.is_open client (traffic source events)) n 0) (sym (batch_len batch (frames_of source e) are))
    ∙ sym (puts_frames source buffer client events e comes goes asks)

-- ---- one event more

pub goes_on : (sources : Sources) (events : List Event) (e : Event) (old : Follower) (waiting : Waiting) (more frames : ℕ) (listens : Bool) → IsFollowing sources events old →
    IsAfter sources (events ++ e ∷ []) waiting → waiting.limit ≡ old.waiting.limit →
    ((setting : Setting) → setting.ecu ≡ sources.ecu → more ≡ length (put_of (source_of_records setting sources.records.now sources.specs.now) old.waiting.limit old.client events e)) →
    frames ≡ old.frames + more → listens ≡ cond (comes_or_goes old.client e) (is_connect e) old.listens →
    IsFollowing sources (events ++ e ∷ []) (record { client = old.client; listens = listens; frames = frames; waiting = waiting })
goes_on sources events e old waiting more frames listens was after limit put_is sum is = record {
  waits = after;
  opened = λ setting.
      let source = source_of_records setting sources.records.now sources.specs.now in
      is ∙ ap (λ (b : Bool). cond (comes_or_goes old.client e) (is_connect e) b) (was.opened setting ∙ open_same source old.client events)
      ∙ sym (opened-one old.client events e) ∙ sym (open_same source old.client (events ++ e ∷ []));
  sent = λ setting same.
      let source = source_of_records setting sources.records.now sources.specs.now in
      sum ∙ ap (λ (n : ℕ). n + more) (was.sent setting same) ∙ ap (λ (n : ℕ). length (stream source old.waiting.limit old.client events) + n) (put_is setting same)
      ∙ sym (stream_more source old.waiting.limit old.client events e) ∙ ap (λ (n : ℕ). length (stream source n old.client (events ++ e ∷ []))) (sym limit);
}

-- ---- what becomes of a frame

kept_or_not : (limit client : ℕ) (next : Option ℕ) (ws : List (List ℕ)) (frame : List ℕ) (b : Backlog) → b ≡ kept limit ws →
    cond (eqb b.refused 0 && leb (length frame) (limit - b.bytes)) (law.kept client b.frames next) (BufferFull next)
    ≡ cond (leb (size_of (ws ++ frame ∷ [])) limit) (law.kept client (length ws) next) (BufferFull next)
kept_or_not limit client next ws frame b is = by_refusal (eqb_tells b.refused 0) where
  size : size_of (ws ++ frame ∷ []) ≡ size_of ws + length frame
  size = omega (arith, sum_by-append length ws (frame ∷ []))

  refusals : b.refused ≡ refused limit ws
  refusals = ap (λ (x : Backlog). x.refused) is

  none_refused : size_of ws ≤ limit → refused limit ws ≡ 0
  none_refused le =
      let long : length (fitting limit (ws ++ [])) ≡ length ws + length (fitting (limit - size_of ws) []) = ap length (behind limit ws [] le) ∙ length-append ws (fitting (limit - size_of ws) []) in
      let same : length (fitting limit (ws ++ [])) ≡ length (fitting limit ws) = ap (λ (l : List (List ℕ)). length (fitting limit l)) (append-nil ws) in
      omega (arith, long, same)

  by_refusal : ((eqb b.refused 0 ≡ true) × (b.refused ≡ 0)) ⊎ ((eqb b.refused 0 ≡ false) × (b.refused ≢ 0)) →
      cond (eqb b.refused 0 && leb (length frame) (limit - b.bytes)) (law.kept client b.frames next) (BufferFull next)
      ≡ cond (leb (size_of (ws ++ frame ∷ [])) limit) (law.kept client (length ws) next) (BufferFull next)
  by_refusal (inl none) =
      let all = all_kept limit ws (sym refusals ∙ none.1) in
      let bytes : b.bytes ≡ size_of ws = ap (λ (x : Backlog). x.bytes) is ∙ ap size_of all.0 in
      let place : b.frames ≡ length ws = ap (λ (x : Backlog). x.frames) is ∙ ap length all.0 in
      let fits : leb (length frame) (limit - b.bytes) ≡ leb (size_of (ws ++ frame ∷ [])) limit = grind (arith, leb_tells, bytes, size, all.1) in
      ap (λ (x : Bool). cond (x && leb (length frame) (limit - b.bytes)) (law.kept client b.frames next) (BufferFull next)) none.0
      ∙ ap (λ (x : Bool). cond x (law.kept client b.frames next) (BufferFull next)) fits
      ∙ ap (λ (n : ℕ). cond (leb (size_of (ws ++ frame ∷ [])) limit) (law.kept client n next) (BufferFull next)) place
  by_refusal (inr some) =
      let above : leb (size_of (ws ++ frame ∷ [])) limit ≡ false = elim (leb_tells (size_of ws) limit) [
        | inl within ↦ absurd (some.1 (refusals ∙ none_refused within.1))
        | inr more ↦ lt-leb (size_of (ws ++ frame ∷ [])) limit (omega (arith, more.1, size))
      ] in
      ap (λ (x : Bool). cond (x && leb (length frame) (limit - b.bytes)) (law.kept client b.frames next) (BufferFull next)) some.0
      ∙ sym (ap (λ (x : Bool). cond x (law.kept client (length ws) next) (BufferFull next)) above)

pub fate_is : (sources : Sources) (setting : Setting) (events after : List Event) (frame : List ℕ) (now : Follower) (next : Option ℕ) → setting.ecu ≡ sources.ecu → IsFollowing sources events now → next ≡ next_client after →
    fate_by now (length frame) next ≡ of_frame (source_of_records setting sources.records.now sources.specs.now) now.waiting.limit now.client events frame after
fate_is sources setting events after frame now next same is comes =
    ap (λ (b : Bool). cond b (InStream now.frames) closed) (is.opened setting)
    ∙ ap (λ (n : ℕ). cond (t.is_open now.client ts) (InStream n) closed) (is.sent setting same)
    ∙ ap (λ (f : Fate). cond (t.is_open now.client ts) (InStream (length (stream source now.waiting.limit now.client events))) f) (by_count (eqb now.waiting.clients 0) (counts_open now.waiting.clients source events is.waits.open_now))
    ∙ ap (λ (o : Option ℕ). cond (t.is_open now.client ts) (InStream (length (stream source now.waiting.limit now.client events))) (behind_all o)) comes where
      source : FrameSource
      source = source_of_records setting sources.records.now sources.specs.now

      ts : List Traffic
      ts = traffic source events

      buffered : Fate
      buffered = cond (eqb now.waiting.backlog.refused 0 && leb (length frame) (now.waiting.limit - now.waiting.backlog.bytes)) (law.kept now.client now.waiting.backlog.frames next) (BufferFull next)

      closed : Fate
      closed = cond (eqb now.waiting.clients 0) buffered ForOthers

      buffered_law : Option ℕ → Fate
      buffered_law o = cond (leb (size_of (waiting ts ++ frame ∷ [])) now.waiting.limit) (law.kept now.client (length (waiting ts)) o) (BufferFull o)

      behind_all : Option ℕ → Fate
      behind_all o = cond (is_any_open ts) ForOthers (buffered_law o)

      by_count : (b : Bool) → is_any_open ts ≡ cond b false true → cond b buffered ForOthers ≡ behind_all next
      by_count true shut =
          kept_or_not now.waiting.limit now.client next (waiting ts) frame now.waiting.backlog (is.waits.waits setting same)
          ∙ sym (ap (λ (b : Bool). cond b ForOthers (buffered_law next)) shut)
      by_count false there = sym (ap (λ (b : Bool). cond b ForOthers (buffered_law next)) there)

-- the size of a batch of one frame
pub one_size : (batch : Batch) (frame : List ℕ) → IsBatch batch (frame ∷ []) → length frame ≡ batch.size
one_size batch frame is = by_count batch.frames batch.size is where
  by_count : (n size : ℕ) → map length (frame ∷ []) ≡ replicate n size → length frame ≡ size
  by_count zero size e = absurd cc
  by_count (suc n) size e = cc
