-- The stored frames of one event more.
use Rattle.std.proofs.Common.{◌≡◌, ℕ, zero, suc, ◌+◌, List, [], ◌∷◌, ◌++◌, length, map, refl, ap, ◌∙◌, drop, get_or, length-append, arith}
use Rattle.std.specs.Prelude.{replicate}
use Rattle.std.proofs.lemmas.List.{append-nil}
use Rattle.std.proofs.lemmas.List.Concat.{flat_map-append}
use Rattle.dl_bytes.specs.declared.moment.Moment.{Moment}
use Rattle.dl_headers.specs.Header.{storage_header}
use Rattle.dl_events.specs.declared.event.Event.{Event}
use Rattle.dl_events.specs.declared.event.Event.TheVariants as event
use Rattle.dl_model.specs.Frames.{FrameSource, frames_of, stored, stored_frames, stored_of}
use Rattle.dl_laws.proofs.StoredFrames.{header_len}

lengths : (ecu : List ℕ) (moment : Moment) (frames : List (List ℕ)) (n size : ℕ) → length ecu ≡ 4 → map length frames ≡ replicate n size → map length (map (stored ecu moment) frames) ≡ replicate n (size + 16)
lengths ecu moment [] zero size four are = refl
lengths ecu moment [] (suc n) size four are = absurd cc
lengths ecu moment (frame ∷ frames) zero size four are = absurd cc
lengths ecu moment (frame ∷ frames) (suc n) size four are =
    let first : length frame ≡ size = ap (λ (l : List ℕ). get_or l 0 0) are in
    let long : length (stored ecu moment frame) ≡ size + 16 = omega (arith, header_len ecu moment four, first, length-append (storage_header ecu moment) frame) in
    ap (λ (k : ℕ). k ∷ map length (map (stored ecu moment) frames)) long ∙ ap (λ (l : List ℕ). (size + 16) ∷ l) (lengths ecu moment frames n size four (ap (drop 1) are))

no_frames : (n size : ℕ) → [] ≡ replicate n size → [] ≡ replicate n (size + 16)
no_frames zero size are = refl
no_frames (suc n) size are = absurd cc

-- a storage header more for each frame
pub event_lengths : (source : FrameSource) (e : Event) (n size : ℕ) → length source.ecu ≡ 4 → map length (frames_of source e) ≡ replicate n size → map length (stored_of source e) ≡ replicate n (size + 16)
event_lengths source (event.Log app writer call moment) n size four are = lengths source.ecu moment (frames_of source (event.Log app writer call moment)) n size four are
event_lengths source (event.Lost app count moment) n size four are = lengths source.ecu moment (frames_of source (event.Lost app count moment)) n size four are
event_lengths source (event.User channel msg moment) n size four are = lengths source.ecu moment (frames_of source (event.User channel msg moment)) n size four are
event_lengths source (event.Claim claim moment) n size four are = no_frames n size are
event_lengths source (event.Level slot level) n size four are = no_frames n size are
event_lengths source (event.Connect client) n size four are = no_frames n size are
event_lengths source (event.Request client frame answer) n size four are = no_frames n size are
event_lengths source (event.Close client cause) n size four are = no_frames n size are

pub stored-one : (source : FrameSource) (before : List Event) (e : Event) → stored_frames source (before ++ e ∷ []) ≡ stored_frames source before ++ stored_of source e
stored-one source before e = flat_map-append (stored_of source) before (e ∷ []) ∙ ap (λ (fs : List (List ℕ)). stored_frames source before ++ fs) (append-nil (stored_of source e))

pub stored-split : (source : FrameSource) (before : List Event) (e : Event) (after : List Event) → stored_frames source (before ++ e ∷ after) ≡ stored_frames source before ++ (stored_of source e ++ stored_frames source after)
stored-split source before e after = flat_map-append (stored_of source) before (e ∷ after)
