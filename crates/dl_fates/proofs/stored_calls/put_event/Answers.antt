use Rattle.std.proofs.Common.{◌≡◌, ◌∙◌, ◌++◌, ◌∷◌, [], ℕ, List, length, map, sym, ap, subst}
use Rattle.std.specs.Prelude.{OnOk, replicate}
use Rattle.dl_model.specs.Backlog.{size_of}
use Rattle.dl_model.specs.Frames.{FrameSource, stored_frames, stored_of}
use Rattle.dl_model.specs.TraceFiles.{segments}
use Rattle.dl_model.specs.WholeAccounts.{source_of_records}
use Rattle.dl_fates.specs.StoredFound.{file_sizes}
use Rattle.dl_fates.specs.Sizes.{with_frames}
use Rattle.dl_fates.proofs.FileSizes.{sizes-more}
use Rattle.dl_fates.proofs.StoredEvents.{event_lengths, stored-one}
use Rattle.dl_fates.proofs.stored_calls.put_event.Goals as goal

pub returns : goal.returns
returns c = λ setting before same was.
    let sources = c.args.sources.now in
    let source : FrameSource = source_of_records setting sources.records.now sources.specs.now in
    let e = c.args.event.now in
    let admitted = c.admitted_by-admitted.result in
    let four : length source.ecu ≡ 4 = ap length same ∙ c.bytes.ensures.len in
    let long : map length (stored_of source e) ≡ replicate admitted.frames c.in-Some.bytes =
    event_lengths source e admitted.frames admitted.size four (c.admitted_by-admitted.ensures.batch setting same) ∙ ap (replicate admitted.frames) (sym c.in-Some.ensures.1) in
    let now : with_frames c.args.limit c.in-Some.bytes admitted.frames c.args.sizes.now.items ≡ file_sizes source c.args.limit (before ++ e ∷ []) =
    ap (with_frames c.args.limit c.in-Some.bytes admitted.frames) was ∙ sym (sizes-more c.args.limit c.in-Some.bytes admitted.frames (stored_frames source before) (stored_of source e) long)
    ∙ ap (λ (fs : List (List ℕ)). map size_of (segments c.args.limit fs)) (sym (stored-one source before e)) in
    subst (λ (sizes : List ℕ). OnOk c.put_frames.result (c.put_frames.new.sizes.items ≡ sizes)) now c.put_frames.ensures
