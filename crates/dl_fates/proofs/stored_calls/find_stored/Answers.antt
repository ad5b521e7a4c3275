use Rattle.std.proofs.Common.{◌≡◌, ◌∙◌, ◌+◌, ◌++◌, ◌∷◌, [], ℕ, List, Option, length, map, take, drop, sym, ap, subst, arith}
use Rattle.std.specs.Prelude.{option_map}
use Rattle.std.specs.HashMap as hash
use Rattle.std.proofs.lemmas.List.{drop_all, length-map, take_all}
use Rattle.dl_events.specs.declared.event.Event.{Event}
use Rattle.dl_model.specs.Backlog.{size_of}
use Rattle.dl_model.specs.Frames.{stored_frames}
use Rattle.dl_model.specs.TraceFiles.{segments}
use Rattle.dl_model.specs.WholeAccounts.{source_of_records}
use Rattle.dl_fates.specs.StoredFound.{TellsFiles, file_from, file_sizes, or_later, place_by, removed_by}
use Rattle.dl_fates.specs.Found.{same_call, name_of}
use Rattle.dl_fates.specs.StoredIn.{by_answer}
use Rattle.dl_fates.specs.declared.fate.CallName.{CallName}
use Rattle.dl_fates.proofs.StoredFinding.{nothing_later, one_further}
use Rattle.dl_fates.proofs.StoredPlacing.{at_rotation}
use Rattle.dl_fates.proofs.stored_calls.find_stored.Goals as goal

pub loop-place-preserved : goal.loop-place-preserved
loop-place-preserved c =
    let i = c.loop-place.place in
    let events = c.args.events.now in
    let e = c.index-events-place.result in
    let sources = c.args.sources.now in
    let size = c.args.rotation.file_size in
    let was = c.loop-place.invariant in
    let one = one_further events i e c.loop-place-test.true c.index-events-place.is in
    record {
      sizes = λ setting same.
          let source = source_of_records setting sources.records.now sources.specs.now in
          subst (λ (es : List Event). c.put_event.new.sizes.items ≡ file_sizes source size es) (sym one.0) (c.in_ok-put_event.ensures setting (take i events) same (was.sizes setting same));
      tells = λ setting same.
          let source = source_of_records setting sources.records.now sources.specs.now in
          let target : CallName → Option ℕ = λ name. file_from source size name.writer name.call [] events in
          let sizes : c.put_event.new.sizes.items ≡ file_sizes source size (take i events ++ e ∷ []) = c.in_ok-put_event.ensures setting (take i events) same (was.sizes setting same) in
          let file : c.len.result ≡ length (segments size (stored_frames source (take i events ++ e ∷ []))) =
          c.len.ensures ∙ c.put_event.new.sizes.ok.0 ∙ ap length sizes ∙ length-map (segments size (stored_frames source (take i events ++ e ∷ []))) size_of in
          let before : TellsFiles source size target c.loop-place.files (take i events) (e ∷ drop (i + 1) events) =
          subst (λ (es : List Event). TellsFiles source size target c.loop-place.files (take i events) es) one.1 (was.tells setting same) in
          subst (λ (es : List Event). TellsFiles source size target c.note_call.new.files es (drop (i + 1) events)) (sym one.0)
          (c.in_ok-note_call.ensures source size target (take i events) (drop (i + 1) events) file before);
    }

pub returns : goal.returns
returns c = λ setting stood r same rotates.
    let i = c.loop-place.place in
    let events = c.args.events.now in
    let sources = c.args.sources.now in
    let rotation = c.args.rotation in
    let source = source_of_records setting sources.records.now sources.specs.now in
    let was = c.loop-place.invariant in
    let ended : length events ≡ i = omega (arith, c.loop-place-test.false, c.loop-place.auto) in
    let all : take i events ≡ events = take_all i events (omega (arith, ended)) in
    let none : drop i events ≡ [] = drop_all i events (omega (arith, ended)) in
    let name = name_of r in
    let found : hash.get same_call c.loop-place.files name ≡ file_from source rotation.file_size name.writer name.call [] events =
    sym (was.tells setting same name ∙ ap (λ (es : List Event). or_later (hash.get same_call c.loop-place.files name) (file_from source rotation.file_size name.writer name.call (take i events) es)) none
    ∙ nothing_later (hash.get same_call c.loop-place.files name)) in
    let frames = stored_frames source events in
    let sizes : c.deref.result.now ≡ map size_of (segments rotation.file_size frames) =
    c.deref.ensures.value ∙ was.sizes setting same ∙ ap (file_sizes source rotation.file_size) all in
    let removed : c.removed_by.result ≡ removed_by rotation (map size_of (segments rotation.file_size frames)) = c.removed_by.ensures ∙ ap (removed_by rotation) sizes in
    ap (λ (file : Option ℕ). option_map (place_by rotation.newest c.removed_by.result) (by_answer r.answer file)) found
    ∙ ap (λ (n : ℕ). option_map (place_by rotation.newest n) (by_answer r.answer (file_from source rotation.file_size name.writer name.call [] events))) removed
    ∙ at_rotation source setting.file_size setting.max_size stood r.answer name.writer name.call events rotation.file_size rotation.max_size rotation.newest rotates.file_size rotates.max_size rotates.newest
