use Rattle.std.proofs.Common.{◌≡◌, ◌≤◌, ◌<◌, ◌+◌, ◌-◌, ◌∷◌, ◌++◌, [], Bool, true, false, List, ◌∙◌, sym, ap, subst, length, cond, drop, rules}
use Rattle.std.specs.Prelude.{All, is_ok, ℕ}
use Rattle.std.specs.Str.{IsAscii}
use Rattle.dl_bytes.specs.declared.outcome.TraceFile.{TraceFile}
use Rattle.dl_model.specs.TraceFiles.{number_limit, trace_name}
use Rattle.dl_trace.specs.State.{Trace}
use Rattle.dl_trace.specs.Steps.{going, going_of}
use Rattle.dl_trace.proofs.Sound.{name_ascii, names_ascii, sound_begin, sound_kept}
use Rattle.dl_trace.proofs.trace.Trace.begin.Goals as goal

pub begin_file-outcome-requires-clause-text : goal.begin_file-outcome-requires-clause-text
begin_file-outcome-requires-clause-text g c =
    subst (λ (fs : List TraceFile). All (λ (file : TraceFile). IsAscii file.name) fs) (sym (c.into_vec-files.ensures ∙ c.replace.ensures.value))
    (names_ascii c.self.inside.directory c.self.inside.state.files c.self.invariant.letters c.self.invariant.named)

pub begin_file-outcome-requires-clause-name : goal.begin_file-outcome-requires-clause-name
begin_file-outcome-requires-clause-name g c =
    subst IsAscii (sym (c.over.ensures ∙ c.in-Ok.ensures ∙ ap (λ (d : List ℕ). trace_name d (c.self.inside.last + 1)) c.all.ensures)) (name_ascii c.self.inside.directory (c.self.inside.last + 1) c.self.invariant.letters)

pub invariant_of-self : goal.invariant_of-self
invariant_of-self g c =
    let trace : Trace = record { directory = c.self.inside.directory; file_size = c.self.inside.file_size; max_size = c.self.inside.max_size; state = c.self.inside.state; last = c.self.inside.last; begun = c.self.inside.begun; unstored = c.self.inside.unstored } in
    let files : c.into_vec-files.result.items ≡ c.self.inside.state.files = c.into_vec-files.ensures ∙ c.replace.ensures.value in
    let limit = c.self.inside.max_size - c.self.inside.file_size in
    let entry : TraceFile = record { name = c.over.result; bytes = length c.args.piece.now } in
    let failed : is_ok c.begin_file-outcome.result ≡ false = search rules in
    sound_kept trace c.over-2.result (drop (going limit c.self.inside.state.files) c.self.inside.state.files ++ entry ∷ []) (is_ok c.begin_file-outcome.result)
    (c.over-2.ensures ∙ c.begin_file-outcome.ensures.files ∙ ap (λ (fs : List TraceFile). cond (is_ok c.begin_file-outcome.result) (drop (going limit fs) fs ++ entry ∷ []) fs) files) failed c.self.invariant

pub invariant_of-self-2 : goal.invariant_of-self-2
invariant_of-self-2 g c =
    let trace : Trace = record { directory = c.self.inside.directory; file_size = c.self.inside.file_size; max_size = c.self.inside.max_size; state = c.self.inside.state; last = c.self.inside.last; begun = c.self.inside.begun; unstored = c.self.inside.unstored } in
    let same : trace ≡ c.args.self.now = c.self.view_is in
    let files : c.into_vec-files.result.items ≡ c.self.inside.state.files = c.into_vec-files.ensures ∙ c.replace.ensures.value in
    let limit = c.self.inside.max_size - c.self.inside.file_size in
    let entry : TraceFile = record { name = c.over.result; bytes = length c.args.piece.now } in
    let done : is_ok c.begin_file-outcome.result ≡ true = search rules in
    let is : c.over-2.result ≡ drop (going_of trace) trace.state.files ++ entry ∷ [] =
    c.over-2.ensures ∙ c.begin_file-outcome.ensures.files ∙ ap (λ (fs : List TraceFile). cond (is_ok c.begin_file-outcome.result) (drop (going limit fs) fs ++ entry ∷ []) fs) files
    ∙ ap (λ (b : Bool). cond b (drop (going limit c.self.inside.state.files) c.self.inside.state.files ++ entry ∷ []) c.self.inside.state.files) done in
    sound_begin trace c.over.result (length c.args.piece.now) c.over-2.result (c.over.ensures ∙ c.in-Ok.ensures ∙ ap (λ (d : List ℕ). trace_name d (c.self.inside.last + 1)) c.all.ensures) is c.self.invariant
    (subst (λ (t : Trace). t.last < number_limit) (sym same) c.requires.number) (subst (λ (t : Trace). length c.args.piece.now ≤ t.file_size) (sym same) c.requires.size)
