use Rattle.std.proofs.Common.{◌≡◌, ◌≤◌, true, List, ◌∙◌, sym, ap, subst, length, cond}
use Rattle.std.specs.Prelude.{All, is_ok}
use Rattle.std.specs.Str.{IsAscii}
use Rattle.dl_bytes.specs.declared.outcome.TraceFile.{TraceFile}
use Rattle.dl_trace.specs.Pieces.{room_of}
use Rattle.dl_trace.specs.State.{Trace}
use Rattle.dl_trace.specs.Steps.{grown_last}
use Rattle.dl_trace.proofs.Sound.{names_ascii, sound_extend}
use Rattle.dl_trace.proofs.trace.Trace.extend.Goals as goal

pub extend_file-outcome-requires-clause-text : goal.extend_file-outcome-requires-clause-text
extend_file-outcome-requires-clause-text g c =
    subst (λ (fs : List TraceFile). All (λ (file : TraceFile). IsAscii file.name) fs) (sym (c.into_vec-files.ensures ∙ c.replace.ensures.value))
    (names_ascii c.self.inside.directory c.self.inside.state.files c.self.invariant.letters c.self.invariant.named)

pub invariant_of-self : goal.invariant_of-self
invariant_of-self g c =
    let trace : Trace = record { directory = c.self.inside.directory; file_size = c.self.inside.file_size; max_size = c.self.inside.max_size; state = c.self.inside.state; last = c.self.inside.last; begun = c.self.inside.begun; unstored = c.self.inside.unstored } in
    let same : trace ≡ c.args.self.now = c.self.view_is in
    let files = c.into_vec-files.ensures ∙ c.replace.ensures.value in
    sound_extend trace (length c.args.piece.now) (is_ok c.extend_file-outcome.result) c.over.result
    (c.over.ensures ∙ c.extend_file-outcome.ensures.files ∙ ap (λ (fs : List TraceFile). cond (is_ok c.extend_file-outcome.result) (grown_last (length c.args.piece.now) fs) fs) files)
    c.self.invariant (subst (λ (t : Trace). t.begun ≡ true) (sym same) c.requires.open) (subst (λ (t : Trace). length c.args.piece.now ≤ room_of t) (sym same) c.requires.room)
