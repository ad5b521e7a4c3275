use Rattle.std.proofs.Common.{rules, ◌≡◌, ◌∙◌, ◌++◌, ◌∷◌, [], ℕ, List, false, sym, ap, subst}
use Rattle.std.specs.Prelude.{is_some}
use Rattle.std.specs.HashMap as hash
use Rattle.dl_events.specs.declared.event.Event.{Event}
use Rattle.dl_model.specs.Frames.{FrameSource, frames_of}
use Rattle.dl_model.specs.WholeAccounts.{source_of_records}
use Rattle.dl_laws.specs.Fates.{of_frame}
use Rattle.dl_report.specs.Batches.{IsBatch}
use Rattle.dl_fates.specs.Followed.{fate_by}
use Rattle.dl_fates.specs.Found.{TellsAll, said, same_call}
use Rattle.dl_fates.specs.declared.fate.CallName.{CallName}
use Rattle.dl_fates.proofs.Finding.{first}
use Rattle.dl_fates.proofs.Following.{fate_is, one_size}
use Rattle.dl_fates.proofs.fates.note_call.Goals as goal

pub returns : goal.returns
returns c = λ setting target before after same follows comes tells.
    let now = c.args.follower.now in
    let source : FrameSource = source_of_records setting c.args.sources.now.records.now c.args.sources.now.specs.now in
    let name : CallName = record { writer = c.in-Log.writer; call = c.in-Log.call } in
    let frame : List ℕ = source.frame name.writer name.call in
    let none : is_some (hash.get same_call c.args.calls.now name) ≡ false = search rules in
    let batch : IsBatch c.admitted_by-size.result (frame ∷ []) = subst (λ (e : Event). IsBatch c.admitted_by-size.result (frames_of source e)) c.in-Log.is (c.admitted_by-size.ensures.batch setting same) in
    let is : said c.fate.result ≡ of_frame source now.waiting.limit now.client before frame after =
    c.fate.ensures ∙ ap (λ (n : ℕ). fate_by now n c.args.next) (sym (one_size c.admitted_by-size.result frame batch)) ∙ fate_is c.args.sources.now setting before after frame now c.args.next same follows comes in
    subst (λ (e : Event). TellsAll source now.waiting.limit now.client target c.insert.new.self (before ++ e ∷ []) after) (sym c.in-Log.is)
    (first source now.waiting.limit now.client target before after c.in-Log.app c.in-Log.moment name c.args.calls.now c.insert.new.self c.fate.result none c.in_ok-insert.ensures.updates.0 is
    (subst (λ (e : Event). TellsAll source now.waiting.limit now.client target c.args.calls.now before (e ∷ after)) c.in-Log.is tells))
