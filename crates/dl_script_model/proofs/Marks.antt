-- What marks say with one mark more that says nothing of it, and acts with one act more.
use Rattle.std.proofs.Common.{◌≡◌, List, [], ◌∷◌, ◌++◌, ℕ, None, ap, sym, ◌∙◌, append_assoc}
use Rattle.std.specs.List.{filter, filter_map}
use Rattle.std.specs.Str.{bytes_eq}
use Rattle.std.proofs.lemmas.List.{append-nil}
use Rattle.std.proofs.lemmas.List.Elements.{filter_map-append}
use Rattle.dl_script_model.specs.declared.line.ContextLine.{ContextLine}
use Rattle.dl_script_model.specs.Marks.{Mark, context_of, contexts_of, writer_of, writers}
use Rattle.dl_script_model.specs.Steps.{Act, in_sequence}

pub writers-same : (done : List Mark) (mark : Mark) → writer_of mark ≡ None → writers (done ++ mark ∷ []) ≡ writers done
writers-same done mark e = filter_map-append writer_of done (mark ∷ []) ∙ rw e (append-nil (writers done))

pub contexts-same : (apid : List ℕ) (done : List Mark) (mark : Mark) → context_of mark ≡ None → contexts_of apid (done ++ mark ∷ []) ≡ contexts_of apid done
contexts-same apid done mark e =
    let same : filter_map context_of (done ++ mark ∷ []) ≡ filter_map context_of done = filter_map-append context_of done (mark ∷ []) ∙ rw e (append-nil (filter_map context_of done)) in
    ap (filter (λ (context : ContextLine). bytes_eq context.apid apid)) same

-- one act more, after the others
pub in_sequence-one : (acts : List Act) (act : Act) (done : List Mark) → in_sequence (acts ++ act ∷ []) done ≡ in_sequence acts done ++ act (done ++ in_sequence acts done)
in_sequence-one [] act done = append-nil (act done) ∙ ap act (sym (append-nil done))
in_sequence-one (first ∷ acts) act done =
    ap (λ (ms : List Mark). first done ++ ms) (in_sequence-one acts act (done ++ first done))
    ∙ sym (append_assoc (first done) (in_sequence acts (done ++ first done)) (act ((done ++ first done) ++ in_sequence acts (done ++ first done))))
    ∙ ap (λ (ms : List Mark). (first done ++ in_sequence acts (done ++ first done)) ++ act ms) (append_assoc done (first done) (in_sequence acts (done ++ first done)))
