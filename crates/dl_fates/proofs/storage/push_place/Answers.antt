use Rattle.std.proofs.Common.{◌≡◌, ◌∙◌, ◌++◌, ℕ, List, cond, codes, sym, ap, subst, append_assoc}
use Rattle.std.specs.Prelude.{OnOk, Result, Ok, Err, is_ok}
use Rattle.dl_fates.specs.declared.place.StoredPlace.{StoredPlace}
use Rattle.dl_fates.specs.Rows.{file_words, removed_words, stored_words}
use Rattle.dl_fates.proofs.storage.push_place.Goals as goal

pub returns-in_ok-extend_from_slice-in-InFile : goal.returns-in_ok-extend_from_slice-in-InFile
returns-in_ok-extend_from_slice-in-InFile c =
    let directory = c.args.directory.now in
    let text = c.args.text.now.items in
    let file = file_words directory c.in-InFile.number in
    let all : c.extend_from_slice.new.self.items ++ file ≡ text ++ stored_words directory c.args.place =
    ap (λ (l : List ℕ). l ++ file) c.in_ok-extend_from_slice-in-InFile.ensures.items ∙ append_assoc text (codes "; stored in ") file
    ∙ ap (λ (p : StoredPlace). text ++ stored_words directory p) (sym c.in-InFile.is) in
    subst (λ (l : List ℕ). OnOk c.push_name.result (c.push_name.new.text.items ≡ l)) all c.push_name.ensures

on_ok : {E : Type 0} (result : Result (Unit {0}) E) (new more old : List ℕ) → new ≡ cond (is_ok result) more old → OnOk result (new ≡ more)
on_ok (Ok done) new more old is = is
on_ok (Err fault) new more old is = tt

pub returns-in_ok-push_name-in-Removed : goal.returns-in_ok-push_name-in-Removed
returns-in_ok-push_name-in-Removed c =
    let directory = c.args.directory.now in
    let text = c.args.text.now.items in
    let lead : List ℕ = codes "; stored in " in
    let file = file_words directory c.in-Removed.number in
    let named = c.push_name-in-Removed.new.text.items in
    let all : named ++ c.removed_words.result.now ≡ text ++ stored_words directory c.args.place =
    ap (λ (l : List ℕ). named ++ l) c.removed_words.ensures
    ∙ ap (λ (l : List ℕ). l ++ removed_words) (c.in_ok-push_name-in-Removed.ensures ∙ ap (λ (l : List ℕ). l ++ file) c.in_ok-extend_from_slice-in-Removed.ensures.items ∙ append_assoc text lead file)
    ∙ append_assoc text (lead ++ file) removed_words
    ∙ ap (λ (p : StoredPlace). text ++ stored_words directory p) (sym c.in-Removed.is) in
    subst (λ (l : List ℕ). OnOk c.extend_from_slice-in-Removed-2.result (c.extend_from_slice-in-Removed-2.new.self.items ≡ l)) all
    (on_ok c.extend_from_slice-in-Removed-2.result c.extend_from_slice-in-Removed-2.new.self.items (named ++ c.removed_words.result.now) named c.extend_from_slice-in-Removed-2.ensures.items)
