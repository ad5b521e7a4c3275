-- Where the lines of filters end.
use Rattle.std.proofs.Common.{◌≡◌, ℕ, List, [], ◌∷◌, ◌++◌, refl, sym, ap, ◌∙◌, inl, inr}
use Rattle.std.specs.Prelude.{◌⊎◌}
use Rattle.std.proofs.lemmas.List.{append-nil}
use Rattle.dl_storage.specs.declared.filter.Filter.{Filter}
use Rattle.dl_storage.specs.Text.{storage_lines}
use Rattle.dl_storage.specs.declared.ends.StoreEnd.{StoreEnd}

no_ends : (filters : List Filter) → storage_lines filters [] ≡ []
no_ends [] = refl
no_ends (filter ∷ filters) = refl

pub at_end : (text : List ℕ) (filters : List Filter) (ends : List StoreEnd) (all : List ℕ) → (filters ≡ []) ⊎ (ends ≡ []) → text ++ storage_lines filters ends ≡ all → text ≡ all
at_end text filters ends all (inl none) is = sym (append-nil text) ∙ ap (λ (t : List ℕ). text ++ t) (sym (ap (λ (fs : List Filter). storage_lines fs ends) none)) ∙ is
at_end text filters ends all (inr none) is =
    sym (append-nil text) ∙ ap (λ (t : List ℕ). text ++ t) (sym (ap (λ (es : List StoreEnd). storage_lines filters es) none ∙ no_ends filters)) ∙ is
