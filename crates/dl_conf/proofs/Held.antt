-- Own levels that hold, one after another.
use Rattle.std.proofs.Common.{◌≡◌, Bool, not, ◌||◌, List, [], ◌∷◌, ◌++◌, refl, ap, ◌∙◌, inl, inr}
use Rattle.std.specs.List.{list_any, filter}
use Rattle.std.proofs.lemmas.Bool.{cases_Bool}
use Rattle.std.proofs.lemmas.List.Folds.{list_any-append}
use Rattle.dl_lemmas.proofs.Bools.{or_false}
use Rattle.dl_bytes.specs.declared.conf.StoredLevel.{StoredLevel}
use Rattle.dl_conf.specs.Stored.{same_ids, held}

any_push : (test : StoredLevel → Bool) (levels : List StoredLevel) (last : StoredLevel) → list_any test (levels ++ last ∷ []) ≡ (list_any test levels || test last)
any_push test levels last = list_any-append test levels (last ∷ []) ∙ ap (λ t. list_any test levels || t) (or_false (test last))

-- one more own level takes the place of one for the same context
pub held_push : (levels : List StoredLevel) (last : StoredLevel) → held (levels ++ last ∷ []) ≡ filter (λ other. not (same_ids other last)) (held levels) ++ last ∷ []
held_push [] last = refl
held_push (own ∷ later) last = elim (cases_Bool (list_any (same_ids own) later)) [
  | inl again ↦ rw (any_push (same_ids own) later last, again, held_push later last) refl
  | inr alone ↦ elim (cases_Bool (same_ids own last)) [
    | inl same ↦ rw (any_push (same_ids own) later last, alone, same, held_push later last) refl
    | inr other ↦ rw (any_push (same_ids own) later last, alone, other, held_push later last) refl
  ]
]
