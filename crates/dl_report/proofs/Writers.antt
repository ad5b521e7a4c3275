-- The records of writer after writer.
use Rattle.std.proofs.Common.{◌≡◌, ℕ, ◌+◌, ◌<◌, List, [], ◌∷◌, ◌++◌, length, take, Some, ap, ◌∙◌}
use Rattle.std.specs.List.{flat_map, slice_get}
use Rattle.std.proofs.lemmas.Grind.{flat_map-append}
use Rattle.std.proofs.lemmas.List.{append-nil, take_more}
use Rattle.std.proofs.lemmas.Option.{slice_get_within, get_or_from_slice_get}
use Rattle.dl_events.specs.declared.record.Record.{Record}

one_writer : (xs : List (List Record)) (k j : ℕ) (x : List Record) → slice_get xs j ≡ Some x → j ≡ k → take (k + 1) xs ≡ take k xs ++ x ∷ []
one_writer xs k j x is same =
    let here : slice_get xs k ≡ Some x = rw (← same) is in
    let within : k < length xs = slice_get_within xs k x here in
    take_more xs k x within ∙ ap (λ y. take k xs ++ y ∷ []) (get_or_from_slice_get xs k x x here)

-- with one writer more
pub writer_more : (xs : List (List Record)) (k j : ℕ) (x : List Record) → slice_get xs j ≡ Some x → j ≡ k
    → flat_map (λ (rs : List Record). rs) (take (k + 1) xs) ≡ flat_map (λ (rs : List Record). rs) (take k xs) ++ x
writer_more xs k j x is same =
    ap (flat_map (λ (rs : List Record). rs)) (one_writer xs k j x is same)
    ∙ flat_map-append (λ (rs : List Record). rs) (take k xs) (x ∷ [])
    ∙ ap (λ t. flat_map (λ (rs : List Record). rs) (take k xs) ++ t) (append-nil x)
