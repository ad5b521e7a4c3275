-- Lists of entries that are all there: what is read of them, and what is left without the last one.
use Rattle.std.proofs.Common.{◌≡◌, ◌≢◌, ℕ, zero, suc, ◌+◌, ◌<◌, ◌≤◌, List, [], ◌∷◌, ◌++◌, length, length-append, map, take, drop, get_or, slice_get, arith, Option, Some, None, IfSome, refl, sym, ap, ◌∙◌, subst, eqb, eq-eqb, ne_eqb}
use Rattle.std.specs.Option.{option_map, option_to_list}
use Rattle.std.specs.List.{remove}
use Rattle.std.proofs.lemmas.List.{length-map, map-append, take-map, drop-map}
use Rattle.std.proofs.lemmas.List.Elements.{filter_map-append}
use Rattle.std.specs.Prelude.{IfNone}
use Rattle.std.proofs.Math.Seq.{get_or-append_seam}
use Rattle.std.proofs.lemmas.Option.{slice_get_read, slice_get-map}
use Rattle.dl_lemmas.proofs.Lists.{get_or-there}
use Rattle.dl_events.specs.Records.{given}
use Rattle.dl_events.proofs.Given.{there-at, not-none}
use Rattle.dl_cells.specs.Views.{bit, times}
use Rattle.dl_writer.specs.State.{BookState, numbers}

never_first : {A : Type 0} (xs : List (Option A)) (ys : List A) → None ∷ xs ≡ map Some ys → ⊥
never_first xs [] h = absurd cc
never_first xs (y ∷ ys) h = absurd cc

-- all entries of the front are there
front : {A : Type 0} (xs ys : List (Option A)) → xs ++ ys ≡ map Some (given (xs ++ ys)) → xs ≡ map Some (given xs)
front [] ys all = refl
front (Some x ∷ xs) ys all =
    let rest : xs ++ ys ≡ map Some (given (xs ++ ys)) = cc in
    ap (λ l. Some x ∷ l) (front xs ys rest)
front (None ∷ xs) ys all = absurd (never_first (xs ++ ys) (given (xs ++ ys)) all)

pub left_there : {A : Type 0} (old new : List (Option A)) (last : Option (Option A)) → old ≡ map Some (given old) → old ≡ new ++ option_to_list last → new ≡ map Some (given new)
left_there old new last all apart = front new (option_to_list last) (sym apart ∙ all ∙ ap (λ l. map Some (given l)) apart)

-- what is there of the last entry
pub last_given : {A : Type 0} (old new : List (Option A)) (last : Option A) → old ≡ new ++ last ∷ [] → given old ≡ given new ++ option_to_list last
last_given old new None apart = ap given apart ∙ filter_map-append (λ entry. entry) new (None ∷ [])
last_given old new (Some x) apart = ap given apart ∙ filter_map-append (λ entry. entry) new (Some x ∷ [])

-- the entry that was read at a place
read_at : {A : Type 0} (items slice : List (Option A)) (there : List A) (place : ℕ) (found : Option A)
    → items ≡ map Some (given items) → given items ≡ there → slice ≡ items → place < length there → found ≡ get_or slice place found → slice_get items place ≡ Some found
read_at items slice there place found all view same inside read =
    let count : length there ≡ length items = sym (ap length all ∙ length-map (given items) (λ x. Some x) ∙ ap length view) in
    slice_get_read items (length there) place found count inside (read ∙ ap (λ l. get_or l place found) same)

pub some_at : {A : Type 0} (items slice : List (Option A)) (there : List A) (place : ℕ) (found : Option A) (x : A)
    → items ≡ map Some (given items) → given items ≡ there → slice ≡ items → place < length there → found ≡ get_or slice place found → found ≡ Some x → slice_get there place ≡ Some x
some_at items slice there place found x all view same inside read is =
    ap (λ l. slice_get l place) (sym view) ∙ there-at items place x all (read_at items slice there place found all view same inside read ∙ ap (λ o. Some o) is)

pub none_at : {A : Type 0} (items slice : List (Option A)) (there : List A) (place : ℕ) (found : Option A)
    → items ≡ map Some (given items) → given items ≡ there → slice ≡ items → place < length there → found ≡ get_or slice place found → found ≡ None → ⊥
none_at items slice there place found all view same inside read is =
    not-none items place all (read_at items slice there place found all view same inside read ∙ ap (λ o. Some o) is)

-- the last entry is there
pub last_there : {A : Type 0} (P : Type 0) (old new : List (Option A)) (last : Option A) → old ≡ map Some (given old) → old ≡ new ++ last ∷ [] → IfNone last P
last_there P old new (Some x) all apart = tt
last_there P old new None all apart =
    let count : length new + 1 ≡ length (new ++ None ∷ []) = sym (length-append new (None ∷ [])) in
    let read = slice_get_read (new ++ None ∷ []) (length new + 1) (length new) None count (omega arith) (sym (get_or-append_seam new None [] None)) in
    absurd (not-none old (length new) all (ap (λ l. slice_get l (length new)) apart ∙ read))

-- ---- an entry taken out

given-map : {A : Type 0} (ys : List A) → given (map Some ys) ≡ ys
given-map [] = refl
given-map (y ∷ ys) = ap (λ l. y ∷ l) (given-map ys)

remove-map : {A : Type 0} (ys : List A) (place : ℕ) → remove (map Some ys) place ≡ map Some (remove ys place)
remove-map ys place = ap (λ l. l ++ drop (suc place) (map Some ys)) (take-map Some place ys) ∙ ap (λ l. map Some (take place ys) ++ l) (drop-map Some (suc place) ys)
    ∙ sym (map-append Some (take place ys) (drop (suc place) ys))

removed : {A : Type 0} (items new : List (Option A)) (place : ℕ) → items ≡ map Some (given items) → new ≡ remove items place → new ≡ map Some (remove (given items) place)
removed items new place all is = is ∙ ap (λ l. remove l place) all ∙ remove-map (given items) place

-- what is there without it
pub given_without : {A : Type 0} (items new : List (Option A)) (place : ℕ) → items ≡ map Some (given items) → new ≡ remove items place → given new ≡ remove (given items) place
given_without items new place all is = ap given (removed items new place all is) ∙ given-map (remove (given items) place)

pub there_without : {A : Type 0} (items new : List (Option A)) (place : ℕ) → items ≡ map Some (given items) → new ≡ remove items place → new ≡ map Some (given new)
there_without items new place all is = removed items new place all is ∙ ap (map Some) (sym (given_without items new place all is))

-- a list round one of its entries
pub parted_at : {A : Type 0} (ys : List A) (place : ℕ) (y : A) → slice_get ys place ≡ Some y → ys ≡ take place ys ++ y ∷ drop (suc place) ys
parted_at [] place y at = absurd cc
parted_at (x ∷ ys) zero y at = let same : x ≡ y = cc in ap (λ z. z ∷ ys) same
parted_at (x ∷ ys) (suc place) y at = ap (λ l. x ∷ l) (parted_at ys place y at)

-- ---- the numbers of the books' writers

pub is_among : (books : List BookState) (place number : ℕ) (b : BookState) → slice_get books place ≡ Some b → b.writer.push.number ≡ number → 1 ≤ times number (numbers books)
is_among [] place number b at is = absurd cc
is_among (x ∷ books) zero number b at is =
    let same : x ≡ b = cc in
    let one : bit (eqb x.writer.push.number number) ≡ 1 = ap bit (eq-eqb x.writer.push.number number (ap (λ (y : BookState). y.writer.push.number) same ∙ is)) in
    omega arith
is_among (x ∷ books) (suc place) number b at is = let rest = is_among books place number b at is in omega arith

pub is_missing : (books : List BookState) (number : ℕ) → ((place : ℕ) (b : BookState) → place < length books → slice_get books place ≡ Some b → b.writer.push.number ≢ number) → times number (numbers books) ≡ 0
is_missing [] number apart = refl
is_missing (x ∷ books) number apart =
    let none : bit (eqb x.writer.push.number number) ≡ 0 = ap bit (ne_eqb x.writer.push.number number (apart 0 x (omega arith) refl)) in
    let rest = is_missing books number (λ place b within at. apart (suc place) b (omega (arith, within)) at) in
    omega arith

-- ---- an option that is known

pub some_so : {A : Type 0} (P : A → Type 0) (found : Option A) (y : A) → found ≡ Some y → P y → IfSome found P
some_so P found y is holds = subst (λ (o : Option _). IfSome o P) (sym is) holds

pub none_so : {A : Type 0} (P : Type 0) (found : Option A) (y : A) → found ≡ Some y → IfNone found P
none_so P found y is = subst (λ (o : Option _). IfNone o P) (sym is) tt

-- an entry that is read of a list of entries that are all there
pub read_there : {A : Type 0} (items : List (Option A)) (there : List A) (place : ℕ) (found : Option A) (y : A)
    → items ≡ map Some (given items) → given items ≡ there → slice_get there place ≡ Some y → found ≡ get_or items place found → found ≡ Some y
read_there items there place found y all view at read =
    let here : slice_get items place ≡ Some (Some y) =
    ap (λ (l : List (Option _)). slice_get l place) all ∙ slice_get-map Some (given items) place ∙ ap (λ (l : List _). option_map Some (slice_get l place)) view ∙ ap (option_map Some) at in
    read ∙ get_or-there items place (Some y) found here

pub first_there : {A : Type 0} (P : Type 0) (items : List (Option A)) (found : Option A) → items ≡ map Some (given items) → 0 < length items → found ≡ get_or items 0 found → IfNone found P
first_there P [] found all some read = absurd (omega (arith, some))
first_there P (Some x ∷ xs) found all some read = none_so P found x read
first_there P (None ∷ xs) found all some read = absurd (never_first xs (given xs) all)
