-- The files of this run that stand are a suffix of those that it made.
use Rattle.std.proofs.Common.{◌≡◌, ℕ, ◌+◌, ◌≤◌, Bool, cond, ltb, List, [], ◌∷◌, ◌++◌, length, refl, sym, ap, subst, ◌∙◌, arith}
use Rattle.std.specs.Prelude.{fold, max}
use Rattle.std.specs.List.{filter, flat_map, concat, AllByRecursion}
use Rattle.std.proofs.lemmas.Bool.{lt-ltb, le-ltb}
use Rattle.std.proofs.lemmas.List.Elements.{filter-append}
use Rattle.std.proofs.lemmas.List.Concat.{flat_map-append}
use Rattle.dl_lemmas.proofs.Lists.{all_second}
use Rattle.dl_model.specs.TraceFiles.{StoredFile, greatest, numbered, segments, made, trace_files}
use Rattle.dl_model.proofs.Rotation.{made_bytes, suffix, within_size}
use Rattle.dl_laws.specs.OwnFiles.{own_files}

-- the files that a run makes have numbers above those of the old ones
all_above : (last : ℕ) (segs : List (List (List ℕ))) (least : ℕ) → least ≤ last → filter (λ (file : StoredFile). ltb least file.number) (numbered last segs) ≡ numbered last segs
all_above last [] least le = refl
all_above last (seg ∷ segs) least le =
    let file : StoredFile = record { number = last + 1; bytes = concat seg } in
    ap (λ (b : Bool). cond b (file ∷ filter (λ (f : StoredFile). ltb least f.number) (numbered (last + 1) segs)) (filter (λ (f : StoredFile). ltb least f.number) (numbered (last + 1) segs))) (lt-ltb least (last + 1) (omega (arith, le)))
    ∙ ap (λ (files : List StoredFile). file ∷ files) (all_above (last + 1) segs least (omega (arith, le)))

-- and those of the old ones aren't above their greatest
abbrev most : ℕ → List StoredFile → ℕ
most start files = fold (λ (m : ℕ) (file : StoredFile). max m file.number) start files

at_least : (start : ℕ) (files : List StoredFile) → start ≤ most start files
at_least start [] = omega arith
at_least start (file ∷ files) = omega (arith, at_least (max start file.number) files)

none_above : (start limit : ℕ) (files : List StoredFile) → most start files ≤ limit → filter (λ (file : StoredFile). ltb limit file.number) files ≡ []
none_above start limit [] le = refl
none_above start limit (file ∷ files) le =
    let within : file.number ≤ limit = omega (arith, at_least (max start file.number) files, le) in
    ap (λ (b : Bool). cond b (file ∷ filter (λ (f : StoredFile). ltb limit f.number) files) (filter (λ (f : StoredFile). ltb limit f.number) files)) (le-ltb limit file.number within)
    ∙ none_above (max start file.number) limit files le

-- what was made is what is gone of it, and what stands
own_suffix : (size max_size : ℕ) (old : List StoredFile) (frames : List (List ℕ)) → (gone : List StoredFile) × (made size old frames ≡ gone ++ own_files old (trace_files size max_size old frames))
own_suffix size max_size old frames =
    let p = λ (file : StoredFile). ltb (greatest old) file.number in
    let parts = suffix size max_size old frames in
    let none : filter p old ≡ [] = none_above 0 (greatest old) old (omega arith) in
    let all : filter p (made size old frames) ≡ made size old frames = all_above (greatest old) (segments size frames) (greatest old) (omega arith) in (
      filter p parts.0,
      sym (ap (λ (files : List StoredFile). files ++ filter p (made size old frames)) none ∙ all) ∙ sym (filter-append p old (made size old frames)) ∙ ap (filter p) parts.1
          ∙ filter-append p parts.0 (trace_files size max_size old frames),
    )

pub bytes_suffix : (size max_size : ℕ) (old : List StoredFile) (frames : List (List ℕ)) →
    (gone : List ℕ) × (concat frames ≡ gone ++ flat_map (λ (file : StoredFile). file.bytes) (own_files old (trace_files size max_size old frames)))
bytes_suffix size max_size old frames =
    let bytes = λ (file : StoredFile). file.bytes in
    let parts = own_suffix size max_size old frames in (
      flat_map bytes parts.0,
      sym (made_bytes size old frames) ∙ ap (flat_map bytes) parts.1 ∙ flat_map-append bytes parts.0 (own_files old (trace_files size max_size old frames)),
    )

pub own_within : (size max_size : ℕ) (old : List StoredFile) (frames : List (List ℕ)) → AllByRecursion (λ (frame : List ℕ). length frame ≤ size) frames →
    AllByRecursion (λ (file : StoredFile). length file.bytes ≤ size) (own_files old (trace_files size max_size old frames))
own_within size max_size old frames all =
    let P = λ (file : StoredFile). length file.bytes ≤ size in
    let parts = own_suffix size max_size old frames in
    all_second P parts.0 (own_files old (trace_files size max_size old frames)) (subst (AllByRecursion P) parts.1 (within_size size old frames all))
