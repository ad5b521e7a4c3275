-- Numbers in the names of trace files.
use Rattle.std.proofs.Common.{◌≡◌, ℕ, ◌+◌, ◌-◌, ◌/◌, ◌%◌, ◌≤◌, ◌<◌, zero, suc, List, [], ◌∷◌, ◌++◌, length, map, take, drop, get_or, codes, sym, ap, ◌∙◌, append_assoc, length-append, arith, inl, inr}
use Rattle.std.specs.Prelude.{max}
use Rattle.std.specs.List.{AllByRecursion}
use Rattle.std.proofs.lemmas.Bool.Decides.{leb_tells}
use Rattle.std.proofs.lemmas.List.{drop_at, get_or_default, get_or-map, length-map, length-drop, take_all}
use Rattle.std.proofs.lemmas.List.Sums.{fold_more}
use Rattle.dl_bytes.specs.declared.outcome.TraceFile.{TraceFile}
use Rattle.dl_model.specs.TraceFiles.{StoredFile, greatest, number_limit, six_digits, trace_name}
use Rattle.dl_trace.specs.State.{listed}
use Rattle.dl_trace.proofs.Names.{value, value_of_digits}
use Rattle.dl_fates.specs.Numbers.{digit_value}

-- what stands behind the last ten letters' begin
pub tail_is : (directory : List ℕ) (number start : ℕ) (name : List ℕ) → name ≡ trace_name directory number → start ≡ length name - 10 → take (length name - start) (drop start name) ≡ six_digits number ++ codes ".dlt"
tail_is directory number start name is begins =
    let front = directory ++ codes "/dlt_offlinetrace." in
    let tail = six_digits number ++ codes ".dlt" in
    let split : name ≡ front ++ tail = is ∙ append_assoc front (six_digits number) (codes ".dlt") in
    let long : length name ≡ length front + 10 = ap length split ∙ length-append front tail in
    let at : start ≡ length front = omega (arith, begins, long) in
    take_all (length name - start) (drop start name) (omega (arith, length-drop start name))
    ∙ ap (drop start) split ∙ drop_at front tail start (sym at)

digit_is : (d : ℕ) → d < 10 → digit_value (48 + d) ≡ d
digit_is d small = elim (leb_tells 48 (48 + d)) as (λ _. digit_value (48 + d) ≡ d) [
  | inl least ↦ elim (leb_tells (48 + d) 57) as (λ _. digit_value (48 + d) ≡ d) [
    | inl most ↦ rw (least.0, most.0) (omega arith)
    | inr over ↦ absurd (omega (arith, over.1, small))
  ]
  | inr under ↦ absurd (omega (arith, under.1))
]

digit_of : (tail : List ℕ) (n power k digit : ℕ) → get_or tail k 0 ≡ 48 + n / power % 10 → digit ≡ digit_value (get_or tail k 0) → digit ≡ n / power % 10
digit_of tail n power k digit at is = is ∙ ap digit_value at ∙ digit_is (n / power % 10) (omega arith)

-- the six digits spell the number
pub number_is : (tail : List ℕ) (n a b c d e f : ℕ) → n ≤ number_limit → tail ≡ six_digits n ++ codes ".dlt" →
    a ≡ digit_value (get_or tail 0 0) → b ≡ digit_value (get_or tail 1 0) → c ≡ digit_value (get_or tail 2 0) → d ≡ digit_value (get_or tail 3 0) → e ≡ digit_value (get_or tail 4 0) → f ≡ digit_value (get_or tail 5 0) →
    value a b c d e f ≡ n
number_is tail n a b c d e f small is pa pb pc pd pe pf =
    let at = λ (k : ℕ). ap (λ (l : List ℕ). get_or l k 0) is in
    let qa : a ≡ n / 100000 % 10 = digit_of tail n 100000 0 a (at 0) pa in
    let qb : b ≡ n / 10000 % 10 = digit_of tail n 10000 1 b (at 1) pb in
    let qc : c ≡ n / 1000 % 10 = digit_of tail n 1000 2 c (at 2) pc in
    let qd : d ≡ n / 100 % 10 = digit_of tail n 100 3 d (at 3) pd in
    let qe : e ≡ n / 10 % 10 = digit_of tail n 10 4 e (at 4) pe in
    let qf : f ≡ n / 1 % 10 = digit_of tail n 1 5 f (at 5) pf in
    rw (qa, qb, qc, qd, qe, qf) (value_of_digits n small)

-- ---- the greatest

all_at : (limit : ℕ) (files : List StoredFile) (i : ℕ) (d : StoredFile) → i < length files → AllByRecursion (λ (file : StoredFile). file.number ≤ limit) files → (get_or files i d).number ≤ limit
all_at limit [] i d within all = absurd (omega (arith, within))
all_at limit (file ∷ files) zero d within all = all.0
all_at limit (file ∷ files) (suc i) d within all = all_at limit files i d (omega (arith, within)) all.1

abbrev pub no_file : StoredFile
no_file = record { number = 0; bytes = [] }

pub newest_more : (directory : List ℕ) (files : List TraceFile) (stood : List StoredFile) (i newest found now : ℕ) (file : TraceFile) → files ≡ map (listed directory) stood → AllByRecursion (λ (file : StoredFile). file.number ≤ number_limit) stood →
    i < length files → file ≡ get_or files i file → ((number : ℕ) → number ≤ number_limit → file.name ≡ trace_name directory number → found ≡ number) →
    newest ≡ greatest (take i stood) → now ≡ max newest found → now ≡ greatest (take (i + 1) stood)
newest_more directory files stood i newest found now file are small within at reads was is =
    let here : i < length stood = omega (arith, within, ap length are, length-map stood (listed directory)) in
    let one = get_or stood i no_file in
    let this : file ≡ listed directory one =
    at ∙ get_or_default files i file (listed directory no_file) within ∙ ap (λ (fs : List TraceFile). get_or fs i (listed directory no_file)) are ∙ get_or-map (listed directory) stood i no_file (listed directory no_file) here in
    let number : found ≡ one.number = reads one.number (all_at number_limit stood i no_file here small) (ap (λ (f : TraceFile). f.name) this) in
    is ∙ ap (λ (n : ℕ). max n found) was ∙ ap (max (greatest (take i stood))) number ∙ sym (fold_more (λ (m : ℕ) (f : StoredFile). max m f.number) 0 stood i no_file here)
