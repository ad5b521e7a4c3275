-- What a buffer keeps of frames of one size, behind others.
use Rattle.std.proofs.Common.{◌≡◌, ℕ, zero, suc, ◌+◌, ◌-◌, ◌*◌, ◌≤◌, ◌<◌, true, false, leb, List, [], ◌∷◌, ◌++◌, length, refl, sym, ap, ◌∙◌, length-append, arith, ◌⊎◌, inl, inr}
use Rattle.std.specs.Prelude.{map, replicate}
use Rattle.std.proofs.lemmas.Bool.{lt-leb}
use Rattle.std.proofs.lemmas.Bool.Decides.{leb_tells}
use Rattle.std.proofs.lemmas.List.{append-nil, length-map, length-replicate}
use Rattle.std.proofs.lemmas.List.Sums.{sum_by-cons, sum_by-append}
use Rattle.std.proofs.Math.Nat.{eq-zero-or-pos}
use Rattle.dl_lemmas.proofs.Lists.{empty_of}
use Rattle.dl_bytes.specs.declared.outcome.Backlog.{Backlog}
use Rattle.dl_model.specs.Backlog.{fitting, refused, size_of}
use Rattle.dl_laws.proofs.Backlogs.{prefix, room}
use Rattle.dl_laws.proofs.JournalStreams.{refused_on}
use Rattle.dl_report.specs.declared.batch.Batch.{Batch}
use Rattle.dl_report.specs.Batches.{IsBatch, IsMost}
use Rattle.dl_report.specs.Keeping.{kept}

fits_within : (size limit : ℕ) → size ≤ limit → leb size limit ≡ true
fits_within size limit le = by_test (leb_tells size limit) where
  by_test : ((leb size limit ≡ true) × (size ≤ limit)) ⊎ ((leb size limit ≡ false) × (limit < size)) → leb size limit ≡ true
  by_test (inl within) = within.0
  by_test (inr above) = absurd (omega (arith, above.1, le))

-- ---- frames of one size

first_size : (f : List ℕ) (frames : List (List ℕ)) (n size : ℕ) → map length (f ∷ frames) ≡ replicate (suc n) size → length f ≡ size
first_size f frames n size are = cc

later_sizes : (f : List ℕ) (frames : List (List ℕ)) (n size : ℕ) → map length (f ∷ frames) ≡ replicate (suc n) size → map length frames ≡ replicate n size
later_sizes f frames n size are = cc

one_more : (k size : ℕ) → suc k * size ≡ size + k * size
one_more k size = omega arith

-- as many are kept as have room
pub fits_alike : (limit : ℕ) (frames : List (List ℕ)) (n size k : ℕ) → map length frames ≡ replicate n size → k ≤ n → k * size ≤ limit → (k < n → limit < suc k * size) →
    (length (fitting limit frames) ≡ k) × (size_of (fitting limit frames) ≡ k * size)
fits_alike limit [] zero size zero are some within most = (refl, omega arith)
fits_alike limit [] zero size (suc k) are some within most = absurd (omega (arith, some))
fits_alike limit [] (suc n) size k are some within most = absurd cc
fits_alike limit (f ∷ frames) zero size k are some within most = absurd cc
fits_alike limit (f ∷ frames) (suc n) size zero are some within most =
    let above : leb (length f) limit ≡ false = lt-leb (length f) limit (omega (arith, most (omega arith), one_more 0 size, first_size f frames n size are)) in
    rw above (refl, omega arith)
fits_alike limit (f ∷ frames) (suc n) size (suc k) are some within most =
    let here = first_size f frames n size are in
    let fits : leb (length f) limit ≡ true = fits_within (length f) limit (omega (arith, within, one_more k size, here)) in
    let later = fits_alike (limit - length f) frames n size k (later_sizes f frames n size are) (omega (arith, some)) (omega (arith, within, one_more k size, here))
    (λ lt. omega (arith, most (omega (arith, lt)), one_more (suc k) size, here, one_more k size)) in
    rw (fits, sum_by-cons length f (fitting (limit - length f) frames)) (omega (arith, later.0), omega (arith, later.1, one_more k size, here))

-- ---- behind other frames

-- where none was refused, all are kept
pub all_kept : (limit : ℕ) (frames : List (List ℕ)) → refused limit frames ≡ 0 → (fitting limit frames ≡ frames) × (size_of frames ≤ limit)
all_kept limit frames none =
    let parts = prefix limit frames in
    let nothing : parts.0 ≡ [] = empty_of parts.0 (omega (arith, none, ap length parts.1, length-append (fitting limit frames) parts.0)) in
    let all : frames ≡ fitting limit frames = parts.1 ∙ ap (λ (xs : List (List ℕ)). fitting limit frames ++ xs) nothing ∙ append-nil (fitting limit frames) in
    (sym all, omega (arith, room limit frames, ap size_of all))

-- behind frames that are kept, those are kept that fit into what is left
pub behind : (limit : ℕ) (frames more : List (List ℕ)) → size_of frames ≤ limit → fitting limit (frames ++ more) ≡ frames ++ fitting (limit - size_of frames) more
behind limit [] more le = ap (λ (n : ℕ). fitting n more) (omega arith)
behind limit (f ∷ frames) more le =
    let size : size_of (f ∷ frames) ≡ length f + size_of frames = sum_by-cons length f frames in
    let fits : leb (length f) limit ≡ true = fits_within (length f) limit (omega (arith, le, size)) in
    let later = behind (limit - length f) frames more (omega (arith, le, size)) in
    let rest : (limit - length f) - size_of frames ≡ limit - size_of (f ∷ frames) = omega (arith, size) in
    rw fits (ap (λ (fs : List (List ℕ)). f ∷ fs) (later ∙ ap (λ (n : ℕ). frames ++ fitting n more) rest))

-- ---- the backlog

backlog_is : (a b : Backlog) → a.frames ≡ b.frames → a.bytes ≡ b.bytes → a.refused ≡ b.refused → a ≡ b
backlog_is a b frames bytes refusals = λ i. record { frames = frames i; bytes = bytes i; refused = refusals i }

pub batch_len : (batch : Batch) (frames : List (List ℕ)) → IsBatch batch frames → length frames ≡ batch.frames
batch_len batch frames are = sym (length-map frames length) ∙ ap length are ∙ length-replicate batch.frames batch.size

-- none was refused: as many of the batch are kept as have room
pub keeps : (limit : ℕ) (frames more : List (List ℕ)) (batch : Batch) (old : Backlog) (fits : ℕ) →
    old ≡ kept limit frames → old.refused ≡ 0 → IsBatch batch more → IsMost batch (limit - old.bytes) fits →
    record { frames = old.frames + fits; bytes = old.bytes + fits * batch.size; refused = old.refused + (batch.frames - fits) } ≡ kept limit (frames ++ more)
keeps limit frames more batch old fits was none are most =
    let none_of : refused limit frames ≡ 0 = omega (arith, none, ap (λ (b : Backlog). b.refused) was) in
    let all = all_kept limit frames none_of in
    let size : old.bytes ≡ size_of frames = ap (λ (b : Backlog). b.bytes) was ∙ ap size_of all.0 in
    let long : length (fitting limit frames) ≡ length frames = ap length all.0 in
    let room_left : limit - old.bytes ≡ limit - size_of frames = ap (λ (n : ℕ). limit - n) size in
    let part = fits_alike (limit - size_of frames) more batch.frames batch.size fits are most.some (omega (arith, most.within, room_left)) (λ lt. omega (arith, most.most lt, room_left)) in
    let now = behind limit frames more all.1 in
    let kept_now : length (fitting limit (frames ++ more)) ≡ length frames + fits = ap length now ∙ length-append frames (fitting (limit - size_of frames) more) ∙ ap (λ (n : ℕ). length frames + n) part.0 in
    let size_now : size_of (fitting limit (frames ++ more)) ≡ size_of frames + fits * batch.size =
    ap size_of now ∙ sum_by-append length frames (fitting (limit - size_of frames) more) ∙ ap (λ (n : ℕ). size_of frames + n) part.1 in
    backlog_is _ (kept limit (frames ++ more))
    (omega (arith, ap (λ (b : Backlog). b.frames) was, long, kept_now))
    (ap (λ (n : ℕ). n + fits * batch.size) size ∙ sym size_now)
    (omega (arith, none, kept_now, length-append frames more, batch_len batch more are))

-- one was refused: so is all of the batch
pub refuses : (limit : ℕ) (frames more : List (List ℕ)) (batch : Batch) (old : Backlog) (fits : ℕ) →
    old ≡ kept limit frames → (old.refused ≡ 0 → ⊥) → IsBatch batch more → fits ≡ 0 →
    record { frames = old.frames + fits; bytes = old.bytes + fits * batch.size; refused = old.refused + (batch.frames - fits) } ≡ kept limit (frames ++ more)
refuses limit frames more batch old fits was some are none =
    let some_of : 0 < refused limit frames = elim (eq-zero-or-pos (refused limit frames)) [
      | inl is ↦ absurd (some (omega (arith, is, ap (λ (b : Backlog). b.refused) was)))
      | inr above ↦ above
    ] in
    let on = refused_on limit frames more some_of in
    let same : old.bytes + fits * batch.size ≡ old.bytes + 0 * batch.size = ap (λ (k : ℕ). old.bytes + k * batch.size) none in
    backlog_is _ (kept limit (frames ++ more))
    (omega (arith, none, ap (λ (b : Backlog). b.frames) was, ap length on.0))
    (omega (arith, same, ap (λ (b : Backlog). b.bytes) was, ap size_of on.0))
    (omega (arith, none, ap (λ (b : Backlog). b.refused) was, on.1, batch_len batch more are))
