-- The next piece of frames of these sizes, wherever it goes.
use Rattle.std.proofs.Common.{◌≡◌, ℕ, suc, ◌+◌, ◌-◌, ◌≤◌, ◌<◌, Bool, true, false, cond, List, [], ◌∷◌, length, take, drop, map, Option, None, Ok, Err, refl, sym, ap, subst, ◌∙◌, arith, inl, inr}
use Rattle.std.specs.Prelude.{sum, slice_index}
use Rattle.std.specs.List.{concat}
use Rattle.std.proofs.lemmas.List.{length-take-le}
use Rattle.std.proofs.lemmas.List.Elements.{All-head}
use Rattle.std.proofs.lemmas.List.Sums.{sum_by-cons, sum_by-take-le}
use Rattle.dl_bytes.specs.declared.outcome.TraceEnd.{TraceEnd}
use Rattle.dl_bytes.specs.declared.outcome.TraceEnd.TheVariants.{Spent}
use Rattle.dl_bytes.specs.declared.outcome.TraceFile.{TraceFile}
use Rattle.dl_outside.specs.Folder.{Files}
use Rattle.dl_model.specs.Backlog.{size_of}
use Rattle.dl_model.specs.TraceFiles.{number_limit}
use Rattle.dl_model.proofs.Rotation.{length-concat}
use Rattle.dl_trace.specs.State.{Trace}
use Rattle.dl_trace.specs.Batch.{parted, AreSizes, fit}
use Rattle.dl_trace.specs.Pieces.{pieces, pieces_of, last_size, room_of, room_for}
use Rattle.dl_trace.specs.Steps.{last_name, next_name, names_of, going_of, extended, with_file, ExtendsTrace, BeginsFile, Places, Extends, Begins}
use Rattle.dl_trace.specs.Storing.{IsStored, Stops, StoresNext}
use Rattle.dl_trace.specs.Kept.{IsSound}
use Rattle.dl_trace.proofs.Sound.{size-grown, last_size-one, room_open}
use Rattle.dl_trace.proofs.Trail.{fits}
use Rattle.dl_trace.proofs.Cuts.{later_pieces, sizes_of, parted-concat, next_open, next_new, stops_there}
use Rattle.dl_trace.proofs.Placing.{stored_open}
use Rattle.dl_trace.proofs.Placed.{stored_new, ended_with, stops_open, stops_new, stops_spent}

-- what is known of the next piece: its first frame, and the others
pub record IsPiece (size room : ℕ) (sizes bytes : List ℕ) : Type 0 where
  pub first : List ℕ
  pub others : List (List ℕ)
  pub frames_are : take (fit room sizes) (parted sizes bytes) ≡ first ∷ others
  pub bytes_are : concat (first ∷ others) ≡ take (sum (take (fit room sizes) sizes)) bytes
  pub total : size_of (first ∷ others) ≡ sum (take (fit room sizes) sizes)
  pub first_is : length first ≡ slice_index sizes 0
  pub some : 0 < fit room sizes

pub piece_at : (size room : ℕ) (s : ℕ) (sizes bytes : List ℕ) → AreSizes (s ∷ sizes) bytes → s ≤ room → IsPiece size room (s ∷ sizes) bytes
piece_at size room s sizes bytes are within =
    let k = fit (room - s) sizes in
    let count : fit room (s ∷ sizes) ≡ suc k = ap (λ b. cond b (suc k) 0) (fits s room within) in
    let sums = sum_by-cons (λ (x : ℕ). x) s sizes in
    let frames : take (fit room (s ∷ sizes)) (parted (s ∷ sizes) bytes) ≡ take s bytes ∷ take k (parted sizes (drop s bytes)) = ap (λ (n : ℕ). take n (parted (s ∷ sizes) bytes)) count in
    let all : concat (take s bytes ∷ take k (parted sizes (drop s bytes))) ≡ take (sum (take (fit room (s ∷ sizes)) (s ∷ sizes))) bytes = ap concat (sym frames) ∙ parted-concat (fit room (s ∷ sizes)) (s ∷ sizes) bytes are.whole in
    let n = sum (take (fit room (s ∷ sizes)) (s ∷ sizes)) in
    let most : n ≤ length bytes = omega (arith, sum_by-take-le (λ (x : ℕ). x) (s ∷ sizes) (fit room (s ∷ sizes)), are.whole) in
    record {
      first = take s bytes;
      others = take k (parted sizes (drop s bytes));
      frames_are = frames;
      bytes_are = all;
      total = sym (length-concat (take s bytes ∷ take k (parted sizes (drop s bytes)))) ∙ ap (λ (b : List ℕ). length b) all ∙ length-take-le n bytes most;
      first_is = length-take-le s bytes (omega (arith, sums, are.whole));
      some = omega (arith, count);
    }

pub least_size : (s : ℕ) (sizes bytes : List ℕ) → AreSizes (s ∷ sizes) bytes → (17 ≤ s) × (s ≤ 2000)
least_size s sizes bytes are = All-head (λ (n : ℕ). (17 ≤ n) × (n ≤ 2000)) s sizes are.each

pub room_begun : (trace : Trace) → 0 < room_of trace → trace.begun ≡ true
room_begun trace some = by_test trace.begun refl where
  by_test : (b : Bool) → trace.begun ≡ b → trace.begun ≡ true
  by_test true is = is
  by_test false is = absurd (omega (arith, some, ap (λ (b : Bool). cond b (trace.file_size - last_size trace.state.files) 0) is))

-- the cut, by the sizes
cut_is : (size room start left s : ℕ) (sizes bytes : List ℕ) → AreSizes (s ∷ sizes) bytes → s ≤ room → left + sum (take (fit room (s ∷ sizes)) (s ∷ sizes)) ≡ room →
    pieces size start (parted (s ∷ sizes) bytes)
    ≡ take (fit room (map length (parted (s ∷ sizes) bytes))) (parted (s ∷ sizes) bytes)
    ∷ later_pieces size (drop (fit room (map length (parted (s ∷ sizes) bytes))) (parted (s ∷ sizes) bytes)) →
    pieces size start (parted (s ∷ sizes) bytes) ≡ take (fit room (s ∷ sizes)) (parted (s ∷ sizes) bytes) ∷ pieces size left (drop (fit room (s ∷ sizes)) (parted (s ∷ sizes) bytes))
cut_is size room start left s sizes bytes are within all first =
    let frames = parted (s ∷ sizes) bytes in
    let same = sizes_of (s ∷ sizes) bytes are.whole in
    let p = piece_at size room s sizes bytes are within in
    let total : size_of (take (fit room (map length frames)) frames) ≡ sum (take (fit room (s ∷ sizes)) (s ∷ sizes)) =
    ap (λ (ns : List ℕ). size_of (take (fit room ns) frames)) same ∙ ap size_of p.frames_are ∙ p.total in
    first ∙ ap (λ (ps : List (List (List ℕ))). take (fit room (map length frames)) frames ∷ ps) (stops_there size room frames left (omega (arith, all, total)))
    ∙ ap (λ (ns : List ℕ). take (fit room ns) frames ∷ pieces size left (drop (fit room ns) frames)) same

placed_open : (trace new : Trace) (s : ℕ) (sizes bytes : List ℕ) (told now : Option Files) → AreSizes (s ∷ sizes) bytes → IsSound trace → trace.state.end ≡ None → s ≤ room_of trace →
    sum (take (fit (room_of trace) (s ∷ sizes)) (s ∷ sizes)) ≤ room_of trace → ExtendsTrace trace new told now (Ok tt) (take (sum (take (fit (room_of trace) (s ∷ sizes)) (s ∷ sizes))) bytes) →
    StoresNext (fit (room_of trace) (s ∷ sizes)) (parted (s ∷ sizes) bytes) trace new told now
placed_open trace new s sizes bytes told now are sound goes_on within most does =
    let room = room_of trace in
    let frames = parted (s ∷ sizes) bytes in
    let k = fit room (s ∷ sizes) in
    let n = sum (take k (s ∷ sizes)) in
    let p = piece_at trace.file_size room s sizes bytes are within in
    let piece = p.first ∷ p.others in
    let least = least_size s sizes bytes are in
    let begun = room_begun trace (omega (arith, least.0, within)) in
    let stored = stored_open trace piece told now sound goes_on begun (omega (arith, p.total, most)) (subst (λ (b : List ℕ). Extends told now (Ok tt) (last_name trace.state.files) b) (sym p.bytes_are) does.1) in
    let same : extended (length (concat piece)) trace ≡ new = ap (λ (b : List ℕ). extended (length b) trace) p.bytes_are ∙ sym does.0 in
    let size : length (take n bytes) ≡ n = sym (ap (λ (b : List ℕ). length b) p.bytes_are) ∙ length-concat piece ∙ p.total in
    let left : room_of new ≡ trace.file_size - (last_size trace.state.files + n) =
    ap room_of does.0 ∙ room_open (extended (length (take n bytes)) trace) begun
    ∙ ap (λ (m : ℕ). trace.file_size - m) (size-grown (length (take n bytes)) trace.state.files (sound.some begun) ∙ ap (λ (m : ℕ). last_size trace.state.files + m) size) in
    let all : room_of new + n ≡ room = omega (arith, left, room_open trace begun, most, sound.room begun) in
    let first = next_open trace.file_size room (take s bytes) (parted sizes (drop s bytes)) (omega (arith, length-take-le s bytes (omega (arith, sum_by-cons (λ (x : ℕ). x) s sizes, are.whole)), within)) in
    record {
      cut = cut_is trace.file_size room room (room_of new) s sizes bytes are within all first ∙ ap (λ (m : ℕ). take k frames ∷ pieces m (room_of new) (drop k frames)) (sym (ap (λ (t : Trace). t.file_size) does.0));
      stored = subst (λ (t : Trace). IsStored (take k frames) trace t told now) same (subst (λ (fs : List (List ℕ)). IsStored fs trace (extended (length (concat piece)) trace) told now) (sym p.frames_are) stored);
    }

placed_new : (trace new : Trace) (s : ℕ) (sizes bytes : List ℕ) (told now : Option Files) → AreSizes (s ∷ sizes) bytes → IsSound trace → trace.state.end ≡ None → room_of trace < s → trace.last < number_limit →
    sum (take (fit trace.file_size (s ∷ sizes)) (s ∷ sizes)) ≤ trace.file_size → BeginsFile trace new told now (Ok tt) (take (sum (take (fit trace.file_size (s ∷ sizes)) (s ∷ sizes))) bytes) →
    StoresNext (fit trace.file_size (s ∷ sizes)) (parted (s ∷ sizes) bytes) trace new told now
placed_new trace new s sizes bytes told now are sound goes_on over few most does =
    let room = trace.file_size in
    let frames = parted (s ∷ sizes) bytes in
    let k = fit room (s ∷ sizes) in
    let n = sum (take k (s ∷ sizes)) in
    let least = least_size s sizes bytes are in
    let within : s ≤ room = omega (arith, least.1, sound.least) in
    let p = piece_at trace.file_size room s sizes bytes are within in
    let piece = p.first ∷ p.others in
    let stored = stored_new trace p.first p.others told now sound goes_on few (omega (arith, p.first_is, over)) (omega (arith, p.total, most, sum_by-cons length p.first p.others))
    (subst (λ (b : List ℕ). Begins told now (Ok tt) (next_name trace) b (names_of (take (going_of trace) trace.state.files))) (sym p.bytes_are) does.1) in
    let same : with_file (length (concat piece)) trace ≡ new = ap (λ (b : List ℕ). with_file (length b) trace) p.bytes_are ∙ sym does.0 in
    let size : length (take n bytes) ≡ n = sym (ap (λ (b : List ℕ). length b) p.bytes_are) ∙ length-concat piece ∙ p.total in
    let entry : TraceFile = record { name = next_name trace; bytes = length (take n bytes) } in
    let left : room_of new ≡ trace.file_size - n =
    ap room_of does.0 ∙ room_open (with_file (length (take n bytes)) trace) refl
    ∙ ap (λ (m : ℕ). trace.file_size - m) (last_size-one (drop (going_of trace) trace.state.files) entry ∙ size) in
    let all : room_of new + n ≡ room = omega (arith, left, most) in
    let first = next_new trace.file_size (room_of trace) (take s bytes) (parted sizes (drop s bytes)) (omega (arith, length-take-le s bytes (omega (arith, sum_by-cons (λ (x : ℕ). x) s sizes, are.whole)), over)) (omega (arith, length-take-le s bytes (omega (arith, sum_by-cons (λ (x : ℕ). x) s sizes, are.whole)), within)) in
    record {
      cut = cut_is trace.file_size room (room_of trace) (room_of new) s sizes bytes are within all first ∙ ap (λ (m : ℕ). take k frames ∷ pieces m (room_of new) (drop k frames)) (sym (ap (λ (t : Trace). t.file_size) does.0));
      stored = subst (λ (t : Trace). IsStored (take k frames) trace t told now) same (subst (λ (fs : List (List ℕ)). IsStored fs trace (with_file (length (concat piece)) trace) told now) (sym p.frames_are) stored);
    }

-- what the trace found of the first frame
abbrev pub Goes : Bool → Trace → ℕ → Type 0
Goes true trace s = room_of trace < s
Goes false trace s = s ≤ room_of trace

abbrev pub bytes_for : Bool → Trace → List ℕ → ℕ
bytes_for begins trace sizes = sum (take (fit (room_for begins trace) sizes) sizes)

pub placed : (begins : Bool) (trace new : Trace) (s : ℕ) (sizes bytes : List ℕ) (told now : Option Files) → AreSizes (s ∷ sizes) bytes → IsSound trace → trace.state.end ≡ None → Goes begins trace s →
    bytes_for begins trace (s ∷ sizes) ≤ room_for begins trace → Places begins trace new told now (Ok tt) (take (bytes_for begins trace (s ∷ sizes)) bytes) →
    StoresNext (fit (room_for begins trace) (s ∷ sizes)) (parted (s ∷ sizes) bytes) trace new told now
placed false trace new s sizes bytes told now are sound goes_on way most does = placed_open trace new s sizes bytes told now are sound goes_on way most does
placed true trace new s sizes bytes told now are sound goes_on way most (inl spent) = absurd cc
placed true trace new s sizes bytes told now are sound goes_on way most (inr does) = placed_new trace new s sizes bytes told now are sound goes_on way does.0 most does.1

-- a piece was not stored: the cut before it is the same
failed_cut : (begins : Bool) (trace : Trace) (s : ℕ) (sizes bytes : List ℕ) → AreSizes (s ∷ sizes) bytes → IsSound trace → Goes begins trace s →
    (p : IsPiece trace.file_size (room_for begins trace) (s ∷ sizes) bytes) × (pieces_of trace (parted (s ∷ sizes) bytes) ≡ (p.first ∷ p.others) ∷ later_pieces trace.file_size (drop (fit (room_for begins trace) (s ∷ sizes)) (parted (s ∷ sizes) bytes)))
failed_cut false trace s sizes bytes are sound way =
    let room = room_of trace in
    let frames = parted (s ∷ sizes) bytes in
    let p = piece_at trace.file_size room s sizes bytes are way in
    let first = next_open trace.file_size room (take s bytes) (parted sizes (drop s bytes)) (omega (arith, length-take-le s bytes (omega (arith, sum_by-cons (λ (x : ℕ). x) s sizes, are.whole)), way)) in (
      p,
      first ∙ ap (λ (ns : List ℕ). take (fit room ns) frames ∷ later_pieces trace.file_size (drop (fit room ns) frames)) (sizes_of (s ∷ sizes) bytes are.whole)
          ∙ ap (λ (fs : List (List ℕ)). fs ∷ later_pieces trace.file_size (drop (fit room (s ∷ sizes)) frames)) p.frames_are,
    )
failed_cut true trace s sizes bytes are sound way =
    let room = trace.file_size in
    let frames = parted (s ∷ sizes) bytes in
    let least = least_size s sizes bytes are in
    let within : s ≤ room = omega (arith, least.1, sound.least) in
    let p = piece_at trace.file_size room s sizes bytes are within in
    let len = length-take-le s bytes (omega (arith, sum_by-cons (λ (x : ℕ). x) s sizes, are.whole)) in
    let first = next_new trace.file_size (room_of trace) (take s bytes) (parted sizes (drop s bytes)) (omega (arith, len, way)) (omega (arith, len, within)) in (
      p,
      first ∙ ap (λ (ns : List ℕ). take (fit room ns) frames ∷ later_pieces trace.file_size (drop (fit room ns) frames)) (sizes_of (s ∷ sizes) bytes are.whole)
          ∙ ap (λ (fs : List (List ℕ)). fs ∷ later_pieces trace.file_size (drop (fit room (s ∷ sizes)) frames)) p.frames_are,
    )

pub not_placed : (begins : Bool) (trace new : Trace) (s : ℕ) (sizes bytes : List ℕ) (told now : Option Files) (end : TraceEnd) → AreSizes (s ∷ sizes) bytes → IsSound trace → Goes begins trace s →
    bytes_for begins trace (s ∷ sizes) ≤ room_for begins trace → Places begins trace new told now (Err end) (take (bytes_for begins trace (s ∷ sizes)) bytes) → Stops end (parted (s ∷ sizes) bytes) trace (ended_with end (parted (s ∷ sizes) bytes) new) told now
not_placed false trace new s sizes bytes told now end are sound way most does =
    let cut = failed_cut false trace s sizes bytes are sound way in
    let p = cut.0 in
    let least = least_size s sizes bytes are in
    subst (λ (t : Trace). Stops end (parted (s ∷ sizes) bytes) trace (ended_with end (parted (s ∷ sizes) bytes) t) told now) (sym does.0)
    (stops_open end (parted (s ∷ sizes) bytes) (p.first ∷ p.others) (later_pieces trace.file_size (drop (fit (room_of trace) (s ∷ sizes)) (parted (s ∷ sizes) bytes))) trace told now cut.1 sound
    (room_begun trace (omega (arith, least.0, way))) (omega (arith, p.total, most)) (subst (λ (b : List ℕ). Extends told now (Err end) (last_name trace.state.files) b) (sym p.bytes_are) does.1))
not_placed true trace new s sizes bytes told now end are sound way most (inl spent) =
    let cut = failed_cut true trace s sizes bytes are sound way in
    let p = cut.0 in
    let same : Spent ≡ end = cc in
    subst (λ (e : TraceEnd). Stops e (parted (s ∷ sizes) bytes) trace (ended_with e (parted (s ∷ sizes) bytes) new) told now) same
    (subst (λ (t : Trace). Stops Spent (parted (s ∷ sizes) bytes) trace (ended_with Spent (parted (s ∷ sizes) bytes) t) told now) (sym spent.2)
    (stops_spent (parted (s ∷ sizes) bytes) p.first p.others (later_pieces trace.file_size (drop (fit trace.file_size (s ∷ sizes)) (parted (s ∷ sizes) bytes))) trace told now cut.1 sound
    (omega (arith, p.first_is, way)) (omega (arith, p.total, most, sum_by-cons length p.first p.others)) spent.0 spent.3))
not_placed true trace new s sizes bytes told now end are sound way most (inr does) =
    let cut = failed_cut true trace s sizes bytes are sound way in
    let p = cut.0 in
    subst (λ (t : Trace). Stops end (parted (s ∷ sizes) bytes) trace (ended_with end (parted (s ∷ sizes) bytes) t) told now) (sym does.1.0)
    (stops_new end (parted (s ∷ sizes) bytes) p.first p.others (later_pieces trace.file_size (drop (fit trace.file_size (s ∷ sizes)) (parted (s ∷ sizes) bytes))) trace told now cut.1 sound does.0
    (omega (arith, p.first_is, way)) (omega (arith, p.total, most, sum_by-cons length p.first p.others))
    (subst (λ (b : List ℕ). Begins told now (Err end) (next_name trace) b (names_of (take (going_of trace) trace.state.files))) (sym p.bytes_are) does.1.1))

-- ---- as the code finds it

pub placed_at : (begins : Bool) (trace new : Trace) (sizes bytes : List ℕ) (told now : Option Files) (room count n : ℕ) → 0 < length sizes → AreSizes sizes bytes → IsSound trace → trace.state.end ≡ None →
    (begins ≡ true → room_of trace < slice_index sizes 0) → (begins ≡ false → slice_index sizes 0 ≤ room_of trace) → room ≡ room_for begins trace → count ≡ fit room sizes → n ≡ sum (take (fit room sizes) sizes) → n ≤ room →
    Places begins trace new told now (Ok tt) (take n bytes) → StoresNext count (parted sizes bytes) trace new told now
placed_at begins trace new [] bytes told now room count n some are sound goes_on new_way open_way room_is count_is n_is most does = absurd (omega arith)
placed_at begins trace new (s ∷ sizes) bytes told now room count n some are sound goes_on new_way open_way room_is count_is n_is most does =
    let all : n ≡ bytes_for begins trace (s ∷ sizes) = n_is ∙ ap (λ (r : ℕ). sum (take (fit r (s ∷ sizes)) (s ∷ sizes))) room_is in
    subst (λ (k : ℕ). StoresNext k (parted (s ∷ sizes) bytes) trace new told now) (sym (count_is ∙ ap (λ (r : ℕ). fit r (s ∷ sizes)) room_is))
    (placed begins trace new s sizes bytes told now are sound goes_on (way begins new_way open_way) (omega (arith, all, most, room_is)) (subst (λ (k : ℕ). Places begins trace new told now (Ok tt) (take k bytes)) all does)) where
      way : (begins : Bool) → (begins ≡ true → room_of trace < s) → (begins ≡ false → s ≤ room_of trace) → Goes begins trace s
      way true new_way open_way = new_way refl
      way false new_way open_way = open_way refl

pub not_placed_at : (begins : Bool) (trace new : Trace) (sizes bytes : List ℕ) (told now : Option Files) (end : TraceEnd) (room n : ℕ) → 0 < length sizes → AreSizes sizes bytes → IsSound trace →
    (begins ≡ true → room_of trace < slice_index sizes 0) → (begins ≡ false → slice_index sizes 0 ≤ room_of trace) → room ≡ room_for begins trace → n ≡ sum (take (fit room sizes) sizes) → n ≤ room →
    Places begins trace new told now (Err end) (take n bytes) → Stops end (parted sizes bytes) trace (ended_with end (parted sizes bytes) new) told now
not_placed_at begins trace new [] bytes told now end room n some are sound new_way open_way room_is n_is most does = absurd (omega arith)
not_placed_at begins trace new (s ∷ sizes) bytes told now end room n some are sound new_way open_way room_is n_is most does =
    let all : n ≡ bytes_for begins trace (s ∷ sizes) = n_is ∙ ap (λ (r : ℕ). sum (take (fit r (s ∷ sizes)) (s ∷ sizes))) room_is in
    not_placed begins trace new s sizes bytes told now end are sound (way begins new_way open_way) (omega (arith, all, most, room_is)) (subst (λ (k : ℕ). Places begins trace new told now (Err end) (take k bytes)) all does) where
      way : (begins : Bool) → (begins ≡ true → room_of trace < s) → (begins ≡ false → s ≤ room_of trace) → Goes begins trace s
      way true new_way open_way = new_way refl
      way false new_way open_way = open_way refl

-- the open file is there, where the next frame goes into it
pub open_begun : (trace : Trace) (sizes bytes : List ℕ) → 0 < length sizes → AreSizes sizes bytes → slice_index sizes 0 ≤ room_of trace → trace.begun ≡ true
open_begun trace [] bytes some are within = absurd (omega arith)
open_begun trace (s ∷ sizes) bytes some are within = let least = least_size s sizes bytes are in room_begun trace (omega (arith, least.0, within))
