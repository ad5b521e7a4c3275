-- A call's pieces, one after the other.
use Rattle.std.proofs.Common.{◌≡◌, ℕ, ◌+◌, ◌≤◌, Bool, true, false, cond, List, [], ◌∷◌, ◌++◌, length, take, drop, Option, Some, None, refl, sym, ap, subst, ◌∙◌, append_assoc, length-append, arith}
use Rattle.std.specs.Prelude.{nat_le, IfNone}
use Rattle.std.proofs.lemmas.List.{append-nil, take-append-drop, take_at}
use Rattle.dl_bytes.specs.declared.outcome.TraceEnd.{TraceEnd}
use Rattle.dl_outside.specs.Folder.{Files}
use Rattle.dl_trace.specs.State.{Trace}
use Rattle.dl_trace.specs.Batch.{parted, AreSizes, IsNext}
use Rattle.dl_trace.specs.Pieces.{pieces_of, frames_in, room_of}
use Rattle.dl_trace.specs.Storing.{IsStored, Stops, StoresNext}
use Rattle.dl_trace.specs.Kept.{IsSound}
use Rattle.dl_trace.proofs.Cuts.{parted-drop, sizes-rest}
use Rattle.dl_trace.proofs.Placing.{small_number}
use Rattle.dl_trace.proofs.Joined.{nothing_stored, joins, stops_later, frames_in-one}

-- how far a call has come: these pieces are stored, and frames of these sizes are left
pub record SoFar (frames : List (List ℕ)) (old new : Trace) (told now : Option Files) (sizes bytes : List ℕ) (appends appends_now : ℕ) : Type 0 where
  pub before : List (List (List ℕ))
  pub stored : IsStored (frames_in before) old new told now
  pub cut : pieces_of old frames ≡ before ++ pieces_of new (parted sizes bytes)
  pub frames_are : frames ≡ frames_in before ++ parted sizes bytes
  pub sized : AreSizes sizes bytes
  pub count : appends_now ≤ appends + length before

pub sets_out : (old : Trace) (told : Option Files) (sizes bytes : List ℕ) (appends : ℕ) → AreSizes sizes bytes → IsSound old → old.state.end ≡ None → SoFar (parted sizes bytes) old old told told sizes bytes appends appends
sets_out old told sizes bytes appends are sound goes_on = record {
  before = [];
  stored = nothing_stored old told goes_on (λ stood done after. small_number _ (omega (arith, after.last, sound.last)));
  cut = refl;
  frames_are = refl;
  sized = are;
  count = omega arith;
}

pub goes_on : (frames : List (List ℕ)) (old new newer : Trace) (told now later : Option Files) (sizes bytes : List ℕ) (appends appends_now appends_later count n : ℕ) →
    SoFar frames old new told now sizes bytes appends appends_now → IsNext count n sizes → StoresNext count (parted sizes bytes) new newer now later → appends_later ≤ appends_now + 1 →
    SoFar frames old newer told later (drop count sizes) (drop n bytes) appends appends_later
goes_on frames old new newer told now later sizes bytes appends appends_now appends_later count n far next does rise =
    let left = parted sizes bytes in
    let piece = take count left in
    let rest : drop count left ≡ parted (drop count sizes) (drop n bytes) = parted-drop count sizes bytes ∙ ap (λ (k : ℕ). parted (drop count sizes) (drop k bytes)) (sym next.sum_is) in
    let whole : frames_in (far.before ++ piece ∷ []) ≡ frames_in far.before ++ piece = frames_in-one far.before piece in
    record {
      before = far.before ++ piece ∷ [];
      stored = subst (λ (fs : List (List ℕ)). IsStored fs old newer told later) (sym whole) (joins (frames_in far.before) piece old new newer told now later far.stored does.stored);
      cut = far.cut ∙ ap (λ (ps : List (List (List ℕ))). far.before ++ ps) (does.cut ∙ ap (λ (fs : List (List ℕ)). piece ∷ pieces_of newer fs) rest)
          ∙ sym (append_assoc far.before (piece ∷ []) (pieces_of newer (parted (drop count sizes) (drop n bytes))));
      frames_are = far.frames_are ∙ ap (λ (fs : List (List ℕ)). frames_in far.before ++ fs) (sym (take-append-drop count left) ∙ ap (λ (fs : List (List ℕ)). piece ++ fs) rest)
          ∙ sym (append_assoc (frames_in far.before) piece (parted (drop count sizes) (drop n bytes))) ∙ ap (λ (fs : List (List ℕ)). fs ++ parted (drop count sizes) (drop n bytes)) (sym whole);
      sized = subst (λ (k : ℕ). AreSizes (drop count sizes) (drop k bytes)) (sym next.sum_is) (sizes-rest count sizes bytes far.sized);
      count = omega (arith, far.count, rise, length-append far.before (piece ∷ []));
    }

pub stops : (frames : List (List ℕ)) (old new newer : Trace) (told now later : Option Files) (sizes bytes : List ℕ) (appends appends_now appends_later : ℕ) (end : TraceEnd) →
    SoFar frames old new told now sizes bytes appends appends_now → Stops end (parted sizes bytes) new newer now later → appends_later ≤ appends_now + 1 →
    Stops end frames old newer told later × (appends_later ≤ appends + length (pieces_of old frames))
stops frames old new newer told now later sizes bytes appends appends_now appends_later end far does rise =
    let cut = ap (λ (ps : List (List (List ℕ))). length ps) far.cut in
    let at = ap (λ (ps : List (List (List ℕ))). length ps) does.cut in (
      stops_later end frames (parted sizes bytes) far.before old new newer told now later far.stored far.cut does,
      omega (arith, far.count, rise, cut, at, length-append far.before (pieces_of new (parted sizes bytes)), length-append does.stored (does.piece ∷ does.later)),
    )

-- ---- one frame

pub if_none : {T : Type 0} (o : Option T) (P : Type 0) → o ≡ None → P → IfNone o P
if_none None P e p = p
if_none (Some x) P e p = absurd cc
