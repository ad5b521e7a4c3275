-- Where calls stand from left to right: at their times; or at their lines, where all have one time.
use Rattle.std.specs.Prelude.{ℕ, ◌-◌, ◌^◌, nat_lt, min, max, Bool, true, false, List, fold, if◌then◌else◌}
use Rattle.dl_picture.specs.Axis as axis
use Rattle.dl_picture.specs.declared.axis.Axis.{Axis}
use Rattle.dl_call_timeline.specs.declared.call.Call.{Call}
use Rattle.dl_call_timeline.specs.declared.scale.Scale.{Scale}

-- where a call stands: at its timestamp, or at its line
abbrev pub place_of : Bool → Call → ℕ
place_of timed call = if timed then call.ticks else call.line

abbrev pub least : Bool → ℕ → Call → ℕ
least timed so_far call = min so_far (place_of timed call)

abbrev pub greatest : Bool → ℕ → Call → ℕ
greatest timed so_far call = max so_far (place_of timed call)

-- the places of calls, from the least to the greatest; 0 alone where there is no call
abbrev pub axis_by : Bool → List Call → Axis
axis_by timed calls = let last = fold (greatest timed) 0 calls in record { first = min (fold (least timed) (2 ^ 64 - 1) calls) last; last = last }

abbrev pub on : Bool → Axis → Scale
on timed axis = record { timed = timed; axis = axis }

-- A script tells a time where two of its calls have different ones. Where it tells none, the place of a call in the script is its time.
abbrev pub scale_of : List Call → Scale
scale_of calls = if nat_lt (axis_by true calls).first (axis_by true calls).last then on true (axis_by true calls) else on false (axis_by false calls)

-- the column of a call
abbrev pub column_of : Scale → Call → ℕ
column_of scale call = axis.column_of scale.axis (place_of scale.timed call)
