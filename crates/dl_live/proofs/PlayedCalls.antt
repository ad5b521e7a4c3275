-- How many calls were played.
use Rattle.std.proofs.Common.{◌≡◌, ◌≤◌, List, [], ◌∷◌, length, map, refl, arith, length-append}
use Rattle.std.specs.Prelude.{All, sum_by}
use Rattle.std.specs.List.{flat_map}
use Rattle.std.proofs.lemmas.List.Elements.{All-head, All-tail}
use Rattle.std.proofs.lemmas.List.Sums.{sum_by-cons}
use Rattle.dl_bytes.specs.Context.{Context}
use Rattle.dl_crew.specs.Plays.{ArePairs, CanPlay, HasPlayed}
use Rattle.dl_events.specs.declared.record.Record.{Record}
use Rattle.dl_script_model.specs.declared.scenario.ScenarioLine.{ScenarioLine}
use Rattle.dl_settling.specs.Room.{together}
use Rattle.dl_writer.specs.State.{BookState}

module _ (contexts : List Context) (lines : List ScenarioLine) where
  one_fits : (old new : BookState) → CanPlay lines old → HasPlayed contexts lines old new → length new.records ≤ old.room
  one_fits old new can played =
      let few = played.few in
      let room = can.has.room in
      omega (arith, few, room)

  -- the books that were played have no more records than there was room for
  pub all_fit : (old new : List BookState) → ArePairs (HasPlayed contexts lines) old new → All (CanPlay lines) old → together new ≤ sum_by (λ b. b.room) old
  all_fit [] [] played can = omega arith
  all_fit [] (new ∷ news) played can = absurd played
  all_fit (old ∷ olds) [] played can = absurd played
  all_fit (old ∷ olds) (new ∷ news) played can =
      let this = one_fits old new (All-head (CanPlay lines) old olds can) played.0 in
      let rest = all_fit olds news played.1 (All-tail (CanPlay lines) old olds can) in
      let sum = sum_by-cons (λ (b : BookState). b.room) old olds in
      omega (arith, this, rest, sum)
