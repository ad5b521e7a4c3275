-- What the laws on a client of this project's daemon say.
use Rattle.std.specs.Prelude.{◌≡◌, ℕ, false, List, [], ◌∷◌, ◌++◌, length}
use Rattle.std.specs.List.{list_any}
use Rattle.dl_bytes.specs.declared.moment.Moment.{Moment}
use Rattle.dl_events.specs.declared.event.Event.{Event}
use Rattle.dl_events.specs.declared.event.Event.TheVariants as event
use Rattle.dl_events.specs.declared.record.Record.{Record}
use Rattle.dl_model.specs.Accounts.{AreCounted}
use Rattle.dl_model.specs.Backlog.{refused, waiting}
use Rattle.dl_model.specs.ClientStream.{stream, traffic}
use Rattle.dl_model.specs.Frames.{FrameSource}
use Rattle.dl_model.specs.Traffic.{is_any_open}
use Rattle.dl_receive.specs.Calls.{heard_frames, comes_or_goes, stirs, logged, AreFramed, AreInOrder, Neighbours}

-- A client hears, in one piece, what is admitted from its coming on, as long as it stays.
abbrev pub HearsFromComing : Type 0
HearsFromComing =
    (source : FrameSource) (buffer client : ℕ) (before middle after : List Event) → list_any (comes_or_goes client) middle ≡ false
    → (earlier later : List (List ℕ)) ×
    (stream source buffer client (before ++ ((event.Connect client ∷ middle) ++ after)) ≡
    earlier ++ (heard_frames source client before (event.Connect client ∷ middle) ++ later))

-- Where nobody was open before, and while frames waited none was refused, no client came or went and this one asked for nothing, it hears
-- those frames too, and behind them what is admitted from its coming on.
abbrev pub HearsWithBacklog : Type 0
HearsWithBacklog =
    (source : FrameSource) (buffer client : ℕ) (before waited middle after : List Event) → is_any_open (traffic source before) ≡ false
    → list_any (stirs client) waited ≡ false → refused buffer (waiting (traffic source (before ++ waited))) ≡ 0
    → list_any (comes_or_goes client) middle ≡ false
    → (earlier later : List (List ℕ)) ×
    (stream source buffer client (before ++ ((waited ++ event.Connect client ∷ middle) ++ after)) ≡
    earlier ++ (heard_frames source client before (waited ++ event.Connect client ∷ middle) ++ later))

-- Of two log messages of a writer that a client hears one after the other: where frames are those of the records, the records count each
-- call, and the journal admits the calls in their order, the gap before the second is the number of the calls that were lost between.
abbrev pub GapsAreLostCalls : Type 0
GapsAreLostCalls =
    (source : FrameSource) (client app writer first second : ℕ) (at then : Moment) (earlier later : List (List ℕ)) (before front between back after : List Event) (records : List Record)
    → length source.ecu ≡ 4 → AreFramed source records → AreCounted 0 records
    → AreInOrder app writer (before ++ ((front ++ event.Log app writer first at ∷ (between ++ event.Log app writer second then ∷ back)) ++ after)) records
    → logged app writer between ≡ []
    → Neighbours source writer first second
    (earlier ++ (heard_frames source client before (front ++ event.Log app writer first at ∷ (between ++ event.Log app writer second then ∷ back)) ++ later))
    (heard_frames source client (before ++ (front ++ event.Log app writer first at ∷ [])) between) records
