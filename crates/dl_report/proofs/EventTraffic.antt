-- What waits after one event more.
use Rattle.std.proofs.Common.{◌≡◌, ℕ, Bool, true, false, cond, List, [], ◌∷◌, ◌++◌, refl, sym, ap, ◌∙◌, append_assoc}
use Rattle.std.specs.Prelude.{map}
use Rattle.std.proofs.lemmas.List.{append-nil}
use Rattle.dl_events.specs.declared.event.Event.{Event}
use Rattle.dl_events.specs.declared.event.Event.TheVariants as event
use Rattle.dl_events.specs.declared.event.Why.{Why}
use Rattle.dl_model.specs.Backlog.{waiting}
use Rattle.dl_model.specs.ClientStream.{traffic, traffic_of}
use Rattle.dl_model.specs.Frames.{FrameSource, frames_of}
use Rattle.dl_model.specs.Journal.{is_connect, is_close}
use Rattle.dl_model.specs.Traffic.{Traffic, Admitted, is_any_open}
use Rattle.dl_model.proofs.ClientStreams.{any_open-admit, waiting-admit, waiting-comes, waiting-goes, waiting-reply}
use Rattle.dl_model.proofs.Lists.{along-one}

-- nothing waits where a client is open
pub none_waits : (ts : List Traffic) → is_any_open ts ≡ true → waiting ts ≡ []
none_waits ts is = rw is refl

waits_so : (ts : List Traffic) → cond (is_any_open ts) [] (waiting ts) ≡ waiting ts
waits_so ts = by_test (is_any_open ts) refl where
  by_test : (b : Bool) → is_any_open ts ≡ b → cond b [] (waiting ts) ≡ waiting ts
  by_test true is = sym (none_waits ts is)
  by_test false is = refl

-- frames wait where nobody is open
admitted_wait : (ts : List Traffic) (frames : List (List ℕ)) → waiting (ts ++ map Admitted frames) ≡ cond (is_any_open ts) [] (waiting ts ++ frames)
admitted_wait ts [] = ap waiting (append-nil ts) ∙ sym (waits_so ts) ∙ ap (λ (fs : List (List ℕ)). cond (is_any_open ts) [] fs) (sym (append-nil (waiting ts)))
admitted_wait ts (frame ∷ frames) =
    let next = ts ++ Admitted frame ∷ [] in
    ap waiting (sym (append_assoc ts (Admitted frame ∷ []) (map Admitted frames))) ∙ admitted_wait next frames
    ∙ ap (λ (b : Bool). cond b [] (waiting next ++ frames)) (any_open-admit frame ts)
    ∙ ap (λ (fs : List (List ℕ)). cond (is_any_open ts) [] (fs ++ frames)) (waiting-admit frame ts) ∙ by_test (is_any_open ts) (waiting ts) where
      by_test : (b : Bool) (fs : List (List ℕ)) → cond b [] (cond b [] (fs ++ frame ∷ []) ++ frames) ≡ cond b [] (fs ++ frame ∷ frames)
      by_test true fs = refl
      by_test false fs = append_assoc fs (frame ∷ []) frames

one_event : (source : FrameSource) (events : List Event) (e : Event) → waiting (traffic source (events ++ e ∷ [])) ≡ waiting (traffic source events ++ traffic_of source events e)
one_event source events e = ap waiting (along-one (traffic_of source) events e)

pub waits_come : (source : FrameSource) (events : List Event) (client : ℕ) → waiting (traffic source (events ++ event.Connect client ∷ [])) ≡ []
waits_come source events client = one_event source events (event.Connect client) ∙ waiting-comes client (traffic source events)

pub waits_go : (source : FrameSource) (events : List Event) (client : ℕ) (why : Why) → waiting (traffic source (events ++ event.Close client why ∷ [])) ≡ []
waits_go source events client why = one_event source events (event.Close client why) ∙ waiting-goes client (traffic source events)

-- what waits after an event of no client's coming or going
abbrev WaitsOn : FrameSource → List Event → Event → Type 0
WaitsOn source events e = waiting (traffic source (events ++ e ∷ [])) ≡ cond (is_any_open (traffic source events)) [] (waiting (traffic source events) ++ frames_of source e)

as_before : (source : FrameSource) (events : List Event) → waiting (traffic source events) ≡ cond (is_any_open (traffic source events)) [] (waiting (traffic source events) ++ [])
as_before source events = sym (ap (λ (fs : List (List ℕ)). cond (is_any_open (traffic source events)) [] fs) (append-nil (waiting (traffic source events))) ∙ waits_so (traffic source events))

pub waits_on : (source : FrameSource) (events : List Event) (e : Event) → is_connect e ≡ false → is_close e ≡ false → WaitsOn source events e
waits_on source events (event.Connect client) comes goes = absurd cc
waits_on source events (event.Close client why) comes goes = absurd cc
waits_on source events (event.Request client frame done) comes goes =
    one_event source events (event.Request client frame done) ∙ waiting-reply client (source.reply events frame done) (traffic source events) ∙ as_before source events
waits_on source events (event.Claim claim moment) comes goes =
    one_event source events (event.Claim claim moment) ∙ ap waiting (append-nil (traffic source events)) ∙ as_before source events
waits_on source events (event.Level slot level) comes goes =
    one_event source events (event.Level slot level) ∙ ap waiting (append-nil (traffic source events)) ∙ as_before source events
waits_on source events (event.Log app writer call moment) comes goes =
    let e = event.Log app writer call moment in one_event source events e ∙ admitted_wait (traffic source events) (frames_of source e)
waits_on source events (event.Lost app count moment) comes goes =
    let e = event.Lost app count moment in one_event source events e ∙ admitted_wait (traffic source events) (frames_of source e)
waits_on source events (event.User channel msg moment) comes goes =
    let e = event.User channel msg moment in one_event source events e ∙ admitted_wait (traffic source events) (frames_of source e)
