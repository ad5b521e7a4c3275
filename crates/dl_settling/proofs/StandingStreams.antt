-- The stream of a client that is not open stands, whatever is taken and whoever is closed.
use Rattle.std.proofs.Common.{◌≡◌, ℕ, Bool, true, false, cond, eqb, List, [], ◌∷◌, ◌++◌, map, append_assoc, append-nil, refl, sym, ap, ◌∙◌, subst}
use Rattle.std.specs.List.{AllByRecursion}
use Rattle.dl_events.specs.declared.event.Event.{Event}
use Rattle.dl_events.specs.declared.event.Event.TheVariants as event
use Rattle.dl_events.specs.declared.event.Why.{Why}
use Rattle.dl_model.proofs.ClientStreams.{is_open-one, same_number}
use Rattle.dl_model.proofs.Lists.{along-one}
use Rattle.dl_model.specs.ClientStream.{put, sent, stream, traffic, traffic_of}
use Rattle.dl_model.specs.Frames.{FrameSource, frames_of}
use Rattle.dl_model.specs.Traffic.{Traffic, Admitted, Closed, is_open}
use Rattle.dl_taking.specs.Drained.{IsOfDrain}

-- traffic after which a client is not open, and its stream is this
pub record Stands (ecu : List ℕ) (buffer client : ℕ) (frames : List (List ℕ)) (ts : List Traffic) : Type 0 where
  pub shut : is_open client ts ≡ false
  pub same : sent ecu buffer client ts ≡ frames

stands_admitted : (ecu : List ℕ) (buffer client : ℕ) (frames : List (List ℕ)) (ts : List Traffic) (frame : List ℕ) → Stands ecu buffer client frames ts → Stands ecu buffer client frames (ts ++ Admitted frame ∷ [])
stands_admitted ecu buffer client frames ts frame so = record {
  shut = is_open-one client ts (Admitted frame) ∙ so.shut;
  same = along-one (put ecu buffer client) ts (Admitted frame) ∙ ap (λ (b : Bool). sent ecu buffer client ts ++ cond b (frame ∷ []) []) so.shut ∙ append-nil (sent ecu buffer client ts) ∙ so.same;
}

stands_each : (ecu : List ℕ) (buffer client : ℕ) (frames : List (List ℕ)) (ts : List Traffic) (admitted : List (List ℕ)) → Stands ecu buffer client frames ts → Stands ecu buffer client frames (ts ++ map Admitted admitted)
stands_each ecu buffer client frames ts [] so = subst (Stands ecu buffer client frames) (sym (append-nil ts)) so
stands_each ecu buffer client frames ts (frame ∷ admitted) so =
    subst (Stands ecu buffer client frames) (append_assoc ts (Admitted frame ∷ []) (map Admitted admitted))
    (stands_each ecu buffer client frames (ts ++ Admitted frame ∷ []) admitted (stands_admitted ecu buffer client frames ts frame so))

stands_closed : (ecu : List ℕ) (buffer client other : ℕ) (frames : List (List ℕ)) (ts : List Traffic) → Stands ecu buffer client frames ts → Stands ecu buffer client frames (ts ++ Closed other ∷ [])
stands_closed ecu buffer client other frames ts so = record {
  shut = is_open-one client ts (Closed other) ∙ by (eqb other client);
  same = along-one (put ecu buffer client) ts (Closed other) ∙ append-nil (sent ecu buffer client ts) ∙ so.same;
} where
  by : (b : Bool) → cond b false (is_open client ts) ≡ false
  by true = refl
  by false = so.shut

-- it does with a Close of its own
pub shut_now : (ecu : List ℕ) (buffer client : ℕ) (ts : List Traffic) → Stands ecu buffer client (sent ecu buffer client ts) (ts ++ Closed client ∷ [])
shut_now ecu buffer client ts = record {
  shut = is_open-one client ts (Closed client) ∙ ap (λ (b : Bool). cond b false (is_open client ts)) (same_number client);
  same = along-one (put ecu buffer client) ts (Closed client) ∙ append-nil (sent ecu buffer client ts);
}

-- ---- in a journal

module _ (source : FrameSource) (buffer client : ℕ) (frames : List (List ℕ)) where
  abbrev pub StandsAfter : List Event → Type 0
  StandsAfter events = Stands source.ecu buffer client frames (traffic source events)

  one_more : (past : List Event) (e : Event) → Stands source.ecu buffer client frames (traffic source past ++ traffic_of source past e) → StandsAfter (past ++ e ∷ [])
  one_more past e so = subst (Stands source.ecu buffer client frames) (sym (along-one (traffic_of source) past e)) so

  stands_one : (past : List Event) (e : Event) → IsOfDrain e → StandsAfter past → StandsAfter (past ++ e ∷ [])
  stands_one past (event.Log app writer call moment) is so =
      one_more past (event.Log app writer call moment) (stands_each source.ecu buffer client frames (traffic source past) (frames_of source (event.Log app writer call moment)) so)
  stands_one past (event.Lost app count moment) is so =
      one_more past (event.Lost app count moment) (stands_each source.ecu buffer client frames (traffic source past) (frames_of source (event.Lost app count moment)) so)
  stands_one past (event.Close other cause) is so = one_more past (event.Close other cause) (stands_closed source.ecu buffer client other frames (traffic source past) so)
  stands_one past (event.Claim claim moment) is so = one_more past (event.Claim claim moment) (stands_each source.ecu buffer client frames (traffic source past) [] so)
  stands_one past (event.User channel msg moment) is so = absurd is
  stands_one past (event.Level slot level) is so = one_more past (event.Level slot level) (stands_each source.ecu buffer client frames (traffic source past) [] so)
  stands_one past (event.Connect other) is so = absurd is
  stands_one past (event.Request other frame answer) is so = absurd is

  pub stands_on : (past more : List Event) → AllByRecursion IsOfDrain more → StandsAfter past → StandsAfter (past ++ more)
  stands_on past [] all so = subst StandsAfter (sym (append-nil past)) so
  stands_on past (e ∷ more) all so = subst StandsAfter (append_assoc past (e ∷ []) more) (stands_on (past ++ e ∷ []) more all.1 (stands_one past e all.0 so))

-- from its Close on
pub stands_closing : (source : FrameSource) (buffer client : ℕ) (cause : Why) (past : List Event) → StandsAfter source buffer client (stream source buffer client past) (past ++ event.Close client cause ∷ [])
stands_closing source buffer client cause past =
    one_more source buffer client (stream source buffer client past) past (event.Close client cause) (shut_now source.ecu buffer client (traffic source past))
