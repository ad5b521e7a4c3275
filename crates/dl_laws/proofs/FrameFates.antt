-- What became of a frame that was admitted: a client heard it, it waits, or the buffer refused it.
use Rattle.std.proofs.Common.{◌≡◌, ℕ, ◌+◌, ◌-◌, ◌<◌, ◌≤◌, Bool, true, false, cond, leb, List, [], ◌∷◌, ◌++◌, length, map, Some, None, refl, sym, ap, subst, ◌∙◌, append_assoc, length-append, arith}
use Rattle.std.specs.Prelude.{slice_get}
use Rattle.std.proofs.Math.Seq.{get_or-append_seam}
use Rattle.std.proofs.lemmas.Bool.{leb-true}
use Rattle.std.proofs.lemmas.Bool.Decides.{leb_tells}
use Rattle.std.proofs.lemmas.List.{append-nil}
use Rattle.std.proofs.lemmas.List.Sums.{sum_by-cons}
use Rattle.std.proofs.lemmas.Option.{slice_get-get_or}
use Rattle.dl_lemmas.proofs.Lists.{get_more}
use Rattle.dl_events.specs.declared.event.Event.{Event}
use Rattle.dl_events.specs.declared.event.Event.TheVariants as event
use Rattle.dl_model.specs.Along.{along_from}
use Rattle.dl_model.specs.Setting.{Setting}
use Rattle.dl_model.specs.Journal.{IsWellFormed}
use Rattle.dl_model.specs.Frames.{FrameSource, frames_of}
use Rattle.dl_model.specs.Traffic as t
use Rattle.dl_model.specs.Traffic.{Traffic, Connected, Admitted, Reply, Closed, is_any_open}
use Rattle.dl_model.specs.Backlog.{size_of, waiting, fitting, due_backlog}
use Rattle.dl_model.specs.ClientStream.{put, sent, traffic_of, traffic, stream}
use Rattle.dl_model.proofs.Lists.{along_from-append, along-one}
use Rattle.dl_model.proofs.ClientStreams.{any_open, any_open-admit, any_open-reply, waiting-admit, waiting-reply, same_number, unbroken}
use Rattle.dl_laws.specs.Fates.{next_client}
use Rattle.dl_laws.proofs.ClientStays.{Speaks, AllSpeak, opened_is, quiet_before, true_not_false}
use Rattle.dl_laws.proofs.JournalStreams.{open_same, quiet_traffic, traffic_parts}

-- ---- the place behind a list

pub at_place : {A : Type 0} (xs ys : List A) (y : A) → slice_get (xs ++ y ∷ ys) (length xs) ≡ Some y
at_place xs ys y = slice_get-get_or (xs ++ y ∷ ys) (length xs) y (omega (arith, length-append xs (y ∷ ys))) ∙ ap Some (get_or-append_seam xs y ys y)

-- ---- what a buffer keeps

-- frames that have room together are kept, whatever comes behind them
fits_more : (limit : ℕ) (xs more : List (List ℕ)) → size_of xs ≤ limit → (others : List (List ℕ)) × (fitting limit (xs ++ more) ≡ xs ++ others)
fits_more limit [] more le = (fitting limit more, refl)
fits_more limit (x ∷ xs) more le =
    let size : size_of (x ∷ xs) ≡ length x + size_of xs = sum_by-cons length x xs in
    let first : leb (length x) limit ≡ true = grind (arith, leb_tells, size, le) in
    let rest = fits_more (limit - length x) xs more (omega (arith, size, le)) in
    (rest.0, ap (λ (b : Bool). cond b (x ∷ fitting (limit - length x) (xs ++ more)) []) first ∙ ap (λ (fs : List (List ℕ)). x ∷ fs) rest.1)

pub kept_at : (limit : ℕ) (ws : List (List ℕ)) (frame : List ℕ) (more : List (List ℕ)) → leb (size_of (ws ++ frame ∷ [])) limit ≡ true → slice_get (fitting limit ((ws ++ frame ∷ []) ++ more)) (length ws) ≡ Some frame
kept_at limit ws frame more fits =
    let rest = fits_more limit (ws ++ frame ∷ []) more (leb-true (size_of (ws ++ frame ∷ [])) limit fits) in
    ap (λ (fs : List (List ℕ)). slice_get fs (length ws)) rest.1 ∙ get_more (ws ++ frame ∷ []) rest.0 (length ws) frame (at_place ws [] frame)

-- a frame that has no room stands behind all that are kept
pub fits_no_more : (limit : ℕ) (ws : List (List ℕ)) (frame : List ℕ) (more : List (List ℕ)) → limit < size_of (ws ++ frame ∷ []) → length (fitting limit ((ws ++ frame ∷ []) ++ more)) ≤ length ws
fits_no_more limit [] frame more lt =
    let size : size_of (frame ∷ []) ≡ length frame + size_of [] = sum_by-cons length frame [] in
    let none : leb (length frame) limit ≡ false = grind (arith, leb_tells, size, lt) in
    let same : length (fitting limit (frame ∷ more)) ≡ 0 = ap (λ (b : Bool). length (cond b (frame ∷ fitting (limit - length frame) more) [])) none in
    omega (arith, same)
fits_no_more limit (w ∷ ws) frame more lt = by_test (leb (length w) limit) refl (fits_no_more (limit - length w) ws frame more) where
  size : size_of (w ∷ ws ++ frame ∷ []) ≡ length w + size_of (ws ++ frame ∷ [])
  size = sum_by-cons length w (ws ++ frame ∷ [])

  by_test : (b : Bool) → leb (length w) limit ≡ b → (limit - length w < size_of (ws ++ frame ∷ []) → length (fitting (limit - length w) ((ws ++ frame ∷ []) ++ more)) ≤ length ws) →
      length (cond b (w ∷ fitting (limit - length w) ((ws ++ frame ∷ []) ++ more)) []) ≤ length (w ∷ ws)
  by_test true is later =
      let le = leb-true (length w) limit is in
      let rest = later (omega (arith, lt, size, le)) in
      omega (arith, rest)
  by_test false is later = omega arith

-- ---- what waits while nobody comes

-- Nobody is open behind this traffic, and what waits goes on from what waited behind that.
pub record Waits (first now : List Traffic) : Type 0 where
  pub shut : is_any_open now ≡ false
  pub others : List (List ℕ)
  pub is : waiting now ≡ waiting first ++ others

waits_frames : (first now : List Traffic) (frames : List (List ℕ)) → Waits first now → Waits first (now ++ map Admitted frames)
waits_frames first now [] w = subst (Waits first) (sym (append-nil now)) w
waits_frames first now (frame ∷ frames) w =
    subst (Waits first) (append_assoc now (Admitted frame ∷ []) (map Admitted frames)) (waits_frames first (now ++ Admitted frame ∷ []) frames (record {
      shut = any_open-admit frame now ∙ w.shut;
      others = w.others ++ frame ∷ [];
      is = waiting-admit frame now ∙ ap (λ (b : Bool). cond b [] (waiting now ++ frame ∷ [])) w.shut ∙ ap (λ (l : List (List ℕ)). l ++ frame ∷ []) w.is
          ∙ append_assoc (waiting first) w.others (frame ∷ []);
    }))

waits_reply : (first now : List Traffic) (client : ℕ) (frame : List ℕ) → Waits first now → Waits first (now ++ Reply client frame ∷ [])
waits_reply first now client frame w = record {
  shut = any_open-reply client frame now ∙ w.shut;
  others = w.others;
  is = waiting-reply client frame now ∙ w.is;
}

module _ (source : FrameSource) where
  waits_event : (first : List Traffic) (before : List Event) (e : Event) → Speaks before e → next_client (e ∷ []) ≡ None → Waits first (traffic source before) → Waits first (traffic source before ++ traffic_of source before e)
  waits_event first before (event.Connect client) says none w = absurd cc
  waits_event first before (event.Request client frame done) says none w = waits_reply first (traffic source before) client (source.reply before frame done) w
  waits_event first before (event.Close client why) says none w =
      let there : t.is_open client (traffic source before) ≡ true = open_same source client before ∙ opened_is client before says in
      absurd (true_not_false (is_any_open (traffic source before)) ((any_open (traffic source before)).1 client there) w.shut)
  waits_event first before (event.Claim claim moment) says none w = waits_frames first (traffic source before) [] w
  waits_event first before (event.Level slot level) says none w = waits_frames first (traffic source before) [] w
  waits_event first before (event.Log app writer call moment) says none w = waits_frames first (traffic source before) (frames_of source (event.Log app writer call moment)) w
  waits_event first before (event.Lost app count moment) says none w = waits_frames first (traffic source before) (frames_of source (event.Lost app count moment)) w
  waits_event first before (event.User channel msg moment) says none w = waits_frames first (traffic source before) (frames_of source (event.User channel msg moment)) w

  nobody_comes : (e : Event) (events : List Event) → next_client (e ∷ events) ≡ None → (next_client (e ∷ []) ≡ None) × (next_client events ≡ None)
  nobody_comes (event.Connect client) events none = absurd cc
  nobody_comes _ events none = (refl, none)

  pub waits_on : (first : List Traffic) (before events : List Event) → AllSpeak before events → next_client events ≡ None → Waits first (traffic source before) → Waits first (traffic source (before ++ events))
  waits_on first before [] all none w = subst (λ (es : List Event). Waits first (traffic source es)) (sym (append-nil before)) w
  waits_on first before (e ∷ events) all none w =
      let parts = nobody_comes e events none in
      let next : Waits first (traffic source (before ++ e ∷ [])) = subst (Waits first) (sym (along-one (traffic_of source) before e)) (waits_event first before e all.0 parts.0 w) in
      subst (λ (es : List Event). Waits first (traffic source es)) (append_assoc before (e ∷ []) events) (waits_on first (before ++ e ∷ []) events all.1 parts.1 next)

-- ---- the client that comes next

pub record Comes (client : ℕ) (events : List Event) : Type 0 where
  pub middle : List Event
  pub after : List Event
  pub place : events ≡ middle ++ event.Connect client ∷ after
  pub none : next_client middle ≡ None

comes_later : (e : Event) (client : ℕ) (events : List Event) → next_client (e ∷ []) ≡ None → ((middle : List Event) → next_client middle ≡ None → next_client (e ∷ middle) ≡ None) → Comes client events → Comes client (e ∷ events)
comes_later e client events quiet still c = record { middle = e ∷ c.middle; after = c.after; place = ap (λ (es : List Event). e ∷ es) c.place; none = still c.middle c.none }

pub comes : (client : ℕ) (events : List Event) → next_client events ≡ Some client → Comes client events
comes client [] is = absurd cc
comes client (event.Connect other ∷ events) is =
    let same : other ≡ client = cc in
    subst (λ (n : ℕ). Comes n (event.Connect other ∷ events)) same (record { middle = []; after = events; place = refl; none = refl })
comes client (event.Request other frame done ∷ events) is = comes_later (event.Request other frame done) client events refl (λ middle none. none) (comes client events is)
comes client (event.Close other why ∷ events) is = comes_later (event.Close other why) client events refl (λ middle none. none) (comes client events is)
comes client (event.Claim claim moment ∷ events) is = comes_later (event.Claim claim moment) client events refl (λ middle none. none) (comes client events is)
comes client (event.Level slot level ∷ events) is = comes_later (event.Level slot level) client events refl (λ middle none. none) (comes client events is)
comes client (event.Log app writer call moment ∷ events) is = comes_later (event.Log app writer call moment) client events refl (λ middle none. none) (comes client events is)
comes client (event.Lost app count moment ∷ events) is = comes_later (event.Lost app count moment) client events refl (λ middle none. none) (comes client events is)
comes client (event.User channel msg moment ∷ events) is = comes_later (event.User channel msg moment) client events refl (λ middle none. none) (comes client events is)

-- ---- the stream of a client from its coming on

empty_front : (xs ys : List (List ℕ)) → xs ++ ys ≡ ys → xs ≡ []
empty_front [] ys is = refl
empty_front (x ∷ xs) ys is = absurd (omega (arith, ap length is, length-append (x ∷ xs) ys))

pub begins_due : (setting : Setting) (source : FrameSource) (buffer client : ℕ) (before after : List Event) → IsWellFormed setting source (before ++ event.Connect client ∷ after) →
    (later : List (List ℕ)) × (stream source buffer client (before ++ event.Connect client ∷ after) ≡ due_backlog source.ecu buffer (waiting (traffic source before)) ++ later)
begins_due setting source buffer client before after formed =
    let ts = traffic source before in
    let f = put source.ecu buffer client in
    let due = due_backlog source.ecu buffer (waiting ts) in
    let us = along_from (traffic_of source) (before ++ event.Connect client ∷ []) after in
    let quiet = quiet_traffic source client [] before (quiet_before setting source client before after formed) in
    let first : f ts (Connected client) ≡ due = ap (λ (b : Bool). cond b due []) (same_number client) in
    let one : sent source.ecu buffer client (ts ++ Connected client ∷ Closed client ∷ []) ≡ due ++ [] = unbroken source.ecu buffer client ts [] [] quiet refl refl in
    let two : sent source.ecu buffer client (ts ++ Connected client ∷ Closed client ∷ []) ≡ sent source.ecu buffer client ts ++ (due ++ []) =
    along_from-append f [] ts (Connected client ∷ Closed client ∷ []) ∙ ap (λ (l : List (List ℕ)). sent source.ecu buffer client ts ++ (l ++ [])) first in
    let none : sent source.ecu buffer client ts ≡ [] = empty_front (sent source.ecu buffer client ts) (due ++ []) (sym two ∙ one) in
    let later = along_from f (ts ++ Connected client ∷ []) us in (
      later,
      ap (sent source.ecu buffer client) (traffic_parts source client before after) ∙ along_from-append f [] ts (Connected client ∷ us)
          ∙ ap (λ (l : List (List ℕ)). l ++ (f ts (Connected client) ++ later)) none ∙ ap (λ (l : List (List ℕ)). l ++ later) first,
    )
