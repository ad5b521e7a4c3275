-- What one entry of traffic changes.
use Rattle.std.proofs.Common.{eqb, ◌≡◌, ℕ, ◌+◌, ◌-◌, ◌≤◌, ◌<◌, Bool, true, false, cond, leb, List, [], ◌∷◌, ◌++◌, length, Option, Some, None, refl, sym, ap, subst, append_assoc, ◌∙◌, arith, inl, inr}
use Rattle.std.specs.Prelude.{reverse, find, ◌⊎◌, ◌||◌, ◌&&◌, map}
use Rattle.std.specs.List.{list_any, filter_map, after_last, flat_map}
use Rattle.std.specs.Option.{option_map_or}
use Rattle.std.proofs.lemmas.List.{append-nil, reverse-append}
use Rattle.std.proofs.lemmas.List.Elements.{filter_map-append}
use Rattle.std.proofs.lemmas.List.Folds.{list_any-append}
use Rattle.std.proofs.lemmas.Bool.Decides.{leb_tells, nat_tests}
use Rattle.std.proofs.lemmas.List.Sums.{sum_by-cons}
use Rattle.std.proofs.lemmas.List.Concat.{flat_map-cons}
use Rattle.std.proofs.lemmas.Bool.{eqb-true}
use Rattle.std.proofs.Math.Bool.{and-false}
use Rattle.dl_lemmas.proofs.Bools.{cond_same, neither}
use Rattle.dl_events.specs.declared.event.Event.{Event}
use Rattle.dl_events.specs.declared.event.Event.TheVariants as event
use Rattle.dl_model.specs.Frames.{FrameSource, frames_of, admitted}
use Rattle.dl_model.specs.Along.{along_from, last_that}
use Rattle.dl_model.specs.Traffic.{Traffic, Connected, Admitted, Reply, Closed, is_coming, is_going, comes_or_goes, comer_of, frame_of, clients, admitted_in, meant_for, is_open, is_any_open}
use Rattle.dl_model.specs.Backlog.{size_of, waiting, fitting, due_backlog}
use Rattle.dl_model.specs.ClientStream.{put, sent, traffic_of, traffic}
use Rattle.dl_model.proofs.Lists.{along_from-append, last_that-one, after_last-one}

-- ---- who is open

pub is_open-one : (client : ℕ) (ts : List Traffic) (t : Traffic) → is_open client (ts ++ t ∷ []) ≡ cond (comes_or_goes client t) (is_coming t) (is_open client ts)
is_open-one client ts t = ap (λ o. option_map_or is_coming o false) (last_that-one (comes_or_goes client) ts t) ∙ by_test (comes_or_goes client t) where
  by_test : (b : Bool) → option_map_or is_coming (cond b (Some t) (last_that (comes_or_goes client) ts)) false ≡ cond b (is_coming t) (is_open client ts)
  by_test true = refl
  by_test false = refl

any_same : {X : Type 0} (p q : X → Bool) → ((x : X) → p x ≡ q x) → (xs : List X) → list_any p xs ≡ list_any q xs
any_same p q same [] = refl
any_same p q same (x ∷ xs) = rw (same x, any_same p q same xs) refl

or_last : (a b : Bool) → b ≡ true → (a || (b || false)) ≡ true
or_last true b e = refl
or_last false true e = refl
or_last false false e = absurd cc

pub same_number : (n : ℕ) → eqb n n ≡ true
same_number n = grind (arith, nat_tests)

pub any_open-comes : (client : ℕ) (ts : List Traffic) → is_any_open (ts ++ Connected client ∷ []) ≡ true
any_open-comes client ts =
    let all = ts ++ Connected client ∷ [] in
    let comes : is_open client all ≡ true = is_open-one client ts (Connected client) ∙ ap (λ b. cond b true (is_open client ts)) (same_number client) in
    ap (list_any (λ c. is_open c all)) (filter_map-append comer_of ts (Connected client ∷ []))
    ∙ list_any-append (λ c. is_open c all) (clients ts) (client ∷ [])
    ∙ or_last (list_any (λ c. is_open c all) (clients ts)) (is_open client all) comes

-- a frame and a reply change nobody's being open
pub any_open-admit : (frame : List ℕ) (ts : List Traffic) → is_any_open (ts ++ Admitted frame ∷ []) ≡ is_any_open ts
any_open-admit frame ts =
    let all = ts ++ Admitted frame ∷ [] in
    ap (list_any (λ c. is_open c all)) (filter_map-append comer_of ts (Admitted frame ∷ []) ∙ append-nil (clients ts))
    ∙ any_same (λ c. is_open c all) (λ c. is_open c ts) (λ c. is_open-one c ts (Admitted frame)) (clients ts)

pub any_open-reply : (client : ℕ) (frame : List ℕ) (ts : List Traffic) → is_any_open (ts ++ Reply client frame ∷ []) ≡ is_any_open ts
any_open-reply client frame ts =
    let all = ts ++ Reply client frame ∷ [] in
    ap (list_any (λ c. is_open c all)) (filter_map-append comer_of ts (Reply client frame ∷ []) ∙ append-nil (clients ts))
    ∙ any_same (λ c. is_open c all) (λ c. is_open c ts) (λ c. is_open-one c ts (Reply client frame)) (clients ts)

-- ---- what waits

pub waiting-comes : (client : ℕ) (ts : List Traffic) → waiting (ts ++ Connected client ∷ []) ≡ []
waiting-comes client ts = ap (λ b. cond b [] (admitted_in (after_last is_going (ts ++ Connected client ∷ [])))) (any_open-comes client ts)

pub waiting-goes : (client : ℕ) (ts : List Traffic) → waiting (ts ++ Closed client ∷ []) ≡ []
waiting-goes client ts =
    ap (λ xs. cond (is_any_open (ts ++ Closed client ∷ [])) [] (admitted_in xs)) (after_last-one is_going ts (Closed client)) ∙ cond_same (is_any_open (ts ++ Closed client ∷ [])) []

pub waiting-admit : (frame : List ℕ) (ts : List Traffic) → waiting (ts ++ Admitted frame ∷ []) ≡ cond (is_any_open ts) [] (waiting ts ++ frame ∷ [])
waiting-admit frame ts =
    rw (any_open-admit frame ts, after_last-one is_going ts (Admitted frame)) (by_test (is_any_open ts)) where
      by_test : (b : Bool) → cond b [] (admitted_in (after_last is_going ts ++ Admitted frame ∷ [])) ≡ cond b [] (cond b [] (admitted_in (after_last is_going ts)) ++ frame ∷ [])
      by_test true = refl
      by_test false = filter_map-append frame_of (after_last is_going ts) (Admitted frame ∷ [])

pub waiting-reply : (client : ℕ) (frame : List ℕ) (ts : List Traffic) → waiting (ts ++ Reply client frame ∷ []) ≡ waiting ts
waiting-reply client frame ts =
    let same : admitted_in (after_last is_going ts ++ Reply client frame ∷ []) ≡ admitted_in (after_last is_going ts) =
    filter_map-append frame_of (after_last is_going ts) (Reply client frame ∷ []) ∙ append-nil (admitted_in (after_last is_going ts)) in
    rw (any_open-reply client frame ts, after_last-one is_going ts (Reply client frame), same) refl

-- ---- what a buffer keeps

fits_behind : (limit size more : ℕ) → size ≤ limit → leb more (limit - size) ≡ leb (size + more) limit
fits_behind limit size more le = grind (arith, leb_tells)

pub fitting-one : (limit : ℕ) (frames : List (List ℕ)) (frame : List ℕ) →
    fitting limit (frames ++ frame ∷ []) ≡ cond (leb (size_of (frames ++ frame ∷ [])) limit) (frames ++ frame ∷ []) (fitting limit frames)
fitting-one limit [] frame = ap (λ n. cond (leb n limit) (frame ∷ []) []) (omega arith)
fitting-one limit (x ∷ frames) frame = by_test (leb_tells (length x) limit) (fitting-one (limit - length x) frames frame) where
  move : (b : Bool) → x ∷ cond b (frames ++ frame ∷ []) (fitting (limit - length x) frames) ≡ cond b (x ∷ frames ++ frame ∷ []) (x ∷ fitting (limit - length x) frames)
  move true = refl
  move false = refl

  by_test : ((leb (length x) limit ≡ true) × (length x ≤ limit)) ⊎ ((leb (length x) limit ≡ false) × (limit < length x)) →
      fitting (limit - length x) (frames ++ frame ∷ []) ≡ cond (leb (size_of (frames ++ frame ∷ [])) (limit - length x)) (frames ++ frame ∷ []) (fitting (limit - length x) frames) →
      fitting limit (x ∷ frames ++ frame ∷ []) ≡ cond (leb (size_of (x ∷ frames ++ frame ∷ [])) limit) (x ∷ frames ++ frame ∷ []) (fitting limit (x ∷ frames))
  by_test (inl within) later =
      rw (within.0, later, fits_behind limit (length x) (size_of (frames ++ frame ∷ [])) within.1, sum_by-cons length x (frames ++ frame ∷ []))
      (move (leb (length x + size_of (frames ++ frame ∷ [])) limit))
  by_test (inr above) later =
      let more : leb (length x + size_of (frames ++ frame ∷ [])) limit ≡ false = grind (arith, leb_tells, above.1) in
      rw (above.0, sum_by-cons length x (frames ++ frame ∷ []), more) refl

-- ---- one client's stream

or_swap : (a b : Bool) → (a || (b || false)) ≡ (b || a)
or_swap true true = refl
or_swap true false = refl
or_swap false true = refl
or_swap false false = refl

any_reverse : {X : Type 0} (p : X → Bool) (xs : List X) → list_any p (reverse xs) ≡ list_any p xs
any_reverse p [] = refl
any_reverse p (x ∷ xs) = ap (list_any p) (reverse-append (x ∷ []) xs) ∙ list_any-append p (reverse xs) (x ∷ []) ∙ ap (λ b. b || (p x || false)) (any_reverse p xs) ∙ or_swap (list_any p xs) (p x)

find_none : {X : Type 0} (p : X → Bool) (xs : List X) → list_any p xs ≡ false → find p xs ≡ None
find_none p [] none = refl
find_none p (x ∷ xs) none =
    let parts = neither (p x) (list_any p xs) none in
    rw (parts.0, find_none p xs parts.1) refl

pub puts_nothing : (ecu : List ℕ) (buffer client : ℕ) (before : List Traffic) (t : Traffic) → is_open client before ≡ false → comes_or_goes client t ≡ false → put ecu buffer client before t ≡ []
puts_nothing ecu buffer client before (Connected other) shut none = rw none refl
puts_nothing ecu buffer client before (Admitted frame) shut none = rw shut refl
puts_nothing ecu buffer client before (Reply other frame) shut none = rw (shut, and-false (eqb other client)) refl
puts_nothing ecu buffer client before (Closed other) shut none = refl

puts_meant : (ecu : List ℕ) (buffer client : ℕ) (before : List Traffic) (t : Traffic) → is_open client before ≡ true → comes_or_goes client t ≡ false →
    put ecu buffer client before t ≡ filter_map (meant_for client) (t ∷ [])
puts_meant ecu buffer client before (Connected other) there none = rw none refl
puts_meant ecu buffer client before (Admitted frame) there none = rw there refl
puts_meant ecu buffer client before (Reply other frame) there none = rw there (by_test (eqb other client)) where
  by_test : (b : Bool) → cond (b && true) (frame ∷ []) [] ≡ filter_map (λ (o : Option (List ℕ)). o) (cond b (Some frame) None ∷ [])
  by_test true = refl
  by_test false = refl
puts_meant ecu buffer client before (Closed other) there none = refl

-- from where it is closed on, until it comes: nothing
pub all_quiet : (ecu : List ℕ) (buffer client : ℕ) (before ts : List Traffic) → is_open client before ≡ false → list_any (comes_or_goes client) ts ≡ false →
    along_from (put ecu buffer client) before ts ≡ []
all_quiet ecu buffer client before [] shut none = refl
all_quiet ecu buffer client before (t ∷ ts) shut none =
    let parts = neither (comes_or_goes client t) (list_any (comes_or_goes client) ts) none in
    let next : is_open client (before ++ t ∷ []) ≡ false = is_open-one client before t ∙ rw parts.0 shut in
    let later = all_quiet ecu buffer client (before ++ t ∷ []) ts next parts.1 in
    let now : put ecu buffer client before t ≡ [] = puts_nothing ecu buffer client before t shut parts.0 in
    rw (now, later) refl

-- while it is open: all that is meant for it
during : (ecu : List ℕ) (buffer client : ℕ) (before ts : List Traffic) → is_open client before ≡ true → list_any (comes_or_goes client) ts ≡ false →
    along_from (put ecu buffer client) before ts ≡ filter_map (meant_for client) ts
during ecu buffer client before [] there none = refl
during ecu buffer client before (t ∷ ts) there none =
    let parts = neither (comes_or_goes client t) (list_any (comes_or_goes client) ts) none in
    let next : is_open client (before ++ t ∷ []) ≡ true = is_open-one client before t ∙ rw parts.0 there in
    let later = during ecu buffer client (before ++ t ∷ []) ts next parts.1 in
    let now = puts_meant ecu buffer client before t there parts.0 in
    rw (now, later) (sym (filter_map-append (meant_for client) (t ∷ []) ts))

shut_before : (client : ℕ) (ts : List Traffic) → list_any (comes_or_goes client) ts ≡ false → is_open client ts ≡ false
shut_before client ts none = ap (λ o. option_map_or is_coming o false) (find_none (comes_or_goes client) (reverse ts) (any_reverse (comes_or_goes client) ts ∙ none))

-- a whole stay: what waited, and then all that was meant for it until it went
pub unbroken : (ecu : List ℕ) (buffer client : ℕ) (before middle after : List Traffic) → list_any (comes_or_goes client) before ≡ false
    → list_any (comes_or_goes client) middle ≡ false → list_any (comes_or_goes client) after ≡ false →
    sent ecu buffer client (before ++ Connected client ∷ (middle ++ Closed client ∷ after)) ≡ due_backlog ecu buffer (waiting before) ++ filter_map (meant_for client) middle
unbroken ecu buffer client before middle after none_before none_middle none_after =
    let f = put ecu buffer client in
    let came = before ++ Connected client ∷ [] in
    let gone = (came ++ middle) ++ Closed client ∷ [] in
    let shut : is_open client before ≡ false = shut_before client before none_before in
    let there : is_open client came ≡ true = is_open-one client before (Connected client) ∙ ap (λ b. cond b true (is_open client before)) (same_number client) in
    let left : is_open client gone ≡ false = is_open-one client (came ++ middle) (Closed client) ∙ ap (λ b. cond b false (is_open client (came ++ middle))) (same_number client) in
    let start : along_from f [] before ≡ [] = all_quiet ecu buffer client [] before refl none_before in
    let stay = during ecu buffer client came middle there none_middle in
    let end : along_from f gone after ≡ [] = all_quiet ecu buffer client gone after left none_after in
    let first : put ecu buffer client before (Connected client) ≡ due_backlog ecu buffer (waiting before) = ap (λ b. cond b (due_backlog ecu buffer (waiting before)) []) (same_number client) in
    along_from-append f [] before (Connected client ∷ (middle ++ Closed client ∷ after))
    ∙ rw (start, first, along_from-append f came middle (Closed client ∷ after), stay, end, append-nil (filter_map (meant_for client) middle)) refl

-- ---- the traffic of a journal

pub admits_all : (frames : List (List ℕ)) → filter_map frame_of (map Admitted frames) ≡ frames
admits_all [] = refl
admits_all (frame ∷ frames) = ap (λ (fs : List (List ℕ)). frame ∷ fs) (admits_all frames)

pub meant_admit : (client : ℕ) (frames : List (List ℕ)) → filter_map (meant_for client) (map Admitted frames) ≡ frames
meant_admit client [] = refl
meant_admit client (frame ∷ frames) = ap (λ (fs : List (List ℕ)). frame ∷ fs) (meant_admit client frames)

admits_of : (source : FrameSource) (before : List Event) (e : Event) → filter_map frame_of (traffic_of source before e) ≡ frames_of source e
admits_of source before (event.Connect client) = refl
admits_of source before (event.Request client frame done) = refl
admits_of source before (event.Close client why) = refl
admits_of source before (event.Level slot level) = refl
admits_of source before (event.Claim claim moment) = refl
admits_of source before (event.Log app writer call moment) = refl
admits_of source before (event.Lost app count moment) = admits_all (frames_of source (event.Lost app count moment))
admits_of source before (event.User channel msg moment) = admits_all (frames_of source (event.User channel msg moment))

admits_from : (source : FrameSource) (before events : List Event) → filter_map frame_of (along_from (traffic_of source) before events) ≡ flat_map (frames_of source) events
admits_from source before [] = refl
admits_from source before (e ∷ events) =
    filter_map-append frame_of (traffic_of source before e) (along_from (traffic_of source) (before ++ e ∷ []) events)
    ∙ rw (admits_of source before e, admits_from source (before ++ e ∷ []) events) (sym (flat_map-cons (frames_of source) e events))

pub traffic_admits : (source : FrameSource) (events : List Event) → admitted_in (traffic source events) ≡ admitted source events
traffic_admits source events = admits_from source [] events

-- ---- a client is open, whichever

any_one : {A : Type 0} (p : A → Bool) (xs : List A) → list_any p xs ≡ true → (x : A) × (p x ≡ true)
any_one p [] e = absurd cc
any_one {A = A} p (x ∷ xs) e = by_test (p x) refl e (any_one p xs) where
  by_test : (b : Bool) → p x ≡ b → (b || list_any p xs) ≡ true → (list_any p xs ≡ true → (y : A) × (p y ≡ true)) → (y : A) × (p y ≡ true)
  by_test true is e later = (x, is)
  by_test false is e later = later e

or_second : (a b : Bool) → b ≡ true → (a || b) ≡ true
or_second true b e = refl
or_second false b e = e

any_where : {A : Type 0} (p q : A → Bool) → ((x : A) → p x ≡ true → q x ≡ true) → (xs : List A) → list_any p xs ≡ true → list_any q xs ≡ true
any_where p q implies [] e = absurd cc
any_where p q implies (x ∷ xs) e = by_test (p x) refl e (any_where p q implies xs) where
  by_test : (b : Bool) → p x ≡ b → (b || list_any p xs) ≡ true → (list_any p xs ≡ true → list_any q xs ≡ true) → (q x || list_any q xs) ≡ true
  by_test true is e later = ap (λ b. b || list_any q xs) (implies x is)
  by_test false is e later = or_second (q x) (list_any q xs) (later e)

or_first : (a b : Bool) → a ≡ true → (a || b) ≡ true
or_first true b e = refl
or_first false b e = absurd cc

-- an open client came
abbrev Came : ℕ → List Traffic → Type 0
Came client ts = list_any (λ d. eqb d client) (clients ts) ≡ true

came_by : (client : ℕ) (ts : List Traffic) (t : Traffic) → (is_open client ts ≡ true → Came client ts) → cond (comes_or_goes client t) (is_coming t) (is_open client ts) ≡ true →
    list_any (λ d. eqb d client) (clients ts ++ filter_map comer_of (t ∷ [])) ≡ true
came_by client ts (Connected other) came there = list_any-append (λ d. eqb d client) (clients ts) (other ∷ []) ∙ by_test (eqb other client) there where
  by_test : (b : Bool) → cond b true (is_open client ts) ≡ true → (list_any (λ d. eqb d client) (clients ts) || (b || false)) ≡ true
  by_test true e = or_last (list_any (λ d. eqb d client) (clients ts)) true refl
  by_test false e = or_first (list_any (λ d. eqb d client) (clients ts)) (false || false) (came e)
came_by client ts (Closed other) came there = ap (list_any (λ d. eqb d client)) (append-nil (clients ts)) ∙ by_test (eqb other client) there where
  by_test : (b : Bool) → cond b false (is_open client ts) ≡ true → Came client ts
  by_test true e = absurd cc
  by_test false e = came e
came_by client ts (Admitted frame) came there = ap (list_any (λ d. eqb d client)) (append-nil (clients ts)) ∙ came there
came_by client ts (Reply other frame) came there = ap (list_any (λ d. eqb d client)) (append-nil (clients ts)) ∙ came there

came_from : (client : ℕ) (before ts : List Traffic) → (is_open client before ≡ true → Came client before) → is_open client (before ++ ts) ≡ true → Came client (before ++ ts)
came_from client before [] came there =
    subst (Came client) (sym (append-nil before)) (came (ap (is_open client) (sym (append-nil before)) ∙ there))
came_from client before (t ∷ ts) came there =
    let next = before ++ t ∷ [] in
    let all = append_assoc before (t ∷ []) ts in
    subst (Came client) all (came_from client next ts
    (λ e. ap (list_any (λ d. eqb d client)) (filter_map-append comer_of before (t ∷ [])) ∙ came_by client before t came (sym (is_open-one client before t) ∙ e))
    (ap (is_open client) all ∙ there))

pub any_open : (ts : List Traffic) → (is_any_open ts ≡ true → (client : ℕ) × (is_open client ts ≡ true)) × ((client : ℕ) → is_open client ts ≡ true → is_any_open ts ≡ true)
any_open ts = (
  any_one (λ c. is_open c ts) (clients ts),
  λ client there. any_where (λ d. eqb d client) (λ c. is_open c ts) (λ d e. ap (λ c. is_open c ts) (eqb-true d client e) ∙ there) (clients ts)
      (came_from client [] ts (λ e. absurd cc) there),
)
