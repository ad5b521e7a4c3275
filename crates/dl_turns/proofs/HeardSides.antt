-- What a client asked in a turn is what its bytes ask.
use Rattle.std.proofs.Common.{◌≡◌, ℕ, ◌+◌, ◌<◌, Bool, true, false, cond, eqb, List, [], ◌∷◌, ◌++◌, length, Option, Some, None, inl, inr, refl, sym, ap, subst, ◌∙◌, append_assoc, length-append, arith}
use Rattle.std.specs.Prelude.{count_by, is_some, IsSomeAnd}
use Rattle.std.specs.List.{cons_option}
use Rattle.std.proofs.lemmas.Bool.{eq-eqb}
use Rattle.std.proofs.lemmas.List.{append-nil}
use Rattle.std.proofs.lemmas.List.Elements.{filter_map-append}
use Rattle.std.proofs.lemmas.List.Sums.{sum_by-cons}
use Rattle.dl_bytes.specs.Limits.{message_limit, request_limit}
use Rattle.dl_bytes.specs.declared.outcome.Done.TheVariants as did
use Rattle.dl_events.specs.declared.event.Event.{Event}
use Rattle.dl_events.specs.declared.event.Event.TheVariants as event
use Rattle.dl_events.specs.declared.event.Why.{Why}
use Rattle.dl_events.specs.declared.event.Why.TheVariants.{Left, Broken, Slow, Malformed, TooMany, NoMemory, Stuck, Stopped}
use Rattle.dl_message.specs.Cut.{rest_fault, rest_of}
use Rattle.dl_message.specs.Cutting.{Cutting}
use Rattle.dl_message.specs.Requests.{requests}
use Rattle.dl_message.proofs.Cuts.{requests-append}
use Rattle.dl_model.specs.ClientEnds.{IsMalformed, asked_by, asked_in}
use Rattle.dl_model.specs.Frames.{FrameSource}
use Rattle.dl_model.specs.Journal.{is_request_of}
use Rattle.dl_model.specs.declared.registry.LevelChange.{LevelChange}
use Rattle.dl_outside.specs.declared.link.Gave.{Gave}
use Rattle.dl_outside.specs.declared.link.Gave.TheVariants as gave
use Rattle.dl_hub.specs.State.{Client, client_of}
use Rattle.dl_core.specs.Follows.{IsAfter, Run, source_of}
use Rattle.dl_core.specs.State.{Core}
use Rattle.dl_core.proofs.Answered.{replies_are}
use Rattle.dl_core.proofs.Replies.{reply_is}
use Rattle.dl_turns.specs.Events.{ServesOne, SetsLevels}
use Rattle.dl_turns.specs.Later.{AsksOf, HasHeard}
use Rattle.dl_turns.specs.Sent.{HasCut, is_bad}
use Rattle.dl_turns.specs.State.{Side}
use Rattle.dl_turns.specs.Turns.{Heeds, Refuses, ServesEach, heard}
use Rattle.dl_turns.proofs.LaterSides.{later_asks, later_both, later_each, later_heeds, later_levels, later_one, later_same, later_sets}
use Rattle.dl_turns.proofs.ServedRequests.{rest_on}

-- ---- the Request events

pub asked_both : (client : ℕ) (some others : List Event) → asked_by client (some ++ others) ≡ asked_by client some ++ asked_by client others
asked_both client some others = filter_map-append (asked_in client) some others

asked_levels : (client : ℕ) (changes : List LevelChange) (old new : Side) (all : SetsLevels changes old new) → asked_by client (later_levels client changes old new all).more ≡ []
unfolding later_levels later_same later_both later_sets
asked_levels client [] old new all = refl
asked_levels client (next ∷ others) old new all = asked_levels client others all.0 new all.2

asked_next : (client : ℕ) (frame : List ℕ) (old new : Side) (one : ServesOne client frame old new) → asked_by client (later_one client frame old new one).more ≡ frame ∷ []
unfolding later_one later_both later_asks
asked_next client frame old new one =
    let asks = one.1 in
    rw (eq-eqb asks.ready.client client asks.of_client)
    (ap (λ (fs : List (List ℕ)). asks.ready.frame ∷ fs) (asked_levels client one.2.0 one.0 new one.2.1) ∙ ap (λ (f : List ℕ). f ∷ []) asks.of_frame)

-- how many they are
pub one_asked : (b : Bool) (frame : List ℕ) (others : List (List ℕ)) → length (cons_option (cond b (Some frame) None) others) ≡ cond b 1 0 + length others
one_asked true frame others = omega arith
one_asked false frame others = omega arith

pub asked_first : (client : ℕ) (e : Event) (others : List (List ℕ)) → length (cons_option (asked_in client e) others) ≡ cond (is_request_of client e) 1 0 + length others
asked_first client (event.Request other frame answer) others = one_asked (eqb other client) frame others
asked_first client _ others = omega arith

pub how_many : (client : ℕ) (events : List Event) → length (asked_by client events) ≡ count_by (is_request_of client) events
how_many client [] = refl
how_many client (e ∷ events) =
    omega (arith, asked_first client e (asked_by client events), how_many client events, sum_by-cons (λ x. cond (is_request_of client x) 1 0) e events)

-- ---- a client that asked all

is_asked : (P : ℕ → Type 0) (client : ℕ) (past : List Event) (o : Option Client) → ((c : Client) → o ≡ Some c → c.replies ≡ count_by (is_request_of client) past) → IsSomeAnd o (λ c. P c.replies)
    → P (length (asked_by client past))
is_asked P client past None replies is = absurd is
is_asked P client past (Some c) replies is = subst P (replies c refl ∙ sym (how_many client past)) is

-- how many it asked, by the core
asked_so : (P : ℕ → Type 0) (run : Run) (past : List Event) (taken : ℕ → List ℕ) (core : Core) (client : ℕ) → IsAfter run past taken core → IsSomeAnd (client_of core.hub client) (λ c. P c.replies)
    → P (length (asked_by client past))
asked_so P run past taken core client after is = is_asked P client past (client_of core.hub client) (λ c there. replies_are run past taken core client c after there) is

-- a cause for which a client is closed that asked all of its requests
abbrev pub AsksAll : Option Why → Type 0
AsksAll why = (source : FrameSource) (before : List Event) (given asked : List (List ℕ)) → given ≡ asked → AsksOf source before why given asked

-- where all are asked and no bad header stands behind them
heard_all : (source : FrameSource) (past : List Event) (client : ℕ) (why : Option Why) (given : List ℕ) → AsksAll why → (IsMalformed given → why ≡ Some Malformed) → (why ≡ Some Malformed → IsMalformed given)
    → requests given ≡ asked_by client past → HasHeard source past client why given
heard_all source past client why given all bad only same = record {
  asked = all source past (requests given) (asked_by client past) same;
  malformed = λ is others. bad is;
  too_many = λ many full. absurd (omega (arith, many, full, ap length same));
  bad = only;
}

not_bad : (stream : List ℕ) (cutter : Cutting) → HasCut stream cutter → is_bad stream ≡ false
not_bad stream cutter cut = ap (λ (r : List ℕ). is_some (rest_fault message_limit r)) (sym cut.rest) ∙ ap is_some cut.good.good

-- nothing came
pub heard_nothing : (source : FrameSource) (past : List Event) (client : ℕ) (why : Option Why) (stream : List ℕ) (cutter : Cutting) → AsksAll why → (why ≡ Some Malformed → ⊥)
    → HasCut stream cutter → asked_by client past ≡ requests stream → HasHeard source (past ++ []) client why (stream ++ [])
heard_nothing source past client why stream cutter all good cut asked =
    subst (λ (es : List Event). HasHeard source es client why (stream ++ [])) (sym (append-nil past))
    (subst (λ (bytes : List ℕ). HasHeard source past client why bytes) (sym (append-nil stream))
    (heard_all source past client why stream all (λ bad. absurd (let wrong : false ≡ true = sym (not_bad stream cutter cut) ∙ bad in cc)) (λ bad. absurd (good bad)) (sym asked)))

-- ---- requests that are served

asks_all : (why cause : Option Why) → why ≡ cause → AsksAll cause → AsksAll why
asks_all why cause is all = subst AsksAll (sym is) all

bad_asks_all : (bad : Bool) → AsksAll (cond bad (Some Malformed) None)
bad_asks_all true = λ source before given asked same. same
bad_asks_all false = λ source before given asked same. same

only_bad : (bad : Bool) → cond bad (Some Malformed) None ≡ Some Malformed → bad ≡ true
only_bad true is = refl
only_bad false is = absurd (cc is)

-- a request that is refused, behind those that were asked
module _ (client : ℕ) (frame : List ℕ) (others : List (List ℕ)) (run : Run) (past : List Event) (taken : ℕ → List ℕ) (core : Core) (after : IsAfter run past taken core) (given : List ℕ)
    (are : requests given ≡ asked_by client past ++ frame ∷ others) where
  apart : {A : Type 0} → requests given ≡ asked_by client past → A
  apart same = absurd (omega (arith, ap length same, ap length are, length-append (asked_by client past) (frame ∷ others)))

  -- where it may ask one more
  not_full : {A : Type 0} → IsSomeAnd (client_of core.hub client) (λ c. c.replies < request_limit) → length (asked_by client past) ≡ request_limit → A
  not_full few full = absurd (omega (arith, full, asked_so (λ n. n < request_limit) run past taken core client after few))

  heard_refused : (why : Option Why) → IsSomeAnd why (λ cause. Refuses client frame cause core) → HasHeard (source_of run) past client why given
  heard_refused (Some TooMany) refused = record {
    asked = ((frame, (others, are)), asked_so (λ n. n ≡ request_limit) run past taken core client after refused);
    malformed = λ bad same. apart same;
    too_many = λ many full. refl;
    bad = λ other. absurd (cc other);
  }
  heard_refused (Some NoMemory) refused = record {
    asked = (frame, (others, are));
    malformed = λ bad same. apart same;
    bad = λ other. absurd (cc other);
    too_many = λ many full. not_full refused.1 full;
  }
  heard_refused (Some (Slow room need)) refused = record {
    asked = inr (frame, (others, are), (did.Yes, refused.3 did.Yes ∙ ap length (sym (reply_is run past taken core frame did.Yes after))));
    malformed = λ bad same. apart same;
    bad = λ other. absurd (cc other);
    too_many = λ many full. not_full refused.0.1 full;
  }
  heard_refused (Some Left) refused = absurd refused
  heard_refused (Some Broken) refused = absurd refused
  heard_refused (Some Malformed) refused = absurd refused
  heard_refused (Some (Stuck left)) refused = absurd refused
  heard_refused (Some Stopped) refused = absurd refused
  heard_refused None refused = absurd refused

heard_each : (client : ℕ) (frames : List (List ℕ)) (bad : Bool) (why : Option Why) (old new : Side) (all : ServesEach client frames bad why old new)
    (run : Run) (past : List Event) (taken : ℕ → List ℕ) (given : List ℕ) → IsAfter run past taken old.core → requests given ≡ asked_by client past ++ frames → is_bad given ≡ bad
    → HasHeard (source_of run) (past ++ (later_each client frames bad why old new all).more) client why given
unfolding later_each later_same later_both
heard_each client [] bad why old new all run past taken given after are bad_is =
    subst (λ (es : List Event). HasHeard (source_of run) es client why given) (sym (append-nil past))
    (heard_all (source_of run) past client why given (asks_all why (cond bad (Some Malformed) None) all.0 (bad_asks_all bad))
    (λ so. all.0 ∙ ap (λ (b : Bool). cond b (Some Malformed) None) (sym bad_is ∙ so)) (λ is. bad_is ∙ only_bad bad (sym all.0 ∙ is)) (are ∙ append-nil (asked_by client past)))
heard_each client (frame ∷ frames) bad why old new (inl refused) run past taken given after are bad_is =
    subst (λ (es : List Event). HasHeard (source_of run) es client why given) (sym (append-nil past))
    (heard_refused client frame frames run past taken old.core after given are why refused.0)
heard_each client (frame ∷ frames) bad why old new (inr served) run past taken given after are bad_is =
    let first = later_one client frame old served.0 served.1 in
    let later = later_each client frames bad why served.0 new served.2 in
    let now : asked_by client (past ++ first.more) ≡ asked_by client past ++ frame ∷ [] =
    asked_both client past first.more ∙ ap (λ (fs : List (List ℕ)). asked_by client past ++ fs) (asked_next client frame old served.0 served.1) in
    let rest : requests given ≡ asked_by client (past ++ first.more) ++ frames =
    are ∙ sym (append_assoc (asked_by client past) (frame ∷ []) frames) ∙ ap (λ (fs : List (List ℕ)). fs ++ frames) (sym now) in
    subst (λ (es : List Event). HasHeard (source_of run) es client why given) (append_assoc past first.more later.more)
    (heard_each client frames bad why served.0 new served.2 run (past ++ first.more) _ given (first.after run past taken after).0 rest bad_is)

-- what came of an answer of the link
pub heard_heeds : (client : ℕ) (cutter : Cutting) (answer : Gave) (into : List ℕ) (why : Option Why) (old new : Side) (heeds : Heeds client cutter.unread answer into why old new)
    (run : Run) (past : List Event) (taken : ℕ → List ℕ) (stream : List ℕ) → IsAfter run past taken old.core → HasCut stream cutter → asked_by client past ≡ requests stream
    → HasHeard (source_of run) (past ++ (later_heeds client cutter.unread answer into why old new heeds).more) client why (stream ++ heard answer into)
unfolding later_heeds later_same
heard_heeds client cutter (gave.Bytes count) into why old new heeds run past taken stream after cut asked =
    let piece = heard (gave.Bytes count) into in
    let all : requests (stream ++ piece) ≡ asked_by client past ++ requests (cutter.unread ++ piece) =
    requests-append stream piece ∙ ap (λ (u : List ℕ). requests stream ++ requests (u ++ piece)) (sym cut.rest)
    ∙ ap (λ (fs : List (List ℕ)). fs ++ requests (cutter.unread ++ piece)) (sym asked) in
    let bad : is_bad (stream ++ piece) ≡ is_bad (cutter.unread ++ piece) =
    ap (λ (r : List ℕ). is_some (rest_fault message_limit r)) (rest_on stream piece ∙ ap (λ (u : List ℕ). rest_of message_limit (u ++ piece)) (sym cut.rest)) in
    heard_each client _ _ why old new heeds run past taken (stream ++ piece) after all bad
heard_heeds client cutter gave.NotYet into why old new heeds run past taken stream after cut asked =
    heard_nothing (source_of run) past client why stream cutter (asks_all why None heeds.0 (λ source before given asked same. same)) (λ is. absurd (let wrong : None ≡ Some Malformed = sym heeds.0 ∙ is in cc)) cut asked
heard_heeds client cutter gave.End into why old new heeds run past taken stream after cut asked =
    heard_nothing (source_of run) past client why stream cutter (asks_all why (Some Left) heeds.0 (λ source before given asked same. same)) (λ is. absurd (let wrong : Some Left ≡ Some Malformed = sym heeds.0 ∙ is in cc)) cut asked
heard_heeds client cutter gave.Failed into why old new heeds run past taken stream after cut asked =
    heard_nothing (source_of run) past client why stream cutter (asks_all why (Some Broken) heeds.0 (λ source before given asked same. same)) (λ is. absurd (let wrong : Some Broken ≡ Some Malformed = sym heeds.0 ∙ is in cc)) cut asked
