-- Journals that go on, and clients that were too slow.
use Rattle.std.proofs.Common.{◌≡◌, ℕ, ◌+◌, ◌<◌, Bool, true, false, cond, List, [], ◌∷◌, ◌++◌, Option, Some, None, refl, sym, ap, subst, ◌∙◌, append_assoc, arith, inl, inr}
use Rattle.std.specs.Prelude.{◌⊎◌}
use Rattle.std.specs.Option.{option_map}
use Rattle.std.proofs.lemmas.List.{append-nil}
use Rattle.dl_events.specs.declared.event.Event.{Event}
use Rattle.dl_events.specs.declared.event.Event.TheVariants as event
use Rattle.dl_events.specs.declared.event.Why.{Why}
use Rattle.dl_events.specs.declared.event.Why.TheVariants as why
use Rattle.dl_model.specs.Setting.{Setting}
use Rattle.dl_model.specs.Backlog.{outbox_limit, size_of}
use Rattle.dl_model.specs.ClientStream.{stream}
use Rattle.dl_model.specs.Frames.{FrameSource, frames_of}
use Rattle.dl_model.specs.Journal.{is_slow, next_put, IsFramesNeed, IsReplyNeed, IsTooSlow, IsSlowAsTold, IsInTurn, AreInTurn, IsWellFormed}

-- ---- the rest of a journal

pub rest_in_turn : (setting : Setting) (source : FrameSource) (before xs ys : List Event) → AreInTurn setting source before (xs ++ ys) → AreInTurn setting source (before ++ xs) ys
rest_in_turn setting source before [] ys all = subst (λ b. AreInTurn setting source b ys) (sym (append-nil before)) all
rest_in_turn setting source before (x ∷ xs) ys all = subst (λ b. AreInTurn setting source b ys) (append_assoc before (x ∷ []) xs) (rest_in_turn setting source (before ++ x ∷ []) xs ys all.1)

-- ---- what stands in its turn does so whatever follows

next_longer : (xs more : List Event) (e : Event) → next_put xs ≡ Some e → next_put (xs ++ more) ≡ Some e
next_longer [] more e is = absurd cc
next_longer (x ∷ xs) more e is = by_test (is_slow x) is (next_longer xs more e) where
  by_test : (b : Bool) → cond b (next_put xs) (Some x) ≡ Some e → (next_put xs ≡ Some e → next_put (xs ++ more) ≡ Some e) → cond b (next_put (xs ++ more)) (Some x) ≡ Some e
  by_test true is later = later is
  by_test false is later = is

need_longer : (source : FrameSource) (xs more : List Event) (need : ℕ) → IsFramesNeed source xs need → IsFramesNeed source (xs ++ more) need
need_longer source xs more need is = by_next (next_put xs) refl is where
  by_next : (o : Option Event) → next_put xs ≡ o → option_map (λ event. size_of (frames_of source event)) o ≡ Some need → IsFramesNeed source (xs ++ more) need
  by_next None none is = absurd cc
  by_next (Some e) next is = ap (option_map (λ event. size_of (frames_of source event))) (next_longer xs more e next) ∙ is

slow_longer : (setting : Setting) (source : FrameSource) (before : List Event) (client : ℕ) (cause : Why) (xs more : List Event) → IsSlowAsTold setting source before client cause xs → IsSlowAsTold setting source before client cause (xs ++ more)
slow_longer setting source before client (why.Slow room need) xs more is = record { short = is.short; needed = either is.needed; held = is.held } where
  either : IsFramesNeed source xs need ⊎ IsReplyNeed source before need → IsFramesNeed source (xs ++ more) need ⊎ IsReplyNeed source before need
  either (inl frames) = inl (need_longer source xs more need frames)
  either (inr reply) = inr reply
slow_longer setting source before client _ xs more is = tt

pub turn_longer : (setting : Setting) (source : FrameSource) (before : List Event) (e : Event) (xs more : List Event) → IsInTurn setting source before e xs → IsInTurn setting source before e (xs ++ more)
turn_longer setting source before (event.Claim claim moment) xs more turn = turn
turn_longer setting source before (event.Level slot level) xs more turn = turn
turn_longer setting source before (event.Connect client) xs more turn = turn
turn_longer setting source before (event.Request client frame answer) xs more turn = turn
turn_longer setting source before (event.Close client cause) xs more turn = record { settled = turn.settled; is_open = turn.is_open; slow = slow_longer setting source before client cause xs more turn.slow }
turn_longer setting source before (event.Log app writer call moment) xs more turn = turn
turn_longer setting source before (event.Lost app count moment) xs more turn = turn
turn_longer setting source before (event.User channel msg moment) xs more turn = turn

pub in_turn_longer : (setting : Setting) (source : FrameSource) (before xs more : List Event) → AreInTurn setting source before xs → AreInTurn setting source (before ++ xs) more → AreInTurn setting source before (xs ++ more)
in_turn_longer setting source before [] more first second = subst (λ b. AreInTurn setting source b more) (append-nil before) second
in_turn_longer setting source before (x ∷ xs) more first second = (
  turn_longer setting source before x xs more first.0,
  in_turn_longer setting source (before ++ x ∷ []) xs more first.1 (subst (λ b. AreInTurn setting source b more) (sym (append_assoc before (x ∷ []) xs)) second),
)

pub goes_on : (setting : Setting) (source : FrameSource) (events more : List Event) → IsWellFormed setting source events → AreInTurn setting source events more → IsWellFormed setting source (events ++ more)
goes_on setting source events more formed turns = in_turn_longer setting source [] events more formed turns

-- ---- slow clients

pub was_slow : (setting : Setting) (source : FrameSource) (client room need : ℕ) (before after : List Event) → IsWellFormed setting source (before ++ event.Close client (why.Slow room need) ∷ after) →
    IsTooSlow setting source before client room need after
was_slow setting source client room need before after formed = (rest_in_turn setting source [] before (event.Close client (why.Slow room need) ∷ after) formed).0.slow

pub was_behind : (setting : Setting) (source : FrameSource) (client room need : ℕ) (before after : List Event) → IsWellFormed setting source (before ++ event.Close client (why.Slow room need) ∷ after) →
    outbox_limit setting.buffer < size_of (stream source setting.buffer client before) + need
was_behind setting source client room need before after formed =
    let slow = was_slow setting source client room need before after formed in
    omega (arith, slow.short, slow.held)

pub was_needed : (setting : Setting) (source : FrameSource) (client room need : ℕ) (before after : List Event) → IsWellFormed setting source (before ++ event.Close client (why.Slow room need) ∷ after) →
    IsFramesNeed source after need ⊎ IsReplyNeed source before need
was_needed setting source client room need before after formed = (was_slow setting source client room need before after formed).needed
