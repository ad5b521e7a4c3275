-- Single events in their turn.
use Rattle.std.proofs.Common.{◌≡◌, ℕ, ◌+◌, ◌≤◌, false, List, ◌++◌, length, Option, Some, None, refl, sym, ap, subst, ◌∙◌, length-append, arith, inl, inr}
use Rattle.std.specs.Prelude.{◌⊎◌, IsSome, IsSomeAnd, IfSome}
use Rattle.std.specs.List.{concat}
use Rattle.std.specs.Option.{option_and_then}
use Rattle.dl_bytes.specs.Claim.{Claimed}
use Rattle.dl_bytes.specs.declared.moment.Moment.{Moment}
use Rattle.dl_bytes.specs.declared.user.UserMsg.{UserMsg}
use Rattle.dl_events.specs.declared.event.Event.{Event}
use Rattle.dl_events.specs.declared.event.Event.TheVariants as event
use Rattle.dl_events.specs.declared.event.Why.{Why}
use Rattle.dl_events.specs.declared.event.Why.TheVariants as why
use Rattle.dl_model.specs.declared.registry.LevelChange.{LevelChange}
use Rattle.dl_model.specs.Backlog.{outbox_limit, size_of}
use Rattle.dl_model.specs.ClientStream.{sent, stream, traffic}
use Rattle.dl_model.specs.Frames.{FrameSource}
use Rattle.dl_model.specs.Registry.{Registry, apid_numbered, app_of}
use Rattle.dl_model.specs.Journal.{is_slow, IsFramesNeed, IsInTurn, IsReplyNeed, IsSettled, IsSlowAsTold}
use Rattle.dl_model.specs.Setting.{Setting}
use Rattle.dl_model.proofs.Rotation.{length-concat}
use Rattle.dl_registry.specs.Kept.{owed_change}
use Rattle.dl_registry.proofs.Following.{change_is_owed}
use Rattle.dl_hub.specs.State.{Client, Waiting, client_of, outbox_of}
use Rattle.dl_core.specs.State.{Core}
use Rattle.dl_core.specs.Follows.{IsAfter, Run, source_of}
use Rattle.dl_core.specs.Registering.{HasAppOf}
use Rattle.dl_core.specs.Next.{CanEnd, ComesBeforeFrames, ComesInTurn, ComesWhileRunning, IsReplySize}
use Rattle.dl_core.proofs.OpenClients.{its_stream, open_by_journal}
use Rattle.dl_core.proofs.Replies.{reply_is}

-- ---- messages, claims and levels

pub settled : (core : Core) → owed_change core.registry ≡ None → (run : Run) (past : List Event) (taken : ℕ → List ℕ) → IsAfter run past taken core → IsSettled run.setting past
settled core none run past taken is = sym (change_is_owed run.setting past core.registry is.registry) ∙ none

pub log_in_turn : (core : Core) (app writer call : ℕ) (moment : Moment) (later : List Event) → owed_change core.registry ≡ None → ComesWhileRunning (event.Log app writer call moment) later core
log_in_turn core app writer call moment later none = λ run past taken is running. (settled core none run past taken is, running)

pub lost_in_turn : (core : Core) (app count : ℕ) (moment : Moment) (later : List Event) → owed_change core.registry ≡ None → ComesWhileRunning (event.Lost app count moment) later core
lost_in_turn core app count moment later none = λ run past taken is running. (settled core none run past taken is, running)

pub user_in_turn : (core : Core) (channel : ℕ) (msg : UserMsg) (moment : Moment) (later : List Event) → owed_change core.registry ≡ None → ComesWhileRunning (event.User channel msg moment) later core
user_in_turn core channel msg moment later none = λ run past taken is running. (settled core none run past taken is, running)

pub claim_in_turn : (core : Core) (claim : Claimed) (moment : Moment) (later : List Event) → HasAppOf claim core.registry → owed_change core.registry ≡ None → ComesWhileRunning (event.Claim claim moment) later core
claim_in_turn core claim moment later there none = λ run past taken is running. record {
  settled = settled core none run past taken is;
  running = running;
  there = subst (λ (r : Registry). IsSome (option_and_then (app_of r 0) (apid_numbered r claim.app))) is.registry.registry there;
}

pub level_in_turn : (core : Core) (next : LevelChange) (later : List Event) → owed_change core.registry ≡ Some next → ComesInTurn (event.Level next.slot next.level) later core
level_in_turn core next later owes = λ run past taken is. sym (change_is_owed run.setting past core.registry is.registry) ∙ owes

-- ---- clients that are closed

-- a client with an outbox is open
has_outbox : (P : Waiting → Type 0) (o : Option Waiting) → IsSomeAnd o P → IsSome o
has_outbox P None there = absurd there
has_outbox P (Some outbox) there = refl

told_alike : (setting : Setting) (source : FrameSource) (before : List Event) (client : ℕ) (cause : Why) (later : List Event) → is_slow (event.Close client cause) ≡ false
    → IsSlowAsTold setting source before client cause later
told_alike setting source before client (why.Slow room need) later not = absurd (cc not)
told_alike setting source before client _ later not = tt

-- the client of an outbox
pub by_client : (o : Option Client) (outbox : Waiting) → option_and_then (λ (c : Client). c.outbox) o ≡ Some outbox → (client : Client) × (o ≡ Some client) × (client.outbox ≡ Some outbox)
by_client None outbox there = absurd (cc there)
by_client (Some client) outbox there = (client, refl, there)

module _ (core : Core) (client room need : ℕ) (end : CanEnd core client (why.Slow room need)) (run : Run) (past : List Event) (taken : ℕ → List ℕ) (is : IsAfter run past taken core) where
  -- its outbox holds at most what was put into its stream
  held_by : (o : Option Waiting) → outbox_of core.hub client ≡ o → IsSomeAnd o (λ outbox. length outbox.bytes + room ≡ outbox.capacity)
      → IsSomeAnd o (λ outbox. outbox.capacity ≡ outbox_limit core.hub.buffer) → outbox_limit run.setting.buffer ≤ room + size_of (stream (source_of run) run.setting.buffer client past)
  held_by None there fills limit = absurd fills
  held_by (Some outbox) there fills limit =
      let found = by_client (client_of core.hub client) outbox there in
      let its = its_stream run past taken core is client found.0 found.1 in
      let frames = sent core.hub.ecu core.hub.buffer client (traffic (source_of run) past) in
      let left : concat frames ≡ taken client ++ outbox.bytes = subst (λ (o : Option Waiting). IfSome o (λ w. concat frames ≡ taken client ++ w.bytes)) found.2 its.left in
      let sizes : size_of frames ≡ length (taken client) + length outbox.bytes = sym (length-concat frames) ∙ ap length left ∙ length-append (taken client) outbox.bytes in
      let room_is : length outbox.bytes + room ≡ outbox_limit core.hub.buffer = fills ∙ limit in
      let here : outbox_limit core.hub.buffer ≤ room + size_of frames = omega (arith, room_is, sizes) in
      subst (λ (buffer : ℕ). outbox_limit buffer ≤ room + size_of (sent run.setting.ecu buffer client (traffic (source_of run) past))) is.set_to.buffer
      (subst (λ (ecu : List ℕ). outbox_limit core.hub.buffer ≤ room + size_of (sent ecu core.hub.buffer client (traffic (source_of run) past))) is.set_to.unit here)

  held : outbox_limit run.setting.buffer ≤ room + size_of (stream (source_of run) run.setting.buffer client past)
  held = held_by (outbox_of core.hub client) refl end.may.0 end.limit

  -- whatever was needed
  pub slow_close : (later : List Event) → IsFramesNeed (source_of run) later need ⊎ IsReplyNeed (source_of run) past need
      → IsInTurn run.setting (source_of run) past (event.Close client (why.Slow room need)) later
  slow_close later needs = record {
    settled = settled core end.settled run past taken is;
    is_open = open_by_journal run past taken core is client (has_outbox _ (outbox_of core.hub client) end.limit);
    slow = record { short = end.may.1; needed = needs; held = held };
  }

pub other_close : (core : Core) (client : ℕ) (cause : Why) (later : List Event) → CanEnd core client cause → is_slow (event.Close client cause) ≡ false → ComesInTurn (event.Close client cause) later core
other_close core client cause later end not = λ run past taken is. record {
  settled = settled core end.settled run past taken is;
  is_open = open_by_journal run past taken core is client (has_outbox _ (outbox_of core.hub client) end.limit);
  slow = told_alike run.setting (source_of run) past client cause later not;
}

pub close_before_frames : (core : Core) (client room need : ℕ) (later : List Event) → CanEnd core client (why.Slow room need) → ComesBeforeFrames (event.Close client (why.Slow room need)) need later core
close_before_frames core client room need later end = λ run past taken is needs. slow_close core client room need end run past taken is later (inl needs)

pub close_at_reply : (core : Core) (client room need : ℕ) (later : List Event) → CanEnd core client (why.Slow room need) → IsReplySize core need
    → ComesInTurn (event.Close client (why.Slow room need)) later core
close_at_reply core client room need later end size = λ run past taken is.
    slow_close core client room need end run past taken is later (inr (record {
      frame = size.frame;
      answer = size.answer;
      length_is = size.size_is ∙ ap length (sym (reply_is run past taken core size.frame size.answer is));
      limit = size.limit;
    }))
