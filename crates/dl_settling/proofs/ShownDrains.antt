-- Clients that are gone show why while calls, claims and losses are taken.
use Rattle.std.proofs.Common.{◌≡◌, ℕ, ◌+◌, List, ◌∷◌, ◌++◌, length, length-append, append_assoc, Option, Some, None, is_some, refl, sym, ap, ◌∙◌, subst, arith}
use Rattle.std.specs.Prelude.{IsSome, IsSomeAnd, slice_get, unwrap_or, ◌-◌}
use Rattle.std.specs.List.{concat}
use Rattle.std.specs.Option.{option_and_then, option_map}
use Rattle.dl_bytes.specs.Limits.{request_limit}
use Rattle.dl_bytes.specs.declared.conf.AppSpec.{AppSpec}
use Rattle.dl_events.specs.declared.event.Event.{Event}
use Rattle.dl_events.specs.declared.event.Event.TheVariants as event
use Rattle.dl_events.specs.declared.event.Why.{Why}
use Rattle.dl_events.specs.declared.event.Why.TheVariants as why
use Rattle.dl_model.specs.Backlog.{outbox_limit}
use Rattle.dl_model.specs.Report.{why_of}
use Rattle.dl_outside.specs.Told.{LinkTold}
use Rattle.dl_hub.specs.State.{Client as HubClient, Hub, client_of, outbox_of}
use Rattle.dl_core.specs.Follows.{IsAfter, Run}
use Rattle.dl_turns.specs.Later.{HasLeft, LeavesSo}
use Rattle.dl_rounds.specs.Shown.{AllShowWhy, ShowsWhy, WasServedAll}
use Rattle.dl_taking.specs.Drained.{GivesTook, IsDrain}
use Rattle.dl_taking.specs.Side.{Side}
use Rattle.dl_settling.proofs.NotedDrains.{left_before, was_slow}
use Rattle.dl_admission.proofs.StandingClients.{replies, same_replies}
use Rattle.dl_lemmas.proofs.Options.{as_some, none_of, some_of}
use Rattle.dl_rounds.proofs.NotedClients.{left_of}

-- its outbox, by the client
pub outbox_at : (hub : Hub) (number : ℕ) (c : HubClient) → client_of hub number ≡ Some c → outbox_of hub number ≡ c.outbox
outbox_at hub number c at = ap (λ (o : Option HubClient). option_and_then (λ (k : HubClient). k.outbox) o) at

-- what is left of a client that is gone, by its entry
pub has_left : (hub : Hub) (number : ℕ) (cause : Why) (c : HubClient) → client_of hub number ≡ Some c → c.outbox ≡ None → LeavesSo (outbox_limit hub.buffer) cause c.left → HasLeft number cause hub
has_left hub number cause c at gone leaves = subst (λ (o : Option HubClient). IsSomeAnd o (λ k. (k.outbox ≡ None) × LeavesSo (outbox_limit hub.buffer) cause k.left)) (sym at) (gone, leaves)

pub left_at : (hub : Hub) (number : ℕ) (cause : Why) (c : HubClient) → client_of hub number ≡ Some c → HasLeft number cause hub → LeavesSo (outbox_limit hub.buffer) cause c.left
left_at hub number cause c at left = (subst (λ (o : Option HubClient). IsSomeAnd o (λ k. (k.outbox ≡ None) × LeavesSo (outbox_limit hub.buffer) cause k.left)) at left).1

-- it was put as many replies
pub served_by : (o n : Option HubClient) → option_map replies n ≡ option_map replies o → IsSomeAnd o (λ c. c.replies ≡ request_limit) → IsSomeAnd n (λ c. c.replies ≡ request_limit)
served_by None n same has = absurd has
served_by (Some c) None same has = absurd cc
served_by (Some c) (Some d) same has = ap (λ (o : Option ℕ). unwrap_or o 0) same ∙ has

pub served_on : (number : ℕ) (cause : Why) (old new : Hub) → option_map replies (client_of new number) ≡ option_map replies (client_of old number) → WasServedAll number cause old → WasServedAll number cause new
served_on number why.TooMany old new same served = served_by (client_of old number) (client_of new number) same served
served_on number _ old new same served = tt

module _ (run : Run) (past : List Event) (taken : ℕ → List ℕ) (specs : List AppSpec) (old new : Side) (drain : IsDrain specs old new) (gives : GivesTook specs new.took run)
    (is : IsAfter run past taken old.part.core) {Tells : Type 0} (links : List LinkTold) (shown : AllShowWhy Tells past old.part.core.hub links) where
  abbrev more : List Event
  more = drain.more

  now : IsAfter run (past ++ more) taken new.part.core
  now = (drain.after run past taken gives is).0

  buffer_so : new.part.core.hub.buffer ≡ run.setting.buffer
  buffer_so = now.set_to.buffer

  module _ (number : ℕ) (link : LinkTold) (c_now : HubClient) (at_now : client_of new.part.core.hub number ≡ Some c_now) (shut_now : c_now.outbox ≡ None) (linked : slice_get links (number - 1) ≡ Some link) where
    -- one that was gone before
    went_before : why_of number more ≡ None → ShowsWhy Tells (past ++ more) new.part.core.hub number link
    went_before stays =
        let gone : outbox_of new.part.core.hub number ≡ None = outbox_at new.part.core.hub number c_now at_now ∙ shut_now in
        let gone_old : outbox_of old.part.core.hub number ≡ None = none_of (outbox_of old.part.core.hub number) (sym (drain.clients.stay number stays) ∙ ap is_some gone) in
        let there_old = as_some replies (client_of old.part.core.hub number) (client_of new.part.core.hub number) (same_replies old.part.core.hub new.part.core.hub number drain.clients.replies) (ap is_some at_now) in
        let c = some_of (client_of old.part.core.hub number) there_old in
        let shut : c.0.outbox ≡ None = sym (outbox_at old.part.core.hub number c.0 c.1) ∙ gone_old in
        let left : c_now.left ≡ c.0.left = left_before run past taken specs old new drain gives is number c.0 c_now c.1 at_now shut shut_now in
        let before = shown number link there_old gone_old linked in
        let leaves : LeavesSo (outbox_limit new.part.core.hub.buffer) before.cause c_now.left =
        subst (λ (l : ℕ). LeavesSo (outbox_limit new.part.core.hub.buffer) before.cause l) (sym left)
        (subst (λ (b : ℕ). LeavesSo (outbox_limit b) before.cause c.0.left) (sym drain.clients.same.buffer) (left_at old.part.core.hub number before.cause c.0 c.1 before.left)) in
        record {
          before = before.before;
          cause = before.cause;
          after = before.after ++ more;
          place = ap (λ (events : List Event). events ++ more) before.place ∙ append_assoc before.before (event.Close number before.cause ∷ before.after) more;
          left = has_left new.part.core.hub number before.cause c_now at_now shut_now leaves;
          served = served_on number before.cause old.part.core.hub new.part.core.hub (same_replies old.part.core.hub new.part.core.hub number drain.clients.replies) before.served;
          counts = before.counts;
          over = before.over;
        }

    -- one that was too slow
    went_now : IsSome (why_of number more) → ShowsWhy Tells (past ++ more) new.part.core.hub number link
    went_now some =
        let slow = was_slow run past taken specs old new drain gives is number some in
        let b = left_of run (past ++ more) taken new.part.core number c_now now at_now shut_now in
        let all : taken number ++ b.left ≡ taken number ++ slow.left = sym b.parts ∙ ap (λ (fs : List (List ℕ)). concat fs) slow.whole ∙ slow.took in
        let left : slow.parts.room + c_now.left ≡ outbox_limit run.setting.buffer =
        omega (arith, slow.room_so, ap length all, length-append (taken number) b.left, length-append (taken number) slow.left, b.size_is) in
        let leaves : LeavesSo (outbox_limit new.part.core.hub.buffer) (why.Slow slow.parts.room slow.parts.need) c_now.left =
        subst (λ (k : ℕ). slow.parts.room + c_now.left ≡ outbox_limit k) (sym buffer_so) left in
        record {
          before = past ++ slow.parts.before;
          cause = why.Slow slow.parts.room slow.parts.need;
          after = slow.parts.after;
          place = slow.place;
          left = has_left new.part.core.hub number (why.Slow slow.parts.room slow.parts.need) c_now at_now shut_now leaves;
          served = tt;
          counts = tt;
          over = λ tells. tt;
        }

    shows_one : (o : Option Why) → why_of number more ≡ o → ShowsWhy Tells (past ++ more) new.part.core.hub number link
    shows_one None stays = went_before stays
    shows_one (Some cause) gone = went_now (ap is_some gone)

  pub shown_drain : AllShowWhy Tells (past ++ more) new.part.core.hub links
  shown_drain = λ number link there gone linked.
      let c = some_of (client_of new.part.core.hub number) there in
      shows_one number link c.0 c.1 (sym (outbox_at new.part.core.hub number c.0 c.1) ∙ gone) linked (why_of number more) refl
