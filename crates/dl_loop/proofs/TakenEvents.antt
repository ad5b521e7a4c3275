-- The events of what is taken, and what they leave of the clients.
use Rattle.std.proofs.Common.{◌≡◌, ℕ, zero, suc, ◌+◌, ◌≤◌, List, [], ◌∷◌, Option, Some, None, length, map, slice_get, refl, sym, ap, subst, ◌∙◌}
use Rattle.std.specs.Prelude.{IsSome, IsSomeAnd, is_some}
use Rattle.std.specs.List.{AllByRecursion}
use Rattle.std.proofs.lemmas.List.{length-map}
use Rattle.dl_bytes.specs.Limits.{request_limit}
use Rattle.dl_events.specs.declared.event.Event.{Event}
use Rattle.dl_events.specs.declared.event.Event.TheVariants as event
use Rattle.dl_events.specs.declared.event.Why.{Why}
use Rattle.dl_model.specs.Report.{why_of}
use Rattle.dl_hub.specs.State.{Client, Hub, outbox_of, replies_of}
use Rattle.dl_core.specs.State.{Core}
use Rattle.dl_admission.specs.Admission.{KeepsClients}
use Rattle.dl_taking.specs.Drained.{IsOfDrain}
use Rattle.dl_turns.specs.Events.{HasServed}
use Rattle.dl_settling.proofs.NoRequests.{AsksNothing}
use Rattle.dl_rounds.proofs.Connected.{at_next}

-- ---- the events

-- they ask nothing
pub drain_asks : (more : List Event) → AllByRecursion IsOfDrain more → AllByRecursion AsksNothing more
drain_asks [] is = tt
drain_asks (event.Log app writer call moment ∷ more) is = (tt, drain_asks more is.1)
drain_asks (event.Lost app count moment ∷ more) is = (tt, drain_asks more is.1)
drain_asks (event.Close client cause ∷ more) is = (tt, drain_asks more is.1)
drain_asks (event.Claim claim moment ∷ more) is = (tt, drain_asks more is.1)
drain_asks (event.Level slot level ∷ more) is = (tt, drain_asks more is.1)
drain_asks (event.User channel msg moment ∷ more) is = absurd is.0
drain_asks (event.Connect client ∷ more) is = absurd is.0
drain_asks (event.Request client frame answer ∷ more) is = absurd is.0

-- ---- the clients

-- who is open afterwards was so before
pub open_before : (more : List Event) (old new : Hub) → KeepsClients more old new → (client : ℕ) → IsSome (outbox_of new client) → IsSome (outbox_of old client)
open_before more old new keeps client some = by (why_of client more) refl where
  by : (o : Option Why) → why_of client more ≡ o → IsSome (outbox_of old client)
  by None is = sym (keeps.stay client is) ∙ some
  by (Some cause) is = (let gone = (keeps.go client (ap is_some is)).1 in absurd cc)

-- as many came
pub as_many : (more : List Event) (old new : Hub) → KeepsClients more old new → length new.clients ≡ length old.clients
as_many more old new keeps =
    sym (length-map new.clients (λ (c : Client). c.replies)) ∙ ap (λ (ns : List ℕ). length ns) keeps.replies ∙ length-map old.clients (λ (c : Client). c.replies)

-- and as many of their requests were served
served_at : (place served : ℕ) (olds news : List Client) → map (λ (c : Client). c.replies) news ≡ map (λ (c : Client). c.replies) olds
    → IsSomeAnd (slice_get olds place) (λ c. (c.replies ≡ served) × (served ≤ request_limit)) → IsSomeAnd (slice_get news place) (λ c. (c.replies ≡ served) × (served ≤ request_limit))
served_at place served [] [] same has = has
served_at place served [] (c ∷ news) same has = absurd cc
served_at place served (c ∷ olds) [] same has = absurd cc
served_at zero served (c ∷ olds) (d ∷ news) same has = (let head : d.replies ≡ c.replies = cc same in (head ∙ has.0, has.1))
served_at (suc place) served (c ∷ olds) (d ∷ news) same has = (let tail : map (λ (x : Client). x.replies) news ≡ map (λ (x : Client). x.replies) olds = cc same in served_at place served olds news tail has)

pub served_before : (place served : ℕ) (old new : Core) → replies_of new.hub ≡ replies_of old.hub → HasServed (place + 1) served old → HasServed (place + 1) served new
served_before place served old new same has =
    subst (λ (o : Option Client). IsSomeAnd o (λ c. (c.replies ≡ served) × (served ≤ request_limit))) (sym (at_next new.hub place))
    (served_at place served old.hub.clients new.hub.clients same
    (subst (λ (o : Option Client). IsSomeAnd o (λ c. (c.replies ≡ served) × (served ≤ request_limit))) (at_next old.hub place) has))
