-- Clients of a hub that was kept, but for those that were closed.
use Rattle.std.proofs.Common.{◌≡◌, ℕ, zero, suc, ◌-◌, ◌≤◌, Bool, true, false, cond, eqb, List, [], ◌∷◌, length, map, Option, Some, None, is_some, refl, sym, ap, ◌∙◌}
use Rattle.std.specs.Prelude.{IsSome, IsSomeAnd, slice_get, unwrap_or}
use Rattle.std.specs.Option.{option_map}
use Rattle.std.proofs.lemmas.List.{length-map}
use Rattle.dl_bytes.specs.Limits.{request_limit}
use Rattle.dl_events.specs.declared.event.Event.{Event}
use Rattle.dl_events.specs.declared.event.Why.{Why}
use Rattle.dl_model.specs.Report.{why_of}
use Rattle.dl_hub.specs.State.{Client, Hub, client_of, outbox_of, replies_of}
use Rattle.dl_admission.specs.Admission.{KeepsClients}

-- as many clients came
pub as_many : (noted : List Event) (old new : Hub) → KeepsClients noted old new → length new.clients ≡ length old.clients
as_many noted old new keeps = sym (length-map new.clients (λ (c : Client). c.replies)) ∙ ap (λ (ns : List ℕ). length ns) keeps.replies ∙ length-map old.clients (λ (c : Client). c.replies)

-- a client that is open was so before
pub was_open : (noted : List Event) (old new : Hub) (number : ℕ) → KeepsClients noted old new → IsSome (outbox_of new number) → IsSome (outbox_of old number)
was_open noted old new number keeps some = by (why_of number noted) refl where
  by : (o : Option Why) → why_of number noted ≡ o → IsSome (outbox_of old number)
  by None none = sym (keeps.stay number none) ∙ some
  by (Some why) gone = (keeps.go number (ap is_some gone)).0

-- it was put as many replies
abbrev pub replies : Client → ℕ
replies c = c.replies

get_map : (clients : List Client) (place : ℕ) → slice_get (map replies clients) place ≡ option_map replies (slice_get clients place)
get_map [] place = refl
get_map (c ∷ clients) zero = refl
get_map (c ∷ clients) (suc place) = get_map clients place

pub same_replies : (old new : Hub) (number : ℕ) → replies_of new ≡ replies_of old → option_map replies (client_of new number) ≡ option_map replies (client_of old number)
same_replies old new number same = by (eqb number 0) where
  by : (b : Bool) → option_map replies (cond b None (slice_get new.clients (number - 1))) ≡ option_map replies (cond b None (slice_get old.clients (number - 1)))
  by true = refl
  by false = sym (get_map new.clients (number - 1)) ∙ ap (λ (ns : List ℕ). slice_get ns (number - 1)) same ∙ get_map old.clients (number - 1)

pub served_by : (served : ℕ) (o n : Option Client) → option_map replies n ≡ option_map replies o → IsSomeAnd o (λ c. (c.replies ≡ served) × (served ≤ request_limit)) → IsSomeAnd n (λ c. (c.replies ≡ served) × (served ≤ request_limit))
served_by served None n same has = absurd has
served_by served (Some c) None same has = absurd cc
served_by served (Some c) (Some d) same has = (ap (λ (o : Option ℕ). unwrap_or o 0) same ∙ has.0, has.1)
