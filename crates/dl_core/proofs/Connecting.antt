-- One client more, in its turn: how many came, and how many are open, by the core and by its journal.
use Rattle.std.proofs.Common.{◌≡◌, ℕ, suc, ◌+◌, List, [], ◌∷◌, Bool, length, Some, None, refl, sym, ap, subst, ◌∙◌, arith}
use Rattle.std.specs.Prelude.{count_by, slice_get}
use Rattle.std.specs.List.{range_with_len}
use Rattle.std.proofs.lemmas.List.FromFn.{length-range_with_len}
use Rattle.dl_events.specs.declared.event.Event.{Event}
use Rattle.dl_model.specs.ClientStream.{traffic}
use Rattle.dl_model.specs.Journal.{is_connect, is_close, IsRunning, IsWellFormed, MayConnect}
use Rattle.dl_model.specs.Traffic as traffic
use Rattle.dl_model.proofs.Lists.{count_by-append}
use Rattle.dl_laws.proofs.ClientCounts.{open_and_gone}
use Rattle.dl_laws.proofs.Quiet.{came_in_journal}
use Rattle.dl_registry.specs.Kept.{owed_change}
use Rattle.dl_hub.specs.State.{Client, HasPlace, is_open}
use Rattle.dl_core.specs.State.{Core}
use Rattle.dl_core.specs.Follows.{IsAfter, Run, source_of}
use Rattle.dl_core.specs.Next.{ConnectsInTurn}
use Rattle.dl_core.proofs.InTurn.{settled}

-- clients that are open, by their numbers
numbered : (p : ℕ → Bool) (clients : List Client) (first : ℕ) → ((place : ℕ) (client : Client) → slice_get clients place ≡ Some client → p (first + place) ≡ is_open client)
    → count_by is_open clients ≡ count_by p (range_with_len first (length clients))
numbered p [] first same = refl
numbered p (client ∷ clients) first same =
    let here : p first ≡ is_open client = subst (λ (n : ℕ). p n ≡ is_open client) (omega arith) (same 0 client refl) in
    let later = numbered p clients (first + 1) (λ place other there. subst (λ (n : ℕ). p n ≡ is_open other) (omega arith) (same (suc place) other there)) in
    let one : count_by is_open (client ∷ []) ≡ count_by p (first ∷ []) = rw here refl in
    omega (arith, count_by-append is_open (client ∷ []) clients, count_by-append p (first ∷ []) (range_with_len (first + 1) (length clients)), one, later)

module _ (run : Run) (events : List Event) (taken : ℕ → List ℕ) (core : Core) (is : IsAfter run events taken core) where
  pub came_by_journal : length core.hub.clients ≡ count_by is_connect events
  came_by_journal = sym (length-range_with_len 1 (length core.hub.clients)) ∙ ap length (sym is.hub.came) ∙ came_in_journal (source_of run) events

  pub open_by_numbers : count_by is_open core.hub.clients ≡ count_by (λ number. traffic.is_open number (traffic (source_of run) events)) (range_with_len 1 (length core.hub.clients))
  open_by_numbers =
      numbered (λ number. traffic.is_open number (traffic (source_of run) events)) core.hub.clients 1
      (λ place client there. subst (λ (n : ℕ). traffic.is_open n (traffic (source_of run) events) ≡ is_open client) (omega arith) (is.hub.streams place client there).is_there)

  -- those that are open and those that went are all that came
  pub open_and_gone_now : IsWellFormed run.setting (source_of run) events → count_by is_open core.hub.clients + count_by is_close events ≡ count_by is_connect events
  open_and_gone_now formed =
      let range = ap (λ (n : ℕ). count_by (λ number. traffic.is_open number (traffic (source_of run) events)) (range_with_len 1 n)) came_by_journal in
      omega (arith, open_by_numbers, range, open_and_gone run.setting (source_of run) events formed)

  pub may_connect : HasPlace core.hub → owed_change core.registry ≡ None → IsRunning events → IsWellFormed run.setting (source_of run) events
      → MayConnect run.setting events (length core.hub.clients + 1)
  may_connect place none running formed = record {
    settled = settled core none run events taken is;
    running = running;
    number = omega (arith, came_by_journal);
    limit = omega (arith, place.0, is.set_to.clients);
    at_most = omega (arith, place.1, open_and_gone_now formed);
  }

pub connect_in_turn : (core : Core) (later : List Event) → HasPlace core.hub → owed_change core.registry ≡ None → ConnectsInTurn later core
connect_in_turn core later place none = λ run past taken is running formed. may_connect run past taken core is place none running formed
