-- A level that is set, and goes its way.
use Rattle.std.proofs.Common.{◌≡◌, ◌<◌, ℕ, zero, suc, List, [], ◌∷◌, ◌++◌, length, Option, Some, slice_get, get_or, refl, sym, ap, ◌∙◌, arith}
use Rattle.dl_channel.specs.State.{Outbox}
use Rattle.dl_cells.specs.LevelHistory.{change}
use Rattle.dl_cells.specs.declared.level_history.Change.{Change}
use Rattle.dl_socket.specs.declared.ways.Way.{Way}
use Rattle.dl_socket.specs.Messenger.{HasSent}
use Rattle.dl_socket.specs.Ways.{sent_along, sent_by}

-- what is at a place
pub at_place : {A : Type 0} (xs : List A) (n : ℕ) (other : A) → n < length xs → slice_get xs n ≡ Some (get_or xs n other)
at_place [] n other within = absurd (omega arith)
at_place (x ∷ xs) zero other within = refl
at_place (x ∷ xs) (suc n) other within = at_place xs n other (omega arith)

-- one level was set
pub one_sent : (ways : List (Option Way)) (sets : List Change) (refused : List ℕ) (outboxes outboxes_now : List (ℕ × Outbox)) (slot level : ℕ) → slot < 1024
    → outboxes_now ≡ sent_along (slice_get ways slot) level outboxes
    → HasSent (record { outboxes = outboxes; ways = ways; sets = sets; refused = refused })
    (record { outboxes = outboxes_now; ways = ways; sets = sets ++ change slot level ∷ []; refused = refused })
one_sent ways sets refused outboxes outboxes_now slot level within put = record {
  changes = change slot level ∷ [];
  sets = refl;
  slots = (within, tt);
  ways = refl;
  outboxes = put;
}

-- by the way that was found at the slot's place
pub goes_its_way : (ways : List (Option Way)) (slot place level : ℕ) (found : Option Way) (outboxes : List (ℕ × Outbox)) → place ≡ slot → slot < length ways → found ≡ get_or ways place found
    → sent_by found level outboxes ≡ sent_along (slice_get ways slot) level outboxes
goes_its_way ways slot place level found outboxes same within is = ap (λ (o : Option (Option Way)). sent_along o level outboxes)
    (ap Some (is ∙ ap (λ n. get_or ways n found) same) ∙ sym (at_place ways slot found within))
