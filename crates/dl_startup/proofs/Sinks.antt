-- A sink that takes texts one behind the other.
use Rattle.std.proofs.Common.{◌≡◌, ℕ, ◌+◌, ◌<◌, List, ◌++◌, length, drop, get_or, refl, sym, ap, subst, ◌∙◌, append_assoc}
use Rattle.std.specs.Prelude.{slice_index_or}
use Rattle.std.specs.Borrow.{Bor}
use Rattle.std.proofs.lemmas.List.{at_drop_more}
use Rattle.dl_outside.specs.Outside.{HasRisen}
use Rattle.dl_outside.specs.Told.{SinkTold}
use Rattle.dl_outside.specs.Written.{WroteAll, WroteFront}
use Rattle.dl_outside.proofs.Sinks.{took_both, took_front, front_of_more}
use Rattle.dl_startup.specs.Output.{joined}

pub joined_drop : (pieces : List (Bor (List ℕ))) (i : ℕ) (d : Bor (List ℕ)) → i < length pieces → joined (drop i pieces) ≡ (get_or pieces i d).now ++ joined (drop (i + 1) pieces)
joined_drop pieces i d below = at_drop_more joined pieces i d below

-- the pieces so far were written, and the others are left
abbrev pub WroteSoFar : SinkTold → SinkTold → List (Bor (List ℕ)) → ℕ → Type 0
WroteSoFar old now pieces i = (front : List ℕ) × (joined pieces ≡ front ++ joined (drop i pieces)) × WroteAll old now front

-- now the next one was written too
pub one_more : (old before new : SinkTold) (pieces : List (Bor (List ℕ))) (i : ℕ) (d : Bor (List ℕ)) → i < length pieces
    → WroteSoFar old before pieces i → WroteAll before new (slice_index_or pieces i d).now → WroteSoFar old new pieces (i + 1)
one_more old before new pieces i d below so_far next = (
  so_far.0 ++ (slice_index_or pieces i d).now,
  so_far.1 ∙ ap (λ rest. so_far.0 ++ rest) (joined_drop pieces i d below) ∙ sym (append_assoc so_far.0 (slice_index_or pieces i d).now (joined (drop (i + 1) pieces))),
  record {
    all = took_both old.held before.held new.held so_far.0 (slice_index_or pieces i d).now (so_far.0 ++ (slice_index_or pieces i d).now) refl so_far.2.all next.all;
    well = next.well ∙ so_far.2.well;
  },
)

-- of the next one a front was written
pub stops_there : (old before new : SinkTold) (pieces : List (Bor (List ℕ))) (i : ℕ) (d : Bor (List ℕ)) → i < length pieces
    → WroteSoFar old before pieces i → WroteFront before new (slice_index_or pieces i d).now → WroteFront old new (joined pieces)
stops_there old before new pieces i d below so_far next =
    let piece = (slice_index_or pieces i d).now in
    let rest = joined (drop (i + 1) pieces) in
    let all : joined pieces ≡ so_far.0 ++ (piece ++ rest) = so_far.1 ∙ ap (λ rest. so_far.0 ++ rest) (joined_drop pieces i d below) in
    record {
      front = took_front old.held before.held new.held so_far.0 (piece ++ rest) (joined pieces) all so_far.2.all (front_of_more before.held new.held piece rest next.front);
      failed = subst (λ (n : ℕ). HasRisen n new.faults) so_far.2.well next.failed;
    }
