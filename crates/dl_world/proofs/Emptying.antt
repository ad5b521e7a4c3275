-- An outbox that is emptied, one piece after the other.
use Rattle.std.proofs.Common.{◌≡◌, ℕ, ◌<◌, ◌≤◌, inl, inr, true, false, take, drop, List, [], ◌++◌, length, Some, None, refl, sym, ap, subst, ◌∙◌, length-drop, arith}
use Rattle.std.specs.Prelude.{IsSome, IsSomeAnd, ◌==◌}
use Rattle.std.specs.Option.{option_map_or}
use Rattle.std.proofs.lemmas.List.{take_all}
use Rattle.std.proofs.lemmas.Bool.Decides.{eqb_tells}
use Rattle.dl_lemmas.proofs.Options.{some_is}
use Rattle.dl_hub.specs.State.{Hub, outbox_of, changed, without, consumed}
use Rattle.dl_outside.specs.Told.{LinkTold}
use Rattle.dl_hub.specs.Pumping.{Pumps}
use Rattle.dl_hub.proofs.Calls.{some_and}
use Rattle.dl_hub.proofs.Keeping.{found}
use Rattle.dl_hub.proofs.Pumping.{nothing-sent, more-sent, outbox-after}
use Rattle.dl_core.specs.State.{Core}
use Rattle.dl_lemmas.proofs.Lists.{empty_of}

-- what a link tells that took these bytes
abbrev took : List ℕ → LinkTold
took bytes = record { left = None; over = None; given = None; taken = Some bytes; faults = 0; idles = 0; waits = 0; is_shut = false }

-- these bytes were taken from the front of a client's outbox, as a link takes them
pub record IsEmptying (client : ℕ) (first now : Core) (bytes : List ℕ) : Type 0 where
  pub there : IsSome (outbox_of now.hub client)
  pub sent : Pumps client first.hub now.hub (took []) (took bytes)
  pub same : now ≡ record first { hub = now.hub }

pub empties_nothing : (client : ℕ) (first : Core) (bytes : List ℕ) → bytes ≡ [] → IsSome (outbox_of first.hub client) → IsEmptying client first first bytes
empties_nothing client first bytes none there = record {
  there = there;
  sent = subst (λ (bs : List ℕ). Pumps client first.hub first.hub (took []) (took bs)) (sym none) (nothing-sent client first.hub (took []) there);
  same = refl;
}

abbrev left_in : Core → ℕ → ℕ
left_in core client = option_map_or (λ outbox. length outbox.bytes) (outbox_of core.hub client) 0

not_none : (piece : List ℕ) → (length piece == 0) ≡ false → 1 ≤ length piece
not_none piece some = elim (eqb_tells (length piece) 0) as (λ _. 1 ≤ length piece) [ inl none ↦ absurd cc | inr other ↦ omega (arith, other.1) ]

-- one piece more
pub empties_more : (client : ℕ) (first now next : Core) (bytes bytes_now piece : List ℕ) → IsEmptying client first now bytes → IsSome (outbox_of first.hub client)
    → IsSomeAnd (outbox_of now.hub client) (λ outbox. piece ≡ take (length piece) outbox.bytes) → (length piece == 0) ≡ false
    → bytes_now ≡ bytes ++ piece → next ≡ record now { hub = changed client (without (length piece)) now.hub }
    → IsEmptying client first next bytes_now × (left_in next client < left_in now client)
empties_more client first now next bytes bytes_now piece is there front some grown taken =
    let hub_is : next.hub ≡ changed client (without (length piece)) now.hub = ap (λ (c : Core). c.hub) taken in
    let more = more-sent client (length piece) first.hub now.hub next.hub (took []) (took bytes) (took bytes_now) piece is.sent there front (omega arith) (not_none piece some)
    (ap Some (grown ∙ ap (λ (p : List ℕ). bytes ++ p) (sym (take_all (length piece) piece (omega arith))))) hub_is in (
      record {
        there = more.1;
        sent = more.0;
        same = taken ∙ ap (λ (c : Core). record c { hub = changed client (without (length piece)) now.hub }) is.same ∙ ap (λ (h : Hub). record first { hub = h }) (sym hub_is);
      },
      more.2,
    )

-- nothing is left: these bytes are all of it
pub record IsEmptied (client : ℕ) (first now : Core) (bytes : List ℕ) : Type 0 where
  pub all : IsSomeAnd (outbox_of first.hub client) (λ outbox. bytes ≡ outbox.bytes)
  pub value : now ≡ record first { hub = changed client (without (length bytes)) first.hub }
  pub empty : IsSomeAnd (outbox_of now.hub client) (λ outbox. outbox.bytes ≡ [])

take_whole : (n : ℕ) (xs : List ℕ) → n ≡ length xs → take n xs ≡ xs
take_whole n xs e = take_all n xs (omega (arith, e))

pub emptied_where : (client : ℕ) (first now : Core) (bytes piece : List ℕ) → IsEmptying client first now bytes → IsSome (outbox_of first.hub client)
    → IsSomeAnd (outbox_of now.hub client) (λ outbox. length piece ≡ 0 → length outbox.bytes ≡ 0) → (length piece == 0) ≡ true → IsEmptied client first now bytes
emptied_where client first now bytes piece is there none empty =
    let it = found first.hub client there in
    let k = is.sent.count in
    let part = some_and (λ w. (k ≤ length w.bytes) × (Some bytes ≡ Some ([] ++ take k w.bytes))) (outbox_of first.hub client) it.1 it.5 is.sent.sent in
    let after : outbox_of now.hub client ≡ Some (consumed k it.1) = ap (λ (h : Hub). outbox_of h client) is.sent.left ∙ outbox-after client k first.hub it.1 it.5 in
    let zero_piece : length piece ≡ 0 = zero_of (length piece) empty in
    let nothing : length (drop k it.1.bytes) ≡ 0 = some_and (λ w. length piece ≡ 0 → length w.bytes ≡ 0) (outbox_of now.hub client) (consumed k it.1) after none zero_piece in
    let whole : k ≡ length it.1.bytes = omega (arith, length-drop k it.1.bytes, nothing, part.0) in
    let bytes_are : bytes ≡ it.1.bytes = some_is part.1 ∙ take_whole k it.1.bytes whole in
    let count : k ≡ length bytes = whole ∙ ap length (sym bytes_are) in
    record {
      all = rw it.5 bytes_are;
      value = is.same ∙ ap (λ (h : Hub). record first { hub = h }) (is.sent.left ∙ ap (λ (n : ℕ). changed client (without n) first.hub) count);
      empty = rw after (empty_of (drop k it.1.bytes) nothing);
    } where
      zero_of : (n : ℕ) → (n == 0) ≡ true → n ≡ 0
      zero_of n e = elim (eqb_tells n 0) as (λ _. n ≡ 0) [ inl same ↦ same.1 | inr other ↦ absurd cc ]
