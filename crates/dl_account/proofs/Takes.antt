-- What the daemon tells of what it took of a ring: its calls and its claims, in order.
use Rattle.std.proofs.Common.{◌≡◌, ℕ, ◌+◌, ◌≤◌, ◌==◌, zero, suc, Bool, true, false, cond, eqb, List, [], ◌∷◌, map, Option, Some, None, refl, sym, ap, ◌∙◌, eq-eqb, arith}
use Rattle.std.specs.Prelude.{All}
use Rattle.std.specs.List.{cons_option, filter, filter_map}
use Rattle.std.proofs.lemmas.Bool.{eqb-true}
use Rattle.std.proofs.lemmas.List.Elements.{All-head, All-tail}
use Rattle.dl_bytes.specs.Claim.{Claimed}
use Rattle.dl_events.specs.declared.event.Event.{Event}
use Rattle.dl_events.specs.declared.event.Event.TheVariants as event
use Rattle.dl_model.specs.Accounts.{Took, TookCall, TookClaim, claims, claimed_by, name_of, of_writer, order, takes}
use Rattle.dl_ring.specs.Items.{calls_in, claims_in}
use Rattle.dl_ring.specs.Order.{of, writer_of}
use Rattle.dl_ring.specs.declared.item.RingItem.{RingItem}
use Rattle.dl_ring.specs.declared.item.RingItem.TheVariants as ring
use Rattle.dl_cells.specs.Views.{bit, times, total}
use Rattle.dl_writer.specs.State.{BookState, numbers}
use Rattle.dl_account.specs.Known.{told_as}
use Rattle.dl_account.proofs.Lists.{total-map}

-- ---- calls and claims among what was taken

abbrev call_of_took : Took → Option (ℕ × ℕ)
call_of_took (TookCall writer call) = Some (writer, call)
call_of_took (TookClaim claim) = None

abbrev claim_of_took : Took → Option Claimed
claim_of_took (TookCall writer call) = None
claim_of_took (TookClaim claim) = Some claim

-- the calls that a journal admits, and the claims that it has, are those among what it tells of takes
order_in_takes : (app : ℕ) (events : List Event) → order app events ≡ filter_map call_of_took (takes app events)
order_in_takes app [] = refl
order_in_takes app (event.Log other writer call moment ∷ events) = by_test (other == app) (order_in_takes app events) where
  by_test : (b : Bool) → order app events ≡ filter_map call_of_took (takes app events)
      → cons_option (cond b (Some (writer, call)) None) (order app events) ≡ filter_map call_of_took (cons_option (cond b (Some (TookCall writer call)) None) (takes app events))
  by_test true rest = ap (λ xs. (writer, call) ∷ xs) rest
  by_test false rest = rest
order_in_takes app (event.Claim claim moment ∷ events) = by_test (claim.app == app) (order_in_takes app events) where
  by_test : (b : Bool) → order app events ≡ filter_map call_of_took (takes app events)
      → order app events ≡ filter_map call_of_took (cons_option (cond b (Some (TookClaim claim)) None) (takes app events))
  by_test true rest = rest
  by_test false rest = rest
order_in_takes app (_ ∷ events) = order_in_takes app events

claims_in_takes : (app : ℕ) (events : List Event) → claims app events ≡ filter_map claim_of_took (takes app events)
claims_in_takes app [] = refl
claims_in_takes app (event.Log other writer call moment ∷ events) = by_test (other == app) (claims_in_takes app events) where
  by_test : (b : Bool) → claims app events ≡ filter_map claim_of_took (takes app events)
      → claims app events ≡ filter_map claim_of_took (cons_option (cond b (Some (TookCall writer call)) None) (takes app events))
  by_test true rest = rest
  by_test false rest = rest
claims_in_takes app (event.Claim claim moment ∷ events) = by_test (claim.app == app) (claims_in_takes app events) where
  by_test : (b : Bool) → claims app events ≡ filter_map claim_of_took (takes app events)
      → cons_option (cond b (Some claim) None) (claims app events) ≡ filter_map claim_of_took (cons_option (cond b (Some (TookClaim claim)) None) (takes app events))
  by_test true rest = ap (λ xs. claim ∷ xs) rest
  by_test false rest = rest
claims_in_takes app (_ ∷ events) = claims_in_takes app events

-- a claim as one of this application
abbrev pub claim_as : ℕ → Claimed → Claimed
claim_as app claim = record claim { app = app }

calls_told : (app : ℕ) (items : List RingItem) → filter_map call_of_took (map (told_as app) items) ≡ map name_of (calls_in items)
calls_told app [] = refl
calls_told app (ring.Log item ∷ items) = ap (λ xs. name_of item ∷ xs) (calls_told app items)
calls_told app (ring.Register claim ∷ items) = calls_told app items

claims_told : (app : ℕ) (items : List RingItem) → filter_map claim_of_took (map (told_as app) items) ≡ map (claim_as app) (claims_in items)
claims_told app [] = refl
claims_told app (ring.Log item ∷ items) = claims_told app items
claims_told app (ring.Register claim ∷ items) = ap (λ xs. claim_as app claim ∷ xs) (claims_told app items)

module _ (app : ℕ) (events : List Event) (items : List RingItem) (told : takes app events ≡ map (told_as app) items) where
  pub order_told : order app events ≡ map name_of (calls_in items)
  order_told = order_in_takes app events ∙ ap (filter_map call_of_took) told ∙ calls_told app items

  pub claims_are : claims app events ≡ map (claim_as app) (claims_in items)
  claims_are = claims_in_takes app events ∙ ap (filter_map claim_of_took) told ∙ claims_told app items

-- ---- those of one writer

its_calls : (writer : ℕ) (items : List RingItem) → filter (of_writer writer) (map name_of (calls_in items)) ≡ map name_of (calls_in (of writer items))
its_calls writer [] = refl
its_calls writer (ring.Log item ∷ items) = by_test (item.writer == writer) (its_calls writer items) where
  by_test : (b : Bool) → filter (of_writer writer) (map name_of (calls_in items)) ≡ map name_of (calls_in (of writer items))
      → cond b (name_of item ∷ filter (of_writer writer) (map name_of (calls_in items))) (filter (of_writer writer) (map name_of (calls_in items)))
      ≡ map name_of (calls_in (cond b (ring.Log item ∷ of writer items) (of writer items)))
  by_test true rest = ap (λ xs. name_of item ∷ xs) rest
  by_test false rest = rest
its_calls writer (ring.Register claim ∷ items) = by_test (claim.writer == writer) (its_calls writer items) where
  by_test : (b : Bool) → filter (of_writer writer) (map name_of (calls_in items)) ≡ map name_of (calls_in (of writer items))
      → filter (of_writer writer) (map name_of (calls_in items)) ≡ map name_of (calls_in (cond b (ring.Register claim ∷ of writer items) (of writer items)))
  by_test true rest = rest
  by_test false rest = rest

its_claims : (app writer : ℕ) (items : List RingItem) → filter (claimed_by writer) (map (claim_as app) (claims_in items)) ≡ map (claim_as app) (claims_in (of writer items))
its_claims app writer [] = refl
its_claims app writer (ring.Log item ∷ items) = by_test (item.writer == writer) (its_claims app writer items) where
  by_test : (b : Bool) → filter (claimed_by writer) (map (claim_as app) (claims_in items)) ≡ map (claim_as app) (claims_in (of writer items))
      → filter (claimed_by writer) (map (claim_as app) (claims_in items)) ≡ map (claim_as app) (claims_in (cond b (ring.Log item ∷ of writer items) (of writer items)))
  by_test true rest = rest
  by_test false rest = rest
its_claims app writer (ring.Register claim ∷ items) = by_test (claim.writer == writer) (its_claims app writer items) where
  by_test : (b : Bool) → filter (claimed_by writer) (map (claim_as app) (claims_in items)) ≡ map (claim_as app) (claims_in (of writer items))
      → cond b (claim_as app claim ∷ filter (claimed_by writer) (map (claim_as app) (claims_in items))) (filter (claimed_by writer) (map (claim_as app) (claims_in items)))
      ≡ map (claim_as app) (claims_in (cond b (ring.Register claim ∷ of writer items) (of writer items)))
  by_test true rest = ap (λ xs. claim_as app claim ∷ xs) rest
  by_test false rest = rest

module _ (app writer : ℕ) (events : List Event) (items : List RingItem) (told : takes app events ≡ map (told_as app) items) where
  pub calls_of_writer : filter (of_writer writer) (order app events) ≡ map name_of (calls_in (of writer items))
  calls_of_writer = ap (filter (of_writer writer)) (order_told app events items told) ∙ its_calls writer items

  pub claims_of_writer : filter (claimed_by writer) (claims app events) ≡ map (claim_as app) (claims_in (of writer items))
  claims_of_writer = ap (filter (claimed_by writer)) (claims_are app events items told) ∙ its_claims app writer items

-- claims of the application stay as they are
pub own_claims : (app : ℕ) (cs : List Claimed) → All (λ c. c.app ≡ app) cs → map (claim_as app) cs ≡ cs
own_claims app [] own = refl
own_claims app (c ∷ cs) own =
    let this : claim_as app c ≡ c = ap (λ (n : ℕ). claim_as n c) (sym (All-head (λ (c : Claimed). c.app ≡ app) c cs own)) in
    ap (λ (d : Claimed). d ∷ map (claim_as app) cs) this ∙ ap (λ ds. c ∷ ds) (own_claims app cs (All-tail (λ (c : Claimed). c.app ≡ app) c cs own))

-- and their places whatever application they are of
pub places_as : (app : ℕ) (cs : List Claimed) → map (λ c. c.place) (map (claim_as app) cs) ≡ map (λ c. c.place) cs
places_as app [] = refl
places_as app (c ∷ cs) = ap (λ ps. c.place ∷ ps) (places_as app cs)

-- ---- what was taken is what the writers pushed, so it adds up to no more

-- 1 for a claim of this place
abbrev on_place : ℕ → RingItem → ℕ
on_place place (ring.Log item) = 0
on_place place (ring.Register claim) = bit (claim.place == place)

places_counted : (place : ℕ) (items : List RingItem) → times place (map (λ c. c.place) (claims_in items)) ≡ total (on_place place) items
places_counted place [] = refl
places_counted place (ring.Log item ∷ items) = let rest = places_counted place items in omega (arith, rest)
places_counted place (ring.Register claim ∷ items) = let rest = places_counted place items in omega (arith, rest)

module _ (f : RingItem → ℕ) where
  -- what the writers with these numbers have of some items, added up
  abbrev parts : List RingItem → List ℕ → ℕ
  parts items ns = total (λ n. total f (of n items)) ns

  part_more : (item : RingItem) (items : List RingItem) (n : ℕ) → total f (of n items) ≤ total f (of n (item ∷ items))
  part_more item items n = by_test (writer_of item == n) where
    by_test : (b : Bool) → total f (of n items) ≤ total f (cond b (item ∷ of n items) (of n items))
    by_test true = omega arith
    by_test false = omega arith

  part_own : (item : RingItem) (items : List RingItem) (n : ℕ) → writer_of item ≡ n → total f (of n (item ∷ items)) ≡ f item + total f (of n items)
  part_own item items n same = ap (λ (b : Bool). total f (cond b (item ∷ of n items) (of n items))) (eq-eqb (writer_of item) n same)

  parts_more : (item : RingItem) (items : List RingItem) (ns : List ℕ) → parts items ns ≤ parts (item ∷ items) ns
  parts_more item items [] = omega arith
  parts_more item items (n ∷ ns) = let here = part_more item items n in let rest = parts_more item items ns in omega (arith, here, rest)

  one_more : (item : RingItem) (items : List RingItem) (ns : List ℕ) → 1 ≤ times (writer_of item) ns → f item + parts items ns ≤ parts (item ∷ items) ns
  one_more item items [] some = absurd (omega (arith, some))
  one_more item items (n ∷ ns) some = by_test (eqb n (writer_of item)) refl (part_more item items n) (parts_more item items ns) (one_more item items ns) where
    by_test : (b : Bool) → eqb n (writer_of item) ≡ b → total f (of n items) ≤ total f (of n (item ∷ items)) → parts items ns ≤ parts (item ∷ items) ns
        → (1 ≤ times (writer_of item) ns → f item + parts items ns ≤ parts (item ∷ items) ns) → f item + (total f (of n items) + parts items ns) ≤ total f (of n (item ∷ items)) + parts (item ∷ items) ns
    by_test true is here rest later = let own = part_own item items n (sym (eqb-true n (writer_of item) is)) in omega (arith, own, rest)
    by_test false is here rest later =
        let none : bit (eqb n (writer_of item)) ≡ 0 = ap bit is in
        let most = later (omega (arith, some, none)) in
        omega (arith, here, most)

  -- where each item is of one of these numbers, all of them add up to no more than the parts
  pub in_parts : (items : List RingItem) (ns : List ℕ) → ((number : ℕ) → times number ns ≡ 0 → of number items ≡ []) → total f items ≤ parts items ns
  in_parts [] ns others = omega arith
  in_parts (item ∷ items) ns others = by_times (times (writer_of item) ns) refl (in_parts items ns later) where
    later : (number : ℕ) → times number ns ≡ 0 → of number items ≡ []
    later number none = by_test (writer_of item == number) (others number none) where
      by_test : (b : Bool) → cond b (item ∷ of number items) (of number items) ≡ [] → of number items ≡ []
      by_test true is = absurd cc
      by_test false is = is

    there : times (writer_of item) ns ≡ 0 → ⊥
    there none =
        let mine : item ∷ of (writer_of item) items ≡ [] =
        sym (ap (λ (b : Bool). cond b (item ∷ of (writer_of item) items) (of (writer_of item) items)) (eq-eqb (writer_of item) (writer_of item) refl)) ∙ others (writer_of item) none in
        absurd cc

    by_times : (k : ℕ) → times (writer_of item) ns ≡ k → total f items ≤ parts items ns → f item + total f items ≤ parts (item ∷ items) ns
    by_times zero is rest = absurd (there is)
    by_times (suc k) is rest = let most = one_more item items ns (omega (arith, is)) in omega (arith, most, rest)

-- no place is claimed more often in what was taken than in what the writers pushed
pub places_within : (place : ℕ) (items : List RingItem) (books : List BookState) → ((number : ℕ) → times number (numbers books) ≡ 0 → of number items ≡ [])
    → All (λ b. of b.writer.push.number items ≡ b.writer.push.pushed) books
    → times place (map (λ c. c.place) (claims_in items)) ≤ total (λ b. times place (map (λ c. c.place) (claims_in b.writer.push.pushed))) books
places_within place items books others each =
    let counted = places_counted place items in
    let most = in_parts (on_place place) items (numbers books) others in
    let theirs = total-map (λ (n : ℕ). total (on_place place) (of n items)) (λ (b : BookState). b.writer.push.number) books in
    let same = same_total books each in
    omega (arith, counted, most, theirs, same) where
      same_total : (books : List BookState) → All (λ (b : BookState). of b.writer.push.number items ≡ b.writer.push.pushed) books
          → total (λ (b : BookState). total (on_place place) (of b.writer.push.number items)) books ≡ total (λ (b : BookState). times place (map (λ (c : Claimed). c.place) (claims_in b.writer.push.pushed))) books
      same_total [] each = refl
      same_total (b ∷ books) each =
          let here : total (on_place place) (of b.writer.push.number items) ≡ times place (map (λ (c : Claimed). c.place) (claims_in b.writer.push.pushed)) =
          ap (total (on_place place)) (All-head (λ (b : BookState). of b.writer.push.number items ≡ b.writer.push.pushed) b books each) ∙ sym (places_counted place b.writer.push.pushed) in
          let rest = same_total books (All-tail (λ (b : BookState). of b.writer.push.number items ≡ b.writer.push.pushed) b books each) in
          omega (arith, here, rest)
