-- How many clients are open, counted one after the other.
use Rattle.std.proofs.Common.{◌≡◌, ℕ, zero, suc, ◌+◌, ◌-◌, ◌<◌, ◌≤◌, Bool, true, false, cond, take, List, [], ◌∷◌, length, Option, Some, None, refl, sym, ap, ◌∙◌, arith}
use Rattle.std.specs.Prelude.{IsSome, IsTrue, ◌↔◌, is_some, count_by, slice_get}
use Rattle.std.specs.Option.{option_and_then}
use Rattle.dl_model.proofs.Lists.{count_by-append}
use Rattle.dl_hub.specs.State.{Client, Waiting, outbox_of, is_open}
use Rattle.dl_world.specs.Follows.{open_among}
use Rattle.dl_world.specs.declared.world.World.{World}
use Rattle.dl_world.proofs.ByNumber.{at_place}

-- one client more, or none
abbrev opens_at : Option Client → ℕ
opens_at None = 0
opens_at (Some client) = cond (is_open client) 1 0

count_take : (xs : List Client) (k : ℕ) → count_by is_open (take (suc k) xs) ≡ count_by is_open (take k xs) + opens_at (slice_get xs k)
count_take [] zero = omega arith
count_take [] (suc k) = omega arith
count_take (x ∷ xs) zero = omega (arith, count_by-append is_open (x ∷ []) [])
count_take (x ∷ xs) (suc k) = omega (arith, count_take xs k, count_by-append is_open (x ∷ []) (take (suc k) xs), count_by-append is_open (x ∷ []) (take k xs))

opens_is : (o : Option Client) (b : Bool) → is_some (option_and_then (λ (client : Client). client.outbox) o) ≡ b → opens_at o ≡ cond b 1 0
opens_is None true e = absurd cc
opens_is None false e = refl
opens_is (Some client) b e = ap (λ (x : Bool). cond {A = ℕ} x 1 0) e

-- so many of the clients below a number are open
pub record IsCounting (world : World) (next open_so : ℕ) : Type 0 where
  pub count : open_so ≡ count_by is_open (take (next - 1) world.core.hub.clients)
  pub few : open_so < next

told : (b : Bool) (P : Type 0) (o : Option Waiting) → (P → IsSome o → IsTrue b) → (IsTrue b → IsSome o) → P → is_some o ≡ b
told true P o tells told_so p = told_so refl
told false P (Some w) tells told_so p = absurd (let is_so : IsTrue false = tells p refl in cc)
told false P None tells told_so p = refl

pub counts_none : (world : World) → IsCounting world 1 0
counts_none world = record { count = refl; few = omega arith }

pub counts_more : (world : World) (number open_so open_now : ℕ) (b : Bool) → IsCounting world number open_so → 1 ≤ number → number ≤ length world.clients
    → (IsTrue b ↔ ((1 ≤ number) × (number ≤ length world.clients) × IsSome (outbox_of world.core.hub number)))
    → open_now ≡ open_so + cond b 1 0 → IsCounting world (number + 1) open_now
counts_more world number open_so open_now b so some within tells is =
    let xs = world.core.hub.clients in
    let at : outbox_of world.core.hub number ≡ option_and_then (λ (client : Client). client.outbox) (slice_get xs (number - 1)) =
    ap (option_and_then (λ (client : Client). client.outbox)) (at_place xs number some) in
    let opens : is_some (outbox_of world.core.hub number) ≡ b = told b (1 ≤ number) (outbox_of world.core.hub number) (λ p there. tells.1 (p, within, there)) (λ t. (tells.0 t).2) some in
    let one = opens_is (slice_get xs (number - 1)) b (ap (λ (o : Option Waiting). is_some o) (sym at) ∙ opens) in
    let next : suc (number - 1) ≡ number + 1 - 1 = omega (arith, some) in
    record {
      count = is ∙ ap (λ (n : ℕ). n + cond b 1 0) so.count ∙ ap (λ (n : ℕ). count_by is_open (take (number - 1) xs) + n) (sym one) ∙ sym (count_take xs (number - 1)) ∙ ap (λ (n : ℕ). count_by is_open (take n xs)) next;
      few = at_most b is;
    } where
      at_most : (b : Bool) → open_now ≡ open_so + cond b 1 0 → open_now < number + 1
      at_most true is = omega (arith, is, so.few)
      at_most false is = omega (arith, is, so.few)

pub counts_all : (world : World) (next open_so : ℕ) → IsCounting world next open_so → next ≡ length world.clients + 1 → open_so ≡ open_among world
counts_all world next open_so so all = let last : next - 1 ≡ length world.clients = omega (arith, all) in so.count ∙ ap (λ (n : ℕ). count_by is_open (take n world.core.hub.clients)) last
