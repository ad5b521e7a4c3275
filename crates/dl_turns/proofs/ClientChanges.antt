-- A client of the hub that changes, and the others that don't.
use Rattle.std.proofs.Common.{◌≡◌, ◌≢◌, ◌⊎◌, ℕ, ◌-◌, Bool, true, false, cond, eqb, Option, Some, None, inl, inr, refl, sym, ap, subst, arith}
use Rattle.std.specs.Prelude.{IsSome, option_map, slice_get}
use Rattle.std.specs.Option.{option_and_then}
use Rattle.std.proofs.lemmas.Bool.Decides.{eqb_tells}
use Rattle.dl_hub.specs.State.{Client, Hub, changed, client_of, outbox_of}
use Rattle.dl_lemmas.proofs.Lists.{set_other, set_here}

-- the client of a number that has changed
pub client_changed : (hub : Hub) (number : ℕ) (f : Client → Client) → client_of (changed number f hub) number ≡ option_map f (client_of hub number)
client_changed hub number f = by (eqb number 0) refl (slice_get hub.clients (number - 1)) refl where
  by : (b : Bool) → eqb number 0 ≡ b → (o : Option Client) → slice_get hub.clients (number - 1) ≡ o → client_of (changed number f hub) number ≡ option_map f (client_of hub number)
  by true nobody o at = rw nobody refl
  by false somebody None at = rw (somebody, at, at) refl
  by false somebody (Some c) at = rw (somebody, at) (set_here hub.clients (number - 1) c (f c) at)

-- and the others
pub client_other : (hub : Hub) (number other : ℕ) (f : Client → Client) → other ≢ number → client_of (changed number f hub) other ≡ client_of hub other
client_other hub number other f apart = by (eqb_tells number 0) (eqb_tells other 0) (slice_get hub.clients (number - 1)) refl where
  by : ((eqb number 0 ≡ true) × (number ≡ 0)) ⊎ ((eqb number 0 ≡ false) × (number ≢ 0)) → ((eqb other 0 ≡ true) × (other ≡ 0)) ⊎ ((eqb other 0 ≡ false) × (other ≢ 0))
      → (o : Option Client) → slice_get hub.clients (number - 1) ≡ o → client_of (changed number f hub) other ≡ client_of hub other
  by (inl nobody) its o is = rw nobody.0 refl
  by (inr somebody) (inl nobody) o is = rw nobody.0 refl
  by (inr somebody) (inr its) None is = rw (somebody.0, is) refl
  by (inr somebody) (inr its) (Some c) is =
      let places : (other - 1 ≡ number - 1) → ⊥ = λ (e : other - 1 ≡ number - 1). apart (omega (arith, e, somebody.1, its.1)) in
      rw (somebody.0, is) (ap (λ (o : Option Client). cond (eqb other 0) None o) (set_other hub.clients (number - 1) (other - 1) (f c) places))

-- an outbox that is there stays there, where the change keeps it
pub still_open : (hub : Hub) (number : ℕ) (f : Client → Client) → ((c : Client) → IsSome c.outbox → IsSome (f c).outbox) → IsSome (outbox_of hub number) → IsSome (outbox_of (changed number f hub) number)
still_open hub number f keeps there = subst (λ (o : Option Client). IsSome (option_and_then (λ (c : Client). c.outbox) o)) (sym (client_changed hub number f)) (by (client_of hub number) there) where
  by : (o : Option Client) → IsSome (option_and_then (λ (c : Client). c.outbox) o) → IsSome (option_and_then (λ (c : Client). c.outbox) (option_map f o))
  by None h = absurd cc
  by (Some c) h = keeps c h
