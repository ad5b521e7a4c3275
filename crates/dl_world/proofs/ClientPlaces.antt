-- One client of all, and what a change of it leaves.
use Rattle.std.proofs.Common.{◌≡◌, ℕ, zero, suc, ◌-◌, ◌≤◌, ◌<◌, List, [], ◌∷◌, length, set, get_or, Option, Some, Result, Ok, Err, Bool, slice_get, refl, sym, ap, subst, ◌∙◌, false, eqb, arith}
use Rattle.std.proofs.lemmas.Bool.{ne_eqb, cond-false}
use Rattle.std.specs.Prelude.{IfSome, IsSomeAnd, IfOk, OnOk}
use Rattle.std.specs.Option.{option_map_or}
use Rattle.dl_world_calls.proofs.Places.{slice_get-set}
use Rattle.dl_world.specs.Fed.{Asks, IsFedBy}
use Rattle.dl_world.specs.State.{Client, client_at, with_client, with_cutter}

at_number : (xs : List Client) (number : ℕ) (x : Client) → 1 ≤ number → slice_get xs (number - 1) ≡ Some x → client_at xs number ≡ Some x
at_number xs number x some is = let not_zero : eqb number 0 ≡ false = ne_eqb number 0 (λ e. omega (arith, some, e)) in cond-false _ _ _ not_zero ∙ is

there : (xs : List Client) (at : ℕ) (d : Client) → at < length xs → slice_get xs at ≡ Some (get_or xs at d)
there [] at d below = absurd (omega (arith, below))
there (x ∷ xs) zero d below = refl
there (x ∷ xs) (suc at) d below = there xs at d (omega (arith, below))

module _ (clients : List Client) (number : ℕ) (here new : Client) (known : (1 ≤ number) × (number ≤ length clients)) (is : here ≡ get_or clients (number - 1) here) where
  -- the client of that number
  pub client_here : client_at clients number ≡ Some here
  client_here = at_number clients number here known.0 (there clients (number - 1) here (omega (arith, known.0, known.1)) ∙ ap Some (sym is))

  -- the one that was put there
  pub client_new : client_at (set clients (number - 1) new) number ≡ Some new
  client_new = at_number (set clients (number - 1) new) number new known.0 (slice_get-set clients (number - 1) new (omega (arith, known.0, known.1)))

  -- all of them, with the change
  pub with_new : (change : Client → Client) → new ≡ change here → set clients (number - 1) new ≡ with_client number change clients
  with_new change made =
      ap (λ (client : Client). set clients (number - 1) client) made
      ∙ ap (λ (found : Option Client). option_map_or (λ client. set clients (number - 1) (change client)) found clients) (sym client_here)

-- a client is its parts
pub with_its_cutter : (here new : Client) → new.frames ≡ here.frames → new ≡ with_cutter new.cutter here
with_its_cutter here new same = λ i. record { cutter = new.cutter; frames = same i }

-- ---- bytes of one of them are cut

module _ (clients : List Client) (number : ℕ) (here new : Client) (known : (1 ≤ number) × (number ≤ length clients)) (is : here ≡ get_or clients (number - 1) here) where
  pub cut_there : {E : Type 0} (bytes : List ℕ) (before after : List (List ℕ)) (result : Result Bool E)
      → IfOk result (λ bad. (stream : List ℕ) → IsFedBy stream here.cutter → Asks stream bytes bad before after new.cutter)
      → IfOk result (λ bad. (stream : List ℕ) → IfSome (client_at clients number) (λ client. IsFedBy stream client.cutter)
      → IfSome (client_at (set clients (number - 1) new) number) (λ client. Asks stream bytes bad before after client.cutter))
  cut_there bytes before after (Ok bad) asks = λ stream fed.
      subst (λ (found : Option Client). IfSome found (λ client. Asks stream bytes bad before after client.cutter)) (sym (client_new clients number here new known is))
      (asks stream (subst (λ (found : Option Client). IfSome found (λ client. IsFedBy stream client.cutter)) (client_here clients number here new known is) fed))
  cut_there bytes before after (Err none) asks = tt

  pub cut_alone : {E : Type 0} (result : Result Bool E) → new.frames ≡ here.frames
      → OnOk result (IsSomeAnd (client_at (set clients (number - 1) new) number) (λ client. set clients (number - 1) new ≡ with_client number (with_cutter client.cutter) clients))
  cut_alone (Ok bad) same =
      subst (λ (found : Option Client). IsSomeAnd found (λ client. set clients (number - 1) new ≡ with_client number (with_cutter client.cutter) clients))
      (sym (client_new clients number here new known is)) (with_new clients number here new known is (with_cutter new.cutter) (with_its_cutter here new same))
  cut_alone (Err none) same = tt
