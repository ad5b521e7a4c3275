-- One channel of all: where it is, what a new one leaves, and what a change of it leaves.
use Rattle.std.proofs.Common.{◌≡◌, ℕ, zero, suc, ◌<◌, Bool, true, false, cond, eqb, ltb, List, [], ◌∷◌, ◌++◌, length, set, get_or, Option, Some, None, slice_get, refl, sym, ap, subst, ◌∙◌, eqb-true, eq-eqb, length-append, arith}
use Rattle.std.specs.Prelude.{◌==◌, not}
use Rattle.std.specs.List.{find, position, position_or_len}
use Rattle.std.specs.Option.{option_map_or, option_or}
use Rattle.std.proofs.lemmas.Bool.{ltb-false, lt-ltb, ne_eqb}
use Rattle.std.proofs.lemmas.List.Folds.{find_at, find-append, find-set, find_past, position_or_len_push}
use Rattle.std.proofs.lemmas.List.Quantifiers.{position-Some}
use Rattle.std.proofs.lemmas.List.Sums.{prefix_len-le-length}
use Rattle.dl_user.specs.Channel as user
use Rattle.dl_world_calls.proofs.Places.{position_to_len}
use Rattle.dl_world.specs.State.{Channel, channel_at}
use Rattle.dl_world.specs.Fed.{IsHeardBy, Tells, told_by}
use Rattle.dl_bytes.specs.declared.user.UserMsg.{UserMsg}

-- the test for a number
abbrev pub has : ℕ → Channel → Bool
has number channel = channel.number == number

-- ---- a new one

not_there : (test : Bool) (place : ℕ) → cond test (Some place) None ≡ None → test ≡ false
not_there true place e = absurd cc
not_there false place e = refl

-- a channel that is put behind those without its number is found there
pub put_behind : (channels : List Channel) (new : Channel) (number : ℕ) → position (has number) channels ≡ None → new.number ≡ number
    → position (has number) (channels ++ new ∷ []) ≡ Some (length channels)
put_behind channels new number none is =
    let all = channels ++ new ∷ [] in
    let past = ltb-false (position_or_len (has number) channels) (length channels) (not_there (ltb (position_or_len (has number) channels) (length channels)) (position_or_len (has number) channels) none) in
    let end : position_or_len (has number) channels ≡ length channels = omega (arith, past, prefix_len-le-length (λ (channel : Channel). not (has number channel)) channels) in
    let same : eqb (position_or_len (has number) channels) (length channels) ≡ true = eq-eqb (position_or_len (has number) channels) (length channels) end in
    let it : eqb new.number number ≡ true = eq-eqb new.number number is in
    let place : position_or_len (has number) all ≡ length channels = position_or_len_push (has number) channels new ∙ rw (same, it) (omega arith) in
    let below : ltb (length channels) (length all) ≡ true = lt-ltb (length channels) (length all) (omega (arith, length-append channels (new ∷ []))) in
    rw (place, below) refl

abbrev cutter_in : Option Channel → user.Channel
cutter_in found = option_map_or (λ (channel : Channel). channel.cutter) found user.unfed

-- nothing came on it yet
unfed_behind : (found : Option Channel) (test : Bool) (new : Channel) → new.cutter ≡ user.unfed → cutter_in (option_or found (cond test (Some new) None)) ≡ cutter_in found
unfed_behind (Some channel) test new is = refl
unfed_behind None true new is = is
unfed_behind None false new is = refl

pub same_behind : (channels : List Channel) (new : Channel) → new.cutter ≡ user.unfed → (other : ℕ) → channel_at (channels ++ new ∷ []) other ≡ channel_at channels other
same_behind channels new is other = ap cutter_in (find-append (has other) channels (new ∷ [])) ∙ unfed_behind (find (has other) channels) (has other new) new is

-- ---- a change

there : (xs : List Channel) (at : ℕ) (d : Channel) → at < length xs → slice_get xs at ≡ Some (get_or xs at d)
there [] at d below = absurd (omega (arith, below))
there (x ∷ xs) zero d below = refl
there (x ∷ xs) (suc at) d below = there xs at d (omega (arith, below))

module _ (channels : List Channel) (number place : ℕ) (here new : Channel) (found : position (has number) channels ≡ Some place) (is : here ≡ get_or channels place here) (same : new.number ≡ here.number) where
  within : place < length channels
  within = (position_to_len (has number) channels place found).1

  first : position_or_len (has number) channels ≡ place
  first = (position_to_len (has number) channels place found).0

  is_it : here.number ≡ number
  is_it = eqb-true here.number number (ap (has number) is ∙ (position-Some (has number) channels place here found).1)

  pub channel_here : channel_at channels number ≡ here.cutter
  channel_here = ap cutter_in (find_at (has number) channels ∙ ap (slice_get channels) first ∙ there channels place here within ∙ ap Some (sym is))

  pub channel_new : channel_at (set channels place new) number ≡ new.cutter
  channel_new = ap cutter_in (find-set (has number) channels place new (sym first) within (eq-eqb new.number number (same ∙ is_it)))

  pub channel_other : (other : ℕ) → (other ≡ number → ⊥) → channel_at (set channels place new) other ≡ channel_at channels other
  channel_other other apart =
      let old_one : has other (get_or channels place here) ≡ false = ap (has other) (sym is) ∙ ne_eqb here.number other (λ e. apart (sym e ∙ is_it)) in
      let new_one : has other new ≡ false = ne_eqb new.number other (λ e. apart (sym e ∙ same ∙ is_it)) in
      ap cutter_in (find_past (has other) channels place new here old_one new_one)

-- ---- bytes of one of them are cut

module _ (old channels : List Channel) (number place : ℕ) (here new : Channel) (found : position (has number) channels ≡ Some place) (is : here ≡ get_or channels place here) (same : new.number ≡ here.number)
    (kept : (other : ℕ) → channel_at channels other ≡ channel_at old other) where
  pub cut_others : (other : ℕ) → (other ≡ number → ⊥) → channel_at (set channels place new) other ≡ channel_at old other
  cut_others other apart = channel_other channels number place here new found is same other apart ∙ kept other

  pub cut_here : (stream : List ℕ) → IsHeardBy stream (channel_at old number) → IsHeardBy stream here.cutter
  cut_here stream heard = subst (IsHeardBy stream) (sym (kept number) ∙ channel_here channels number place here new found is same) heard

  pub cut_tells : (stream bytes : List ℕ) (after : List UserMsg) → IsHeardBy (stream ++ bytes) new.cutter → after ≡ told_by stream bytes
      → Tells stream bytes [] after (channel_at (set channels place new) number)
  cut_tells stream bytes after heard told =
      subst (Tells stream bytes [] after) (sym (channel_new channels number place here new found is same)) (record { heard = heard; told = told })
