-- The fields of the keeper and of a claimer, and what is true of them.
use Rattle.std.specs.Prelude.{◌≡◌, ℕ, ◌+◌, ◌<◌, true, false, [], slice_index_or, vec_len, All}
use Rattle.std.specs.Arc.{arc_value}
use Rattle.dl_cells.specs.Views.{bit}
use Rattle.dl_cells.specs.declared.claimer.Claimer.TheInside as claimer
use Rattle.dl_cells.specs.declared.claim_keeper.ClaimKeeper.TheInside as keeper
use Rattle.dl_cells.specs.Claims.{refused_of}
use Rattle.dl_cells.specs.ClaimStates.{ClaimerState, KeeperState}

abbrev pub claimer_state : claimer.Inside → ClaimerState
claimer_state c = record { table = c.seat.table_id; apps = c.seat.table_id.words; given = c.seat.me.0.given; refused = c.seat.me.0.refused; splits_left = vec_len c.spare }

-- the seat is one of these words, and has a share for itself and one for each owner that is left; and for each application
-- it is noted whether a claim found none left, which happens once
pub record IsClaimer (c : claimer.Inside) : Type 0 where
  pub seated : c.seat.table_id ≡ (arc_value c.words).shared.table_id
  pub apps : c.seat.table_id.words ≡ (arc_value c.words).shared.key
  pub some : 0 < c.seat.table_id.words
  pub bare : c.seat.me.1 ≡ []
  pub claims : c.seat.me.0.keeps ≡ false
  pub shares : c.seat.me.0.shares ≡ vec_len c.spare + 1
  pub noted : (app : ℕ) → refused_of app c.seat.me.0.refused ≡ bit (slice_index_or c.none_left app false)
  pub spare : All (λ a. arc_value a ≡ arc_value c.words) c.spare.items

abbrev pub keeper_state : keeper.Inside → KeeperState
keeper_state k = record { table = k.seat.table_id; apps = k.seat.table_id.words; given = k.seat.me.0.given; refused = k.seat.me.0.refused; shares = k.seat.me.0.shares }

-- the seat is one of these words, and it keeps them
pub record IsKeeper (k : keeper.Inside) : Type 0 where
  pub seated : k.seat.table_id ≡ (arc_value k.words).shared.table_id
  pub apps : k.seat.table_id.words ≡ (arc_value k.words).shared.key
  pub some : 0 < k.seat.table_id.words
  pub bare : k.seat.me.1 ≡ []
  pub keeps : k.seat.me.0.keeps ≡ true
