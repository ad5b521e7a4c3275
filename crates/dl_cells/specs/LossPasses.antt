-- The fields of the keeper and of a writer, and what is true of them.
use Rattle.std.specs.Prelude.{◌≡◌, ◌+◌, ◌^◌, ◌<◌, ◌≤◌, true, false, [], length, vec_len, All}
use Rattle.std.specs.Arc.{arc_value}
use Rattle.dl_cells.specs.declared.loss_writer.LossWriter.TheInside as writer
use Rattle.dl_cells.specs.declared.loss_keeper.LossKeeper.TheInside as keeper
use Rattle.dl_cells.specs.LossStates.{WriterState, KeeperState}

abbrev pub writer_state : writer.Inside → WriterState
writer_state w = record { table = w.seat.table_id; apps = w.seat.table_id.words; counted = w.seat.me.0.counted; splits_left = vec_len w.spare }

-- the seat is one of these words, and has a share for itself and one for each owner that is left
pub record IsWriter (w : writer.Inside) : Type 0 where
  pub seated : w.seat.table_id ≡ (arc_value w.words).shared.table_id
  pub apps : w.seat.table_id.words ≡ (arc_value w.words).shared.key
  pub some : 0 < w.seat.table_id.words
  pub bare : w.seat.me.1 ≡ []
  pub counts : w.seat.me.0.keeps ≡ false
  pub shares : w.seat.me.0.shares ≡ vec_len w.spare + 1
  pub few : length w.seat.me.0.counted ≤ 2 ^ 40
  pub spare : All (λ a. arc_value a ≡ arc_value w.words) w.spare.items

abbrev pub keeper_state : keeper.Inside → KeeperState
keeper_state k = record { table = k.seat.table_id; apps = k.seat.table_id.words; counted = k.seat.me.0.counted; shares = k.seat.me.0.shares; reported = k.seat.me.0.reported }

-- the seat is one of these words, and it keeps them
pub record IsKeeper (k : keeper.Inside) : Type 0 where
  pub seated : k.seat.table_id ≡ (arc_value k.words).shared.table_id
  pub apps : k.seat.table_id.words ≡ (arc_value k.words).shared.key
  pub some : 0 < k.seat.table_id.words
  pub bare : k.seat.me.1 ≡ []
  pub keeps : k.seat.me.0.keeps ≡ true
