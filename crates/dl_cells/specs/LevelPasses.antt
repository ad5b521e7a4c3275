-- The fields of the keeper and of a reader, and what is true of them.
use Rattle.std.specs.Prelude.{◌≡◌, ℕ, ◌+◌, ◌/◌, ◌<◌, ◌^◌, true, List, [], slice_index, vec_len, All}
use Rattle.std.specs.Arc.{arc_value}
use Rattle.dl_cells.specs.declared.level_history.Change.{Change}
use Rattle.dl_cells.specs.declared.level_reader.LevelReader.TheInside as reader
use Rattle.dl_cells.specs.declared.level_keeper.LevelKeeper.TheInside as keeper
use Rattle.dl_cells.specs.LevelStates.{ReaderState, KeeperState}
use Rattle.dl_cells.specs.LevelHistory.{current_version}

abbrev pub reader_state : reader.Inside → ReaderState
reader_state r = record {
  table = r.seat.table_id;
  slots = r.seat.table_id.words;
  reads = r.seat.me.0.reads;
  splits_left = vec_len r.spare;
  claims = r.claimer.table;
  given = r.claimer.given;
  refused = r.claimer.refused;
}

-- how many applications so many slots belong to: each has 64
abbrev pub apps_of : ℕ → ℕ
apps_of slots = (slots + 63) / 64

-- the seat is one of these words, and so are the owners that are left; and each application has a claim word
pub record IsReader (r : reader.Inside) : Type 0 where
  pub seated : r.seat.table_id ≡ (arc_value r.words).shared.table_id
  pub slots : r.seat.table_id.words ≡ (arc_value r.words).shared.key.slots
  pub some : 0 < r.seat.table_id.words
  pub bare : r.seat.me.1 ≡ []
  pub apps : r.claimer.apps ≡ apps_of r.seat.table_id.words
  pub splits : r.claimer.splits_left ≡ vec_len r.spare
  pub spare : All (λ a. arc_value a ≡ arc_value r.words) r.spare.items

abbrev pub keeper_state : keeper.Inside → KeeperState
keeper_state k = record {
  table = k.seat.table_id;
  slots = k.seat.table_id.words;
  first = k.seat.me.0.first;
  sets = k.seat.me.0.sets;
  reads = k.seat.me.0.reads;
  claims = k.claims.table;
  given = k.claims.given;
  refused = k.claims.refused;
  shares = k.claims.shares;
}

-- the versions are those of the slots' last entries
abbrev pub AreLast : ℕ → List Change → ℕ → List ℕ → Type 0
AreLast first sets slots versions = (slot : ℕ) → slot < slots → (slice_index versions slot ≡ current_version first slot sets) × (slice_index versions slot < 2 ^ 56)

-- the seat is one of these words, and it keeps them; and each application has a claim word
pub record IsKeeper (k : keeper.Inside) : Type 0 where
  pub seated : k.seat.table_id ≡ (arc_value k.words).shared.table_id
  pub slots : k.seat.table_id.words ≡ (arc_value k.words).shared.key.slots
  pub some : 0 < k.seat.table_id.words
  pub bare : k.seat.me.1 ≡ []
  pub keeps : k.seat.me.0.keeps ≡ true
  pub apps : k.claims.apps ≡ apps_of k.seat.table_id.words
  pub all : vec_len k.versions ≡ k.seat.table_id.words
  pub last : AreLast k.seat.me.0.first k.seat.me.0.sets k.seat.table_id.words k.versions.items
