-- What contracts see of a context's handle.
use Rattle.std.specs.Prelude.{ℕ, ◌+◌, ◌*◌, List}

-- the application's number, the place among its contexts, and both ids
pub record Context : Type 0 where
  pub app : ℕ
  pub place : ℕ
  pub apid : List ℕ
  pub ctid : List ℕ

-- its slot: each application has 64, one a place
abbrev pub slot_of : Context → ℕ
slot_of context = 64 * context.app + context.place
