-- Numbers as bytes in either order, and reading from the front.
use Rattle.std.specs.Prelude.{◌≡◌, ℕ, List, length, take, drop, nat_lt, if◌then◌else◌, Option, Some, None}
use Rattle.byteorder.specs.Endian.{big_number, little_number, big_bytes, little_bytes}
use Rattle.dl_bytes.specs.declared.cursor.Order.{Order}
use Rattle.dl_bytes.specs.declared.cursor.Order.TheVariants.{Little, Big}
use Rattle.dl_bytes.specs.declared.cursor.Cursor.{Cursor}

-- the number that the first n bytes stand for
abbrev pub number_of : Order → ℕ → List ℕ → ℕ
number_of Little n bytes = little_number n bytes
number_of Big n bytes = big_number n bytes

-- the n bytes of a number
abbrev pub bytes_of : Order → ℕ → ℕ → List ℕ
bytes_of Little n x = little_bytes n x
bytes_of Big n x = big_bytes n x

-- what is left to read, and the order of its numbers
pub record At : Type 0 where
  pub rest : List ℕ
  pub order : Order

abbrev pub at : Cursor → At
at c = record { rest = c.rest.now; order = c.order }

-- What a read gave, seen by view, with what is left, is what reading gives; it gives nothing exactly where reading does.
abbrev pub Gives : {X Y : Type 0} → (X → Y) → Option X → Cursor → Option (Y × At) → Type 0
Gives view None left read = read ≡ None
Gives view (Some x) left read = read ≡ Some (view x, at left)

-- the next n bytes
abbrev pub bytes_at : ℕ → At → Option (List ℕ × At)
bytes_at n c = if nat_lt (length c.rest) n then None else Some (take n c.rest, record { rest = drop n c.rest; order = c.order })

-- the next n bytes as a number
abbrev pub number_at : ℕ → At → Option (ℕ × At)
number_at n c = if nat_lt (length c.rest) n then None else Some (number_of c.order n c.rest, record { rest = drop n c.rest; order = c.order })

-- one read after another, as far as none fails
infixl 10 ◌>>=◌
abbrev pub ◌>>=◌ : {A B : Type 0} → Option A → (A → Option B) → Option B
None >>= f = None
(Some x) >>= f = f x
