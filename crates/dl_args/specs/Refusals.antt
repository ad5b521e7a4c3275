-- Why an argument can't be read, and where it begins.
use Rattle.std.specs.Prelude.{◌≡◌, ◌<◌, ◌≤◌, ◌⊎◌, ℕ, Bool, List, [], ◌∷◌, ◌++◌, length, take, drop, Option, is_some}
use Rattle.dl_bytes.specs.declared.cursor.Order.{Order}
use Rattle.dl_args.specs.declared.arg.Arg.{Arg}
use Rattle.dl_args.specs.declared.arg.ArgFault.{ArgFault}
use Rattle.dl_args.specs.declared.arg.ArgFault.TheVariants.{Short, Unsupported, Value, OutOfMemory}
use Rattle.dl_args.specs.declared.type_info.Kind.{Kind}
use Rattle.dl_args.specs.declared.type_info.Kind.TheVariants as kind
use Rattle.dl_args.specs.ReadForm.{◌before◌, Is, IsNumber, Says, IsInfo, IsName, IsSpelling, AreSpellings}

-- An argument is read at this place of the payload: what stands before it spells arguments, fewer than are read.
pub record IsReached (order : Order) (count : ℕ) (payload : List ℕ) (place : ℕ) : Type 0 where
  pub args : List Arg
  pub within : place ≤ length payload
  pub before_it : AreSpellings order args (take place payload)
  pub fewer : length args < count

-- Bytes are missing: some argument begins with these, and goes on behind them.
pub record BeginsArgument (order : Order) (bytes : List ℕ) : Type 0 where
  pub arg : Arg
  pub missing : List ℕ
  pub some : 0 < length missing
  pub spelled : IsSpelling order arg (bytes ++ missing)

-- The bytes begin with a type info that says no kind.
pub record SaysNoKind (order : Order) (info : ℕ) (bytes : List ℕ) : Type 0 where
  pub front : List ℕ
  pub rest : List ℕ
  pub parts : bytes ≡ front ++ rest
  pub number : IsNumber order 4 info front
  pub no_kind : (k : Kind) (named : Bool) → Says k named info → ⊥

-- The bytes begin with a truth value, with a name or without, whose byte is neither 0 nor 1.
pub record HasOtherValue (order : Order) (bytes : List ℕ) : Type 0 where
  pub name : Option (List ℕ)
  pub byte : ℕ
  pub other : 1 < byte
  pub front : List ℕ
  pub rest : List ℕ
  pub parts : bytes ≡ front ++ rest
  pub spelled : (IsInfo order kind.Bool (is_some name) before IsName order name before Is (byte ∷ [])) front

-- Which fault a payload has, where so many arguments are read. Want of memory is no fault of the payload.
abbrev pub IsFault : Order → ℕ → List ℕ → ArgFault → Type 0
IsFault order count payload (Short place) =
    IsReached order count payload place × ((length (drop place payload) < 4) ⊎ BeginsArgument order (drop place payload))
IsFault order count payload (Unsupported place info) =
    IsReached order count payload place × SaysNoKind order info (drop place payload)
IsFault order count payload (Value place) = IsReached order count payload place × HasOtherValue order (drop place payload)
IsFault order count payload OutOfMemory = Unit {0}
