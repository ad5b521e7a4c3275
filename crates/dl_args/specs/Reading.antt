-- Reading arguments from the front, in either byte order, with the fault of the first that can't be read.
use Rattle.std.specs.Prelude.{◌≡◌, ℕ, zero, suc, ◌-◌, Bool, true, false, List, [], ◌∷◌, length, Option, Some, None, Result, Ok, Err, ◌==◌, if◌then◌else◌}
use Rattle.std.specs.Option.{ok_or}
use Rattle.std.specs.Io.BufRead.{strip_last}
use Rattle.dl_bytes.specs.declared.cursor.Cursor.{Cursor}
use Rattle.dl_bytes.specs.declared.cursor.Order.{Order}
use Rattle.dl_bytes.specs.Number.{At, at, number_at}
use Rattle.dl_args.specs.declared.arg.Arg.{Arg}
use Rattle.dl_args.specs.declared.arg.Arg.TheVariants as arg
use Rattle.dl_args.specs.declared.arg.ArgFault.{ArgFault}
use Rattle.dl_args.specs.declared.arg.ArgFault.TheVariants.{Short, Unsupported, Value, OutOfMemory}
use Rattle.dl_args.specs.declared.type_info.Kind.{Kind}
use Rattle.dl_args.specs.declared.type_info.Kind.TheVariants as kind
use Rattle.dl_args.specs.declared.width.Width.{Width}
use Rattle.dl_args.specs.TypeInfo.{kind_of, has_name}
use Rattle.dl_args.specs.Fields.{name_at, names_at, named_bytes_at, unsigned_at, signed_at}

infixl 10 ◌>>=◌
abbrev pub ◌>>=◌ : {A B : Type 0} → Result A ArgFault → (A → Result B ArgFault) → Result B ArgFault
(Ok x) >>= f = f x
(Err fault) >>= f = Err fault

-- the byte of a truth value
abbrev pub truth_of : ℕ → Option Bool
truth_of byte = if byte == 0 then Some false else if byte == 1 then Some true else None

unfoldable pub bool_at : ℕ → Bool → At → Result (Arg × At) ArgFault
bool_at place named c = do
  name ← ok_or (name_at named c) (Short place)
  byte ← ok_or (number_at 1 name.1) (Short place)
  value ← ok_or (truth_of byte.0) (Value place)
  Ok (arg.Bool name.0 value, byte.1)

unfoldable pub sint_at : Width → ℕ → Bool → At → Result (Arg × At) ArgFault
sint_at width place named c = do
  names ← ok_or (names_at named c) (Short place)
  value ← ok_or (signed_at width names.1) (Short place)
  Ok (arg.Sint names.0.0 names.0.1 width value.0, value.1)

unfoldable pub uint_at : Width → ℕ → Bool → At → Result (Arg × At) ArgFault
uint_at width place named c = do
  names ← ok_or (names_at named c) (Short place)
  value ← ok_or (unsigned_at width names.1) (Short place)
  Ok (arg.Uint names.0.0 names.0.1 width value.0, value.1)

unfoldable pub text_arg_at : Bool → ℕ → Bool → At → Result (Arg × At) ArgFault
text_arg_at utf8 place named c = do
  fields ← ok_or (named_bytes_at named c) (Short place)
  Ok (arg.Text fields.0.0 (strip_last 0 fields.0.1) utf8, fields.1)

unfoldable pub raw_at : ℕ → Bool → At → Result (Arg × At) ArgFault
raw_at place named c = do
  fields ← ok_or (named_bytes_at named c) (Short place)
  Ok (arg.Raw fields.0.0 fields.0.1, fields.1)

-- the fields of each kind
unfoldable pub kind_at : Kind → ℕ → Bool → At → Result (Arg × At) ArgFault
kind_at kind.Bool place named c = bool_at place named c
kind_at (kind.Sint width) place named c = sint_at width place named c
kind_at (kind.Uint width) place named c = uint_at width place named c
kind_at (kind.Text utf8) place named c = text_arg_at utf8 place named c
kind_at kind.Raw place named c = raw_at place named c

-- the argument that begins at this place: its type info, and then the fields of its kind
unfoldable pub arg_at : ℕ → At → Result (Arg × At) ArgFault
arg_at place c = do
  info ← ok_or (number_at 4 c) (Short place)
  kind ← ok_or (kind_of info.0) (Unsupported place info.0)
  kind_at kind place (has_name info.0) info.1

-- so many arguments; their places are counted from the front of the whole payload, which has this length
unfoldable pub args_at : ℕ → ℕ → At → Result (List Arg) ArgFault
args_at whole zero c = Ok []
args_at whole (suc count) c = do
  first ← arg_at (whole - length c.rest) c
  others ← args_at whole count first.1
  Ok (first.0 ∷ others)

-- the first arguments of a payload, so many of them
abbrev pub arguments_of : Order → ℕ → List ℕ → Result (List Arg) ArgFault
arguments_of order count payload = args_at (length payload) count (record { rest = payload; order = order })

-- What a read returned, seen by view, with what it left to read, is what reading gives.
abbrev pub Returns : {X Y : Type 0} → (X → Y) → Result X ArgFault → Cursor → Result (Y × At) ArgFault → Type 0
Returns view (Ok x) left read = read ≡ Ok (view x, at left)
Returns view (Err fault) left read = read ≡ Err fault

-- The arguments, or their fault, are what reading gives. Of want of memory this says nothing.
abbrev pub ReturnsAll : Result (List Arg) ArgFault → Result (List Arg) ArgFault → Type 0
ReturnsAll (Ok args) read = read ≡ Ok args
ReturnsAll (Err OutOfMemory) read = Unit {0}
ReturnsAll (Err fault) read = read ≡ Err fault
