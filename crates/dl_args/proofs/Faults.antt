-- Reading itself takes no memory, and so never wants any.
use Rattle.std.proofs.Common.{ℕ, zero, suc, ◌-◌, Bool, length, Option, Some, None, Result, Ok, Err}
use Rattle.std.specs.Option.{ok_or}
use Rattle.dl_bytes.specs.Number.{At, number_at}
use Rattle.dl_args.specs.declared.arg.ArgFault.{ArgFault}
use Rattle.dl_args.specs.declared.arg.ArgFault.TheVariants.{Short, Unsupported, Value, OutOfMemory}
use Rattle.dl_args.specs.declared.type_info.Kind.{Kind}
use Rattle.dl_args.specs.declared.type_info.Kind.TheVariants as kind
use Rattle.dl_args.specs.declared.width.Width.{Width}
use Rattle.dl_args.specs.TypeInfo.{kind_of, has_name}
use Rattle.dl_args.specs.Fields.{name_at, names_at, named_bytes_at, unsigned_at, signed_at}
use Rattle.dl_args.specs.Reading.{◌>>=◌, truth_of, bool_at, sint_at, uint_at, text_arg_at, raw_at, kind_at, arg_at, args_at}

-- a value, or a fault that is no want of memory
abbrev pub WantsNone : {A : Type 0} → Result A ArgFault → Type 0
WantsNone (Ok x) = Unit {0}
WantsNone (Err OutOfMemory) = ⊥
WantsNone (Err fault) = Unit {0}

-- ---- one step, and what follows it

step : {A B : Type 0} (r : Result A ArgFault) (f : A → Result B ArgFault) → WantsNone r → ((x : A) → WantsNone (f x)) → WantsNone (r >>= f)
step (Ok x) f none others = others x
step (Err (Short place)) f none others = tt
step (Err (Unsupported place info)) f none others = tt
step (Err (Value place)) f none others = tt
step (Err OutOfMemory) f none others = none

part : {A B : Type 0} (o : Option A) (fault : ArgFault) (f : A → Result B ArgFault) → WantsNone {A = B} (Err fault) → ((x : A) → WantsNone (f x)) → WantsNone (ok_or o fault >>= f)
part (Some x) fault f none others = others x
part None fault f none others = none

-- ---- each kind, behind its type info

bool_wants : (place : ℕ) (named : Bool) (c : At) → WantsNone (bool_at place named c)
unfolding bool_at
bool_wants place named c =
    part (name_at named c) (Short place) _ tt (λ name.
    part (number_at 1 name.1) (Short place) _ tt (λ byte.
    part (truth_of byte.0) (Value place) _ tt (λ value. tt)))

sint_wants : (width : Width) (place : ℕ) (named : Bool) (c : At) → WantsNone (sint_at width place named c)
unfolding sint_at
sint_wants width place named c =
    part (names_at named c) (Short place) _ tt (λ names.
    part (signed_at width names.1) (Short place) _ tt (λ value. tt))

uint_wants : (width : Width) (place : ℕ) (named : Bool) (c : At) → WantsNone (uint_at width place named c)
unfolding uint_at
uint_wants width place named c =
    part (names_at named c) (Short place) _ tt (λ names.
    part (unsigned_at width names.1) (Short place) _ tt (λ value. tt))

text_wants : (utf8 : Bool) (place : ℕ) (named : Bool) (c : At) → WantsNone (text_arg_at utf8 place named c)
unfolding text_arg_at
text_wants utf8 place named c = part (named_bytes_at named c) (Short place) _ tt (λ fields. tt)

raw_wants : (place : ℕ) (named : Bool) (c : At) → WantsNone (raw_at place named c)
unfolding raw_at
raw_wants place named c = part (named_bytes_at named c) (Short place) _ tt (λ fields. tt)

kind_wants : (k : Kind) (place : ℕ) (named : Bool) (c : At) → WantsNone (kind_at k place named c)
unfolding kind_at
kind_wants kind.Bool place named c = bool_wants place named c
kind_wants (kind.Sint width) place named c = sint_wants width place named c
kind_wants (kind.Uint width) place named c = uint_wants width place named c
kind_wants (kind.Text utf8) place named c = text_wants utf8 place named c
kind_wants kind.Raw place named c = raw_wants place named c

-- ---- arguments

arg_wants : (place : ℕ) (c : At) → WantsNone (arg_at place c)
unfolding arg_at
arg_wants place c =
    part (number_at 4 c) (Short place) _ tt (λ info.
    part (kind_of info.0) (Unsupported place info.0) _ tt (λ k.
    kind_wants k place (has_name info.0) info.1))

pub args_want : (whole count : ℕ) (c : At) → WantsNone (args_at whole count c)
unfolding args_at
args_want whole zero c = tt
args_want whole (suc count) c =
    step (arg_at (whole - length c.rest) c) _ (arg_wants (whole - length c.rest) c) (λ first.
    step (args_at whole count first.1) _ (args_want whole count first.1) (λ others. tt))
