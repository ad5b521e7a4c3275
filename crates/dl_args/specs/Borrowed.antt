-- Arguments whose bytes still stand in the payload.
use Rattle.std.specs.Prelude.{List, ℕ, Option, option_map}
use Rattle.std.specs.Borrow.{Bor}
use Rattle.dl_args.specs.declared.arg.Arg.{Arg}
use Rattle.dl_args.specs.declared.arg.Arg.TheVariants as arg
use Rattle.dl_args.specs.declared.arg_ref.ArgRef.{ArgRef}
use Rattle.dl_args.specs.declared.arg_ref.ArgRef.TheVariants as borrowed

-- the bytes of a name or a unit, where there is one
abbrev pub name_in : Option (Bor (List ℕ)) → Option (List ℕ)
name_in text = option_map (λ x. x.now) text

-- the argument that is borrowed
abbrev pub arg_in : ArgRef → Arg
arg_in (borrowed.Bool name value) = arg.Bool (name_in name) value
arg_in (borrowed.Sint name unit width value) = arg.Sint (name_in name) (name_in unit) width value
arg_in (borrowed.Uint name unit width value) = arg.Uint (name_in name) (name_in unit) width value
arg_in (borrowed.Text name bytes utf8) = arg.Text (name_in name) bytes.now utf8
arg_in (borrowed.Raw name bytes) = arg.Raw (name_in name) bytes.now
