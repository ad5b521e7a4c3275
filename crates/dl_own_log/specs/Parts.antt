-- The arguments of a message of the daemon: texts in ASCII, and unsigned numbers of 64 bits.
use Rattle.std.specs.Prelude.{ℕ, false, List, map}
use Rattle.std.specs.List.{concat}
use Rattle.byteorder.specs.Endian.{little_bytes}
use Rattle.dl_client.specs.Values.{text_argument, number_argument}
use Rattle.dl_client.specs.declared.values.Kind.TheVariants.{Unsigned}
use Rattle.dl_client.specs.declared.values.Format.TheVariants.{Plain}
use Rattle.dl_own_log.specs.declared.part.Part.{Part}
use Rattle.dl_own_log.specs.declared.part.Part.TheVariants.{Word, Name, Number}

abbrev pub text : List ℕ → List ℕ
text letters = text_argument false letters

abbrev pub number : ℕ → List ℕ
number n = number_argument (record { kind = Unsigned; format = Plain }) (little_bytes 8 n)

abbrev pub part_argument : Part → List ℕ
part_argument (Word word) = text word.now
part_argument (Name id) = text id
part_argument (Number n) = number n

-- one argument behind the other
abbrev pub parts_payload : List Part → List ℕ
parts_payload parts = concat (map part_argument parts)
