use Rattle.std.proofs.Common.{◌≡◌, ◌+◌, ◌-◌, length, ap, subst, ◌∙◌, refl, arith}
use Rattle.std.proofs.lemmas.List.{length-append}
use Rattle.dl_bytes.specs.Bytes.{IsBytes}
use Rattle.dl_bytes.specs.Number.{at}
use Rattle.dl_args.specs.Borrowed.{arg_in}
use Rattle.dl_args.proofs.Parts.{bytes_after}
use Rattle.dl_args.proofs.ArgForms.{arg_takes}
use Rattle.dl_args.proofs.read.ArgReader.next_arg.Goals as goal

pub invariant_of-self : goal.invariant_of-self
invariant_of-self c =
    let old = c.self.inside.cursor in
    let new = c.read_arg.new.cursor in
    let t = arg_takes old.order (c.self.inside.whole - length old.rest.now) (at old) (arg_in c.in-Ok.arg, at new) refl c.self.invariant.bytes c.in-Ok.ensures in
    let shorter : length old.rest.now ≡ length t.front + length new.rest.now = ap length t.parts ∙ length-append t.front new.rest.now in
    record { within = omega (arith, shorter, c.self.invariant.within); bytes = bytes_after t.front new.rest.now (subst IsBytes t.parts c.self.invariant.bytes) }
