use Rattle.std.proofs.Common.{ℕ, ◌++◌, take, arith, length-append}
use Rattle.std.proofs.lemmas.List.{length-take}
use Rattle.dl_startup.proofs.Sources.{read_more, gave}
use Rattle.dl_startup.proofs.input.read_text.Goals as goal

pub returns-then-len-n-gt-SIZE_LIMIT-clause-at_most :
    goal.returns-then-len-n-gt-SIZE_LIMIT-clause-at_most
returns-then-len-n-gt-SIZE_LIMIT-clause-at_most g c =
    let read = read_more (g.I.Source.told c.args.input.now).left (g.I.Source.told c.loop-n.input).left (g.I.Source.told c.read.new.self).left c.loop-n.text.items c.read.new.into c.in-Bytes.n c.loop-n.invariant.read c.in-Bytes.ensures.bytes in
    gave (g.I.Source.told c.args.input.now).left (g.I.Source.told c.read.new.self).left (c.loop-n.text.items ++ take c.in-Bytes.n c.read.new.into) read
    (omega (arith, c.in-Bytes.ensures.bytes.1, c.read.auto.into, c.min-want.ensures, length-append c.loop-n.text.items (take c.in-Bytes.n c.read.new.into), length-take c.in-Bytes.n c.read.new.into, length-take {A = ℕ}))

pub returns-then-is_err-clause-at_most : goal.returns-then-is_err-clause-at_most
returns-then-is_err-clause-at_most g c =
    let read = read_more (g.I.Source.told c.args.input.now).left (g.I.Source.told c.loop-n.input).left (g.I.Source.told c.read.new.self).left c.loop-n.text.items c.read.new.into c.in-Bytes.n c.loop-n.invariant.read c.in-Bytes.ensures.bytes in
    gave (g.I.Source.told c.args.input.now).left (g.I.Source.told c.read.new.self).left (c.loop-n.text.items ++ take c.in-Bytes.n c.read.new.into) read
    (omega (arith, c.in-Bytes.ensures.bytes.1, length-append c.loop-n.text.items (take c.in-Bytes.n c.read.new.into), length-take c.in-Bytes.n c.read.new.into))
