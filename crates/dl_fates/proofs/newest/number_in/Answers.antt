use Rattle.dl_fates.proofs.NamedNumbers.{number_is, tail_is}
use Rattle.std.proofs.Common.{◌-◌, length, take, drop}
use Rattle.dl_fates.proofs.newest.number_in.Goals as goal

pub returns : goal.returns
returns c = λ directory number small is.
    let name = c.args.name.now in
    let start = c.in-Some.start in
    number_is (take (length name - start) (drop start name)) number c.digit_value.result c.digit_value-2.result c.digit_value-3.result c.digit_value-4.result c.digit_value-5.result c.digit_value-6.result small
    (tail_is directory number start name is c.in-Some.ensures.1)
    c.digit_value.ensures.value c.digit_value-2.ensures.value c.digit_value-3.ensures.value c.digit_value-4.ensures.value c.digit_value-5.ensures.value c.digit_value-6.ensures.value
