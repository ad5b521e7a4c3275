use Rattle.std.proofs.Common.{rules}
use Rattle.dl_outside.specs.declared.link.Gave.TheVariants as gave
use Rattle.dl_turns.proofs.hearing.listen.Goals as goal

pub returns-in-Ok-clause-listens : goal.returns-in-Ok-clause-listens
returns-in-Ok-clause-listens g c = record {
  answer = gave.Bytes c.in-Bytes.count;
  into = c.recv.new.into;
  size = search rules;
  hears = record {
    bytes = c.in-Bytes.ensures.bytes;
    given = c.in-Bytes.ensures.given;
    end = c.in-Bytes.ensures.end;
    cause = c.in-Bytes.ensures.cause;
    over = c.in-Bytes.ensures.over;
    untaken = c.in-Bytes.ensures.untaken;
    waits = c.in-Bytes.ensures.waits;
    shut = c.in-Bytes.ensures.shut;
  };
  heeds = c.in-Ok.ensures.serves;
  cut = λ stream none was. c.in-Ok.ensures.cut stream was;
}
