use Rattle.std.proofs.Common.{length}
use Rattle.dl_crew.proofs.Played.{asks_one, is_announced, is_made}
use Rattle.dl_crew.proofs.worker.make_call.Goals as goal

pub returns : goal.returns
returns g c =
    let first = c.args.book.now in
    let announced = c.announce_waiting.new.book in
    let logged = c.log.new.self in
    let asked = c.next_injection-injection.new.self in
    let e = c.next_injection-injection.ensures in
    is_made announced logged asked c.args.calls.now.ctx c.args.calls.now.severity c.now-at.result.ticks c.args.calls.now.payload c.in-Ok.field-0 c.in-Ok.ensures.whole c.in-Ok.ensures.kept
    (asks_one c.next_injection-injection.result logged asked e.taken e.none e.rest e.asked) first
    (is_announced first announced c.announce_waiting.ensures.whole (length announced.writer.waiting) c.announce_waiting.ensures.announced)
    c.announce_waiting.ensures.announced
