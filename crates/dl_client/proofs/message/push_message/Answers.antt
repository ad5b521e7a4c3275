use Rattle.std.proofs.Common.{arith, length, subst, ℕ, ◌++◌, ◌+◌, ◌-◌, ◌≡◌}
use Rattle.dl_headers.specs.Header.{extended_header, standard_header}
use Rattle.dl_user.specs.Layout.{marker, uint32}
use Rattle.dl_client.specs.Area.{held}
use Rattle.dl_client.specs.Message.{extended_of, standard_of}
use Rattle.dl_client.proofs.Fields.{one_more}
use Rattle.dl_client.proofs.message.push_message.Goals as goal

pub returns-clause-held : goal.returns-clause-held
returns-clause-held c =
    let len : c.message_len-len.result - 8 ≡ 26 + length c.args.payload.now = omega (arith, c.message_len-len.ensures.value) in
    let before = held c.args.queue.now in
    let front = marker ++ uint32 1 in
    let standard = standard_header (standard_of c.args.sender.now c.args.source.now.mcnt c.args.call.now.ticks (26 + length c.args.payload.now)) in
    let extended = extended_header (extended_of c.args.source.now c.args.call.now) in
    let one = held c.append.new.area in
    let two = held c.push_standard.new.queue in
    let three = held c.push_extended.new.queue in
    let four = held c.append-2.new.area in
    let is = subst
    (λ (n : ℕ). held c.push_standard.new.queue ≡ held c.append.new.area ++ standard_header (standard_of c.args.sender.now c.args.source.now.mcnt c.args.call.now.ticks n))
    len c.push_standard.ensures.held in
    one_more before (front ++ standard ++ extended) c.args.payload.now three four
    (one_more before (front ++ standard) extended two three (one_more before front standard one two c.append.ensures.held is) c.push_extended.ensures.held)
    c.append-2.ensures.held
