use Rattle.std.proofs.Common.{List, ℕ, Bool, ◌++◌, refl, sym, subst}
use Rattle.dl_receive.proofs.Receivers.{took_text}
use Rattle.dl_receive.proofs.StreamCuts.{received-more}
use Rattle.dl_receive.specs.Receiving.{Took}
use Rattle.dl_outside.specs.Written.{WroteAll, WroteFront}
use Rattle.dl_receive.specs.Text.{received}
use Rattle.dl_receive.proofs.listen.hear.Goals as goal

pub returns-in_default : goal.returns-in_default
returns-in_default g c = λ counting stream at.
    let more = received-more counting stream c.args.piece.now in
    (more.0, more.1, refl)

pub returns-in_default-write_text : goal.returns-in_default-write_text
returns-in_default-write_text g c = λ counting stream at.
    let all = stream ++ c.args.piece.now in
    let receiver = c.take.new.self in
    let taken = c.in-Ok.ensures counting stream (received counting stream) at.after in
    let front = subst (λ (t : List ℕ). WroteFront (g.O.Sink.told c.args.out.now) (g.O.Sink.told c.write_text.new.out) t) c.text.ensures c.in_default-write_text.ensures.front in
    (receiver.printer.text.items, sym (took_text c.in-Ok.more counting all (received counting stream) receiver taken), front)

pub returns-then-more : goal.returns-then-more
returns-then-more g c = λ counting stream at.
    let all = stream ++ c.args.piece.now in
    let receiver = c.take.new.self in
    let taken = c.in-Ok.ensures counting stream (received counting stream) at.after in
    let good = subst (λ (b : Bool). Took b counting all (received counting stream) receiver) c.if-more.true taken in
    let wrote = subst (λ (t : List ℕ). WroteAll (g.O.Sink.told c.args.out.now) (g.O.Sink.told c.write_text.new.out) t) c.text.ensures c.in-Ok-write_text.ensures.ok in (
      receiver.printer.text.items,
      sym (took_text c.in-Ok.more counting all (received counting stream) receiver taken),
      (c.clear.ensures counting all (received counting stream) good.0 good.1, wrote),
    )

pub returns-else-more : goal.returns-else-more
returns-else-more g c = λ counting stream at.
    let all = stream ++ c.args.piece.now in
    let receiver = c.take.new.self in
    let taken = c.in-Ok.ensures counting stream (received counting stream) at.after in
    let bad = subst (λ (b : Bool). Took b counting all (received counting stream) receiver) c.if-more.false taken in
    let wrote = subst (λ (t : List ℕ). WroteAll (g.O.Sink.told c.args.out.now) (g.O.Sink.told c.write_text.new.out) t) c.text.ensures c.in-Ok-write_text.ensures.ok in
    (receiver.printer.text.items, sym (took_text c.in-Ok.more counting all (received counting stream) receiver taken), (bad.0, wrote))
