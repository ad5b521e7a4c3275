use Rattle.std.proofs.Common.{◌≡◌, ℕ, List, [], ◌++◌, length, take, Bool, sym, ap, subst, ◌∙◌, eqb-true}
use Rattle.std.proofs.lemmas.List.{append-nil, take_rest}
use Rattle.dl_receive.specs.Receiving.{IsAfter, Stands}
use Rattle.dl_receive.proofs.Receivers.{takes, whole_piece, bad_piece}
use Rattle.dl_receive.proofs.receiver.Receiver.take.Goals as goal
use Rattle.dl_lemmas.proofs.Lists.{empty_of}

pub returns-then-not-branch : goal.returns-then-not-branch
returns-then-not-branch c = λ counting stream shown after.
    let i = c.loop-rest.invariant in
    let done = i.1.0 in
    let rest = c.loop-rest.rest.now in
    let new = c.print_whole.new.self in
    let bad = subst (λ (b : Bool). Stands b new) c.if-not-branch.true c.in_ok-print_whole.ensures.stands in
    bad_piece counting stream shown done rest c.args.piece.now new c.feed-taken.result i.1.1
    (takes counting stream shown done rest c.loop-rest.self new c.feed-taken.result c.feed-taken.new.self (i.1.2 counting stream shown after) c.feed-taken.ensures (c.in_ok-print_whole.ensures.after counting)) bad

pub loop-rest-preserved : goal.loop-rest-preserved
loop-rest-preserved c =
    let i = c.loop-rest.invariant in
    let done = i.1.0 in
    let rest = c.loop-rest.rest.now in
    let taken = c.feed-taken.result in
    let new = c.print_whole.new.self in
    let ready = subst (λ (b : Bool). Stands b new) c.if-not-branch.false c.in_ok-print_whole.ensures.stands in (
      ready,
      (
        done ++ take taken rest,
        ap (λ (x : List ℕ). (done ++ take taken rest) ++ x) (take_rest rest taken) ∙ whole_piece done rest c.args.piece.now taken i.1.1,
        λ counting stream shown after.
            takes counting stream shown done rest c.loop-rest.self new taken c.feed-taken.new.self (i.1.2 counting stream shown after) c.feed-taken.ensures (c.in_ok-print_whole.ensures.after counting),
      ),
    )

pub returns : goal.returns
returns c = λ counting stream shown after.
    let i = c.loop-rest.invariant in
    let done = i.1.0 in
    let rest = c.loop-rest.rest.now in
    let empty : rest ≡ [] = empty_of rest (eqb-true (length rest) 0 (sym c.is_empty.ensures ∙ c.loop-rest-test.false)) in
    let all : done ≡ c.args.piece.now = sym (append-nil done) ∙ ap (λ (x : List ℕ). done ++ x) (sym empty) ∙ i.1.1 in
    (subst (λ (d : List ℕ). IsAfter counting (stream ++ d) shown c.loop-rest.self) all (i.1.2 counting stream shown after), i.0)
