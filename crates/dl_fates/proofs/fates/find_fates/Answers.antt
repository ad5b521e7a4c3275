use Rattle.std.proofs.Common.{rules, ◌≡◌, ◌∙◌, ◌+◌, ◌<◌, ◌++◌, ◌∷◌, [], ℕ, List, Option, None, length, take, drop, length-take, sym, ap, subst, arith}
use Rattle.std.specs.Prelude.{◌^◌, ◌-◌}
use Rattle.std.proofs.lemmas.List.{length-drop, take_all}
use Rattle.std.specs.HashMap as hash
use Rattle.dl_events.specs.declared.event.Event.{Event}
use Rattle.dl_model.specs.WholeAccounts.{source_of_records}
use Rattle.dl_laws.specs.Fates as law
use Rattle.dl_laws.specs.Fates.{next_client, of_queued}
use Rattle.dl_report.specs.Losses.{told, told_in}
use Rattle.dl_report.proofs.Steps.{in_turn, may_note, told_so_far}
use Rattle.dl_fates.specs.Followed.{IsFollowing}
use Rattle.dl_fates.specs.Found.{TellsAll, or_later, same_call}
use Rattle.dl_fates.specs.declared.fate.CallName.{CallName}
use Rattle.dl_fates.specs.declared.fate.Fate.{Fate}
use Rattle.dl_fates.proofs.StoredFinding.{one_further}
use Rattle.dl_fates.proofs.fates.find_fates.Goals as goal

pub loop-place-init : goal.loop-place-init
loop-place-init c = record {
  follows = c.new-follower.ensures.following c.args.sources.now;
  client = c.new-follower.ensures.client;
  limit = c.new-follower.ensures.limit;
  next = c.next_client-next.ensures;
  tells = λ setting same name.
      let source = source_of_records setting c.args.sources.now.records.now c.args.sources.now.specs.now in
      let none : hash.get same_call c.new-calls.result name ≡ None = search rules in
      sym (ap (λ (o : Option Fate). or_later o (of_queued source c.args.buffer c.args.client name.writer name.call [] c.args.events.now)) none);
}

pub note-requires-clause-may : goal.note-requires-clause-may
note-requires-clause-may c =
    let i = c.loop-place.place in
    let events = c.args.events.now in
    let e = c.index-events-place.result in
    let one = one_further events i e c.loop-place-test.true c.index-events-place.is in
    let short : length (take i events) + 1 < 2 ^ 63 = omega (arith, length-take i events, c.loop-place-test.true) in
    let few : told (take i events) + told_in e < 2 ^ 63 = omega (arith, c.requires.losses, told_so_far events i e c.loop-place-test.true one.0) in
    may_note c.args.sources.now (take i events) e c.loop-place.follower.waiting short few (in_turn events i e c.requires.clients c.loop-place-test.true one.0) c.loop-place.invariant.follows.waits

pub loop-place-preserved : goal.loop-place-preserved
loop-place-preserved c =
    let i = c.loop-place.place in
    let events = c.args.events.now in
    let e = c.index-events-place.result in
    let was = c.loop-place.invariant in
    let old = c.loop-place.follower in
    let one = one_further events i e c.loop-place-test.true c.index-events-place.is in
    let tail : take (length events - (i + 1)) (drop (i + 1) events) ≡ drop (i + 1) events = take_all (length events - (i + 1)) (drop (i + 1) events) (omega (arith, length-drop (i + 1) events)) in
    let next : c.next_behind-next.result ≡ next_client (drop (i + 1) events) = c.next_behind-next.ensures ∙ ap next_client tail in
    let turn = in_turn events i e c.requires.clients c.loop-place-test.true one.0 in
    record {
      follows = subst (λ (es : List Event). IsFollowing c.args.sources.now es c.note.new.self) (sym one.0) (c.in_ok-note.ensures.after (take i events) turn was.follows);
      client = c.in_ok-note.ensures.client ∙ was.client;
      limit = c.in_ok-note.ensures.limit ∙ was.limit;
      next = next;
      tells = λ setting same.
          let source = source_of_records setting c.args.sources.now.records.now c.args.sources.now.specs.now in
          let target : CallName → law.Fate = λ name. of_queued source c.args.buffer c.args.client name.writer name.call [] events in
          let before : TellsAll source c.args.buffer c.args.client target c.loop-place.calls (take i events) (e ∷ drop (i + 1) events) =
          subst (λ (es : List Event). TellsAll source c.args.buffer c.args.client target c.loop-place.calls (take i events) es) one.1 (was.tells setting same) in
          let asked : TellsAll source old.waiting.limit old.client target c.loop-place.calls (take i events) (e ∷ drop (i + 1) events) =
          subst (λ (n : ℕ). TellsAll source n old.client target c.loop-place.calls (take i events) (e ∷ drop (i + 1) events)) (sym was.limit)
          (subst (λ (n : ℕ). TellsAll source c.args.buffer n target c.loop-place.calls (take i events) (e ∷ drop (i + 1) events)) (sym was.client) before) in
          let given : TellsAll source old.waiting.limit old.client target c.note_call.new.calls (take i events ++ e ∷ []) (drop (i + 1) events) =
          c.in_ok-note_call.ensures setting target (take i events) (drop (i + 1) events) same was.follows next asked in
          subst (λ (es : List Event). TellsAll source c.args.buffer c.args.client target c.note_call.new.calls es (drop (i + 1) events)) (sym one.0)
          (subst (λ (n : ℕ). TellsAll source n c.args.client target c.note_call.new.calls (take i events ++ e ∷ []) (drop (i + 1) events)) was.limit
          (subst (λ (n : ℕ). TellsAll source old.waiting.limit n target c.note_call.new.calls (take i events ++ e ∷ []) (drop (i + 1) events)) was.client given));
    }
