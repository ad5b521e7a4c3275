use Rattle.std.proofs.Common.{◌≡◌, ◌≤◌, ℕ, ◌+◌, None, List, [], ◌∷◌, ◌++◌, length, take, drop, ap, sym, subst, ◌∙◌, arith}
use Rattle.std.proofs.lemmas.List.{length-take}
use Rattle.dl_bytes.specs.Htyp.{len_of}
use Rattle.dl_headers.specs.Reading.{front_fault}
use Rattle.dl_sessions.specs.Gaps.{counted}
use Rattle.dl_sessions.specs.Stream.{told_at}
use Rattle.dl_sessions.proofs.Readings.{message_there, place_is}
use Rattle.dl_find.specs.Finds.{Met, met}
use Rattle.dl_find.specs.Meets.{IsSearch}
use Rattle.dl_find.specs.Rests.{rest_of}
use Rattle.dl_find.proofs.search.Search.take.Goals as goal

pub slice_bounds-message-end : goal.slice_bounds-message-end
slice_bounds-message-end c =
    let place = c.args.place.now in
    let there = c.behind.ensures ∙ ap (drop place.before) c.rest-rest.ensures in
    let within = subst (λ (m : List ℕ). place.len ≤ length m) (sym there) (place_is (rest_of c.args.reader.now) place c.requires).within in
    omega (arith, within, length-take place.len c.behind.result.now)

pub add-requires-clause-front : goal.add-requires-clause-front
add-requires-clause-front c =
    let place = c.args.place.now in
    let there = c.behind.ensures ∙ ap (drop place.before) c.rest-rest.ensures in
    subst (λ (m : List ℕ). front_fault (take place.len m) ≡ None) (sym there) (message_there (rest_of c.args.reader.now) place c.requires).front

pub add-requires-clause-len : goal.add-requires-clause-len
add-requires-clause-len c =
    let place = c.args.place.now in
    let there = c.behind.ensures ∙ ap (drop place.before) c.rest-rest.ensures in
    subst (λ (m : List ℕ). length (take place.len m) ≡ len_of (take place.len m)) (sym there) (message_there (rest_of c.args.reader.now) place c.requires).len

pub returns-clause-adds : goal.returns-clause-adds
returns-clause-adds c = λ q mets is.
    let place = c.args.place.now in
    let there = c.behind.ensures ∙ ap (drop place.before) c.rest-rest.ensures in
    let offset = c.saturating_add-offset.ensures ∙ ap (λ (n : ℕ). counted (n + place.before)) c.offset.ensures in
    let told = c.told_first-told.ensures ∙ ap (told_at place) c.rest-rest.ensures in
    subst (λ (m : Met). IsSearch q (mets ++ m ∷ []) c.add.new.self) (λ i. met (record { file = c.args.file; offset = offset i }) (told i) (take place.len (there i))) (c.in_ok-add.ensures q mets is)
