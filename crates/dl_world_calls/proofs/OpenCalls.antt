-- A writer's records, the last of which may be that of its open call.
use Rattle.std.proofs.Common.{◌≡◌, ℕ, ◌+◌, ◌-◌, ◌%◌, ◌≤◌, true, false, get_or, set, take, List, [], ◌∷◌, ◌++◌, length, length-append, Some, None, refl, sym, ap, ◌∙◌, arith}
use Rattle.std.specs.Prelude.{slice_get, option_map, IsSomeAnd}
use Rattle.std.proofs.Math.Seq.{take-append_seam, take-length, set-append_seam, get_or-append_seam}
use Rattle.std.proofs.lemmas.List.{length-set, take_more_set}
use Rattle.std.proofs.lemmas.Option.{slice_get_read, slice_get-get_or}
use Rattle.dl_bytes.specs.Claim.{Claimed}
use Rattle.dl_bytes.specs.Level.{passes}
use Rattle.dl_bytes.specs.Payload.{Arguments}
use Rattle.dl_events.specs.declared.record.Record.{Record}
use Rattle.dl_events.specs.declared.record.Answer.{Answer}
use Rattle.dl_events.specs.declared.record.Answer.TheVariants as answers
use Rattle.dl_script_model.specs.Marks.{recorded}
use Rattle.dl_world_calls.specs.declared.writer.Stage.{Stage}
use Rattle.dl_world_calls.specs.declared.writer.Stage.TheVariants.{Idle, ToPush, ToCount}
use Rattle.dl_world_calls.specs.State.{Writer, begun}
use Rattle.dl_world_calls.specs.Stages.{call_of, last_call, open_in, answered_in, push_of, count_of, filled}
use Rattle.dl_lemmas.proofs.Lists.{get_end}

-- ---- the last one

last_is : (xs : List Record) (x : Record) → length (xs ++ x ∷ []) - 1 ≡ length xs
last_is xs x = omega (arith, length-append xs (x ∷ []))

last_set : (xs : List Record) (y : Record) → 1 ≤ length xs → set xs (length xs - 1) y ≡ take (length xs - 1) xs ++ y ∷ []
last_set xs y some =
    let whole : length (set xs (length xs - 1) y) ≡ length xs - 1 + 1 = length-set xs (length xs - 1) y ∙ omega (arith, some) in
    sym (take-length (set xs (length xs - 1) y)) ∙ ap (λ n. take n (set xs (length xs - 1) y)) whole ∙ take_more_set xs (length xs - 1) y (omega (arith, some))

pub answered_last : (xs : List Record) (n : ℕ) (was : Record) (answer : Answer) → 1 ≤ length xs → n ≡ length xs → was ≡ get_or xs (n - 1) was
    → IsSomeAnd (slice_get xs (length xs - 1)) (λ last. set xs (n - 1) (record was { answer = answer }) ≡ take (length xs - 1) xs ++ recorded (call_of last) answer ∷ [])
answered_last xs n was answer some n_is was_is =
    let is : slice_get xs (length xs - 1) ≡ Some was = slice_get_read xs (length xs) (length xs - 1) was refl (omega (arith, some)) (rw n_is at was_is) in
    rw (n_is, is) (last_set xs (record was { answer = answer }) some)

-- ---- a call that begins where none is open

abbrev seen : ℕ → List ℕ → ℕ → Stage → List Record → List Claimed → ℕ → Writer
seen app apid passed stage records claims announced =
    record { app = app; apid = apid; passed = passed; to_push = push_of stage records; to_count = count_of stage records; records = answered_in stage records; claims = claims; announced = announced }

has_last : (xs : List Record) → 1 ≤ length xs → (r : Record) × (last_call xs ≡ Some (call_of r))
has_last [] some = absurd (omega (arith, some))
has_last (x ∷ xs) some =
    (get_or (x ∷ xs) (length (x ∷ xs) - 1) x, ap (option_map call_of) (slice_get-get_or (x ∷ xs) (length (x ∷ xs) - 1) x (omega arith)))

is_idle : (stage : Stage) (xs : List Record) → open_in stage ≤ length xs → push_of stage xs ≡ None → count_of stage xs ≡ None → stage ≡ Idle
is_idle Idle xs some no_push no_count = refl
is_idle ToPush xs some no_push no_count = let last = has_last xs some in absurd (cc (last.1, no_push))
is_idle ToCount xs some no_push no_count = let last = has_last xs some in absurd (cc (last.1, no_count))

module _ (app : ℕ) (apid : List ℕ) (passed : ℕ) (stage : Stage) (old : List Record) (claims : List Claimed) (announced : ℕ) (now : Writer) (view_is : seen app apid passed stage old claims announced ≡ now) (some : open_in stage ≤ length old)
    (call : Record) (new : List Record) (new_is : new ≡ old ++ call ∷ []) where
  idle_now : now.to_push ≡ None → now.to_count ≡ None → stage ≡ Idle
  idle_now no_push no_count = is_idle stage old some (ap (λ (w : Writer). w.to_push) view_is ∙ no_push) (ap (λ (w : Writer). w.to_count) view_is ∙ no_count)

  pub begins_passing : passes call.item.severity call.held ≡ true → now.to_push ≡ None → now.to_count ≡ None → seen app apid ((passed + 1) % 256) ToPush new claims announced ≡ begun now (call_of call)
  begins_passing lets no_push no_count =
      let idle = idle_now no_push no_count in
      let last : slice_get (old ++ call ∷ []) (length (old ++ call ∷ []) - 1) ≡ Some call = rw (last_is old call) (get_end old call) in
      let before : take (length (old ++ call ∷ []) - 1) (old ++ call ∷ []) ≡ old = rw (last_is old call) (take-append_seam old (call ∷ [])) in
      rw (sym view_is, idle, lets, new_is, last, before) refl

  pub begins_filtered : call.answer ≡ answers.Filtered → passes call.item.severity call.held ≡ false → now.to_push ≡ None → now.to_count ≡ None → seen app apid passed stage new claims announced ≡ begun now (call_of call)
  begins_filtered answer stops no_push no_count =
      let idle = idle_now no_push no_count in
      rw (sym view_is, idle, stops, new_is, sym answer) refl

-- ---- a record that came without its arguments

pub filled_last : (old : List Record) (place : ℕ) (r : Record) (arguments : Arguments) (pushed : List Record) (found : Record) → place ≡ length old → pushed ≡ old ++ r ∷ [] → found ≡ get_or pushed place found
    → set pushed place (filled found arguments) ≡ old ++ filled r arguments ∷ []
filled_last old place r arguments pushed found place_is pushed_is found_is =
    let same : found ≡ r = rw (place_is, pushed_is) at found_is ∙ get_or-append_seam old r [] found in
    rw (place_is, pushed_is, same) (set-append_seam old r [] (filled r arguments))
