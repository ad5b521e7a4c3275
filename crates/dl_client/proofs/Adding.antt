-- Each step adds up, and so do all steps.
use Rattle.std.proofs.Common.{List, Some, [], add-zero, ap, append_assoc, arith, refl, slice_get, subst, sym, take, drop, ℕ, ◌++◌, ◌+◌, ◌∙◌, ◌∷◌, ◌≡◌}
use Rattle.std.proofs.lemmas.List.{append-nil, take-append-drop}
use Rattle.dl_client.specs.Law.{AddsUp, EachCallIsAccountedFor, Fate, Filtered, Queued, Lost, bytes_of, calls_of, count_at, count_of, level_after, level_at, level_by, queued_by, told_of}
use Rattle.dl_client.specs.Program.{Does, Program, Step, Filters, Queues, Loses, Tells, Announces, Opens, Obeys, Takes, Sizes, IsTold, one_filtered, one_lost, one_queued, told, with_context}
use Rattle.dl_client.specs.declared.context.Call.{Call}
use Rattle.dl_client.specs.declared.context.Context.{Context}
use Rattle.dl_client.proofs.Places.{emptied, level_moved, level_same, moved, unmoved}

-- what AddsUp says, of one step
record StepAdds (old : Program) (step : Step) (new : Program) : Type 0 where
  bytes : new.taken ++ new.waiting ≡ (old.taken ++ old.waiting) ++ bytes_of old.sender step
  counts : (fate : Fate) (place : ℕ) → told_of fate place step + count_at fate (slice_get new.contexts place)
      ≡ count_at fate (slice_get old.contexts place) + calls_of fate place step
  levels : (place : ℕ) → level_at (slice_get new.contexts place) ≡ level_by place (level_at (slice_get old.contexts place)) step
  sender : new.sender ≡ old.sender

filtered_counts : (old : Program) (p : ℕ) (c : Context) (severity : ℕ) → slice_get old.contexts p ≡ Some c → (fate : Fate) (place : ℕ)
    → told_of fate place (Filters p c severity) + count_at fate (slice_get (with_context old p (one_filtered c)).contexts place)
    ≡ count_at fate (slice_get old.contexts place) + calls_of fate place (Filters p c severity)
filtered_counts old p c severity at Filtered place = omega (arith, moved Filtered old.contexts p place c (one_filtered c) at refl)
filtered_counts old p c severity at Queued place = omega (arith, unmoved Queued old.contexts p place c (one_filtered c) at refl)
filtered_counts old p c severity at Lost place = omega (arith, unmoved Lost old.contexts p place c (one_filtered c) at refl)

queued_counts : (old : Program) (p : ℕ) (c : Context) (call : Call) (payload : List ℕ) → slice_get old.contexts p ≡ Some c → (fate : Fate) (place : ℕ)
    → told_of fate place (Queues p c call payload) + count_at fate (slice_get (with_context old p (one_queued c)).contexts place)
    ≡ count_at fate (slice_get old.contexts place) + calls_of fate place (Queues p c call payload)
queued_counts old p c call payload at Filtered place = omega (arith, unmoved Filtered old.contexts p place c (one_queued c) at refl)
queued_counts old p c call payload at Queued place = omega (arith, moved Queued old.contexts p place c (one_queued c) at refl)
queued_counts old p c call payload at Lost place = omega (arith, unmoved Lost old.contexts p place c (one_queued c) at refl)

lost_counts : (old : Program) (p : ℕ) (c : Context) (call : Call) (payload : List ℕ) → slice_get old.contexts p ≡ Some c → (fate : Fate) (place : ℕ)
    → told_of fate place (Loses p c call payload) + count_at fate (slice_get (with_context old p (one_lost c)).contexts place)
    ≡ count_at fate (slice_get old.contexts place) + calls_of fate place (Loses p c call payload)
lost_counts old p c call payload at Filtered place = omega (arith, unmoved Filtered old.contexts p place c (one_lost c) at refl)
lost_counts old p c call payload at Queued place = omega (arith, unmoved Queued old.contexts p place c (one_lost c) at refl)
lost_counts old p c call payload at Lost place = omega (arith, moved Lost old.contexts p place c (one_lost c) at refl)

told_counts : (old : Program) (p : ℕ) (c : Context) (number ticks : ℕ) → slice_get old.contexts p ≡ Some c → (fate : Fate) (place : ℕ)
    → told_of fate place (Tells p c number ticks) + count_at fate (slice_get (with_context old p (told c)).contexts place)
    ≡ count_at fate (slice_get old.contexts place) + calls_of fate place (Tells p c number ticks)
told_counts old p c number ticks at Filtered place = emptied Filtered old.contexts p place c (told c) at refl ∙ sym (add-zero (count_at Filtered (slice_get old.contexts place)))
told_counts old p c number ticks at Queued place = emptied Queued old.contexts p place c (told c) at refl ∙ sym (add-zero (count_at Queued (slice_get old.contexts place)))
told_counts old p c number ticks at Lost place = emptied Lost old.contexts p place c (told c) at refl ∙ sym (add-zero (count_at Lost (slice_get old.contexts place)))

none_counted : (c : Context) → IsTold c → (fate : Fate) → count_of fate c ≡ 0
none_counted c none Filtered = none.0
none_counted c none Queued = none.1
none_counted c none Lost = none.2

quiet_counts : (xs ys : List Context) (step : Step) → ((fate : Fate) (place : ℕ) → count_at fate (slice_get ys place) ≡ count_at fate (slice_get xs place))
    → ((fate : Fate) (place : ℕ) → (told_of fate place step ≡ 0) × (calls_of fate place step ≡ 0)) → (fate : Fate) (place : ℕ)
    → told_of fate place step + count_at fate (slice_get ys place) ≡ count_at fate (slice_get xs place) + calls_of fate place step
quiet_counts xs ys step same none fate place = omega (arith, same fate place, none fate place)

level_counts : (c : Context) (level : ℕ) (fate : Fate) → count_of fate (record c { level = level }) ≡ count_of fate c
level_counts c level Filtered = refl
level_counts c level Queued = refl
level_counts c level Lost = refl

no_announce : (fate : Fate) (place : ℕ) (msg : _) → (told_of fate place (Announces msg) ≡ 0) × (calls_of fate place (Announces msg) ≡ 0)
no_announce Filtered place msg = (refl, refl)
no_announce Queued place msg = (refl, refl)
no_announce Lost place msg = (refl, refl)

no_open : (p : ℕ) (c : Context) (own : _) (pid : ℕ) (text : List ℕ) (fate : Fate) (place : ℕ)
    → (told_of fate place (Opens p c own pid text) ≡ 0) × (calls_of fate place (Opens p c own pid text) ≡ 0)
no_open p c own pid text Filtered place = (refl, refl)
no_open p c own pid text Queued place = (refl, refl)
no_open p c own pid text Lost place = (refl, refl)

no_obey : (p : ℕ) (c : Context) (level : ℕ) (fate : Fate) (place : ℕ) → (told_of fate place (Obeys p c level) ≡ 0) × (calls_of fate place (Obeys p c level) ≡ 0)
no_obey p c level Filtered place = (refl, refl)
no_obey p c level Queued place = (refl, refl)
no_obey p c level Lost place = (refl, refl)

no_take : (count : ℕ) (fate : Fate) (place : ℕ) → (told_of fate place (Takes count) ≡ 0) × (calls_of fate place (Takes count) ≡ 0)
no_take count Filtered place = (refl, refl)
no_take count Queued place = (refl, refl)
no_take count Lost place = (refl, refl)

no_size : (size : ℕ) (fate : Fate) (place : ℕ) → (told_of fate place (Sizes size) ≡ 0) × (calls_of fate place (Sizes size) ≡ 0)
no_size size Filtered place = (refl, refl)
no_size size Queued place = (refl, refl)
no_size size Lost place = (refl, refl)

step_adds : (old : Program) (step : Step) (new : Program) → Does old step new → StepAdds old step new
step_adds old (Filters p c severity) new d = subst (λ (x : Program). StepAdds old (Filters p c severity) x) (sym d.2) (record {
  bytes = sym (append-nil (old.taken ++ old.waiting));
  counts = filtered_counts old p c severity d.0;
  levels = λ (place : ℕ). level_same old.contexts p place c (one_filtered c) d.0 refl;
  sender = refl;
})
step_adds old (Queues p c call payload) new d = subst (λ (x : Program). StepAdds old (Queues p c call payload) x) (sym d.3) (record {
  bytes = sym (append_assoc old.taken old.waiting (bytes_of old.sender (Queues p c call payload)));
  counts = queued_counts old p c call payload d.0;
  levels = λ (place : ℕ). level_same old.contexts p place c (one_queued c) d.0 refl;
  sender = refl;
})
step_adds old (Loses p c call payload) new d = subst (λ (x : Program). StepAdds old (Loses p c call payload) x) (sym d.3) (record {
  bytes = sym (append-nil (old.taken ++ old.waiting));
  counts = lost_counts old p c call payload d.0;
  levels = λ (place : ℕ). level_same old.contexts p place c (one_lost c) d.0 refl;
  sender = refl;
})
step_adds old (Tells p c number ticks) new d = subst (λ (x : Program). StepAdds old (Tells p c number ticks) x) (sym d.2) (record {
  bytes = sym (append_assoc old.taken old.waiting (bytes_of old.sender (Tells p c number ticks)));
  counts = told_counts old p c number ticks d.0;
  levels = λ (place : ℕ). level_same old.contexts p place c (told c) d.0 refl;
  sender = refl;
})
step_adds old (Announces msg) new d = subst (λ (x : Program). StepAdds old (Announces msg) x) (sym d) (record {
  bytes = sym (append_assoc old.taken old.waiting (bytes_of old.sender (Announces msg)));
  counts = quiet_counts old.contexts old.contexts (Announces msg) (λ (fate : Fate) (place : ℕ). refl) (λ (fate : Fate) (place : ℕ). no_announce fate place msg);
  levels = λ (place : ℕ). refl;
  sender = refl;
})
step_adds old (Opens p c own pid text) new d = subst (λ (x : Program). StepAdds old (Opens p c own pid text) x) (sym d.4) (record {
  bytes = sym (append_assoc old.taken old.waiting (bytes_of old.sender (Opens p c own pid text)));
  counts = quiet_counts old.contexts (with_context old p c).contexts (Opens p c own pid text)
      (λ (fate : Fate) (place : ℕ). unmoved fate old.contexts p place d.0 c d.1 (none_counted c d.3 fate ∙ sym (none_counted d.0 d.2 fate)))
      (no_open p c own pid text);
  levels = λ (place : ℕ). level_moved old.contexts p place d.0 c d.1;
  sender = refl;
})
step_adds old (Obeys p c level) new d = subst (λ (x : Program). StepAdds old (Obeys p c level) x) (sym d.2) (record {
  bytes = sym (append-nil (old.taken ++ old.waiting));
  counts = quiet_counts old.contexts (with_context old p (record c { level = level })).contexts (Obeys p c level)
      (λ (fate : Fate) (place : ℕ). unmoved fate old.contexts p place c (record c { level = level }) d.0 (level_counts c level fate))
      (no_obey p c level);
  levels = λ (place : ℕ). level_moved old.contexts p place c (record c { level = level }) d.0;
  sender = refl;
})
step_adds old (Takes count) new d = subst (λ (x : Program). StepAdds old (Takes count) x) (sym d) (record {
  bytes = append_assoc old.taken (take count old.waiting) (drop count old.waiting)
      ∙ ap (λ (bs : List ℕ). old.taken ++ bs) (take-append-drop count old.waiting) ∙ sym (append-nil (old.taken ++ old.waiting));
  counts = quiet_counts old.contexts old.contexts (Takes count) (λ (fate : Fate) (place : ℕ). refl) (no_take count);
  levels = λ (place : ℕ). refl;
  sender = refl;
})
step_adds old (Sizes size) new d = subst (λ (x : Program). StepAdds old (Sizes size) x) (sym d.1) (record {
  bytes = sym (append-nil (old.taken ++ old.waiting));
  counts = quiet_counts old.contexts old.contexts (Sizes size) (λ (fate : Fate) (place : ℕ). refl) (no_size size);
  levels = λ (place : ℕ). refl;
  sender = refl;
})

both : (a b c : Program) (step : Step) (steps : List Step) → StepAdds a step b → AddsUp b steps c → AddsUp a (step ∷ steps) c
both a b c step steps one more = record {
  bytes = more.bytes ∙ ap (λ (bs : List ℕ). bs ++ queued_by b.sender steps) one.bytes
      ∙ append_assoc (a.taken ++ a.waiting) (bytes_of a.sender step) (queued_by b.sender steps)
      ∙ ap (λ (s : _). (a.taken ++ a.waiting) ++ (bytes_of a.sender step ++ queued_by s steps)) one.sender;
  counts = λ (fate : Fate) (place : ℕ). omega (arith, one.counts fate place, more.counts fate place);
  levels = λ (place : ℕ). more.levels place ∙ ap (λ (l : ℕ). level_after place l steps) (one.levels place);
  sender = more.sender ∙ one.sender;
}

pub all_add_up : EachCallIsAccountedFor
all_add_up [] old new runs = subst (λ (x : Program). AddsUp old [] x) runs (record {
  bytes = sym (append-nil (old.taken ++ old.waiting));
  counts = λ (fate : Fate) (place : ℕ). omega arith;
  levels = λ (place : ℕ). refl;
  sender = refl;
})
all_add_up (step ∷ steps) old new runs = both old runs.0 new step steps (step_adds old step runs.0 runs.1) (all_add_up steps runs.0 new runs.2)
