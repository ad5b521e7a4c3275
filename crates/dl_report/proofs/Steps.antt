-- What the code has after one event more.
use Rattle.std.proofs.Common.{◌≡◌, ℕ, ◌+◌, ◌-◌, ◌<◌, ◌≤◌, Bool, true, false, cond, eqb, List, [], ◌∷◌, ◌++◌, length, take, drop, refl, sym, ap, subst, ◌∙◌, append_assoc, length-append, arith}
use Rattle.std.specs.Prelude.{◌^◌}
use Rattle.std.proofs.lemmas.List.{take-append-drop}
use Rattle.std.proofs.lemmas.List.Sums.{sum_by-append, sum_by-cons}
use Rattle.dl_events.specs.declared.event.Event.{Event}
use Rattle.dl_events.specs.declared.event.Event.TheVariants as event
use Rattle.dl_events.specs.declared.event.Why.{Why}
use Rattle.dl_bytes.specs.declared.outcome.Backlog.{Backlog}
use Rattle.dl_model.specs.Backlog.{waiting}
use Rattle.dl_model.specs.ClientStream.{traffic}
use Rattle.dl_model.specs.Frames.{FrameSource, frames_of}
use Rattle.dl_model.specs.Journal.{IsOpen, comes_or_goes, is_close, is_connect}
use Rattle.dl_model.specs.Setting.{Setting}
use Rattle.dl_model.specs.Traffic.{is_any_open}
use Rattle.dl_model.specs.WholeAccounts.{source_of_records}
use Rattle.dl_report.specs.Batches.{IsBatch}
use Rattle.dl_report.specs.Clients.{ComeAndGo, MayComeOrGo}
use Rattle.dl_report.specs.Following.{AreOpen, IsAfter, MayNote}
use Rattle.dl_report.specs.Keeping.{counted, kept}
use Rattle.dl_report.specs.Losses.{told, told_in}
use Rattle.dl_report.specs.declared.batch.Batch.{Batch}
use Rattle.dl_report.specs.declared.batch.Sources.{Sources}
use Rattle.dl_report.specs.declared.waiting.Waiting.{Waiting}
use Rattle.dl_report.proofs.EventTraffic.{none_waits, waits_come, waits_go, waits_on}
use Rattle.dl_report.proofs.OpenClients.{comes, counts_open, goes, may_go, stay}

abbrev pub nothing : Backlog
nothing = record { frames = 0; bytes = 0; refused = 0 }

pub after_coming : (sources : Sources) (events : List Event) (client : ℕ) (old : Waiting) → (IsOpen client events → ⊥) → IsAfter sources events old →
    IsAfter sources (events ++ event.Connect client ∷ []) (record old { clients = old.clients + 1; backlog = nothing })
after_coming sources events client old shut was = record {
  open_now = comes old.clients client events was.open_now shut;
  few = omega (arith, was.few, length-append events (event.Connect client ∷ []));
  within = omega arith;
  short = omega arith;
  waits = λ setting same. ap (kept old.limit) (sym (waits_come (source_of_records setting sources.records.now sources.specs.now) events client));
}

pub after_going : (sources : Sources) (events : List Event) (client : ℕ) (why : Why) (old : Waiting) → IsOpen client events → IsAfter sources events old →
    IsAfter sources (events ++ event.Close client why ∷ []) (record old { clients = old.clients - 1; backlog = nothing })
after_going sources events client why old is was = record {
  open_now = goes old.clients client why events was.open_now is;
  few = omega (arith, was.few, length-append events (event.Close client why ∷ []));
  within = omega arith;
  short = omega arith;
  waits = λ setting same. ap (kept old.limit) (sym (waits_go (source_of_records setting sources.records.now sources.specs.now) events client why));
}

told_more : (events : List Event) (e : Event) → told (events ++ e ∷ []) ≡ told events + told_in e
told_more events e = sum_by-append told_in events (e ∷ []) ∙ omega arith

says_nothing : (e : Event) → is_connect e ≡ false → is_close e ≡ false → (client : ℕ) → comes_or_goes client e ≡ false
says_nothing (event.Connect other) comes goes client = absurd cc
says_nothing (event.Close other why) comes goes client = absurd cc
says_nothing (event.Request other frame done) comes goes client = refl
says_nothing (event.Claim claim moment) comes goes client = refl
says_nothing (event.Level slot level) comes goes client = refl
says_nothing (event.Log app writer call moment) comes goes client = refl
says_nothing (event.Lost app count moment) comes goes client = refl
says_nothing (event.User channel msg moment) comes goes client = refl

pub after_admitting : (sources : Sources) (events : List Event) (e : Event) (batch : Batch) (old new : Waiting) → is_connect e ≡ false → is_close e ≡ false →
    batch.frames ≤ 1 + told_in e → counted new.backlog ≤ counted old.backlog + batch.frames → new.limit ≡ old.limit → new.clients ≡ old.clients → new.backlog.bytes ≤ new.limit →
    ((setting : Setting) → setting.ecu ≡ sources.ecu → IsBatch batch (frames_of (source_of_records setting sources.records.now sources.specs.now) e)) →
    ((frames more : List (List ℕ)) → old.backlog ≡ kept old.limit frames → IsBatch batch more → new.backlog ≡ kept old.limit (cond (eqb old.clients 0) (frames ++ more) frames)) →
    IsAfter sources events old → IsAfter sources (events ++ e ∷ []) new
after_admitting sources events e batch old new comes goes few count limit clients within are keeps was = record {
  open_now = subst (λ (n : ℕ). AreOpen n (events ++ e ∷ [])) (sym clients) (stay old.clients e events (says_nothing e comes goes) was.open_now);
  few = omega (arith, was.few, clients, length-append events (e ∷ []));
  within = within;
  short = omega (arith, was.short, count, few, length-append events (e ∷ []), told_more events e);
  waits = λ setting same.
      let source = source_of_records setting sources.records.now sources.specs.now in
      let before = waiting (traffic source events) in
      let more = frames_of source e in
      keeps before more (was.waits setting same) (are setting same) ∙ ap (λ (n : ℕ). kept n (cond (eqb old.clients 0) (before ++ more) before)) (sym limit)
      ∙ ap (kept new.limit) (by_test source before more (eqb old.clients 0) (counts_open old.clients source events was.open_now) refl ∙ sym (waits_on source events e comes goes));
} where
  by_test : (source : FrameSource) (before more : List (List ℕ)) (b : Bool) → is_any_open (traffic source events) ≡ cond b false true → before ≡ waiting (traffic source events) →
      cond b (before ++ more) before ≡ cond (is_any_open (traffic source events)) [] (before ++ more)
  by_test source before more true is same = ap (λ (o : Bool). cond o [] (before ++ more)) (sym is)
  by_test source before more false is same = same ∙ none_waits (traffic source events) is ∙ ap (λ (o : Bool). cond o [] (before ++ more)) (sym is)

-- ---- in the loop

one_further : (events : List Event) (i : ℕ) (e : Event) → i < length events → take (i + 1) events ≡ take i events ++ e ∷ [] → events ≡ take i events ++ e ∷ drop (i + 1) events
one_further events i e within more = sym (take-append-drop (i + 1) events) ∙ ap (λ (es : List Event). es ++ drop (i + 1) events) more ∙ append_assoc (take i events) (e ∷ []) (drop (i + 1) events)

-- the event at a place may say what it says of clients
pub in_turn : (events : List Event) (i : ℕ) (e : Event) → ComeAndGo events → i < length events → take (i + 1) events ≡ take i events ++ e ∷ [] → MayComeOrGo (take i events) e
in_turn events i e turns within more = turns (take i events) (drop (i + 1) events) e (one_further events i e within more)

pub may_note : (sources : Sources) (events : List Event) (e : Event) (now : Waiting) → length events + 1 < 2 ^ 63 → told events + told_in e < 2 ^ 63 → MayComeOrGo events e → IsAfter sources events now → MayNote e now
may_note sources events (event.Connect client) now short few may is = omega (arith, is.few, short)
may_note sources events (event.Close client why) now short few may is = may_go now.clients client events is.open_now may
may_note sources events (event.Request client frame done) now short few may is = (is.within, omega (arith, is.short, short, few))
may_note sources events (event.Claim claim moment) now short few may is = (is.within, omega (arith, is.short, short, few))
may_note sources events (event.Level slot level) now short few may is = (is.within, omega (arith, is.short, short, few))
may_note sources events (event.Log app writer call moment) now short few may is = (is.within, omega (arith, is.short, short, few))
may_note sources events (event.Lost app count moment) now short few may is = (is.within, omega (arith, is.short, short, few))
may_note sources events (event.User channel msg moment) now short few may is = (is.within, omega (arith, is.short, short, few))

pub may_admit : (e : Event) (now : Waiting) → is_connect e ≡ false → is_close e ≡ false → MayNote e now → (now.backlog.bytes ≤ now.limit) × (counted now.backlog + (1 + told_in e) < 2 ^ 64)
may_admit (event.Connect client) now comes goes may = absurd cc
may_admit (event.Close client why) now comes goes may = absurd cc
may_admit (event.Request client frame done) now comes goes may = may
may_admit (event.Claim claim moment) now comes goes may = may
may_admit (event.Level slot level) now comes goes may = may
may_admit (event.Log app writer call moment) now comes goes may = may
may_admit (event.Lost app count moment) now comes goes may = may
may_admit (event.User channel msg moment) now comes goes may = may

-- what is told up to a place and there is not more than all
pub told_so_far : (events : List Event) (i : ℕ) (e : Event) → i < length events → take (i + 1) events ≡ take i events ++ e ∷ [] → told (take i events) + told_in e ≤ told events
told_so_far events i e within more =
    let parts = ap told (one_further events i e within more) ∙ sum_by-append told_in (take i events) (e ∷ drop (i + 1) events) in
    omega (arith, parts, sum_by-cons told_in e (drop (i + 1) events))
