-- What each call of an account leaves.
use Rattle.std.proofs.Common.{◌≡◌, ℕ, ◌+◌, Bool, cond, eqb, List, [], ◌∷◌, ◌++◌, length, refl, sym, ap, subst, ◌∙◌, length-append}
use Rattle.std.specs.Prelude.{is_none, not, ◌&&◌}
use Rattle.std.specs.List.{filter_map}
use Rattle.std.proofs.lemmas.List.{append-nil}
use Rattle.std.proofs.lemmas.List.Elements.{filter_map-append}
use Rattle.dl_model.proofs.Lists.{along-one}
use Rattle.dl_sessions.specs.declared.account.Account.{Account}
use Rattle.dl_sessions.specs.declared.account.Step.{Step}
use Rattle.dl_sessions.specs.declared.session.Entry.{Entry}
use Rattle.dl_sessions.specs.declared.session.Hole.{Hole}
use Rattle.dl_sessions.specs.declared.session.Session.{Session}
use Rattle.dl_sessions.specs.declared.session.Lost.{Lost}
use Rattle.dl_sessions.specs.declared.session.Turn.{Turn}
use Rattle.dl_sessions.specs.declared.session.Told.{Told}
use Rattle.dl_sessions.specs.declared.session.Told.TheVariants as told
use Rattle.dl_sessions.specs.Account.{IsAfter, KeepsContexts, KeepsTotals, NotedContext, NotedSession, hole_at, hole_here, hole_if, holes, sessions}
use Rattle.dl_sessions.specs.Applications.{AreOf, has_hole, is_first, next_number, tally_of}
use Rattle.dl_sessions.specs.Gaps.{counted, entries, entry_of, gap_in_session, is_in, latest, source_of, turn_of}
use Rattle.dl_sessions.proofs.OneMore.{goes_on}
use Rattle.dl_sessions.proofs.Applying.{passed_by as others_stay, unstored_by as unstored_stay}

-- ---- one message more

entries-log : (stream : List Told) (e : Entry) → entries (stream ++ told.Log e ∷ []) ≡ entries stream ++ e ∷ []
entries-log stream e = filter_map-append entry_of stream (told.Log e ∷ [])

entries-quiet : (stream : List Told) (t : Told) → filter_map entry_of (t ∷ []) ≡ [] → entries (stream ++ t ∷ []) ≡ entries stream
entries-quiet stream t none = filter_map-append entry_of stream (t ∷ []) ∙ ap (λ (l : List Entry). entries stream ++ l) none ∙ append-nil (entries stream)

counted-one : (stream : List Told) (t : Told) → counted (length (stream ++ t ∷ [])) ≡ counted (counted (length stream) + 1)
counted-one stream t = ap counted (length-append stream (t ∷ [])) ∙ goes_on (length stream) 1

-- a message has a hole before it where one of the countings finds some missing
pub flagged : (stream : List Told) (e : Entry) (turn : Turn) (step : Step) (flag : Bool) → turn ≡ turn_of (entries stream) e → step.by_session ≡ gap_in_session (entries stream) e
    → flag ≡ not (eqb step.by_session 0 && eqb turn.missing 0) → flag ≡ has_hole stream (told.Log e)
flagged stream e turn step flag t s is =
    is ∙ ap (λ (n : ℕ). not (eqb n 0 && eqb turn.missing 0)) s ∙ ap (λ (x : Turn). not (eqb (gap_in_session (entries stream) e) 0 && eqb x.missing 0)) t

pub logged : (stream : List Told) (e : Entry) (old new : Account) (turn : Turn) (step : Step) (number : ℕ) → IsAfter stream old →
    NotedContext (entries stream) e turn new.contexts → NotedSession (entries stream) e step new.totals → number ≡ next_number (tally_of (source_of e.session) stream) → AreOf (stream ++ told.Log e ∷ []) new.applications →
    new.sessions.items ≡ old.sessions.items ++ cond step.is_first (e.session ∷ []) [] → new.messages ≡ counted (old.messages + 1) →
    new.holes.items ≡ old.holes.items ++ hole_if (record { place = new.messages; number = number; entry = e; by_session = step.by_session; by_context = turn.missing; open_session = step.unsure; open_context = turn.unsure }) →
    IsAfter (stream ++ told.Log e ∷ []) new
logged stream e old new turn step number after context session number_is applications first messages hole =
    let more = entries-log stream e in
    let count : new.messages ≡ counted (length stream + 1) = messages ∙ ap (λ (n : ℕ). counted (n + 1)) after.messages_are ∙ sym (goes_on (length stream) 1) in
    let s = session.0 in
    let o = session.1 in
    let c = context.0 in
    let here : (let h : Hole = record { place = new.messages; number = number; entry = e; by_session = step.by_session; by_context = turn.missing; open_session = step.unsure; open_context = turn.unsure } in h) ≡ hole_here stream e =
    λ i. record { place = count i; number = number_is i; entry = e; by_session = s i; by_context = (c i).missing; open_session = o i; open_context = (c i).unsure } in
    record {
      totals_are = subst (KeepsTotals new.totals) (sym more) session.3;
      contexts_are = subst (KeepsContexts new.contexts) (sym more) context.1;
      applications_are = applications;
      sessions_are = first ∙ ap (λ (l : List Session). l ++ cond step.is_first (e.session ∷ []) []) after.sessions_are ∙ ap (λ (b : Bool). sessions (entries stream) ++ cond b (e.session ∷ []) []) session.2
          ∙ sym (along-one (λ (before : List Entry) (x : Entry). cond (is_none (latest (is_in x.session) before)) (x.session ∷ []) []) (entries stream) e) ∙ ap sessions (sym more);
      holes_are = hole ∙ ap (λ (l : List Hole). l ++ hole_if (record { place = new.messages; number = number; entry = e; by_session = step.by_session; by_context = turn.missing; open_session = step.unsure; open_context = turn.unsure })) after.holes_are
          ∙ ap (λ (h : Hole). holes stream ++ hole_if h) here
          ∙ sym (along-one hole_at stream (told.Log e));
      messages_are = messages ∙ ap (λ (n : ℕ). counted (n + 1)) after.messages_are ∙ sym (counted-one stream (told.Log e));
    }

-- a message that tells no session
quiet_entries : (stream : List Told) (t : Told) → filter_map entry_of (t ∷ []) ≡ [] → hole_at stream t ≡ [] → (old new : Account) → IsAfter stream old → AreOf (stream ++ t ∷ []) new.applications →
    (KeepsTotals old.totals (entries (stream ++ t ∷ [])) → KeepsTotals new.totals (entries (stream ++ t ∷ []))) → (KeepsContexts old.contexts (entries (stream ++ t ∷ [])) → KeepsContexts new.contexts (entries (stream ++ t ∷ []))) →
    new.sessions.items ≡ old.sessions.items → new.holes.items ≡ old.holes.items → new.messages ≡ counted (old.messages + 1) → IsAfter (stream ++ t ∷ []) new
quiet_entries stream t none no_hole old new after applications totals contexts first hole messages =
    let more = entries-quiet stream t none in
    record {
      totals_are = totals (subst (KeepsTotals old.totals) (sym more) after.totals_are);
      contexts_are = contexts (subst (KeepsContexts old.contexts) (sym more) after.contexts_are);
      applications_are = applications;
      sessions_are = first ∙ after.sessions_are ∙ ap sessions (sym more);
      holes_are = hole ∙ after.holes_are ∙ sym (along-one hole_at stream t ∙ ap (λ (l : List Hole). holes stream ++ l) no_hole ∙ append-nil (holes stream));
      messages_are = messages ∙ ap (λ (n : ℕ). counted (n + 1)) after.messages_are ∙ sym (counted-one stream t);
    }

pub reported : (stream : List Told) (l : Lost) (old new : Account) → IsAfter stream old → AreOf (stream ++ told.Lost l ∷ []) new.applications →
    (KeepsTotals old.totals (entries (stream ++ told.Lost l ∷ [])) → KeepsTotals new.totals (entries (stream ++ told.Lost l ∷ []))) →
    (KeepsContexts old.contexts (entries (stream ++ told.Lost l ∷ [])) → KeepsContexts new.contexts (entries (stream ++ told.Lost l ∷ []))) →
    new.sessions.items ≡ old.sessions.items → new.holes.items ≡ old.holes.items → new.messages ≡ counted (old.messages + 1) → IsAfter (stream ++ told.Lost l ∷ []) new
reported stream l = quiet_entries stream (told.Lost l) refl refl

pub passed_by : (stream : List Told) (old new : Account) → IsAfter stream old → (AreOf (stream ++ told.Other ∷ []) old.applications → AreOf (stream ++ told.Other ∷ []) new.applications) →
    (KeepsTotals old.totals (entries (stream ++ told.Other ∷ [])) → KeepsTotals new.totals (entries (stream ++ told.Other ∷ []))) →
    (KeepsContexts old.contexts (entries (stream ++ told.Other ∷ [])) → KeepsContexts new.contexts (entries (stream ++ told.Other ∷ []))) →
    new.sessions.items ≡ old.sessions.items → new.holes.items ≡ old.holes.items → new.messages ≡ counted (old.messages + 1) → IsAfter (stream ++ told.Other ∷ []) new
passed_by stream old new after applications =
    quiet_entries stream told.Other refl refl old new after (applications (others_stay stream old.applications after.applications_are))

-- the record of messages that a trace did not store
pub unstored_by : (stream : List Told) (count : ℕ) (old new : Account) → IsAfter stream old → (AreOf (stream ++ told.Unstored count ∷ []) old.applications → AreOf (stream ++ told.Unstored count ∷ []) new.applications) →
    (KeepsTotals old.totals (entries (stream ++ told.Unstored count ∷ [])) → KeepsTotals new.totals (entries (stream ++ told.Unstored count ∷ []))) →
    (KeepsContexts old.contexts (entries (stream ++ told.Unstored count ∷ [])) → KeepsContexts new.contexts (entries (stream ++ told.Unstored count ∷ []))) →
    new.sessions.items ≡ old.sessions.items → new.holes.items ≡ old.holes.items → new.messages ≡ counted (old.messages + 1) → IsAfter (stream ++ told.Unstored count ∷ []) new
unstored_by stream count old new after applications =
    quiet_entries stream (told.Unstored count) refl refl old new after (applications (unstored_stay stream count old.applications after.applications_are))
