-- A client that comes.
use Rattle.std.proofs.Common.{◌≡◌, inl, inr, ℕ, suc, ◌+◌, ◌<◌, ◌≤◌, Bool, true, false, cond, List, [], ◌∷◌, ◌++◌, length, Option, Some, None, refl, sym, ap, subst, ◌∙◌, length-append, arith}
use Rattle.std.specs.Prelude.{IfSome, count_by}
use Rattle.std.specs.List.{concat, range_with_len}
use Rattle.std.specs.Option.{option_map_or}
use Rattle.std.proofs.lemmas.Bool.{cases_lt, ne_eqb, eq-eqb}
use Rattle.dl_bytes.specs.Limits.{message_limit}
use Rattle.dl_events.specs.declared.event.Event.{Event}
use Rattle.dl_events.specs.declared.event.Event.TheVariants as event
use Rattle.dl_events.specs.Journal as notes
use Rattle.dl_events.specs.Journal.{Journaled}
use Rattle.dl_message.specs.Cutting.{unfed}
use Rattle.dl_message.proofs.Cuts.{its_cut}
use Rattle.dl_model.specs.Along.{last_that}
use Rattle.dl_model.specs.ClientStream.{traffic}
use Rattle.dl_model.specs.Traffic as traffic
use Rattle.dl_model.specs.Journal.{is_connect, is_close, comes_or_goes}
use Rattle.dl_script_model.specs.Marks.{Mark, Noted, journal, fed}
use Rattle.dl_model.proofs.Lists.{count_by-append, last_that-one}
use Rattle.dl_world_calls.proofs.Changing.{no-call-stays}
use Rattle.dl_laws.proofs.Quiet.{open_in_journal, not_yet}
use Rattle.dl_hub.specs.State as hub
use Rattle.dl_hub.specs.Follows as hub_after
use Rattle.dl_hub.proofs.Following.{one_more_number}
use Rattle.dl_core.specs.Follows as core
use Rattle.dl_core.specs.Follows.{Run, AddsAlone, HoldsTrace, source_of}
use Rattle.dl_core.specs.State.{Core}
use Rattle.dl_world.specs.Fed.{IsFedBy}
use Rattle.dl_outside.specs.Told.{FolderTold}
use Rattle.dl_core.specs.Standing.{KeepsTrace}
use Rattle.dl_core.proofs.StandingFiles.{keeps_by, keeps_quiet, kept_same}
use Rattle.dl_world.specs.Follows.{IsAfter, IsBefore, Doing, noting, stream_in}
use Rattle.dl_world.specs.State.{Client, new_client, client_at, taken_by}
use Rattle.dl_world.specs.declared.world.World.{World}
use Rattle.dl_world.proofs.ByNumber.{at_past, at-more, at-last}
use Rattle.dl_world.proofs.Doings.{ComesTo, doing_by, holds_by, the_events, nothing_told}
use Rattle.dl_world.proofs.Noting.{journal_noted, noted_where, same_counts, open_by_traffic, came_by_events, open_again}

-- ---- one client more in a list

by_three : (P : ℕ → Type 0) (n : ℕ) → ((k : ℕ) → k ≤ n → P k) → P (n + 1) → ((k : ℕ) → n + 1 < k → P k) → (k : ℕ) → P k
by_three P n below here above k = elim (cases_lt n k) as (λ _. P k) [
  | inl past ↦ elim (cases_lt (n + 1) k) as (λ _. P k) [
    | inl more ↦ above k more
    | inr least ↦ (let same : n + 1 ≡ k = omega (arith, past, least) in subst P same here)
  ]
  | inr at_most ↦ below k at_most
]

pub each_more : (P : ℕ → Client → Type 0) (xs : List Client) (c : Client) → ((k : ℕ) → IfSome (client_at xs k) (P k)) → P (length xs + 1) c → (k : ℕ) → IfSome (client_at (xs ++ c ∷ []) k) (P k)
each_more P xs c each here =
    by_three (λ (k : ℕ). IfSome (client_at (xs ++ c ∷ []) k) (P k)) (length xs)
    (λ k below. subst (λ (o : Option Client). IfSome o (P k)) (sym (at-more xs c k below)) (each k))
    (subst (λ (o : Option Client). IfSome o (P (length xs + 1))) (sym (at-last xs c)) here)
    (λ k above. subst (λ (o : Option Client). IfSome o (P k)) (sym (at_past (xs ++ c ∷ []) k (omega (arith, above, length-append xs (c ∷ []))))) tt)

none_more : (xs : List Client) (c : Client) (k : ℕ) → client_at (xs ++ c ∷ []) k ≡ None → client_at xs k ≡ None
none_more xs c =
    by_three (λ (k : ℕ). client_at (xs ++ c ∷ []) k ≡ None → client_at xs k ≡ None) (length xs)
    (λ k below none. sym (at-more xs c k below) ∙ none)
    (λ none. absurd (let bad : Some c ≡ None = sym (at-last xs c) ∙ none in cc))
    (λ k above none. at_past xs k (omega (arith, above)))

taken_same : (xs : List Client) (c : Client) → c.frames ≡ [] → taken_by (xs ++ c ∷ []) ≡ taken_by xs
taken_same xs c none = λ i k. same k i where
  of : Option Client → List ℕ
  of o = option_map_or (λ (client : Client). concat client.frames) o []

  same : (k : ℕ) → taken_by (xs ++ c ∷ []) k ≡ taken_by xs k
  same = by_three (λ (k : ℕ). taken_by (xs ++ c ∷ []) k ≡ taken_by xs k) (length xs)
      (λ k below. ap (λ (o : Option Client). option_map_or (λ (client : Client). concat client.frames) o []) (at-more xs c k below))
      (ap (λ (o : Option Client). option_map_or (λ (client : Client). concat client.frames) o []) (at-last xs c) ∙ ap concat none
      ∙ sym (ap (λ (o : Option Client). option_map_or (λ (client : Client). concat client.frames) o []) (at_past xs (length xs + 1) (omega arith))))
      (λ k above. ap (λ (o : Option Client). option_map_or (λ (client : Client). concat client.frames) o [])
      (at_past (xs ++ c ∷ []) k (omega (arith, above, length-append xs (c ∷ []))) ∙ sym (at_past xs k (omega (arith, above)))))

-- one that sent nothing
pub fed_nothing : IsFedBy [] (unfed message_limit)
fed_nothing = record {
  limit = refl;
  stands = inl (record { rest = refl; good = record { good = refl; ends = (its_cut message_limit []).ends }; room = omega arith; some = omega arith });
}

-- ---- the hub

module _ (run : Run) (events : List Event) (number : ℕ) (taken taken_now : ℕ → List ℕ) (old now : hub.Hub) (number_is : number ≡ length old.clients + 1)
    (was : hub_after.IsAfter (traffic (source_of run) events) taken old)
    (is : hub_after.IsAfter (traffic (source_of run) (events ++ event.Connect number ∷ [])) taken_now now) where
  abbrev e : Event
  e = event.Connect number

  pub one_came : length now.clients ≡ length old.clients + 1
  one_came =
      omega (arith, came_by_events (source_of run) (events ++ e ∷ []) taken_now now is, came_by_events (source_of run) events taken old was, count_by-append is_connect events (e ∷ []))

  p : ℕ → Bool
  p n = traffic.is_open n (traffic (source_of run) (events ++ e ∷ []))

  itself : traffic.is_open number (traffic (source_of run) (events ++ e ∷ [])) ≡ true
  itself =
      open_in_journal (source_of run) number (events ++ e ∷ [])
      ∙ ap (λ (o : Option Event). option_map_or is_connect o false)
      (last_that-one (comes_or_goes number) events e ∙ ap (λ (b : Bool). cond b (Some e) (last_that (comes_or_goes number) events)) (eq-eqb number number refl))

  pub one_opened : count_by hub.is_open now.clients ≡ count_by hub.is_open old.clients + 1
  one_opened =
      let q = λ (n : ℕ). traffic.is_open n (traffic (source_of run) (events ++ e ∷ [])) in
      let opens = open_by_traffic (traffic (source_of run) (events ++ e ∷ [])) taken_now now is in
      let opened = open_by_traffic (traffic (source_of run) events) taken old was in
      let long : length now.clients ≡ suc (length old.clients) = omega (arith, one_came) in
      let range : range_with_len 1 (length now.clients) ≡ range_with_len 1 (length old.clients) ++ (1 + length old.clients) ∷ [] =
      ap (range_with_len 1) long ∙ sym (one_more_number 1 (length old.clients)) in
      let same = same_counts q (λ n. traffic.is_open n (traffic (source_of run) events)) 1 (length old.clients)
      (λ n above below. open_again (source_of run) events e n (ne_eqb number n (λ same. omega (arith, same, below, number_is)))) in
      let last : q (1 + length old.clients) ≡ true = subst (λ (n : ℕ). q n ≡ true) (omega (arith, number_is)) itself in
      let one : count_by q ((1 + length old.clients) ∷ []) ≡ 1 = rw last refl in
      let split = count_by-append q (range_with_len 1 (length old.clients)) ((1 + length old.clients) ∷ []) in
      omega (arith, opens, opened, ap (count_by q) range, split, same, one)

-- ---- the world

pub connect_before : (run : Run) (done : List Mark) (old : World) (core_now : Core) (kept : Journaled) (client : Client) (number : ℕ) → IsAfter run done old
    → number ≡ length old.core.hub.clients + 1 → client ≡ new_client
    → core.IsAfter run (journal done ++ event.Connect number ∷ []) (taken_by old.clients) core_now
    → kept.events ≡ old.journal.events ++ event.Connect number ∷ []
    → IsBefore run (done ++ Noted (event.Connect number) ∷ []) (record old { core = core_now; journal = kept; clients = old.clients ++ client ∷ [] })
connect_before run done old core_now kept client number is number_is fresh core_noted events_noted =
    let e = event.Connect number in
    let frames_none : client.frames ≡ [] = ap (λ (c : Client). c.frames) fresh in
    let cutter_is : client.cutter ≡ unfed message_limit = ap (λ (c : Client). c.cutter) fresh in
    let taken_is = taken_same old.clients client frames_none in
    let came = one_came run (journal done) number (taken_by old.clients) (taken_by old.clients) old.core.hub core_now.hub number_is is.so_far.core_so.hub core_noted.hub in
    let opens = one_opened run (journal done) number (taken_by old.clients) (taken_by old.clients) old.core.hub core_now.hub number_is is.so_far.core_so.hub core_noted.hub in
    let unfed_yet : fed (length old.clients + 1) done ≡ [] = is.so_far.unfed_so (length old.clients + 1) (at_past old.clients (length old.clients + 1) (omega arith)) in
    let none_sent : stream_in run done (length old.clients + 1) ≡ [] =
    (not_yet run.setting.ecu run.setting.buffer (length old.clients + 1) (length old.core.hub.clients) (traffic (source_of run) (journal done)) is.so_far.core_so.hub.came (omega (arith, is.so_far.came_so))).1 in
    noted_where run done e old (record old { core = core_now; journal = kept; clients = old.clients ++ client ∷ [] }) is (record {
      core_noted = rw taken_is core_noted;
      gives = tt;
      calls_noted = no-call-stays done (Noted e) old.calls refl is.so_far.calls_so;
      events_noted = events_noted;
      injections_rest = refl;
      channels_rest = refl;
      moment_rest = refl;
      later_rest = refl;
      came_noted = omega (arith, length-append old.clients (client ∷ []), came, is.so_far.came_so);
      gone_noted = (let none : count_by is_close (e ∷ []) ≡ 0 = omega arith in omega (arith, count_by-append is_close (journal done) (e ∷ []), none, came, opens, is.so_far.gone_so));
      fed_noted = each_more (λ k c. IsFedBy (fed k done) c.cutter) old.clients client is.so_far.fed_so (rw (unfed_yet, cutter_is) fed_nothing);
      unfed_noted = λ k none. is.so_far.unfed_so k (none_more old.clients client k none);
      had = each_more (λ k c. c.frames ≡ stream_in run done k) old.clients client is.taken (frames_none ∙ sym none_sent);
    })

-- the call that notes it, once the links took what it put
pub connect_does : (old new : World) (core_now : Core) (made kept : Journaled) (client : Client) (links : List Client) (number : ℕ)
    → number ≡ length old.core.hub.clients + 1 → client ≡ new_client → links ≡ old.clients ++ client ∷ [] → made.events ≡ old.journal.events
    → AddsAlone (event.Connect number ∷ []) old.core core_now → notes.Adds (Some made.events) (Some kept.events) (event.Connect number)
    → core_now.trace ≡ old.core.trace → new.core.trace ≡ core_now.trace
    → ((run : Run) (done : List Mark) → IsBefore run done (record old { core = core_now; journal = kept; clients = links }) → IsAfter run done new)
    → Doing (noting (λ now. event.Connect (1 + count_by is_connect (journal now)))) old new
connect_does old new core_now made kept client links number number_is fresh links_are made_is adds noted same still takes =
    doing_by (noting (λ now. event.Connect (1 + count_by is_connect (journal now)))) old new (still ∙ same)
    (λ run done after is_run. subst (λ (n : ℕ). ComesTo run done (Noted (event.Connect n) ∷ []) old new) (counted run done after) (comes run done after)) where
      counted : (run : Run) (done : List Mark) → IsAfter run done old → number ≡ 1 + count_by is_connect (journal done)
      counted run done after = omega (arith, number_is, came_by_events (source_of run) (journal done) (taken_by old.clients) old.core.hub after.so_far.core_so.hub)

      comes : (run : Run) (done : List Mark) → IsAfter run done old → ComesTo run done (Noted (event.Connect number) ∷ []) old new
      comes run done after =
          let core_noted = λ (told : FolderTold). adds told run (journal done) (taken_by old.clients) tt after.so_far.core_so in
          let before = connect_before run done old core_now kept client number after number_is fresh (core_noted nothing_told).0 (the_events made.events kept.events old.journal.events (event.Connect number) made_is noted) in
          record {
            after = takes run (done ++ Noted (event.Connect number) ∷ []) (subst (λ (ls : List Client). IsBefore run (done ++ Noted (event.Connect number) ∷ []) (record old { core = core_now; journal = kept; clients = ls })) (sym links_are) before);
            holds = λ told held. holds_by run (done ++ Noted (event.Connect number) ∷ []) core_now new.core told still
                (subst (λ (es : List Event). HoldsTrace run es core_now told) (sym (journal_noted done (event.Connect number))) ((core_noted told).1 held));
            stands = λ told first kept. keeps_by run first (journal (done ++ Noted (event.Connect number) ∷ [])) core_now new.core told still
                (subst (λ (es : List Event). KeepsTrace run first es core_now told) (sym (journal_noted done (event.Connect number)))
                (keeps_quiet run first (journal done) (event.Connect number) old.core core_now told told same refl (kept_same told.files) kept));
            unasked = refl;
          }
