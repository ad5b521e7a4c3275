-- What one message more changes of what is counted of applications.
use Rattle.std.proofs.Common.{◌≡◌, ℕ, ◌+◌, Bool, true, false, cond, eqb, List, [], ◌∷◌, ◌++◌, Option, Some, refl, sym, ap, subst, ◌∙◌, arith}
use Rattle.std.specs.Prelude.{count_by, fold, sum, sum_by, unwrap_or}
use Rattle.std.specs.HashMap as hash
use Rattle.std.proofs.lemmas.Bool.{eqb-true}
use Rattle.std.proofs.lemmas.List.{append-nil}
use Rattle.std.proofs.lemmas.List.Sums.{fold-append, sum_by-append}
use Rattle.dl_lemmas.proofs.Bools.{both}
use Rattle.dl_model.specs.Along.{along}
use Rattle.dl_model.proofs.Lists.{along-one, count_by-append}
use Rattle.dl_sessions.specs.declared.session.Entry.{Entry}
use Rattle.dl_sessions.specs.declared.session.Lost.{Lost}
use Rattle.dl_sessions.specs.declared.session.Position.{Position}
use Rattle.dl_sessions.specs.declared.session.Source.{Source}
use Rattle.dl_sessions.specs.declared.session.Tally.{Tally}
use Rattle.dl_sessions.specs.declared.session.Told.{Told}
use Rattle.dl_sessions.specs.declared.session.Told.TheVariants as told
use Rattle.dl_sessions.specs.declared.applications.Applications.{Applications}
use Rattle.dl_sessions.specs.Applications.{AreOf, first_of, has_hole, hole_of, is_first, is_heard, is_message_of, is_report_of, last_of, lost_in, no_tally, noted_message, noted_report, owner, same_position, session_of, sources, tally_of, told_at, told_for}
use Rattle.dl_sessions.specs.Gaps.{counted, same_source, source_of}
use Rattle.dl_sessions.proofs.OneMore.{goes_on, source_is, stands}

-- ---- one message more

count-one : (test : Told → Bool) (stream : List Told) (t : Told) → counted (count_by test (stream ++ t ∷ [])) ≡ counted (counted (count_by test stream) + cond {A = ℕ} (test t) 1 0)
count-one test stream t =
    let one : count_by test (stream ++ t ∷ []) ≡ count_by test stream + cond {A = ℕ} (test t) 1 0 = omega (arith, count_by-append test stream (t ∷ [])) in
    ap counted one ∙ goes_on (count_by test stream) (cond {A = ℕ} (test t) 1 0)

lost-one : (source : Source) (stream : List Told) (t : Told) → counted (sum_by (lost_in source) (stream ++ t ∷ [])) ≡ counted (counted (sum_by (lost_in source) stream) + lost_in source t)
lost-one source stream t =
    let more : sum_by (lost_in source) (stream ++ t ∷ []) ≡ sum_by (lost_in source) stream + lost_in source t = sum_by-append (lost_in source) stream (t ∷ []) ∙ omega arith in
    ap counted more ∙ goes_on (sum_by (lost_in source) stream) (lost_in source t)

hole-one : (source : Source) (stream : List Told) (t : Told) → last_of (along (hole_of source) (stream ++ t ∷ [])) ≡ cond (is_message_of source t) (has_hole stream t) (last_of (along (hole_of source) stream))
hole-one source stream t =
    ap last_of (along-one (hole_of source) stream t) ∙ fold-append (λ (so_far flag : Bool). flag) false (along (hole_of source) stream) (hole_of source stream t) ∙ by_test (is_message_of source t) where
      by_test : (b : Bool) → fold (λ (so_far flag : Bool). flag) (last_of (along (hole_of source) stream)) (cond b (has_hole stream t ∷ []) []) ≡ cond b (has_hole stream t) (last_of (along (hole_of source) stream))
      by_test true = refl
      by_test false = refl

sessions-one : (source : Source) (stream : List Told) (t : Told)
    → counted (sum (along (session_of source) (stream ++ t ∷ []))) ≡ counted (counted (sum (along (session_of source) stream)) + cond {A = ℕ} (is_message_of source t) (cond {A = ℕ} (is_first stream t) 1 0) 0)
sessions-one source stream t =
    let all = along (session_of source) stream in
    ap (λ (l : List ℕ). counted (sum l)) (along-one (session_of source) stream t) ∙ ap counted (sum_by-append (λ (n : ℕ). n) all (session_of source stream t)) ∙ by_test (is_message_of source t) where
      by_test : (b : Bool) → counted (sum (along (session_of source) stream) + sum (cond b (cond {A = ℕ} (is_first stream t) 1 0 ∷ []) []))
          ≡ counted (counted (sum (along (session_of source) stream)) + cond {A = ℕ} b (cond {A = ℕ} (is_first stream t) 1 0) 0)
      by_test true = omega arith
      by_test false = omega arith

-- what is counted of an application, with a message of it, a report of it, or neither
log_tally : Bool → Bool → Bool → Tally → Tally
log_tally b flag first t = record { messages = counted (t.messages + cond {A = ℕ} b 1 0); sessions = counted (t.sessions + cond {A = ℕ} b (cond {A = ℕ} first 1 0) 0); reports = counted (t.reports + 0); lost = counted (t.lost + 0); has_hole = cond b flag t.has_hole }

lost_tally : Bool → ℕ → Tally → Tally
lost_tally b count t = record { messages = counted (t.messages + 0); sessions = counted (t.sessions + 0); reports = counted (t.reports + cond {A = ℕ} b 1 0); lost = counted (t.lost + cond {A = ℕ} b count 0); has_hole = t.has_hole }

module _ (source : Source) (stream : List Told) where
  m_stands : counted (counted (count_by (is_message_of source) stream) + 0) ≡ counted (count_by (is_message_of source) stream)
  m_stands = sym (stands (count_by (is_message_of source) stream))

  s_stands : counted (counted (sum (along (session_of source) stream)) + 0) ≡ counted (sum (along (session_of source) stream))
  s_stands = sym (stands (sum (along (session_of source) stream)))

  r_stands : counted (counted (count_by (is_report_of source) stream) + 0) ≡ counted (count_by (is_report_of source) stream)
  r_stands = sym (stands (count_by (is_report_of source) stream))

  l_stands : counted (counted (sum_by (lost_in source) stream) + 0) ≡ counted (sum_by (lost_in source) stream)
  l_stands = sym (stands (sum_by (lost_in source) stream))

  logs : (b flag first : Bool) → log_tally b flag first (tally_of source stream) ≡ cond b (noted_message (tally_of source stream) flag first) (tally_of source stream)
  unfolding log_tally
  logs true flag first = λ i. record {
    messages = counted (counted (count_by (is_message_of source) stream) + 1);
    sessions = counted (counted (sum (along (session_of source) stream)) + cond {A = ℕ} first 1 0);
    reports = r_stands i;
    lost = l_stands i;
    has_hole = flag;
  }
  logs false flag first = λ i. record { messages = m_stands i; sessions = s_stands i; reports = r_stands i; lost = l_stands i; has_hole = last_of (along (hole_of source) stream) }

  reports_it : (b : Bool) (count : ℕ) → lost_tally b count (tally_of source stream) ≡ cond b (noted_report (tally_of source stream) count) (tally_of source stream)
  unfolding lost_tally
  reports_it true count = λ i. record {
    messages = m_stands i;
    sessions = s_stands i;
    reports = counted (counted (count_by (is_report_of source) stream) + 1);
    lost = counted (counted (sum_by (lost_in source) stream) + count);
    has_hole = last_of (along (hole_of source) stream);
  }
  reports_it false count = λ i. record { messages = m_stands i; sessions = s_stands i; reports = r_stands i; lost = l_stands i; has_hole = last_of (along (hole_of source) stream) }

  tally-log : (e : Entry) → tally_of source (stream ++ told.Log e ∷ []) ≡ cond (same_source (source_of e.session) source) (noted_message (tally_of source stream) (has_hole stream (told.Log e)) (is_first stream (told.Log e))) (tally_of source stream)
  unfolding log_tally
  tally-log e =
      let t = told.Log e in
      let p = count-one (is_message_of source) stream t in
      let o = sessions-one source stream t in
      let q = count-one (is_report_of source) stream t in
      let r = lost-one source stream t in
      let u = hole-one source stream t in
      let all : tally_of source (stream ++ t ∷ []) ≡ log_tally (same_source (source_of e.session) source) (has_hole stream t) (is_first stream t) (tally_of source stream) = λ i. record { messages = p i; sessions = o i; reports = q i; lost = r i; has_hole = u i } in
      all ∙ logs (same_source (source_of e.session) source) (has_hole stream t) (is_first stream t)

  tally-lost : (l : Lost) → tally_of source (stream ++ told.Lost l ∷ []) ≡ cond (same_source l.source source) (noted_report (tally_of source stream) l.count) (tally_of source stream)
  unfolding lost_tally
  tally-lost l =
      let t = told.Lost l in
      let p = count-one (is_message_of source) stream t in
      let o = sessions-one source stream t in
      let q = count-one (is_report_of source) stream t in
      let r = lost-one source stream t in
      let u = hole-one source stream t in
      let all : tally_of source (stream ++ t ∷ []) ≡ lost_tally (same_source l.source source) l.count (tally_of source stream) = λ i. record { messages = p i; sessions = o i; reports = q i; lost = r i; has_hole = u i } in
      all ∙ reports_it (same_source l.source source) l.count

  tally-other : tally_of source (stream ++ told.Other ∷ []) ≡ tally_of source stream
  unfolding log_tally
  tally-other =
      let t = told.Other in
      let p = count-one (is_message_of source) stream t in
      let o = sessions-one source stream t in
      let q = count-one (is_report_of source) stream t in
      let r = lost-one source stream t in
      let u = hole-one source stream t in
      let all : tally_of source (stream ++ t ∷ []) ≡ log_tally false false false (tally_of source stream) = λ i. record { messages = p i; sessions = o i; reports = q i; lost = r i; has_hole = u i } in
      all ∙ logs false false false

  tally-unstored : (count : ℕ) → tally_of source (stream ++ told.Unstored count ∷ []) ≡ tally_of source stream
  unfolding log_tally
  tally-unstored count =
      let t = told.Unstored count in
      let p = count-one (is_message_of source) stream t in
      let o = sessions-one source stream t in
      let q = count-one (is_report_of source) stream t in
      let r = lost-one source stream t in
      let u = hole-one source stream t in
      let all : tally_of source (stream ++ t ∷ []) ≡ log_tally false false false (tally_of source stream) = λ i. record { messages = p i; sessions = o i; reports = q i; lost = r i; has_hole = u i } in
      all ∙ logs false false false

-- ---- what was told of a place

position_is : (a b : Position) → same_position a b ≡ true → a ≡ b
position_is a b e =
    let parts = both (same_source a.source b.source) (eqb a.number b.number) e in
    let p = source_is a.source b.source parts.0 in
    let q = eqb-true a.number b.number parts.1 in
    λ i. record { source = p i; number = q i }

told-one : (position : Position) (stream : List Told) (t : Told) → told_for position (stream ++ t ∷ []) ≡ counted (told_for position stream + sum (told_at position stream t))
told-one position stream t =
    let more : sum (along (told_at position) (stream ++ t ∷ [])) ≡ sum (along (told_at position) stream) + sum (told_at position stream t) =
    ap sum (along-one (told_at position) stream t) ∙ sum_by-append (λ (n : ℕ). n) (along (told_at position) stream) (told_at position stream t) in
    ap counted more ∙ goes_on (sum (along (told_at position) stream)) (sum (told_at position stream t))

told-quiet : (position : Position) (stream : List Told) (t : Told) → told_at position stream t ≡ [] → told_for position (stream ++ t ∷ []) ≡ told_for position stream
told-quiet position stream t none =
    told-one position stream t ∙ ap (λ (l : List ℕ). counted (told_for position stream + sum l)) none ∙ sym (stands (sum (along (told_at position) stream)))

told-lost : (position : Position) (stream : List Told) (l : Lost) → told_for position (stream ++ told.Lost l ∷ []) ≡ cond (same_position (record { source = l.source; number = owner (tally_of l.source stream) }) position) (counted (told_for position stream + l.count)) (told_for position stream)
told-lost position stream l =
    told-one position stream (told.Lost l) ∙ by_test (same_position (record { source = l.source; number = owner (tally_of l.source stream) }) position) where
      by_test : (b : Bool) → counted (told_for position stream + sum (cond b (l.count ∷ []) [])) ≡ cond b (counted (told_for position stream + l.count)) (told_for position stream)
      by_test true = omega arith
      by_test false = sym (stands (sum (along (told_at position) stream)))

-- ---- what is kept of each, after one was changed

kept : {K V : Type 0} (same : K → K → Bool) (same_is : (a b : K) → same a b ≡ true → a ≡ b) (none : V) (old new : K → Option V) (who : K) (now : V) (change : V → V) (before after : K → V)
    → ((k : K) → new k ≡ cond (same who k) (Some now) (old k)) → now ≡ change (before who) → ((k : K) → unwrap_or (old k) none ≡ before k)
    → ((k : K) → after k ≡ cond (same who k) (change (before k)) (before k)) → (k : K) → unwrap_or (new k) none ≡ after k
kept {K} {V} same same_is none old new who now change before after noted is keeps comes k = ap (λ (o : Option V). unwrap_or o none) (noted k) ∙ by_test (same who k) refl ∙ sym (comes k) where
  by_test : (b : Bool) → same who k ≡ b → unwrap_or (cond b (Some now) (old k)) none ≡ cond (same who k) (change (before k)) (before k)
  by_test true e = is ∙ ap (λ (x : K). change (before x)) (same_is who k e) ∙ sym (ap (λ (b : Bool). cond b (change (before k)) (before k)) e)
  by_test false e = keeps k ∙ sym (ap (λ (b : Bool). cond b (change (before k)) (before k)) e)

-- ---- the calls

messaged : (stream : List Told) (e : Entry) (flag first : Bool) (tally noted : Tally) (old new : Applications) → AreOf stream old → flag ≡ has_hole stream (told.Log e) → first ≡ is_first stream (told.Log e) → tally ≡ tally_of (source_of e.session) stream
    → noted ≡ noted_message tally flag first → new.sources.items ≡ old.sources.items ++ cond (is_heard tally) [] (source_of e.session ∷ [])
    → ((x : Source) → hash.get same_source new.tallies x ≡ cond (same_source (source_of e.session) x) (Some noted) (hash.get same_source old.tallies x))
    → ((x : Position) → hash.get same_position new.told x ≡ hash.get same_position old.told x)
    → AreOf (stream ++ told.Log e ∷ []) new
messaged stream e flag first tally noted old new are flag_is first_is tally_is noted_is adds updates same = record {
  tallies_are = kept same_source source_is no_tally (hash.get same_source old.tallies) (hash.get same_source new.tallies) (source_of e.session) noted (λ (t : Tally). noted_message t (has_hole stream (told.Log e)) (is_first stream (told.Log e)))
      (λ (x : Source). tally_of x stream) (λ (x : Source). tally_of x (stream ++ told.Log e ∷ [])) updates
      (noted_is ∙ ap (λ (t : Tally). noted_message t flag first) tally_is ∙ ap (λ (f : Bool). noted_message (tally_of (source_of e.session) stream) f first) flag_is
      ∙ ap (noted_message (tally_of (source_of e.session) stream) (has_hole stream (told.Log e))) first_is) are.tallies_are (λ x. tally-log x stream e);
  told_are = λ x. ap (λ (o : Option ℕ). unwrap_or o 0) (same x) ∙ are.told_are x ∙ sym (told-quiet x stream (told.Log e) refl);
  sources_are = adds ∙ ap (λ (l : List Source). l ++ cond (is_heard tally) [] (source_of e.session ∷ [])) are.sources_are
      ∙ ap (λ (t : Tally). sources stream ++ cond (is_heard t) [] (source_of e.session ∷ [])) tally_is ∙ sym (along-one first_of stream (told.Log e));
}

-- the same of an application by another name
pub messaged_by : (stream : List Told) (e : Entry) (flag first : Bool) (who : Source) (tally noted : Tally) (old new : Applications) → AreOf stream old → flag ≡ has_hole stream (told.Log e) → first ≡ is_first stream (told.Log e) → source_of e.session ≡ who → tally ≡ tally_of who stream
    → noted ≡ noted_message tally flag first → new.sources.items ≡ old.sources.items ++ cond (is_heard tally) [] (who ∷ [])
    → ((x : Source) → hash.get same_source new.tallies x ≡ cond (same_source who x) (Some noted) (hash.get same_source old.tallies x))
    → ((x : Position) → hash.get same_position new.told x ≡ hash.get same_position old.told x)
    → AreOf (stream ++ told.Log e ∷ []) new
messaged_by stream e flag first who tally noted old new are flag_is first_is is =
    subst (λ (w : Source). tally ≡ tally_of w stream → noted ≡ noted_message tally flag first → new.sources.items ≡ old.sources.items ++ cond (is_heard tally) [] (w ∷ [])
    → ((x : Source) → hash.get same_source new.tallies x ≡ cond (same_source w x) (Some noted) (hash.get same_source old.tallies x))
    → ((x : Position) → hash.get same_position new.told x ≡ hash.get same_position old.told x)
    → AreOf (stream ++ told.Log e ∷ []) new) is (messaged stream e flag first tally noted old new are flag_is first_is)

place_same : (source : Source) {m n : ℕ} → m ≡ n → ◌≡◌ {A = Position} (record { source = source; number = m }) (record { source = source; number = n })
place_same source e = λ i. record { source = source; number = e i }

pub reported : (stream : List Told) (l : Lost) (tally noted : Tally) (number count : ℕ) (old new : Applications) → AreOf stream old → tally ≡ tally_of l.source stream → noted ≡ noted_report tally l.count → number ≡ owner tally
    → new.sources.items ≡ old.sources.items ++ cond (is_heard tally) [] (l.source ∷ [])
    → ((x : Source) → hash.get same_source new.tallies x ≡ cond (same_source l.source x) (Some noted) (hash.get same_source old.tallies x))
    → count ≡ counted (unwrap_or (hash.get same_position old.told (record { source = l.source; number = number })) 0 + l.count)
    → ((x : Position) → hash.get same_position new.told x ≡ cond (same_position (record { source = l.source; number = number }) x) (Some count) (hash.get same_position old.told x))
    → AreOf (stream ++ told.Lost l ∷ []) new
reported stream l tally noted number count old new are tally_is noted_is number_is first updates count_is moves =
    let at : Position = record { source = l.source; number = number } in
    let there = place_same l.source (number_is ∙ ap owner tally_is) in
    record {
      tallies_are = kept same_source source_is no_tally (hash.get same_source old.tallies) (hash.get same_source new.tallies) l.source noted (λ (t : Tally). noted_report t l.count)
          (λ (x : Source). tally_of x stream) (λ (x : Source). tally_of x (stream ++ told.Lost l ∷ [])) updates
          (noted_is ∙ ap (λ (t : Tally). noted_report t l.count) tally_is) are.tallies_are (λ x. tally-lost x stream l);
      told_are = kept same_position position_is 0 (hash.get same_position old.told) (hash.get same_position new.told) at count (λ (n : ℕ). counted (n + l.count))
          (λ (x : Position). told_for x stream) (λ (x : Position). told_for x (stream ++ told.Lost l ∷ [])) moves
          (count_is ∙ ap (λ (n : ℕ). counted (n + l.count)) (are.told_are at)) are.told_are
          (λ x. told-lost x stream l ∙ ap (λ (p : Position). cond (same_position p x) (counted (told_for x stream + l.count)) (told_for x stream)) (sym there));
      sources_are = first ∙ ap (λ (s : List Source). s ++ cond (is_heard tally) [] (l.source ∷ [])) are.sources_are
          ∙ ap (λ (t : Tally). sources stream ++ cond (is_heard t) [] (l.source ∷ [])) tally_is ∙ sym (along-one first_of stream (told.Lost l));
    }

pub passed_by : (stream : List Told) (applications : Applications) → AreOf stream applications → AreOf (stream ++ told.Other ∷ []) applications
passed_by stream applications are = record {
  tallies_are = λ x. are.tallies_are x ∙ sym (tally-other x stream);
  told_are = λ x. are.told_are x ∙ sym (told-quiet x stream told.Other refl);
  sources_are = are.sources_are ∙ sym (along-one first_of stream told.Other ∙ append-nil (sources stream));
}

pub unstored_by : (stream : List Told) (count : ℕ) (applications : Applications) → AreOf stream applications → AreOf (stream ++ told.Unstored count ∷ []) applications
unstored_by stream count applications are = record {
  tallies_are = λ x. are.tallies_are x ∙ sym (tally-unstored x stream count);
  told_are = λ x. are.told_are x ∙ sym (told-quiet x stream (told.Unstored count) refl);
  sources_are = are.sources_are ∙ sym (along-one first_of stream (told.Unstored count) ∙ append-nil (sources stream));
}
