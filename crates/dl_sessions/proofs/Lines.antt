-- The lines of an account are those of its stream.
use Rattle.std.proofs.Common.{◌≡◌, ℕ, ◌+◌, cond, List, [], ◌∷◌, ◌++◌, refl, sym, ap, ◌∙◌, append_assoc}
use Rattle.std.specs.Prelude.{sum_by}
use Rattle.std.specs.List.{flat_map}
use Rattle.std.proofs.lemmas.List.Concat.{flat_map-cons}
use Rattle.std.proofs.lemmas.List.Sums.{sum_by-cons}
use Rattle.dl_sessions.specs.declared.account.Account.{Account}
use Rattle.dl_sessions.specs.declared.session.Hole.{Hole}
use Rattle.dl_sessions.specs.declared.session.Session.{Session}
use Rattle.dl_sessions.specs.declared.session.Source.{Source}
use Rattle.dl_sessions.specs.declared.session.Tally.{Tally}
use Rattle.dl_sessions.specs.declared.session.Told.{Told}
use Rattle.dl_sessions.specs.declared.session.Totals.{Totals}
use Rattle.dl_sessions.specs.Account.{IsAfter, holes, sessions, totals_of}
use Rattle.dl_sessions.specs.Applications.{next_number, sources, tally_by, tally_of, told_by, told_for}
use Rattle.dl_sessions.specs.Gaps.{counted, entries, same_source, source_of}
use Rattle.dl_sessions.specs.Printing.{application_by, hole_by, losses_by, missing_by, missing_of, open_by, open_of, session_by}
use Rattle.dl_sessions.specs.Text.{application_line, application_text, buffer, hole_line, hole_text, is_open, losses_of, missing, missing_in, open_in, position_of, printed, session_line, told_alone, totals_text}

same_lines : {A : Type 0} (f g : A → List ℕ) → ((x : A) → f x ≡ g x) → (xs : List A) → flat_map f xs ≡ flat_map g xs
same_lines f g same [] = refl
same_lines f g same (x ∷ xs) =
    flat_map-cons f x xs ∙ ap (λ (l : List ℕ). l ++ flat_map f xs) (same x) ∙ ap (λ (l : List ℕ). g x ++ l) (same_lines f g same xs) ∙ sym (flat_map-cons g x xs)

same_sums : {A : Type 0} (f g : A → ℕ) → ((x : A) → f x ≡ g x) → (xs : List A) → sum_by f xs ≡ sum_by g xs
same_sums f g same [] = refl
same_sums f g same (x ∷ xs) = sum_by-cons f x xs ∙ ap (λ (n : ℕ). n + sum_by f xs) (same x) ∙ ap (λ (n : ℕ). g x + n) (same_sums f g same xs) ∙ sym (sum_by-cons g x xs)

three : (a b c d e f text : List ℕ) → a ≡ d → b ≡ e → c ≡ f → ((text ++ a) ++ b) ++ c ≡ text ++ ((d ++ e) ++ f)
three a b c d e f text p q r =
    ap (λ (l : List ℕ). ((text ++ l) ++ b) ++ c) p ∙ ap (λ (l : List ℕ). ((text ++ d) ++ l) ++ c) q ∙ ap (λ (l : List ℕ). ((text ++ d) ++ e) ++ l) r
    ∙ ap (λ (l : List ℕ). l ++ f) (append_assoc text d e) ∙ append_assoc text (d ++ e) f

module _ (stream : List Told) (account : Account) (after : IsAfter stream account) where
  told_is : (hole : Hole) → told_by account.applications (position_of hole) ≡ told_for (position_of hole) stream
  told_is hole = after.applications_are.told_are (position_of hole)

  hole_is : (hole : Hole) → hole_by account.totals account.applications hole ≡ hole_line stream hole
  hole_is hole =
      let who = source_of hole.entry.session in
      let own = totals_of hole.entry.session (entries stream) in
      ap (λ (t : Totals). hole_text hole t (told_alone t (tally_by account.applications who) (told_by account.applications (position_of hole)))) (after.totals_are hole.entry.session)
      ∙ ap (λ (t : Tally). hole_text hole own (told_alone own t (told_by account.applications (position_of hole)))) (after.applications_are.tallies_are who)
      ∙ ap (λ (n : ℕ). hole_text hole own (told_alone own (tally_of who stream) n)) (told_is hole)

  session_is : (session : Session) → session_by account.totals session ≡ session_line stream session
  session_is session = ap (totals_text session) (after.totals_are session)

  missing_is : (source : Source) → missing_by account.totals source account.sessions.items ≡ missing_in source stream
  missing_is source =
      let one : (session : Session) → missing_of account.totals source session ≡ cond {A = ℕ} (same_source (source_of session) source) (missing (totals_of session (entries stream))) 0 =
      λ session. ap (λ (t : Totals). cond {A = ℕ} (same_source (source_of session) source) (missing t) 0) (after.totals_are session) in
      ap counted (same_sums (missing_of account.totals source) (λ (session : Session). cond {A = ℕ} (same_source (source_of session) source) (missing (totals_of session (entries stream))) 0) one account.sessions.items
      ∙ ap (sum_by (λ (session : Session). cond {A = ℕ} (same_source (source_of session) source) (missing (totals_of session (entries stream))) 0)) after.sessions_are)

  open_is : (source : Source) → open_by account.totals source account.sessions.items ≡ open_in source stream
  open_is source =
      let now : Session → ℕ = λ session. cond {A = ℕ} (same_source (source_of session) source) (cond {A = ℕ} (is_open (totals_of session (entries stream))) 1 0) 0 in
      let one : (session : Session) → open_of account.totals source session ≡ now session =
      λ session. ap (λ (t : Totals). cond {A = ℕ} (same_source (source_of session) source) (cond {A = ℕ} (is_open t) 1 0) 0) (after.totals_are session) in
      ap counted (same_sums (open_of account.totals source) now one account.sessions.items ∙ ap (sum_by now) after.sessions_are)

  losses_are : (source : Source) → losses_by account.applications source ≡ losses_of source stream
  losses_are source =
      let t = after.applications_are.tallies_are source in
      let b = after.applications_are.tallies_are buffer in
      let first = after.applications_are.told_are (record { source = source; number = 1 }) in
      let behind : told_by account.applications (record { source = source; number = next_number (tally_by account.applications source) }) ≡ told_for (record { source = source; number = next_number (tally_of source stream) }) stream =
      after.applications_are.told_are (record { source = source; number = next_number (tally_by account.applications source) })
      ∙ ap (λ (x : Tally). told_for (record { source = source; number = next_number x }) stream) t in
      λ i. record { messages = (t i).messages; sessions = (t i).sessions; told = (t i).lost; before = first i; behind = behind i; buffer = (b i).lost }

  application_is : (source : Source) → application_by account source ≡ application_line stream source
  application_is source =
      ap (λ (n : ℕ). application_text source n (open_by account.totals source account.sessions.items) (losses_by account.applications source)) (missing_is source)
      ∙ ap (λ (n : ℕ). application_text source (missing_in source stream) n (losses_by account.applications source)) (open_is source)
      ∙ ap (application_text source (missing_in source stream) (open_in source stream)) (losses_are source)

  pub lines_are : (text first second third : List ℕ) → first ≡ text ++ flat_map (hole_by account.totals account.applications) account.holes.items → second ≡ first ++ flat_map (session_by account.totals) account.sessions.items →
      third ≡ second ++ flat_map (application_by account) account.applications.sources.items → third ≡ text ++ printed stream
  lines_are text first second third a b c =
      let hs = flat_map (hole_by account.totals account.applications) account.holes.items in
      let ss = flat_map (session_by account.totals) account.sessions.items in
      let rs = flat_map (application_by account) account.applications.sources.items in
      let holes_said : hs ≡ flat_map (hole_line stream) (holes stream) = same_lines (hole_by account.totals account.applications) (hole_line stream) hole_is account.holes.items ∙ ap (flat_map (hole_line stream)) after.holes_are in
      let sessions_said : ss ≡ flat_map (session_line stream) (sessions (entries stream)) =
      same_lines (session_by account.totals) (session_line stream) session_is account.sessions.items ∙ ap (flat_map (session_line stream)) after.sessions_are in
      let applications_said : rs ≡ flat_map (application_line stream) (sources stream) =
      same_lines (application_by account) (application_line stream) application_is account.applications.sources.items ∙ ap (flat_map (application_line stream)) after.applications_are.sources_are in
      c ∙ ap (λ (l : List ℕ). l ++ rs) (b ∙ ap (λ (l : List ℕ). l ++ ss) a)
      ∙ three hs ss rs (flat_map (hole_line stream) (holes stream)) (flat_map (session_line stream) (sessions (entries stream))) (flat_map (application_line stream) (sources stream)) text holes_said sessions_said applications_said
