-- One client more.
use Rattle.std.proofs.Common.{◌≡◌, ℕ, ◌+◌, ◌<◌, ◌≤◌, inl, inr, List, [], ◌∷◌, ◌++◌, length, length-append, append_assoc, drop, get_or, take, Option, Some, None, refl, sym, ap, subst, ◌∙◌, arith}
use Rattle.std.specs.Prelude.{IfSome}
use Rattle.std.proofs.lemmas.List.{length-take, take-append-drop, take_more}
use Rattle.dl_outside.specs.Outside.{HasRisen, Stays}
use Rattle.dl_outside.specs.Told.{NetTold}
use Rattle.dl_outside.specs.declared.client.ClientScript.{ClientScript}
use Rattle.dl_outside.proofs.Staying.{stays_both}
use Rattle.dl_launch.specs.Launching.{AreStarted, HasRisenBy, Launched, LaunchedFront}
use Rattle.dl_lemmas.proofs.Options.{if_some_of}

-- ---- which were started

pub one_more : (all started : List ClientScript) (failed : ℕ) (script : ClientScript) → AreStarted all started failed → AreStarted (all ++ script ∷ []) (started ++ script ∷ []) failed
one_more [] started failed script are =
    inl ([], ap (λ (l : List ClientScript). l ++ script ∷ []) are.0, (refl, are.1))
one_more (first ∷ all) started failed script are = elim are [
  | inl w ↦ inl (w.0 ++ script ∷ [], ap (λ (l : List ClientScript). l ++ script ∷ []) w.1, one_more all w.0 failed script w.2)
  | inr w ↦ inr (w.0, w.1, one_more all started w.0 script w.2)
]

pub one_fault_more : (all started : List ClientScript) (failed : ℕ) (script : ClientScript) → AreStarted all started failed → AreStarted (all ++ script ∷ []) started (failed + 1)
one_fault_more [] started failed script are = inr (0, ap (λ (n : ℕ). n + 1) are.1, (are.0, refl))
one_fault_more (first ∷ all) started failed script are = elim are [
  | inl w ↦ inl (w.0, w.1, one_fault_more all w.0 failed script w.2)
  | inr w ↦ inr (w.0 + 1, ap (λ (n : ℕ). n + 1) w.1, one_fault_more all started w.0 script w.2)
]

-- no more were started than there are
few_started : (all started : List ClientScript) (failed : ℕ) → AreStarted all started failed → length started ≤ length all
few_started [] started failed are = let none = ap length are.0 in omega (arith, none)
few_started (first ∷ all) started failed are = elim are [
  | inl w ↦ let one = ap length w.1 in let fewer = few_started all w.0 failed w.2 in omega (arith, one, fewer)
  | inr w ↦ let fewer = few_started all started w.0 w.2 in omega (arith, fewer)
]

-- ---- what the net tells

-- a list that grew, and stays or grows again
grew_stays : {A : Type 0} → (old mid new : Option (List A)) (more : List A) → IfSome old (λ before. mid ≡ Some (before ++ more)) → Stays mid new → IfSome old (λ before. new ≡ Some (before ++ more))
grew_stays None mid new more a b = tt
grew_stays (Some before) mid new more a b = if_some_of mid (before ++ more) (λ told. new ≡ Some told) a b

grew_one : {A : Type 0} → (old mid new : Option (List A)) (more : List A) (x : A) → IfSome old (λ before. mid ≡ Some (before ++ more)) → IfSome mid (λ before. new ≡ Some (before ++ x ∷ []))
    → IfSome old (λ before. new ≡ Some (before ++ (more ++ x ∷ [])))
grew_one None mid new more x a b = tt
grew_one (Some before) mid new more x a b =
    if_some_of mid (before ++ more) (λ told. new ≡ Some (told ++ x ∷ [])) a b ∙ ap Some (append_assoc before more (x ∷ []))

-- so many connections wait behind those that waited
abbrev Waits : {L : Type 0} → Option (List L) → Option (List L) → ℕ → Type 0
Waits {L} old new count = IfSome old (λ before. (links : List L) × (length links ≡ count) × (new ≡ Some (before ++ links)))

waits_stays : {L : Type 0} → (old mid new : Option (List L)) (count : ℕ) → Waits old mid count → Stays mid new → Waits old new count
waits_stays None mid new count a b = tt
waits_stays (Some before) mid new count a b = (a.0, a.1, if_some_of mid (before ++ a.0) (λ told. new ≡ Some told) a.2 b)

waits_one : {L : Type 0} → (old mid new : Option (List L)) (count : ℕ) → Waits old mid count → IfSome mid (λ before. (link : L) × (new ≡ Some (before ++ link ∷ []))) → Waits old new (count + 1)
waits_one None mid new count a b = tt
waits_one {L} (Some before) mid new count a b =
    let more : (link : L) × (new ≡ Some ((before ++ a.0) ++ link ∷ [])) = if_some_of mid (before ++ a.0) (λ (told : List L). (link : L) × (new ≡ Some (told ++ link ∷ []))) a.2 b in
    (a.0 ++ more.0 ∷ [], length-append a.0 (more.0 ∷ []) ∙ ap (λ (n : ℕ). n + 1) a.1, more.1 ∙ ap Some (append_assoc before a.0 (more.0 ∷ [])))

-- ---- all of it

pub launched_one : {L : Type 0} → (scripts : List ClientScript) (script : ClientScript) (old mid new : NetTold L) (count : ℕ) → Launched scripts old mid count
    → IfSome mid.launched (λ before. new.launched ≡ Some (before ++ script ∷ [])) → IfSome mid.waiting (λ before. (link : L) × (new.waiting ≡ Some (before ++ link ∷ [])))
    → Stays mid.listens_on new.listens_on → new.faults ≡ mid.faults → Launched (scripts ++ script ∷ []) old new (count + 1)
launched_one scripts script old mid new count so_far launched waiting listens faults = record {
  started = so_far.started ++ script ∷ [];
  failed = so_far.failed;
  are = one_more scripts so_far.started so_far.failed script so_far.are;
  counted = ap (λ (n : ℕ). n + 1) so_far.counted ∙ sym (length-append so_far.started (script ∷ []));
  launched = grew_one old.launched mid.launched new.launched so_far.started script so_far.launched launched;
  waiting = waits_one old.waiting mid.waiting new.waiting count so_far.waiting waiting;
  listens = stays_both old.listens_on mid.listens_on new.listens_on so_far.listens listens;
  faults = subst (HasRisenBy so_far.failed old.faults) (sym faults) so_far.faults;
}

pub launched_fault : {L : Type 0} → (scripts : List ClientScript) (script : ClientScript) (old mid new : NetTold L) (count : ℕ) → Launched scripts old mid count
    → Stays mid.launched new.launched → Stays mid.waiting new.waiting → Stays mid.listens_on new.listens_on → HasRisen mid.faults new.faults → Launched (scripts ++ script ∷ []) old new count
launched_fault scripts script old mid new count so_far launched waiting listens faults = record {
  started = so_far.started;
  failed = so_far.failed + 1;
  are = one_fault_more scripts so_far.started so_far.failed script so_far.are;
  counted = so_far.counted;
  launched = grew_stays old.launched mid.launched new.launched so_far.started so_far.launched launched;
  waiting = waits_stays old.waiting mid.waiting new.waiting count so_far.waiting waiting;
  listens = stays_both old.listens_on mid.listens_on new.listens_on so_far.listens listens;
  faults = record {
    never_falls = omega (arith, so_far.faults.never_falls, faults.0);
    rose = omega (arith, so_far.faults.rose, faults.1);
    well = λ none. absurd (omega (arith, none));
  };
}

-- memory ran out at a client
pub launched_no_more : {L : Type 0} → (scripts : List ClientScript) (old mid new : NetTold L) (count : ℕ) → Launched scripts old mid count
    → Stays mid.launched new.launched → Stays mid.waiting new.waiting → Stays mid.listens_on new.listens_on → new.faults ≡ mid.faults → Launched scripts old new count
launched_no_more scripts old mid new count so_far launched waiting listens faults = record {
  started = so_far.started;
  failed = so_far.failed;
  are = so_far.are;
  counted = so_far.counted;
  launched = grew_stays old.launched mid.launched new.launched so_far.started so_far.launched launched;
  waiting = waits_stays old.waiting mid.waiting new.waiting count so_far.waiting waiting;
  listens = stays_both old.listens_on mid.listens_on new.listens_on so_far.listens listens;
  faults = subst (HasRisenBy so_far.failed old.faults) (sym faults) so_far.faults;
}

-- ---- in the loop

module _ (scripts : List ClientScript) (place : ℕ) (script : ClientScript) (less : place < length scripts) (is : script ≡ get_or scripts place script) where
  taken : take (place + 1) scripts ≡ take place scripts ++ script ∷ []
  taken = take_more scripts place script less ∙ ap (λ (y : ClientScript). take place scripts ++ y ∷ []) (sym is)

  pub goes_on : {L : Type 0} → (old mid new : NetTold L) (count count_now : ℕ) → count_now ≡ count + 1 → Launched (take place scripts) old mid count
      → IfSome mid.launched (λ before. new.launched ≡ Some (before ++ script ∷ [])) → IfSome mid.waiting (λ before. (link : L) × (new.waiting ≡ Some (before ++ link ∷ [])))
      → Stays mid.listens_on new.listens_on → new.faults ≡ mid.faults → Launched (take (place + 1) scripts) old new count_now
  goes_on old mid new count count_now counted so_far launched waiting listens faults =
      subst (λ (l : List ClientScript). Launched l old new count_now) (sym taken)
      (subst (Launched (take place scripts ++ script ∷ []) old new) (sym counted) (launched_one (take place scripts) script old mid new count so_far launched waiting listens faults))

  pub passes_over : {L : Type 0} → (old mid new : NetTold L) (count : ℕ) → Launched (take place scripts) old mid count
      → Stays mid.launched new.launched → Stays mid.waiting new.waiting → Stays mid.listens_on new.listens_on → HasRisen mid.faults new.faults → Launched (take (place + 1) scripts) old new count
  passes_over old mid new count so_far launched waiting listens faults =
      subst (λ (l : List ClientScript). Launched l old new count) (sym taken) (launched_fault (take place scripts) script old mid new count so_far launched waiting listens faults)

  pub stops : {L : Type 0} → (old mid new : NetTold L) (count : ℕ) → Launched (take place scripts) old mid count
      → Stays mid.launched new.launched → Stays mid.waiting new.waiting → Stays mid.listens_on new.listens_on → new.faults ≡ mid.faults → LaunchedFront scripts old new
  stops old mid new count so_far launched waiting listens faults = record {
    front = take place scripts;
    others = drop place scripts;
    parts = sym (take-append-drop place scripts);
    count = count;
    launched = launched_no_more (take place scripts) old mid new count so_far launched waiting listens faults;
  }

  pub few : {L : Type 0} → (old mid : NetTold L) (count : ℕ) → Launched (take place scripts) old mid count → count + 1 ≤ length scripts
  few old mid count so_far =
      let most = few_started (take place scripts) so_far.started so_far.failed so_far.are in
      let all = length-take place scripts in
      let counted = so_far.counted in
      omega (arith, most, all, counted, less)
