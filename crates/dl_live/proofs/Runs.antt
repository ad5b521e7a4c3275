-- What a status says of a run as a whole.
use Rattle.std.proofs.Common.{◌≡◌, ℕ, ◌⊎◌, inl, inr, List, Option, Some, None, refl, sym, subst, ◌∙◌}
use Rattle.std.specs.Prelude.{false, true, IfSome, IsOk, IsSomeAnd, Result, Err}
use Rattle.dl_conf.specs.declared.conf.ConfKind.{ConfKind}
use Rattle.dl_conf.specs.declared.stored.StoredKind.{StoredKind}
use Rattle.dl_account.specs.State.{AccountState}
use Rattle.dl_outside.specs.Folder.{Files}
use Rattle.dl_outside.specs.Links.{Links}
use Rattle.dl_outside.specs.Told.{LinkTold, SinkTold}
use Rattle.dl_outside.specs.Written.{Wrote, WroteNothing}
use Rattle.dl_script.specs.declared.error.ScriptError.{ScriptError}
use Rattle.dl_script.specs.declared.error.ScriptError.TheVariants as bad
use Rattle.dl_startup.specs.Configuration.{AreSetUp}
use Rattle.dl_live.specs.Scenario.{scenario_in}
use Rattle.dl_startup.specs.Setup.{conf_in, stored_in}
use Rattle.dl_startup.specs.declared.status.Status.{Status}
use Rattle.dl_startup.specs.declared.storage_kind.StorageKind.{StorageKind}
use Rattle.dl_storage.specs.declared.ends.StoreEnd.{StoreEnd}
use Rattle.dl_storage.specs.declared.ends.StoreEnds.{StoreEnds}
use Rattle.dl_startup.specs.declared.status.Status.TheVariants as status
use Rattle.dl_words.specs.Run as words
use Rattle.dl_live.specs.declared.beginning.Begun.{Begun}
use Rattle.dl_live.specs.Account.{Started}
use Rattle.dl_live.specs.Ends.{Ends, EndsEarly, EndsStored, report}
use Rattle.dl_live.specs.Filters.{filters_in}
use Rattle.dl_live.specs.Program.{ChangesNoOther, IsLawful, IsRun, Outcome, Says}
use Rattle.dl_live.specs.Told.{Told}

module _ {L : Type 0} (link_told : L → LinkTold) (said : List (List ℕ)) (old new : Told L) where
  -- ---- words

  -- a run that came to no account: its words were refused, or memory ran out, or they ask for a run
  asked_so : (s : Status) → EndsEarly said old new s → (s ≡ status.WordsRefused) ⊎ (s ≡ status.OutOfMemory) ⊎ ((asked : words.Run) × (words.run_of said ≡ Some asked))
  asked_so status.WordsRefused h = inl refl
  asked_so status.OutOfMemory h = inr (inl refl)
  asked_so status.NetFault h = inr (inr (h.0.asked, h.0.is_asked))
  asked_so (status.ConfRefused line kind) h = inr (inr (h.0.0, h.0.1))
  asked_so (status.StoredRefused line kind) h = inr (inr (h.0.0, h.0.1))
  asked_so (status.ScriptRefused line kind) h = inr (inr (h.0.0, h.0.1))
  asked_so (status.StorageRefused line kind) h = inr (inr (h.0.0, h.0.1))
  asked_so status.FolderFault h = inr (inr (h.0.0, h.0.1))
  asked_so status.Ok h = inr (inr (h.0.0, h.0.1))
  asked_so status.WriteFault h = inr (inr (h.0.0, h.0.1))
  asked_so status.NamesSpent h = inr (inr (h.0.0, h.0.1))
  asked_so status.ReadFault h = inr (inr (h.0.0, h.0.1))
  asked_so status.JournalFull h = inr (inr (h.0.0, h.0.1))

  not_both : (asked : words.Run) → words.run_of said ≡ None → words.run_of said ≡ Some asked → ⊥
  not_both asked none some = let both : None ≡ Some asked = sym none ∙ some in cc

  words_decide : (s : Status) (account : Option AccountState) (stored : Option StoreEnds) (links : Links L) → Outcome link_told said old new s account stored links
      → words.run_of said ≡ None → (s ≡ status.WordsRefused) ⊎ (s ≡ status.OutOfMemory)
  words_decide s (Some account) stored links h none = absurd (not_both h.0.it.asked none h.0.it.is_asked)
  words_decide s None stored links h none = elim (asked_so s h.0) [
    | inl refused ↦ inl refused
    | inr w ↦ elim w [
      | inl memory ↦ inr memory
      | inr asked ↦ absurd (not_both asked.0 none asked.1)
    ]
  ]

  no_refusal : (begun : Begun) (account : AccountState) (stored : Option StoreEnds) → Ends begun account stored old new status.WordsRefused → ⊥
  no_refusal begun account None h = let both : status.WordsRefused ≡ status.OutOfMemory = h.0 in cc both
  no_refusal begun account (Some ends) h = h

  words_refused : (s : Status) (account : Option AccountState) (stored : Option StoreEnds) (links : Links L) → Outcome link_told said old new s account stored links
      → s ≡ status.WordsRefused → words.run_of said ≡ None
  words_refused s (Some account) stored links h refused =
      absurd (no_refusal h.0.it.begun account stored (subst (λ (t : Status). Ends h.0.it.begun account stored old new t) refused h.1))
  words_refused s None stored links h refused =
      let early : EndsEarly said old new status.WordsRefused = subst (λ (t : Status). EndsEarly said old new t) refused h.0 in early.0.0

  -- ---- what is written

  reported : (begun : Begun) (account : AccountState) (ends : List StoreEnd) (s : Status) → EndsStored begun account ends old new s
      → WroteNothing old.out new.out ⊎ Wrote old.out new.out (report begun account ends)
  reported begun account ends status.Ok h = inr (inl h.0)
  reported begun account ends status.NetFault h = inr h.0
  reported begun account ends status.FolderFault h = inr h.0
  reported begun account ends status.NamesSpent h = inr h.0
  reported begun account ends status.WriteFault h = inr (inr h.0)
  reported begun account ends status.OutOfMemory h = elim h [ inl nothing ↦ inl nothing | inr w ↦ inr (inl w.0) ]
  reported begun account ends status.WordsRefused h = absurd h
  reported begun account ends (status.ConfRefused line kind) h = absurd h
  reported begun account ends (status.StoredRefused line kind) h = absurd h
  reported begun account ends (status.ScriptRefused line kind) h = absurd h
  reported begun account ends (status.StorageRefused line kind) h = absurd h
  reported begun account ends status.ReadFault h = absurd h
  reported begun account ends status.JournalFull h = absurd h

  written : (s : Status) (account : Option AccountState) (stored : Option StoreEnds) (links : Links L) → Outcome link_told said old new s account stored links
      → WroteNothing old.out new.out
      ⊎ ((told : AccountState) × (account ≡ Some told) × (ends : StoreEnds) × (stored ≡ Some ends)
      × (it : Started said old.folder) × Wrote old.out new.out (report it.begun told ends.filters))
  written s None stored links h = inl h.1
  written s (Some account) None links h = inl h.1.1
  written s (Some account) (Some ends) links h = elim (reported h.0.it.begun account ends.filters s h.1) [
    | inl nothing ↦ inl nothing
    | inr wrote ↦ inr (account, refl, ends, refl, h.0.it, wrote)
  ]

  -- ---- completeness

  not_ok : {A E : Type 0} → (r : Result A E) (e : E) → r ≡ Err e → IsOk r → ⊥
  not_ok r e fails ok = let bad : false ≡ true = subst (λ v. IsOk v) fails ok in cc

  conf_is_good : (name : List ℕ) (files : Option Files) (fault : ℕ × ConfKind) → IsSomeAnd files (AreSetUp name) → IfSome files (λ all. conf_in name all ≡ Err fault) → ⊥
  conf_is_good name None fault good bad = good
  conf_is_good name (Some files) fault good bad = not_ok (conf_in name files) fault bad good.conf

  stored_is_good : (name : List ℕ) (files : Option Files) (fault : ℕ × StoredKind) → IsSomeAnd files (AreSetUp name) → IfSome files (λ all. IsOk (conf_in name all) × (stored_in all ≡ Err fault)) → ⊥
  stored_is_good name None fault good bad = good
  stored_is_good name (Some files) fault good bad = not_ok (stored_in files) fault bad.1 good.stored

  filters_are_good : (name : List ℕ) (files : Option Files) (fault : ℕ × StorageKind) → IsSomeAnd files (λ all. IsOk (filters_in all))
      → IfSome files (λ all. AreSetUp name all × (filters_in all ≡ Err fault)) → ⊥
  filters_are_good name None fault good bad = good
  filters_are_good name (Some files) fault good bad = not_ok (filters_in files) fault bad.1 good

  scenario_is_good : (asked : words.Run) (files : Option Files) (fault : ScriptError) → IsSomeAnd files (λ all. IsOk (scenario_in asked.scenario all))
      → IfSome files (λ all. AreSetUp asked.conf all × IsOk (filters_in all) × (scenario_in asked.scenario all ≡ Err fault)) → ⊥
  scenario_is_good asked None fault good bad = good
  scenario_is_good asked (Some files) fault good bad = not_ok (scenario_in asked.scenario files) fault bad.2 good

  module _ (asked : words.Run) (is_asked : words.run_of said ≡ Some asked) (lawful : IsLawful asked old new) where
    same : (other : words.Run) → words.run_of said ≡ Some other → other ≡ asked
    same other is = let both : Some other ≡ Some asked = sym is ∙ is_asked in cc

    ends_early_well : (s : Status) → EndsEarly said old new s → (s ≡ status.Ok) ⊎ (s ≡ status.NamesSpent) ⊎ (s ≡ status.OutOfMemory)
    ends_early_well status.OutOfMemory h = inr (inr refl)
    ends_early_well status.NetFault h = absurd (lawful.dials h.1)
    ends_early_well status.WordsRefused h = absurd (not_both asked h.0.0 is_asked)
    ends_early_well (status.ConfRefused line kind) h =
        absurd (conf_is_good asked.conf old.folder.files (line, kind) lawful.confs (subst (λ (a : words.Run). IfSome old.folder.files (λ all. conf_in a.conf all ≡ Err (line, kind))) (same h.0.0 h.0.1) h.0.2.0))
    ends_early_well (status.StoredRefused line kind) h =
        absurd (stored_is_good asked.conf old.folder.files (line, kind) lawful.confs
        (subst (λ (a : words.Run). IfSome old.folder.files (λ all. IsOk (conf_in a.conf all) × (stored_in all ≡ Err (line, kind)))) (same h.0.0 h.0.1) h.0.2.0))
    ends_early_well (status.ScriptRefused line kind) h =
        absurd (scenario_is_good asked old.folder.files (bad.Fault line kind) lawful.scenario
        (subst (λ (a : words.Run). IfSome old.folder.files (λ all. AreSetUp a.conf all × IsOk (filters_in all) × (scenario_in a.scenario all ≡ Err (bad.Fault line kind)))) (same h.0.0 h.0.1) h.0.2.0))
    ends_early_well status.FolderFault h = absurd (lawful.keeps h.0.2.0)
    ends_early_well status.Ok h = absurd h.0.2
    ends_early_well (status.StorageRefused line kind) h =
        absurd (filters_are_good asked.conf old.folder.files (line, kind) lawful.filters
        (subst (λ (a : words.Run). IfSome old.folder.files (λ all. AreSetUp a.conf all × (filters_in all ≡ Err (line, kind)))) (same h.0.0 h.0.1) h.0.2.0))
    ends_early_well status.WriteFault h = absurd h.0.2
    ends_early_well status.NamesSpent h = absurd h.0.2
    ends_early_well status.ReadFault h = absurd h.0.2
    ends_early_well status.JournalFull h = absurd h.0.2

    ends_well : (begun : Begun) (account : AccountState) (ends : List StoreEnd) (s : Status) → EndsStored begun account ends old new s → (s ≡ status.Ok) ⊎ (s ≡ status.NamesSpent) ⊎ (s ≡ status.OutOfMemory)
    ends_well begun account ends status.Ok h = inl refl
    ends_well begun account ends status.NamesSpent h = inr (inl refl)
    ends_well begun account ends status.OutOfMemory h = inr (inr refl)
    ends_well begun account ends status.NetFault h = absurd (lawful.dials h.1)
    ends_well begun account ends status.FolderFault h = absurd (lawful.keeps h.2)
    ends_well begun account ends status.WriteFault h = absurd (lawful.writes h.0.failed)
    ends_well begun account ends status.WordsRefused h = absurd h
    ends_well begun account ends (status.ConfRefused line kind) h = absurd h
    ends_well begun account ends (status.StoredRefused line kind) h = absurd h
    ends_well begun account ends (status.ScriptRefused line kind) h = absurd h
    ends_well begun account ends (status.StorageRefused line kind) h = absurd h
    ends_well begun account ends status.ReadFault h = absurd h
    ends_well begun account ends status.JournalFull h = absurd h

    complete : (s : Status) (account : Option AccountState) (stored : Option StoreEnds) (links : Links L) → Outcome link_told said old new s account stored links
        → (s ≡ status.Ok) ⊎ (s ≡ status.NamesSpent) ⊎ (s ≡ status.OutOfMemory)
    complete s None stored links h = ends_early_well s h.0
    complete s (Some account) None links h = inr (inr h.1.0)
    complete s (Some account) (Some ends) links h = ends_well h.0.it.begun account ends.filters s h.1

  -- ---- the whole

  pub a_run : (err err_now : SinkTold) (s : Status) (account : Option AccountState) (stored : Option StoreEnds) (links : Links L) → Outcome link_told said old new s account stored links
      → ChangesNoOther said old.folder new.folder → Says s err err_now → IsRun link_told said old new err err_now s account stored links
  a_run err err_now s account stored links outcome others told = record {
    words_refused = words_refused s account stored links outcome;
    words_decide = words_decide s account stored links outcome;
    outcome = outcome;
    written = written s account stored links outcome;
    others = others;
    complete = λ asked is_asked lawful. complete asked is_asked lawful s account stored links outcome;
    told = told;
  }
