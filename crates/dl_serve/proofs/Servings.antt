-- What a status says of serving as a whole.
use Rattle.std.proofs.Common.{◌≡◌, ℕ, ◌⊎◌, inl, inr, Bool, List, Option, Some, None, refl, sym, subst, ◌∙◌}
use Rattle.std.specs.Prelude.{false, true, IfSome, IsOk, IsSome, IsSomeAnd, Result, Err}
use Rattle.dl_conf.specs.declared.conf.ConfKind.{ConfKind}
use Rattle.dl_conf.specs.declared.stored.StoredKind.{StoredKind}
use Rattle.dl_outside.specs.Folder.{Files}
use Rattle.dl_outside.specs.Told.{LinkTold, SinkTold}
use Rattle.dl_outside.specs.Written.{Wrote, WroteNothing}
use Rattle.dl_startup.specs.Configuration.{AreSetUp}
use Rattle.dl_startup.specs.Setup.{conf_in, stored_in}
use Rattle.dl_startup.specs.declared.status.Status.{Status}
use Rattle.dl_startup.specs.declared.status.Status.TheVariants as status
use Rattle.dl_words.specs.Serve.{Serve, serve_of}
use Rattle.dl_serve.specs.declared.closed.Closed.{Closed}
use Rattle.dl_serve.specs.Ends.{Ends, EndsEarly}
use Rattle.dl_serve.specs.Closed.{text_of}
use Rattle.dl_serve.specs.Program.{Ended, IsLawful, IsReported, IsServing, Says, counts}
use Rattle.dl_serve.specs.Told.{Told}

module _ {L : Type 0} (link_told : L → LinkTold) (said : List (List ℕ)) (old new : Told L) where
  -- ---- words

  -- nothing was served: the words were refused, or memory ran out, or they ask for it
  asked_so : (s : Status) → EndsEarly said old new s → (s ≡ status.WordsRefused) ⊎ (s ≡ status.OutOfMemory) ⊎ ((asked : Serve) × (serve_of said ≡ Some asked))
  asked_so status.WordsRefused h = inl refl
  asked_so status.OutOfMemory h = inr (inl refl)
  asked_so status.NetFault h = inr (inr (h.0.asked, h.0.is_asked))
  asked_so (status.ConfRefused line kind) h = inr (inr (h.0.0, h.0.1))
  asked_so (status.StoredRefused line kind) h = inr (inr (h.0.0, h.0.1))
  asked_so (status.ScriptRefused line kind) h = inr (inr (h.0.0, h.0.1))
  asked_so (status.StorageRefused line kind) h = inr (inr (h.0.0, h.0.1))
  asked_so status.FolderFault h = inr (inr (h.0.0, h.0.1))
  asked_so status.Ok h = inr (inr (h.0.0, h.0.1))
  asked_so status.WriteFault h = inr (inr (h.0.0, h.0.1))
  asked_so status.NamesSpent h = inr (inr (h.0.0, h.0.1))
  asked_so status.ReadFault h = inr (inr (h.0.0, h.0.1))
  asked_so status.JournalFull h = inr (inr (h.0.0, h.0.1))

  not_both : (asked : Serve) → serve_of said ≡ None → serve_of said ≡ Some asked → ⊥
  not_both asked none some = let both : None ≡ Some asked = sym none ∙ some in cc

  words_decide : (s : Status) (closed : Option (Closed L)) → Ended link_told said old new s closed → serve_of said ≡ None → (s ≡ status.WordsRefused) ⊎ (s ≡ status.OutOfMemory)
  words_decide s (Some closed) h none = absurd (not_both h.1.it.asked none h.1.it.is_asked)
  words_decide s None h none = elim (asked_so s h.0) [
    | inl refused ↦ inl refused
    | inr w ↦ elim w [
      | inl memory ↦ inr memory
      | inr asked ↦ absurd (not_both asked.0 none asked.1)
    ]
  ]

  words_refused : (s : Status) (closed : Option (Closed L)) → Ended link_told said old new s closed → s ≡ status.WordsRefused → serve_of said ≡ None
  words_refused s (Some closed) h refused = absurd (subst (λ (t : Status). Ends closed h.0 (counts old) (counts new) old.out new.out t) refused h.2)
  words_refused s None h refused =
      let early : EndsEarly said old new status.WordsRefused = subst (λ (t : Status). EndsEarly said old new t) refused h.0 in early.0.0

  -- ---- what is written

  reported : (closed : Closed L) (full : Bool) (s : Status) → Ends closed full (counts old) (counts new) old.out new.out s → WroteNothing old.out new.out ⊎ Wrote old.out new.out (text_of closed)
  reported closed full status.Ok h = inr (inl h.0)
  reported closed full status.NetFault h = inr h.0
  reported closed full status.FolderFault h = inr h.0
  reported closed full status.NamesSpent h = inr h.0
  reported closed full status.JournalFull h = inr h.0
  reported closed full status.WriteFault h = inr (inr h.0)
  reported closed full status.OutOfMemory h = elim h [ inl nothing ↦ inl nothing | inr w ↦ inr (inl w.0) ]
  reported closed full status.WordsRefused h = absurd h
  reported closed full (status.ConfRefused line kind) h = absurd h
  reported closed full (status.StoredRefused line kind) h = absurd h
  reported closed full (status.ScriptRefused line kind) h = absurd h
  reported closed full (status.StorageRefused line kind) h = absurd h
  reported closed full status.ReadFault h = absurd h

  written : (s : Status) (closed : Option (Closed L)) → Ended link_told said old new s closed → WroteNothing old.out new.out ⊎ ((left : Closed L) × (closed ≡ Some left) × Wrote old.out new.out (text_of left))
  written s None h = inl h.1
  written s (Some closed) h = elim (reported closed h.0 s h.2) [ inl nothing ↦ inl nothing | inr wrote ↦ inr (closed, refl, wrote) ]

  -- the closing was made
  closes : (s : Status) (closed : Option (Closed L)) → Ended link_told said old new s closed → IsReported s → IsSome closed
  closes s (Some closed) h reports = refl
  closes status.Ok None h reports = absurd h.0.0.2
  closes status.WriteFault None h reports = absurd h.0.0.2
  closes status.NamesSpent None h reports = absurd h.0.0.2
  closes status.JournalFull None h reports = absurd h.0.0.2
  closes status.NetFault None h reports = absurd reports
  closes status.FolderFault None h reports = absurd reports
  closes status.OutOfMemory None h reports = absurd reports
  closes status.WordsRefused None h reports = absurd reports
  closes (status.ConfRefused line kind) None h reports = absurd reports
  closes (status.StoredRefused line kind) None h reports = absurd reports
  closes (status.ScriptRefused line kind) None h reports = absurd reports
  closes (status.StorageRefused line kind) None h reports = absurd reports
  closes status.ReadFault None h reports = absurd reports

  -- ---- completeness

  not_ok : {A E : Type 0} → (r : Result A E) (e : E) → r ≡ Err e → IsOk r → ⊥
  not_ok r e fails ok = let bad : false ≡ true = subst (λ v. IsOk v) fails ok in cc

  conf_is_good : (name : List ℕ) (files : Option Files) (fault : ℕ × ConfKind) → IsSomeAnd files (AreSetUp name) → IfSome files (λ all. conf_in name all ≡ Err fault) → ⊥
  conf_is_good name None fault good bad = good
  conf_is_good name (Some files) fault good bad = not_ok (conf_in name files) fault bad good.conf

  stored_is_good : (name : List ℕ) (files : Option Files) (fault : ℕ × StoredKind) → IsSomeAnd files (AreSetUp name) → IfSome files (λ all. IsOk (conf_in name all) × (stored_in all ≡ Err fault)) → ⊥
  stored_is_good name None fault good bad = good
  stored_is_good name (Some files) fault good bad = not_ok (stored_in files) fault bad.1 good.stored

  module _ (asked : Serve) (is_asked : serve_of said ≡ Some asked) (lawful : IsLawful asked old new) where
    -- one of those with which all was well
    abbrev IsWell : Status → Type 0
    IsWell s = (s ≡ status.Ok) ⊎ (s ≡ status.NamesSpent) ⊎ (s ≡ status.JournalFull) ⊎ (s ≡ status.OutOfMemory)

    same : (other : Serve) → serve_of said ≡ Some other → other ≡ asked
    same other is = let both : Some other ≡ Some asked = sym is ∙ is_asked in cc

    ends_early_well : (s : Status) → EndsEarly said old new s → IsWell s
    ends_early_well status.OutOfMemory h = inr (inr (inr refl))
    ends_early_well status.NetFault h = elim h.2 [ inl net ↦ absurd (lawful.net net.0.rose) | inr users ↦ absurd (lawful.users users.1.rose) ]
    ends_early_well status.WordsRefused h = absurd (not_both asked h.0.0 is_asked)
    ends_early_well (status.ConfRefused line kind) h =
        absurd (conf_is_good asked.conf old.folder.files (line, kind) lawful.confs (subst (λ (a : Serve). IfSome old.folder.files (λ all. conf_in a.conf all ≡ Err (line, kind))) (same h.0.0 h.0.1) h.0.2.0))
    ends_early_well (status.StoredRefused line kind) h =
        absurd (stored_is_good asked.conf old.folder.files (line, kind) lawful.confs
        (subst (λ (a : Serve). IfSome old.folder.files (λ all. IsOk (conf_in a.conf all) × (stored_in all ≡ Err (line, kind)))) (same h.0.0 h.0.1) h.0.2.0))
    ends_early_well (status.ScriptRefused line kind) h = absurd h.0.2
    ends_early_well status.FolderFault h = absurd (lawful.keeps h.0.2.0)
    ends_early_well status.Ok h = absurd h.0.2
    ends_early_well (status.StorageRefused line kind) h = absurd h.0.2
    ends_early_well status.WriteFault h = absurd h.0.2
    ends_early_well status.NamesSpent h = absurd h.0.2
    ends_early_well status.ReadFault h = absurd h.0.2
    ends_early_well status.JournalFull h = absurd h.0.2

    ends_well : (closed : Closed L) (full : Bool) (s : Status) → Ends closed full (counts old) (counts new) old.out new.out s → IsWell s
    ends_well closed full status.Ok h = inl refl
    ends_well closed full status.NamesSpent h = inr (inl refl)
    ends_well closed full status.JournalFull h = inr (inr (inl refl))
    ends_well closed full status.OutOfMemory h = inr (inr (inr refl))
    ends_well closed full status.NetFault h = elim h.1 [ inl net ↦ absurd (lawful.net net) | inr users ↦ absurd (lawful.users users) ]
    ends_well closed full status.FolderFault h = absurd (lawful.keeps h.2)
    ends_well closed full status.WriteFault h = absurd (lawful.writes h.0.failed)
    ends_well closed full status.WordsRefused h = absurd h
    ends_well closed full (status.ConfRefused line kind) h = absurd h
    ends_well closed full (status.StoredRefused line kind) h = absurd h
    ends_well closed full (status.ScriptRefused line kind) h = absurd h
    ends_well closed full (status.StorageRefused line kind) h = absurd h
    ends_well closed full status.ReadFault h = absurd h

    complete : (s : Status) (closed : Option (Closed L)) → Ended link_told said old new s closed → IsWell s
    complete s None h = ends_early_well s h.0
    complete s (Some closed) h = ends_well closed h.0 s h.2

  -- ---- the whole

  pub a_serving : (err err_now : SinkTold) (s : Status) (closed : Option (Closed L)) → Ended link_told said old new s closed → Says s err err_now → IsServing link_told said old new err err_now s closed
  a_serving err err_now s closed ended told = record {
    words_refused = words_refused s closed ended;
    words_decide = words_decide s closed ended;
    outcome = ended;
    written = written s closed ended;
    closes = closes s closed ended;
    complete = λ asked is_asked lawful. complete asked is_asked lawful s closed ended;
    told = told;
  }
