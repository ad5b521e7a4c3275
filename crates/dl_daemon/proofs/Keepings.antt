-- What a status says of the daemon as a whole.
use Rattle.std.proofs.Common.{◌≡◌, ℕ, ◌⊎◌, inl, inr, List, Option, Some, None, refl, sym, subst, ◌∙◌}
use Rattle.std.specs.Prelude.{false, true, IfSome, IsOk, IsSome, IsSomeAnd, Result, Err}
use Rattle.dl_conf.specs.declared.conf.ConfKind.{ConfKind}
use Rattle.dl_conf.specs.declared.stored.StoredKind.{StoredKind}
use Rattle.dl_outside.specs.Folder.{Files}
use Rattle.dl_outside.specs.Told.{LinkTold, SinkTold}
use Rattle.dl_startup.specs.Configuration.{AreSetUp}
use Rattle.dl_startup.specs.Setup.{conf_in, stored_in}
use Rattle.dl_startup.specs.declared.status.Status.{Status}
use Rattle.dl_startup.specs.declared.status.Status.TheVariants as status
use Rattle.dl_words.specs.Daemon.{Daemon, daemon_of}
use Rattle.dl_daemon.specs.declared.left.Left.{Left}
use Rattle.dl_daemon.specs.declared.rounds.Stop.{Stop}
use Rattle.dl_daemon.specs.declared.rounds.Stop.TheVariants as stop
use Rattle.dl_daemon.specs.Outside.{Outside}
use Rattle.dl_daemon.specs.Program.{Ended, EndsEarly, IsClosing, IsKeeping, IsLawful, Says}
use Rattle.dl_daemon.specs.Status.{status_of}

-- the closing was made with one of these
closing_of : (why : Stop) (s : Status) → s ≡ status_of why → IsClosing s
closing_of stop.Asked s is = subst IsClosing (sym is) tt
closing_of stop.Spent s is = subst IsClosing (sym is) tt

module _ {L : Type 0} (link_told : L → LinkTold) (said : List (List ℕ)) (old new : Outside L) where
  -- ---- words

  -- nothing began: the words were refused, or memory ran out, or they ask for it
  asked_so : (s : Status) → EndsEarly said old new s → (s ≡ status.WordsRefused) ⊎ (s ≡ status.OutOfMemory) ⊎ ((asked : Daemon) × (daemon_of said ≡ Some asked))
  asked_so status.WordsRefused h = inl refl
  asked_so status.OutOfMemory h = inr (inl refl)
  asked_so status.NetFault h = inr (inr (h.0.asked, h.0.is_asked))
  asked_so (status.ConfRefused line kind) h = inr (inr (h.0.0, h.0.1))
  asked_so (status.StoredRefused line kind) h = inr (inr (h.0.0, h.0.1))
  asked_so (status.ScriptRefused line kind) h = inr (inr (h.0.0, h.0.1))
  asked_so (status.StorageRefused line kind) h = inr (inr (h.0.0, h.0.1))
  asked_so status.FolderFault h = inr (inr (h.0.0, h.0.1))
  asked_so status.Ok h = inr (inr (h.0.0, h.0.1))
  asked_so status.WriteFault h = inr (inr (h.0.0, h.0.1))
  asked_so status.NamesSpent h = inr (inr (h.0.0, h.0.1))
  asked_so status.ReadFault h = inr (inr (h.0.0, h.0.1))
  asked_so status.JournalFull h = inr (inr (h.0.0, h.0.1))

  not_both : (asked : Daemon) → daemon_of said ≡ None → daemon_of said ≡ Some asked → ⊥
  not_both asked none some = let both : None ≡ Some asked = sym none ∙ some in cc

  words_decide : (s : Status) (left : Option (Left L)) → Ended link_told said old new s left → daemon_of said ≡ None → (s ≡ status.WordsRefused) ⊎ (s ≡ status.OutOfMemory)
  words_decide s (Some left) h none = absurd (not_both h.2.it.asked none h.2.it.is_asked)
  words_decide s None h none = elim (asked_so s h) [
    | inl refused ↦ inl refused
    | inr w ↦ elim w [
      | inl memory ↦ inr memory
      | inr asked ↦ absurd (not_both asked.0 none asked.1)
    ]
  ]

  words_refused : (s : Status) (left : Option (Left L)) → Ended link_told said old new s left → s ≡ status.WordsRefused → daemon_of said ≡ None
  words_refused s (Some left) h refused = absurd (subst IsClosing refused (closing_of h.0 s h.1))
  words_refused s None h refused =
      let early : EndsEarly said old new status.WordsRefused = subst (λ (t : Status). EndsEarly said old new t) refused h in early.0.0

  -- ---- the closing

  -- it was made
  closes : (s : Status) (left : Option (Left L)) → Ended link_told said old new s left → IsClosing s → IsSome left
  closes s (Some left) h closing = refl
  closes status.Ok None h closing = absurd h.0.2
  closes status.JournalFull None h closing = absurd h.0.2
  closes status.WriteFault None h closing = absurd closing
  closes status.NamesSpent None h closing = absurd closing
  closes status.NetFault None h closing = absurd closing
  closes status.FolderFault None h closing = absurd closing
  closes status.OutOfMemory None h closing = absurd closing
  closes status.WordsRefused None h closing = absurd closing
  closes (status.ConfRefused line kind) None h closing = absurd closing
  closes (status.StoredRefused line kind) None h closing = absurd closing
  closes (status.ScriptRefused line kind) None h closing = absurd closing
  closes (status.StorageRefused line kind) None h closing = absurd closing
  closes status.ReadFault None h closing = absurd closing

  closed : (s : Status) (left : Option (Left L)) → Ended link_told said old new s left → IsSome left → IsClosing s
  closed s (Some left) h some = closing_of h.0 s h.1
  closed s None h some = absurd (let bad : false ≡ true = some in cc)

  -- ---- completeness

  not_ok : {A E : Type 0} → (r : Result A E) (e : E) → r ≡ Err e → IsOk r → ⊥
  not_ok r e fails ok = let bad : false ≡ true = subst (λ v. IsOk v) fails ok in cc

  conf_is_good : (name : List ℕ) (files : Option Files) (fault : ℕ × ConfKind) → IsSomeAnd files (AreSetUp name) → IfSome files (λ all. conf_in name all ≡ Err fault) → ⊥
  conf_is_good name None fault good bad = good
  conf_is_good name (Some files) fault good bad = not_ok (conf_in name files) fault bad good.conf

  stored_is_good : (name : List ℕ) (files : Option Files) (fault : ℕ × StoredKind) → IsSomeAnd files (AreSetUp name) → IfSome files (λ all. IsOk (conf_in name all) × (stored_in all ≡ Err fault)) → ⊥
  stored_is_good name None fault good bad = good
  stored_is_good name (Some files) fault good bad = not_ok (stored_in files) fault bad.1 good.stored

  module _ (asked : Daemon) (is_asked : daemon_of said ≡ Some asked) (lawful : IsLawful asked old new) where
    -- one of those with which all was well
    abbrev IsWell : Status → Type 0
    IsWell s = (s ≡ status.Ok) ⊎ (s ≡ status.JournalFull) ⊎ (s ≡ status.OutOfMemory)

    same : (other : Daemon) → daemon_of said ≡ Some other → other ≡ asked
    same other is = let both : Some other ≡ Some asked = sym is ∙ is_asked in cc

    ends_early_well : (s : Status) → EndsEarly said old new s → IsWell s
    ends_early_well status.OutOfMemory h = inr (inr refl)
    ends_early_well status.NetFault h = elim h.2 [ inl net ↦ absurd (lawful.net net.0.rose) | inr users ↦ absurd (lawful.users users.1.rose) ]
    ends_early_well status.WordsRefused h = absurd (not_both asked h.0.0 is_asked)
    ends_early_well (status.ConfRefused line kind) h =
        absurd (conf_is_good asked.conf old.folder.files (line, kind) lawful.confs (subst (λ (a : Daemon). IfSome old.folder.files (λ all. conf_in a.conf all ≡ Err (line, kind))) (same h.0.0 h.0.1) h.0.2.0))
    ends_early_well (status.StoredRefused line kind) h =
        absurd (stored_is_good asked.conf old.folder.files (line, kind) lawful.confs
        (subst (λ (a : Daemon). IfSome old.folder.files (λ all. IsOk (conf_in a.conf all) × (stored_in all ≡ Err (line, kind)))) (same h.0.0 h.0.1) h.0.2.0))
    ends_early_well (status.ScriptRefused line kind) h = absurd h.0.2
    ends_early_well status.FolderFault h = absurd (lawful.keeps h.0.2.0)
    ends_early_well status.Ok h = absurd h.0.2
    ends_early_well (status.StorageRefused line kind) h = absurd h.0.2
    ends_early_well status.WriteFault h = absurd h.0.2
    ends_early_well status.NamesSpent h = absurd h.0.2
    ends_early_well status.ReadFault h = absurd h.0.2
    ends_early_well status.JournalFull h = absurd h.0.2

    ends_well : (why : Stop) (s : Status) → s ≡ status_of why → IsWell s
    ends_well stop.Asked s is = inl is
    ends_well stop.Spent s is = inr (inl is)

    complete : (s : Status) (left : Option (Left L)) → Ended link_told said old new s left → IsWell s
    complete s None h = ends_early_well s h
    complete s (Some left) h = ends_well h.0 s h.1

  -- ---- the whole

  pub a_keeping : (err err_now : SinkTold) (s : Status) (left : Option (Left L)) → Ended link_told said old new s left → Says s err err_now → IsKeeping link_told said old new err err_now s left
  a_keeping err err_now s left ended told = record {
    words_refused = words_refused s left ended;
    words_decide = words_decide s left ended;
    outcome = ended;
    closes = closes s left ended;
    closed = closed s left ended;
    complete = λ asked is_asked lawful. complete asked is_asked lawful s left ended;
    told = told;
  }
