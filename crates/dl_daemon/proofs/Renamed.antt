-- A stored configuration that is put under another name, call by call.
use Rattle.std.proofs.Common.{◌≡◌, ◌≢◌, ◌⊎◌, ℕ, List, length, Option, Some, None, refl, sym, ap, subst, ◌∙◌, inl, inr, arith}
use Rattle.std.specs.Prelude.{IfSome, IsOk, Result, Ok, Err, is_ok}
use Rattle.std.specs.FinMap as map
use Rattle.std.specs.Option.{option_map_or}
use Rattle.dl_conf.specs.Stored.{stored_said}
use Rattle.dl_outside.specs.Folder.{Files, IsOldOrNew, Puts, Removes}
use Rattle.dl_outside.specs.Outside.{Stays}
use Rattle.dl_outside.specs.declared.folder.FolderFault.{FolderFault}
use Rattle.dl_outside.specs.declared.folder.FolderFault.TheVariants.{Failed, OutOfMemory}
use Rattle.dl_trace.proofs.Holding.{gone_other, put_other, put_same}
use Rattle.dl_daemon.specs.Aside.{IsAside, IsKept, Renames, bad_name, renamed}
use Rattle.dl_startup.specs.Setup.{none_stored, stored_in, stored_name}
use Rattle.dl_daemon.specs.declared.aside.BadStored.{BadStored}
use Rattle.dl_lemmas.proofs.Options.{if_some_of}

-- ---- two names

apart : bad_name ≢ stored_name
apart e =
    let long : 18 ≡ 14 = ap (λ (name : List ℕ). length name) e in
    omega (arith, long)

apart_so : stored_name ≢ bad_name
apart_so e = apart (sym e)

-- ---- what is kept

same_kept : (files : Files) (found : Option (List ℕ)) → map.get files stored_name ≡ found → IsKept found files files
same_kept files found is = record { others = λ name a b. refl; text = inl is }

put_kept : (files : Files) (text : List ℕ) → map.get files stored_name ≡ Some text → IsKept (Some text) files (map.insert files bad_name text)
put_kept files text is = record {
  others = λ name a b. put_other files bad_name text name b;
  text = inl (put_other files bad_name text stored_name apart_so ∙ is);
}

but_kept : (files now : Files) (text : List ℕ) → map.remove now stored_name ≡ map.remove (map.insert files bad_name text) stored_name → IsKept (Some text) files now
but_kept files now text is =
    let put = map.insert files bad_name text in
    record {
      others = λ name a b. sym (gone_other now stored_name name a) ∙ ap (λ (m : Files). map.get m name) is ∙ gone_other put stored_name name a ∙ put_other files bad_name text name b;
      text = inr (sym (gone_other now stored_name bad_name apart) ∙ ap (λ (m : Files). map.get m bad_name) is ∙ gone_other put stored_name bad_name apart ∙ put_same files bad_name text);
    }

-- ---- put, and removed

old_or_new : (files : Files) (new : Option Files) (text : List ℕ) → (new ≡ Some files) ⊎ (new ≡ Some (map.insert files bad_name text)) → map.get files stored_name ≡ Some text
    → (now : Files) × (new ≡ Some now) × IsKept (Some text) files now
old_or_new files new text (inl is) stood = (files, is, same_kept files (Some text) stood)
old_or_new files new text (inr is) stood = (map.insert files bad_name text, is, put_kept files text stood)

pub not_put : (text : List ℕ) (old new : Option Files) (fault : FolderFault) → Puts old new (Err fault) bad_name text → IsOldOrNew old new (Err fault) bad_name text → Renames text old new (Err fault)
not_put text None new fault puts whole = tt
not_put text (Some files) new Failed puts whole = old_or_new files new text whole
not_put text (Some files) new OutOfMemory puts whole = λ stood. (files, puts, same_kept files (Some text) stood)

pub put_so : (text : List ℕ) (old mid new : Option Files) (result : Result (Unit {0}) FolderFault) → IfSome old (λ files. mid ≡ Some (map.insert files bad_name text))
    → Removes mid new result stored_name → Renames text old new result
put_so text None mid new (Ok done) puts gone = tt
put_so text None mid new (Err fault) puts gone = tt
put_so text (Some files) mid new (Ok done) puts gone =
    if_some_of mid (map.insert files bad_name text) (λ all. new ≡ Some (map.remove all stored_name)) puts gone
put_so text (Some files) mid new (Err Failed) puts gone = λ stood.
    let step = if_some_of mid (map.insert files bad_name text) (λ all. (now : Files) × (new ≡ Some now) × (map.remove now stored_name ≡ map.remove all stored_name)) puts gone in
    (step.0, step.1, but_kept files step.0 text step.2)
put_so text (Some files) mid new (Err OutOfMemory) puts gone = λ stood.
    (map.insert files bad_name text, if_some_of mid (map.insert files bad_name text) (λ all. new ≡ Some all) puts gone, put_kept files text stood)

-- ---- what is said of it

pub none_stands : (told : Option Files) (found : Option (List ℕ)) → IfSome told (λ all. found ≡ map.get all stored_name) → found ≡ None → IfSome told (λ files. IsOk (stored_in files))
none_stands None found is none = tt
none_stands (Some files) found is none = ap (λ (x : Option (List ℕ)). is_ok (option_map_or stored_said x (Ok none_stored))) (sym is ∙ none)

pub good_stands : (told : Option Files) (found : Option (List ℕ)) (text read : List ℕ) → IfSome told (λ all. found ≡ map.get all stored_name) → found ≡ Some text → read ≡ text
    → IsOk (stored_said read) → IfSome told (λ files. IsOk (stored_in files))
good_stands None found text read is some same good = tt
good_stands (Some files) found text read is some same good =
    ap (λ (x : Option (List ℕ)). is_ok (option_map_or stored_said x (Ok none_stored))) (sym is ∙ some) ∙ ap (λ (t : List ℕ). is_ok (stored_said t)) (sym same) ∙ good

-- ---- all of it

pub stays_kept : (old new : Option Files) → Stays old new → IfSome old (λ files. (now : Files) × (new ≡ Some now) × IsKept (map.get files stored_name) files now)
stays_kept None new stays = tt
stays_kept (Some files) new stays = (files, stays, same_kept files (map.get files stored_name) refl)

pub fault_kept : (old mid new : Option Files) (found : Option (List ℕ)) (text read : List ℕ) (fault : FolderFault) → Stays old mid → IfSome old (λ all. found ≡ map.get all stored_name)
    → found ≡ Some text → read ≡ text → Renames read mid new (Err fault) → IfSome old (λ files. (now : Files) × (new ≡ Some now) × IsKept (map.get files stored_name) files now)
fault_kept None mid new found text read fault stays is some same renames = tt
fault_kept (Some files) mid new found text read fault stays is some same renames =
    let stood : map.get files stored_name ≡ Some read = sym is ∙ some ∙ ap Some (sym same) in
    let step = if_some_of mid files (λ all. map.get all stored_name ≡ Some read → (now : Files) × (new ≡ Some now) × IsKept (Some read) all now) stays renames stood in
    (step.0, step.1, subst (λ (o : Option (List ℕ)). IsKept o files step.0) (sym stood) step.2)

pub is_aside : (old mid new : Option Files) (found : Option (List ℕ)) (text read : List ℕ) (bad : BadStored) → Stays old mid → IfSome old (λ all. found ≡ map.get all stored_name)
    → found ≡ Some text → read ≡ text → stored_said read ≡ Err (bad.line, bad.kind) → IfSome mid (λ files. new ≡ Some (renamed read files)) → IfSome old (λ files. IsAside bad files new)
is_aside None mid new found text read bad stays is some same said renames = tt
is_aside (Some files) mid new found text read bad stays is some same said renames =
    let stood : map.get files stored_name ≡ Some read = sym is ∙ some ∙ ap Some (sym same) in (
      ap (λ (x : Option (List ℕ)). option_map_or stored_said x (Ok none_stored)) stood ∙ said,
      (read, stood, if_some_of mid files (λ all. new ≡ Some (renamed read all)) stays renames),
    )
