-- Files that are read one behind the other.
use Rattle.std.proofs.Common.{◌≡◌, Bool, false, List, [], ◌∷◌, ◌++◌, Option, Some, None, ℕ, refl, sym, ap, subst, ◌∙◌, append_assoc, append-nil, length-append, inl, inr, arith}
use Rattle.std.specs.Prelude.{◌==◌, ◌-◌, ◌⊎◌, IfSome, length}
use Rattle.std.specs.FinMap as map
use Rattle.dl_outside.specs.Folder.{Files}
use Rattle.dl_sessions.specs.Follows.{EndsBad, HasClosed, HasCounted, IsAt}
use Rattle.dl_sessions.specs.Stream.{Tells, end_of, first_place}
use Rattle.dl_sessions.specs.declared.session.Told.{Told}
use Rattle.dl_sessions.specs.declared.stream.End.{End}
use Rattle.dl_sessions.specs.declared.stream.End.TheVariants.{Whole, Within, Bad}
use Rattle.dl_trace_why.specs.Reading.{AreBadAt, AreRead, BytesTell, EndSays, FileTells, IsFirst, IsThere, Tell, called, within_words}
use Rattle.dl_trace_why.specs.Reads.{AreEnough, Counts, HasAdded, HasAddedFile, HasRead}
use Rattle.dl_trace_why.specs.declared.reading.Reading.{Reading}

-- ---- one file

pub ended_whole : (label bytes : List ℕ) (before : List Told) (old new : Reading) → HasClosed before bytes old.follower.held.items new.follower → end_of old.follower.held.items ≡ Whole
    → new.ends.items ≡ old.ends.items → HasAdded label before bytes old.follower.held.items old new
ended_whole label bytes before old new closed whole same = record {
  stream = closed.stream;
  said = [];
  tells = record {
    rest = old.follower.held.items;
    tells = closed.tells;
    ends = subst (λ (e : End). EndSays label (length old.follower.held.items) e []) (sym whole) refl;
  };
  rest_is = refl;
  at = closed.at;
  ends_are = same ∙ sym (append-nil old.ends.items);
}

pub ended_within : (label bytes : List ℕ) (before : List Told) (old new : Reading) → HasClosed before bytes old.follower.held.items new.follower → end_of old.follower.held.items ≡ Within
    → new.ends.items ≡ old.ends.items ++ within_words label (length old.follower.held.items) → HasAdded label before bytes old.follower.held.items old new
ended_within label bytes before old new closed within more =
    let words = within_words label (length old.follower.held.items) in
    record {
      stream = closed.stream;
      said = words;
      tells = record {
        rest = old.follower.held.items;
        tells = closed.tells;
        ends = subst (λ (e : End). EndSays label (length old.follower.held.items) e words) (sym within) refl;
      };
      rest_is = refl;
      at = closed.at;
      ends_are = more;
    }

-- what is bad is not said to end well
not_bad : (label rest said : List ℕ) (left : ℕ) → end_of rest ≡ Bad → EndSays label left (end_of rest) said → ⊥
not_bad label rest said left bad says = subst (λ (e : End). EndSays label left e said) bad says

all_there : (bytes rest file : List ℕ) → AreEnough bytes rest file → (end_of rest ≡ Bad → ⊥) → file ≡ bytes
all_there bytes rest file enough good = enough.1 ∙ by_end enough.2 where
  by_end : (enough.0 ≡ []) ⊎ EndsBad rest → bytes ++ enough.0 ≡ bytes
  by_end (inl none) = ap (λ (l : List ℕ). bytes ++ l) none ∙ append-nil bytes
  by_end (inr bad) = absurd (good (ap end_of (sym (append-nil rest)) ∙ (bad []).1))

there : (told : Option Files) (name bytes rest : List ℕ) → (end_of rest ≡ Bad → ⊥) → IfSome told (λ files. IsThere files name (AreEnough bytes rest)) → IfSome told (λ files. map.get files name ≡ Some bytes)
there None name bytes rest good is = tt
there (Some files) name bytes rest good is = is.1 ∙ ap Some (all_there bytes rest is.0 is.2 good)

pub added_file : (is_alone : Bool) (name : List ℕ) (before : List Told) (told : Option Files) (count : ℕ) (old mid new : Reading) → (read : HasRead before name told count mid.follower) → mid.ends.items ≡ old.ends.items
    → HasAdded (called is_alone name) before read.bytes mid.follower.held.items mid new → HasAddedFile is_alone name before told old new
added_file is_alone name before told count old mid new read same added =
    let label = called is_alone name in
    let rest = mid.follower.held.items in
    let says = subst (λ (l : List ℕ). EndSays label (length l) (end_of l) added.said) added.rest_is added.tells.ends in
    record {
      bytes = read.bytes;
      stream = added.stream;
      said = added.said;
      tells = added.tells;
      at = added.at;
      ends_are = added.ends_are ∙ ap (λ (l : List ℕ). l ++ added.said) same;
      file_is = there told name read.bytes rest (λ bad. not_bad label rest added.said (length rest) bad says) read.file_is;
    }

bad_behind : (rest behind : List ℕ) → first_place rest ≡ None → end_of rest ≡ Bad → (behind ≡ []) ⊎ EndsBad rest → (first_place (rest ++ behind) ≡ None) × (end_of (rest ++ behind) ≡ Bad)
bad_behind rest behind none bad (inl empty) =
    let same : rest ++ behind ≡ rest = ap (λ (l : List ℕ). rest ++ l) empty ∙ append-nil rest in
    (ap first_place same ∙ none, ap end_of same ∙ bad)
bad_behind rest behind none bad (inr stays) = stays behind

pub bad_file : (before : List Told) (name : List ℕ) (told : Option Files) (count place : ℕ) (reading : Reading) → HasRead before name told count reading.follower → end_of reading.follower.held.items ≡ Bad
    → place ≡ count - length reading.follower.held.items → IfSome told (λ files. IsThere files name (λ bytes. AreBadAt bytes place))
bad_file before name None count place reading read bad is = tt
bad_file before name (Some files) count place reading read bad is =
    let rest = reading.follower.held.items in
    let file = read.file_is.0 in
    let behind = read.file_is.2.0 in
    let split : file ≡ read.bytes ++ behind = read.file_is.2.1 in
    let follows : HasCounted before read.bytes rest reading.follower.counts = read.follows in
    let still = bad_behind rest behind follows.none bad read.file_is.2.2 in (
      file,
      read.file_is.1,
      record {
        stream = follows.stream ++ [];
        rest = rest ++ behind;
        tells = subst (λ (l : List ℕ). Tells l (follows.stream ++ []) (rest ++ behind)) (sym split) (follows.read behind [] (rest ++ behind) (refl, still.0));
        bad = still.1;
        place_is = omega (arith, is, read.count_is, ap length split, length-append read.bytes behind, length-append rest behind);
      },
    )

-- ---- files

-- one file more
pub tell_more : (is_alone : Bool) (files : Files) (names : List (List ℕ)) (name : List ℕ) (stream first : List Told) (ends said : List ℕ) → Tell is_alone files names stream ends →
    FileTells is_alone files name first said → Tell is_alone files (names ++ name ∷ []) (stream ++ first) (ends ++ said)
tell_more is_alone files [] name stream first ends said tell one =
    (first, said, [], [], one, ap (λ (l : List Told). l ++ first) tell.0 ∙ sym (append-nil first), ap (λ (l : List ℕ). l ++ said) tell.1 ∙ sym (append-nil said), (refl, refl))
tell_more is_alone files (n ∷ names) name stream first ends said tell one = (
  tell.0,
  tell.1,
  tell.2 ++ first,
  tell.3 ++ said,
  tell.4,
  ap (λ (l : List Told). l ++ first) tell.5 ∙ append_assoc tell.0 tell.2 first,
  ap (λ (l : List ℕ). l ++ said) tell.6 ∙ append_assoc tell.1 tell.3 said,
  tell_more is_alone files names name tell.2 first tell.3 said tell.7 one,
)

-- the files so far
abbrev pub AreSoFar : Bool → Option Files → List (List ℕ) → Reading → Type 0
AreSoFar is_alone told names reading = Counts told reading (λ files. Tell is_alone files names)

pub none_yet : (is_alone : Bool) (told : Option Files) (reading : Reading) → IsAt [] reading.follower → reading.ends.items ≡ [] → AreSoFar is_alone told [] reading
none_yet is_alone None reading at e = ([], at, tt)
none_yet is_alone (Some files) reading at e = ([], at, (refl, e))

pub one_more : (is_alone : Bool) (told mid : Option Files) (names : List (List ℕ)) (name : List ℕ) (reading reading_now : Reading) → (so_far : AreSoFar is_alone told names reading) → IfSome told (λ files. mid ≡ Some files)
    → HasAddedFile is_alone name so_far.0 mid reading reading_now → AreSoFar is_alone told (names ++ name ∷ []) reading_now
one_more is_alone None mid names name reading reading_now so_far stays added = (so_far.0 ++ added.stream, added.at, tt)
one_more is_alone (Some files) mid names name reading reading_now so_far stays added =
    let there_now = subst (λ (m : Option Files). IfSome m (λ files. map.get files name ≡ Some added.bytes)) stays added.file_is in (
      so_far.0 ++ added.stream,
      added.at,
      subst (λ (l : List ℕ). Tell is_alone files (names ++ name ∷ []) (so_far.0 ++ added.stream) l) (sym added.ends_are)
          (tell_more is_alone files names name so_far.0 added.stream reading.ends.items added.said so_far.2 (added.bytes, there_now, added.tells)),
    )

-- some files
pub some_read : (files : Files) (names : List (List ℕ)) (stream : List Told) (ends : List ℕ) → (length names == 0) ≡ false → Tell (length names == 1) files names stream ends → AreRead files names stream ends
some_read files [] stream ends some tell = absurd cc
some_read files (name ∷ names) stream ends some tell = tell

-- the first that is so
pub first_is : (is_alone : Bool) (told mid : Option Files) (all names behind : List (List ℕ)) (name : List ℕ) (reading : Reading) (P : Files → Type 0) → AreSoFar is_alone told names reading
    → all ≡ names ++ name ∷ behind → IfSome told (λ files. mid ≡ Some files) → IfSome mid P → IfSome told (λ files. IsFirst files all name (P files))
first_is is_alone None mid all names behind name reading P so_far is stays so = tt
first_is is_alone (Some files) mid all names behind name reading P so_far is stays so = record {
  before = names;
  behind = behind;
  names_are = is;
  is_alone = is_alone;
  stream = so_far.0;
  ends = reading.ends.items;
  tell = so_far.2;
  so = subst (λ (m : Option Files). IfSome m P) stays so;
}
