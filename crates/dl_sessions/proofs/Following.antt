-- What each call of a follower leaves.
use Rattle.std.proofs.Common.{◌≡◌, ℕ, true, List, [], ◌∷◌, ◌++◌, Some, None, refl, sym, ap, subst, ◌∙◌, append_assoc}
use Rattle.std.proofs.lemmas.List.{append-nil}
use Rattle.dl_sessions.specs.declared.follower.Counts.{Counts}
use Rattle.dl_sessions.specs.declared.follower.Follower.{Follower}
use Rattle.dl_sessions.specs.declared.session.Told.{Told}
use Rattle.dl_sessions.specs.declared.stream.Place.{Place}
use Rattle.dl_sessions.specs.Follows.{AreAfter, Follows, HasClosed, HasCounted, IsAt, IsReadTo}
use Rattle.dl_sessions.specs.Stream.{Tells, first_place, rest_behind, told_at}
use Rattle.dl_sessions.proofs.Readings.{first-append, rest-append, told-append}

-- ---- one piece

-- the messages so far of a piece
pub record IsCounting (before : List Told) (bytes rest : List ℕ) (counts : Counts) : Type 0 where
  pub stream : List Told
  pub read : IsReadTo bytes rest stream
  pub counted : AreAfter (before ++ stream) counts

pub sets_out : (before : List Told) (bytes : List ℕ) (counts : Counts) → AreAfter before counts → IsCounting before bytes bytes counts
sets_out before bytes counts after = record {
  stream = [];
  read = λ behind more last tells. tells;
  counted = subst (λ (s : List Told). AreAfter s counts) (sym (append-nil before)) after;
}

-- one message more
pub goes_on : (before : List Told) (bytes rest : List ℕ) (place : Place) (t : Told) (old new : Counts) → IsCounting before bytes rest old → first_place rest ≡ Some place → t ≡ told_at place rest →
    ((stream : List Told) → AreAfter stream old → AreAfter (stream ++ t ∷ []) new) → IsCounting before bytes (rest_behind place rest) new
goes_on before bytes rest place t old new so_far is told adds = record {
  stream = so_far.stream ++ t ∷ [];
  read = λ behind more last tells.
      subst (λ (s : List Told). Tells (bytes ++ behind) s last) (sym (append_assoc so_far.stream (t ∷ []) more))
      (so_far.read behind (t ∷ more) last (
        place,
        first-append rest behind place is,
        told-append rest behind place is ∙ sym told,
        subst (λ (r : List ℕ). Tells r more last) (sym (rest-append rest behind place is)) tells,
      ));
  counted = subst (λ (s : List Told). AreAfter s new) (append_assoc before so_far.stream (t ∷ [])) (adds (before ++ so_far.stream) so_far.counted);
}

pub arrives : (before : List Told) (bytes rest : List ℕ) (counts : Counts) → IsCounting before bytes rest counts → first_place rest ≡ None → HasCounted before bytes rest counts
arrives before bytes rest counts so_far none = record { stream = so_far.stream; read = so_far.read; counted = so_far.counted; none = none }

-- ---- a follower

-- a file begins
pub begins : (before : List Told) (follower : Follower) → IsAt before follower → Follows before [] follower
begins before follower at = record {
  stream = [];
  read = λ behind more last tells. subst (λ (held : List ℕ). Tells (held ++ behind) more last) at.empty tells;
  counted = subst (λ (s : List Told). AreAfter s follower.counts) (sym (append-nil before)) at.counted;
  none = ap first_place at.empty;
}

-- the messages of a piece stand behind those that came before
pub joins : (before : List Told) (bytes held piece rest : List ℕ) (old new : Counts) → HasCounted before bytes held old → ((stream : List Told) → AreAfter stream old → HasCounted stream (held ++ piece) rest new)
    → HasCounted before (bytes ++ piece) rest new
joins before bytes held piece rest old new first counts =
    let later = counts (before ++ first.stream) first.counted in
    record {
      stream = first.stream ++ later.stream;
      read = λ behind more last tells.
          subst (λ (s : List Told). Tells ((bytes ++ piece) ++ behind) s last) (sym (append_assoc first.stream later.stream more))
          (subst (λ (b : List ℕ). Tells b (first.stream ++ (later.stream ++ more)) last) (sym (append_assoc bytes piece behind))
          (first.read (piece ++ behind) (later.stream ++ more) last
          (subst (λ (b : List ℕ). Tells b (later.stream ++ more) last) (append_assoc held piece behind) (later.read behind more last tells))));
      counted = subst (λ (s : List Told). AreAfter s new) (append_assoc before first.stream later.stream) later.counted;
      none = later.none;
    }

pub closed : (before : List Told) (bytes rest : List ℕ) (old new : Follower) → HasCounted before bytes rest old.counts → new.counts ≡ old.counts → new.held.items ≡ [] → HasClosed before bytes rest new
closed before bytes rest old new follows same empty = record {
  stream = follows.stream;
  tells =
      subst (λ (s : List Told). Tells bytes s rest) (append-nil follows.stream)
      (subst (λ (b : List ℕ). Tells b (follows.stream ++ []) rest) (append-nil bytes)
      (follows.read [] [] rest (subst (λ (b : List ℕ). Tells b [] rest) (sym (append-nil rest)) (refl, follows.none))));
  at = record { counted = subst (AreAfter (before ++ follows.stream)) (sym same) follows.counted; empty = empty };
}
