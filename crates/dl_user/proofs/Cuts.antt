-- Cuts of a channel's bytes, and what the calls of a cutter make of them.
use Rattle.std.proofs.Common.{◌≡◌, ℕ, zero, suc, ◌≤◌, ◌<◌, List, [], ◌∷◌, ◌++◌, length, Ok, Err, ◌⊎◌, refl, sym, ap, subst, ◌∙◌, append_assoc, arith, inl, inr}
use Rattle.std.proofs.lemmas.List.{append_cancel_right, length-append, get_or_append_left, get_or_past}
use Rattle.std.proofs.lemmas.Bool.{cases_lt}
use Rattle.dl_bytes.specs.Bytes.{IsBytes}
use Rattle.dl_bytes.specs.Cutting.{Call, Runs, fed_by, given_by, AreCut, IsCutter}
use Rattle.dl_bytes.proofs.Cutting.{gives_the_cut, cut_more, cut_on}
use Rattle.dl_bytes.specs.Number.{At}
use Rattle.dl_bytes.specs.declared.user.UserMsg.{UserMsg}
use Rattle.dl_user.specs.declared.fault.UserFault.{UserFault}
use Rattle.dl_user.specs.declared.fault.Stop.{Stop}
use Rattle.dl_user.specs.declared.fault.Stop.TheVariants.{NeedMore, Bad}
use Rattle.dl_user.specs.declared.cutter.UserCut.TheVariants as cuts
use Rattle.dl_user.specs.Layout.{marker, uint32}
use Rattle.dl_user.specs.Reading.{little, Reading, kind_at, message_at}
use Rattle.dl_user.specs.Faults.{BeginsWith, ProvesFault, other_marker, other_kind, bad_front, long_message, long_app_text, long_context_text, long_body, context_level, set_level}
use Rattle.dl_user.specs.Cut.{IsSpelled, Begins, Stops, IsCut, with_others, behind, messages_within, rest_within, messages_of, rest_of}
use Rattle.dl_user.specs.Channel.{Channel, unfed}
use Rattle.dl_user.specs.declared.cutter.UserCut.{UserCut}
use Rattle.dl_user.specs.Cutter.{Cuts, Does, messages_in}
use Rattle.dl_user.proofs.Readers.{IsBytes-rest, ok_is}
use Rattle.dl_user.proofs.Messages.{message_reads}
use Rattle.dl_user.proofs.Refusals.{refuses}
use Rattle.dl_user.proofs.Showing.{shows}
use Rattle.dl_user.proofs.FrontLemmas.{begins_read, open_is}

same_reading : (r : Reading (UserMsg × At)) (m n : UserMsg) (x y : List ℕ) → r ≡ Ok (m, little x) → r ≡ Ok (n, little y) → (m ≡ n) × (x ≡ y)
same_reading r m n x y p q =
    let a : UserMsg × At = (m, little x) in
    let b : UserMsg × At = (n, little y) in
    let same : a ≡ b = ok_is a b (sym p ∙ q) in
    (ap (λ (d : UserMsg × At). d.0) same, ap (λ (d : UserMsg × At). d.1.rest) same)

pub begins_once : (bytes x y : List ℕ) (m n : UserMsg) → Begins bytes m x → Begins bytes n y → (m ≡ n) × (x ≡ y)
begins_once bytes x y m n p q = same_reading (message_at (little bytes)) m n x y (begins_read bytes x m p) (begins_read bytes y n q)

pub no_other : (a b x y : List ℕ) (m n : UserMsg) → IsSpelled a m → IsSpelled b n → a ++ x ≡ b ++ y → (a ≡ b) × (m ≡ n)
no_other a b x y m n p q e =
    let same = begins_once (a ++ x) x y m n (a, p, refl) (b, q, e) in
    let fronts : a ++ x ≡ b ++ x = e ∙ ap (λ (z : List ℕ). b ++ z) (sym same.1) in
    (append_cancel_right a b x fronts, same.0)

pub no_fault_there : (bytes after : List ℕ) (msg : UserMsg) (fault : UserFault) → Begins bytes msg after → ProvesFault bytes fault → ⊥
no_fault_there bytes after msg fault b shown = let read = begins_read bytes after msg b in cc (sym read ∙ refuses bytes fault shown)

pub fault_once : (bytes : List ℕ) (f g : UserFault) → ProvesFault bytes f → ProvesFault bytes g → f ≡ g
fault_once bytes f g p q = let same : ◌≡◌ {A = Reading (UserMsg × At)} (Err (Bad f)) (Err (Bad g)) = sym (refuses bytes f p) ∙ refuses bytes g q in cc

begins_stops : (bytes after : List ℕ) (msg : UserMsg) (stop : Stop) → Begins bytes msg after → Stops bytes stop → ⊥
begins_stops bytes after msg NeedMore b s = s.no_message msg after b
begins_stops bytes after msg (Bad fault) b s = no_fault_there bytes after msg fault b s

stop_is : (bytes : List ℕ) (s t : Stop) → Stops bytes s → Stops bytes t → s ≡ t
stop_is bytes NeedMore NeedMore p q = refl
stop_is bytes NeedMore (Bad g) p q = absurd (p.no_fault g q)
stop_is bytes (Bad f) NeedMore p q = absurd (q.no_fault f p)
stop_is bytes (Bad f) (Bad g) p q = ap (λ (x : UserFault). Bad x) (fault_once bytes f g p q)

-- ---- a fault stays

begins_with_more : (bytes more front : List ℕ) (kind : ℕ) → BeginsWith bytes kind front → BeginsWith (bytes ++ more) kind front
begins_with_more bytes more front kind b =
    (b.0 ++ more, ap (λ (x : List ℕ). x ++ more) b.1 ∙ append_assoc (marker ++ uint32 kind) (front ++ b.0) more ∙ ap (λ (x : List ℕ). marker ++ uint32 kind ++ x) (append_assoc front b.0 more))

pub fault_stays : (bytes more : List ℕ) (fault : UserFault) → ProvesFault bytes fault → ProvesFault (bytes ++ more) fault
fault_stays bytes more _ (other_marker front rest e len other) = other_marker front (rest ++ more) (ap (λ (x : List ℕ). x ++ more) e ∙ append_assoc front rest more) len other
fault_stays bytes more _ (other_kind kind b h outside) = other_kind kind (begins_with_more bytes more [] kind b) h outside
fault_stays bytes more _ (bad_front head fault b len front) = bad_front head fault (begins_with_more bytes more head 1 b) len front
fault_stays bytes more _ (long_message head b len front above) = long_message head (begins_with_more bytes more head 1 b) len front above
fault_stays bytes more _ (long_app_text front app b h above) = long_app_text front app (begins_with_more bytes more front 2 b) h above
fault_stays bytes more _ (long_context_text front context b h within above) = long_context_text front context (begins_with_more bytes more front 4 b) h within above
fault_stays bytes more _ (long_body front injection b h above) = long_body front injection (begins_with_more bytes more front 7 b) h above
fault_stays bytes more _ (context_level front context b h other) = context_level front context (begins_with_more bytes more front 4 b) h other
fault_stays bytes more _ (set_level front setting b h above) = set_level front setting (begins_with_more bytes more front 6 b) h above

-- ---- one cut

pub cut_once : (bytes : List ℕ) (ms ns : List UserMsg) (x y : List ℕ) (s t : Stop) → IsCut bytes ms x s → IsCut bytes ns y t → (ms ≡ ns) × (x ≡ y) × (s ≡ t)
cut_once bytes [] [] x y s t p q =
    let same : x ≡ y = sym p.0 ∙ q.0 in
    let stops : Stops x t = rw same q.1 in
    (refl, same, stop_is x s t p.1 stops)
cut_once bytes [] (n ∷ ns) x y s t p q =
    let stops : Stops bytes s = rw p.0 p.1 in
    absurd (begins_stops bytes q.0.0 n s q.0.1 stops)
cut_once bytes (m ∷ ms) [] x y s t p q =
    let stops : Stops bytes t = rw q.0 q.1 in
    absurd (begins_stops bytes p.0.0 m t p.0.1 stops)
cut_once bytes (m ∷ ms) (n ∷ ns) x y s t p q =
    let same = begins_once bytes p.0.0 q.0.0 m n p.0.1 q.0.1 in
    let spelled : AreCut Begins p.0.0 ns y = subst (λ (z : List ℕ). AreCut Begins z ns y) (sym same.1) q.0.2 in
    let others = cut_once p.0.0 ms ns x y s t (p.0.2, p.1) (spelled, q.1) in
    (cc (same.0, others.0), others.1, others.2)

-- ---- there is a cut

cases_reading : {A : Type 0} (r : Reading A) → ((x : A) × (r ≡ Ok x)) ⊎ ((stop : Stop) × (r ≡ Err stop))
cases_reading (Ok x) = inl (x, refl)
cases_reading (Err stop) = inr (stop, refl)

pub spelled_some : (text : List ℕ) (msg : UserMsg) → IsSpelled text msg → 0 < length text
spelled_some text msg h = elim h.spelled [ inl e ↦ omega (arith, ap length e) | inr e ↦ omega (arith, ap length e) ]

stop_shows : (bytes : List ℕ) (stop : Stop) → IsBytes bytes → message_at (little bytes) ≡ Err stop → Stops bytes stop
stop_shows bytes NeedMore fits e = open_is bytes e
stop_shows bytes (Bad fault) fits e = shows bytes fault fits e

abbrev IsCutTo : List ℕ → List UserMsg → List ℕ → Type 0
IsCutTo bytes msgs rest = (stop : Stop) × IsCut bytes msgs rest stop

abbrev CutsAs : ℕ → List ℕ → Reading (UserMsg × At) → Type 0
CutsAs n bytes r = IsCutTo bytes (with_others r (λ rest. messages_within n rest)) (behind r bytes (λ rest. rest_within n rest))

pub nothing_read : message_at (little []) ≡ Err NeedMore
unfolding message_at kind_at
nothing_read = refl

cut_within : (n : ℕ) (bytes : List ℕ) → length bytes ≤ n → IsBytes bytes → IsCutTo bytes (messages_within n bytes) (rest_within n bytes)
cut_within zero [] h fits = (NeedMore, (refl, open_is [] nothing_read))
cut_within zero (b ∷ bytes) h fits = absurd (omega arith)
cut_within (suc n) bytes h fits =
    elim (cases_reading (message_at (little bytes))) [
      | inl read ↦
          let t = message_reads.found bytes read.0.0 read.0.1 fits read.1 in
          let parts = ap length t.parts in
          let shorter : length read.0.1.rest ≤ n = omega (arith, length-append t.text read.0.1.rest, spelled_some t.text read.0.0 t.spells) in
          let c = cut_within n read.0.1.rest shorter (IsBytes-rest bytes t.text read.0.1.rest t.parts fits) in
          let cut : CutsAs n bytes (Ok read.0) = (c.0, ((read.0.1.rest, (t.text, t.spells, t.parts), c.1.0), c.1.1)) in
          subst (CutsAs n bytes) (sym read.1) cut
      | inr stopped ↦
          let cut : CutsAs n bytes (Err stopped.0) = (stopped.0, (refl, stop_shows bytes stopped.0 fits stopped.1)) in
          subst (CutsAs n bytes) (sym stopped.1) cut
    ]

pub cut_is_there : (bytes : List ℕ) → IsBytes bytes → IsCutTo bytes (messages_of bytes) (rest_of bytes)
cut_is_there bytes fits = cut_within (length bytes) bytes (omega arith) fits

-- ---- the calls of a cutter

pub begins_more : (bytes after more : List ℕ) (msg : UserMsg) → Begins bytes msg after → Begins (bytes ++ more) msg (after ++ more)
begins_more bytes after more msg b = (b.0, b.1, ap (λ (x : List ℕ). x ++ more) b.2 ∙ append_assoc b.0 after more)

answers : (old new : Channel) (cut : UserCut) → Cuts old cut new → AreCut Begins old.unread (messages_in cut) new.unread
answers old new (cuts.Message msg) d = (new.unread, d.0, refl)
answers old new cuts.NeedMore d = sym d.1
answers old new (cuts.Bad fault) d = sym d.1
answers old new cuts.OutOfMemory d = sym (ap (λ (c : Channel). c.unread) d.1)

is_cutter : IsCutter (λ (c : Channel). c.unread) messages_in Begins Does
is_cutter = record { feeds = λ old new piece count d. d.unread; answers = answers; goes_on = begins_more }

pub so_far : (calls : List (Call UserCut)) (new : Channel) → Runs Does unfed calls new → AreCut Begins (fed_by calls) (given_by messages_in calls) new.unread
so_far calls new r = gives_the_cut (λ (c : Channel). c.unread) messages_in Begins Does is_cutter calls unfed new r

-- ---- more bytes

spelled_more : (bytes rest more : List ℕ) (msgs : List UserMsg) → AreCut Begins bytes msgs rest → AreCut Begins (bytes ++ more) msgs (rest ++ more)
spelled_more = cut_more Begins begins_more

spelled_on : (bytes middle rest : List ℕ) (ms ns : List UserMsg) → AreCut Begins bytes ms middle → AreCut Begins middle ns rest → AreCut Begins bytes (ms ++ ns) rest
spelled_on = cut_on Begins

IsBytes-front : (a b : List ℕ) → IsBytes (a ++ b) → IsBytes a
IsBytes-front a b h i =
    elim (cases_lt i (length a)) [
      | inl lt ↦ rw (← get_or_append_left a b 0 i lt) (h i)
      | inr le ↦ rw (get_or_past a i 0 le) (omega arith)
    ]

IsBytes-spelled : (bytes rest more : List ℕ) (msgs : List UserMsg) → AreCut Begins bytes msgs rest → IsBytes (bytes ++ more) → IsBytes (rest ++ more)
IsBytes-spelled bytes rest more [] s h = rw (← s) h
IsBytes-spelled bytes rest more (msg ∷ msgs) s h =
    let b = s.1 in
    let parts : bytes ++ more ≡ b.0 ++ (s.0 ++ more) = ap (λ (x : List ℕ). x ++ more) b.2 ∙ append_assoc b.0 s.0 more in
    IsBytes-spelled s.0 rest more msgs s.2 (IsBytes-rest (bytes ++ more) b.0 (s.0 ++ more) parts h)

pub cut_goes_on : (a b : List ℕ) → IsBytes (a ++ b) → (messages_of (a ++ b) ≡ messages_of a ++ messages_of (rest_of a ++ b)) × (rest_of (a ++ b) ≡ rest_of (rest_of a ++ b))
cut_goes_on a b fits =
    let first = cut_is_there a (IsBytes-front a b fits) in
    let second = cut_is_there (rest_of a ++ b) (IsBytes-spelled a (rest_of a) b (messages_of a) first.1.0 fits) in
    let whole = cut_is_there (a ++ b) fits in
    let joined = spelled_on (a ++ b) (rest_of a ++ b) (rest_of (rest_of a ++ b)) (messages_of a) (messages_of (rest_of a ++ b)) (spelled_more a (rest_of a) b (messages_of a) first.1.0) second.1.0 in
    let same = cut_once (a ++ b) (messages_of (a ++ b)) (messages_of a ++ messages_of (rest_of a ++ b)) (rest_of (a ++ b)) (rest_of (rest_of a ++ b)) whole.0 second.0 whole.1 (joined, second.1.1) in
    (same.0, same.1)

pub cut_ended : (a b : List ℕ) (fault : UserFault) → IsBytes (a ++ b) → ProvesFault (rest_of a) fault → messages_of (a ++ b) ≡ messages_of a
cut_ended a b fault fits shown =
    let first = cut_is_there a (IsBytes-front a b fits) in
    let whole = cut_is_there (a ++ b) fits in
    let ended = spelled_more a (rest_of a) b (messages_of a) first.1.0 in
    (cut_once (a ++ b) (messages_of (a ++ b)) (messages_of a) (rest_of (a ++ b)) (rest_of a ++ b) whole.0 (Bad fault) whole.1 (ended, fault_stays (rest_of a) b fault shown)).0
