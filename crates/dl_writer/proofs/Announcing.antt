-- Claims that wait go into the ring, one after another.
use Rattle.std.proofs.Common.{◌≡◌, ℕ, ◌+◌, Bool, true, false, Option, Some, None, List, [], ◌∷◌, ◌++◌, length, map, refl, sym, ap, subst, ◌∙◌, append-nil, append_assoc}
use Rattle.std.specs.Prelude.{is_some, IfSome, IfNone}
use Rattle.std.proofs.lemmas.List.{map-append}
use Rattle.dl_bytes.specs.Claim.{Claimed}
use Rattle.dl_ring.specs.declared.item.RingItem.{RingItem}
use Rattle.dl_ring.specs.declared.item.RingItem.TheVariants.{Register}
use Rattle.dl_writer.specs.Claiming.{refusal_of, Announces, AnnouncesNone, AnnouncesOne, IsLeft}
use Rattle.dl_writer.specs.State.{WriterState}

-- the ring took these claims of those that waited, in order, and these are left
abbrev pub took : WriterState → List Claimed → List Claimed → WriterState
took w done left = record w { push = record w.push { pushed = w.push.pushed ++ map Register done }; waiting = left }

-- so far each claim that was pushed was taken
pub record IsAnnouncing (old : WriterState) (done : List Claimed) (now : WriterState) : Type 0 where
  pub parts : old.waiting ≡ done ++ now.waiting
  pub pushed : now ≡ took old done now.waiting

pub begins : (w : WriterState) → IsAnnouncing w [] w
begins w = record {
  parts = refl;
  pushed = ap (λ (items : List RingItem). record w { push = record w.push { pushed = items } }) (sym (append-nil w.push.pushed));
}

-- one claim more
goes_on_from : (old : WriterState) (done left : List Claimed) (claim : Claimed) (new : WriterState) → old.waiting ≡ done ++ claim ∷ left
    → new ≡ record (took old done (claim ∷ left)) { push = record (took old done (claim ∷ left)).push { pushed = (took old done (claim ∷ left)).push.pushed ++ Register claim ∷ [] }; waiting = left }
    → IsAnnouncing old (done ++ claim ∷ []) new
goes_on_from old done left claim new parts made =
    let left_is : new.waiting ≡ left = ap (λ (w : WriterState). w.waiting) made in
    let items : (old.push.pushed ++ map Register done) ++ Register claim ∷ [] ≡ old.push.pushed ++ map Register (done ++ claim ∷ []) =
    append_assoc old.push.pushed (map Register done) (Register claim ∷ []) ∙ ap (λ (xs : List RingItem). old.push.pushed ++ xs) (sym (map-append Register done (claim ∷ []))) in
    record {
      parts = parts ∙ sym (append_assoc done (claim ∷ []) left) ∙ ap (λ (cs : List Claimed). (done ++ claim ∷ []) ++ cs) (sym left_is);
      pushed = made ∙ ap (λ (xs : List RingItem). record old { push = record old.push { pushed = xs }; waiting = left }) items
          ∙ ap (took old (done ++ claim ∷ [])) (sym left_is);
    }

pub goes_on : (old now new : WriterState) (done : List Claimed) (claim : Claimed) → IsAnnouncing old done now → AnnouncesOne now claim new → IsAnnouncing old (done ++ claim ∷ []) new
goes_on old now new done claim so one =
    goes_on_from old done one.left claim new (so.parts ∙ ap (λ (cs : List Claimed). done ++ cs) one.first)
    (one.pushed ∙ ap (λ (w : WriterState). record w { push = record w.push { pushed = w.push.pushed ++ Register claim ∷ [] }; waiting = one.left }) (so.pushed ∙ ap (took old done) one.first))

-- until none is left, or the ring refused one
stops_from : (old : WriterState) (done left : List Claimed) (new : WriterState) (waits : ℕ) → old.waiting ≡ done ++ left
    → new ≡ record (took old done left) { push = record (took old done left).push { refusals = (took old done left).push.refusals + refusal_of left } }
    → IsLeft (took old done left) left → waits ≡ length new.waiting → (a : Announces old new waits) × (a.done ≡ done)
stops_from old done left new waits parts made full count = (
  (record {
    done = done;
    left = left;
    parts = parts;
    pushed = made;
    count = count ∙ ap (λ (w : WriterState). length w.waiting) made;
    full = full;
  }),
  refl,
)

pub stops : (old now new : WriterState) (done : List Claimed) (waits : ℕ) → IsAnnouncing old done now → AnnouncesNone now new → waits ≡ length new.waiting
    → (a : Announces old new waits) × (a.done ≡ done)
stops old now new done waits so none count =
    stops_from old done now.waiting new waits so.parts
    (none.same ∙ ap (λ (w : WriterState). record w { push = record w.push { refusals = w.push.refusals + refusal_of now.waiting } }) so.pushed)
    (subst (λ (w : WriterState). IsLeft w now.waiting) so.pushed none.full) count

-- ---- the same by the answer of a call

pub after_one : (old now new : WriterState) (found : Option Claimed) {b : Bool} → b ≡ is_some found → b ≡ true → IfSome found (λ claim. AnnouncesOne now claim new)
    → (done : List Claimed) × IsAnnouncing old done now → (done : List Claimed) × IsAnnouncing old done new
after_one old now new (Some claim) is there one so = (so.0 ++ claim ∷ [], goes_on old now new so.0 claim so.1 one)
after_one old now new None is there one so = absurd cc

pub after_none : (old now new : WriterState) (found : Option Claimed) (waits : ℕ) {b : Bool} → b ≡ is_some found → b ≡ false → IfNone found (AnnouncesNone now new) → waits ≡ length new.waiting
    → (done : List Claimed) × IsAnnouncing old done now → Announces old new waits
after_none old now new None waits is there none count so = (stops old now new so.0 waits so.1 none count).0
after_none old now new (Some claim) waits is there none count so = absurd cc
