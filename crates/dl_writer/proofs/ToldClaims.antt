-- What a book tells stays told, where a claim joins those that wait and where claims go into the ring.
use Rattle.std.proofs.Common.{◌≡◌, ℕ, ◌+◌, ◌<◌, ◌≤◌, List, [], ◌∷◌, ◌++◌, length, map, refl, sym, ap, subst, ◌∙◌, append-nil, append_assoc, length-append, inl, inr, ⊎_elim, arith}
use Rattle.std.specs.Prelude.{◌⊎◌, Option, Some, None, IfSome, IfNone, All, Contains}
use Rattle.dl_bytes.specs.Claim.{Claimed}
use Rattle.dl_bytes.specs.Context.{Context}
use Rattle.dl_bytes.specs.declared.item.Item.{Item}
use Rattle.dl_events.specs.declared.record.Record.{Record}
use Rattle.dl_cells.specs.LevelStates.{ReaderState}
use Rattle.dl_ring.specs.Items.{calls_in, claims_in}
use Rattle.dl_ring.specs.declared.item.RingItem.{RingItem}
use Rattle.dl_ring.specs.declared.item.RingItem.TheVariants.{Register}
use Rattle.dl_ring.proofs.Items.{calls_in-append, claims_in-append}
use Rattle.dl_writer.specs.Calls.{read_of}
use Rattle.dl_writer.specs.Claiming.{after_none, after_number, claim_at, refusal_of, Announces, AnnouncesInto, AnnouncesNone, AnnouncesOne, IsTableFull, Joins, KeepsAnnounced, KeepsRegistered, TellsClaims}
use Rattle.dl_writer.specs.declared.fault.RegisterFault.{RegisterFault}
use Rattle.dl_writer.specs.Records.{TellAll}
use Rattle.dl_writer.specs.State.{WriterState, BookState}
use Rattle.dl_writer.proofs.Announcing.{begins, goes_on, stops, IsAnnouncing}
use Rattle.dl_writer.proofs.Claims.{claims_within}
use Rattle.dl_writer.proofs.Telling.{Whole}

-- ---- claims that go into the ring

claims_in-registered : (done : List Claimed) → claims_in (map Register done) ≡ done
claims_in-registered [] = refl
claims_in-registered (claim ∷ done) = ap (λ (cs : List Claimed). claim ∷ cs) (claims_in-registered done)

calls_in-registered : (done : List Claimed) → calls_in (map Register done) ≡ []
calls_in-registered [] = refl
calls_in-registered (claim ∷ done) = calls_in-registered done

claims-more : (pushed : List RingItem) (done : List Claimed) → claims_in (pushed ++ map Register done) ≡ claims_in pushed ++ done
claims-more pushed done = claims_in-append pushed (map Register done) ∙ ap (λ (cs : List Claimed). claims_in pushed ++ cs) (claims_in-registered done)

calls-more : (pushed : List RingItem) (done : List Claimed) → calls_in (pushed ++ map Register done) ≡ calls_in pushed
calls-more pushed done = calls_in-append pushed (map Register done) ∙ ap (λ (items : List Item). calls_in pushed ++ items) (calls_in-registered done) ∙ append-nil (calls_in pushed)

-- as many claims more as the ring took
count-more : (pushed : List RingItem) (done : List Claimed) → length (claims_in (pushed ++ map Register done)) ≡ length (claims_in pushed) + length done
count-more pushed done = ap length (claims-more pushed done) ∙ length-append (claims_in pushed) done

-- what a book tells, with the claims that the ring took
told-more : (w : WriterState) (done left : List Claimed) (rs : List Record) (claims : List Claimed) → TellAll w rs claims
    → TellAll (record w { push = record w.push { pushed = w.push.pushed ++ map Register done; refusals = w.push.refusals + refusal_of left }; waiting = left }) rs (claims ++ done)
told-more w done left rs claims h =
    let refused = h.refused in
    record {
      own = h.own;
      numbered = h.numbered;
      counted = h.counted;
      filtered = h.filtered;
      loaded = h.loaded;
      never_fall = h.never_fall;
      queued = calls-more w.push.pushed done ∙ h.queued;
      claimed = claims-more w.push.pushed done ∙ ap (λ (cs : List Claimed). cs ++ done) h.claimed;
      lost = h.lost;
      refused = omega (arith, refused);
    }

-- ---- an announcement through a book

module _ (old new : WriterState) (waits : ℕ) (a : Announces old new waits) (before kept : List Claimed) (behind : kept ≡ before ++ a.done) where
  taken_more : length (claims_in new.push.pushed) ≡ length (claims_in old.push.pushed) + length a.done
  taken_more = ap (λ (w : WriterState). length (claims_in w.push.pushed)) a.pushed ∙ count-more old.push.pushed a.done

  kept_more : length kept ≡ length before + length a.done
  kept_more = ap length behind ∙ length-append before a.done

  -- no claim is kept that the ring didn't take
  pub announced_taken : length before ≤ length (claims_in old.push.pushed) → length kept ≤ length (claims_in new.push.pushed)
  announced_taken few = let taken = taken_more in let more = kept_more in omega arith

  -- a whole book stays whole
  pub announced_whole : (rs : List Record) → Whole old rs before → Whole new rs kept
  announced_whole rs whole =
      let taken = taken_more in
      let more = kept_more in
      let was = whole.1 in
      (whole.0 ∙ sym (ap (λ (w : WriterState). w.calls) a.pushed), omega arith)

  -- and was whole before
  was_whole : (rs : List Record) → Whole new rs kept → Whole old rs before
  was_whole rs whole =
      let taken = taken_more in
      let more = kept_more in
      let is = whole.1 in
      (whole.0 ∙ ap (λ (w : WriterState). w.calls) a.pushed, omega arith)

  pub announced_told : (rs : List Record) → (Whole old rs before → TellAll old rs before) → Whole new rs kept → TellAll new rs kept
  announced_told rs told whole =
      subst (λ (w : WriterState). TellAll w rs kept) (sym a.pushed) (subst (TellAll _ rs) (sym behind) (told-more old a.done a.left rs before (told (was_whole rs whole))))

-- ---- a claim step

-- what a book tells says nothing of claims that wait, and of the reader's claims
told-aside : (w : WriterState) (reader : ReaderState) (registers table_full : ℕ) (waiting : List Claimed) (rs : List Record) (claims : List Claimed) → reader.reads ≡ w.reader.reads
    → TellAll w rs claims → TellAll (record w { reader = reader; registers = registers; table_full = table_full; waiting = waiting }) rs claims
told-aside w reader registers table_full waiting rs claims same h = record {
  own = h.own;
  numbered = h.numbered;
  counted = h.counted;
  filtered = h.filtered;
  loaded = subst (λ (reads : List _). All (λ (r : Record). Contains reads (read_of r)) rs) (sym same) h.loaded;
  never_fall = h.never_fall;
  queued = h.queued;
  claimed = h.claimed;
  lost = h.lost;
  refused = h.refused;
}

joined_told : (old new : WriterState) (ctid : List ℕ) (level : Option ℕ) (text : List ℕ) (ctx : Context) (rs : List Record) (claims : List Claimed) → Joins old ctid level text ctx new
    → TellAll old rs claims → TellAll new rs claims
joined_told old new ctid level text ctx rs claims j h =
    subst (λ (w : WriterState). TellAll w rs claims) (sym j.joined)
    (told-aside old (after_number old j.number).reader (old.registers + 1) old.table_full (old.waiting ++ claim_at old j.number ctid level text ∷ []) rs claims refl h)

full_told : (old new : WriterState) (rs : List Record) (claims : List Claimed) → IsTableFull old new → TellAll old rs claims → TellAll new rs claims
full_told old new rs claims full h = ⊎_elim
    (λ none. subst (λ (w : WriterState). TellAll w rs claims) (sym none)
    (told-aside old (after_none old).reader (old.registers + 1) (old.table_full + 1) old.waiting rs claims refl h))
    (λ (x : (number : ℕ) × (64 ≤ old.base + number) × (new ≡ record (after_number old number) { table_full = old.table_full + 1 })).
    subst (λ (w : WriterState). TellAll w rs claims) (sym x.2)
    (told-aside old (after_number old x.0).reader (old.registers + 1) (old.table_full + 1) old.waiting rs claims refl h))
    full

-- ---- what a loop over the claims that wait keeps

-- the claims so far went into the ring, and are kept behind those that were
pub record IsKeeping (old : WriterState) (before : List Claimed) (now : WriterState) (kept : List Claimed) : Type 0 where
  pub done : List Claimed
  pub so : IsAnnouncing old done now
  pub behind : kept ≡ before ++ done

-- there is room for one that the ring just took
pub keeping_fits : (old now new : WriterState) (before kept : List Claimed) (claim : Claimed) → length before ≤ length (claims_in old.push.pushed)
    → IsKeeping old before now kept → AnnouncesOne now claim new → TellsClaims new → length kept < 64
keeping_fits old now new before kept claim few k one tells =
    let long : length kept ≡ length before + length k.done = ap length k.behind ∙ length-append before k.done in
    let taken : length (claims_in now.push.pushed) ≡ length (claims_in old.push.pushed) + length k.done =
    ap (λ (w : WriterState). length (claims_in w.push.pushed)) k.so.pushed ∙ count-more old.push.pushed k.done in
    let more : length (claims_in new.push.pushed) ≡ length (claims_in now.push.pushed) + 1 =
    ap (λ (w : WriterState). length (claims_in w.push.pushed)) one.pushed ∙ count-more now.push.pushed (claim ∷ []) in
    let within = claims_within new tells in
    let most = tells.few in
    omega arith

pub keeping_stops : (old now new : WriterState) (before kept : List Claimed) (waits : ℕ) → AnnouncesNone now new → waits ≡ length new.waiting
    → IsKeeping old before now kept → AnnouncesInto old before new kept waits
keeping_stops old now new before kept waits none count k =
    let stop = stops old now new k.done waits k.so none count in
    record {
      announced = stop.0;
      behind = k.behind ∙ ap (λ (cs : List Claimed). before ++ cs) (sym stop.1);
    }

-- ---- the same of a book

pub keeps_announced : (b : BookState) (new : WriterState) (kept : List Claimed) (waits : ℕ) → AnnouncesInto b.writer b.claims new kept waits → KeepsAnnounced b (record b { writer = new; claims = kept }) waits
keeps_announced b new kept waits into = record {
  announced = into.announced;
  kept = ap (λ (cs : List Claimed). record b { writer = new; claims = cs }) into.behind;
}

-- a claim joined those that wait, and these were announced
pub keeps_registered : (old between new : BookState) (joined : WriterState) (ctid : List ℕ) (level : Option ℕ) (text : List ℕ) (ctx : Context) (waits : ℕ)
    → Joins old.writer ctid level text ctx joined → between ≡ record old { writer = joined } → KeepsAnnounced between new waits → KeepsRegistered old ctid level text ctx new
keeps_registered old between new joined ctid level text ctx waits joins made keeps = by_book (subst (λ (b : BookState). KeepsAnnounced b new waits) made keeps) where
  by_book : KeepsAnnounced (record old { writer = joined }) new waits → KeepsRegistered old ctid level text ctx new
  by_book k =
      let a = k.announced in
      let count : length new.writer.waiting ≡ length a.left = ap (λ (w : WriterState). length w.waiting) a.pushed in
      record {
        registered = record {
          joined = joined;
          joins = joins;
          announced = record { done = a.done; left = a.left; parts = a.parts; pushed = a.pushed; count = count; full = a.full };
        };
        kept = k.kept;
      }

-- what a book knows where a claim joined those that wait, or none was left
pub joined_knows : (old new : WriterState) (ctid : List ℕ) (level : Option ℕ) (text : List ℕ) (ctx : Context) (rs : List Record) (claims : List Claimed) → Joins old ctid level text ctx new
    → (Whole old rs claims → TellAll old rs claims) → Whole new rs claims → TellAll new rs claims
joined_knows old new ctid level text ctx rs claims j told whole =
    joined_told old new ctid level text ctx rs claims j (told (subst (λ (w : WriterState). Whole w rs claims) j.joined whole))

pub joined_taken : (old new : WriterState) (ctid : List ℕ) (level : Option ℕ) (text : List ℕ) (ctx : Context) (claims : List Claimed) → Joins old ctid level text ctx new
    → length claims ≤ length (claims_in old.push.pushed) → length claims ≤ length (claims_in new.push.pushed)
joined_taken old new ctid level text ctx claims j few = subst (λ (w : WriterState). length claims ≤ length (claims_in w.push.pushed)) (sym j.joined) few

full_whole : (old new : WriterState) (rs : List Record) (claims : List Claimed) → IsTableFull old new → Whole new rs claims → Whole old rs claims
full_whole old new rs claims full whole = ⊎_elim
    (λ none. subst (λ (w : WriterState). Whole w rs claims) none whole)
    (λ (x : (number : ℕ) × (64 ≤ old.base + number) × (new ≡ record (after_number old number) { table_full = old.table_full + 1 })). subst (λ (w : WriterState). Whole w rs claims) x.2 whole)
    full

full_knows : (old new : WriterState) (rs : List Record) (claims : List Claimed) → IsTableFull old new
    → (Whole old rs claims → TellAll old rs claims) → Whole new rs claims → TellAll new rs claims
full_knows old new rs claims full told whole = full_told old new rs claims full (told (full_whole old new rs claims full whole))

-- ---- where no context was claimed

-- nothing changed, or no place was left
abbrev pub IsRefused : WriterState → WriterState → Type 0
IsRefused old new = (new ≡ old) ⊎ IsTableFull old new

pub refused_so : (P : RegisterFault → Type 0) (A : Type 0) (old new : WriterState) (fault : Option RegisterFault) → IfSome fault (λ f. P f × (new ≡ old)) → IfNone fault (A × IsTableFull old new) → IsRefused old new
refused_so P A old new (Some fault) named full = inl named.1
refused_so P A old new None named full = inr full.1

pub refused_taken : (old new : WriterState) (claims : List Claimed) → IsRefused old new → length claims ≤ length (claims_in old.push.pushed) → length claims ≤ length (claims_in new.push.pushed)
refused_taken old new claims refused few = ⊎_elim
    (λ same. subst (λ (w : WriterState). length claims ≤ length (claims_in w.push.pushed)) (sym same) few)
    (λ full. ⊎_elim
    (λ none. subst (λ (w : WriterState). length claims ≤ length (claims_in w.push.pushed)) (sym none) few)
    (λ (x : (number : ℕ) × (64 ≤ old.base + number) × (new ≡ record (after_number old number) { table_full = old.table_full + 1 })).
    subst (λ (w : WriterState). length claims ≤ length (claims_in w.push.pushed)) (sym x.2) few)
    full)
    refused

pub refused_knows : (old new : WriterState) (rs : List Record) (claims : List Claimed) → IsRefused old new → (Whole old rs claims → TellAll old rs claims) → Whole new rs claims → TellAll new rs claims
refused_knows old new rs claims refused told whole = ⊎_elim
    (λ same. subst (λ (w : WriterState). TellAll w rs claims) (sym same) (told (subst (λ (w : WriterState). Whole w rs claims) same whole)))
    (λ full. full_knows old new rs claims full told whole)
    refused
