-- Calls that are taken and noted at one moment, and a claim behind them.
use Rattle.std.proofs.Common.{◌≡◌, ℕ, ◌+◌, ◌<◌, ◌&&◌, nat_lt, Bool, true, false, cond, List, [], ◌∷◌, ◌++◌, length, length-append, map, append-nil, eqb, Some, None, refl, sym, ap, ◌∙◌, subst, arith}
use Rattle.std.proofs.lemmas.List.{length-map, map-append}
use Rattle.dl_bytes.specs.Claim.{Claimed}
use Rattle.dl_bytes.specs.declared.item.Item.{Item}
use Rattle.dl_bytes.specs.declared.moment.Moment.{Moment}
use Rattle.dl_events.specs.declared.event.Event.TheVariants as event
use Rattle.dl_model.specs.Backlog.{size_of}
use Rattle.dl_ring.specs.declared.item.RingItem.{RingItem}
use Rattle.dl_ring.specs.declared.item.RingItem.TheVariants.{Log, Register}
use Rattle.dl_core.specs.Admission.{lost_frames}
use Rattle.dl_admission.specs.Admission.{Entry, Logs, Uses, loss_entries}
use Rattle.dl_taking.specs.Filling.{Fills}
use Rattle.dl_taking.specs.Side.{Side}
use Rattle.dl_taking.specs.Takes.{TakesClaim, TakesSome, found_none, owned}
use Rattle.dl_taking.specs.Took.{Took, with_items}
use Rattle.dl_taking.specs.declared.taking.Got.{Got}
use Rattle.dl_taking.proofs.Tooks.{items_both, items_none}
use Rattle.dl_lemmas.proofs.Bools.{and_false}

-- ---- a batch

-- one call more
pub fills_more : (app most : ℕ) (took took_now took_new : Took) (batch batch_new : List Item) (item : Item) → Fills app most None took took_now batch → took_new ≡ with_items app (Log item ∷ []) took_now
    → batch_new ≡ batch ++ owned app item ∷ [] → length batch < most → Fills app most None took took_new batch_new
fills_more app most took took_now took_new batch batch_new item so taken added within =
    let count : length (so.items ++ item ∷ []) ≡ length so.items + 1 = length-append so.items (item ∷ []) in
    let as_many : length batch ≡ length so.items = ap (λ (xs : List Item). length xs) so.batch_is ∙ length-map so.items (owned app) in
    let more : (map Log so.items ++ []) ++ Log item ∷ [] ≡ map Log (so.items ++ item ∷ []) ++ [] =
    ap (λ (xs : List RingItem). xs ++ Log item ∷ []) (append-nil (map Log so.items)) ∙ sym (map-append Log so.items (item ∷ [])) ∙ sym (append-nil (map Log (so.items ++ item ∷ []))) in record {
      items = so.items ++ item ∷ [];
      taken = taken ∙ ap (with_items app (Log item ∷ [])) so.taken ∙ items_both app (map Log so.items ++ []) (Log item ∷ []) took ∙ ap (λ (xs : List RingItem). with_items app xs took) more;
      few = omega (arith, count, as_many, within);
      batch_is = added ∙ ap (λ (xs : List Item). xs ++ owned app item ∷ []) so.batch_is ∙ sym (map-append (owned app) so.items (item ∷ []));
    }

-- a claim behind them
pub fills_claim : (app most : ℕ) (claim : Claimed) (took took_now took_new : Took) (batch batch_new : List Item) → Fills app most None took took_now batch
    → took_new ≡ with_items app (Register claim ∷ []) took_now → batch_new ≡ batch → length batch < most → Fills app most (Some claim) took took_new batch_new
fills_claim app most claim took took_now took_new batch batch_new so taken same within =
    let as_many : length batch ≡ length so.items = ap (λ (xs : List Item). length xs) so.batch_is ∙ length-map so.items (owned app) in record {
      items = so.items;
      taken = taken ∙ ap (with_items app (Register claim ∷ [])) so.taken ∙ items_both app (map Log so.items ++ []) (Register claim ∷ []) took
          ∙ ap (λ (xs : List RingItem). with_items app (xs ++ Register claim ∷ []) took) (append-nil (map Log so.items));
      few = omega (arith, as_many, within);
      batch_is = same ∙ so.batch_is;
    }

-- ---- whether the last take found the ring empty

pub none_claimed : (most calls : ℕ) → found_none most (record { calls = calls; claimed = true }) ≡ false
none_claimed most calls = and_false (nat_lt (calls + 1) most) false refl

pub none_unclaimed : (most calls : ℕ) → found_none most (record { calls = calls; claimed = false }) ≡ nat_lt calls most
none_unclaimed most calls = ap (λ (n : ℕ). nat_lt n most && true) (omega arith) ∙ and_true (nat_lt calls most) where
  and_true : (b : Bool) → (b && true) ≡ b
  and_true true = refl
  and_true false = refl

-- ---- what was taken, and noted

module _ (app most : ℕ) (moment : Moment) (batch : List Item) where
  pub takes_calls : (got : Got) (old new : Side) → got.calls ≡ length batch → got.claimed ≡ false → Fills app most None old.took new.took batch → Logs moment batch old.part new.part
      → Uses (length batch) old.part.core.hub new.part.core.hub old.noted new.noted old.spare new.spare → new.desk ≡ old.desk → TakesSome app most got old new
  takes_calls got old new counted none fills logs uses desk =
      let as_many : got.calls ≡ length fills.items = counted ∙ ap (λ (xs : List Item). length xs) fills.batch_is ∙ length-map fills.items (owned app) in record {
        items = fills.items;
        moment = moment;
        between = new;
        count_is = as_many;
        few = rw none (omega (arith, as_many, fills.few));
        took = fills.taken ∙ ap (λ (xs : List RingItem). with_items app xs old.took) (append-nil (map Log fills.items));
        logs = subst (λ (xs : List Item). Logs moment xs old.part new.part) fills.batch_is logs;
        uses = subst (λ (n : ℕ). Uses n old.part.core.hub new.part.core.hub old.noted new.noted old.spare new.spare) (sym counted) uses;
        desk = desk;
        claim = rw none refl;
      }

  -- with a claim
  pub takes_claim : (got : Got) (claim : Claimed) (took : Took) (old between new : Side) → got.calls ≡ length batch → got.claimed ≡ true → (fills : Fills app most (Some claim) old.took took batch)
      → between.took ≡ with_items app (map Log fills.items) old.took → Logs moment batch old.part between.part
      → Uses (length batch) old.part.core.hub between.part.core.hub old.noted between.noted old.spare between.spare → between.desk ≡ old.desk
      → TakesClaim app moment between new → TakesSome app most got old new
  takes_claim got claim took old between new counted some fills took_is logs uses desk claims =
      let as_many : got.calls ≡ length fills.items = counted ∙ ap (λ (xs : List Item). length xs) fills.batch_is ∙ length-map fills.items (owned app) in record {
        items = fills.items;
        moment = moment;
        between = between;
        count_is = as_many;
        few = rw some (omega (arith, as_many, fills.few));
        took = took_is;
        logs = subst (λ (xs : List Item). Logs moment xs old.part between.part) fills.batch_is logs;
        uses = subst (λ (n : ℕ). Uses n old.part.core.hub between.part.core.hub old.noted between.noted old.spare between.spare) (sym counted) uses;
        desk = desk;
        claim = rw some claims;
      }

-- what was taken with the claim
pub with_claim_behind : (app most : ℕ) (claim : Claimed) (old took : Took) (batch : List Item) → (fills : Fills app most (Some claim) old took batch)
    → took ≡ with_items app (Register claim ∷ []) (with_items app (map Log fills.items) old)
with_claim_behind app most claim old took batch fills = fills.taken ∙ sym (items_both app (map Log fills.items) (Register claim ∷ []) old)

-- ---- losses

pub one_report : (ecu : List ℕ) (app : ℕ) (apid : List ℕ) (count : ℕ) (moment : Moment) → length (loss_entries ecu moment app apid count) ≡ cond (eqb count 0) 0 1
one_report ecu app apid count moment = by (eqb count 0) where
  by : (b : Bool) → length {A = Entry} (cond b [] (record { event = event.Lost app count moment; need = size_of (lost_frames ecu apid count) } ∷ [])) ≡ cond b 0 1
  by true = refl
  by false = refl
