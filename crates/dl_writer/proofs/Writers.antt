-- What is true of a writer's fields stays so, step by step.
use Rattle.std.proofs.Common.{◌≡◌, ℕ, ◌+◌, ◌%◌, ◌^◌, ◌<◌, ◌≤◌, Option, List, [], ◌∷◌, ◌++◌, length, sym, ap, subst, ◌∙◌, length-append, ⊎_elim, arith}
use Rattle.std.specs.Prelude.{◌⊎◌}
use Rattle.dl_bytes.specs.Claim.{Claimed}
use Rattle.dl_bytes.specs.declared.item.Item.{Item}
use Rattle.dl_cells.specs.Claims.{given_of}
use Rattle.dl_cells.specs.declared.level_history.Read.{Read}
use Rattle.dl_cells.specs.LevelStates.{ReaderState}
use Rattle.dl_ring.specs.declared.item.RingItem.TheVariants.{Log, Register}
use Rattle.dl_ring.specs.Items.{calls_in, claims_in}
use Rattle.dl_ring.specs.State.{PushState}
use Rattle.dl_ring.proofs.Items.{calls_in-append, claims_in-append}
use Rattle.dl_writer.specs.Calls.{passed}
use Rattle.dl_writer.specs.Claiming.{with_none, with_number}
use Rattle.dl_writer.specs.WriterInside.{writer_state, IsWriter}
use Rattle.dl_writer.specs.declared.writer.Writer.TheInside as writer
use Rattle.dl_writer.proofs.Claims.{calls_in-claim, claims_in-call, claims_within, tells_announced, tells_called, tells_loaded, tells_full, tells_joined}
use Rattle.dl_cells.proofs.ClaimSums.{given_more}

-- the ring took the first claim that waited
pub announced : (w : writer.Inside) (push : PushState) (claim : Claimed) (left : List Claimed) → push ≡ record w.push { pushed = w.push.pushed ++ Register claim ∷ [] }
    → w.waiting ≡ claim ∷ left → IsWriter w → IsWriter (record w { claimed = w.claimed + 1; waiting = left; push = push })
announced w push claim left took first is =
    let calls : calls_in push.pushed ≡ calls_in w.push.pushed = ap (λ (p : PushState). calls_in p.pushed) took ∙ calls_in-claim w.push.pushed claim in
    let claims : length (claims_in push.pushed) ≡ length (claims_in w.push.pushed) + 1 =
    ap (λ (p : PushState). length (claims_in p.pushed)) took ∙ ap length (claims_in-append w.push.pushed (Register claim ∷ [])) ∙ length-append (claims_in w.push.pushed) (claim ∷ []) in
    let count = is.claimed in
    let made = is.made in
    let long = ap length calls in
    record {
      app = is.app;
      number = is.number ∙ sym (ap (λ (p : PushState). p.number) took);
      low = is.low;
      high = is.high;
      slots = is.slots;
      apps = is.apps;
      counter = is.counter ∙ ap (λ n. (n + length w.losses.counted) % 256) (sym long);
      queued = is.queued ∙ sym long;
      claimed = omega (arith, claims, count);
      made = omega (arith, long, made);
      few = is.few;
      given = is.given;
      claims = tells_announced (writer_state w) push claim left took first is.claims;
    }

-- the step of a claim changes only what the reader claimed
same_slots : (w : writer.Inside) (reader : ReaderState) → (reader ≡ with_none w.reader w.owner.app) ⊎ ((number : ℕ) × (64 ≤ w.owner.base + number) × (reader ≡ with_number w.reader w.owner.app number))
    → reader.slots ≡ w.reader.slots
same_slots w reader claimed = ⊎_elim
    (λ none. ap (λ (r : ReaderState). r.slots) none)
    (λ (x : (number : ℕ) × (64 ≤ w.owner.base + number) × (reader ≡ with_number w.reader w.owner.app number)). ap (λ (r : ReaderState). r.slots) x.2)
    claimed

-- no place was left
pub is_full : (w : writer.Inside) (reader : ReaderState) (registers table_full : ℕ)
    → (reader ≡ with_none w.reader w.owner.app) ⊎ ((number : ℕ) × (64 ≤ w.owner.base + number) × (reader ≡ with_number w.reader w.owner.app number))
    → registers ≡ w.registers + 1 → table_full ≡ w.table_full + 1
    → (length (given_of w.owner.app w.reader.given) ≤ 64 → length (given_of w.owner.app reader.given) ≤ 64)
    → IsWriter w → IsWriter (record w { registers = registers; table_full = table_full; reader = reader })
is_full w reader registers table_full claimed count full few is =
    let slots = is.slots in
    let same = same_slots w reader claimed in
    record {
      app = is.app;
      number = is.number;
      low = is.low;
      high = is.high;
      slots = omega (arith, slots, same);
      apps = is.apps;
      counter = is.counter;
      queued = is.queued;
      claimed = is.claimed;
      made = is.made;
      few = is.few;
      given = is.given;
      claims = tells_full (writer_state w) reader registers table_full claimed count full (few is.claims.few) is.claims;
    }

-- a claim joined those that wait
pub is_joined : (w : writer.Inside) (reader : ReaderState) (number place registers : ℕ) (waiting : List Claimed) (claim : Claimed)
    → reader ≡ with_number w.reader w.owner.app number → place ≡ w.owner.base + number → place < 64 → registers ≡ w.registers + 1
    → waiting ≡ w.waiting ++ claim ∷ [] → claim ≡ record { app = w.owner.app; writer = w.number; place = place; ctid = claim.ctid; level = claim.level; text = claim.text }
    → (length (given_of w.owner.app w.reader.given) ≤ 64 → length (given_of w.owner.app reader.given) ≤ 64)
    → IsWriter w → IsWriter (record w { waiting = waiting; registers = registers; reader = reader })
is_joined w reader number place registers waiting claim claimed at within count last made few is =
    let slots = is.slots in
    let same = ap (λ (r : ReaderState). r.slots) claimed in
    record {
      app = is.app;
      number = is.number;
      low = is.low;
      high = is.high;
      slots = omega (arith, slots, same);
      apps = is.apps;
      counter = is.counter;
      queued = is.queued;
      claimed = is.claimed;
      made = is.made;
      few = is.few;
      given = is.given;
      claims = tells_joined (writer_state w) reader number registers waiting claim claimed count last (subst (λ n. n < 64) at within)
          (ap (λ (c : Claimed). c.app) made) (ap (λ (c : Claimed). c.writer) made ∙ is.number) (ap (λ (c : Claimed). c.place) made ∙ at) (few is.claims.few) is.claims;
    }

-- a claim is of its number and place
pub claim_made : (claim : Claimed) (app number place : ℕ) (ctid : List ℕ) (level : Option ℕ) (text : List ℕ) → claim ≡ record { app = app; writer = number; place = place; ctid = ctid; level = level; text = text }
    → claim ≡ record { app = app; writer = number; place = place; ctid = claim.ctid; level = claim.level; text = claim.text }
claim_made claim app number place ctid level text made =
    made ∙ sym (ap (λ (c : Claimed). record { app = app; writer = number; place = place; ctid = c.ctid; level = c.level; text = c.text }) made)

-- there is room for the claim of a number that was just given
pub has_room : (w : writer.Inside) (reader : ReaderState) (number : ℕ) → reader ≡ with_number w.reader w.owner.app number
    → (length (given_of w.owner.app w.reader.given) ≤ 64 → length (given_of w.owner.app reader.given) ≤ 64) → IsWriter w → length w.waiting < 64
has_room w reader number claimed few is =
    let within = claims_within (writer_state w) is.claims in
    let now = few is.claims.few in
    let more : length (given_of w.owner.app reader.given) ≡ length (given_of w.owner.app w.reader.given) + 1 =
    ap (λ (r : ReaderState). length (given_of w.owner.app r.given)) claimed ∙ ap length (given_more w.owner.app number w.reader.given)
    ∙ length-append (given_of w.owner.app w.reader.given) (number ∷ []) in
    omega arith

-- the ring took a call
pub called : (w : writer.Inside) (push : PushState) (item : Item) → push ≡ record w.push { pushed = w.push.pushed ++ Log item ∷ [] } → passed (writer_state w) < w.calls
    → IsWriter w → IsWriter (record w { mcnt = (w.mcnt + 1) % 256; queued = w.queued + 1; push = push })
called w push item took room is =
    let calls : length (calls_in push.pushed) ≡ length (calls_in w.push.pushed) + 1 =
    ap (λ (p : PushState). length (calls_in p.pushed)) took ∙ ap length (calls_in-append w.push.pushed (Log item ∷ [])) ∙ length-append (calls_in w.push.pushed) (item ∷ []) in
    let claims : claims_in push.pushed ≡ claims_in w.push.pushed = ap (λ (p : PushState). claims_in p.pushed) took ∙ claims_in-call w.push.pushed item in
    let counter = is.counter in
    let queued = is.queued in
    record {
      app = is.app;
      number = is.number ∙ sym (ap (λ (p : PushState). p.number) took);
      low = is.low;
      high = is.high;
      slots = is.slots;
      apps = is.apps;
      counter = omega (arith, calls, counter);
      queued = omega (arith, calls, queued);
      claimed = is.claimed ∙ sym (ap length claims);
      made = omega (arith, calls, room);
      few = is.few;
      given = is.given;
      claims = tells_called (writer_state w) push item took is.claims;
    }

-- a call was counted, and its level loaded
pub loaded : (w : writer.Inside) (reader : ReaderState) (reads : List Read) → reader ≡ record w.reader { reads = reads } → (w.calls ≡ 2 ^ 40 → ⊥) → IsWriter w → IsWriter (record w { calls = w.calls + 1; reader = reader })
loaded w reader reads made room is =
    let slots = is.slots in
    let same = ap (λ (r : ReaderState). r.slots) made in
    let calls = is.made in
    let few = is.few in
    record {
      app = is.app;
      number = is.number;
      low = is.low;
      high = is.high;
      slots = omega (arith, slots, same);
      apps = is.apps;
      counter = is.counter;
      queued = is.queued;
      claimed = is.claimed;
      made = omega (arith, calls);
      few = omega (arith, room, few);
      given = is.given;
      claims = tells_loaded (writer_state w) (w.calls + 1) reader reads made is.claims;
    }
