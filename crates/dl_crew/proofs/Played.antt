-- Books as their writers announce, claim and log.
use Rattle.std.proofs.Common.{◌≡◌, ℕ, cond, ◌+◌, ◌<◌, ◌≤◌, inl, List, [], ◌∷◌, ◌++◌, length, map, replicate, Option, Some, None, refl, sym, ap, ◌∙◌, subst, append-nil, append_assoc, length-append, arith}
use Rattle.std.specs.Prelude.{IfNone, IfSome}
use Rattle.std.proofs.lemmas.List.{length-map, length-replicate, map-append, replicate_more}
use Rattle.std.proofs.lemmas.List.Elements.{filter-append}
use Rattle.dl_bytes.specs.Claim.{Claimed}
use Rattle.dl_bytes.specs.Context.{Context}
use Rattle.dl_bytes.specs.Payload.{Arguments}
use Rattle.dl_bytes.specs.declared.level.Severity.{Severity}
use Rattle.dl_events.specs.declared.record.Answer.{Answer}
use Rattle.dl_events.specs.declared.record.Answer.TheVariants.{Filtered, Queued, Lost}
use Rattle.dl_events.specs.declared.record.Record.{Record}
use Rattle.dl_model.specs.Accounts.{with_answer}
use Rattle.dl_model.specs.Report.{is_answer}
use Rattle.dl_ring.specs.declared.item.RingItem.{RingItem}
use Rattle.dl_bytes.specs.declared.item.Injection.{Injection}
use Rattle.dl_bytes.specs.declared.item.Item.{Item}
use Rattle.dl_writer.specs.Calls.{Keeps, after, asked, refusals_after, with_empty, with_injection}
use Rattle.dl_writer.specs.Claiming.{Announces, KeepsAnnounced, refusal_of}
use Rattle.dl_writer.specs.State.{BookState, WriterState, IsWhole}
use Rattle.dl_desk.specs.Made.{IsMadeWith}
use Rattle.dl_crew.specs.Calls.{CallContent, content, content_of}
use Rattle.dl_crew.specs.Plays.{CallsInTurn, Does, HasRoom, Makes, Stays}

-- ---- one thing after the other

pub stays_none : (b : BookState) → Stays b b
stays_none b = record { number = refl; app = refl; apid = refl; base = refl; room = refl; made = refl; asked_each = refl; whole = λ whole. whole; desk = λ desk made. made }

pub stays_on : (first second third : BookState) → Stays first second → Stays second third → Stays first third
stays_on first second third a b = record {
  number = b.number ∙ a.number;
  app = b.app ∙ a.app;
  apid = b.apid ∙ a.apid;
  base = b.base ∙ a.base;
  room = b.room ∙ a.room;
  made = (let x = a.made in let y = b.made in omega (arith, x, y));
  asked_each = (let x = a.asked_each in let y = b.asked_each in omega (arith, x, y));
  whole = λ whole. b.whole (a.whole whole);
  desk = λ desk made. b.desk desk (a.desk desk made);
}

pub does_none : (b : BookState) → Does [] [] 0 b b
does_none b = record {
  records = sym (append-nil b.records);
  joined = sym (append-nil (b.claims ++ b.writer.waiting));
  grows = omega arith;
  refusals = omega arith;
  waits = λ less. omega arith;
}

-- how many claims there are, those that wait with the others
pub all_claims : (kept : List Record) (claims : List Claimed) (refused : ℕ) (old new : BookState) → Does kept claims refused old new
    → length new.claims + length new.writer.waiting ≡ length old.claims + length old.writer.waiting + length claims
all_claims kept claims refused old new does =
    let all = ap length does.joined in
    let now = length-append new.claims new.writer.waiting in
    let before = length-append old.claims old.writer.waiting in
    let more = length-append (old.claims ++ old.writer.waiting) claims in
    omega (arith, all, now, before, more)

lost_both : (xs ys : List Record) → length (with_answer Lost (xs ++ ys)) ≡ length (with_answer Lost xs) + length (with_answer Lost ys)
lost_both xs ys = ap length (filter-append (λ r. is_answer Lost r.answer) xs ys) ∙ length-append (with_answer Lost xs) (with_answer Lost ys)

pub does_on : (kept more : List Record) (claims others : List Claimed) (refused again : ℕ) (first second third : BookState)
    → Does kept claims refused first second → Does more others again second third → Does (kept ++ more) (claims ++ others) (refused + again) first third
does_on kept more claims others refused again first second third a b = record {
  records = b.records ∙ ap (λ (l : List Record). l ++ more) a.records ∙ append_assoc first.records kept more;
  joined = b.joined ∙ ap (λ (l : List Claimed). l ++ others) a.joined ∙ append_assoc (first.claims ++ first.writer.waiting) claims others;
  grows = (let x = a.grows in let y = b.grows in omega (arith, x, y));
  refusals = (let x = a.refusals in let y = b.refusals in let n = lost_both kept more in omega (arith, x, y, n));
  waits = λ less. (
      let y = b.grows in
      let all = all_claims kept claims refused first second a in
      let before = a.waits (omega (arith, y, less)) in
      let then = b.waits (omega (arith, all, less)) in
      let both = length-append kept more in
      omega (arith, before, then, both));
}

-- calls, and then more
calls_then : (calls more : List CallContent) (first second third : BookState) → CallsInTurn calls first second → CallsInTurn more second third → CallsInTurn (calls ++ more) first third
calls_then [] more first second third a b = subst (λ (s : BookState). CallsInTurn more s third) a b
calls_then (call ∷ calls) more first second third (mid, one, rest) b = (mid, one, calls_then calls more mid second third rest b)

pub makes_none : (b : BookState) → Makes [] b b
makes_none b = record { kept = []; refused = 0; stays = stays_none b; does = does_none b; contents = refl; in_turn = refl; registers = refl; table_full = refl }

pub makes_on : (calls more : List CallContent) (first second third : BookState) → Makes calls first second → Makes more second third → Makes (calls ++ more) first third
makes_on calls more first second third a b = record {
  kept = a.kept ++ b.kept;
  refused = a.refused + b.refused;
  stays = stays_on first second third a.stays b.stays;
  does = does_on a.kept b.kept [] [] a.refused b.refused first second third a.does b.does;
  contents = map-append content_of a.kept b.kept ∙ ap (λ (l : List CallContent). l ++ map content_of b.kept) a.contents ∙ ap (λ (l : List CallContent). calls ++ l) b.contents;
  in_turn = calls_then calls more first second third a.in_turn b.in_turn;
  registers = b.registers ∙ a.registers;
  table_full = b.table_full ∙ a.table_full;
}

-- ---- announcing

-- the writer with this pushed, refused and waiting
abbrev announcing : WriterState → List RingItem → ℕ → List Claimed → WriterState
announcing w pushed refusals waiting = record w { push = record w.push { pushed = pushed; refusals = refusals }; waiting = waiting }

none_announced : (w : WriterState) → w.waiting ≡ [] → Announces w w (length w.waiting)
none_announced w none =
    let zero_more : w.push.refusals ≡ w.push.refusals + 0 = omega arith in
    record {
      done = [];
      left = [];
      parts = none;
      pushed = ap (λ (l : List RingItem). announcing w l w.push.refusals w.waiting) (sym (append-nil w.push.pushed))
          ∙ ap (λ (n : ℕ). announcing w (w.push.pushed ++ []) n w.waiting) zero_more
          ∙ ap (announcing w (w.push.pushed ++ []) (w.push.refusals + 0)) none;
      count = ap length none;
      full = inl refl;
    }

no_length : {A : Type 0} (xs : List A) → length xs ≤ 0 → xs ≡ []
no_length [] none = refl
no_length (x ∷ xs) none = absurd (omega (arith, none))

-- where none waits
pub keeps_none : (b : BookState) → length b.writer.waiting ≤ 0 → KeepsAnnounced b b (length b.writer.waiting)
unfolding none_announced
keeps_none b few = record {
  announced = none_announced b.writer (no_length b.writer.waiting few);
  kept = ap (λ (l : List Claimed). record b { claims = l }) (sym (append-nil b.claims));
}

pub some_refused : (left : List Claimed) → 1 ≤ length left → refusal_of left ≡ 1
some_refused [] some = absurd (omega (arith, some))
some_refused (claim ∷ left) some = refl

-- what an announcement leaves
pub record Announced (old new : BookState) : Type 0 where
  pub refused : ℕ
  pub stays : Stays old new
  pub does : Does [] [] refused old new
  pub late : length new.claims < length old.claims + length old.writer.waiting → 1 ≤ refused
  pub registers : new.writer.registers ≡ old.writer.registers
  pub table_full : new.writer.table_full ≡ old.writer.table_full

module _ (old new : BookState) (whole_so : IsWhole old → IsWhole new) (waits : ℕ) (k : KeepsAnnounced old new waits) where
  pub is_announced : Announced old new
  is_announced =
      let a = k.announced in
      let claims : new.claims ≡ old.claims ++ a.done = ap (λ (b : BookState). b.claims) k.kept in
      let waiting : new.writer.waiting ≡ a.left = ap (λ (w : WriterState). w.waiting) a.pushed in
      let refusals : new.writer.push.refusals ≡ old.writer.push.refusals + refusal_of a.left = ap (λ (w : WriterState). w.push.refusals) a.pushed in
      let records : new.records ≡ old.records = ap (λ (b : BookState). b.records) k.kept in
      let joined : new.claims ++ new.writer.waiting ≡ old.claims ++ old.writer.waiting =
      ap (λ (l : List Claimed). l ++ new.writer.waiting) claims ∙ ap (λ (l : List Claimed). (old.claims ++ a.done) ++ l) waiting ∙ append_assoc old.claims a.done a.left
      ∙ ap (λ (l : List Claimed). old.claims ++ l) (sym a.parts) in
      let count = ap length claims ∙ length-append old.claims a.done in
      let parts = ap length a.parts ∙ length-append a.done a.left in
      record {
        refused = refusal_of a.left;
        stays = record {
          number = ap (λ (w : WriterState). w.push.number) a.pushed;
          app = ap (λ (w : WriterState). w.app) a.pushed;
          apid = ap (λ (w : WriterState). w.apid) a.pushed;
          base = ap (λ (w : WriterState). w.base) a.pushed;
          room = ap (λ (b : BookState). b.room) k.kept;
          made = (let calls = ap (λ (w : WriterState). w.calls) a.pushed in let same = ap length records in omega (arith, calls, same));
          asked_each = (
              let taken = ap (λ (w : WriterState). length w.injections.taken) a.pushed in
              let empties = ap (λ (w : WriterState). w.injections.empties) a.pushed in
              let same = ap length records in
              omega (arith, taken, empties, same));
          whole = whole_so;
          desk = λ desk made. subst (λ (w : WriterState). IsMadeWith desk w) (sym a.pushed) (record {
            from_one = made.from_one;
            owner = made.owner;
            apid = made.apid;
            ring = made.ring;
            queue = made.queue;
            capacity = made.capacity;
            levels = made.levels;
            claims = made.claims;
            losses = made.losses;
            split = made.split;
          });
        };
        does = record {
          records = records ∙ sym (append-nil old.records);
          joined = joined ∙ sym (append-nil (old.claims ++ old.writer.waiting));
          grows = omega (arith, count);
          refusals = omega (arith, refusals);
          waits = λ less. omega arith;
        };
        late = λ less. (let one = some_refused a.left (omega (arith, less, count, parts)) in omega (arith, one));
        registers = ap (λ (w : WriterState). w.registers) a.pushed;
        table_full = ap (λ (w : WriterState). w.table_full) a.pushed;
      }

-- ---- one call

lost_one : (r : Record) (refusals : ℕ) → refusals_after r.answer refusals ≡ refusals + length (with_answer Lost (r ∷ []))
lost_one r refusals = by_answer r.answer where
  by_answer : (what : Answer) → refusals_after what refusals ≡ refusals + length (cond (is_answer Lost what) (r ∷ []) [])
  by_answer Filtered = omega arith
  by_answer Queued = omega arith
  by_answer Lost = refl

-- one more injection was asked for
pub record Asks (old new : BookState) : Type 0 where
  pub rest : new ≡ record old { writer = record old.writer { injections = new.writer.injections } }
  pub queue : new.writer.injections.queue ≡ old.writer.injections.queue
  pub first : new.writer.injections.first ≡ old.writer.injections.first
  pub asks : asked new.writer ≡ asked old.writer + 1

pub asks_one : (o : Option Injection) (old new : BookState)
    → IfSome o (λ injection. (number : ℕ) × (new ≡ record old { writer = with_injection old.writer number injection }))
    → IfNone o (new ≡ record old { writer = with_empty old.writer })
    → new ≡ record old { writer = record old.writer { injections = new.writer.injections } } → asked new.writer ≡ asked old.writer + 1 → Asks old new
asks_one None old new taken none rest asks = record {
  rest = rest;
  queue = ap (λ (b : BookState). b.writer.injections.queue) none;
  first = ap (λ (b : BookState). b.writer.injections.first) none;
  asks = asks;
}
asks_one (Some injection) old new taken none rest asks = record {
  rest = rest;
  queue = ap (λ (b : BookState). b.writer.injections.queue) taken.1;
  first = ap (λ (b : BookState). b.writer.injections.first) taken.1;
  asks = asks;
}

-- A call that was kept, and one more injection that was asked for.
module _ (old mid new : BookState) (ctx : Context) (severity : Severity) (at : ℕ) (payload : Arguments) (what : Answer) (whole_so : IsWhole old → IsWhole mid)
    (k : Keeps old ctx severity at payload what mid) (asks : Asks mid new) where
  writer_so : new.writer ≡ record (after old.writer k.made) { injections = new.writer.injections }
  writer_so =
      ap (λ (b : BookState). b.writer) asks.rest
      ∙ ap (λ (b : BookState). record b.writer { injections = new.writer.injections }) k.kept

  records_so : new.records ≡ old.records ++ k.made ∷ []
  records_so = ap (λ (b : BookState). b.records) asks.rest ∙ ap (λ (b : BookState). b.records) k.kept

  claims_so : new.claims ≡ old.claims
  claims_so = ap (λ (b : BookState). b.claims) asks.rest ∙ ap (λ (b : BookState). b.claims) k.kept

  call_stays : Stays old new
  call_stays =
      let long = ap length records_so ∙ length-append old.records (k.made ∷ []) in
      record {
        number = ap (λ (w : WriterState). w.push.number) writer_so;
        app = ap (λ (w : WriterState). w.app) writer_so;
        apid = ap (λ (w : WriterState). w.apid) writer_so;
        base = ap (λ (w : WriterState). w.base) writer_so;
        room = ap (λ (b : BookState). b.room) asks.rest ∙ ap (λ (b : BookState). b.room) k.kept;
        made = (let calls = ap (λ (w : WriterState). w.calls) writer_so in omega (arith, calls, long));
        asked_each = (let asked_so = asks.asks in let before = ap (λ (b : BookState). asked b.writer) k.kept in omega (arith, asked_so, before, long));
        whole = λ whole. subst IsWhole (sym asks.rest) (whole_so whole);
        desk = λ desk made. subst (λ (w : WriterState). IsMadeWith desk w) (sym writer_so) (record {
          from_one = made.from_one;
          owner = made.owner;
          apid = made.apid;
          ring = made.ring;
          queue = made.queue ∙ ap (λ (n : _). Some n) (sym (asks.queue ∙ ap (λ (b : BookState). b.writer.injections.queue) k.kept));
          capacity = made.capacity;
          levels = made.levels;
          claims = made.claims;
          losses = made.losses;
          split = (made.split.0, asks.first ∙ ap (λ (b : BookState). b.writer.injections.first) k.kept ∙ made.split.1, made.split.2, made.split.3);
        });
      }

  -- the call said what was asked
  content_so : content_of k.made ≡ content ctx severity payload
  content_so =
      ap (λ (i : Item). record { apid = i.apid; ctid = i.ctid; slot = k.made.slot; severity = i.severity; payload = i.payload }) k.told.message
      ∙ ap (λ (n : ℕ). record { apid = ctx.apid; ctid = ctx.ctid; slot = n; severity = severity; payload = payload }) k.told.place

  -- behind an announcement
  pub is_made : (first : BookState) → Announced first old → KeepsAnnounced first old (length old.writer.waiting) → Makes (content ctx severity payload ∷ []) first new
  is_made first a announces =
      let same = ap length claims_so in
      record {
        kept = k.made ∷ [];
        refused = a.refused;
        stays = stays_on first old new a.stays call_stays;
        does = record {
          records = records_so ∙ ap (λ (l : List Record). l ++ k.made ∷ []) (a.does.records ∙ append-nil first.records);
          joined = ap (λ (l : List Claimed). l ++ new.writer.waiting) claims_so ∙ ap (λ (w : WriterState). old.claims ++ w.waiting) writer_so ∙ a.does.joined;
          grows = (let grows = a.does.grows in omega (arith, same, grows));
          refusals = (
              let one = lost_one k.made old.writer.push.refusals in
              let now = ap (λ (w : WriterState). w.push.refusals) writer_so in
              let before = a.does.refusals in
              omega (arith, one, now, before));
          waits = λ less. (let one = a.late (omega (arith, less, same)) in omega (arith, one));
        };
        contents = ap (λ (c : CallContent). c ∷ []) content_so;
        in_turn = (
          new,
          record {
            ctx = ctx;
            severity = severity;
            payload = payload;
            said = refl;
            announced = old;
            announces = announces;
            at = at;
            answer = what;
            logged = mid;
            logs = k;
            asks = asks.asks;
            rest = asks.rest;
          },
          refl,
        );
        registers = ap (λ (w : WriterState). w.registers) writer_so ∙ a.registers;
        table_full = ap (λ (w : WriterState). w.table_full) writer_so ∙ a.table_full;
      }

-- ---- calls that are alike

-- where there was room for some calls and these were made, there is room for the others
pub room_left : (calls : List CallContent) (count left : ℕ) (old new : BookState) → HasRoom count old → Makes calls old new → length calls + left ≤ count → HasRoom left new
room_left calls count left old new has makes few =
    let long = ap length makes.does.records ∙ length-append old.records makes.kept in
    let many = sym (length-map makes.kept content_of) ∙ ap length makes.contents in
    let made = makes.stays.made in
    let room = has.room in
    let spare = has.few in
    record {
      room = subst (λ (room : ℕ). length new.records + left ≤ room) (sym makes.stays.room) (omega (arith, long, many, room, few));
      few = omega (arith, made, long, many, spare, few);
    }

module _ (call : CallContent) (old new : BookState) (made : ℕ) (makes : Makes (replicate made call) old new) where
  pub one_call_more : (newer : BookState) → Makes (call ∷ []) new newer → Makes (replicate (made + 1) call) old newer
  one_call_more newer one = subst (λ (calls : List CallContent). Makes calls old newer) (replicate_more made call) (makes_on (replicate made call) (call ∷ []) old new newer makes one)

  pub room_for_one : (count : ℕ) → HasRoom count old → made < count → HasRoom 1 new
  room_for_one count has less = let long = length-replicate made call in room_left (replicate made call) count 1 old new has makes (omega (arith, long, less))
