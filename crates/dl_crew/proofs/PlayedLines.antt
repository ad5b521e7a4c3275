-- The lines of a scenario, as a worker plays them one after the other.
use Rattle.std.proofs.Common.{◌≡◌, ℕ, ◌+◌, List, [], ◌∷◌, ◌++◌, length, map, Option, Some, None, refl, sym, ap, ◌∙◌, subst, append-nil, append_assoc, length-append, arith}
use Rattle.std.specs.Option.{option_to_list}
use Rattle.dl_bytes.specs.Claim.{Claimed}
use Rattle.dl_bytes.specs.Context.{Context}
use Rattle.dl_ring.specs.declared.item.RingItem.TheVariants.{Register}
use Rattle.dl_script_model.specs.declared.line.ClaimLine.{ClaimLine}
use Rattle.dl_script_model.specs.declared.scenario.ScenarioLine.{ScenarioLine}
use Rattle.dl_script_model.specs.declared.scenario.ScenarioLine.TheVariants as line
use Rattle.dl_desk.specs.Made.{IsMadeWith}
use Rattle.dl_writer.specs.Claiming.{KeepsRegistered, after_number, claim_at, refusal_of}
use Rattle.dl_writer.specs.State.{BookState, IsWhole, WriterState}
use Rattle.dl_crew.specs.Calls.{CallContent, IsClaimOf, calls_in, count_in, register_in}
use Rattle.dl_crew.specs.Plays.{ArePairs, CallsInTurn, ClaimsAsked, Does, HasRoom, Makes, PlaysLine, Stays}
use Rattle.dl_crew.proofs.LinesSoFar.{line_asks}
use Rattle.dl_crew.proofs.Played.{some_refused}

-- ---- a line of calls, or of nothing

-- where there is room for what a line asks, there is room for its calls
pub room_for_calls : (contexts own : List Context) (app number writer count : ℕ) (entry : ScenarioLine) (calls : List CallContent) (b : BookState) → number ≡ writer
    → calls ≡ calls_in contexts own app number entry → length calls ≡ count → HasRoom (count_in writer entry) b → HasRoom count b
room_for_calls contexts own app number writer count entry calls b same said long has =
    let few = line_asks contexts own app number entry in
    let all = ap length said in
    let asks = ap (λ (n : ℕ). count_in n entry) same in
    let room = has.room in
    let spare = has.few in
    record { room = omega (arith, few, all, asks, long, room); few = omega (arith, few, all, asks, long, spare) }

pub line_of_calls : (contexts own now : List Context) (entry : ScenarioLine) (old new : BookState) (app number : ℕ) (calls : List CallContent) → now ≡ own
    → app ≡ old.writer.app → number ≡ old.writer.push.number → register_in number entry ≡ None → calls ≡ calls_in contexts own app number entry
    → Makes calls old new → PlaysLine contexts own now entry old new
line_of_calls contexts own now entry old new app number calls handles apps numbers none said makes =
    let asks_none : register_in old.writer.push.number entry ≡ None = ap (λ (n : ℕ). register_in n entry) (sym numbers) ∙ none in
    let here : calls ≡ calls_in contexts own old.writer.app old.writer.push.number entry =
    said ∙ ap (λ (a : ℕ). calls_in contexts own a number entry) apps ∙ ap (λ (n : ℕ). calls_in contexts own old.writer.app n entry) numbers in
    record {
      kept = makes.kept;
      claims = [];
      refused = makes.refused;
      stays = makes.stays;
      does = makes.does;
      registered = subst (λ (o : Option ClaimLine). ArePairs (IsClaimOf old.writer) (option_to_list o) []) (sym asks_none) tt;
      handles = handles ∙ sym (append-nil own);
      calls = makes.contents ∙ here;
      late = λ less. omega arith;
      in_turn = record {
        claimed = old;
        claims = subst (λ (o : Option ClaimLine). ClaimsAsked o own now old old) (sym asks_none) (handles, refl);
        calls = subst (λ (l : List CallContent). CallsInTurn l old new) here makes.in_turn;
      };
      registers = (let same = makes.registers in omega (arith, same));
      table_full = makes.table_full;
    }

-- ---- a line that claims

-- it asks for no calls
pub claims_alone : (contexts own : List Context) (app writer : ℕ) (entry : ScenarioLine) (asked : ClaimLine) → register_in writer entry ≡ Some asked → [] ≡ calls_in contexts own app writer entry
claims_alone contexts own app writer (line.App a) asked is = absurd cc
claims_alone contexts own app writer (line.Context c) asked is = absurd cc
claims_alone contexts own app writer (line.Writer apid) asked is = absurd cc
claims_alone contexts own app writer (line.Register a) asked is = refl
claims_alone contexts own app writer (line.Calls number ctid severity count payload) asked is = absurd cc
claims_alone contexts own app writer line.Client asked is = absurd cc
claims_alone contexts own app writer (line.Send client bytes) asked is = absurd cc
claims_alone contexts own app writer (line.Leave client count) asked is = absurd cc

module _ (old new : BookState) (asked : ClaimLine) (ctx : Context) (whole_so : IsWhole old → IsWhole new)
    (k : KeepsRegistered old asked.ctid asked.level asked.text ctx new) where
  claim : Claimed
  claim = claim_at old.writer k.registered.joins.number asked.ctid asked.level asked.text

  -- the writer, when its claim had joined those that wait
  joined : WriterState
  joined = record (after_number old.writer k.registered.joins.number) { waiting = old.writer.waiting ++ claim ∷ [] }

  writer_so : new.writer ≡ record joined {
    push = record old.writer.push { pushed = old.writer.push.pushed ++ map Register k.registered.announced.done; refusals = old.writer.push.refusals + refusal_of k.registered.announced.left };
    waiting = k.registered.announced.left;
  }
  unfolding joined claim
  writer_so =
      let a = k.registered.announced in
      a.pushed
      ∙ ap (λ (w : WriterState). record w { push = record w.push { pushed = w.push.pushed ++ map Register a.done; refusals = w.push.refusals + refusal_of a.left }; waiting = a.left })
      k.registered.joins.joined

  parts_so : old.writer.waiting ++ claim ∷ [] ≡ k.registered.announced.done ++ k.registered.announced.left
  unfolding claim
  parts_so = sym (ap (λ (w : WriterState). w.waiting) k.registered.joins.joined) ∙ k.registered.announced.parts

  records_so : new.records ≡ old.records
  records_so = ap (λ (b : BookState). b.records) k.kept

  claims_so : new.claims ≡ old.claims ++ k.registered.announced.done
  claims_so = ap (λ (b : BookState). b.claims) k.kept

  claim_stays : Stays old new
  unfolding joined
  claim_stays =
      let same = ap length records_so in
      record {
        number = ap (λ (w : WriterState). w.push.number) writer_so;
        app = ap (λ (w : WriterState). w.app) writer_so;
        apid = ap (λ (w : WriterState). w.apid) writer_so;
        base = ap (λ (w : WriterState). w.base) writer_so;
        room = ap (λ (b : BookState). b.room) k.kept;
        made = (let calls = ap (λ (w : WriterState). w.calls) writer_so in omega (arith, calls, same));
        asked_each = (
            let taken = ap (λ (w : WriterState). length w.injections.taken) writer_so in
            let empties = ap (λ (w : WriterState). w.injections.empties) writer_so in
            omega (arith, taken, empties, same));
        whole = whole_so;
        desk = λ desk made. subst (λ (w : WriterState). IsMadeWith desk w) (sym writer_so) (record {
          from_one = made.from_one;
          owner = made.owner;
          apid = made.apid;
          ring = made.ring;
          queue = made.queue;
          capacity = made.capacity;
          levels = made.levels;
          claims = made.claims;
          losses = made.losses;
          split = made.split;
        });
      }

  claim_does : Does [] (claim ∷ []) (refusal_of k.registered.announced.left) old new
  unfolding joined
  claim_does =
      let a = k.registered.announced in
      record {
        records = records_so ∙ sym (append-nil old.records);
        joined = ap (λ (l : List Claimed). l ++ new.writer.waiting) claims_so ∙ ap (λ (w : WriterState). (old.claims ++ a.done) ++ w.waiting) writer_so
            ∙ append_assoc old.claims a.done a.left ∙ ap (λ (l : List Claimed). old.claims ++ l) (sym parts_so)
            ∙ sym (append_assoc old.claims old.writer.waiting (claim ∷ []));
        grows = (let count = ap length claims_so ∙ length-append old.claims a.done in omega (arith, count));
        refusals = (let now = ap (λ (w : WriterState). w.push.refusals) writer_so in omega (arith, now));
        waits = λ less. omega arith;
      }

  pub line_of_claim : (contexts own now : List Context) (entry : ScenarioLine) → register_in old.writer.push.number entry ≡ Some asked → now ≡ own ++ ctx ∷ [] → [] ≡ calls_in contexts own old.writer.app old.writer.push.number entry
      → PlaysLine contexts own now entry old new
  unfolding claim joined
  line_of_claim contexts own now entry asks handles none =
      let a = k.registered.announced in
      let count = ap length claims_so ∙ length-append old.claims a.done in
      let parts = sym (length-append a.done a.left) ∙ ap length (sym parts_so) ∙ length-append old.writer.waiting (claim ∷ []) in
      record {
        kept = [];
        claims = claim ∷ [];
        refused = refusal_of a.left;
        stays = claim_stays;
        does = claim_does;
        registered = subst (λ (o : Option ClaimLine). ArePairs (IsClaimOf old.writer) (option_to_list o) (claim ∷ [])) (sym asks) (refl, tt);
        handles = handles ∙ ap (λ (c : Context). own ++ c ∷ []) k.registered.joins.handle;
        calls = none;
        late = λ less. (let one = some_refused a.left (omega (arith, less, count, parts)) in omega (arith, one));
        in_turn = record {
          claimed = new;
          claims = subst (λ (o : Option ClaimLine). ClaimsAsked o own now old new) (sym asks) (ctx, handles, k);
          calls = subst (λ (l : List CallContent). CallsInTurn l new new) none refl;
        };
        registers = ap (λ (w : WriterState). w.registers) writer_so;
        table_full = ap (λ (w : WriterState). w.table_full) writer_so;
      }
