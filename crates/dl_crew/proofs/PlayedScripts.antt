-- The lines so far, played, and one line more.
use Rattle.std.proofs.Common.{◌≡◌, ℕ, ◌+◌, ◌<◌, ◌≤◌, Bool, true, false, cond, ltb, get_or, List, [], ◌∷◌, ◌++◌, length, map, take, Option, Some, None, refl, sym, ap, ◌∙◌, subst, append-nil, length-append, arith}
use Rattle.std.specs.Prelude.{All, is_some}
use Rattle.std.specs.Option.{option_to_list}
use Rattle.std.proofs.Math.Seq.{take-append_seam}
use Rattle.std.proofs.lemmas.Bool.{ltb-true, ltb-false}
use Rattle.std.proofs.lemmas.List.{length-map, map-append}
use Rattle.dl_bytes.specs.Claim.{Claimed}
use Rattle.dl_bytes.specs.Context.{Context}
use Rattle.dl_events.specs.declared.record.Record.{Record}
use Rattle.dl_script_model.specs.declared.line.ClaimLine.{ClaimLine}
use Rattle.dl_script_model.specs.declared.scenario.ScenarioLine.{ScenarioLine}
use Rattle.dl_writer.specs.State.{BookState}
use Rattle.dl_crew.specs.Calls.{CallContent, IsClaimOf, calls_behind, calls_from, calls_in, calls_of, content_of, count_in, count_of, handle_of, handles_of, register_in, registers_of}
use Rattle.dl_writer.specs.Claiming.{name_fault}
use Rattle.dl_crew.specs.Plays.{ArePairs, CanPlay, Does, FindsFull, HasPlayed, HasRoom, InTurn, LineInTurn, LinesInTurn, Plays, PlaysLine, Stays}
use Rattle.dl_crew.proofs.LinesSoFar.{all_here, behind_none, behind_on, behind_same, calls_few, calls_on, calls_same, count_fits, registers_fit, registers_more}
use Rattle.dl_crew.proofs.Pairs.{as_many, pairs_behind}
use Rattle.dl_crew.proofs.Played.{Announced, all_claims, does_none, does_on, stays_none, stays_on}

-- These lines were played, and the writer's own contexts are those that it claimed.
pub record HasCome (contexts own : List Context) (lines : List ScenarioLine) (old new : BookState) : Type 0 where
  pub plays : Plays contexts lines old new
  pub stays : Stays old new
  pub handles : own ≡ handles_of old.writer plays.claims
  pub registers : new.writer.registers ≡ old.writer.registers + length plays.claims
  pub table_full : new.writer.table_full ≡ old.writer.table_full

pub come_none : (contexts : List Context) (b : BookState) → HasCome contexts [] [] b b
come_none contexts b = record {
  plays = record { kept = []; claims = []; refused = 0; does = does_none b; registered = tt; calls = refl; late = λ n less. absurd (omega (arith, less)) };
  stays = stays_none b;
  handles = refl;
  registers = omega arith;
  table_full = refl;
}

module _ (contexts own now : List Context) (lines : List ScenarioLine) (entry : ScenarioLine) (old mid new : BookState)
    (come : HasCome contexts own lines old mid) (one : PlaysLine contexts own now entry mid new) where
  -- the first line's words, of the writer as it was at first
  one_registered : ArePairs (IsClaimOf old.writer) (option_to_list (register_in old.writer.push.number entry)) one.claims
  one_registered =
      subst (λ (app : ℕ). ArePairs (λ asked claim. claim ≡ record { app = app; writer = old.writer.push.number; place = claim.place; ctid = asked.ctid; level = asked.level; text = asked.text })
      (option_to_list (register_in old.writer.push.number entry)) one.claims) come.stays.app
      (subst (λ (number : ℕ). ArePairs (λ asked claim. claim ≡ record { app = mid.writer.app; writer = number; place = claim.place; ctid = asked.ctid; level = asked.level; text = asked.text })
      (option_to_list (register_in number entry)) one.claims) come.stays.number one.registered)

  one_handles : handles_of mid.writer one.claims ≡ handles_of old.writer one.claims
  one_handles =
      ap (λ (app : ℕ). map (λ (c : Claimed). record { app = app; place = c.place; apid = mid.writer.apid; ctid = c.ctid }) one.claims) come.stays.app
      ∙ ap (λ (apid : List ℕ). map (λ (c : Claimed). record { app = old.writer.app; place = c.place; apid = apid; ctid = c.ctid }) one.claims) come.stays.apid

  one_calls : map content_of one.kept ≡ calls_in contexts (handles_of old.writer come.plays.claims) old.writer.app old.writer.push.number entry
  one_calls =
      one.calls ∙ ap (λ (l : List Context). calls_in contexts l mid.writer.app mid.writer.push.number entry) come.handles
      ∙ ap (λ (app : ℕ). calls_in contexts (handles_of old.writer come.plays.claims) app mid.writer.push.number entry) come.stays.app
      ∙ ap (λ (number : ℕ). calls_in contexts (handles_of old.writer come.plays.claims) old.writer.app number entry) come.stays.number

  -- each `register` line so far has one claim
  count : length (registers_of old.writer.push.number lines) ≡ length come.plays.claims
  count = sym (as_many (IsClaimOf old.writer) (registers_of old.writer.push.number lines) come.plays.claims come.plays.registered)

  claims : List Claimed
  claims = come.plays.claims ++ one.claims

  front : take (0 + length (registers_of old.writer.push.number lines)) claims ≡ come.plays.claims
  unfolding claims
  front =
      let same : 0 + length (registers_of old.writer.push.number lines) ≡ length come.plays.claims = omega (arith, count) in
      ap (λ (n : ℕ). take n (come.plays.claims ++ one.claims)) same ∙ take-append_seam come.plays.claims one.claims

  more_calls : map content_of (come.plays.kept ++ one.kept) ≡ calls_of contexts old.writer claims (lines ++ entry ∷ [])
  unfolding claims
  more_calls =
      let w = old.writer in
      let first = come.plays.claims in
      map-append content_of come.plays.kept one.kept
      ∙ ap (λ (l : List CallContent). l ++ map content_of one.kept) (come.plays.calls ∙ sym (calls_same contexts w first one.claims 0 lines (omega (arith, count))))
      ∙ ap (λ (l : List CallContent). calls_from contexts w (first ++ one.claims) 0 lines ++ l)
      (one_calls ∙ ap (λ (l : List Claimed). calls_in contexts (handles_of w l) w.app w.push.number entry) (sym front))
      ∙ sym (calls_on contexts w (first ++ one.claims) 0 lines entry)

  long_calls : length (calls_in contexts (handles_of old.writer (take (0 + length (registers_of old.writer.push.number lines)) claims)) old.writer.app old.writer.push.number entry) ≡ length one.kept
  unfolding claims
  long_calls =
      ap (λ (l : List Claimed). length (calls_in contexts (handles_of old.writer l) old.writer.app old.writer.push.number entry)) front
      ∙ ap length (sym one_calls) ∙ length-map one.kept content_of

  -- how many calls the line itself asks for
  here : ℕ
  here = length (calls_in contexts (handles_of old.writer (take (0 + length (registers_of old.writer.push.number lines)) claims)) old.writer.app old.writer.push.number entry)

  more_late : (n : ℕ) → n < length claims → length new.claims ≤ length old.claims + length old.writer.waiting + n
      → calls_behind contexts old.writer claims n (lines ++ entry ∷ []) < come.plays.refused + one.refused
  unfolding claims here
  more_late n less late = by_test (ltb n (0 + length (registers_of old.writer.push.number lines))) refl where
    all : calls_behind contexts old.writer claims n (lines ++ entry ∷ [])
        ≡ calls_behind contexts old.writer come.plays.claims n lines + cond (ltb n (0 + length (registers_of old.writer.push.number lines))) here 0
    all =
        let on = behind_on contexts old.writer (come.plays.claims ++ one.claims) n 0 lines entry in
        let same = behind_same contexts old.writer come.plays.claims one.claims n 0 lines (omega (arith, count)) in
        omega (arith, on, same)

    by_test : (b : Bool) → ltb n (0 + length (registers_of old.writer.push.number lines)) ≡ b
        → calls_behind contexts old.writer claims n (lines ++ entry ∷ []) < come.plays.refused + one.refused
    by_test true is =
        let below = ltb-true n (0 + length (registers_of old.writer.push.number lines)) is in
        let parts = all ∙ ap (λ (b : Bool). calls_behind contexts old.writer come.plays.claims n lines + cond b here 0) is in
        let grows = one.does.grows in
        let so_far = all_claims come.plays.kept come.plays.claims come.plays.refused old mid come.plays.does in
        let before = come.plays.late n (omega (arith, below, count)) (omega (arith, grows, late)) in
        let again = one.does.waits (omega (arith, so_far, late, below, count)) in
        omega (arith, parts, before, again, long_calls)
    by_test false is =
        let above = ltb-false n (0 + length (registers_of old.writer.push.number lines)) is in
        let parts = all ∙ ap (λ (b : Bool). calls_behind contexts old.writer come.plays.claims n lines + cond b here 0) is in
        let none = behind_none contexts old.writer come.plays.claims n 0 lines above in
        let so_far = all_claims come.plays.kept come.plays.claims come.plays.refused old mid come.plays.does in
        let long = length-append come.plays.claims one.claims in
        let some = one.late (omega (arith, so_far, late, less, long)) in
        omega (arith, parts, none, some, less, long, above, count)

  -- one line more
  pub come_more : HasCome contexts now (lines ++ entry ∷ []) old new
  unfolding claims
  come_more = record {
    plays = record {
      kept = come.plays.kept ++ one.kept;
      claims = come.plays.claims ++ one.claims;
      refused = come.plays.refused + one.refused;
      does = does_on come.plays.kept one.kept come.plays.claims one.claims come.plays.refused one.refused old mid new come.plays.does one.does;
      registered = subst (λ (l : List ClaimLine). ArePairs (IsClaimOf old.writer) l (come.plays.claims ++ one.claims)) (sym (registers_more old.writer.push.number lines entry))
          (pairs_behind (IsClaimOf old.writer) (registers_of old.writer.push.number lines) come.plays.claims (option_to_list (register_in old.writer.push.number entry)) one.claims
          come.plays.registered one_registered);
      calls = more_calls;
      late = more_late;
    };
    stays = stays_on old mid new come.stays one.stays;
    handles = one.handles ∙ ap (λ (l : List Context). l ++ handles_of mid.writer one.claims) come.handles
        ∙ ap (λ (l : List Context). handles_of old.writer come.plays.claims ++ l) one_handles
        ∙ sym (map-append (λ (c : Claimed). record { app = old.writer.app; place = c.place; apid = old.writer.apid; ctid = c.ctid }) come.plays.claims one.claims);
    registers = (let long = length-append come.plays.claims one.claims in let before = come.registers in let then = one.registers in omega (arith, long, before, then));
    table_full = one.table_full ∙ come.table_full;
  }

-- ---- one line after the other

pub lines_more : (contexts first own now : List Context) (lines : List ScenarioLine) (entry : ScenarioLine) (old mid new : BookState)
    → LinesInTurn contexts first own lines old mid → LineInTurn contexts own now entry mid new → LinesInTurn contexts first now (lines ++ entry ∷ []) old new
lines_more contexts first own now [] entry old mid new (known, same) one =
    (new, now, subst (λ (b : BookState). LineInTurn contexts first now entry b new) same (subst (λ (l : List Context). LineInTurn contexts l now entry mid new) known one), (refl, refl))
lines_more contexts first own now (line ∷ lines) entry old mid new (after, known, played, rest) one =
    (after, known, played, lines_more contexts known own now lines entry after mid new rest one)

-- ---- behind the last line

-- one announcement more
pub announced_last : (contexts own : List Context) (lines : List ScenarioLine) (old mid new : BookState) → HasCome contexts own lines old mid → Announced mid new → HasCome contexts own lines old new
announced_last contexts own lines old mid new come a = record {
  plays = record {
    kept = come.plays.kept;
    claims = come.plays.claims;
    refused = come.plays.refused + a.refused;
    does = subst (λ (kept : List Record). Does kept come.plays.claims (come.plays.refused + a.refused) old new) (append-nil come.plays.kept)
        (subst (λ (claims : List Claimed). Does (come.plays.kept ++ []) claims (come.plays.refused + a.refused) old new) (append-nil come.plays.claims)
        (does_on come.plays.kept [] come.plays.claims [] come.plays.refused a.refused old mid new come.plays.does a.does));
    registered = come.plays.registered;
    calls = come.plays.calls;
    late = λ n less late. (
        let grows = a.does.grows in
        let before = come.plays.late n less (omega (arith, grows, late)) in
        omega (arith, before));
  };
  stays = stays_on old mid new come.stays a.stays;
  handles = come.handles;
  registers = a.registers ∙ come.registers;
  table_full = a.table_full ∙ come.table_full;
}

-- ---- what the next line needs

module _ (contexts own : List Context) (lines : List ScenarioLine) (place : ℕ) (entry : ScenarioLine) (less : place < length lines) (is : get_or lines place entry ≡ entry)
    (old mid : BookState) (come : HasCome contexts own (take place lines) old mid) (can : CanPlay lines old) where
  kept_few : length mid.records ≤ length old.records + count_of old.writer.push.number (take place lines)
  kept_few =
      let long = ap length come.plays.does.records ∙ length-append old.records come.plays.kept in
      let many = sym (length-map come.plays.kept content_of) ∙ ap length come.plays.calls in
      let few = calls_few contexts old.writer come.plays.claims 0 (take place lines) in
      omega (arith, long, many, few)

  pub room_here : HasRoom (count_in mid.writer.push.number entry) mid
  room_here =
      let few = kept_few in
      let fits = count_fits lines place entry less is old.writer.push.number in
      let made = come.stays.made in
      let room = can.has.room in
      let spare = can.has.few in
      subst (λ (n : ℕ). HasRoom (count_in n entry) mid) (sym come.stays.number) (record {
        room = subst (λ (room : ℕ). length mid.records + count_in old.writer.push.number entry ≤ room) (sym come.stays.room) (omega (arith, few, fits, room));
        few = omega (arith, few, fits, made, spare);
      })

  pub claims_here : length own + length (option_to_list (register_in mid.writer.push.number entry)) ≤ 64
  claims_here =
      let all = ap length come.handles ∙ length-map come.plays.claims (handle_of old.writer) in
      let many = as_many (IsClaimOf old.writer) (registers_of old.writer.push.number (take place lines)) come.plays.claims come.plays.registered in
      let fits = registers_fit lines place entry less is old.writer.push.number in
      let same = ap (λ (n : ℕ). length (option_to_list (register_in n entry))) come.stays.number in
      let few = can.claims in
      omega (arith, all, many, fits, same, few)

  pub names_here : All (λ a. name_fault a.ctid a.text ≡ None) (option_to_list (register_in mid.writer.push.number entry))
  names_here =
      subst (λ (n : ℕ). All (λ (a : ClaimLine). name_fault a.ctid a.text ≡ None) (option_to_list (register_in n entry))) (sym come.stays.number)
      (all_here lines place entry less is old.writer.push.number (λ (a : ClaimLine). name_fault a.ctid a.text ≡ None) can.names)

  -- where no place was left for this line's claim, the worker ends here
  pub played_so_far : (new : BookState) → FindsFull entry mid new → HasPlayed contexts lines old new
  played_so_far new full = record {
    stays = stays_on old mid new come.stays full.stays;
    few = (
        let few = kept_few in
        let same = ap length full.records in
        let fits = count_fits lines place entry less is old.writer.push.number in
        omega (arith, few, same, fits));
    registers = (
        let many = as_many (IsClaimOf old.writer) (registers_of old.writer.push.number (take place lines)) come.plays.claims come.plays.registered in
        let fits = registers_fit lines place entry less is old.writer.push.number in
        let one = one_asked (register_in mid.writer.push.number entry) full.asks in
        let same = ap (λ (n : ℕ). length (option_to_list (register_in n entry))) come.stays.number in
        let before = come.registers in
        let now = full.registers in
        omega (arith, many, fits, one, same, before, now));
    all = λ same. absurd (no_full same);
    in_turn = λ same. absurd (no_full same);
  } where
    no_full : new.writer.table_full ≡ old.writer.table_full → ⊥
    no_full same = let before = come.table_full in let now = full.table_full in omega (arith, same, before, now)

    one_asked : (o : Option ClaimLine) → is_some o ≡ true → length (option_to_list o) ≡ 1
    one_asked None is = absurd cc
    one_asked (Some asked) is = refl

-- all lines were played
pub played_all : (contexts own : List Context) (lines : List ScenarioLine) (old new : BookState) → HasCome contexts own lines old new → InTurn contexts lines old new → HasPlayed contexts lines old new
played_all contexts own lines old new come turn = record {
  stays = come.stays;
  few = (
      let long = ap length come.plays.does.records ∙ length-append old.records come.plays.kept in
      let many = sym (length-map come.plays.kept content_of) ∙ ap length come.plays.calls in
      let few = calls_few contexts old.writer come.plays.claims 0 lines in
      omega (arith, long, many, few));
  registers = (
      let many = as_many (IsClaimOf old.writer) (registers_of old.writer.push.number lines) come.plays.claims come.plays.registered in
      let before = come.registers in
      omega (arith, many, before));
  all = λ same. come.plays;
  in_turn = λ same. turn;
}
