-- Where each Store and each Reset was served, the run is the one in which the folder says Yes each time.
use Rattle.std.proofs.Common.{◌≡◌, ℕ, ◌+◌, Bool, true, false, cond, List, [], ◌∷◌, ◌++◌, map, refl, ap, ◌∙◌, arith}
use Rattle.std.specs.Prelude.{if◌then◌else◌, count_by, nat_lt, slice_get, unwrap_or}
use Rattle.std.specs.List.{AllByRecursion}
use Rattle.std.proofs.lemmas.List.Sums.{sum_by-cons}
use Rattle.dl_bytes.specs.declared.outcome.Done.{Done}
use Rattle.dl_bytes.specs.declared.outcome.Done.TheVariants as did
use Rattle.dl_events.specs.declared.event.Event.TheVariants as event
use Rattle.dl_events.specs.declared.event.Why.TheVariants as why
use Rattle.dl_script_model.specs.declared.step.Step.{Step}
use Rattle.dl_script_model.specs.declared.step.Step.TheVariants as line
use Rattle.dl_model.specs.Journal.{is_request_of, need_after}
use Rattle.dl_script_model.specs.Marks.{Mark, Noted, Answered, Fed, is_answer, journal}
use Rattle.dl_model.specs.Reply.{Need, Nothing, Folder, Queue}
use Rattle.dl_model.specs.Setting.{Setting}
use Rattle.dl_script_model.specs.Steps.{Act, act_of, ask, close, close_malformed, end_of, note_levels, note_levels_now, in_sequence, is_open, just, new_requests, receive, request_now, run, served, when}
use Rattle.dl_world.specs.Played.{is_failed}
use Rattle.dl_startup.specs.Failures.{unserved}

-- ---- what is served

-- a mark that tells of no Store and no Reset that the folder failed at, or that had no memory
abbrev IsWell : Mark → Type 0
IsWell (Answered did.Failed) = ⊥
IsWell (Noted (event.Request client frame did.NoMemory)) = ⊥
IsWell _ = Unit {0}

abbrev AreWell : List Mark → Type 0
AreWell done = AllByRecursion IsWell done

both : (first second : List Mark) → AreWell (first ++ second) → AreWell first × AreWell second
both [] second well = (tt, well)
both (mark ∷ first) second well = let rest = both first second well.1 in ((well.0, rest.0), rest.1)

-- ---- acts that the answers don't change, where all is served

abbrev Answering : Type 0
Answering = List Done → Act

abbrev IsSure : Answering → Type 0
IsSure make = (answers : List Done) (done : List Mark) → AreWell (make answers done) → make answers done ≡ make [] done

-- one act, and then others
in_row : (first : Answering) (rest : List Done → List Act) → IsSure first → IsSure (λ answers. in_sequence (rest answers)) → IsSure (λ answers. in_sequence (first answers ∷ rest answers))
in_row first rest one others answers done well =
    let parts = both (first answers done) (in_sequence (rest answers) (done ++ first answers done)) well in
    ap (λ (more : List Mark). first answers done ++ more) (others answers (done ++ first answers done) parts.1)
    ∙ ap (λ (more : List Mark). more ++ in_sequence (rest []) (done ++ more)) (one answers done parts.0)

-- the same act for each of a list, and then others
each : {A : Type 0} → (act : List Done → A → Act) (last : List Act) → ((x : A) → IsSure (λ answers. act answers x)) → (xs : List A) → IsSure (λ answers. in_sequence (map (act answers) xs ++ last))
each act last sure [] answers done well = refl
each act last sure (x ∷ xs) answers done well =
    in_row (λ (a : List Done). act a x) (λ (a : List Done). map (act a) xs ++ last) (sure x) (each act last sure xs) answers done well

-- ---- requests

folder_said : (client : ℕ) (frame : List ℕ) (answer : Done) → AreWell (Answered answer ∷ Noted (event.Request client frame answer) ∷ []) → answer ≡ did.Yes
folder_said client frame did.Yes well = refl
folder_said client frame did.Failed well = absurd well.0
folder_said client frame did.NoMemory well = absurd well.1.0

served_sure : (client : ℕ) (frame : List ℕ) (need : Need) → IsSure (λ answers. served answers client frame need)
served_sure client frame Nothing answers done well = refl
served_sure client frame Folder answers done well =
    ap (λ (a : Done). Answered a ∷ Noted (event.Request client frame a) ∷ []) (folder_said client frame (unwrap_or (slice_get answers (count_by is_answer done)) did.Yes) well)
served_sure client frame (Queue app) answers done well = refl

request_sure : (setting : Setting) (client : ℕ) (frame : List ℕ) → IsSure (λ answers. request_now setting answers client frame)
request_sure setting client frame answers done well = served_sure client frame (need_after setting (journal done) frame) answers done well

-- an act that is made or not
when_sure : (act : Answering) → IsSure act → (b : Bool) (answers : List Done) (done : List Mark) → AreWell (when b (act answers) done) → when b (act answers) done ≡ when b (act []) done
when_sure act sure true answers done well = sure answers done well
when_sure act sure false answers done well = refl

ask_sure : (setting : Setting) (client : ℕ) (frame : List ℕ) → IsSure (λ answers. ask setting answers client frame)
ask_sure setting client frame answers done well = by (nat_lt (count_by (is_request_of client) (journal done)) 1000) well where
  act : Answering
  act = λ (a : List Done). in_sequence (note_levels setting ∷ request_now setting a client frame ∷ note_levels_now setting ∷ [])

  sure : IsSure act
  sure = in_row (λ (a : List Done). note_levels setting) (λ (a : List Done). request_now setting a client frame ∷ note_levels_now setting ∷ []) (λ a d w. refl)
      (in_row (λ (a : List Done). request_now setting a client frame) (λ (a : List Done). note_levels_now setting ∷ []) (request_sure setting client frame) (λ a d w. refl))

  by : (b : Bool) → AreWell (if b then when (is_open client done) (act answers) done else close setting client why.TooMany done)
      → (if b then when (is_open client done) (act answers) done else close setting client why.TooMany done) ≡ (if b then when (is_open client done) (act []) done else close setting client why.TooMany done)
  by true w = when_sure act sure (is_open client done) answers done w
  by false w = refl

receive_sure : (setting : Setting) (client : ℕ) (bytes : List ℕ) → IsSure (λ answers. receive setting answers client bytes)
receive_sure setting client bytes answers done well = when_sure act sure (is_open client done) answers done well where
  frames : List (List ℕ)
  frames = new_requests client bytes done

  act : Answering
  act = λ (a : List Done). in_sequence (just (Fed client bytes) ∷ (map (ask setting a client) frames ++ close_malformed setting client ∷ []))

  sure : IsSure act
  sure = in_row (λ (a : List Done). just (Fed client bytes)) (λ (a : List Done). map (ask setting a client) frames ++ close_malformed setting client ∷ []) (λ a d w. refl)
      (each (λ (a : List Done). ask setting a client) (close_malformed setting client ∷ []) (ask_sure setting client) frames)

-- ---- lines, and a whole run

line_sure : (setting : Setting) (step : Step) → IsSure (λ answers. act_of setting answers step)
line_sure setting (line.Bytes client bytes) = receive_sure setting client bytes
line_sure setting _ = λ answers done well. refl

run_sure : (setting : Setting) (answers : List Done) (steps : List Step) → AreWell (run setting answers steps) → run setting answers steps ≡ run setting [] steps
run_sure setting answers steps well = each (act_of setting) (end_of setting ∷ []) (line_sure setting) steps answers [] well

-- ---- by what was counted

mark_well : (mark : Mark) (done : List Mark) → is_failed mark ≡ false → unserved (journal (mark ∷ done)) ≡ false → IsWell mark × (unserved (journal done) ≡ false)
mark_well (Answered did.Failed) done none fine = absurd cc
mark_well (Noted (event.Request client frame did.NoMemory)) done none fine = absurd cc
mark_well (Noted (event.Request client frame did.Yes)) done none fine = (tt, fine)
mark_well (Noted (event.Request client frame did.Failed)) done none fine = (tt, fine)
mark_well _ done none fine = (tt, fine)

none_more : (mark : Mark) (done : List Mark) → count_by is_failed (mark ∷ done) ≡ 0 → (is_failed mark ≡ false) × (count_by is_failed done ≡ 0)
none_more mark done none = by (is_failed mark) refl (sum_by-cons (λ m. cond (is_failed m) 1 0) mark done) where
  by : (b : Bool) → is_failed mark ≡ b → count_by is_failed (mark ∷ done) ≡ cond b 1 0 + count_by is_failed done → (is_failed mark ≡ false) × (count_by is_failed done ≡ 0)
  by true is more = absurd (omega (arith, more, none))
  by false is more = (is, omega (arith, more, none))

all_well : (done : List Mark) → count_by is_failed done ≡ 0 → unserved (journal done) ≡ false → AreWell done
all_well [] none fine = tt
all_well (mark ∷ done) none fine =
    let first = none_more mark done none in
    let rest = mark_well mark done first.0 fine in
    (rest.0, all_well done first.1 rest.1)

-- no Store and no Reset failed, and each had memory
pub said_yes : (setting : Setting) (answers : List Done) (steps : List Step) → count_by is_failed (run setting answers steps) ≡ 0 → unserved (journal (run setting answers steps)) ≡ false
    → run setting answers steps ≡ run setting [] steps
said_yes setting answers steps none fine = run_sure setting answers steps (all_well (run setting answers steps) none fine)
