-- Scripts that differ in how their bytes are cut come to the same.
use Rattle.std.proofs.Common.{◌≡◌, ℕ, ◌-◌, Bool, true, false, cond, eqb, List, [], ◌∷◌, ◌++◌, length, Some, None, refl, sym, ap, subst, ◌∙◌, append_assoc, arith}
use Rattle.std.specs.Prelude.{map, count_by, slice_get}
use Rattle.std.specs.List.{filter, filter_map, find, concat, range_with_len, AllByRecursion}
use Rattle.std.specs.Option.{option_map_or}
use Rattle.std.proofs.lemmas.List.{append-nil, map-append}
use Rattle.dl_lemmas.proofs.Lists.{all_both}
use Rattle.dl_bytes.specs.Bytes.{IsBytes}
use Rattle.dl_bytes.specs.declared.outcome.Done.{Done}
use Rattle.dl_bytes.specs.declared.outcome.LinkEnd.{LinkEnd}
use Rattle.dl_bytes.specs.declared.outcome.TraceState.{TraceState}
use Rattle.dl_bytes.proofs.Bytes.{IsBytes-append}
use Rattle.dl_message.specs.Frames.{log_message}
use Rattle.dl_events.specs.declared.event.Event.{Event}
use Rattle.dl_events.specs.declared.record.Record.{Record}
use Rattle.dl_script_model.specs.declared.line.AppLine.{AppLine}
use Rattle.dl_script_model.specs.declared.step.Step.{Step}
use Rattle.dl_script_model.specs.declared.step.Step.TheVariants as line
use Rattle.dl_model.specs.Setting.{Setting}
use Rattle.dl_model.specs.Backlog.{size_of, left}
use Rattle.dl_model.specs.ClientStream.{traffic, stream}
use Rattle.dl_model.specs.Frames.{FrameSource, stored_frames}
use Rattle.dl_model.specs.Journal.{is_connect, reply_after}
use Rattle.dl_script_model.specs.Marks.{Call, Mark, Heard, journal, record_of, records, writers, apps, call_of, heard}
use Rattle.dl_model.specs.Report.{report}
use Rattle.dl_script_model.specs.Replay.{is_call, stream_of, trace_of, report_of}
use Rattle.dl_script_model.specs.Steps.{Act, in_sequence, act_of, end_of, run}
use Rattle.dl_model.specs.TraceFiles.{StoredFile, trace_files, trace_name}
use Rattle.dl_script_model.proofs.Marks.{in_sequence-one}
use Rattle.dl_runs.specs.SameRuns.{ComeToTheSame, HoldsBytes}
use Rattle.dl_runs.proofs.Relations.{AreAll, turns, each}
use Rattle.dl_runs.proofs.Turns.{NoStop, Turn, line_in_turn}
use Rattle.dl_runs.proofs.WellFormed.{in_sequence-append}
use Rattle.dl_runs.proofs.Unfed.{is_other, unfed, journal_blind, records_blind, calls_blind, apps_blind, writers_blind}
use Rattle.dl_runs.proofs.BlindActs.{end_blind}
use Rattle.dl_runs.proofs.OtherMarks.{HearsBytes, BytesSo, line_other}
use Rattle.dl_runs.proofs.CutLines.{Alike, blind_same, unfed_more, lines_same, open_came}
use Rattle.dl_runs.proofs.CutInTwo.{cut_bytes, cut_messages}

-- ---- what a run is read for

abbrev source_by : Setting → List Call → List AppLine → FrameSource
source_by setting calls lines = record {
  ecu = setting.ecu;
  frame = λ writer number. option_map_or (λ (call : Call). log_message setting.ecu call.item) (find (is_call writer number) calls) [];
  apid = λ app. option_map_or (λ (line : AppLine). line.apid) (slice_get lines app) [];
  reply = reply_after setting;
}

abbrev records_by : List Record → List (List ℕ) → List (List Record)
records_by recs names = map (λ (writer : ℕ). filter (λ (r : Record). eqb r.item.writer writer) recs) (range_with_len 1 (length names))

abbrev stream_by : Setting → List Call → List AppLine → List Event → ℕ → List (List ℕ)
stream_by setting calls lines events client = stream (source_by setting calls lines) setting.buffer client events

abbrev link_by : Setting → List Call → List AppLine → List Event → ℕ → LinkEnd
link_by setting calls lines events client =
    let frames = stream_by setting calls lines events client in
    record { client = client; frames = length frames; bytes = size_of frames; complete = true }

abbrev trace_by : Setting → List StoredFile → List Call → List AppLine → List Event → TraceState
trace_by setting old calls lines events = record {
  files = map (λ (file : StoredFile). record { name = trace_name setting.directory file.number; bytes = length file.bytes })
      (cond (eqb (length setting.directory) 0) [] (trace_files setting.file_size setting.max_size old (stored_frames (source_by setting calls lines) events)));
  end = None;
}

abbrev clients_by : List Event → List ℕ
clients_by events = range_with_len 1 (count_by is_connect events)

abbrev text_by : Setting → List StoredFile → Bool → List Call → List AppLine → List Event → List Record → List (List ℕ) → List ℕ
text_by setting old with_frames calls lines events recs names =
    report (records_by recs names) events (map (λ (app : AppLine). record { apid = app.apid; capacity = app.capacity; text = app.text }) lines)
    (record { links = map (link_by setting calls lines events) (clients_by events); dropped = 0; trace = trace_by setting old calls lines events })
    (left setting.buffer (traffic (source_by setting calls lines) events))
    (cond with_frames (Some (map (stream_by setting calls lines events) (clients_by events))) None)

abbrev written : Setting → List StoredFile → Bool → List Mark → List ℕ
written setting old with_frames done = report_of setting done (trace_of setting old done) with_frames

written_is : (setting : Setting) (old : List StoredFile) (with_frames : Bool) (done : List Mark) →
    written setting old with_frames done ≡ text_by setting old with_frames (filter_map call_of done) (apps done) (journal done) (filter_map record_of done) (writers done)
written_is setting old with_frames done = refl

written_same : (setting : Setting) (old : List StoredFile) (with_frames : Bool) (done other : List Mark) → unfed done ≡ unfed other → written setting old with_frames done ≡ written setting old with_frames other
written_same setting old with_frames done other same =
    let calls = blind_same (filter_map call_of) calls_blind done other same in
    let lines = blind_same apps apps_blind done other same in
    let events = blind_same journal journal_blind done other same in
    let recs = blind_same (filter_map record_of) records_blind done other same in
    let names = blind_same writers writers_blind done other same in
    written_is setting old with_frames done
    ∙ ap (λ (x : List Call). text_by setting old with_frames x (apps done) (journal done) (filter_map record_of done) (writers done)) calls
    ∙ ap (λ (x : List AppLine). text_by setting old with_frames (filter_map call_of other) x (journal done) (filter_map record_of done) (writers done)) lines
    ∙ ap (λ (x : List Event). text_by setting old with_frames (filter_map call_of other) (apps other) x (filter_map record_of done) (writers done)) events
    ∙ ap (λ (x : List Record). text_by setting old with_frames (filter_map call_of other) (apps other) (journal other) x (writers done)) recs
    ∙ ap (λ (x : List (List ℕ)). text_by setting old with_frames (filter_map call_of other) (apps other) (journal other) (filter_map record_of other) x) names
    ∙ sym (written_is setting old with_frames other)

stream_same : (setting : Setting) (client : ℕ) (done other : List Mark) → unfed done ≡ unfed other → stream_of setting done client ≡ stream_of setting other client
stream_same setting client done other same =
    ap (λ (x : List Call). stream_by setting x (apps done) (journal done) client) (blind_same (filter_map call_of) calls_blind done other same)
    ∙ ap (λ (x : List AppLine). stream_by setting (filter_map call_of other) x (journal done) client) (blind_same apps apps_blind done other same)
    ∙ ap (λ (x : List Event). stream_by setting (filter_map call_of other) (apps other) x client) (blind_same journal journal_blind done other same)

all_records_same : (done other : List Mark) → unfed done ≡ unfed other → records done ≡ records other
all_records_same done other same =
    ap (λ (x : List Record). records_by x (writers done)) (blind_same (filter_map record_of) records_blind done other same)
    ∙ ap (λ (x : List (List ℕ)). records_by (filter_map record_of other) x) (blind_same writers writers_blind done other same)

come_to_the_same : (setting : Setting) (answers : List Done) (steps others : List Step) → unfed (run setting answers steps) ≡ unfed (run setting answers others) → ComeToTheSame setting answers steps others
come_to_the_same setting answers steps others same = record {
  same_journal = blind_same journal journal_blind (run setting answers steps) (run setting answers others) same;
  same_records = all_records_same (run setting answers steps) (run setting answers others) same;
  same_streams = λ client. stream_same setting client (run setting answers steps) (run setting answers others) same;
  same_report = λ old with_frames. written_same setting old with_frames (run setting answers steps) (run setting answers others) same;
}

-- ---- a run in three parts

abbrev line_acts : Setting → List Done → List Step → List Act
line_acts setting answers steps = map (act_of setting answers) steps

-- what follows lines: more lines, and the end
abbrev rest : Setting → List Done → List Step → List Mark → List Mark
rest setting answers after done = in_sequence (line_acts setting answers after ++ end_of setting ∷ []) done

abbrev begun : Setting → List Done → List Step → List Mark
begun setting answers before = in_sequence (line_acts setting answers before) []

run_parts : (setting : Setting) (answers : List Done) (before middle after : List Step) →
    let done = begun setting answers before ++ in_sequence (line_acts setting answers middle) (begun setting answers before) in
    run setting answers (before ++ (middle ++ after)) ≡ done ++ rest setting answers after done
run_parts setting answers before middle after =
    let act = act_of setting answers in
    let first = begun setting answers before in
    let second = in_sequence (line_acts setting answers middle) first in
    let end = end_of setting ∷ [] in
    let acts : map act (before ++ (middle ++ after)) ++ end ≡ map act before ++ (map act middle ++ (map act after ++ end)) =
    ap (λ (xs : List Act). xs ++ end) (map-append act before (middle ++ after) ∙ ap (λ (xs : List Act). map act before ++ xs) (map-append act middle after))
    ∙ append_assoc (map act before) (map act middle ++ map act after) end ∙ ap (λ (xs : List Act). map act before ++ xs) (append_assoc (map act middle) (map act after) end) in
    ap (λ (xs : List Act). in_sequence xs []) acts
    ∙ in_sequence-append (map act before) (map act middle ++ (map act after ++ end)) []
    ∙ ap (λ (ms : List Mark). first ++ ms) (in_sequence-append (map act middle) (map act after ++ end) first)
    ∙ sym (append_assoc first second (in_sequence (map act after ++ end) (first ++ second)))

rest_same : (setting : Setting) (answers : List Done) (after : List Step) (done other : List Mark) → Alike done other → rest setting answers after done ≡ rest setting answers after other
rest_same setting answers after done other alike =
    let lines = in_sequence (line_acts setting answers after) done in
    let same : lines ≡ in_sequence (line_acts setting answers after) other = lines_same setting answers after done other alike in
    in_sequence-one (line_acts setting answers after) (end_of setting) done
    ∙ ap (λ (ms : List Mark). lines ++ ms) (blind_same (end_of setting) (end_blind setting) (done ++ lines) (other ++ lines) (unfed_more done other lines alike.same))
    ∙ ap (λ (ms : List Mark). ms ++ end_of setting (other ++ ms)) same
    ∙ sym (in_sequence-one (line_acts setting answers after) (end_of setting) other)

-- lines in the middle that are alike come to the same
alike_runs : (setting : Setting) (answers : List Done) (before middle others after : List Step) →
    Alike (begun setting answers before ++ in_sequence (line_acts setting answers middle) (begun setting answers before)) (begun setting answers before ++ in_sequence (line_acts setting answers others) (begun setting answers before)) →
    unfed (run setting answers (before ++ (middle ++ after))) ≡ unfed (run setting answers (before ++ (others ++ after)))
alike_runs setting answers before middle others after alike =
    let first = begun setting answers before in
    let one = first ++ in_sequence (line_acts setting answers middle) first in
    let two = first ++ in_sequence (line_acts setting answers others) first in
    ap unfed (run_parts setting answers before middle after)
    ∙ unfed_more one two (rest setting answers after one) alike.same
    ∙ ap (λ (ms : List Mark). unfed (two ++ ms)) (rest_same setting answers after one two alike)
    ∙ ap unfed (sym (run_parts setting answers before others after))

-- ---- one line and two

begun_in_turn : (setting : Setting) (answers : List Done) (before : List Step) → AreAll (Turn setting NoStop) [] (begun setting answers before)
begun_in_turn setting answers before = turns (Turn setting NoStop) (line_acts setting answers before) (each (Turn setting NoStop) (act_of setting answers) (line_in_turn setting answers) before) []

two_bytes : (setting : Setting) (answers : List Done) (before after : List Step) (client : ℕ) (xs ys : List ℕ) →
    unfed (run setting answers (before ++ (line.Bytes client (xs ++ ys) ∷ after))) ≡ unfed (run setting answers (before ++ (line.Bytes client xs ∷ (line.Bytes client ys ∷ after))))
two_bytes setting answers before after client xs ys =
    let first = begun setting answers before in
    let act = λ (bytes : List ℕ) (done : List Mark). act_of setting answers (line.Bytes client bytes) done in
    let one : act (xs ++ ys) first ++ [] ≡ act (xs ++ ys) first = append-nil (act (xs ++ ys) first) in
    let now = first ++ act xs first in
    let two : act xs first ++ (act ys now ++ []) ≡ act xs first ++ act ys now = ap (λ (ms : List Mark). act xs first ++ ms) (append-nil (act ys now)) in
    let cut = cut_bytes setting answers client xs ys first (open_came setting NoStop first (begun_in_turn setting answers before) client) in
    alike_runs setting answers before (line.Bytes client (xs ++ ys) ∷ []) (line.Bytes client xs ∷ line.Bytes client ys ∷ []) after
    (subst (λ (ms : List Mark). Alike (first ++ ms) (first ++ (act xs first ++ (act ys now ++ [])))) (sym one)
    (subst (λ (ms : List Mark). Alike (first ++ act (xs ++ ys) first) (first ++ ms)) (sym two) cut))

-- ---- bytes on channels

no_bytes : IsBytes []
no_bytes i = omega arith

heard_bytes : (channel : ℕ) (before ms : List Mark) → AreAll HearsBytes before ms → IsBytes (heard channel ms)
heard_bytes channel before [] all = no_bytes
heard_bytes channel before (Heard other bytes ∷ ms) all = IsBytes-append (cond (eqb other channel) bytes []) (heard channel ms) (by_test (eqb other channel)) (heard_bytes channel (before ++ Heard other bytes ∷ []) ms all.1) where
  by_test : (b : Bool) → IsBytes (cond b bytes [])
  by_test true = all.0
  by_test false = no_bytes
heard_bytes channel before (m ∷ ms) all = heard_bytes channel (before ++ m ∷ []) ms all.1

others_hear : (done : List Mark) (mark : Mark) → is_other mark ≡ true → HearsBytes done mark
others_hear done (Heard channel bytes) e = absurd cc
others_hear done _ e = tt

bytes_so : (step : Step) → HoldsBytes step → BytesSo HearsBytes others_hear step
bytes_so (line.User channel bytes) are = λ done. are
bytes_so (line.Bytes client bytes) are = λ done. tt
bytes_so _ are = tt

begun_hears : (setting : Setting) (answers : List Done) (before : List Step) → AllByRecursion HoldsBytes before → (done : List Mark) → AreAll HearsBytes done (in_sequence (line_acts setting answers before) done)
begun_hears setting answers before are = turns HearsBytes (line_acts setting answers before) (all_lines before are) where
  all_lines : (steps : List Step) → AllByRecursion HoldsBytes steps → AllByRecursion (λ act. (done : List Mark) → AreAll HearsBytes done (act done)) (map (act_of setting answers) steps)
  all_lines [] are = tt
  all_lines (step ∷ steps) are = (line_other HearsBytes others_hear setting answers step (bytes_so step are.0), all_lines steps are.1)

two_messages : (setting : Setting) (answers : List Done) (before after : List Step) (channel : ℕ) (xs ys : List ℕ) → AllByRecursion HoldsBytes before → IsBytes xs → IsBytes ys →
    unfed (run setting answers (before ++ (line.User channel (xs ++ ys) ∷ after))) ≡ unfed (run setting answers (before ++ (line.User channel xs ∷ (line.User channel ys ∷ after))))
two_messages setting answers before after channel xs ys are are_xs are_ys =
    let first = begun setting answers before in
    let act = λ (bytes : List ℕ) (done : List Mark). act_of setting answers (line.User channel bytes) done in
    let one : act (xs ++ ys) first ++ [] ≡ act (xs ++ ys) first = append-nil (act (xs ++ ys) first) in
    let now = first ++ act xs first in
    let two : act xs first ++ (act ys now ++ []) ≡ act xs first ++ act ys now = ap (λ (ms : List Mark). act xs first ++ ms) (append-nil (act ys now)) in
    let are_heard : IsBytes (heard channel first) = heard_bytes channel [] first (begun_hears setting answers before are []) in
    let cut = cut_messages setting channel xs ys first (IsBytes-append (heard channel first) (xs ++ ys) are_heard (IsBytes-append xs ys are_xs are_ys)) (IsBytes-append (heard channel first) xs are_heard are_xs) in
    alike_runs setting answers before (line.User channel (xs ++ ys) ∷ []) (line.User channel xs ∷ line.User channel ys ∷ []) after
    (subst (λ (ms : List Mark). Alike (first ++ ms) (first ++ (act xs first ++ (act ys now ++ [])))) (sym one)
    (subst (λ (ms : List Mark). Alike (first ++ act (xs ++ ys) first) (first ++ ms)) (sym two) cut))

-- ---- one line and any

-- the line before stands with those before it
moved : (before xs : List Step) (step : Step) → (before ++ step ∷ []) ++ xs ≡ before ++ (step ∷ xs)
moved before xs step = append_assoc before (step ∷ []) xs

any_bytes : (setting : Setting) (answers : List Done) (before after : List Step) (client : ℕ) (first : List ℕ) (others : List (List ℕ)) →
    unfed (run setting answers (before ++ (line.Bytes client (concat (first ∷ others)) ∷ after))) ≡ unfed (run setting answers (before ++ (map (line.Bytes client) (first ∷ others) ++ after)))
any_bytes setting answers before after client first [] = ap (λ (bytes : List ℕ). unfed (run setting answers (before ++ (line.Bytes client bytes ∷ after)))) (append-nil first)
any_bytes setting answers before after client first (second ∷ others) =
    let now = before ++ line.Bytes client first ∷ [] in
    let later = any_bytes setting answers now after client second others in
    two_bytes setting answers before after client first (concat (second ∷ others))
    ∙ ap (λ (steps : List Step). unfed (run setting answers steps)) (sym (moved before (line.Bytes client (concat (second ∷ others)) ∷ after) (line.Bytes client first)))
    ∙ later
    ∙ ap (λ (steps : List Step). unfed (run setting answers steps)) (moved before (map (line.Bytes client) (second ∷ others) ++ after) (line.Bytes client first))

all_bytes : (xss : List (List ℕ)) → AllByRecursion IsBytes xss → IsBytes (concat xss)
all_bytes [] are = no_bytes
all_bytes (xs ∷ xss) are = IsBytes-append xs (concat xss) are.0 (all_bytes xss are.1)

any_messages : (setting : Setting) (answers : List Done) (before after : List Step) (channel : ℕ) (first : List ℕ) (others : List (List ℕ)) → AllByRecursion HoldsBytes before → AllByRecursion IsBytes (first ∷ others) →
    unfed (run setting answers (before ++ (line.User channel (concat (first ∷ others)) ∷ after))) ≡ unfed (run setting answers (before ++ (map (line.User channel) (first ∷ others) ++ after)))
any_messages setting answers before after channel first [] are all = ap (λ (bytes : List ℕ). unfed (run setting answers (before ++ (line.User channel bytes ∷ after)))) (append-nil first)
any_messages setting answers before after channel first (second ∷ others) are all =
    let now = before ++ line.User channel first ∷ [] in
    let later = any_messages setting answers now after channel second others (all_both HoldsBytes before (line.User channel first ∷ []) are (all.0, tt)) all.1 in
    two_messages setting answers before after channel first (concat (second ∷ others)) are all.0 (all_bytes (second ∷ others) all.1)
    ∙ ap (λ (steps : List Step). unfed (run setting answers steps)) (sym (moved before (line.User channel (concat (second ∷ others)) ∷ after) (line.User channel first)))
    ∙ later
    ∙ ap (λ (steps : List Step). unfed (run setting answers steps)) (moved before (map (line.User channel) (second ∷ others) ++ after) (line.User channel first))

pub same_requests : (setting : Setting) (answers : List Done) (before after : List Step) (client : ℕ) (first : List ℕ) (others : List (List ℕ)) →
    ComeToTheSame setting answers (before ++ line.Bytes client (concat (first ∷ others)) ∷ after) (before ++ (map (line.Bytes client) (first ∷ others) ++ after))
same_requests setting answers before after client first others =
    come_to_the_same setting answers (before ++ line.Bytes client (concat (first ∷ others)) ∷ after) (before ++ (map (line.Bytes client) (first ∷ others) ++ after)) (any_bytes setting answers before after client first others)

pub same_messages : (setting : Setting) (answers : List Done) (before after : List Step) (channel : ℕ) (first : List ℕ) (others : List (List ℕ)) → AllByRecursion HoldsBytes before → AllByRecursion IsBytes (first ∷ others) →
    ComeToTheSame setting answers (before ++ line.User channel (concat (first ∷ others)) ∷ after) (before ++ (map (line.User channel) (first ∷ others) ++ after))
same_messages setting answers before after channel first others are all =
    come_to_the_same setting answers (before ++ line.User channel (concat (first ∷ others)) ∷ after) (before ++ (map (line.User channel) (first ∷ others) ++ after)) (any_messages setting answers before after channel first others are all)
