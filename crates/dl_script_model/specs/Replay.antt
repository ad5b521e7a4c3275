-- What a replay of steps leaves and prints.
use Rattle.std.specs.Prelude.{ℕ, Bool, ◌==◌, ◌&&◌, List, [], length, map, count_by, Some, None, if◌then◌else◌, true}
use Rattle.std.specs.List.{find, filter_map, range_with_len}
use Rattle.std.specs.Option.{option_map_or}
use Rattle.dl_bytes.specs.declared.conf.AppSpec.{AppSpec}
use Rattle.dl_bytes.specs.declared.outcome.Done.{Done}
use Rattle.dl_bytes.specs.declared.outcome.Ends.{Ends}
use Rattle.dl_bytes.specs.declared.outcome.LinkEnd.{LinkEnd}
use Rattle.dl_bytes.specs.declared.outcome.TraceState.{TraceState}
use Rattle.dl_message.specs.Frames.{log_message}
use Rattle.dl_script_model.specs.declared.step.Step.{Step}
use Rattle.dl_model.specs.Setting.{Setting}
use Rattle.dl_model.specs.Journal.{is_connect, source_by}
use Rattle.dl_script_model.specs.Marks.{Call, Mark, journal, records, apps, apid_of, call_of}
use Rattle.dl_model.specs.Frames.{FrameSource, stored_frames}
use Rattle.dl_model.specs.ClientStream.{traffic, stream}
use Rattle.dl_model.specs.Backlog.{size_of, left}
use Rattle.dl_model.specs.TraceFiles.{StoredFile, trace_files, trace_name}
use Rattle.dl_script_model.specs.Steps.{run}
use Rattle.dl_model.specs.Report.{report}

-- a call of this writer with this number
abbrev pub is_call : ℕ → ℕ → Call → Bool
is_call writer number call = (call.item.writer == writer) && (call.item.call == number)

-- the frame of a log call, by its writer and its number
abbrev pub frame_of_call : Setting → List Mark → ℕ → ℕ → List ℕ
frame_of_call setting done writer number =
    option_map_or (λ call. log_message setting.ecu call.item) (find (is_call writer number) (filter_map call_of done)) []

-- where the frames of a run come from: its log calls, its applications, and the registry's replies
abbrev pub source_of : Setting → List Mark → FrameSource
source_of setting done = source_by setting (frame_of_call setting done) (apid_of done)

-- the clients that came, by their numbers
abbrev pub clients : List Mark → List ℕ
clients done = range_with_len 1 (count_by is_connect (journal done))

-- what a client was sent
abbrev pub stream_of : Setting → List Mark → ℕ → List (List ℕ)
stream_of setting done client = stream (source_of setting done) setting.buffer client (journal done)

-- what the link of a client took: all of it
abbrev pub link_of : Setting → List Mark → ℕ → LinkEnd
link_of setting done client =
    let frames = stream_of setting done client in
    record { client = client; frames = length frames; bytes = size_of frames; complete = true }

-- the trace files that stand where these stood before; none where no trace is stored
abbrev pub files_of : Setting → List StoredFile → List Mark → List StoredFile
files_of setting old done =
    if length setting.directory == 0 then []
    else trace_files setting.file_size setting.max_size old (stored_frames (source_of setting done) (journal done))

-- their names and sizes, where the trace didn't end
abbrev pub trace_of : Setting → List StoredFile → List Mark → TraceState
trace_of setting old done = record {
  files = map (λ file. record { name = trace_name setting.directory file.number; bytes = length file.bytes }) (files_of setting old done);
  end = None;
}

-- the applications as they were declared
abbrev pub specs_of : List Mark → List AppSpec
specs_of done = map (λ app. record { apid = app.apid; capacity = app.capacity; text = app.text }) (apps done)

-- what stands at the end of a run, with what became of the trace
abbrev pub ends_of : Setting → List Mark → TraceState → Ends
ends_of setting done trace = record { links = map (link_of setting done) (clients done); dropped = 0; trace = trace }

-- the report of a run, with what became of the trace; with the frames of the clients where they are wanted
abbrev pub report_of : Setting → List Mark → TraceState → Bool → List ℕ
report_of setting done trace with_frames =
    report (records done) (journal done) (specs_of done) (ends_of setting done trace)
    (left setting.buffer (traffic (source_of setting done) (journal done)))
    (if with_frames then Some (map (stream_of setting done) (clients done)) else None)

-- what is printed for steps, where no fault comes from outside: these trace files stood before, and the folder answers
-- so to the Stores and the Resets that ask it
abbrev pub printed : Setting → List Done → List StoredFile → Bool → List Step → List ℕ
printed setting answers old with_frames steps =
    let done = run setting answers steps in report_of setting done (trace_of setting old done) with_frames
