-- What the code finds of calls. (Of the code alone: no promise rests on these words.)
use Rattle.std.specs.Prelude.{◌≡◌, ℕ, ◌==◌, ◌&&◌, Bool, List, [], Option, Some, None}
use Rattle.std.specs.HashMap as hash
use Rattle.dl_events.specs.declared.event.Event.{Event}
use Rattle.dl_events.specs.declared.record.Record.{Record}
use Rattle.dl_model.specs.Frames.{FrameSource}
use Rattle.dl_laws.specs.Fates.{of_queued, by_answer}
use Rattle.dl_laws.specs.Fates as law
use Rattle.dl_fates.specs.declared.fate.CallName.{CallName}
use Rattle.dl_fates.specs.declared.fate.Fate.{Fate}
use Rattle.dl_fates.specs.declared.fate.Fate.TheVariants as code

-- a fate of the code, in the words of the law
abbrev pub said : Fate → law.Fate
said code.Filtered = law.Filtered
said code.RingFull = law.RingFull
said code.InRing = law.InRing
said (code.InStream place) = law.InStream place
said (code.InBacklog place) = law.InBacklog place
said (code.BufferFull next) = law.BufferFull next
said code.ForOthers = law.ForOthers

abbrev pub same_call : CallName → CallName → Bool
same_call a b = (a.writer == b.writer) && (a.call == b.call)

-- what was found of a call; where nothing was, what a later search tells
abbrev pub or_later : Option Fate → law.Fate → law.Fate
or_later None later = later
or_later (Some fate) later = said fate

-- What was found so far, and the search from these events on, behind those before, tell what became of every call.
abbrev pub TellsAll : {S : Type 0} → FrameSource → (buffer client : ℕ) → (CallName → law.Fate) → hash.HashMap CallName Fate S → (before after : List Event) → Type 0
TellsAll source buffer client target found before after =
    (name : CallName) → target name ≡ or_later (hash.get same_call found name) (of_queued source buffer client name.writer name.call before after)

-- so it is of a whole journal
abbrev pub TellsWhole : {S : Type 0} → FrameSource → (buffer client : ℕ) → List Event → hash.HashMap CallName Fate S → Type 0
TellsWhole source buffer client events found =
    (name : CallName) → of_queued source buffer client name.writer name.call [] events ≡ or_later (hash.get same_call found name) law.InRing

abbrev pub name_of : Record → CallName
name_of r = record { writer = r.item.writer; call = r.item.call }
