-- What an entry of traffic and what an event owe, so that each frame tells its length.
use Rattle.std.specs.Prelude.{◌≡◌, List, [], ◌∷◌, ◌++◌, length}
use Rattle.dl_bytes.specs.UserMessage.{IsFit}
use Rattle.dl_bytes.specs.declared.user.UserMsg.{UserMsg}
use Rattle.dl_bytes.specs.declared.user.UserMsg.TheVariants.{Overflow}
use Rattle.dl_events.specs.declared.event.Event.{Event}
use Rattle.dl_events.specs.declared.event.Event.TheVariants as event
use Rattle.dl_model.specs.Frames.{FrameSource}
use Rattle.dl_model.specs.Traffic.{Traffic, Admitted, Reply}
use Rattle.dl_laws.specs.Frames.{TellsLen}

-- the frame that an entry carries tells its length; one that says who comes or goes carries none
abbrev pub CarriesLen : Traffic → Type 0
CarriesLen (Admitted frame) = TellsLen frame
CarriesLen (Reply client frame) = TellsLen frame
CarriesLen _ = Unit {0}

-- the application that a report of lost messages names has an id of four bytes
abbrev pub HasId : UserMsg → Type 0
HasId (Overflow counter apid) = length apid ≡ 4
HasId _ = Unit {0}

-- What an event's frames are made of: the frame of a log call and a reply tell their lengths, the application of lost calls has
-- an id of four bytes, and a user message is within its limits.
abbrev pub GivesLengths : FrameSource → List Event → Event → Type 0
GivesLengths source before (event.Log app writer call moment) = TellsLen (source.frame writer call)
GivesLengths source before (event.Lost app count moment) = length (source.apid app) ≡ 4
GivesLengths source before (event.User channel msg moment) = IsFit msg × HasId msg
GivesLengths source before (event.Request client frame done) = TellsLen (source.reply before frame done)
GivesLengths source before _ = Unit {0}

-- so does each of these events, after those before it
abbrev pub EachGivesLengths : FrameSource → List Event → List Event → Type 0
EachGivesLengths source before [] = Unit {0}
EachGivesLengths source before (e ∷ events) = GivesLengths source before e × EachGivesLengths source (before ++ e ∷ []) events
