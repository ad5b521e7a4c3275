-- The frame of a log call in a run.
use Rattle.std.specs.Prelude.{◌≡◌, List}
use Rattle.dl_message.specs.Frames.{log_message}
use Rattle.dl_model.specs.Setting.{Setting}
use Rattle.dl_script_model.specs.Marks.{Call, Mark}
use Rattle.dl_script_model.specs.Replay.{frame_of_call}

-- found by its writer and its number, the frame of a call is that of its own item
abbrev pub HasItsFrame : Setting → List Mark → Call → Type 0
HasItsFrame setting done call =
    frame_of_call setting done call.item.writer call.item.call ≡ log_message setting.ecu call.item
