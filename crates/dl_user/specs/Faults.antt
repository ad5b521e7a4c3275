-- Which bytes show that no user message stands at the front.
use Rattle.std.specs.Prelude.{◌≡◌, ◌≢◌, ℕ, ◌<◌, ◌^◌, ℤ, pos, negsuc, ◌≤ℤ◌, List, [], ◌++◌, length, ◌⊎◌, Some, None}
use Rattle.std.specs.Int.{w8, cast_signed}
use Rattle.dl_headers.specs.Reading.{front_fault}
use Rattle.dl_headers.specs.declared.fault.HeaderFault.{HeaderFault}
use Rattle.dl_bytes.specs.Htyp.{len_of}
use Rattle.dl_bytes.specs.Limits.{payload_limit, text_limit, frame_limit}
use Rattle.dl_user.specs.declared.fault.UserFault.{UserFault}
use Rattle.dl_user.specs.declared.fault.UserFault.TheVariants.{Marker, Kind, Inner, TooLong, Level}
use Rattle.dl_user.specs.declared.fields.AppFields.{AppFields}
use Rattle.dl_user.specs.declared.fields.ContextFields.{ContextFields}
use Rattle.dl_user.specs.declared.fields.SettingFields.{SettingFields}
use Rattle.dl_user.specs.declared.fields.ServiceFields.{ServiceFields}
use Rattle.dl_user.specs.Layout.{marker, uint32}
use Rattle.dl_user.specs.Fronts.{IsApp, IsContext, IsSetting, IsService}

-- the bytes begin with the marker, a kind and this front of its fields, whatever follows
abbrev pub BeginsWith : List ℕ → ℕ → List ℕ → Type 0
BeginsWith bytes kind front = (more : List ℕ) × (bytes ≡ marker ++ uint32 kind ++ (front ++ more))

-- a level that a context may register with; -1 and -2 are none of its own
abbrev pub IsRegistered : ℤ → Type 0
IsRegistered z = (negsuc 1 ≤ℤ z) × (z ≤ℤ pos 6)

-- A rule for each fault, with the bytes that show it. In kinds 2, 4, 6 and 7 these are all fields of a known length.
pub data ProvesFault (bytes : List ℕ) : UserFault → Type 0 where
  other_marker : (front more : List ℕ) → bytes ≡ front ++ more → length front ≡ 4 → front ≢ marker → ProvesFault bytes Marker
  other_kind : (kind : ℕ) → BeginsWith bytes kind [] → kind < 2 ^ 32 → (kind < 1) ⊎ (8 < kind) → ProvesFault bytes (Kind kind)
  -- kind 1, by the first four bytes of the message inside
  bad_front : (head : List ℕ) (fault : HeaderFault) → BeginsWith bytes 1 head → length head ≡ 4
      → front_fault head ≡ Some fault → ProvesFault bytes (Inner fault)
  long_message : (head : List ℕ) → BeginsWith bytes 1 head → length head ≡ 4
      → front_fault head ≡ None → frame_limit < len_of head → ProvesFault bytes (TooLong (len_of head))
  -- kinds 2, 4 and 7, by the length of the text or the body
  long_app_text : (front : List ℕ) (app : AppFields) → BeginsWith bytes 2 front → IsApp front app
      → text_limit < app.len → ProvesFault bytes (TooLong app.len)
  long_context_text : (front : List ℕ) (context : ContextFields) → BeginsWith bytes 4 front → IsContext front context
      → IsRegistered context.level → text_limit < context.len → ProvesFault bytes (TooLong context.len)
  long_body : (front : List ℕ) (injection : ServiceFields) → BeginsWith bytes 7 front → IsService front injection
      → payload_limit < injection.len → ProvesFault bytes (TooLong injection.len)
  -- kinds 4 and 6, by the level
  context_level : (front : List ℕ) (context : ContextFields) → BeginsWith bytes 4 front → IsContext front context
      → (IsRegistered context.level → ⊥) → ProvesFault bytes (Level context.level)
  set_level : (front : List ℕ) (setting : SettingFields) → BeginsWith bytes 6 front → IsSetting front setting
      → 6 < setting.level → ProvesFault bytes (Level (cast_signed w8 setting.level))
