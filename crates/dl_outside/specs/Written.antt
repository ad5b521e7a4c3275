-- What a sink took of a text, where it tells what it holds.
use Rattle.std.specs.Prelude.{◌≡◌, ℕ, ◌≤◌, ◌⊎◌, List, ◌++◌, length, take, Option, Some, IfSome}
use Rattle.dl_outside.specs.Outside.{HasRisen}
use Rattle.dl_outside.specs.Told.{SinkTold}

-- a sink took this text, all of it
abbrev pub TookAll : Option (List ℕ) → Option (List ℕ) → List ℕ → Type 0
TookAll old new text = IfSome old (λ bytes. new ≡ Some (bytes ++ text))

-- a sink took the front of this text, and no more
abbrev pub TookFront : Option (List ℕ) → Option (List ℕ) → List ℕ → Type 0
TookFront old new text = IfSome old (λ bytes. (n : ℕ) × (n ≤ length text) × (new ≡ Some (bytes ++ take n text)))

-- nothing was written
abbrev pub WroteNothing : SinkTold → SinkTold → Type 0
WroteNothing old new = new ≡ old

-- a text was written whole
pub record WroteAll (old new : SinkTold) (text : List ℕ) : Type 0 where
  pub all : TookAll old.held new.held text
  pub well : new.faults ≡ old.faults

-- the sink failed, and a front of the text was written
pub record WroteFront (old new : SinkTold) (text : List ℕ) : Type 0 where
  pub front : TookFront old.held new.held text
  pub failed : HasRisen old.faults new.faults

-- a text was written: whole, or its front where the sink failed
abbrev pub Wrote : SinkTold → SinkTold → List ℕ → Type 0
Wrote old new text = WroteAll old new text ⊎ WroteFront old new text
