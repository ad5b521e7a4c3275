-- What the objects of the outside tell of themselves. Content is an option: nothing where the object doesn't tell it.
use Rattle.std.specs.Prelude.{ℕ, Bool, List, Option}
use Rattle.dl_outside.specs.declared.client.ClientScript.{ClientScript}
use Rattle.dl_outside.specs.Folder.{Files}

-- a source: what is left to read, and how often it failed
pub record SourceTold : Type 0 where
  pub left : Option (List ℕ)
  pub faults : ℕ

-- a sink: what it holds, and how often it failed
pub record SinkTold : Type 0 where
  pub held : Option (List ℕ)
  pub faults : ℕ

-- a folder: its files, how often it failed, how often a file was to change, and how often one was to grow
pub record FolderTold : Type 0 where
  pub files : Option Files
  pub faults : ℕ
  pub changes : ℕ
  pub appends : ℕ

-- a link: what is left of its input, whether that is over, so that no more will come, what it gave and what it took so far, how often it
-- failed, had nothing to give and could take nothing, and whether it was shut
pub record LinkTold : Type 0 where
  pub left : Option (List ℕ)
  pub over : Option Bool
  pub given : Option (List ℕ)
  pub taken : Option (List ℕ)
  pub faults : ℕ
  pub idles : ℕ
  pub waits : ℕ
  pub is_shut : Bool

-- a net: the port on which it listens, if it does, the clients that were launched, in order, the connections that wait for an accept, the
-- oldest first, and how often it failed
pub record NetTold (L : Type 0) : Type 0 where
  pub listens_on : Option (Option ℕ)
  pub launched : Option (List ClientScript)
  pub waiting : Option (List L)
  pub faults : ℕ

-- a dial: what each port gives, and how often it failed
pub record DialTold : Type 0 where
  pub serves : Option (ℕ → List ℕ)
  pub faults : ℕ
