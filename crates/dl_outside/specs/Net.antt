-- What the answers of a net say of its port and its clients.
use Rattle.std.specs.Prelude.{◌≡◌, ℕ, List, [], ◌∷◌, ◌++◌, Option, Some, IfSome, Result, Ok, Err}
use Rattle.dl_outside.specs.declared.client.ClientScript.{ClientScript}
use Rattle.dl_outside.specs.declared.net.NetFault.{NetFault}
use Rattle.dl_outside.specs.declared.net.NetFault.TheVariants.{Failed, OutOfMemory}
use Rattle.dl_outside.specs.declared.net.Accepted.{Accepted}
use Rattle.dl_outside.specs.declared.net.Accepted.TheVariants as accepted
use Rattle.dl_outside.specs.Outside.{HasRisen, Stays}

-- the count of faults rose where the call failed, and stands with every other answer
abbrev pub HasCause : {T : Type 0} → ℕ → ℕ → Result T NetFault → Type 0
HasCause before now (Ok answer) = now ≡ before
HasCause before now (Err Failed) = HasRisen before now
HasCause before now (Err OutOfMemory) = now ≡ before

-- the net listens on this port; a refusal changes nothing
abbrev pub Listens : Option (Option ℕ) → Option (Option ℕ) → Result (Unit {0}) NetFault → ℕ → Type 0
Listens old new (Ok done) port = IfSome old (λ _. new ≡ Some (Some port))
Listens old new (Err fault) port = Stays old new

-- the client is the last of those that were launched; a refusal launches none
abbrev pub Launches : Option (List ClientScript) → Option (List ClientScript) → Result (Unit {0}) NetFault → ClientScript → Type 0
Launches old new (Ok done) script = IfSome old (λ scripts. new ≡ Some (scripts ++ script ∷ []))
Launches old new (Err fault) script = Stays old new

-- its connection is the last of those that wait; a refusal adds none
abbrev pub Queues : {L : Type 0} → Option (List L) → Option (List L) → Result (Unit {0}) NetFault → Type 0
Queues {L} old new (Ok done) = IfSome old (λ links. (link : L) × (new ≡ Some (links ++ link ∷ [])))
Queues old new (Err fault) = Stays old new

-- the first connection that waits is taken; no client waits exactly where there is none
abbrev pub Accepts : {L : Type 0} → Option (List L) → Option (List L) → Accepted L → Type 0
Accepts {L} old new (accepted.Link link) = IfSome old (λ links. (rest : List L) × (links ≡ link ∷ rest) × (new ≡ Some rest))
Accepts old new accepted.None = Stays old new × IfSome old (λ links. links ≡ [])
Accepts old new accepted.Failed = Stays old new
Accepts old new accepted.OutOfMemory = Stays old new

-- a fault raised the count, and nothing else did
abbrev pub HasAcceptCause : {L : Type 0} → ℕ → ℕ → Accepted L → Type 0
HasAcceptCause before now (accepted.Link link) = now ≡ before
HasAcceptCause before now accepted.None = now ≡ before
HasAcceptCause before now accepted.Failed = HasRisen before now
HasAcceptCause before now accepted.OutOfMemory = now ≡ before
