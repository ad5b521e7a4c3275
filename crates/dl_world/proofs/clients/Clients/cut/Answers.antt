use Rattle.std.proofs.Common.{◌≡◌, ◌-◌, ◌≤◌, ℕ, List, length, set, sym, subst}
use Rattle.std.specs.Prelude.{IfSome, IsSomeAnd, IfOk, OnOk}
use Rattle.dl_world.specs.Fed.{Asks, IsFedBy}
use Rattle.dl_world.specs.State.{Client, client_at, with_client, with_cutter}
use Rattle.dl_world.proofs.ClientPlaces.{cut_there, cut_alone}
use Rattle.dl_world.proofs.clients.Clients.cut.Goals as goal

pub returns-clause-asks : goal.returns-clause-asks
returns-clause-asks c =
    let clients = c.self.inside.items.items in
    let known = subst (λ (xs : List Client). (1 ≤ c.args.client) × (c.args.client ≤ length xs)) (sym c.self.view_is) c.requires.known in
    let all = cut_there clients c.args.client c.index_mut.result.now c.cut.new.self known c.index_mut.ensures.value c.args.bytes.now c.args.requests.now.items c.cut.new.requests.items c.cut.result c.cut.ensures.asks in
    subst (λ (xs : List Client). IfOk c.cut.result (λ bad. (stream : List ℕ) → IfSome (client_at xs c.args.client) (λ client. IsFedBy stream client.cutter)
    → IfSome (client_at (set clients (c.args.client - 1) c.cut.new.self) c.args.client) (λ client. Asks stream c.args.bytes.now bad c.args.requests.now.items c.cut.new.requests.items client.cutter))) c.self.view_is all

pub returns-clause-others : goal.returns-clause-others
returns-clause-others c =
    let clients = c.self.inside.items.items in
    let known = subst (λ (xs : List Client). (1 ≤ c.args.client) × (c.args.client ≤ length xs)) (sym c.self.view_is) c.requires.known in
    let all = cut_alone clients c.args.client c.index_mut.result.now c.cut.new.self known c.index_mut.ensures.value c.cut.result c.cut.ensures.frames in
    subst (λ (xs : List Client). OnOk c.cut.result (IsSomeAnd (client_at (set clients (c.args.client - 1) c.cut.new.self) c.args.client)
    (λ client. set clients (c.args.client - 1) c.cut.new.self ≡ with_client c.args.client (with_cutter client.cutter) xs))) c.self.view_is all
