use Rattle.std.proofs.Common.{◌≡◌, ◌+◌, ◌-◌, ap, sym, subst, ◌∙◌, arith, take, drop}
use Rattle.std.specs.Prelude.{option_map}
use Rattle.dl_memory.specs.Shelf.{Stock}
use Rattle.dl_memory.proofs.Maps.{read_is}
use Rattle.dl_pieces.specs.Pieces.{AreReadAt}
use Rattle.dl_memory.proofs.stock.MemoryFolderReadAt.read_at.Goals as goal

pub returns-in_default-clause-found : goal.returns-in_default-clause-found
returns-in_default-clause-found c =
    let place = c.find-found.ensures.place in
    let bs = c.self.inside.bytes.items in
    let start = c.find-found.result.start in
    read_is c.self.inside.entries.items bs c.args.name.now c.find-found.result c.args.self.now.files (ap (λ (s : Stock). s.files) (sym c.self.view_is)) c.self.invariant.sorted (rw c.deref.ensures.value at place)
    ∙ ap (option_map (λ s. take s (drop start bs))) c.in_default.is

pub returns-clause-found : goal.returns-clause-found
returns-clause-found c =
    let place = c.find-found.ensures.place in
    let bs = c.self.inside.bytes.items in
    let start = c.find-found.result.start in
    let size = c.in-Some.size in
    let held = read_is c.self.inside.entries.items bs c.args.name.now c.find-found.result c.args.self.now.files (ap (λ (s : Stock). s.files) (sym c.self.view_is)) c.self.invariant.sorted (rw c.deref.ensures.value at place)
    ∙ ap (option_map (λ s. take s (drop start bs))) c.in-Some.is in
    let many : (start + size) - start ≡ size = omega arith in
    let part = rw c.deref-2.ensures.value at c.copy_at.ensures.part in
    (c.copy_at.ensures.few, (take size (drop start bs), held, subst (λ n. AreReadAt (take n (drop start bs)) c.args.place c.copy_at.result c.copy_at.new.into) many part))
