use Rattle.std.proofs.Common.{◌≡◌, ◌+◌, ◌-◌, Some, ap, sym, ◌∙◌, arith, take, drop}
use Rattle.std.specs.Prelude.{option_map}
use Rattle.dl_memory.specs.Shelf.{Stock}
use Rattle.dl_memory.proofs.Maps.{read_is}
use Rattle.dl_memory.proofs.stock.MemoryFolderFolder.read.Goals as goal

pub returns-in_default-clause-found : goal.returns-in_default-clause-found
returns-in_default-clause-found c =
    let place = c.find-place.ensures.place in
    let bs = c.self.inside.bytes.items in
    let start = c.find-place.result.start in
    sym (read_is c.self.inside.entries.items bs c.args.name.now c.find-place.result c.args.self.now.files (ap (λ (s : Stock). s.files) (sym c.self.view_is)) c.self.invariant.sorted (rw c.deref.ensures.value at place)
    ∙ ap (option_map (λ s. take s (drop start bs))) c.in_default.is)

pub returns-clause-found : goal.returns-clause-found
returns-clause-found c =
    let place = c.find-place.ensures.place in
    let bs = c.self.inside.bytes.items in
    let start = c.find-place.result.start in
    let size = c.in-Some.size in
    let held = read_is c.self.inside.entries.items bs c.args.name.now c.find-place.result c.args.self.now.files (ap (λ (s : Stock). s.files) (sym c.self.view_is)) c.self.invariant.sorted (rw c.deref.ensures.value at place)
    ∙ ap (option_map (λ s. take s (drop start bs))) c.in-Some.is in
    let many : (start + size) - start ≡ size = omega arith in
    let part = c.over.ensures ∙ c.in-Ok.ensures.items in
    let part_of = rw c.deref-2.ensures.value at part in
    ap Some (part_of ∙ ap (λ n. take n (drop start bs)) many) ∙ sym held
