use Rattle.std.proofs.Common.{Some, ap, sym, subst, ◌∙◌, T, arith}
use Rattle.std.specs.Prelude.{not}
use Rattle.std.specs.Ordering.{eq_by_cmp}
use Rattle.std.specs.FinMap as map
use Rattle.std.specs.FinMap.Entries.{is_sorted, is_sorted-where_key}
use Rattle.dl_memory.specs.declared.shelf.Place.{Place}
use Rattle.dl_memory.specs.Shelf.{Stock, files_in}
use Rattle.dl_memory.proofs.Shelves.{name_cmp, stays}
use Rattle.dl_memory.proofs.Maps.{is_gone, of_files, removed}
use Rattle.dl_memory.proofs.stock.MemoryFolderFolder.remove.Goals as goal

pub invariant_of-self : goal.invariant_of-self
invariant_of-self c =
    let es = c.self.inside.entries.items in
    let bs = c.self.inside.bytes.items in
    let name = c.args.name.now in
    let place = c.find-place.ensures.place in
    let sorted = c.self.invariant.sorted in
    let gone = is_gone es c.remove.new.self.items bs c.cut.new.bytes.items name c.find-place.result c.in-Some.size (rw c.deref.ensures.value at place) c.in-Some.is sorted c.self.invariant.all c.remove.ensures.items c.cut.ensures.rest in
    record {
      all = omega (arith, gone.sizes, c.self.invariant.all, c.cut.ensures.len);
      sorted = subst (λ fs. T (is_sorted name_cmp fs)) (sym gone.files) (is_sorted-where_key name_cmp (λ x. not (eq_by_cmp name_cmp name x)) (files_in es bs) sorted);
      files_fit = omega (arith, c.self.invariant.files_fit, c.remove.ensures.capacity);
      bytes_fit = omega (arith, c.self.invariant.bytes_fit, c.cut.ensures.room);
      within = omega (arith, c.self.invariant.within, c.cut.ensures.len);
      small = c.self.invariant.small;
    }

pub returns-in-Some-clause-files : goal.returns-in-Some-clause-files
returns-in-Some-clause-files c =
    let es = c.self.inside.entries.items in
    let bs = c.self.inside.bytes.items in
    let name = c.args.name.now in
    let place = c.find-place.ensures.place in
    let sorted = c.self.invariant.sorted in
    let gone = is_gone es c.remove.new.self.items bs c.cut.new.bytes.items name c.find-place.result c.in-Some.size (rw c.deref.ensures.value at place) c.in-Some.is sorted c.self.invariant.all c.remove.ensures.items c.cut.ensures.rest in
    ap Some (ap of_files gone.files ∙ removed (files_in es bs) name sorted ∙ ap (λ (s : Stock). map.remove (of_files s.files) name) c.self.view_is)

pub returns-in_default-clause-files : goal.returns-in_default-clause-files
returns-in_default-clause-files c =
    let es = c.self.inside.entries.items in
    let bs = c.self.inside.bytes.items in
    let name = c.args.name.now in
    let place = c.find-place.ensures.place in
    let sorted = c.self.invariant.sorted in
    let is = rw c.deref.ensures.value at place in
    let stay = stays name es bs sorted (ap (λ (p : Place). p.size) (sym is) ∙ c.in_default.is) in
    ap Some (ap of_files (sym stay) ∙ removed (files_in es bs) name sorted ∙ ap (λ (s : Stock). map.remove (of_files s.files) name) c.self.view_is)
