use Rattle.std.proofs.Common.{◌≡◌, ℕ, ◌++◌, T, List, unwrap_or, [], ap, sym, subst, refl, ◌∙◌, arith, cond, length}
use Rattle.std.specs.FinMap.Entries.{is_sorted, is_sorted-put, put}
use Rattle.std.specs.Cmp.Lexicographic.{nat_list_cmp_total}
use Rattle.dl_memory.specs.declared.shelf.Place.{Place}
use Rattle.dl_memory.specs.Shelf.{Stock, files_in, held_by, place_of}
use Rattle.dl_memory.proofs.Shelves.{fits_in, held_in, held_length, is_written, name_cmp, what_stays}
use Rattle.dl_memory.proofs.stock.MemoryFolder.write.Goals as goal

pub returns-then-not-has_room-clause-room : goal.returns-then-not-has_room-clause-room
returns-then-not-has_room-clause-room c room =
    let es = c.self.inside.entries.items in
    let bs = c.self.inside.bytes.items in
    let place = c.find-place.ensures.place in
    let files = ap (λ (s : Stock). s.files) (sym c.self.view_is) in
    let fits = fits_in c.args.keeps c.args.self.now c.args.name.now (length c.args.piece.now) es bs c.find-place.result c.unwrap_or-size.result c.kept-stays.result _ _ files c.self.invariant.sorted c.self.invariant.all
    (rw c.deref.ensures.value at place) c.unwrap_or-size.ensures c.kept-stays.ensures.value
    (omega (arith, c.saturating_sub-free_files.ensures, c.len.ensures, c.self.inside.entries.ok.0, ap (λ (s : Stock). s.most_files) c.self.view_is))
    (omega (arith, c.len-2.ensures, c.self.inside.bytes.ok.0, ap (λ (s : Stock). s.most_bytes) c.self.view_is)) room in
    sym c.if-not-has_room.true ∙ c.has_room.ensures.only fits.0 fits.1

pub invariant_of-self : goal.invariant_of-self
invariant_of-self c =
    let es = c.self.inside.entries.items in
    let bs = c.self.inside.bytes.items in
    let place = c.find-place.ensures.place in
    let done = is_written es c.set.new.entries.items bs c.cut.new.bytes.items c.paste.new.bytes.items c.args.name.now c.args.piece.now c.find-place.result c.unwrap_or-size.result c.kept-stays.result _
    (rw c.deref.ensures.value at place) c.unwrap_or-size.ensures c.kept-stays.ensures.within c.in-Ok.ensures.ok refl c.self.invariant.sorted c.self.invariant.all c.cut.ensures.rest c.paste.ensures.whole c.set.ensures.items in
    record {
      all = omega (arith, done.sizes, c.self.invariant.all, c.paste.ensures.len, c.cut.ensures.len, c.kept-stays.ensures.within);
      sorted = subst (λ fs. T (is_sorted name_cmp fs)) (sym done.files) (is_sorted-put name_cmp nat_list_cmp_total c.args.name.now _ (files_in es bs) c.self.invariant.sorted);
      files_fit = omega (arith, c.self.invariant.files_fit, c.set.ensures.room);
      bytes_fit = omega (arith, c.self.invariant.bytes_fit, c.paste.ensures.room, c.cut.ensures.room);
      within = omega (arith, (c.has_room.ensures.room c.if-not-has_room.false).0, c.len-2.ensures, c.self.inside.bytes.ok.0, c.paste.ensures.len, c.cut.ensures.len, c.kept-stays.ensures.within, c.self.invariant.within);
      small = c.self.invariant.small;
    }

pub returns-clause-written : goal.returns-clause-written
returns-clause-written c =
    let es = c.self.inside.entries.items in
    let bs = c.self.inside.bytes.items in
    let place = c.find-place.ensures.place in
    let placed = rw c.deref.ensures.value at place in
    let done = is_written es c.set.new.entries.items bs c.cut.new.bytes.items c.paste.new.bytes.items c.args.name.now c.args.piece.now c.find-place.result c.unwrap_or-size.result c.kept-stays.result _
    placed c.unwrap_or-size.ensures c.kept-stays.ensures.within c.in-Ok.ensures.ok refl c.self.invariant.sorted c.self.invariant.all c.cut.ensures.rest c.paste.ensures.whole c.set.ensures.items in
    let size_is : c.unwrap_or-size.result ≡ unwrap_or (place_of c.args.name.now es).size 0 = c.unwrap_or-size.ensures ∙ ap (λ (p : Place). unwrap_or p.size 0) placed in
    let held : length (held_in c.args.name.now (files_in es bs)) ≡ c.unwrap_or-size.result =
    held_length c.args.name.now es bs c.self.invariant.sorted (omega (arith, c.self.invariant.all)) ∙ sym size_is in
    let stays = what_stays c.args.keeps c.kept-stays.result c.unwrap_or-size.result (held_in c.args.name.now (files_in es bs)) c.kept-stays.ensures.value held in
    let files = done.files ∙ ap (λ h. put name_cmp c.args.name.now (h ++ c.args.piece.now) (files_in es bs)) stays in
    let made : List (List ℕ × List ℕ) → Stock = λ fs. record { files = fs; most_files = c.self.inside.most_files; most_bytes = c.self.inside.most_bytes; changes = c.self.inside.changes; appends = c.self.inside.appends } in
    let wanted : Stock → Stock = λ s. record {
      files = put name_cmp c.args.name.now (cond c.args.keeps (held_by s c.args.name.now) [] ++ c.args.piece.now) s.files;
      most_files = s.most_files;
      most_bytes = s.most_bytes;
      changes = s.changes;
      appends = s.appends;
    } in
    ap made files ∙ ap wanted c.self.view_is
