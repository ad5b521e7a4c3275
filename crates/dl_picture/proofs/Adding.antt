-- One mark more.
use Rattle.std.proofs.Common.{◌≡◌, Bool, true, false, cond, eqb, List, [], ◌∷◌, ◌++◌, Option, Some, refl, sym, ap, ◌∙◌}
use Rattle.std.specs.Prelude.{unwrap_or}
use Rattle.std.proofs.lemmas.Bool.{eqb-true}
use Rattle.dl_lemmas.proofs.Lists.{fold-one}
use Rattle.dl_lemmas.proofs.Bools.{both}
use Rattle.dl_picture.specs.declared.chart.Bin.{Bin}
use Rattle.dl_picture.specs.declared.tally.Cell.{Cell}
use Rattle.dl_picture.specs.declared.tally.Mark.{Mark}
use Rattle.dl_picture.specs.Tally.{bin_of, counted, joined, no_bin, same_cell}

cell_is : (a b : Cell) → same_cell a b ≡ true → a ≡ b
cell_is a b e =
    let parts = both (eqb a.row b.row) (eqb a.column b.column) e in
    let p = eqb-true a.row b.row parts.0 in
    let q = eqb-true a.column b.column parts.1 in
    λ i. record { row = p i; column = q i }

-- what is kept, after a mark was counted
pub kept : (old new : Cell → Option Bin) (marks : List Mark) (m : Mark) (now : Bin) → ((cell : Cell) → new cell ≡ cond (same_cell m.cell cell) (Some now) (old cell)) →
    now ≡ joined (bin_of m.cell marks) m.bin → ((cell : Cell) → unwrap_or (old cell) no_bin ≡ bin_of cell marks) → (cell : Cell) → unwrap_or (new cell) no_bin ≡ bin_of cell (marks ++ m ∷ [])
kept old new marks m now noted is keeps cell = ap (λ (o : Option Bin). unwrap_or o no_bin) (noted cell) ∙ by_test (same_cell m.cell cell) refl ∙ sym (fold-one (counted cell) no_bin marks m) where
  by_test : (b : Bool) → same_cell m.cell cell ≡ b → unwrap_or (cond b (Some now) (old cell)) no_bin ≡ counted cell (bin_of cell marks) m
  by_test true same = is ∙ ap (λ (c : Cell). joined (bin_of c marks) m.bin) (cell_is m.cell cell same) ∙ sym (ap (λ (b : Bool). cond b (joined (bin_of cell marks) m.bin) (bin_of cell marks)) same)
  by_test false apart = keeps cell ∙ sym (ap (λ (b : Bool). cond b (joined (bin_of cell marks) m.bin) (bin_of cell marks)) apart)
