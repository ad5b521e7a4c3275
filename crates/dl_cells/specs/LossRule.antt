-- The rule of the loss words, and what each step on them tells.
use Rattle.std.specs.Prelude.{◌≡◌, ℕ, ◌+◌, ◌-◌, ◌*◌, ◌^◌, ◌<◌, ◌≤◌, true, false, [], ◌∷◌, ◌++◌, length, slice_index}
use Rattle.atomic_table.specs.Table.{State, Me, Step}
use Rattle.dl_cells.specs.Views.{Each, total, bit, all_shares}
use Rattle.dl_cells.specs.declared.loss_keeper.Report.{Report}
use Rattle.dl_cells.specs.declared.loss_words.View.{View}
use Rattle.dl_cells.specs.Losses.{report, counted_of, reported_of}

-- a view counted at most 2^40 for each of its shares, and the keeper's alone has reports
abbrev pub Fits : View → Type 0
Fits v = (length v.counted ≤ v.shares * 2 ^ 40) × (v.keeps ≡ false → v.reported ≡ [])

-- what a word holds and what was reported is what was counted
pub record Keeps (apps : ℕ) (s : State (Unit {0}) View) : Type 0 where
  pub words : length s.words ≡ apps
  pub balance : (app : ℕ) → app < apps → slice_index s.words app + total (λ v. reported_of app v.reported) s.views ≡ total (λ v. counted_of app v.counted) s.views
  pub shares : total (λ v. v.shares) s.views ≡ all_shares
  pub keeper : total (λ v. bit v.keeps) s.views ≡ 1
  pub fits : Each (λ _ v. Fits v) s.views

-- the first seat is the keeper's, and has all shares until there is a writer
abbrev pub opening_view : View
opening_view = record { keeps = true; shares = all_shares; counted = []; reported = [] }

abbrev pub writer_view : ℕ → View
writer_view shares = record { keeps = false; shares = shares; counted = []; reported = [] }

-- what is left of a view that gave shares away
abbrev pub kept_view : View → ℕ → View
kept_view v given = record v { shares = v.shares - given }

abbrev pub joined_view : View → View → View
joined_view v w = record v { counted = v.counted ++ w.counted; shares = v.shares + w.shares }

abbrev pub with_count : View → ℕ → View
with_count v app = record v { counted = v.counted ++ app ∷ [] }

abbrev pub with_report : View → Report → View
with_report v r = record v { reported = v.reported ++ r ∷ [] }

-- a fetch-and-add counts a loss
abbrev pub counts : Step (Unit {0}) → Me (Unit {0}) View → ℕ → Me (Unit {0}) View → Type 0
counts s before found after = (after.0 ≡ with_count before.0 s.word) × (after.1 ≡ before.1)

-- what the keeper knows of an application at a step where so many are reported or wait
abbrev pub Knows : ℕ → View → ℕ → Type 0
Knows app v seen = (counted_of app v.counted ≤ seen) × (v.shares ≡ all_shares → seen ≡ counted_of app v.counted) × (seen < 2 ^ 47)

-- a swap to 0 reports what it found
abbrev pub takes : Step (Unit {0}) → Me (Unit {0}) View → ℕ → Me (Unit {0}) View → Type 0
takes s before found after = (after.0 ≡ with_report before.0 (report s.word found)) × (after.1 ≡ before.1) × Knows s.word before.0 (reported_of s.word after.0.reported)

-- a load shows what waits
abbrev pub looks : Step (Unit {0}) → Me (Unit {0}) View → ℕ → Me (Unit {0}) View → Type 0
looks s before found after = (after.0 ≡ before.0) × (after.1 ≡ before.1) × Knows s.word before.0 (reported_of s.word before.0.reported + found)
