-- The rule of the claim words, and what each step on them tells.
use Rattle.std.specs.Prelude.{◌≡◌, ℕ, ◌+◌, ◌-◌, ◌<◌, ◌≤◌, min, true, false, [], ◌∷◌, ◌++◌, length, slice_index, nat_lt, if◌then◌else◌}
use Rattle.atomic_table.specs.Table.{State, Me, Step}
use Rattle.dl_cells.specs.Views.{Each, total, bit, times, all_shares}
use Rattle.dl_cells.specs.declared.claimer.Given.{Given}
use Rattle.dl_cells.specs.declared.claim_words.View.{View}
use Rattle.dl_cells.specs.Claims.{given, given_of, refused_of}

-- of any one application, a view found none left at most once for each of its shares; and one with no share was given nothing
abbrev pub Fits : View → Type 0
Fits v = ((app : ℕ) → refused_of app v.refused ≤ v.shares) × (v.shares ≡ 0 → v.given ≡ [])

-- Each number below 64 and below a word was given once, and no other one. The rest of the word are claims that found none.
pub record Keeps (apps : ℕ) (s : State (Unit {0}) View) : Type 0 where
  pub words : length s.words ≡ apps
  pub once : (app : ℕ) → app < apps → (n : ℕ) → total (λ v. times n (given_of app v.given)) s.views ≡ bit (nat_lt n (min 64 (slice_index s.words app)))
  pub count : (app : ℕ) → app < apps → total (λ v. length (given_of app v.given)) s.views ≡ min 64 (slice_index s.words app)
  pub rest : (app : ℕ) → app < apps → slice_index s.words app ≡ min 64 (slice_index s.words app) + total (λ v. refused_of app v.refused) s.views
  pub shares : total (λ v. v.shares) s.views ≡ all_shares
  pub keeper : total (λ v. bit v.keeps) s.views ≡ 1
  pub fits : Each (λ _ v. Fits v) s.views

-- the first seat is the keeper's, and has all shares until there is a claimer
abbrev pub opening_view : View
opening_view = record { keeps = true; shares = all_shares; given = []; refused = [] }

abbrev pub claimer_view : ℕ → View
claimer_view shares = record { keeps = false; shares = shares; given = []; refused = [] }

-- what is left of a view that gave shares away
abbrev pub kept_view : View → ℕ → View
kept_view v shares = record v { shares = v.shares - shares }

abbrev pub joined_view : View → View → View
joined_view v w = record v { given = v.given ++ w.given; refused = v.refused ++ w.refused; shares = v.shares + w.shares }

abbrev pub with_given : View → Given → View
with_given v g = record v { given = v.given ++ g ∷ [] }

abbrev pub with_refused : View → ℕ → View
with_refused v app = record v { refused = v.refused ++ app ∷ [] }

-- a view after a claim of an application that found this in its word
abbrev pub claimed_view : ℕ → ℕ → View → View
claimed_view app found v = if nat_lt found 64 then with_given v (given app found) else with_refused v app

-- a fetch-and-add gives the number found, or finds none left
abbrev pub claims : Step (Unit {0}) → Me (Unit {0}) View → ℕ → Me (Unit {0}) View → Type 0
claims s before found after = (after.0 ≡ claimed_view s.word found before.0) × (after.1 ≡ before.1) × (length (given_of s.word after.0.given) ≤ 64)

-- what the keeper knows of an application of which so many numbers were given
pub record Knows (app : ℕ) (v : View) (seen : ℕ) : Type 0 where
  pub apart : (n : ℕ) → times n (given_of app v.given) ≤ bit (nat_lt n seen)
  pub few : length (given_of app v.given) ≤ seen
  pub all : v.shares ≡ all_shares → (n : ℕ) → times n (given_of app v.given) ≡ bit (nat_lt n seen)
  pub count : v.shares ≡ all_shares → length (given_of app v.given) ≡ seen
  pub full : 0 < refused_of app v.refused → seen ≡ 64

-- a load shows how many were given
abbrev pub looks : Step (Unit {0}) → Me (Unit {0}) View → ℕ → Me (Unit {0}) View → Type 0
looks s before found after = (after.0 ≡ before.0) × (after.1 ≡ before.1) × Knows s.word before.0 (min 64 found)
