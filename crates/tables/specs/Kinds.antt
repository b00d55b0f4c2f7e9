-- The kinds of orders, and the cells that stand for them. Assumes nothing.
use Rattle.std.specs.Prelude.{ℕ, ◌≡◌, ◌<◌, Option, Result, MatchOption, MatchResult}
use Rattle.tables.specs.declared.Kind.{Kind}
use Rattle.tables.specs.declared.Kind.TheVariants.{Held, Barred}
use Rattle.tables.specs.declared.UnknownKind.{UnknownKind}

-- the cell of each
abbrev pub cell_of : Kind → ℕ
cell_of Held = 0
cell_of Barred = 1

-- the kind with that cell, or an error with a cell that no kind has
abbrev pub Stands : ℕ → Result Kind UnknownKind → Type 0
Stands v r = MatchResult r (λ k. cell_of k ≡ v) (λ e. (e.0 ≡ v) × (1 < v))

-- the answer to what a cell gives: its kind, or none where no kind has it
abbrev pub KindGives : ℕ → Option Kind → Type 0
KindGives v r = MatchOption r (1 < v) (λ k. cell_of k ≡ v)
