-- Number 1 of a ruling's parts, guard by guard, and what follows past it.
-- Assumes nothing.
use Prim.Native.Nat.{ℕ, ◌≤◌}
use mathlib.Core.Path.{◌≡◌, sym}
use mathlib.Core.Bool.{true, false}
use mathlib.Core.List.{List}
use lib.Dec.{leb}
use borrow.Author.Tests.{leb-true}
use Rattle.std.specs.Prelude.{Result, Ok, Err}
use Rattle.std.specs.Result.{MatchResult, is_ok}
use Rattle.meaning.specs.Numbers.{◌&◌}
use Rattle.meaning.proofs.Booleans.{and_left, and_right}
use Rattle.meaning.specs.declared.Fault.{Fault}
use Rattle.tables.specs.declared.Lent.{Lent}
use Rattle.tables.specs.Answers.{sized, Same}
use Rattle.tables.proofs.Receipts.{Sizes, sizes}
use Rattle.rulings.specs.Held.{roomy}

module _ (h e o : List ℕ) (cells room : ℕ) where
  pub part-short : sized h e o ≡ false → false ≡ roomy h e o cells room
  unfolding roomy ◌&◌
  part-short u = rw u

  pub table-short : sized h e o ≡ true → leb 256 cells ≡ false → false ≡ roomy h e o cells room
  unfolding roomy ◌&◌
  table-short k u = rw (k, u)

  pub record-long : sized h e o ≡ true → leb 256 cells ≡ true → leb 4096 room ≡ roomy h e o cells room
  unfolding roomy ◌&◌
  record-long k l = rw (k, l)

pub record LongParts (h e o : List ℕ) (cells : ℕ) : Type 0 where
  pub tables : Sizes h e o
  pub table : 256 ≤ cells

pub long-parts : (h e o : List ℕ) (cells room : ℕ) → roomy h e o cells room ≡ true → LongParts h e o cells
unfolding roomy
long-parts h e o cells room k = record { tables = sizes h e o (and_left _ _ k); table = leb-true _ _ (and_left _ _ (and_right (sized h e o) _ k)) }

-- tables are handed on exactly where there is room
pub ok-room : (h e o : List ℕ) (cells room : ℕ) (r : Result Lent Fault)
    → MatchResult r (λ t. Same t.heads.now t.entries.now t.orders.now h e o × (roomy h e o cells room ≡ true)) (λ f. (f ≡ Fault.ShortPart) × (roomy h e o cells room ≡ false)) → is_ok r ≡ roomy h e o cells room
ok-room h e o cells room (Ok t) m = sym m.1
ok-room h e o cells room (Err f) m = sym m.1
