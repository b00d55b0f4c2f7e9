-- What a pen's methods promise: the bytes that they put, and where the pen stands then.
-- Assumes nothing.
use Rattle.std.specs.Prelude.{ℕ, ◌+◌, ◌≤◌, ◌≡◌, List, length}
use Rattle.fields.specs.Leaves.{Put}
use Rattle.fields.specs.declared.pen.Pen.{Pen}

-- the bytes fit between the pen's position and the end of its output
abbrev pub Room : Pen → List ℕ → Type 0
Room p bytes = p.at + length bytes ≤ length p.out.now

-- the bytes stand in the same output from p's position on, no other cell has changed, and q's position is the one after them
pub record Wrote (p q : Pen) (bytes : List ℕ) : Type 0 where
  pub same : q.out.ghost_name ≡ p.out.ghost_name
  pub size : length q.out.now ≡ length p.out.now
  pub put : Put p.out.now q.out.now p.at bytes q.at
