-- Two texts that agree on their first lines: the same bytes down to each of those lines' byte 10, or to the end of both texts.
-- Assumes nothing.
use Rattle.std.specs.Prelude.{ℕ, zero, suc, ◌≡◌, List, [], ◌∷◌}
use Rattle.fields.specs.Bytes.{LF}

pub data Agree : ℕ → List ℕ → List ℕ → Type 0 where
  no_line : {s s' : List ℕ} → Agree zero s s'
  both_end : {k : ℕ} → Agree (suc k) [] []
  line_ends : {k b : ℕ} {s s' : List ℕ} → b ≡ LF → Agree k s s' → Agree (suc k) (b ∷ s) (b ∷ s')
  same_byte : {k b : ℕ} {s s' : List ℕ} → (b ≡ LF → ⊥) → Agree (suc k) s s' → Agree (suc k) (b ∷ s) (b ∷ s')
