-- Texts as the examples show them.
-- Assumes nothing.
use Rattle.std.specs.Prelude.{ℕ, true, false, List, [], ◌∷◌, eqb}
use Prim.Native.Char.{code}
use Prim.Native.String.{String, [] as nothing, ◌∷◌ as ◌before◌}
use Rattle.fields.specs.Bytes.{TAB, LF}

-- spaces stand for tabs, and `/` for byte 10
abbrev pub byte_shown : ℕ → ℕ
byte_shown b = elim (eqb b 32) [ true ↦ TAB | false ↦ elim (eqb b 47) [ true ↦ LF | false ↦ b ] ]

abbrev pub shown : String → List ℕ
shown nothing = []
shown (c before s) = byte_shown (code c) ∷ shown s
