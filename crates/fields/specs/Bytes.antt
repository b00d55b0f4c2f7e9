-- How a text is cut: lines end in byte 10, fields are parted by byte 9 (document 01, "The two texts").
-- Assumes nothing.
use Rattle.std.specs.Prelude.{ℕ, Bool, true, false, List, [], ◌∷◌, eqb}
use Prim.Native.Char.{code}
use Prim.Native.String.{String, [] as nothing, ◌∷◌ as ◌before◌}
use Rattle.meaning.specs.Numbers.{◌&◌}

abbrev pub TAB : ℕ
TAB = 9

abbrev pub LF : ℕ
LF = 10

-- the bytes of a word as it is spelled
abbrev pub bytes_of : String → List ℕ
bytes_of nothing = []
bytes_of (c before s) = code c ∷ bytes_of s

-- the word of the last line of both texts
abbrev pub word_end : List ℕ
word_end = bytes_of "end"

-- a byte that parts two fields or ends a line
unfoldable pub stop? : ℕ → Bool
stop? b = elim (eqb b TAB) [ true ↦ true | false ↦ eqb b LF ]

-- the bytes before the next of these
unfoldable pub word_of : List ℕ → List ℕ
word_of [] = []
word_of (b ∷ s) = elim (stop? b) [ true ↦ [] | false ↦ b ∷ word_of s ]

-- what is left from there
unfoldable pub rest_of : List ℕ → List ℕ
rest_of [] = []
rest_of (b ∷ s) = elim (stop? b) [ true ↦ b ∷ s | false ↦ rest_of s ]

-- two words are the same
unfoldable pub same : List ℕ → List ℕ → Bool
same [] [] = true
same [] (y ∷ ys) = false
same (x ∷ xs) [] = false
same (x ∷ xs) (y ∷ ys) = eqb x y & same xs ys
