-- The words of the placement text (document 01, "The two texts").
-- Assumes nothing.
use Rattle.std.specs.Prelude.{ℕ, List}
use Rattle.meaning.specs.Placement.{Kind, held, barred}
use Rattle.fields.specs.Bytes.{bytes_of}

abbrev pub word_placement : List ℕ
word_placement = bytes_of "placement"

abbrev pub word_T : List ℕ
word_T = bytes_of "T"

abbrev pub word_D : List ℕ
word_D = bytes_of "D"

abbrev pub word_F : List ℕ
word_F = bytes_of "F"

abbrev pub word_X : List ℕ
word_X = bytes_of "X"

-- not received
abbrev pub word_? : List ℕ
word_? = bytes_of "?"

-- the word of a held or a barred pair
unfoldable pub letter : Kind → List ℕ
letter held = word_F
letter barred = word_X
