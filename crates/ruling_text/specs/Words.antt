-- The words of the ruling text (document 01, "The two texts").
-- Assumes nothing.
use Rattle.std.specs.Prelude.{ℕ, List}
use Rattle.fields.specs.Bytes.{bytes_of}

abbrev pub word_ruling : List ℕ
word_ruling = bytes_of "ruling"

abbrev pub word_S : List ℕ
word_S = bytes_of "S"

abbrev pub word_A : List ℕ
word_A = bytes_of "A"

abbrev pub word_N : List ℕ
word_N = bytes_of "N"
