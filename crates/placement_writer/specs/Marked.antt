-- The lines of a text that have a field `?`: where something was not received, as the text itself says it (document 01, "The two texts" and number 7).
-- Assumes nothing.
use Rattle.std.specs.Prelude.{ℕ, Bool, List}
use Rattle.meaning.specs.Lists.{some?}
use Rattle.meaning.specs.Full.{lines_where}
use Rattle.fields.specs.Bytes.{TAB, LF, same}
use Rattle.fields.specs.Parted.{parted}
use Rattle.placement_text.specs.Words.{word_?}

abbrev pub mark? : List ℕ → Bool
mark? w = same w word_?

-- one of the line's fields is `?`
unfoldable pub marked? : List ℕ → Bool
marked? line = some? mark? (parted TAB line)

-- such lines of a text, from the top; the first line of a text is line 1
unfoldable pub marked_lines : List ℕ → List ℕ
marked_lines s = lines_where marked? 1 (parted LF s)
