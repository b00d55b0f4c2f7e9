-- How a placement is written (document 01, "The two texts").
-- Assumes nothing.
use Rattle.std.specs.Prelude.{ℕ, List, [], ◌∷◌, ◌++◌, length}
use Rattle.std.proofs.Math.Option.{Option, none, some}
use Rattle.meaning.specs.Placement.{Order, Depot, depot, Placement}
use Rattle.fields.specs.Bytes.{TAB, LF, word_end}
use Rattle.fields.specs.Number.{digits_of}
use Rattle.fields.specs.Writer.{write_number, write_lines}
use Rattle.placement_text.specs.Words.{word_placement, word_T, word_D, word_?, letter}

-- a number, or `?` where none was received
unfoldable pub or_mark : Option ℕ → List ℕ
or_mark none = word_?
or_mark (some v) = digits_of v

unfoldable pub write_received : Option ℕ → List ℕ
write_received o = TAB ∷ or_mark o

unfoldable pub write_entries : List ℕ → List ℕ
write_entries [] = []
write_entries (e ∷ es) = write_number e ++ write_entries es

-- length and entries; after a length `?` nothing follows
unfoldable pub write_list : Option (List ℕ) → List ℕ
write_list none = write_received none
write_list (some es) = write_received (some (length es)) ++ write_entries es

unfoldable pub write_trainee : ℕ → Option (List ℕ) → List ℕ
write_trainee i l = word_T ++ write_number i ++ write_list l ++ LF ∷ []

unfoldable pub write_depot : ℕ → Depot → List ℕ
write_depot j (depot ps l) = word_D ++ write_number j ++ write_received ps ++ write_list l ++ LF ∷ []

unfoldable pub write_order : Order → List ℕ
write_order o = letter o.kind ++ write_number o.trainee ++ write_number o.depot ++ LF ∷ []

unfoldable pub write_orders : List Order → List ℕ
write_orders [] = []
write_orders (o ∷ os) = write_order o ++ write_orders os

unfoldable pub write_head : ℕ → ℕ → ℕ → List ℕ
write_head e n m = word_placement ++ write_number e ++ write_number n ++ write_number m ++ LF ∷ []

-- the lines above the end line
unfoldable pub above_end : Placement → List ℕ
above_end p =
    write_head p.edition (length p.trainees) (length p.depots)
    ++ write_lines write_trainee 1 p.trainees
    ++ write_lines write_depot 1 p.depots
    ++ write_orders p.orders

-- the end line
abbrev pub write_end : List ℕ
write_end = word_end ++ LF ∷ []

unfoldable pub text_of : Placement → List ℕ
text_of p = above_end p ++ write_end
