-- How a placement text is read, and what is refused (document 01, "The two texts" and "Numbers given back").
-- Assumes nothing.
use Rattle.std.specs.Prelude.{ℕ, zero, suc, ◌+◌, true, false, not, List, [], ◌∷◌, ◌++◌, length, leb}
use Rattle.std.proofs.Math.Option.{Option, none, some}
use Rattle.meaning.specs.Lists.{member}
use Rattle.meaning.specs.Placement.{Kind, held, barred, Order, Depot, depot, Placement, size, depot_size}
use Rattle.fields.specs.Bytes.{word_of, rest_of, same, word_end}
use Rattle.fields.specs.Number.{number_of}
use Rattle.fields.specs.Reader.{Step, got, refusal, Reader, next, ◌>>=◌, ◌>>◌, pure, unless, line, field, line_end, keyword, at_end, formed, number, running, numbered, lines}
use Rattle.placement_text.specs.Words.{word_placement, word_T, word_D, word_F, word_X, word_?}

-- ---- a number that may not have been received

-- a number of 0 to hi, or `?`
unfoldable pub or_missing : ℕ → ℕ → List ℕ → Reader (Option ℕ)
or_missing k hi w = elim (same w word_?) [
  | true ↦ pure none
  | false ↦ do
    v ← formed k (number_of w)
    unless 4 k (leb v hi)
    pure (some v)
]

unfoldable pub received : ℕ → ℕ → Reader (Option ℕ)
received k hi = field k >>= or_missing k hi

-- ---- a list

-- an entry of 1 to hi in the field k, and none of those seen on this line
unfoldable pub entry : ℕ → ℕ → List ℕ → Reader ℕ
entry k hi seen = do
  e ← number k 1 hi
  unless 5 k (not (member e seen))
  pure e

-- c entries from the field k on, after those seen on this line
unfoldable pub entries : ℕ → ℕ → ℕ → List ℕ → Reader (List ℕ)
entries zero k hi seen = pure seen
entries (suc c) k hi seen = do
  e ← entry k hi seen
  entries c (k + 1) hi (seen ++ e ∷ [])

-- what a side's lists may have together
abbrev pub MOST : ℕ
MOST = 4096

-- what follows a length
unfoldable pub listed : ℕ → ℕ → ℕ → Option ℕ → Reader (Option (List ℕ))
listed k hi total none = line_end (k + 1) >> pure none
listed k hi total (some c) = do
  unless 6 k (leb (total + c) MOST)
  es ← entries c (k + 1) hi []
  line_end (k + 1 + c)
  pure (some es)

-- length, entries and the line's end, the length in the field k; the side has `total` entries above
unfoldable pub list : ℕ → ℕ → ℕ → Reader (Option (List ℕ))
list k hi total = received k hi >>= listed k hi total

-- ---- the lines of the trainees and of the depots

unfoldable pub trainee_fields : ℕ → ℕ → ℕ → Reader (Option (List ℕ))
trainee_fields m i total = do
  numbered word_T i
  list 3 m total

-- trainee i stands on the line i + 1
unfoldable pub trainee_line : ℕ → ℕ → ℕ → Reader (Option (List ℕ))
trainee_line m i total = line (i + 1) (trainee_fields m i total)

-- posts and list of a depot
unfoldable pub depot_of : ℕ → ℕ → Reader Depot
depot_of n total = do
  ps ← received 3 256
  l ← list 4 n total
  pure (depot ps l)

unfoldable pub depot_fields : ℕ → ℕ → ℕ → Reader Depot
depot_fields n j total = do
  numbered word_D j
  depot_of n total

-- depot j stands on the line n + j + 1
unfoldable pub depot_line : ℕ → ℕ → ℕ → Reader Depot
depot_line n j total = line (n + j + 1) (depot_fields n j total)

-- ---- held and barred pairs, and the end

-- what a line below the depots is, by its word
pub data Opening : Type 0 where
  order : Kind → Opening
  ending : Opening
  other : Opening

unfoldable pub opening_of : List ℕ → Opening
opening_of w = elim (same w word_F) [
  | true ↦ order held
  | false ↦ elim (same w word_X) [ true ↦ order barred | false ↦ elim (same w word_end) [ true ↦ ending | false ↦ other ] ]
]

-- the fields of a held or barred pair, after its word
unfoldable pub order_fields : ℕ → ℕ → Kind → Reader Order
order_fields n m b = do
  i ← number 2 1 n
  j ← number 3 1 m
  line_end 4
  pure (record { kind = b; trainee = i; depot = j })

-- the fields of the end line, after its word
unfoldable pub end_fields : Reader (Unit {0})
end_fields = line_end 2

-- the end line, l, after its word; then nothing
unfoldable pub finish : ℕ → List Order → Reader (List Order)
finish l os = do
  line l end_fields
  at_end (l + 1)
  pure os

-- the lines from l on, with at most c more pairs, after the pairs read
unfoldable pub orders : ℕ → ℕ → ℕ → ℕ → List Order → Reader (List Order)
orders zero n m l os s = elim (opening_of (word_of s)) [
  | order b ↦ refusal 6 l 1
  | ending ↦ finish l os (rest_of s)
  | other ↦ refusal 3 l 1
]
orders (suc c) n m l os s = elim (opening_of (word_of s)) [
  | order b ↦ next (line l (order_fields n m b) (rest_of s)) (λ o. orders c n m (l + 1) (os ++ o ∷ []))
  | ending ↦ finish l os (rest_of s)
  | other ↦ refusal 3 l 1
]

-- ---- the whole text

pub record Head : Type 0 where
  pub edition : ℕ
  pub n : ℕ
  pub m : ℕ

-- the edition that this reader knows
unfoldable pub edition : Reader ℕ
edition = running 2 1 >> pure 1

-- n and m
unfoldable pub sizes : ℕ → Reader Head
sizes e = do
  n ← number 3 0 256
  m ← number 4 0 64
  line_end 5
  pure (record { edition = e; n = n; m = m })

unfoldable pub head_fields : Reader Head
head_fields = do
  keyword word_placement
  e ← edition
  sizes e

unfoldable pub body : Head → Reader Placement
body h = do
  ts ← lines (trainee_line h.m) size h.n 1 0 []
  ds ← lines (depot_line h.n) depot_size h.m 1 0 []
  os ← orders 1024 h.n h.m (h.n + h.m + 2) []
  pure (record { edition = h.edition; trainees = ts; depots = ds; orders = os })

unfoldable pub placement : Reader Placement
placement = line 1 head_fields >>= body

-- taken, or refused with a number, a line and a field; 0 where the refusal gives none
pub data Read : Type 0 where
  taken : Placement → Read
  refused : ℕ → ℕ → ℕ → Read

unfoldable pub outcome : Step Placement → Read
outcome (got p r) = taken p
outcome (refusal e l k) = refused e l k

unfoldable pub read_text : List ℕ → Read
read_text s = elim (leb (length s) 65536) [ true ↦ outcome (placement s) | false ↦ refused 2 0 0 ]
