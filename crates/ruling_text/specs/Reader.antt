-- How a ruling text is read, and what is refused (document 01, "The two texts" and "Numbers given back").
-- Assumes nothing.
use Rattle.std.specs.Prelude.{ℕ, zero, suc, ◌+◌, true, false, List, [], length, leb, eqb}
use Rattle.meaning.specs.Endings.{Outcome, placed_by, none_held, none_room}
use Rattle.meaning.specs.Solver.{WholeRuling}
use Rattle.meaning.specs.declared.Reason.{Reason}
use Rattle.meaning.specs.declared.Reason.TheVariants.{Barred, HeldElsewhere, PostsGone, Passed}
use Rattle.meaning.specs.declared.Strike.{Strike}
use Rattle.fields.specs.Bytes.{word_of, rest_of, same, word_end}
use Rattle.fields.specs.Reader.{Step, got, refusal, Reader, ◌>>=◌, ◌>>◌, pure, line, line_end, keyword, at_end, number, running, lines}
use Rattle.ruling_text.specs.Words.{word_ruling, word_S, word_A, word_N}
use Rattle.rulings.specs.Legal.{DEPOTS, STRIKES}

-- ---- a pair

pub record Pair : Type 0 where
  pub trainee : ℕ
  pub depot : ℕ

-- a trainee of 1 to n in the field k, and a depot in the next
unfoldable pub pair : ℕ → ℕ → Reader Pair
pair k n = do
  i ← number k 1 n
  j ← number (k + 1) 1 DEPOTS
  pure (record { trainee = i; depot = j })

-- ---- a strike

-- the range of the witness, by the reason's number: 0 for reasons 1 and 3, a depot for reason 2, a trainee for reason 4
unfoldable pub low_witness : ℕ → ℕ
low_witness k = elim (eqb k 2) [ true ↦ 1 | false ↦ elim (eqb k 4) [ true ↦ 1 | false ↦ 0 ] ]

unfoldable pub high_witness : ℕ → ℕ → ℕ
high_witness n k = elim (eqb k 2) [ true ↦ DEPOTS | false ↦ elim (eqb k 4) [ true ↦ n | false ↦ 0 ] ]

-- the reason of a number of 1 to 4, with its witness; no other number is read
unfoldable pub reason_of : ℕ → ℕ → Reason
reason_of zero w = Barred
reason_of (suc zero) w = Barred
reason_of (suc (suc zero)) w = HeldElsewhere w
reason_of (suc (suc (suc zero))) w = PostsGone
reason_of (suc (suc (suc (suc k)))) w = Passed w

-- reason and witness
unfoldable pub reason : ℕ → Reader Reason
reason n = do
  k ← number 4 1 4
  w ← number 5 (low_witness k) (high_witness n k)
  pure (reason_of k w)

unfoldable pub strike_fields : ℕ → Reader Strike
strike_fields n = do
  keyword word_S
  p ← pair 2 n
  r ← reason n
  line_end 6
  pure (record { trainee = p.trainee; depot = p.depot; reason = r })

-- strike k stands on the line k + 1
unfoldable pub strike_line : ℕ → ℕ → ℕ → Reader Strike
strike_line n k total = line (k + 1) (strike_fields n)

-- neither strikes nor the cells of a table have a limit together
unfoldable pub weightless : {A : Type 0} → A → ℕ
weightless a = 0

-- ---- the table, or why there is none

-- the depot of trainee i, 0 for none
unfoldable pub cell_fields : ℕ → Reader ℕ
cell_fields i = do
  keyword word_A
  running 2 i
  j ← number 3 0 DEPOTS
  line_end 4
  pure j

-- after s strikes trainee i stands on the line s + i + 1
unfoldable pub cell_line : ℕ → ℕ → ℕ → Reader ℕ
cell_line s i total = line (s + i + 1) (cell_fields i)

unfoldable pub none_of : ℕ → Pair → Outcome
none_of k p = elim (eqb k 1) [ true ↦ none_held p.trainee p.depot | false ↦ none_room p.trainee p.depot ]

-- kind, trainee and depot, after the word
unfoldable pub none_fields : ℕ → Reader Outcome
none_fields n = do
  k ← number 2 1 2
  p ← pair 3 n
  line_end 5
  pure (none_of k p)

unfoldable pub table : ℕ → ℕ → Reader Outcome
table n s = do
  l ← lines (cell_line s) weightless n 1 0 []
  pure (placed_by l)

-- the first word after s strikes says whether there is a table
unfoldable pub outcome : ℕ → ℕ → Reader Outcome
outcome n s t = elim (same (word_of t) word_N) [ true ↦ line (s + 2) (none_fields n) (rest_of t) | false ↦ table n s t ]

-- ---- the whole text

-- how many lines an outcome has
unfoldable pub lines_of : Outcome → ℕ
lines_of (placed_by l) = length l
lines_of (none_held i j) = 1
lines_of (none_room i j) = 1

unfoldable pub end_fields : Reader (Unit {0})
end_fields = keyword word_end >> line_end 2

-- the end line, l; then nothing
unfoldable pub finish : ℕ → Reader (Unit {0})
finish l = line l end_fields >> at_end (l + 1)

-- all that follows s strikes
unfoldable pub conclusion : ℕ → ℕ → Reader Outcome
conclusion n s = do
  o ← outcome n s
  finish (s + lines_of o + 2)
  pure o

-- the number of trainees and the number of strikes
pub record Head : Type 0 where
  pub n : ℕ
  pub s : ℕ

unfoldable pub sizes : Reader Head
sizes = do
  n ← number 3 0 256
  s ← number 4 0 STRIKES
  line_end 5
  pure (record { n = n; s = s })

unfoldable pub head_fields : Reader Head
head_fields = do
  keyword word_ruling
  running 2 1
  sizes

unfoldable pub body : Head → Reader WholeRuling
body h = do
  xs ← lines (strike_line h.n) weightless h.s 1 0 []
  o ← conclusion h.n h.s
  pure (record { trainees = h.n; strikes = xs; outcome = o })

unfoldable pub ruling : Reader WholeRuling
ruling = line 1 head_fields >>= body

-- taken, or refused with a number, a line and a field; 0 where the refusal gives none
pub data Read : Type 0 where
  taken : WholeRuling → Read
  refused : ℕ → ℕ → ℕ → Read

unfoldable pub answer : Step WholeRuling → Read
answer (got r rest) = taken r
answer (refusal e l k) = refused e l k

unfoldable pub read_ruling : List ℕ → Read
read_ruling s = elim (leb (length s) 65536) [ true ↦ answer (ruling s) | false ↦ refused 2 0 0 ]
