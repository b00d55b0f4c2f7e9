-- How a text is read: lines from the top, fields left to right, and the first thing found wrong is the answer (document 01, "Numbers given back").
-- A reader takes the bytes that are left. It gives a value with what is left after it, or a refusal: its number, line and field.
-- A field is read with the byte before it, so a missing field is found at its place, and an extra one or a missing byte 10 after the last.
-- Assumes nothing.
use Rattle.std.specs.Prelude.{ℕ, zero, suc, ◌+◌, Bool, true, false, List, [], ◌∷◌, ◌++◌, leb, eqb}
use Rattle.std.proofs.Math.Option.{Option, none, some}
use Rattle.meaning.specs.Numbers.{◌&◌}
use Rattle.fields.specs.Bytes.{TAB, LF, same, word_of, rest_of}
use Rattle.fields.specs.Number.{number_of}

pub data Step (A : Type 0) : Type 0 where
  got : A → List ℕ → Step A
  refusal : ℕ → ℕ → ℕ → Step A

abbrev pub Reader : Type 0 → Type 0
Reader A = List ℕ → Step A

-- ---- one reader after another

abbrev pub next : {A B : Type 0} → Step A → (A → Reader B) → Step B
next (got a r) f = f a r
next (refusal e l k) f = refusal e l k

infixl 20 ◌>>=◌
abbrev pub ◌>>=◌ : {A B : Type 0} → Reader A → (A → Reader B) → Reader B
◌>>=◌ p f s = next (p s) f

infixl 20 ◌>>◌
abbrev pub ◌>>◌ : {A B : Type 0} → Reader A → Reader B → Reader B
◌>>◌ p q s = next (p s) (λ _ r. q r)

abbrev pub pure : {A : Type 0} → A → Reader A
pure a s = got a s

-- refused e at the field k; which line it is says `line`
abbrev pub refuse : {A : Type 0} → ℕ → ℕ → Reader A
refuse e k s = refusal e 0 k

-- refused e at the field k unless the test holds
unfoldable pub unless : ℕ → ℕ → Bool → Reader (Unit {0})
unless e k true = pure tt
unless e k false = refuse e k

abbrev pub on_line : {A : Type 0} → ℕ → Step A → Step A
on_line l (got a r) = got a r
on_line l (refusal e _ k) = refusal e l k

-- what is refused here is refused on line l
abbrev pub line : {A : Type 0} → ℕ → Reader A → Reader A
line l p s = on_line l (p s)

-- ---- words

-- the first field of a line
unfoldable pub first : Reader (List ℕ)
first s = got (word_of s) (rest_of s)

-- the field k of a line, after its tab; without one the field is missing
unfoldable pub field : ℕ → Reader (List ℕ)
field k [] = refusal 3 0 k
field k (b ∷ s) = elim (eqb b TAB) [ true ↦ first s | false ↦ refusal 3 0 k ]

-- the line's end in the place of a field k; a tab there begins an extra field
unfoldable pub line_end : ℕ → Reader (Unit {0})
line_end k [] = refusal 3 0 k
line_end k (b ∷ s) = elim (eqb b LF) [ true ↦ got tt s | false ↦ refusal 3 0 k ]

-- the word that a line begins with
unfoldable pub keyword : List ℕ → Reader (Unit {0})
keyword w = first >>= λ v. unless 3 1 (same v w)

-- nothing follows the last line, so that the line l is an extra one
unfoldable pub at_end : ℕ → Reader (Unit {0})
at_end l [] = got tt []
at_end l (b ∷ s) = refusal 3 l 1

-- ---- numbers

unfoldable pub formed : {A : Type 0} → ℕ → Option A → Reader A
formed k (some a) = pure a
formed k none = refuse 3 k

-- a number in the field k
unfoldable pub figure : ℕ → Reader ℕ
figure k = field k >>= λ w. formed k (number_of w)

-- a number of lo to hi in the field k
unfoldable pub number : ℕ → ℕ → ℕ → Reader ℕ
number k lo hi = do
  v ← figure k
  unless 4 k (leb lo v & leb v hi)
  pure v

-- the number v in the field k: an edition, a running number
unfoldable pub running : ℕ → ℕ → Reader (Unit {0})
running k v = do
  u ← figure k
  unless 3 k (eqb u v)

-- the word and the running number that a line begins with
unfoldable pub numbered : List ℕ → ℕ → Reader (Unit {0})
numbered w i = keyword w >> running 2 i

-- ---- lines of one kind

-- c lines of the numbers i, i + 1, .. after those read, xs; `one` reads a line given its number and the total of the lines above,
-- and `weight` is what a line adds to that total
unfoldable pub lines : {A : Type 0} → (ℕ → ℕ → Reader A) → (A → ℕ) → ℕ → ℕ → ℕ → List A → Reader (List A)
lines one weight zero i total xs = pure xs
lines one weight (suc c) i total xs = do
  x ← one i total
  lines one weight c (i + 1) (total + weight x) (xs ++ x ∷ [])
