-- What the reader answers and the writer writes on small texts, on each refusal and at the limits: computed.
-- Assumes nothing.
use Rattle.std.specs.Prelude.{ℕ, ◌≡◌, refl, Bool, true, false, List, [], ◌∷◌, map, length, replicate}
use Prim.Native.String.{String}
use Rattle.meaning.specs.Numbers.{◌&◌}
use Rattle.meaning.specs.Answers.{reason_number, reason_witness, strike_numbers}
use Rattle.meaning.specs.Endings.{Outcome, placed_by, none_held, none_room}
use Rattle.meaning.specs.Solver.{WholeRuling}
use Rattle.meaning.specs.declared.Reason.{Reason}
use Rattle.meaning.specs.declared.Reason.TheVariants.{Barred, HeldElsewhere, PostsGone, Passed}
use Rattle.meaning.specs.declared.Strike.{Strike}
use Rattle.fields.specs.Bytes.{stop?, word_of, rest_of, same}
use Rattle.fields.specs.Number.{digits, digits_of, digit?, value, leads, number_of}
use Rattle.fields.specs.Reader.{unless, first, field, line_end, keyword, at_end, formed, figure, number, running, lines}
use Rattle.fields.specs.Writer.{write_number, write_lines}
use Rattle.fields.specs.Shown.{shown}
use Rattle.rulings.specs.Legal.{every?, in?, legal_reason?, legal_strike?, legal_outcome?, legal_ruling?}
use Rattle.fields.specs.Writer.{write_numbers, write_line}
use Rattle.ruling_text.specs.Writer.{write_strike, write_cell, write_none, write_outcome, write_head, ruling_text}
use Rattle.ruling_text.specs.Reader.{pair, low_witness, high_witness, reason_of, reason, strike_fields, strike_line, weightless, cell_fields, cell_line, none_of, none_fields, table, outcome, lines_of, end_fields, finish, conclusion, sizes, head_fields, body, ruling, Read, taken, refused, answer, read_ruling}

ruling_of : ℕ → List Strike → Outcome → WholeRuling
ruling_of n xs o = record { trainees = n; strikes = xs; outcome = o }

strike : ℕ → ℕ → Reason → Strike
strike i j r = record { trainee = i; depot = j; reason = r }

read : List ℕ → Read
unfolding ◌&◌ stop? word_of rest_of same digit? value leads number_of unless first field line_end keyword at_end formed figure number running lines pair low_witness high_witness reason_of reason strike_fields strike_line weightless cell_fields cell_line none_of none_fields table outcome lines_of end_fields finish conclusion sizes head_fields body ruling answer read_ruling
read s = read_ruling s

write : WholeRuling → List ℕ
unfolding reason_number reason_witness digits digits_of write_number write_lines write_numbers write_line strike_numbers write_strike write_cell write_none write_outcome write_head ruling_text
write r = ruling_text r

-- ---- texts that are taken, and the rulings that they say

infix 5 ◌says◌
data Said : Type 0 where
  ◌says◌ : String → WholeRuling → Said

said : List Said
said =
    -- no trainees
    ("ruling 1 0 0/end/" says ruling_of 0 [] (placed_by []))
    -- the whole case of document 01
    ∷ ("ruling 1 3 3/S 1 1 3 0/S 2 2 3 0/S 3 1 3 0/A 1 2/A 2 1/A 3 0/end/"
    says ruling_of 3 (strike 1 1 PostsGone ∷ strike 2 2 PostsGone ∷ strike 3 1 PostsGone ∷ []) (placed_by (2 ∷ 1 ∷ 0 ∷ [])))
    -- none, of each kind
    ∷ ("ruling 1 1 2/S 1 1 2 2/S 1 2 2 1/N 1 1 1/end/"
    says ruling_of 1 (strike 1 1 (HeldElsewhere 2) ∷ strike 1 2 (HeldElsewhere 1) ∷ []) (none_held 1 1))
    ∷ ("ruling 1 2 2/S 1 1 1 0/S 2 1 4 1/N 2 1 1/end/" says ruling_of 2 (strike 1 1 Barred ∷ strike 2 1 (Passed 1) ∷ []) (none_room 1 1))
    -- at the ends of the ranges; a pair struck twice, and a witness that is the pair's own, are left to the checker
    ∷ ("ruling 1 1 0/A 1 64/end/" says ruling_of 1 [] (placed_by (64 ∷ [])))
    ∷ ("ruling 1 256 1/S 256 64 4 256/N 2 256 64/end/" says ruling_of 256 (strike 256 64 (Passed 256) ∷ []) (none_room 256 64))
    ∷ ("ruling 1 1 2/S 1 64 2 64/S 1 64 1 0/N 1 1 64/end/"
    says ruling_of 1 (strike 1 64 (HeldElsewhere 64) ∷ strike 1 64 Barred ∷ []) (none_held 1 64))
    ∷ []

text_said : Said → List ℕ
text_said (t says r) = shown t

ruling_said : Said → WholeRuling
ruling_said (t says r) = r

texts_taken : map (λ x. read (text_said x)) said ≡ map (λ x. taken (ruling_said x)) said
unfolding said text_said ruling_said read ruling_of strike
texts_taken = refl

texts_written : map (λ x. write (ruling_said x)) said ≡ map text_said said
unfolding said text_said ruling_said write ruling_of strike
texts_written = refl

-- ---- texts that are refused

infix 5 ◌gives◌
data Case : Type 0 where
  ◌gives◌ : String → Read → Case

cases : List Case
cases =
    -- a missing line, or an extra one
    ("" gives refused 3 1 1)
    ∷ ("ruling 1 0 0/" gives refused 3 2 1)
    ∷ ("ruling 1 1 1/S 1 1 1 0/" gives refused 3 3 1)
    ∷ ("ruling 1 1 1/A 1 0/end/" gives refused 3 2 1)
    ∷ ("ruling 1 1 0/S 1 1 1 0/A 1 0/end/" gives refused 3 2 1)
    ∷ ("ruling 1 2 0/A 1 0/end/" gives refused 3 3 1)
    ∷ ("ruling 1 1 0/A 1 0/A 2 0/end/" gives refused 3 3 1)
    ∷ ("ruling 1 1 0/A 1 0/" gives refused 3 3 1)
    ∷ ("ruling 1 1 0/N 1 1 1/N 1 1 1/end/" gives refused 3 3 1)
    ∷ ("ruling 1 1 0/end/" gives refused 3 2 1)
    ∷ ("ruling 1 0 0/end//" gives refused 3 3 1)
    ∷ ("ruling 1 0 0/end/x" gives refused 3 3 1)
    ∷ ("ruling 1 1 0/N 1 1 1/end/x" gives refused 3 4 1)
    ∷ ("ruling 1 0 0//end/" gives refused 3 2 1)
    -- once the first is `A`, all are; with no trainees it is none
    ∷ ("ruling 1 2 0/A 1 0/N 1 1 1/end/" gives refused 3 3 1)
    ∷ ("ruling 1 1 0/N 1 1 1/A 1 0/end/" gives refused 3 3 1)
    ∷ ("ruling 1 0 0/A 1 0/end/" gives refused 3 2 1)
    ∷ ("ruling 1 1 0/B 1 0/end/" gives refused 3 2 1)
    -- a last line without byte 10: its own fields come first
    ∷ ("ruling 1 0 0" gives refused 3 1 5)
    ∷ ("ruling 1 0 0/end" gives refused 3 2 2)
    ∷ ("ruling 1 1 1/S 1 1 1 0" gives refused 3 2 6)
    ∷ ("ruling 1 1 1/S 1 1 1 1" gives refused 4 2 5)
    -- digits, words, editions and running numbers
    ∷ ("ruling 1 01 0/end/" gives refused 3 1 3)
    ∷ ("ruling 1 0 100000/end/" gives refused 3 1 4)
    ∷ ("ruling 1 1 1/S 1 1 ? 0/A 1 0/end/" gives refused 3 2 4)
    ∷ ("ruling 1 1 1/S 1 1 1 /A 1 0/end/" gives refused 3 2 5)
    ∷ ("placement 1 0 0/end/" gives refused 3 1 1)
    ∷ ("ruling 2 0 0/end/" gives refused 3 1 2)
    ∷ ("ruling 1 1 0/A 2 0/end/" gives refused 3 2 2)
    ∷ ("ruling 1 1 0/A 0 0/end/" gives refused 3 2 2)
    -- too few fields, or too many
    ∷ ("ruling 1 0/end/" gives refused 3 1 4)
    ∷ ("ruling 1 0 0 0/end/" gives refused 3 1 5)
    ∷ ("ruling 1 1 1/S 1 1 1/A 1 0/end/" gives refused 3 2 5)
    ∷ ("ruling 1 1 1/S 1 1 1 0 0/A 1 0/end/" gives refused 3 2 6)
    ∷ ("ruling 1 1 0/A 1/end/" gives refused 3 2 3)
    ∷ ("ruling 1 1 0/A 1 0 0/end/" gives refused 3 2 4)
    ∷ ("ruling 1 1 0/N 1 1/end/" gives refused 3 2 4)
    ∷ ("ruling 1 1 0/N 1 1 1 1/end/" gives refused 3 2 5)
    ∷ ("ruling 1 0 0/end x/" gives refused 3 2 2)
    -- a number outside its range
    ∷ ("ruling 1 257 x/" gives refused 4 1 3)
    ∷ ("ruling 1 0 4097/" gives refused 4 1 4)
    ∷ ("ruling 1 2 1/S 0 1 1 0/" gives refused 4 2 2)
    ∷ ("ruling 1 2 1/S 3 1 1 0/" gives refused 4 2 2)
    ∷ ("ruling 1 0 1/S 1 1 1 0/" gives refused 4 2 2)
    ∷ ("ruling 1 2 1/S 2 0 1 0/" gives refused 4 2 3)
    ∷ ("ruling 1 2 1/S 2 65 1 0/" gives refused 4 2 3)
    ∷ ("ruling 1 2 1/S 2 64 0 0/" gives refused 4 2 4)
    ∷ ("ruling 1 2 1/S 2 64 5 0/" gives refused 4 2 4)
    -- a witness that the reason doesn't have
    ∷ ("ruling 1 2 1/S 2 64 1 1/" gives refused 4 2 5)
    ∷ ("ruling 1 2 1/S 2 64 3 1/" gives refused 4 2 5)
    ∷ ("ruling 1 2 1/S 2 64 2 0/" gives refused 4 2 5)
    ∷ ("ruling 1 2 1/S 2 64 2 65/" gives refused 4 2 5)
    ∷ ("ruling 1 2 1/S 2 64 4 0/" gives refused 4 2 5)
    ∷ ("ruling 1 2 1/S 2 64 4 3/" gives refused 4 2 5)
    -- in the table, and where there is none
    ∷ ("ruling 1 1 0/A 1 65/end/" gives refused 4 2 3)
    ∷ ("ruling 1 2 1/S 1 1 1 0/A 1 0/A 2 65/end/" gives refused 4 4 3)
    ∷ ("ruling 1 1 0/N 0 1 1/end/" gives refused 4 2 2)
    ∷ ("ruling 1 1 0/N 3 1 1/end/" gives refused 4 2 2)
    ∷ ("ruling 1 1 0/N 1 2 1/end/" gives refused 4 2 3)
    ∷ ("ruling 1 1 0/N 1 1 65/end/" gives refused 4 2 4)
    ∷ ("ruling 1 0 0/N 1 1 1/end/" gives refused 4 2 3)
    ∷ []

text_given : Case → List ℕ
text_given (t gives r) = shown t

wanted : Case → Read
wanted (t gives r) = r

texts_refused : map (λ c. read (text_given c)) cases ≡ map wanted cases
unfolding cases text_given wanted read
texts_refused = refl

-- ---- at the limits

text_too_long : read (replicate 65537 120) ≡ refused 2 0 0
unfolding read
text_too_long = refl

-- the most strikes, each as long as a strike can be, and then the longest table
longest : WholeRuling
longest = ruling_of 256 (replicate 4096 (strike 256 64 (Passed 256))) (placed_by (replicate 256 64))

longest_length : length (write longest) ≡ 63658
unfolding longest write ruling_of strike
longest_length = refl

-- ---- rulings in memory

legal : WholeRuling → Bool
unfolding ◌&◌ every? in? legal_reason? legal_strike? legal_outcome? legal_ruling?
legal r = legal_ruling? r

not_legal : List WholeRuling
not_legal =
    ruling_of 257 [] (none_held 1 1)
    ∷ ruling_of 2 (strike 0 1 Barred ∷ []) (none_held 1 1)
    ∷ ruling_of 2 (strike 3 1 Barred ∷ []) (none_held 1 1)
    ∷ ruling_of 2 (strike 1 0 Barred ∷ []) (none_held 1 1)
    ∷ ruling_of 2 (strike 1 65 Barred ∷ []) (none_held 1 1)
    ∷ ruling_of 2 (strike 1 1 (HeldElsewhere 65) ∷ []) (none_held 1 1)
    ∷ ruling_of 2 (strike 1 1 (Passed 3) ∷ []) (none_held 1 1)
    ∷ ruling_of 2 (replicate 4097 (strike 1 1 Barred)) (none_held 1 1)
    ∷ ruling_of 2 [] (placed_by (0 ∷ []))
    ∷ ruling_of 2 [] (placed_by (0 ∷ 65 ∷ []))
    ∷ ruling_of 2 [] (none_held 0 1)
    ∷ ruling_of 2 [] (none_room 1 65)
    ∷ []

rulings_legal : map (λ x. legal (ruling_said x)) said ≡ replicate 7 true
unfolding said ruling_said ruling_of strike legal
rulings_legal = refl

rulings_not_legal : map legal not_legal ≡ replicate 12 false
unfolding not_legal ruling_of strike legal
rulings_not_legal = refl
