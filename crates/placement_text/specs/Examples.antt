-- What the reader answers on small texts, and on texts at the limits: examples of document 01 and of each refusal, computed.
-- Assumes nothing.
use Rattle.std.specs.Prelude.{ℕ, zero, suc, ◌≡◌, refl, List, [], ◌∷◌, ◌++◌, map, replicate}
use Prim.Native.String.{String}
use Rattle.std.proofs.Math.Option.{Option, none, some}
use Rattle.meaning.specs.Numbers.{◌&◌}
use Rattle.meaning.specs.Lists.{member}
use Rattle.meaning.specs.Placement.{Kind, held, barred, Order, Depot, depot, Placement, size, depot_size}
use Rattle.fields.specs.Bytes.{stop?, word_of, rest_of, same}
use Rattle.fields.specs.Number.{digits, digits_of, digit?, value, leads, number_of}
use Rattle.fields.specs.Reader.{unless, first, field, line_end, keyword, at_end, formed, figure, number, running, numbered, lines}
use Rattle.fields.specs.Writer.{write_number, write_lines}
use Rattle.fields.specs.Shown.{shown}
use Rattle.placement_text.specs.Writer.{or_mark, write_received, write_entries, write_list, write_trainee}
use Rattle.placement_text.specs.Reader.{or_missing, received, entry, entries, listed, list, trainee_fields, trainee_line, depot_of, depot_fields, depot_line, opening_of, order_fields, end_fields, finish, orders, edition, sizes, head_fields, body, placement, Read, taken, refused, outcome, read_text}

-- ---- small texts

infix 5 ◌gives◌
data Case : Type 0 where
  ◌gives◌ : String → Read → Case

placement_of : List (Option (List ℕ)) → List Depot → List Order → Placement
placement_of ts ds os = record { edition = 1; trainees = ts; depots = ds; orders = os }

pair : Kind → ℕ → ℕ → Order
pair k i j = record { kind = k; trainee = i; depot = j }

cases : List Case
cases =
    -- taken
    ("placement 1 0 0/end/" gives taken (placement_of [] [] []))
    ∷ ("placement 1 0 1/D 1 256 0/end/" gives taken (placement_of [] (depot (some 256) (some []) ∷ []) []))
    ∷ ("placement 1 1 1/T 1 ?/D 1 ? ?/end/" gives taken (placement_of (none ∷ []) (depot none none ∷ []) []))
    ∷ ("placement 1 1 1/T 1 1 1/D 1 0 ?/end/" gives taken (placement_of (some (1 ∷ []) ∷ []) (depot (some 0) none ∷ []) []))
    ∷ ("placement 1 1 1/T 1 0/D 1 1 0/F 1 1/X 1 1/F 1 1/end/"
    gives taken (placement_of (some [] ∷ []) (depot (some 1) (some []) ∷ []) (pair held 1 1 ∷ pair barred 1 1 ∷ pair held 1 1 ∷ [])))
    ∷ ("placement 1 3 2/T 1 2 1 2/T 2 2 1 2/T 3 1 1/D 1 1 3 2 1 3/D 2 1 2 1 2/end/"
    gives taken
    (placement_of
    (some (1 ∷ 2 ∷ []) ∷ some (1 ∷ 2 ∷ []) ∷ some (1 ∷ []) ∷ [])
    (depot (some 1) (some (2 ∷ 1 ∷ 3 ∷ [])) ∷ depot (some 1) (some (1 ∷ 2 ∷ [])) ∷ [])
    []))
    -- a missing line, or an extra one
    ∷ ("" gives refused 3 1 1)
    ∷ ("placement 1 0 0/" gives refused 3 2 1)
    ∷ ("placement 1 1 0/end/" gives refused 3 2 1)
    ∷ ("placement 1 0 0/end//" gives refused 3 3 1)
    ∷ ("placement 1 0 0/end/x" gives refused 3 3 1)
    ∷ ("placement 1 0 0//end/" gives refused 3 2 1)
    -- a last line without byte 10: its own fields come first
    ∷ ("placement 1 0 0" gives refused 3 1 5)
    ∷ ("placement 1 0 0/end" gives refused 3 2 2)
    ∷ ("placement 1 1 1/T 1 1 2" gives refused 4 2 4)
    -- digits
    ∷ ("placement 1 01 0/end/" gives refused 3 1 3)
    ∷ ("placement 1 00 0/end/" gives refused 3 1 3)
    ∷ ("placement 1 100000 0/end/" gives refused 3 1 3)
    ∷ ("placement 1 99999x 0/end/" gives refused 3 1 3)
    ∷ ("placement 1 +1 0/end/" gives refused 3 1 3)
    ∷ ("placement 1 0 -0/end/" gives refused 3 1 4)
    ∷ ("placement 1 0 0\r/end/" gives refused 3 1 4)
    ∷ ("placement 1 é 0/end/" gives refused 3 1 3)
    ∷ ("placement 1  0/end/" gives refused 3 1 3)
    -- words, editions and running numbers
    ∷ ("Placement 1 0 0/end/" gives refused 3 1 1)
    ∷ ("placement 2 0 0/end/" gives refused 3 1 2)
    ∷ ("placement 1 1 0/T 2 0/end/" gives refused 3 2 2)
    ∷ ("placement 1 1 0/T 99999 0/end/" gives refused 3 2 2)
    ∷ ("placement 1 0 0/END/" gives refused 3 2 1)
    -- too few fields, or too many
    ∷ ("placement 1 0/end/" gives refused 3 1 4)
    ∷ ("placement 1 0 0 0/end/" gives refused 3 1 5)
    ∷ ("placement 1 1 2/T 1 2 1/end/" gives refused 3 2 5)
    ∷ ("placement 1 1 2/T 1 1 1 2/end/" gives refused 3 2 5)
    ∷ ("placement 1 0 0/end x/" gives refused 3 2 2)
    -- `?` in another place, or with something after it
    ∷ ("placement 1 ? 0/end/" gives refused 3 1 3)
    ∷ ("placement 1 1 0/T ? 0/end/" gives refused 3 2 2)
    ∷ ("placement 1 1 1/T 1 1 ?/end/" gives refused 3 2 4)
    ∷ ("placement 1 1 1/T 1 ?1/end/" gives refused 3 2 3)
    ∷ ("placement 1 1 0/T 1 ? 1/end/" gives refused 3 2 4)
    ∷ ("placement 1 1 0/T 1 ? /end/" gives refused 3 2 4)
    -- a number outside its range
    ∷ ("placement 1 99999 0/end/" gives refused 4 1 3)
    ∷ ("placement 1 257 0/end/" gives refused 4 1 3)
    ∷ ("placement 1 0 65/end/" gives refused 4 1 4)
    ∷ ("placement 1 300 x/" gives refused 4 1 3)
    ∷ ("placement 1 0 1/D 1 257 0/end/" gives refused 4 2 3)
    ∷ ("placement 1 1 1/T 1 2 1 1/end/" gives refused 4 2 3)
    ∷ ("placement 1 1 2/T 1 1 9 1/end/" gives refused 4 2 4)
    ∷ ("placement 1 1 2/T 1 1 0/end/" gives refused 4 2 4)
    ∷ ("placement 1 1 2/T 1 2 9 9/end/" gives refused 4 2 4)
    ∷ ("placement 1 0 1/D 1 1 0/F 1 1/end/" gives refused 4 3 2)
    ∷ ("placement 1 1 0/T 1 0/X 1 1/end/" gives refused 4 3 3)
    -- the same one twice
    ∷ ("placement 1 1 2/T 1 2 1 1/end/" gives refused 5 2 5)
    ∷ ("placement 1 2 1/T 1 0/T 2 0/D 1 1 2 2 2/end/" gives refused 5 4 6)
    ∷ []

given : Case → List ℕ
given (t gives r) = shown t

wanted : Case → Read
wanted (t gives r) = r

read : List ℕ → Read
unfolding ◌&◌ member size depot_size stop? word_of rest_of same digit? value leads number_of unless first field line_end keyword at_end formed figure number running numbered lines or_missing received entry entries listed list trainee_fields trainee_line depot_of depot_fields depot_line opening_of order_fields end_fields finish orders edition sizes head_fields body placement outcome read_text
read s = read_text s

small_texts : map (λ c. read (given c)) cases ≡ map wanted cases
unfolding cases given wanted read placement_of pair
small_texts = refl

-- ---- bytes that no field has

-- a byte 0 inside a field; spaces where tabs should be; byte 11 for the end of a line
stray_bytes : List (List ℕ)
stray_bytes =
    (shown "placement 1 0 0" ++ 0 ∷ shown "/end/")
    ∷ (shown "placement" ++ 32 ∷ 49 ∷ 32 ∷ 48 ∷ 32 ∷ 48 ∷ shown "/end/")
    ∷ (shown "placement 1 0 0" ++ 11 ∷ shown "end/")
    ∷ []

stray_give : List Read
stray_give = refused 3 1 4 ∷ refused 3 1 1 ∷ refused 3 1 4 ∷ []

stray_bytes_lem : map read stray_bytes ≡ stray_give
unfolding read stray_bytes stray_give
stray_bytes_lem = refl

-- ---- texts at the limits

times : ℕ → List ℕ → List ℕ
times zero s = []
times (suc k) s = s ++ times k s

-- 1 to k
up_to : ℕ → List ℕ
up_to zero = []
up_to (suc k) = up_to k ++ suc k ∷ []

-- one held pair, k times, and then a line
held_times : ℕ → String → List ℕ
held_times k end = shown "placement 1 1 1/T 1 0/D 1 1 0/" ++ times k (shown "F 1 1/") ++ shown end

-- 64 trainees who rank all of 64 depots, and then a line for one more
full_lists : String → List ℕ
full_lists more = shown "placement 1 65 64/" ++ write_lines write_trainee 1 (replicate 64 (some (up_to 64))) ++ shown more

limits : List (List ℕ)
limits =
    replicate 65536 120
    ∷ replicate 65537 120
    ∷ (held_times 1024 "end/" ++ replicate 65536 10)
    ∷ held_times 1024 "end/"
    ∷ held_times 1024 "F/"
    ∷ held_times 1025 "end/"
    ∷ held_times 1024 "G 1 1/"
    ∷ full_lists "T 65 0/"
    ∷ full_lists "T 65 1 1/"
    ∷ []

limits_give : List Read
limits_give =
    refused 3 1 1
    ∷ refused 2 0 0
    ∷ refused 2 0 0
    ∷ taken (placement_of (some [] ∷ []) (depot (some 1) (some []) ∷ []) (replicate 1024 (pair held 1 1)))
    ∷ refused 6 1028 1
    ∷ refused 6 1028 1
    ∷ refused 3 1028 1
    ∷ refused 3 67 1
    ∷ refused 6 66 3
    ∷ []

texts_at_limits : map read limits ≡ limits_give
unfolding read limits limits_give placement_of pair times up_to held_times full_lists write_lines write_trainee write_list write_received or_mark write_entries write_number digits digits_of
texts_at_limits = refl
