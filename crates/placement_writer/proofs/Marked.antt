-- The lines of a placement's text that have a field `?` are those where something was not received: numbers are digits, and no word is `?`.
-- Assumes nothing.
use Prim.Native.Nat.{ℕ, suc, ◌+◌}
use mathlib.Core.Path.{◌≡◌, refl, sym, ap, ◌∙◌}
use mathlib.Core.Logic.{◌⊎◌, inl, inr}
use mathlib.Core.Bool.{Bool, true, false}
use mathlib.Core.Option.{Option, none, some}
use mathlib.Core.List.{List, [], ◌∷◌, ◌++◌, map, append_assoc, append-nil}
use native.Mathlib.Omega.{arith}
use native.Mathlib.Nat.{add-zero}
use lib.ListN.{length}
use Rattle.meaning.specs.Numbers.{◌&◌, ◌or◌}
use Rattle.meaning.specs.Lists.{Each, each_none, each_more, some?}
use Rattle.meaning.specs.Placement.{Kind, held, barred, Order, Depot, depot, Placement}
use Rattle.meaning.specs.Full.{Full, is_not_received, depot_lacks, lines_where, lacking_lines, full}
use Rattle.meaning.proofs.Booleans.{true-or-false}
use Rattle.meaning.proofs.Full.{Lines, full-lines}
use Rattle.fields.specs.Bytes.{TAB, LF, stop?, same}
use Rattle.fields.specs.Number.{digits_of, value, digit?}
use Rattle.fields.specs.Writer.{write_number, write_lines}
use Rattle.fields.specs.Parted.{before, parted}
use Rattle.fields.proofs.Digits.{value-digits}
use Rattle.fields.proofs.Words.{Word, same-eq, digits-word}
use Rattle.fields.proofs.Parted.{parted-at, after, fields-parted, fields-one-line}
use Rattle.placement_text.specs.Words.{word_placement, word_T, word_D, word_?, letter}
use Rattle.placement_text.specs.Writer.{or_mark, write_received, write_entries, write_list, write_trainee, write_depot, write_order, write_orders, write_head, write_end, above_end, text_of}
use Rattle.placement_writer.specs.Marked.{mark?, marked?, marked_lines}

-- ---- one field

digits-unmarked : (v : ℕ) → mark? (digits_of v) ≡ false
unfolding value digit? ◌&◌
digits-unmarked v = go (true-or-false (mark? (digits_of v)))
  where
    go : (mark? (digits_of v) ≡ true) ⊎ (mark? (digits_of v) ≡ false) → mark? (digits_of v) ≡ false
    go (inl t) =
        let e : some v ≡ none = sym (value-digits v) ∙ ap (value 0) (same-eq (digits_of v) word_? t) in
        absurd (let z : ◌≡◌ {A = ℕ} 0 1 = cc in omega arith)
    go (inr f) = f

received-marked : (o : Option ℕ) → mark? (or_mark o) ≡ is_not_received o
unfolding or_mark is_not_received same ◌&◌
received-marked none = refl
received-marked (some v) = digits-unmarked v

mark-word : Word word_?
unfolding stop?
mark-word = each_more refl each_none

received-word : (o : Option ℕ) → Word (or_mark o)
unfolding or_mark
received-word none = mark-word
received-word (some v) = digits-word v

-- ---- the fields of a list

-- its length and its entries
length_of : Option (List ℕ) → Option ℕ
length_of none = none
length_of (some es) = some (length es)

entries_of : Option (List ℕ) → List ℕ
entries_of none = []
entries_of (some es) = es

abbrev numbers : List ℕ → List (List ℕ)
numbers es = map digits_of es

entries-after : (es : List ℕ) → write_entries es ≡ after (numbers es)
unfolding write_entries write_number after
entries-after [] = refl
entries-after (e ∷ es) = ap (λ z. TAB ∷ (digits_of e ++ z)) (entries-after es)

list-after : (l : Option (List ℕ)) → write_list l ≡ TAB ∷ (or_mark (length_of l) ++ after (numbers (entries_of l)))
unfolding write_list write_received after length_of entries_of or_mark
list-after none = ap (λ z. TAB ∷ z) (sym (append-nil word_?))
list-after (some es) = ap (λ z. TAB ∷ (or_mark (some (length es)) ++ z)) (entries-after es)

numbers-word : (es : List ℕ) → Each Word (numbers es)
numbers-word [] = each_none
numbers-word (e ∷ es) = each_more (digits-word e) (numbers-word es)

numbers-unmarked : (es : List ℕ) → some? mark? (numbers es) ≡ false
unfolding some?
numbers-unmarked [] = refl
numbers-unmarked (e ∷ es) = rw (digits-unmarked e, some?) (numbers-unmarked es)

list-marked : (l : Option (List ℕ)) → some? mark? (or_mark (length_of l) ∷ numbers (entries_of l)) ≡ is_not_received l
unfolding some? length_of entries_of is_not_received or_mark same ◌&◌
list-marked none = refl
list-marked (some es) = rw (digits-unmarked (length es), some?) (numbers-unmarked es)

-- ---- one line: a word, fields after it and byte 10

abbrev line_of : List ℕ → List (List ℕ) → List ℕ
line_of w fs = (w ++ after fs) ++ LF ∷ []

-- what the lines of s say follows what its first line says
pub line_first : (w : List ℕ) (fs : List (List ℕ)) (r : List ℕ) (l : ℕ) (b : Bool) → Word w → Each Word fs → some? mark? (w ∷ fs) ≡ b
    → lines_where marked? l (parted LF (line_of w fs ++ r)) ≡ elim b [ true ↦ l ∷ lines_where marked? (l + 1) (parted LF r) | false ↦ lines_where marked? (l + 1) (parted LF r) ]
unfolding lines_where marked?
line_first w fs r l b g h m =
    let cut : parted LF (line_of w fs ++ r) ≡ (w ++ after fs) ∷ parted LF r =
    ap (parted LF) (append_assoc (w ++ after fs) (LF ∷ []) r) ∙ parted-at LF (w ++ after fs) r (fields-one-line w fs g h) in
    let it : marked? (w ++ after fs) ≡ b = ap (some? mark?) (fields-parted w fs g h) ∙ m in
    rw (cut, it, lines_where)

-- ---- lines of one kind

module _ {A : Type 0} (f : ℕ → A → List ℕ) (lacks : A → Bool) (word : A → List ℕ) (fields : ℕ → A → List (List ℕ))
    (written : (i : ℕ) (a : A) → f i a ≡ line_of (word a) (fields i a)) (first_word : (a : A) → Word (word a)) (its-words : (i : ℕ) (a : A) → Each Word (fields i a))
    (says : (i : ℕ) (a : A) → some? mark? (word a ∷ fields i a) ≡ lacks a) where
  lines-marked : (i l : ℕ) (xs : List A) (r : List ℕ)
      → lines_where marked? l (parted LF (write_lines f i xs ++ r)) ≡ lines_where lacks l xs ++ lines_where marked? (l + length xs) (parted LF r)
  unfolding write_lines lines_where
  lines-marked i l [] r = rw add-zero
  lines-marked i l (x ∷ xs) r =
      ap (λ z. lines_where marked? l (parted LF z)) (append_assoc (f i x) (write_lines f (i + 1) xs) r ∙ ap (λ z. z ++ (write_lines f (i + 1) xs ++ r)) (written i x))
      ∙ line_first (word x) (fields i x) (write_lines f (i + 1) xs ++ r) l (lacks x) (first_word x) (its-words i x) (says i x)
      ∙ go (lacks x) (lines-marked (i + 1) (l + 1) xs r)
    where
      n : l + 1 + length xs ≡ l + suc (length xs)
      n = omega arith

      go : (b : Bool) → lines_where marked? (l + 1) (parted LF (write_lines f (i + 1) xs ++ r)) ≡ lines_where lacks (l + 1) xs ++ lines_where marked? (l + 1 + length xs) (parted LF r)
          → elim b [ true ↦ l ∷ lines_where marked? (l + 1) (parted LF (write_lines f (i + 1) xs ++ r)) | false ↦ lines_where marked? (l + 1) (parted LF (write_lines f (i + 1) xs ++ r)) ]
          ≡ elim b [ true ↦ l ∷ lines_where lacks (l + 1) xs | false ↦ lines_where lacks (l + 1) xs ] ++ lines_where marked? (l + suc (length xs)) (parted LF r)
      go true e = ap (λ z. l ∷ z) (e ∙ ap (λ k. lines_where lacks (l + 1) xs ++ lines_where marked? k (parted LF r)) n)
      go false e = e ∙ ap (λ k. lines_where lacks (l + 1) xs ++ lines_where marked? k (parted LF r)) n

-- ---- the lines of a placement

letter-word : (k : Kind) → Word (letter k)
unfolding letter stop?
letter-word held = each_more refl each_none
letter-word barred = each_more refl each_none

letter-unmarked : (k : Kind) → mark? (letter k) ≡ false
unfolding letter same ◌&◌
letter-unmarked held = refl
letter-unmarked barred = refl

T-word : Word word_T
unfolding stop?
T-word = each_more refl each_none

D-word : Word word_D
unfolding stop?
D-word = each_more refl each_none

placement-word : Word word_placement
unfolding stop?
placement-word = each_more refl (each_more refl (each_more refl (each_more refl (each_more refl (each_more refl (each_more refl (each_more refl (each_more refl each_none))))))))

abbrev list_fields : Option (List ℕ) → List (List ℕ)
list_fields l = or_mark (length_of l) ∷ numbers (entries_of l)

list-words : (l : Option (List ℕ)) → Each Word (list_fields l)
list-words l = each_more (received-word (length_of l)) (numbers-word (entries_of l))

trainee-written : (i : ℕ) (l : Option (List ℕ)) → write_trainee i l ≡ line_of word_T (digits_of i ∷ list_fields l)
unfolding write_trainee write_number after
trainee-written i l =
    let e : write_trainee i l ≡ word_T ++ (write_number i ++ (write_list l ++ LF ∷ [])) = simp append_assoc in
    e ∙ ap (λ z. word_T ++ (write_number i ++ (z ++ LF ∷ []))) (list-after l) ∙ sym (simp append_assoc)

trainee-says : (i : ℕ) (l : Option (List ℕ)) → some? mark? (word_T ∷ digits_of i ∷ list_fields l) ≡ is_not_received l
unfolding some? same ◌&◌
trainee-says i l = rw (digits-unmarked i, some?) (list-marked l)

abbrev posts_of : Depot → Option ℕ
posts_of (depot ps l) = ps

abbrev list_of : Depot → Option (List ℕ)
list_of (depot ps l) = l

depot-written : (j : ℕ) (d : Depot) → write_depot j d ≡ line_of word_D (digits_of j ∷ or_mark (posts_of d) ∷ list_fields (list_of d))
unfolding write_depot write_number write_received after
depot-written j (depot ps l) =
    let e : write_depot j (depot ps l) ≡ word_D ++ (write_number j ++ (write_received ps ++ (write_list l ++ LF ∷ []))) = simp append_assoc in
    e ∙ ap (λ z. word_D ++ (write_number j ++ (write_received ps ++ (z ++ LF ∷ [])))) (list-after l) ∙ sym (simp append_assoc)

depot-says : (j : ℕ) (d : Depot) → some? mark? (word_D ∷ digits_of j ∷ or_mark (posts_of d) ∷ list_fields (list_of d)) ≡ depot_lacks d
unfolding some? same ◌&◌ depot_lacks ◌or◌ is_not_received or_mark
depot-says j (depot none l) = rw (digits-unmarked j, some?)
depot-says j (depot (some v) l) = rw (digits-unmarked j, digits-unmarked v, some?) (list-marked l)

order-written : (o : Order) → write_order o ≡ line_of (letter o.kind) (digits_of o.trainee ∷ digits_of o.depot ∷ [])
unfolding write_order write_number after
order-written o = simp (append_assoc, append-nil)

orders-marked : (l : ℕ) (os : List Order) (r : List ℕ) → lines_where marked? l (parted LF (write_orders os ++ r)) ≡ lines_where marked? (l + length os) (parted LF r)
unfolding write_orders some?
orders-marked l [] r = rw add-zero
orders-marked l (o ∷ os) r =
    ap (λ z. lines_where marked? l (parted LF z)) (append_assoc (write_order o) (write_orders os) r ∙ ap (λ z. z ++ (write_orders os ++ r)) (order-written o))
    ∙ line_first (letter o.kind) (digits_of o.trainee ∷ digits_of o.depot ∷ []) (write_orders os ++ r) l false (letter-word o.kind)
    (each_more (digits-word o.trainee) (each_more (digits-word o.depot) each_none)) (rw (letter-unmarked o.kind, digits-unmarked o.trainee, digits-unmarked o.depot, some?))
    ∙ orders-marked (l + 1) os r
    ∙ ap (λ k. lines_where marked? k (parted LF r)) n
  where
    n : l + 1 + length os ≡ l + suc (length os)
    n = omega arith

head-written : (e n m : ℕ) → write_head e n m ≡ line_of word_placement (numbers (e ∷ n ∷ m ∷ []))
unfolding write_head write_number after
head-written e n m = simp (append_assoc, append-nil)

head-unmarked : (e n m : ℕ) → some? mark? (word_placement ∷ numbers (e ∷ n ∷ m ∷ [])) ≡ false
unfolding some? same ◌&◌
head-unmarked e n m = numbers-unmarked (e ∷ n ∷ m ∷ [])

end-unmarked : (l : ℕ) → lines_where marked? l (parted LF write_end) ≡ []
unfolding lines_where marked? parted before some? same ◌&◌
end-unmarked l = refl

-- the lines of a placement's text that have a field `?` are those where something was not received
pub mark-lines : (p : Placement) → marked_lines (text_of p) ≡ lacking_lines p
unfolding marked_lines lacking_lines text_of above_end
mark-lines p =
    let n : ℕ = length p.trainees in
    let m : ℕ = length p.depots in
    let orders : List ℕ = write_orders p.orders ++ write_end in
    let depots : List ℕ = write_lines write_depot 1 p.depots ++ orders in
    let trainees : List ℕ = write_lines write_trainee 1 p.trainees ++ depots in
    let apart : text_of p ≡ write_head p.edition n m ++ trainees = simp append_assoc in
    ap (λ z. lines_where marked? 1 (parted LF z)) (apart ∙ ap (λ z. z ++ trainees) (head-written p.edition n m))
    ∙ line_first word_placement (numbers (p.edition ∷ n ∷ m ∷ [])) trainees 1 false placement-word (numbers-word (p.edition ∷ n ∷ m ∷ [])) (head-unmarked p.edition n m)
    ∙ lines-marked write_trainee is_not_received (λ l. word_T) (λ i l. digits_of i ∷ list_fields l) trainee-written (λ l. T-word) (λ i l. each_more (digits-word i) (list-words l)) trainee-says 1 2 p.trainees depots
    ∙ ap (λ z. lines_where is_not_received 2 p.trainees ++ z)
    (ap (λ k. lines_where marked? k (parted LF depots)) first-depot
    ∙ lines-marked write_depot depot_lacks (λ d. word_D) (λ j d. digits_of j ∷ or_mark (posts_of d) ∷ list_fields (list_of d)) depot-written (λ d. D-word)
    (λ j d. each_more (digits-word j) (each_more (received-word (posts_of d)) (list-words (list_of d)))) depot-says 1 (n + 2) p.depots orders
    ∙ ap (λ z. lines_where depot_lacks (n + 2) p.depots ++ z) (orders-marked (n + 2 + m) p.orders write_end ∙ end-unmarked (n + 2 + m + length p.orders))
    ∙ append-nil (lines_where depot_lacks (n + 2) p.depots))
  where
    first-depot : 2 + length p.trainees ≡ length p.trainees + 2
    first-depot = omega arith

-- number 7 comes exactly if a line of the text has a field `?`, and then gives the first such line
pub lacking-marked : (p : Placement) → Lines Full (marked_lines (text_of p)) (full p)
lacking-marked p = rw (mark-lines p) (full-lines p)
