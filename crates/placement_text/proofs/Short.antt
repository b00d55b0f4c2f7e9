-- Each legal text fits in 65,536 bytes.
-- A number below 1000 takes 4 bytes with its tab. A line without its entries takes at most 14 bytes, and there are at most 320 of them; 8,192 entries
-- take at most 4 bytes each, and 1,024 pairs at most 10: 14 * 320 + 4 * 8192 + 10 * 1024, and 26 for the first line and the last, is 47,514.
-- Assumes nothing.
use Prim.Native.Nat.{ℕ, ◌+◌, ◌*◌, ◌≤◌, ◌<◌}
use mathlib.Core.Option.{Option, some}
use mathlib.Core.List.{List}
use native.Mathlib.Omega.{arith}
use lib.ListN.{length, length-append}
use Rattle.meaning.specs.Numbers.{In}
use Rattle.meaning.specs.Lists.{Each, each_none, each_more, weigh}
use Rattle.meaning.specs.Placement.{Kind, held, barred, Order, Depot, Placement, LegalList, no_list, a_list, LegalPosts, no_posts, some_posts, LegalDepot, legal_depot, LegalOrder, Legal, size, depot_size}
use Rattle.fields.specs.Writer.{write_number, write_lines}
use Rattle.fields.proofs.Digits.{three-digits}
use Rattle.placement_text.specs.Words.{letter}
use Rattle.placement_text.specs.Writer.{or_mark, write_received, write_entries, write_list, write_trainee, write_depot, write_order, write_orders, write_head, above_end, text_of}

number_short : (v : ℕ) → v < 1000 → length (write_number v) ≤ 4
unfolding write_number
number_short v h = omega (arith, three-digits v h)

received-short : (v : ℕ) → v < 1000 → length (write_received (some v)) ≤ 4
unfolding write_received or_mark
received-short v h = omega (arith, three-digits v h)

posts-short : (o : Option ℕ) → LegalPosts o → length (write_received o) ≤ 4
unfolding write_received or_mark
posts-short _ no_posts = omega arith
posts-short _ (some_posts {p = v} h) = received-short v (omega arith)

entries-short : (hi : ℕ) (es : List ℕ) → hi ≤ 256 → Each (In hi) es → length (write_entries es) ≤ 4 * length es
unfolding write_entries
entries-short hi _ h each_none = omega arith
entries-short hi _ h (each_more {x = e} {xs = es} b bs) =
    simp length-append (omega (arith, number_short e (omega arith), entries-short hi es h bs))

list-short : (hi : ℕ) (l : Option (List ℕ)) → hi ≤ 256 → LegalList hi l → length (write_list l) ≤ 4 + 4 * size l
unfolding write_list size write_received or_mark
list-short hi _ h no_list = omega arith
list-short hi _ h (a_list {l = es} g) =
    simp length-append (omega (arith, received-short (length es) (omega (arith, g.short)), entries-short hi es h g.range))

trainee_short : (m i : ℕ) (l : Option (List ℕ)) → m ≤ 64 → i ≤ 256 → LegalList m l → length (write_trainee i l) ≤ 14 + 4 * size l
unfolding write_trainee
trainee_short m i l h hi g = simp length-append (omega (arith, number_short i (omega arith), list-short m l (omega arith) g))

depot_short : (n j : ℕ) (d : Depot) → n ≤ 256 → j ≤ 256 → LegalDepot n d → length (write_depot j d) ≤ 14 + 4 * depot_size d
unfolding write_depot depot_size
depot_short n j _ h hj (legal_depot {p = ps} {l = l} g e) =
    simp length-append (omega (arith, number_short j (omega arith), posts-short ps g, list-short n l h e))

lines-short : {A : Type 0} (w : A → ℕ) (f : ℕ → A → List ℕ) (P : A → Type 0)
    → ((i : ℕ) (a : A) → i ≤ 256 → P a → length (f i a) ≤ 14 + 4 * w a)
    → (i : ℕ) (xs : List A) → i + length xs ≤ 257 → Each P xs → length (write_lines f i xs) ≤ 14 * length xs + 4 * weigh w xs
unfolding write_lines weigh
lines-short w f P h i _ g each_none = omega arith
lines-short w f P h i _ g (each_more {x = x} {xs = xs} p ps) =
    simp length-append (omega (arith, h i x (omega arith) p, lines-short w f P h (i + 1) xs (omega arith) ps))

letter-short : (b : Kind) → length (letter b) ≤ 1
unfolding letter
letter-short held = omega arith
letter-short barred = omega arith

orders-short : (n m : ℕ) (os : List Order) → n ≤ 256 → m ≤ 64 → Each (LegalOrder n m) os → length (write_orders os) ≤ 10 * length os
unfolding write_orders write_order
orders-short n m _ hn hm each_none = omega arith
orders-short n m _ hn hm (each_more {x = o} {xs = os} p ps) =
    simp length-append
    (omega (arith, letter-short o.kind, number_short o.trainee (omega (arith, p.trainee.high)), number_short o.depot (omega (arith, p.depot.high)), orders-short n m os hn hm ps))

pub text-short : (p : Placement) → Legal p → length (text_of p) ≤ 65536
unfolding text_of above_end write_head
text-short p g =
    simp length-append
    (omega (
      arith,
      number_short p.edition (omega (arith, g.edition)),
      number_short (length p.trainees) (omega (arith, g.n)),
      number_short (length p.depots) (omega (arith, g.m)),
      lines-short size write_trainee (LegalList (length p.depots)) (λ i l h. trainee_short _ i l g.m h) 1 p.trainees (omega (arith, g.n)) g.trainees,
      lines-short depot_size write_depot (LegalDepot (length p.trainees)) (λ j d h. depot_short _ j d g.n h) 1 p.depots (omega (arith, g.m)) g.depots,
      orders-short _ _ p.orders g.n g.m g.orders,
      g.n,
      g.m,
      g.trainee_entries,
      g.depot_entries,
      g.few_orders,
    ))
