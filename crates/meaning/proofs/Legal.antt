-- A test that says of a placement that it is legal, so that an example's legality is computed.
-- Assumes nothing.
use Prim.Native.Nat.{ℕ}
use mathlib.Core.Path.{◌≡◌}
use mathlib.Core.Bool.{Bool, true, not}
use mathlib.Core.Option.{Option, none, some}
use mathlib.Core.List.{List, [], ◌∷◌}
use lib.ListN.{length}
use lib.Dec.{leb, eqb}
use borrow.Author.Tests.{leb-true, eqb-true, not-true}
use Rattle.meaning.specs.Numbers.{In, ◌&◌}
use Rattle.meaning.specs.Lists.{member, Distinct, distinct_none, distinct_more, Each, each_none, each_more, weigh}
use Rattle.meaning.specs.Placement.{Order, Depot, depot, Placement, size, depot_size, LegalEntries, LegalList, no_list, a_list, LegalPosts, no_posts, some_posts, LegalDepot, legal_depot, LegalOrder, Legal}
use Rattle.meaning.proofs.Booleans.{and_left, and_right}

every? : {A : Type 0} → (A → Bool) → List A → Bool
every? f [] = true
every? f (x ∷ xs) = f x & every? f xs

every-is : {A : Type 0} {P : A → Type 0} (f : A → Bool) → ((x : A) → f x ≡ true → P x) → (l : List A) → every? f l ≡ true → Each P l
unfolding every?
every-is f one [] h = each_none
every-is f one (x ∷ xs) h = each_more (one x (and_left _ _ h)) (every-is f one xs (and_right (f x) _ h))

in? : ℕ → ℕ → Bool
in? hi v = leb 1 v & leb v hi

in_is : (hi v : ℕ) → in? hi v ≡ true → In hi v
unfolding in?
in_is hi v h = record { low = leb-true _ _ (and_left _ _ h); high = leb-true _ _ (and_right (leb 1 v) _ h) }

distinct? : List ℕ → Bool
distinct? [] = true
distinct? (x ∷ xs) = not (member x xs) & distinct? xs

distinct-is : (l : List ℕ) → distinct? l ≡ true → Distinct l
unfolding distinct?
distinct-is [] h = distinct_none
distinct-is (x ∷ xs) h = distinct_more (not-true _ (and_left _ _ h)) (distinct-is xs (and_right (not (member x xs)) _ h))

entries? : ℕ → List ℕ → Bool
entries? hi l = leb (length l) hi & (every? (in? hi) l & distinct? l)

entries-is : (hi : ℕ) (l : List ℕ) → entries? hi l ≡ true → LegalEntries hi l
unfolding entries?
entries-is hi l h =
    let rest = and_right (leb (length l) hi) _ h in
    record {
      short = leb-true _ _ (and_left _ _ h);
      range = every-is (in? hi) (in_is hi) l (and_left _ _ rest);
      distinct = distinct-is l (and_right (every? (in? hi) l) _ rest);
    }

list? : ℕ → Option (List ℕ) → Bool
list? hi none = true
list? hi (some l) = entries? hi l

list-is : (hi : ℕ) (l : Option (List ℕ)) → list? hi l ≡ true → LegalList hi l
unfolding list?
list-is hi none h = no_list
list-is hi (some l) h = a_list (entries-is hi l h)

posts? : Option ℕ → Bool
posts? none = true
posts? (some p) = leb p 256

posts-is : (p : Option ℕ) → posts? p ≡ true → LegalPosts p
unfolding posts?
posts-is none h = no_posts
posts-is (some p) h = some_posts (leb-true _ _ h)

depot? : ℕ → Depot → Bool
depot? n (depot p l) = posts? p & list? n l

depot-is : (n : ℕ) (d : Depot) → depot? n d ≡ true → LegalDepot n d
unfolding depot?
depot-is n (depot p l) h = legal_depot (posts-is p (and_left _ _ h)) (list-is n l (and_right (posts? p) _ h))

order? : ℕ → ℕ → Order → Bool
order? n m o = in? n o.trainee & in? m o.depot

order_is : (n m : ℕ) (o : Order) → order? n m o ≡ true → LegalOrder n m o
unfolding order?
order_is n m o h = record { trainee = in_is n _ (and_left _ _ h); depot = in_is m _ (and_right (in? n o.trainee) _ h) }

-- the tests in the order of the record's fields
sides? : Placement → Bool
sides? p =
    every? (list? (length p.depots)) p.trainees & (leb (weigh size p.trainees) 4096
    & (every? (depot? (length p.trainees)) p.depots & leb (weigh depot_size p.depots) 4096))

numbers? : Placement → Bool
numbers? p = eqb p.edition 1 & (leb (length p.trainees) 256 & leb (length p.depots) 64)

orders? : Placement → Bool
orders? p = every? (order? (length p.trainees) (length p.depots)) p.orders & leb (length p.orders) 1024

unfoldable pub legal? : Placement → Bool
unfolding every? in? distinct? entries? list? posts? depot? order? sides? numbers? orders? member weigh size depot_size ◌&◌
legal? p = numbers? p & (sides? p & orders? p)

pub legal-is : (p : Placement) → legal? p ≡ true → Legal p
unfolding legal? sides? numbers? orders?
legal-is p h = record {
  edition = eqb-true _ _ (and_left _ _ numbers);
  n = leb-true _ _ (and_left _ _ (and_right (eqb p.edition 1) _ numbers));
  m = leb-true _ _ (and_right (leb (length p.trainees) 256) _ (and_right (eqb p.edition 1) _ numbers));
  trainees = every-is _ (list-is (length p.depots)) p.trainees (and_left _ _ sides);
  trainee_entries = leb-true _ _ (and_left _ _ below);
  depots = every-is _ (depot-is (length p.trainees)) p.depots (and_left _ _ depots);
  depot_entries = leb-true _ _ (and_right (every? (depot? (length p.trainees)) p.depots) _ depots);
  orders = every-is _ (order_is (length p.trainees) (length p.depots)) p.orders (and_left _ _ orders);
  few_orders = leb-true _ _ (and_right (every? (order? (length p.trainees) (length p.depots)) p.orders) _ orders);
}
  where
    numbers : numbers? p ≡ true
    numbers = and_left _ _ h

    sides : sides? p ≡ true
    sides = and_left _ _ (and_right (numbers? p) _ h)

    orders : orders? p ≡ true
    orders = and_right (sides? p) _ (and_right (numbers? p) _ h)

    below : (leb (weigh size p.trainees) 4096 & (every? (depot? (length p.trainees)) p.depots & leb (weigh depot_size p.depots) 4096)) ≡ true
    below = and_right (every? (list? (length p.depots)) p.trainees) _ sides

    depots : (every? (depot? (length p.trainees)) p.depots & leb (weigh depot_size p.depots) 4096) ≡ true
    depots = and_right (leb (weigh size p.trainees) 4096) _ below
