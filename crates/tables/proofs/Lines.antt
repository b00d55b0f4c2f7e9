-- Number 7: the first line where the cells say that something was not received is the one where the placement lacks it.
-- Assumes nothing.
use Prim.Native.Nat.{ℕ, zero, suc, ◌+◌, ◌≤◌, ◌<◌}
use mathlib.Core.Path.{◌≡◌, refl, sym, ap, ap₂, ◌∙◌, subst}
use mathlib.Core.Bool.{Bool, true, false, false≢true}
use mathlib.Core.Option.{Option, none, some}
use mathlib.Core.List.{List, [], ◌∷◌, ◌++◌}
use native.Mathlib.Omega.{arith}
use lib.ListN.{length, get_or}
use Rattle.std.specs.Prelude.{Option as Answer, Some, None, option_map, cond}
use Rattle.std.specs.List.{find, range_with_len, FoldsTo}
use Rattle.std.specs.Bool.{⊤}
use Rattle.std.specs.Fn.{CalledAt}
use Rattle.std.specs.Iterator.{YieldsThen}
use Rattle.std.specs.Option.{MatchOption}
use Rattle.std.specs.declared.ops.Range.{Range}
use Rattle.std.proofs.iter.Yields.{nat_range_steps}
use Rattle.std.proofs.lemmas.Iterator.{YieldsList-from_range}
use Rattle.std.proofs.lemmas.Iterator.Search.{find_from_yields_List}
use denote.Param.Members.{Mut}
use denote.Ref.{Bor}
use lib.Dec.{eqb}
use borrow.Author.Tests.{eq-eqb, ne_eqb}
use Rattle.meaning.specs.Numbers.{◌or◌}
use Rattle.meaning.specs.Placement.{Placement, depot, LegalList, no_list, a_list, LegalPosts, no_posts, some_posts}
use Rattle.meaning.specs.Lists.{Each, each_none, each_more}
use Rattle.meaning.specs.Full.{Full, Received, whole, lacking, full, is_not_received, depot_lacks, lines_where, lacking_lines}
use Rattle.meaning.proofs.Full.{Lines, none-lack, first-lacks, full-lines}
use Rattle.tables.specs.Cells.{HeadRoom, missing_cell, length_cell, posts_cell, trainee_start, depot_start}
use Rattle.tables.specs.Decode.{Sides, sides_of, placement_with, placement_of}
use Rattle.tables.specs.Answers.{full_sides, lacking_line, LineOf}
use Rattle.tables.specs.Walk.{is_some, first_line, trainee_missing, depot_missing}
use Rattle.tables.proofs.Seen.{ListSeen, SidesSeen, sides-seen}
use Rattle.tables.proofs.Round.{parts}

-- ---- the loop

-- what the search below `end` finds gives the line
abbrev pub Found : ℕ → ℕ → ℕ → Answer ℕ → Type 0
Found base end line (Some k) = (base + k ≡ line) × (k < end)
Found base end line None = 0 ≡ line

pub line-find : (f : ℕ → Bool) (base d i : ℕ) → Found base (i + d) (first_line f base d i) (find f (range_with_len i d))
unfolding first_line
line-find f base zero i = refl
line-find f base (suc d) i =
    let z : i + 1 + d ≡ i + suc d = omega arith in
    go (f i) (find f (range_with_len (i + 1) d)) (first_line f base d (i + 1)) (subst (λ k. Found base k (first_line f base d (i + 1)) (find f (range_with_len (i + 1) d))) z (line-find f base d (i + 1)))
  where
    go : (b : Bool) (r : Answer ℕ) (line : ℕ) → Found base (i + suc d) line r → Found base (i + suc d) (elim b [ true ↦ base + i | false ↦ line ]) (cond b (Some i) r)
    go true r line w = (refl, omega arith)
    go false r line w = w

-- the same of what `find` answers over 1 to n
pub line-found : {F : Type 0} {g : Mut F (Bor ℕ × Unit {0}) Bool} {s : Range ℕ} {f : F} {r a : Answer ℕ} (test : ℕ → Bool) (base n : ℕ) (u : Range ℕ)
    → (xs : List ℕ) × (j : F) × YieldsThen nat_range_steps s xs r u × FoldsTo (λ p x q. CalledAt g p x false q) f xs j × MatchOption r ⊤ (λ x. (h : F) × CalledAt g j x true h)
    → s ≡ record { start = 1; end = n + 1 } → ((x : ℕ) (b : Bool) (q : F) → CalledAt g f x b q → (q ≡ f) × (b ≡ test x)) → r ≡ a
    → Found base (1 + n) (first_line test base n 1) a
line-found {r = r} {a = a} test base n u ran all tells is =
    subst (Found base (1 + n) (first_line test base n 1))
    (sym (own r ∙ find_from_yields_List test _ _ _ ran (YieldsList-from_range 1 (n + 1) n all (omega arith)) tells) ∙ is) (line-find test base n 1)
  where
    own : (r : Answer ℕ) → r ≡ option_map (λ x. x) r
    own (Some x) = refl
    own None = refl

-- ---- the first of the lines that lack something

abbrev first_of : List ℕ → ℕ
first_of [] = 0
first_of (l ∷ ls) = l

first-before : (a b : List ℕ) → (first_of a ≡ 0 → ⊥) → first_of (a ++ b) ≡ first_of a
first-before [] b k = absurd (k refl)
first-before (l ∷ a) b k = refl

first-behind : (a b : List ℕ) → a ≡ [] → first_of (a ++ b) ≡ first_of b
first-behind a b e = rw e

lines_from : {A : Type 0} (g : A → Bool) (l : ℕ) (xs : List A) → 1 ≤ l → Each (λ k. 1 ≤ k) (lines_where g l xs)
unfolding lines_where
lines_from g l [] u = each_none
lines_from g l (x ∷ xs) u = go (g x) (lines_from g (l + 1) xs (omega arith))
  where
    go : (b : Bool) → Each (λ k. 1 ≤ k) (lines_where g (l + 1) xs) → Each (λ k. 1 ≤ k) (elim b [ true ↦ l ∷ lines_where g (l + 1) xs | false ↦ lines_where g (l + 1) xs ])
    go true w = each_more u w
    go false w = w

no_lines : (ls : List ℕ) → Each (λ k. 1 ≤ k) ls → first_of ls ≡ 0 → ls ≡ []
no_lines _ each_none z = refl
no_lines _ (each_more k ks) z = absurd (omega arith)

-- tests that agree with what is received find its first line
lines_are : {A : Type 0} (g : A → Bool) (x : A) (c : ℕ → Bool) (base i : ℕ) (xs : List A) → ((j : ℕ) → j < length xs → c (i + j) ≡ g (get_or xs j x))
    → first_line c base (length xs) i ≡ first_of (lines_where g (base + i) xs)
unfolding first_line lines_where
lines_are g x c base i [] h = refl
lines_are g x c base i (y ∷ xs) h =
    let u : i + 0 ≡ i = omega arith in
    let w : base + (i + 1) ≡ base + i + 1 = omega arith in
    go (c i) (g y) (ap c (sym u) ∙ h 0 (omega arith))
    (lines_are g x c base (i + 1) xs (λ j l. let s : i + 1 + j ≡ i + suc j = omega arith in ap c s ∙ h (suc j) (omega arith)) ∙ ap (λ l. first_of (lines_where g l xs)) w)
  where
    go : (t s : Bool) → t ≡ s → first_line c base (length xs) (i + 1) ≡ first_of (lines_where g (base + i + 1) xs)
        → elim t [ true ↦ base + i | false ↦ first_line c base (length xs) (i + 1) ] ≡ first_of (elim s [ true ↦ (base + i) ∷ lines_where g (base + i + 1) xs | false ↦ lines_where g (base + i + 1) xs ])
    go t true e ih = rw e
    go t false e ih = rw e ih

lacking-first : {B : Type 0} {ls : List ℕ} {r : Received B} → Lines B ls r → lacking_line r ≡ first_of ls
unfolding lacking_line
lacking-first (none-lack b e) = sym (ap first_of e)
lacking-first (first-lacks l rest e) = sym (ap first_of e)

-- ---- the cells say what is missing

pub list-cell : (hi at : ℕ) (h e : List ℕ) (l : Option (List ℕ)) → hi ≤ 256 → ListSeen hi at h e l → eqb (get_or h (at + 1) 0) missing_cell ≡ is_not_received l
unfolding length_cell is_not_received
list-cell hi at h e l few s = go l s.back.legal s.back.cell
  where
    go : (l : Option (List ℕ)) → LegalList hi l → get_or h (at + 1) 0 ≡ length_cell l → eqb (get_or h (at + 1) 0) missing_cell ≡ is_not_received l
    go _ no_list e = eq-eqb _ _ e
    go _ (a_list {l = es} g) e = ne_eqb (get_or h (at + 1) 0) missing_cell (λ q. omega (arith, g.short))

posts-cell : (v : ℕ) (p : Option ℕ) → LegalPosts p → v ≡ posts_cell p → eqb v missing_cell ≡ is_not_received p
unfolding posts_cell is_not_received
posts-cell v _ no_posts e = eq-eqb v missing_cell e
posts-cell v _ (some_posts g) e = ne_eqb v missing_cell (λ q. omega arith)

module _ (h e : List ℕ) (b : Sides) (s : SidesSeen h e b) where
  abbrev n : ℕ
  n = get_or h 1 0

  abbrev m : ℕ
  m = get_or h 2 0

  trainees-line : first_line (trainee_missing h) 1 n 1 ≡ first_of (lines_where is_not_received 2 b.trainees)
  unfolding trainee_missing
  trainees-line = ap (λ d. first_line (trainee_missing h) 1 d 1) s.counts.trainees ∙ lines_are is_not_received none (trainee_missing h) 1 1 b.trainees one
    where
      one : (j : ℕ) → j < length b.trainees → trainee_missing h (1 + j) ≡ is_not_received (get_or b.trainees j none)
      one j l =
          let c = s.counts.trainees in
          let z : 1 + j ≡ suc j = omega arith in
          ap (trainee_missing h) z
          ∙ list-cell m (trainee_start (suc j)) h e (get_or b.trainees j none) (omega (arith, s.room.few_depots)) (s.trainee (suc j) (record { low = omega arith; high = omega arith }))

  depots-line : first_line (depot_missing h n) (n + 1) m 1 ≡ first_of (lines_where depot_lacks (length b.trainees + 2) b.depots)
  unfolding depot_missing depot_lacks
  depots-line =
      let t = s.counts.trainees in
      let z : n + 1 + 1 ≡ length b.trainees + 2 = omega arith in
      ap (λ d. first_line (depot_missing h n) (n + 1) d 1) s.counts.depots
      ∙ lines_are depot_lacks (depot none none) (depot_missing h n) (n + 1) 1 b.depots one
      ∙ ap (λ l. first_of (lines_where depot_lacks l b.depots)) z
    where
      one : (j : ℕ) → j < length b.depots → depot_missing h n (1 + j) ≡ depot_lacks (get_or b.depots j (depot none none))
      one j l =
          let c = s.counts.depots in
          let d = s.depot (suc j) (record { low = omega arith; high = omega arith }) in
          let z : 1 + j ≡ suc j = omega arith in
          ap (depot_missing h n) z
          ∙ ap₂ ◌or◌ (posts-cell _ d.posts d.posts-legal d.posts-cell) (list-cell n (depot_start n (suc j)) h e d.list s.room.few_trainees d.list-seen)
          ∙ ap depot_lacks (sym d.is)

  first-line : lacking_line (full_sides b) ≡ first_of (lines_where is_not_received 2 b.trainees ++ lines_where depot_lacks (length b.trainees + 2) b.depots)
  unfolding full_sides lacking_lines
  first-line = lacking-first (full-lines (placement_with b []))

  -- the trainees' lines come first
  pub line-of-trainee : (first_line (trainee_missing h) 1 n 1 ≡ 0 → ⊥) → first_line (trainee_missing h) 1 n 1 ≡ lacking_line (full_sides b)
  line-of-trainee k = trainees-line ∙ sym (first-line ∙ first-before (lines_where is_not_received 2 b.trainees) (lines_where depot_lacks (length b.trainees + 2) b.depots) (λ z. k (trainees-line ∙ z)))

  pub line-of-depot : first_line (trainee_missing h) 1 n 1 ≡ 0 → first_line (depot_missing h n) (n + 1) m 1 ≡ lacking_line (full_sides b)
  line-of-depot k =
      depots-line ∙ sym (first-line ∙ first-behind _ _ (no_lines _ (lines_from is_not_received 2 b.trainees (omega arith)) (sym trainees-line ∙ k)))

-- ---- for the callers

-- the orders play no part
pub full-sides : (h e o : List ℕ) (p : Placement) (k : placement_of h e o ≡ some p) → full p ≡ full_sides (parts h e o p k).sides
unfolding full_sides full
full-sides h e o p k = ap full (sym (parts h e o p k).is)

pub record IsWhole {A : Type 0} (r : Received A) : Type 0 where
  pub value : A
  pub here : r ≡ whole value

-- heads that hold a placement have room for everyone
pub held-room : (h e o : List ℕ) → is_some (placement_of h e o) ≡ true → HeadRoom h
held-room h e o k = go (placement_of h e o) refl k
  where
    go : (q : Option Placement) → placement_of h e o ≡ q → is_some q ≡ true → HeadRoom h
    go none x t = absurd (false≢true t)
    go (some p) x t = let q = parts h e o p x in (sides-seen h e q.sides q.sides-of).room

-- what the heads tell of every placement that they hold
pub of-placement : (h e o : List ℕ) (p : Placement) (k : placement_of h e o ≡ some p) (line : Answer ℕ)
    → ((e : List ℕ) (b : Sides) → sides_of h e ≡ some b → LineOf (full_sides b) line) → LineOf (full p) line
of-placement h e o p k line gives = let q = parts h e o p k in subst (λ r. LineOf r line) (sym (full-sides h e o p k)) (gives e q.sides q.sides-of)

-- a line is given only where something is lacking there
pub lacking-at : {A : Type 0} (r : Received A) (l : ℕ) → LineOf r (Some l) → r ≡ lacking l
unfolding lacking_line
lacking-at (whole a) l k = absurd (omega arith)
lacking-at (lacking i) l k = ap lacking k.0

each-join : {P : ℕ → Type 0} {a b : List ℕ} → Each P a → Each P b → Each P (a ++ b)
each-join each_none w = w
each-join (each_more p ps) w = each_more p (each-join ps w)

-- no line is 0, so 0 says that all was received
pub whole-at-zero : (p : Placement) → lacking_line (full p) ≡ 0 → IsWhole (full p)
unfolding lacking_line lacking_lines
whole-at-zero p z = go (full p) (full-lines p) z
  where
    all : Each (λ k. 1 ≤ k) (lacking_lines p)
    all = each-join (lines_from is_not_received 2 p.trainees (omega arith)) (lines_from depot_lacks (length p.trainees + 2) p.depots (omega arith))

    first : {l : ℕ} {rest ls : List ℕ} → Each (λ k. 1 ≤ k) ls → ls ≡ l ∷ rest → 1 ≤ l
    first {l} {rest} w e = head (subst (Each (λ k. 1 ≤ k)) e w)
      where
        head : Each (λ k. 1 ≤ k) (l ∷ rest) → 1 ≤ l
        head (each_more k ks) = k

    go : (r : Received Full) → Lines Full (lacking_lines p) r → lacking_line r ≡ 0 → IsWhole r
    go _ (none-lack F e) z = record { value = F; here = refl }
    go _ (first-lacks l rest e) z = absurd (omega (arith, first all e))
