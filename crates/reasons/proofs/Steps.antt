-- One law for each way through the code that looks for a reason.
-- Assumes nothing.
use Prim.Native.Nat.{ℕ, suc, ◌+◌, ◌-◌, ◌≤◌, ◌<◌}
use mathlib.Core.Path.{◌≡◌, refl, sym, ap, ◌∙◌}
use mathlib.Core.Bool.{Bool, true, false, false≢true}
use mathlib.Core.Option.{Option, none, some}
use Rattle.std.specs.Prelude.{Option as Chosen, Some, None}
use Rattle.std.specs.Ordering.{partial_le}
use Rattle.reasons.specs.declared.Far.{Far}
use Rattle.reasons.specs.contracts.FarPartialOrd.TheImpl.{partial_cmp-value}
use Rattle.reasons.specs.Answers.{choice_of, far_number}
use mathlib.Core.List.{List}
use native.Mathlib.Omega.{arith}
use lib.ListN.{length, get_or, take}
use lib.Dec.{ltb, leb}
use mir.Val.{bool_byte}
use borrow.Author.Tests.{lt-ltb, le-ltb, leb-true, le-leb, lt-leb}
use Rattle.reasons.specs.Scans.{count_in, least_in}
use Rattle.reasons.specs.Reasons.{settled, settled_by, above_of, number_or, depot_at, held_elsewhere, choice_in}
use Rattle.meaning.specs.Numbers.{◌&◌, bit}
use Rattle.meaning.specs.Lists.{place}
use Rattle.meaning.specs.Solver.{lowest}
use Rattle.meaning.proofs.Booleans.{and_left, and_right, and_intro}
use Rattle.rows.specs.Marks.{is_marked, with_mark, turned}
use Rattle.rows.specs.Left.{first_place_left}
use Rattle.ranks.specs.View.{wishes_of, ranking_of, posts_of, place_of}
use Rattle.ranks.proofs.Places.{place-le}
use Rattle.meaning.specs.declared.Reason.{Reason}
use Rattle.meaning.specs.declared.Reason.TheVariants.{Barred, HeldElsewhere, PostsGone, Passed}

-- ---- how far everything is struck

module _ (p f : ℕ) where
  pub far-down : p ≤ f → 2 ≡ settled_by (leb p (f + 1)) (leb p (f + 0))
  unfolding settled_by
  far-down l = rw (le-leb p (f + 1) (omega arith), le-leb p (f + 0) (omega arith))

  pub far-above : f < p → p ≤ f + 1 → 1 ≡ settled_by (leb p (f + 1)) (leb p (f + 0))
  unfolding settled_by
  far-above l u = rw (le-leb p (f + 1) u, lt-leb p (f + 0) (omega arith))

  pub far-not : f + 1 < p → 0 ≡ settled_by (leb p (f + 1)) (leb p (f + 0))
  unfolding settled_by
  far-not l = rw (lt-leb p (f + 1) l, lt-leb p (f + 0) (omega arith))

module _ (h e rows : List ℕ) (j k p : ℕ) (w : List ℕ) (ew : w ≡ wishes_of h e k) (ep : p ≡ place w j) where
  there : place (wishes_of h e k) j ≡ p
  there = ap (λ (l : List ℕ). place l j) (sym ew) ∙ sym ep

  pub not-settled : p ≡ 0 → 0 ≡ settled_by (settled h e rows 1 j k) (settled h e rows 0 j k)
  unfolding settled settled_by ◌&◌
  not-settled z = rw (there, z)

  pub settled-far : (p ≡ 0 → ⊥) → (f r : ℕ) → f ≡ first_place_left (get_or rows k 0) → r ≡ settled_by (leb p (f + 1)) (leb p (f + 0))
      → r ≡ settled_by (settled h e rows 1 j k) (settled h e rows 0 j k)
  unfolding settled settled_by ◌&◌
  settled-far n f r ef er = er ∙ rw (there, lt-ltb 0 p (omega arith), ef)

-- ---- the pass along a list

pub byte-bit : (b : Bool) → bool_byte b ≡ bit b
byte-bit true = refl
byte-bit false = refl

pub bit-most : (b : Bool) → bit b ≤ 1
bit-most true = omega arith
bit-most false = omega arith

-- down to it is above it
settled-down : (h e rows : List ℕ) (j k : ℕ) → settled h e rows 0 j k ≡ true → settled h e rows 1 j k ≡ true
unfolding settled
settled-down h e rows j k t =
    and_intro (and_left _ _ t)
    (le-leb (place (wishes_of h e k) j) (first_place_left (get_or rows k 0) + 1) (omega (arith, leb-true (place (wishes_of h e k) j) (first_place_left (get_or rows k 0) + 0) (and_right (ltb 0 (place (wishes_of h e k) j)) _ t))))

far-tests : (a b : Bool) → (b ≡ true → a ≡ true) → (leb 1 (settled_by a b) ≡ a) × (leb 2 (settled_by a b) ≡ b)
unfolding settled_by
far-tests true true h = (refl, refl)
far-tests true false h = (refl, refl)
far-tests false true h = absurd (false≢true (h refl))
far-tests false false h = (refl, refl)

-- the order of the cases is that of their numbers
above-least : (far : Far) → partial_le partial_cmp-value.it Far.Above far ≡ leb 1 (far_number far)
above-least Far.Short = refl
above-least Far.Above = refl
above-least Far.Down = refl

down-least : (far : Far) → partial_le partial_cmp-value.it Far.Down far ≡ leb 2 (far_number far)
down-least Far.Short = refl
down-least Far.Above = refl
down-least Far.Down = refl

module _ (h e rows part : List ℕ) (j q k : ℕ) (far : Far) (ek : k ≡ get_or part q 0) (ef : far_number far ≡ settled_by (settled h e rows 1 j k) (settled h e rows 0 j k)) where
  pub passes-above : partial_le partial_cmp-value.it Far.Above far ≡ settled h e rows 1 j (get_or part q 0)
  passes-above = above-least far ∙ ap (leb 1) ef ∙ (far-tests _ _ (settled-down h e rows j k)).0 ∙ ap (settled h e rows 1 j) ek

  pub passes-down : partial_le partial_cmp-value.it Far.Down far ≡ settled h e rows 0 j (get_or part q 0)
  passes-down = down-least far ∙ ap (leb 2) ef ∙ (far-tests _ _ (settled-down h e rows j k)).1 ∙ ap (settled h e rows 0 j) ek

-- ---- the lowest reason

module _ (posts c : ℕ) (v : Option ℕ) where
  pub gone-first : posts ≤ c → some PostsGone ≡ lowest false none (leb posts c) v
  unfolding lowest
  gone-first l = rw (le-leb posts c l)

-- the reason that the smallest who was passed gives
abbrev pub passed_by : Chosen ℕ → Chosen Reason
passed_by None = None
passed_by (Some k) = Some (Passed k)

pub passed-last : (posts c : ℕ) (v : Chosen ℕ) → c < posts → choice_of (passed_by v) ≡ lowest false none (leb posts c) (choice_of v)
unfolding lowest choice_of
passed-last posts c None l = rw (lt-leb posts c l)
passed-last posts c (Some k) l = rw (lt-leb posts c l)

depot-found : (p : ℕ) → p < 64 → depot_at p ≡ some (p + 1)
unfolding depot_at
depot-found p l = rw (lt-ltb p 64 l, depot_at)

depot-none : (p : ℕ) → 64 ≤ p → depot_at p ≡ none
unfolding depot_at
depot-none p l = rw (le-ltb p 64 l, depot_at)

module _ (h e holds bars rows : List ℕ) (i j : ℕ) where
  pub choose-barred : is_marked (get_or bars i 0) (j - 1) ≡ true → some Barred ≡ choice_in h e holds bars rows i j
  unfolding choice_in lowest
  choose-barred t = rw t

  module _ (u : is_marked (get_or bars i 0) (j - 1) ≡ false) (at : ℕ) (ea : at ≡ first_place_left (with_mark (turned (get_or holds i 0)) (j - 1))) where
    elsewhere-is : held_elsewhere (get_or holds i 0) j ≡ depot_at at
    unfolding held_elsewhere
    elsewhere-is = ap depot_at (sym ea)

    pub choose-elsewhere : at < 64 → some (HeldElsewhere (at + 1)) ≡ choice_in h e holds bars rows i j
    unfolding choice_in lowest
    choose-elsewhere l = rw (u, elsewhere-is ∙ depot-found at l)

    pub choose-crowded : 64 ≤ at → choice_in h e holds bars rows i j
        ≡ lowest false none (leb (posts_of h j) (count_in (settled h e rows 1 j) (above_of h e i j))) (number_or (least_in (settled h e rows 0 j) (above_of h e i j) 0))
    unfolding choice_in
    choose-crowded l = rw (u, elsewhere-is ∙ depot-none at l)

-- ---- the part of the depot's list above the trainee

module _ (h e rows : List ℕ) (i j q : ℕ) (r : List ℕ) (o : Chosen ℕ) (er : r ≡ ranking_of h e j) (eo : place_of o ≡ place r i) (eq : o ≡ Some q) where
  its-place : place (ranking_of h e j) i ≡ suc q
  its-place = ap (λ (l : List ℕ). place l i) (sym er) ∙ sym eo ∙ ap place_of eq

  pub ranked-inside : suc q ≤ length r
  ranked-inside = omega (arith, ap (λ (l : List ℕ). place l i) er, its-place, place-le r i)

  above-is : take q r ≡ above_of h e i j
  unfolding above_of
  above-is = let z : suc q - 1 ≡ q = omega arith in rw (er, its-place, z)

  module _ (posts c : ℕ) (v : Chosen ℕ) (es : posts ≡ posts_of h j) (ec : c ≡ count_in (settled h e rows 1 j) (take q r))
      (ev : choice_of v ≡ number_or (least_in (settled h e rows 0 j) (take q r) 0)) where
    counts-are : c ≡ count_in (settled h e rows 1 j) (above_of h e i j)
    counts-are = ec ∙ ap (count_in (settled h e rows 1 j)) above-is

    leasts-are : choice_of v ≡ number_or (least_in (settled h e rows 0 j) (above_of h e i j) 0)
    leasts-are = ev ∙ ap (λ (l : List ℕ). number_or (least_in (settled h e rows 0 j) l 0)) above-is

    pub crowd-gone : posts ≤ c → some PostsGone
        ≡ lowest false none (leb (posts_of h j) (count_in (settled h e rows 1 j) (above_of h e i j))) (number_or (least_in (settled h e rows 0 j) (above_of h e i j) 0))
    crowd-gone l = rw (← es, ← counts-are) (gone-first posts c _ l)

    pub crowd-passed : c < posts → choice_of (passed_by v)
        ≡ lowest false none (leb (posts_of h j) (count_in (settled h e rows 1 j) (above_of h e i j))) (number_or (least_in (settled h e rows 0 j) (above_of h e i j) 0))
    crowd-passed l = rw (← es, ← counts-are, ← leasts-are) (passed-last posts c v l)
