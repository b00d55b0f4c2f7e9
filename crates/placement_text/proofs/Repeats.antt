-- Entries in range and distinct, told one after the other: none of them is among those seen before it.
-- Assumes nothing.
use Prim.Native.Nat.{ℕ, ◌≤◌}
use mathlib.Core.Path.{◌≡◌, refl, sym}
use mathlib.Core.Logic.{◌⊎◌, inl, inr}
use mathlib.Core.Bool.{true, false, false≢true}
use mathlib.Core.List.{List, [], ◌∷◌, ◌++◌}
use lib.ListN.{length}
use lib.Dec.{eqb}
use borrow.Author.Tests.{eqb-false, ne_eqb}
use Rattle.meaning.specs.Numbers.{In}
use Rattle.meaning.specs.Lists.{member, Distinct, distinct_none, distinct_more, Each, each_none, each_more}
use Rattle.meaning.specs.Placement.{LegalEntries}
use Rattle.meaning.proofs.Booleans.{true-or-false}

pub data Fresh (hi : ℕ) : List ℕ → List ℕ → Type 0 where
  fresh-none : {seen : List ℕ} → Fresh hi seen []
  fresh-more : {seen : List ℕ} {e : ℕ} {es : List ℕ} → In hi e → member e seen ≡ false → Fresh hi (seen ++ e ∷ []) es → Fresh hi seen (e ∷ es)

-- ---- members

pub member-cons : (x y : ℕ) (ys : List ℕ) → member x (y ∷ ys) ≡ false → (x ≡ y → ⊥) × (member x ys ≡ false)
unfolding member
member-cons x y ys h = go (true-or-false (eqb x y))
  where
    go : (eqb x y ≡ true) ⊎ (eqb x y ≡ false) → (x ≡ y → ⊥) × (member x ys ≡ false)
    go (inl t) = absurd (false≢true (sym (rw (t, member) at h)))
    go (inr f) = (eqb-false x y f, rw (f, member) at h)

pub member-more : (x y : ℕ) (ys : List ℕ) → (x ≡ y → ⊥) → member x ys ≡ false → member x (y ∷ ys) ≡ false
unfolding member
member-more x y ys h g = rw (ne_eqb x y h, member) g

pub member-after : (x : ℕ) (a : List ℕ) (y : ℕ) → member x a ≡ false → (x ≡ y → ⊥) → member x (a ++ y ∷ []) ≡ false
unfolding member
member-after x [] y h g = rw (ne_eqb x y g, member)
member-after x (z ∷ a) y h g = let m = member-cons x z a h in member-more x z (a ++ y ∷ []) m.0 (member-after x a y m.1 g)

pub member-before : (x : ℕ) (a : List ℕ) (y : ℕ) → member x (a ++ y ∷ []) ≡ false → (member x a ≡ false) × (x ≡ y → ⊥)
unfolding member
member-before x [] y h = (refl, (member-cons x y [] h).0)
member-before x (z ∷ a) y h =
    let m = member-cons x z (a ++ y ∷ []) h in
    let b = member-before x a y m.1 in
    (member-more x z a m.0 b.0, b.1)

-- ---- from distinct entries, and back

abbrev Apart : List ℕ → List ℕ → Type 0
Apart seen es = Each (λ e. member e seen ≡ false) es

apart_more : (seen es : List ℕ) (y : ℕ) → Apart seen es → member y es ≡ false → Apart (seen ++ y ∷ []) es
apart_more seen _ y each_none h = each_none
apart_more seen _ y (each_more {x = x} {xs = xs} a aa) h =
    let m = member-cons y x xs h in
    each_more (member-after x seen y a (λ e. m.0 (sym e))) (apart_more seen xs y aa m.1)

fresh-of : (hi : ℕ) (seen es : List ℕ) → Each (In hi) es → Distinct es → Apart seen es → Fresh hi seen es
fresh-of hi seen _ each_none distinct_none a = fresh-none
fresh-of hi seen _ (each_more {x = x} {xs = xs} b bs) (distinct_more m d) (each_more a aa) =
    fresh-more b a (fresh-of hi (seen ++ x ∷ []) xs bs d (apart_more seen xs x aa m))

apart-nil : (es : List ℕ) → Apart [] es
unfolding member
apart-nil [] = each_none
apart-nil (e ∷ es) = each_more refl (apart-nil es)

pub legal-fresh : (hi : ℕ) (es : List ℕ) → LegalEntries hi es → Fresh hi [] es
legal-fresh hi es l = fresh-of hi [] es l.range l.distinct (apart-nil es)

fresh-range : {hi : ℕ} {seen es : List ℕ} → Fresh hi seen es → Each (In hi) es
fresh-range fresh-none = each_none
fresh-range (fresh-more b m f) = each_more b (fresh-range f)

apart-less : (seen : List ℕ) (y : ℕ) (xs : List ℕ) → Apart (seen ++ y ∷ []) xs → Apart seen xs
apart-less seen y _ each_none = each_none
apart-less seen y _ (each_more {x = x} {xs = xs} a aa) = each_more (member-before x seen y a).0 (apart-less seen y xs aa)

fresh-apart : {hi : ℕ} {seen es : List ℕ} → Fresh hi seen es → Apart seen es
fresh-apart fresh-none = each_none
fresh-apart (fresh-more {seen = seen} {e = e} {es = es} b m f) = each_more m (apart-less seen e es (fresh-apart f))

apart-absent : (seen : List ℕ) (y : ℕ) (xs : List ℕ) → Apart (seen ++ y ∷ []) xs → member y xs ≡ false
unfolding member
apart-absent seen y _ each_none = refl
apart-absent seen y _ (each_more {x = x} {xs = xs} a aa) =
    member-more y x xs (λ e. (member-before x seen y a).1 (sym e)) (apart-absent seen y xs aa)

fresh-distinct : {hi : ℕ} {seen es : List ℕ} → Fresh hi seen es → Distinct es
fresh-distinct fresh-none = distinct_none
fresh-distinct (fresh-more {seen = seen} {e = e} {es = es} b m f) =
    distinct_more (apart-absent seen e es (fresh-apart f)) (fresh-distinct f)

pub fresh-legal : (hi : ℕ) (es : List ℕ) → length es ≤ hi → Fresh hi [] es → LegalEntries hi es
fresh-legal hi es h f = record { short = h; range = fresh-range f; distinct = fresh-distinct f }
