-- A line of fields is cut into these fields, and lines one after the other into these lines.
-- Assumes nothing.
use Prim.Native.Nat.{ℕ}
use mathlib.Core.Path.{◌≡◌, refl, ap, ◌∙◌}
use mathlib.Core.Bool.{true, false, true≢false}
use mathlib.Core.Logic.{◌⊎◌, inl, inr}
use mathlib.Core.List.{List, [], ◌∷◌, ◌++◌, append-nil}
use lib.Dec.{eqb}
use borrow.Author.Tests.{eq-eqb}
use Rattle.meaning.specs.Lists.{Each, each_none, each_more}
use Rattle.meaning.proofs.Booleans.{true-or-false}
use Rattle.fields.specs.Bytes.{TAB, LF, stop?}
use Rattle.fields.specs.Parted.{before, parted}
use Rattle.fields.proofs.Words.{Word}

-- no byte of w is `at`
abbrev pub Free : ℕ → List ℕ → Type 0
Free at w = Each (λ b. eqb b at ≡ false) w

pub free-append : (at : ℕ) (v w : List ℕ) → Free at v → Free at w → Free at (v ++ w)
free-append at _ w each_none g = g
free-append at _ w (each_more {xs = xs} f fs) g = each_more f (free-append at xs w fs g)

-- ---- cut once

pub parted-at : (at : ℕ) (w r : List ℕ) → Free at w → parted at (w ++ at ∷ r) ≡ w ∷ parted at r
unfolding parted before
parted-at at _ r each_none = rw (eq-eqb at at refl, parted)
parted-at at _ r (each_more {x = x} {xs = xs} f fs) = rw (f, parted) (ap (before x) (parted-at at xs r fs))

pub parted-last : (at : ℕ) (w : List ℕ) → Free at w → parted at w ≡ w ∷ []
unfolding parted before
parted-last at _ each_none = refl
parted-last at _ (each_more {x = x} {xs = xs} f fs) = rw (f, parted) (ap (before x) (parted-last at xs fs))

-- ---- fields

word-tab : (b : ℕ) → stop? b ≡ false → eqb b TAB ≡ false
unfolding stop?
word-tab b h = go (true-or-false (eqb b TAB))
  where
    go : (eqb b TAB ≡ true) ⊎ (eqb b TAB ≡ false) → eqb b TAB ≡ false
    go (inl t) = absurd (true≢false (rw (t, stop?) at h))
    go (inr f) = f

word_end : (b : ℕ) → stop? b ≡ false → eqb b LF ≡ false
unfolding stop?
word_end b h = rw (word-tab b h, stop?) at h

pub free-word : (w : List ℕ) → Word w → Free TAB w × Free LF w
free-word _ each_none = (each_none, each_none)
free-word _ (each_more {x = x} {xs = xs} f fs) =
    let q = free-word xs fs in
    (each_more (word-tab x f) q.0, each_more (word_end x f) q.1)

-- fields after the first, each with the tab before it
unfoldable pub after : List (List ℕ) → List ℕ
after [] = []
after (f ∷ fs) = TAB ∷ (f ++ after fs)

pub fields-parted : (w : List ℕ) (fs : List (List ℕ)) → Word w → Each Word fs → parted TAB (w ++ after fs) ≡ w ∷ fs
unfolding after
fields-parted w _ g each_none = ap (parted TAB) (append-nil w) ∙ parted-last TAB w (free-word w g).0
fields-parted w _ g (each_more {x = f} {xs = fs} h hs) = parted-at TAB w (f ++ after fs) (free-word w g).0 ∙ ap (λ z. w ∷ z) (fields-parted f fs h hs)

pub fields-one-line : (w : List ℕ) (fs : List (List ℕ)) → Word w → Each Word fs → Free LF (w ++ after fs)
unfolding after
fields-one-line w _ g each_none = free-append LF w [] (free-word w g).1 each_none
fields-one-line w _ g (each_more {x = f} {xs = fs} h hs) = free-append LF w _ (free-word w g).1 (each_more refl (fields-one-line f fs h hs))
