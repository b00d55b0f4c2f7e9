-- One after another, there and back: what was laid is decoded, and what is decoded was laid. Assumes nothing.
use Prim.Native.Nat.{ℕ, zero, suc, ◌+◌, ◌*◌, ◌≤◌, ◌<◌}
use mathlib.Core.Path.{◌≡◌, refl, sym, ap, ap₂, ◌∙◌, subst}
use mathlib.Core.Option.{Option, some}
use mathlib.Core.List.{List, [], ◌∷◌, ◌++◌, append_assoc}
use native.Mathlib.Omega.{arith}
use native.Mathlib.Numerals.{add-one}
use lib.ListN.{length, get_or, drop, length-append, length-drop}
use lib.Seq.{drop_at, drop-cons, drop-drop}
use Rattle.meaning.specs.Lists.{Each, each_none, each_more, weigh}
use Rattle.meaning.proofs.Booleans.{some-own}
use Rattle.tables.proofs.Tests.{went}
use Rattle.tables.specs.Cells.{series_cells, joined}
use Rattle.tables.specs.Decode.{next, series_from}

-- ---- how many cells there are

pub series-cells : {A : Type 0} (weight : A → ℕ) (wide : ℕ) (cells : ℕ → A → List ℕ) → ((s : ℕ) (a : A) → length (cells s a) ≡ wide)
    → (s : ℕ) (xs : List A) → length (series_cells weight cells s xs) ≡ wide * length xs
unfolding series_cells
series-cells weight wide cells w s [] = omega arith
series-cells weight wide cells w s (x ∷ xs) = length-append (cells s x) _ ∙ ap₂ ◌+◌ (w s x) (series-cells weight wide cells w (s + weight x) xs) ∙ omega arith

pub joined-weigh : {A : Type 0} (weight : A → ℕ) (entries : A → List ℕ) → ((a : A) → length (entries a) ≡ weight a)
    → (xs : List A) → length (joined entries xs) ≡ weigh weight xs
unfolding joined weigh
joined-weigh weight entries w [] = refl
joined-weigh weight entries w (x ∷ xs) = length-append (entries x) _ ∙ ap₂ ◌+◌ (w x) (joined-weigh weight entries w xs)

-- one more at the end, and what a reader lays by and by
pub series-more : {A : Type 0} (weight : A → ℕ) (cells : ℕ → A → List ℕ) (s : ℕ) (xs ys : List A)
    → series_cells weight cells s (xs ++ ys) ≡ series_cells weight cells s xs ++ series_cells weight cells (s + weigh weight xs) ys
unfolding series_cells weigh
series-more weight cells s [] ys = let z : s + 0 ≡ s = omega arith in rw z
series-more weight cells s (x ∷ xs) ys =
    let z : s + weight x + weigh weight xs ≡ s + (weight x + weigh weight xs) = omega arith in
    ap (λ r. cells s x ++ r) (series-more weight cells (s + weight x) xs ys ∙ rw z)
    ∙ sym (append_assoc (cells s x) (series_cells weight cells (s + weight x) xs) _)

pub joined-more : {A : Type 0} (f : A → List ℕ) (xs ys : List A) → joined f (xs ++ ys) ≡ joined f xs ++ joined f ys
unfolding joined
joined-more f [] ys = refl
joined-more f (x ∷ xs) ys = ap (λ r. f x ++ r) (joined-more f xs ys) ∙ sym (append_assoc (f x) (joined f xs) (joined f ys))

pub weigh-more : {A : Type 0} (f : A → ℕ) (xs ys : List A) → weigh f (xs ++ ys) ≡ weigh f xs + weigh f ys
unfolding weigh
weigh-more f [] ys = omega arith
weigh-more f (x ∷ xs) ys = ap (λ r. f x + r) (weigh-more f xs ys) ∙ omega arith

-- ---- there and back

module _ {A : Type 0} (one : ℕ → List ℕ → List ℕ → Option A) (weight : A → ℕ) (wide : ℕ)
    (cells : ℕ → A → List ℕ) (entries : A → List ℕ) (P : A → Type 0)
    (cells_wide : (s : ℕ) (a : A) → length (cells s a) ≡ wide) (entries-weigh : (a : A) → length (entries a) ≡ weight a) where
  pub series-there :
      ((s : ℕ) (a : A) (hs es : List ℕ) → P a → one s (cells s a ++ hs) (entries a ++ es) ≡ some a)
      → (s : ℕ) (xs : List A) (hs es : List ℕ) → Each P xs
      → series_from one weight wide (length xs) s (series_cells weight cells s xs ++ hs) (joined entries xs ++ es) ≡ some xs
  unfolding series_from series_cells joined next
  series-there there s _ hs es each_none = refl
  series-there there s _ hs es (each_more {x = x} {xs = xs} p ps) =
      let hr : List ℕ = series_cells weight cells (s + weight x) xs ++ hs in
      let er : List ℕ = joined entries xs ++ es in
      rw (
        append_assoc (cells s x) (series_cells weight cells (s + weight x) xs) hs,
        append_assoc (entries x) (joined entries xs) es,
        there s x hr er p,
        drop_at (cells s x) hr wide (cells_wide s x),
        drop_at (entries x) er (weight x) (entries-weigh x),
        series-there there (s + weight x) xs hs es ps,
      )

  pub record Series (d s : ℕ) (hs es : List ℕ) (xs : List A) : Type 0 where
    pub count : length xs ≡ d
    pub legal : Each P xs
    pub heads : hs ≡ series_cells weight cells s xs ++ drop (wide * d) hs
    pub rest : es ≡ joined entries xs ++ drop (weigh weight xs) es

  pub series-back :
      ((s : ℕ) (hs es : List ℕ) (a : A) → one s hs es ≡ some a → P a × (hs ≡ cells s a ++ drop wide hs) × (es ≡ entries a ++ drop (weight a) es))
      → (d s : ℕ) (hs es : List ℕ) (xs : List A) → series_from one weight wide d s hs es ≡ some xs → Series d s hs es xs
  unfolding series_from series_cells joined weigh
  series-back back zero s hs es xs h =
      let w : wide * 0 ≡ 0 = omega arith in
      subst (Series zero s hs es) (some-own h) (record { count = refl; legal = each_none; heads = rw w; rest = refl })
  series-back back (suc d) s hs es xs h =
      let a = went (one s hs es) _ h in
      let b = went (series_from one weight wide d (s + weight a.value) (drop wide hs) (drop (weight a.value) es)) _ a.on in
      let q = back s hs es a.value a.here in
      let r = series-back back d (s + weight a.value) (drop wide hs) (drop (weight a.value) es) b.value b.here in
      let w : wide + wide * d ≡ wide * suc d = omega arith in
      subst (Series (suc d) s hs es) (some-own b.on)
      (record {
        count = ap suc r.count;
        legal = each_more q.0 r.legal;
        heads =
            q.1 ∙ ap (λ z. cells s a.value ++ z) (r.heads ∙ rw (drop-drop (wide * d) wide hs, w)) ∙ sym (append_assoc (cells s a.value) _ _);
        rest =
            q.2 ∙ ap (λ z. entries a.value ++ z) (r.rest ∙ rw (drop-drop (weigh weight b.value) (weight a.value) es)) ∙ sym (append_assoc (entries a.value) _ _);
      })

-- as many are decoded as were asked for
pub series-count : {A : Type 0} (one : ℕ → List ℕ → List ℕ → Option A) (weight : A → ℕ) (wide d s : ℕ) (hs es : List ℕ) (xs : List A)
    → series_from one weight wide d s hs es ≡ some xs → length xs ≡ d
unfolding series_from
series-count one weight wide zero s hs es xs q = ap length (sym (some-own q))
series-count one weight wide (suc d) s hs es xs q =
    let a = went (one s hs es) _ q in
    let b = went (series_from one weight wide d (s + weight a.value) (drop wide hs) (drop (weight a.value) es)) _ a.on in
    ap length (sym (some-own b.on)) ∙ ap suc (series-count one weight wide d (s + weight a.value) (drop wide hs) (drop (weight a.value) es) b.value b.here)

-- ---- the cells in front

pub two_cells : (h : List ℕ) (at : ℕ) → at + 1 < length h → drop at h ≡ get_or h at 0 ∷ get_or h (at + 1) 0 ∷ drop (at + 2) h
two_cells h at k =
    let z : suc (suc at) ≡ at + 2 = omega arith in
    drop-cons h at 0 (omega arith) ∙ ap (λ x. get_or h at 0 ∷ x) (drop-cons h (suc at) 0 (omega arith) ∙ rw (add-one, z))

pub three-cells : (h : List ℕ) (at : ℕ) → at + 2 < length h → drop at h ≡ get_or h at 0 ∷ get_or h (at + 1) 0 ∷ get_or h (at + 2) 0 ∷ drop (at + 3) h
three-cells h at k =
    let z : suc (at + 2) ≡ at + 3 = omega arith in
    two_cells h at (omega arith) ∙ ap (λ x. get_or h at 0 ∷ get_or h (at + 1) 0 ∷ x) (drop-cons h (at + 2) 0 k ∙ rw z)

-- ---- one of them

-- the k-th is decoded from its own cells, wherever its entries start
pub record Single {A : Type 0} (one : ℕ → List ℕ → List ℕ → Option A) (h e : List ℕ) (at : ℕ) (x : A) : Type 0 where
  pub start : ℕ
  pub within : start ≤ length e
  pub here : one start (drop at h) (drop start e) ≡ some x

pub series-at : {A : Type 0} (one : ℕ → List ℕ → List ℕ → Option A) (weight : A → ℕ) (wide : ℕ) (h e : List ℕ) (x : A)
    → ((s : ℕ) (hs es : List ℕ) (a : A) → one s hs es ≡ some a → weight a ≤ length es)
    → (d at s : ℕ) (xs : List A) → s ≤ length e → series_from one weight wide d s (drop at h) (drop s e) ≡ some xs
    → (k : ℕ) → k < d → Single one h e (at + wide * k) (get_or xs k x)
unfolding series_from
series-at one weight wide h e x fit zero at s xs u q k l = absurd (omega arith)
series-at one weight wide h e x fit (suc d) at s xs u q k l =
    let a = went (one s (drop at h) (drop s e)) _ q in
    let b = went (series_from one weight wide d (s + weight a.value) (drop wide (drop at h)) (drop (weight a.value) (drop s e))) _ a.on in
    subst (λ z. Single one h e (at + wide * k) (get_or z k x)) (some-own b.on)
    (go k l a.value b.value a.here b.here (λ v ys z w j m. series-at one weight wide h e x fit d (at + wide) (s + v) ys z w j m))
  where
    go : (k : ℕ) → k < suc d → (v : _) (ys : List _) → one s (drop at h) (drop s e) ≡ some v
        → series_from one weight wide d (s + weight v) (drop wide (drop at h)) (drop (weight v) (drop s e)) ≡ some ys
        → ((v : ℕ) (ys : List _) → s + v ≤ length e → series_from one weight wide d (s + v) (drop (at + wide) h) (drop (s + v) e) ≡ some ys
        → (j : ℕ) → j < d → Single one h e (at + wide + wide * j) (get_or ys j x))
        → Single one h e (at + wide * k) (get_or (v ∷ ys) k x)
    go zero m v ys p r ih = let z : at + wide * 0 ≡ at = omega arith in record { start = s; within = u; here = rw z p }
    go (suc j) m v ys p r ih =
        let z : at + wide + wide * j ≡ at + wide * suc j = omega arith in
        let w : series_from one weight wide d (s + weight v) (drop (at + wide) h) (drop (s + weight v) e) ≡ some ys = rw (drop-drop wide at h, drop-drop (weight v) s e) at r in
        subst (λ i. Single one h e i (get_or ys j x)) z (ih (weight v) ys (omega (arith, fit s (drop at h) (drop s e) v p, length-drop s e)) w j (omega arith))
