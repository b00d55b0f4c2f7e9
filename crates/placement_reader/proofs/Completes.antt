-- What is read above a refused line can be completed to a text that is taken.
-- Assumes nothing.
use Prim.Native.Nat.{ℕ, zero, suc, ◌+◌, ◌≤◌}
use mathlib.Core.Path.{◌≡◌, refl, sym, ◌∙◌, subst}
use mathlib.Core.Logic.{◌⊎◌, inl, inr}
use mathlib.Core.Bool.{true, false}
use mathlib.Core.Option.{some}
use mathlib.Core.List.{List, [], ◌∷◌, ◌++◌}
use native.Mathlib.Omega.{arith}
use native.Mathlib.Nat.{add-zero}
use lib.Dec.{eqb}
use borrow.Author.Tests.{eqb-true, eqb-false}
use Rattle.meaning.proofs.Booleans.{true-or-false, some-own, none-some}
use Rattle.fields.specs.Bytes.{LF}
use Rattle.fields.specs.Reader.{Step, got, refusal, Reader, next, on_line, line, lines}
use Rattle.fields.proofs.Steps.{got-value, refusal-not-got}
use Rattle.placement_reader.specs.Agree.{Agree, no_line, line_ends, same_byte}
use Rattle.placement_reader.proofs.Alike.{Alike, both-refused, both-got}
use Rattle.placement_reader.proofs.Tails.{behind, Ends}
use Rattle.placement_reader.proofs.Keeps.{next-next}

-- the first line of s, and u behind it
unfoldable pub swap : List ℕ → List ℕ → List ℕ
swap [] u = u
swap (b ∷ s) u = elim (eqb b LF) [ true ↦ b ∷ u | false ↦ b ∷ swap s u ]

swap-agrees : (s u r : List ℕ) (k : ℕ) → behind s ≡ some r → Agree k r u → Agree (suc k) s (swap s u)
unfolding swap behind
swap-agrees [] u r k h w = none-some h
swap-agrees (b ∷ s) u r k h w = go (λ q. swap-agrees s u r k q w) (true-or-false (eqb b LF))
  where
    go : (behind s ≡ some r → Agree (suc k) s (swap s u)) → (eqb b LF ≡ true) ⊎ (eqb b LF ≡ false) → Agree (suc k) (b ∷ s) (swap (b ∷ s) u)
    go more (inl t) = let e : s ≡ r = some-own (rw (t, behind) at h) in rw (t, swap) (line_ends (eqb-true b LF t) (subst (λ z. Agree k z u) (sym e) w))
    go more (inr f) = rw (f, swap) (same_byte (λ e. eqb-false b LF f e) (more (rw (f, behind) at h)))

swap-behind : (s u r : List ℕ) → behind s ≡ some r → behind (swap s u) ≡ some u
unfolding swap behind
swap-behind [] u r h = none-some h
swap-behind (b ∷ s) u r h = go (λ q. swap-behind s u r q) (true-or-false (eqb b LF))
  where
    go : (behind s ≡ some r → behind (swap s u) ≡ some u) → (eqb b LF ≡ true) ⊎ (eqb b LF ≡ false) → behind (swap (b ∷ s) u) ≡ some u
    go more (inl t) = rw (t, swap) (rw (t, behind))
    go more (inr f) = rw (f, swap) (rw (f, behind) (more (rw (f, behind) at h)))

-- ---- completions

pub record Completion {B : Type 0} (c : ℕ) (F : Reader B) (s : List ℕ) (l : ℕ) : Type 0 where
  pub above : ℕ
  pub at : c + above ≡ l
  pub text : List ℕ
  pub value : B
  pub left : List ℕ
  pub agrees : Agree above s text
  pub takes : F text ≡ got value left

-- a reader of the lines from c on takes some text, and what it refuses at a line is completed from above that line
pub record Can {B : Type 0} (c : ℕ) (F : Reader B) : Type 0 where
  pub text : List ℕ
  pub value : B
  pub left : List ℕ
  pub takes : F text ≡ got value left
  pub more : (s : List ℕ) (x l f : ℕ) → F s ≡ refusal x l f → Completion c F s l

pub can-as : {B : Type 0} {c : ℕ} (F F' : Reader B) → ((s : List ℕ) → F s ≡ F' s) → Can c F → Can c F'
can-as F F' q C =
    record {
      text = C.text;
      value = C.value;
      left = C.left;
      takes = sym (q C.text) ∙ C.takes;
      more = λ s x l f e.
          let m = C.more s x l f (q s ∙ e) in
          record { above = m.above; at = m.at; text = m.text; value = m.value; left = m.left; agrees = m.agrees; takes = sym (q m.text) ∙ m.takes };
    }

pub can-at : {B : Type 0} {c c' : ℕ} {F : Reader B} → c ≡ c' → Can c F → Can c' F
can-at {B} {c} {c'} {F} e C = subst (λ z. Can z F) e C

-- refused at the first line
pub at_first : {B : Type 0} {c : ℕ} {F : Reader B} (t : List ℕ) (v : B) (r : List ℕ) → F t ≡ got v r → (s : List ℕ) (l : ℕ) → c ≡ l → Completion c F s l
at_first {c = c} t v r h s l e = record { above = 0; at = add-zero c ∙ e; text = t; value = v; left = r; agrees = no_line; takes = h }

module _ {A B : Type 0} (c : ℕ) (p : Reader A) (g : A → Reader B)
    (local : (j : ℕ) (s s' : List ℕ) → Agree (suc j) s s' → Alike j (p s) (p s')) (ends : (s : List ℕ) → Ends (behind s) (p s)) where
  line-behind : (s : List ℕ) {a : A} {r : List ℕ} → p s ≡ got a r → behind s ≡ some r
  line-behind s {a} {r} q = subst (Ends (behind s)) q (ends s)

  pub replaced : (s u : List ℕ) {a : A} {r : List ℕ} → p s ≡ got a r → p (swap s u) ≡ got a u
  replaced s u {a} {r} q = go (local 0 s (swap s u) (swap-agrees s u r 0 (line-behind s q) no_line)) q refl
    where
      go : {t t' : Step A} → Alike 0 t t' → t ≡ got a r → p (swap s u) ≡ t' → p (swap s u) ≡ got a u
      go both-refused h e = absurd (refusal-not-got {A = A} h)
      go (both-got {a = b} {r = r₁} {r' = r₂} w) h e =
          let z : r₂ ≡ u = some-own (sym (line-behind (swap s u) e) ∙ swap-behind s u r (line-behind s q)) in
          let y : b ≡ a = got-value h in
          e ∙ (λ i. got (y i) (z i))

  pub line-got : (s : List ℕ) (l : ℕ) (a : A) (r : List ℕ) → p s ≡ got a r → Completion (c + 1) (g a) r l → Completion c (λ q. next (on_line c (p q)) g) s l
  line-got s l a r q m =
      let n = m.at in
      record {
        above = suc m.above;
        at = omega arith;
        text = swap s m.text;
        value = m.value;
        left = m.left;
        agrees = swap-agrees s m.text r m.above (line-behind s q) m.agrees;
        takes = rw (replaced s m.text q) m.takes;
      }

  module _ (opens : List ℕ → List ℕ) (a₀ : A) (opened : (u : List ℕ) → p (opens u) ≡ got a₀ u) (G : (a : A) (s r : List ℕ) → p s ≡ got a r → Can (c + 1) (g a)) where
    first-takes : next (on_line c (p (opens (G a₀ (opens []) [] (opened [])).text))) g ≡ got (G a₀ (opens []) [] (opened [])).value (G a₀ (opens []) [] (opened [])).left
    first-takes = rw (opened (G a₀ (opens []) [] (opened [])).text) (G a₀ (opens []) [] (opened [])).takes

    line-more : (s : List ℕ) (x l f : ℕ) → next (on_line c (p s)) g ≡ refusal x l f → Completion c (λ q. next (on_line c (p q)) g) s l
    line-more s x l f e = go (p s) refl e
      where
        go : (t : Step A) → p s ≡ t → next (on_line c t) g ≡ refusal x l f → Completion c (λ q. next (on_line c (p q)) g) s l
        go (refusal y k h) q e = let z : c ≡ l = cc in at_first _ _ _ first-takes s l z
        go (got a r) q e = line-got s l a r q ((G a s r q).more r x l f e)

    pub can-line : Can c (λ s. next (on_line c (p s)) g)
    can-line =
        record {
          text = opens (G a₀ (opens []) [] (opened [])).text;
          value = (G a₀ (opens []) [] (opened [])).value;
          left = (G a₀ (opens []) [] (opened [])).left;
          takes = first-takes;
          more = line-more;
        }

-- ---- lines of one kind

module _ {A B : Type 0} (at : ℕ → ℕ) (up : (i : ℕ) → at (i + 1) ≡ at i + 1) (p : ℕ → ℕ → Reader A) (weight : A → ℕ)
    (local : (i total j : ℕ) (s s' : List ℕ) → Agree (suc j) s s' → Alike j (p i total s) (p i total s'))
    (ends : (i total : ℕ) (s : List ℕ) → Ends (behind s) (p i total s))
    (last : ℕ) (a₀ : A) (opens : ℕ → List ℕ → List ℕ)
    (opened : (i total : ℕ) → i ≤ last → total ≤ 4096 → (u : List ℕ) → p i total (opens i u) ≡ got a₀ u)
    (fits : (i total : ℕ) (a : A) (s r : List ℕ) → p i total s ≡ got a r → total ≤ 4096 → total + weight a ≤ 4096)
    (g : List A → Reader B) where
  pub can-lines : (n i total : ℕ) (xs : List A) → i + n ≤ last + 1 → total ≤ 4096 → ((ys : List A) → Can (at (i + n)) (g ys))
      → Can (at i) (λ s. next (lines (λ k t. line (at k) (p k t)) weight n i total xs s) g)
  unfolding lines
  can-lines zero i total xs h t G = subst (λ z. Can (at z) (g xs)) (add-zero i) (G xs)
  can-lines (suc n) i total xs h t G =
      let e : i + suc n ≡ i + 1 + n = omega arith in
      let more : (x : A) (s r : List ℕ) → p i total s ≡ got x r → Can (at i + 1) (λ r. next (lines (λ k t. line (at k) (p k t)) weight n (i + 1) (total + weight x) (xs ++ x ∷ []) r) g) =
      λ x s r q. can-at (up i)
      (can-lines n (i + 1) (total + weight x) (xs ++ x ∷ []) (omega arith) (fits i total x s r q t) (λ ys. subst (λ z. Can (at z) (g ys)) e (G ys))) in
      can-as _ _ (λ s. next-next (on_line (at i) (p i total s)) _ g)
      (can-line (at i) (p i total) _ (local i total) (ends i total) (opens i) a₀ (opened i total (omega arith) t) more)
