-- Lines of one kind, read back as they were written, and written back as they were read, where this holds of one line.
-- Assumes nothing.
use Prim.Native.Nat.{ℕ, zero, suc, ◌+◌, ◌≤◌}
use mathlib.Core.Path.{◌≡◌, refl, sym, ap, ◌∙◌}
use mathlib.Core.List.{List, [], ◌∷◌, ◌++◌, append_assoc, append-nil}
use native.Mathlib.Omega.{arith}
use lib.ListN.{length}
use Rattle.meaning.specs.Lists.{Each, each_none, each_more, weigh}
use Rattle.fields.specs.Reader.{got, Reader, lines}
use Rattle.fields.specs.Writer.{write_lines}
use Rattle.fields.proofs.Steps.{went, got-value, got-rest}

-- a line that is P weighs what its side has room for, `most` in all; lines are numbered up to `top`
module _ {A : Type 0} (one : ℕ → ℕ → Reader A) (weight : A → ℕ) (write : ℕ → A → List ℕ) (P : A → Type 0) (most : ℕ) where
  pub lines-there :
      (top : ℕ)
      → ((i total : ℕ) (a : A) (r : List ℕ) → i ≤ top → P a → total + weight a ≤ most → one i total (write i a ++ r) ≡ got a r)
      → (i total : ℕ) (xs acc : List A) (r : List ℕ) → i + length xs ≤ suc top → Each P xs → total + weigh weight xs ≤ most
      → lines one weight (length xs) i total acc (write_lines write i xs ++ r) ≡ got (acc ++ xs) r
  unfolding lines write_lines weigh
  lines-there top there i total _ acc r h each_none t = rw append-nil
  lines-there top there i total _ acc r h (each_more {x = x} {xs = xs} p ps) t =
      rw (append_assoc (write i x) (write_lines write (i + 1) xs) r, there i total x (write_lines write (i + 1) xs ++ r) (omega arith) p (omega arith))
      (lines-there top there (i + 1) (total + weight x) xs (acc ++ x ∷ []) r (omega arith) ps (omega arith)
      ∙ ap (λ y. got y r) (append_assoc acc (x ∷ []) xs))

  -- what one line says that was read
  pub record Line (i total : ℕ) (s : List ℕ) (a : A) (r : List ℕ) : Type 0 where
    pub legal : P a
    pub fits : total ≤ most → total + weight a ≤ most
    pub text : s ≡ write i a ++ r

  pub record Lines (c i total : ℕ) (acc : List A) (s : List ℕ) (out : List A) (r : List ℕ) : Type 0 where
    pub xs : List A
    pub all : out ≡ acc ++ xs
    pub count : length xs ≡ c
    pub legal : Each P xs
    pub fits : total ≤ most → total + weigh weight xs ≤ most
    pub text : s ≡ write_lines write i xs ++ r

  pub lines-back :
      ((i total : ℕ) (s : List ℕ) (a : A) (r : List ℕ) → one i total s ≡ got a r → Line i total s a r)
      → (c i total : ℕ) (acc : List A) (s : List ℕ) (out : List A) (r : List ℕ)
      → lines one weight c i total acc s ≡ got out r → Lines c i total acc s out r
  unfolding lines write_lines weigh
  lines-back back zero i total acc s out r h =
      record {
        xs = [];
        all = sym (got-value h) ∙ sym (append-nil acc);
        count = refl;
        legal = each_none;
        fits = λ z. omega arith;
        text = got-rest h;
      }
  lines-back back (suc c) i total acc s out r h =
      let a = went (one i total s) _ h in
      let b = back i total s a.value a.rest a.here in
      let d = lines-back back c (i + 1) (total + weight a.value) (acc ++ a.value ∷ []) a.rest out r a.on in
      record {
        xs = a.value ∷ d.xs;
        all = d.all ∙ append_assoc acc (a.value ∷ []) d.xs;
        count = ap suc d.count;
        legal = each_more b.legal d.legal;
        fits = λ z. omega (arith, d.fits (b.fits z));
        text =
            b.text
            ∙ ap (λ x. write i a.value ++ x) d.text
            ∙ sym (append_assoc (write i a.value) (write_lines write (i + 1) d.xs) r);
      }
