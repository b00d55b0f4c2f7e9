-- One law for each way through the reader's functions that read a field or a list.
-- Assumes nothing.
use Prim.Native.Nat.{ℕ, suc, ◌+◌, ◌-◌, ◌≤◌, ◌<◌}
use mathlib.Core.Path.{◌≡◌, refl, sym, ap, ◌∙◌}
use mathlib.Core.Logic.{⊎_elim}
use mathlib.Core.Bool.{Bool, true, false}
use mathlib.Core.Option as maybe
use mathlib.Core.Option.{none, some}
use mathlib.Core.List.{List, [], ◌∷◌, ◌++◌}
use native.Mathlib.Omega.{arith}
use native.Mathlib.Nat.{sub-zero, add-zero}
use lib.ListN.{length, get_or, set, replicate, length-set, length-append, get_or-replicate}
use lib.Seq.{sets, get_or-set_same, get_or-set_other}
use borrow.Author.Tests.{le-leb, lt-leb, eq-eqb, ne_eqb}
use Rattle.std.specs.Prelude.{Option, None, Result, Ok, Err, MatchResult}
use Rattle.std.specs.Option.{ok_or}
use Rattle.meaning.specs.Lists.{member}
use Rattle.meaning.specs.Placement.{size}
use Rattle.meaning.proofs.Numbers.{same as same_or_not}
use Rattle.fields.specs.Bytes.{same}
use Rattle.fields.specs.Number.{number_of}
use Rattle.fields.specs.Reader.{Step, got, refusal, unless, field, line_end, formed, number}
use Rattle.fields.specs.Leaves.{num_of, wrong_on, StepRead}
use Rattle.fields.specs.declared.Wrong.{Wrong}
use Rattle.fields.specs.declared.Misread.{Misread}
use Rattle.meaning.specs.Answers.{fault_number}
use Rattle.fields.proofs.Words.{number-back}
use Rattle.fields.proofs.Puts.{sets-append}
use Rattle.placement_text.specs.Words.{word_?}
use Rattle.placement_text.specs.Reader.{or_missing, received, entry, entries, MOST, listed, list}
use Rattle.tables.specs.Cells.{length_cell, list_cells, trainee_cells}
use Rattle.placement_text.specs.Code.{Filled, ListRow, CountedRead}
use Rattle.placement_text.proofs.Lists.{entries-back}

-- ---- a refusal and its line

-- the step goes on, or it is refused and the answer has the line l
abbrev pub OnLine : {A : Type 0} → ℕ → Step A → List ℕ → Result A Misread → Type 0
OnLine l step r (Ok v) = step ≡ got v r
OnLine l step r (Err y) = (step ≡ refusal (fault_number y.fault) 0 y.field) × (y.line ≡ l)

pub on-line : {A : Type 0} (l : ℕ) (step : Step A) (r : List ℕ) (x : Result A Wrong) (y : Result A Misread)
    → MatchResult x (λ v. y ≡ Ok v) (λ w. y ≡ Err (wrong_on w l)) → StepRead step r x → OnLine l step r y
on-line l step r (Ok v) y e R = rw e R
on-line l step r (Err w) y e R = rw e (R, refl)

-- ---- a number or `?`

module _ (k hi : ℕ) (q : List ℕ) where
  module _ {w r : List ℕ} (e : field k q ≡ got w r) where
    pub received-mark : same w word_? ≡ true → received k hi q ≡ got none r
    unfolding received or_missing
    received-mark m = rw e (rw (m, or_missing))

    pub received-wrong : same w word_? ≡ false → number_of w ≡ none → received k hi q ≡ refusal 3 0 k
    unfolding received or_missing formed
    received-wrong m n = rw e (rw (m, or_missing) (rw n))

    pub received-large : {v : ℕ} → same w word_? ≡ false → number_of w ≡ some v → hi < v → received k hi q ≡ refusal 4 0 k
    unfolding received or_missing formed unless
    received-large {v} m n h = rw e (rw (m, or_missing) (rw n (rw (lt-leb v hi h))))

    pub received_is : {v : ℕ} → same w word_? ≡ false → number_of w ≡ some v → v ≤ hi → received k hi q ≡ got (some v) r
    unfolding received or_missing formed unless
    received_is {v} m n h = rw e (rw (m, or_missing) (rw n (rw (le-leb v hi h))))

-- what is known of a word after `number_in` and `ok_or`
pub no-number : (o : maybe.Option ℕ) {p : Option ℕ} {y : Result ℕ Wrong} (x : Wrong) {e : Wrong} → p ≡ num_of o → y ≡ ok_or p x → y ≡ Err e → (o ≡ none) × (e ≡ x)
no-number none x {e = e} f g h = let k : ◌≡◌ {A = Result ℕ Wrong} (Err x) (Err e) = ap (λ p. ok_or p x) (sym f) ∙ sym g ∙ h in (refl, cc)
no-number (some v) x {e = e} f g h = let k : ◌≡◌ {A = Result ℕ Wrong} (Ok v) (Err e) = ap (λ p. ok_or p x) (sym f) ∙ sym g ∙ h in absurd (let z : ◌≡◌ {A = ℕ} 0 1 = cc in omega arith)

pub a-number : (o : maybe.Option ℕ) {p : Option ℕ} {y : Result ℕ Wrong} (x : Wrong) {v : ℕ} → p ≡ num_of o → y ≡ ok_or p x → y ≡ Ok v → o ≡ some v
a-number none x {v = v} f g h = let k : ◌≡◌ {A = Result ℕ Wrong} (Err x) (Ok v) = ap (λ p. ok_or p x) (sym f) ∙ sym g ∙ h in absurd (let z : ◌≡◌ {A = ℕ} 0 1 = cc in omega arith)
a-number (some u) x {v = v} f g h = let k : ◌≡◌ {A = Result ℕ Wrong} (Ok u) (Ok v) = ap (λ p. ok_or p x) (sym f) ∙ sym g ∙ h in cc

-- ---- an entry

module _ (k hi : ℕ) (seen q : List ℕ) where
  entry-refused : {x f : ℕ} → number k 1 hi q ≡ refusal x 0 f → entry k hi seen q ≡ refusal x 0 f
  unfolding entry
  entry-refused e = rw e

  entry-twice : {v : ℕ} {r : List ℕ} → number k 1 hi q ≡ got v r → member v seen ≡ true → entry k hi seen q ≡ refusal 5 0 k
  unfolding entry unless
  entry-twice e m = rw e (rw m)

  entry-is : {v : ℕ} {r : List ℕ} → number k 1 hi q ≡ got v r → member v seen ≡ false → entry k hi seen q ≡ got v r
  unfolding entry unless
  entry-is e m = rw e (rw m)

-- ---- the loop over the entries

last-member : (x : ℕ) (xs : List ℕ) (y : ℕ) → x ≡ y → member x (xs ++ y ∷ []) ≡ true
unfolding member
last-member x [] y e = rw (eq-eqb x y e, member)
last-member x (z ∷ xs) y e = ⊎_elim
    (λ (s : x ≡ z). rw (eq-eqb x z s, member))
    (λ (n : x ≡ z → ⊥). rw (ne_eqb x z n, member) (last-member x xs y e))
    (same_or_not x z)

other-member : (x : ℕ) (xs : List ℕ) (y : ℕ) → (x ≡ y → ⊥) → member x (xs ++ y ∷ []) ≡ member x xs
unfolding member
other-member x [] y n = rw (ne_eqb x y n, member)
other-member x (z ∷ xs) y n = ⊎_elim
    (λ (s : x ≡ z). rw (eq-eqb x z s, member))
    (λ (m : x ≡ z → ⊥). rw (ne_eqb x z m, member) (other-member x xs y n))
    (same_or_not x z)

-- the marks are those of the entries read
pub record Marked (marks : List Bool) (es : List ℕ) : Type 0 where
  pub room : length marks ≡ 257
  pub tells : (x : ℕ) → x ≤ 256 → get_or marks x false ≡ member x es

marked_more : {marks : List Bool} {es : List ℕ} (v : ℕ) → v ≤ 256 → Marked marks es → Marked (set marks v true) (es ++ v ∷ [])
marked_more {marks} {es} v h M =
    record {
      room = length-set marks v true ∙ M.room;
      tells = λ x b. ⊎_elim
          (λ (s : x ≡ v). ap (λ z. get_or (set marks v true) z false) s ∙ get_or-set_same marks v true false (omega (arith, M.room)) ∙ sym (last-member x es v s))
          (λ (n : x ≡ v → ⊥). get_or-set_other marks v x true false n ∙ M.tells x b ∙ sym (other-member x es v n))
          (same_or_not x v);
    }

-- after c entries, r is left
pub record EntriesTurn (q : List ℕ) (count k hi start : ℕ) (t₀ t : List ℕ) (marks : List Bool) (c : ℕ) (r : List ℕ) : Type 0 where
  pub es : List ℕ
  pub many : length es ≡ c
  pub cells : t ≡ sets t₀ start es
  pub marked : Marked marks es
  pub goes : entries count k hi [] q ≡ entries (count - c) (k + c) hi es r

pub entries-start : (q : List ℕ) (count k hi start : ℕ) (t : List ℕ) → EntriesTurn q count k hi start t t (replicate 257 false) 0 q
unfolding member
entries-start q count k hi start t =
    record {
      es = [];
      many = refl;
      cells = refl;
      marked = record { room = refl; tells = λ x b. get_or-replicate 257 x false false (omega arith) };
      goes = rw (sub-zero, add-zero);
    }

module _ {q : List ℕ} {count k hi start : ℕ} {t₀ t : List ℕ} {marks : List Bool} {c : ℕ} {r : List ℕ} (T : EntriesTurn q count k hi start t₀ t marks c r) where
  pub entries-refused : {x f : ℕ} → c < count → number (k + c) 1 hi r ≡ refusal x 0 f → entries count k hi [] q ≡ refusal x 0 f
  unfolding entries
  entries-refused h e =
      let n : count - c ≡ suc (count - (c + 1)) = omega arith in
      T.goes ∙ rw n (rw (entry-refused (k + c) hi T.es r e))

  module _ {v : ℕ} {r' : List ℕ} (h : c < count) (b : hi ≤ 256) (e : number (k + c) 1 hi r ≡ got v r') where
    pub entry-range : v ≤ 256
    entry-range = omega (arith, (number-back (k + c) 1 hi r e).high)

    pub entries_twice : get_or marks v false ≡ true → entries count k hi [] q ≡ refusal 5 0 (k + c)
    unfolding entries
    entries_twice m =
        let n : count - c ≡ suc (count - (c + 1)) = omega arith in
        T.goes ∙ rw n (rw (entry-twice (k + c) hi T.es r e (sym (T.marked.tells v entry-range) ∙ m)))

    entries-step : get_or marks v false ≡ false → entries count k hi [] q ≡ entries (count - (c + 1)) (k + (c + 1)) hi (T.es ++ v ∷ []) r'
    unfolding entries
    entries-step m =
        let n : count - c ≡ suc (count - (c + 1)) = omega arith in
        let f : k + c + 1 ≡ k + (c + 1) = omega arith in
        T.goes
        ∙ rw n (rw (entry-is (k + c) hi T.es r e (sym (T.marked.tells v entry-range) ∙ m)) (ap (λ x. entries (count - (c + 1)) x hi (T.es ++ v ∷ []) r') f))

    pub entries-on : get_or marks v false ≡ false → EntriesTurn q count k hi start t₀ (set t (start + c) v) (set marks v true) (c + 1) r'
    entries-on m =
        record {
          es = T.es ++ v ∷ [];
          many = length-append T.es (v ∷ []) ∙ omega (arith, T.many);
          cells =
              ap (λ z. set z (start + c) v) T.cells
              ∙ ap (λ z. set (sets t₀ start T.es) (start + z) v) (sym T.many)
              ∙ sym (sets-append t₀ start T.es (v ∷ []));
          marked = marked_more v entry-range T.marked;
          goes = entries-step m;
        }

  pub entries-done : count ≤ c → Filled (entries count k hi [] q) start t₀ t r
  unfolding entries
  entries-done h =
      let n : count - c ≡ 0 = omega arith in
      record { es = T.es; goes = T.goes ∙ rw n; cells = T.cells }

-- ---- a list

entries-count : (c k hi : ℕ) (q : List ℕ) {es r : List ℕ} → entries c k hi [] q ≡ got es r → length es ≡ c
entries-count c k hi q e = let b = entries-back c k hi [] q e in ap length b.all ∙ b.count

module _ (k hi total c : ℕ) (q : List ℕ) where
  module _ (h : total + c ≤ MOST) where
    pub listed-no-end : {es r : List ℕ} {x f : ℕ} → entries c (k + 1) hi [] q ≡ got es r → line_end (k + 1 + c) r ≡ refusal x 0 f
        → listed k hi total (some c) q ≡ refusal x 0 f
    unfolding listed unless
    listed-no-end e f = rw (le-leb (total + c) MOST h) (rw e (rw f))

    listed-whole : {es r r' : List ℕ} → entries c (k + 1) hi [] q ≡ got es r → line_end (k + 1 + c) r ≡ got tt r' → listed k hi total (some c) q ≡ got (some es) r'
    unfolding listed unless
    listed-whole e f = rw (le-leb (total + c) MOST h) (rw e (rw f))

pub counted-read : (k hi total c start : ℕ) (q t t' r r' : List ℕ) (x : Result (Unit {0}) Wrong) → total + c ≤ MOST
    → Filled (entries c (k + 1) hi [] q) start t t' r → StepRead (line_end (k + 1 + c) r) r' x
    → CountedRead (listed k hi total (some c) q) start c t t' r' x
unfolding size trainee_cells length_cell list_cells
counted-read k hi total c start q t t' r r' (Ok _) h F e =
    let n = entries-count c (k + 1) hi q F.goes in
    record {
      it = some F.es;
      goes = listed-whole k hi total c q h F.goes e;
      head = ap (λ x. start ∷ x ∷ []) (sym n);
      size = sym n;
      stored = F.cells;
    }
counted-read k hi total c start q t t' r r' (Err x) h F e = listed-no-end k hi total c q h F.goes e

module _ (k hi total : ℕ) (q : List ℕ) where
  pub list-missing : {r r' : List ℕ} → received k hi q ≡ got none r → line_end (k + 1) r ≡ got tt r' → list k hi total q ≡ got none r'
  unfolding list listed
  list-missing e f = rw e (rw f)

pub missing-row : (step : Step (maybe.Option (List ℕ))) (start : ℕ) (t : List ℕ) {r : List ℕ} → step ≡ got none r → ListRow step start t t None r
unfolding size trainee_cells length_cell list_cells
missing-row step start t e = record { it = none; goes = e; head = refl; size = refl; stored = refl }
