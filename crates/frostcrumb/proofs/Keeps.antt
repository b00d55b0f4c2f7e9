-- Every ruling of solve keeps demand 3, and solve has one answer for what it is lent.
-- Assumes nothing.
use Prim.Native.Nat.{ℕ}
use mathlib.Core.Path.{◌≡◌, refl, sym, ap, ◌∙◌}
use mathlib.Core.Bool.{Bool, true, false}
use mathlib.Core.Option.{Option, none, some}
use mathlib.Core.List.{List}
use native.Mathlib.Omega.{arith}
use lib.ListN.{length}
use Rattle.meaning.specs.Placement.{Placement}
use Rattle.meaning.specs.Full.{Full, Received, whole, lacking, and_then, full}
use Rattle.meaning.specs.Solver.{ruled}
use Rattle.meaning.specs.declared.Strike.{Strike}
use Rattle.std.specs.Prelude.{Result, Ok, Err}
use Rattle.meaning.specs.declared.Refusal.{Refusal}
use Rattle.meaning.specs.declared.Ruling.{Ruling}
use Rattle.meaning.specs.Answers.{refusal}
use Rattle.meaning.proofs.Booleans.{some-own}
use Rattle.meaning.proofs.Demands.{solver-keeps}
use Rattle.tables.specs.Decode.{placement_of}
use Rattle.tables.proofs.Round.{tables-back}
use Rattle.solver.specs.Answer.{Given, refusing, solve_if_full, solve_if_read, solve_of}
use Rattle.rulings.specs.Held.{roomy}
use Rattle.frostcrumb.specs.Solve.{Left, leaving_if, solving}
use Rattle.frostcrumb.specs.Keeps.{SolveKeeps}

module _ (h e o t : List ℕ) (log : List Strike) (l : Left) (r : Ruling) (rules : l.answer ≡ Ok r) where
  -- a refusal is no ruling
  not-refused : (number line : ℕ) → leaving_if (some (refusing number line t)) log ≡ some l → SolveKeeps h e o t log l r
  unfolding leaving_if
  not-refused number line q = absurd (let x : l.answer ≡ Err (refusal number line) = ap (λ (y : Left). y.answer) (sym (some-own q)) in let z : ◌≡◌ {A = ℕ} 0 1 = cc in omega arith)

  -- the ruling of a placement with everything received
  whole-keeps : (p : Placement) (F : Full) → placement_of h e o ≡ some p → full p ≡ whole F → leaving_if (solve_if_full (ruled p) t) log ≡ some l → SolveKeeps h e o t log l r
  unfolding leaving_if solve_if_full
  whole-keeps p F k w q =
      let k2 = solver-keeps p (tables-back h e o p k).legal F w in
      let y : leaving_if (solve_if_full (whole (some k2.0)) t) log ≡ some l = sym (rw k2.1.rules) ∙ q in
      let z = some-own y in
      record {
        placement = p;
        its_full = F;
        held = k;
        received = w;
        ruling = k2.0;
        head = ruling-own (sym rules ∙ sym (ap (λ (x : Left). x.answer) z));
        strikes = sym (ap (λ (x : Left). x.log) z);
        table = sym (ap (λ (x : Left). x.table) z);
        keeps = k2.1;
      }
    where
      ruling-own : {a b : Ruling} → ◌≡◌ {A = Result Ruling Refusal} (Ok a) (Ok b) → a ≡ b
      ruling-own q = cc

  pub solve-keeps : solving h e o t log ≡ some l → SolveKeeps h e o t log l r
  unfolding solving solve_of solve_if_read solve_if_full ruled and_then
  solve-keeps q = by-room (roomy h e o (length t) (length log)) refl
    where
      by-full : (p : Placement) → placement_of h e o ≡ some p → (f : Received Full) → full p ≡ f → leaving_if (solve_if_full (ruled p) t) log ≡ some l → SolveKeeps h e o t log l r
      by-full p k (whole F) x y = whole-keeps p F k x y
      by-full p k (lacking n) x y =
          let is : solve_if_full (ruled p) t ≡ some (refusing 7 n t) = rw x in
          not-refused 7 n (sym (ap (λ (g : Option Given). leaving_if g log) is) ∙ y)

      by_read : (s : Option Placement) → placement_of h e o ≡ s → leaving_if (solve_if_read s t) log ≡ some l → SolveKeeps h e o t log l r
      by_read none x y = not-refused 8 0 y
      by_read (some p) x y = by-full p x (full p) refl y

      by-room : (b : Bool) → roomy h e o (length t) (length log) ≡ b → SolveKeeps h e o t log l r
      by-room true x =
          let is : solve_of h e o t (length log) ≡ solve_if_read (placement_of h e o) t = rw (x, solve_of) in
          by_read (placement_of h e o) refl (sym (ap (λ (g : Option Given). leaving_if g log) is) ∙ q)
      by-room false x =
          let is : solve_of h e o t (length log) ≡ some (refusing 1 0 t) = rw (x, solve_of) in
          not-refused 1 0 (sym (ap (λ (g : Option Given). leaving_if g log) is) ∙ q)

-- no second answer, table or record fits
pub solve-one : (h e o t : List ℕ) (log : List Strike) (l l' : Left) → solving h e o t log ≡ some l → solving h e o t log ≡ some l' → l ≡ l'
solve-one h e o t log l l' q q' = some-own (sym q ∙ q')
