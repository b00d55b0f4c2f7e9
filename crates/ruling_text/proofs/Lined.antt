-- What is wrong in a line is wrong on its line of the text.
-- Assumes nothing.
use Prim.Native.Nat.{ℕ}
use mathlib.Core.Path.{◌≡◌, sym, ap, ◌∙◌}
use Rattle.std.specs.Prelude.{Result, Ok, Err}
use Rattle.std.specs.Result.{MatchResult}
use Rattle.meaning.specs.Answers.{fault_number}
use Rattle.fields.specs.Reader.{Step, refusal}
use Rattle.fields.specs.Leaves.{wrong_on}
use Rattle.fields.specs.declared.Wrong.{Wrong}
use Rattle.fields.specs.declared.Misread.{Misread}

-- a step that is refused at a field of a line, and what is told of the text then
pub record Told {A : Type 0} (step : Step A) (l : ℕ) (x : Misread) : Type 0 where
  pub refused : step ≡ refusal (fault_number x.fault) 0 x.field
  pub on : l ≡ x.line

told : {A : Type 0} {step : Step A} {w : Wrong} (l : ℕ) {x : Misread} → step ≡ refusal (fault_number w.fault) 0 w.field → x ≡ wrong_on w l → Told step l x
told l g e =
    record {
      refused = g ∙ ap (λ z. refusal (fault_number z.fault) 0 z.field) (sym e);
      on = sym (ap (λ z. z.line) e);
    }

-- v is what a reader of a line answers, of which T holds, and what is wrong there became x
pub lined : {A V : Type 0} {step : Step A} (l : ℕ) (T : Result V Wrong → Type 0) {v : Result V Wrong} {x : Misread} {P : Wrong → Type 0}
    → MatchResult v (λ a. Err x ≡ Ok a) P → ((w : Wrong) → P w → x ≡ wrong_on w l) → T v
    → ((w : Wrong) → T (Err w) → step ≡ refusal (fault_number w.fault) 0 w.field) → Told step l x
lined l T {v = Ok a} h g R f = absurd (cc)
lined l T {v = Err w} h g R f = told l (f w R) (g w h)

-- and where nothing is wrong, T holds of what was read
pub passed : {V : Type 0} (T : Result V Wrong → Type 0) {v : Result V Wrong} {a : V} {P : Wrong → Type 0} → MatchResult v (λ b. ◌≡◌ {A = Result V Misread} (Ok a) (Ok b)) P → ((w : Wrong) → P w → ⊥) → T v → T (Ok a)
passed T {v = Ok b} {a = a} h g R = let e : a ≡ b = cc in rw e R
passed T {v = Err w} h g R = absurd (g w h)
