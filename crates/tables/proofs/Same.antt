-- What the types of lent tables say of the tables that were lent.
-- Assumes nothing.
use Prim.Native.Nat.{ℕ}
use mathlib.Core.Path.{◌≡◌, refl, sym, ap, ◌∙◌}
use mathlib.Core.Bool.{Bool, true}
use mathlib.Core.List.{List}
use Rattle.tables.specs.Answers.{sized, Same}
use Rattle.tables.specs.Decode.{placement_of}
use Rattle.tables.specs.Walk.{is_some}

module _ {h' e' o' h e o : List ℕ} (s : Same h' e' o' h e o) where
  pub same-of : {A : Type 0} (f : List ℕ → List ℕ → List ℕ → A) → f h' e' o' ≡ f h e o
  same-of f = rw (s.0, s.1, s.2) refl

  pub same-sized : sized h' e' o' ≡ true → sized h e o ≡ true
  same-sized k = sym (same-of sized) ∙ k

  pub same-held : {q : Bool} → is_some (placement_of h' e' o') ≡ q → is_some (placement_of h e o) ≡ q
  same-held k = sym (ap is_some (same-of placement_of)) ∙ k

  -- the same through two values
  pub same-on : {h'' e'' o'' : List ℕ} → Same h'' e'' o'' h' e' o' → Same h'' e'' o'' h e o
  same-on t = (t.0 ∙ s.0, t.1 ∙ s.1, t.2 ∙ s.2)
