-- What a visit of one place does: it strikes by the lowest reason and then the smallest witness, or nothing may be struck there.
-- Assumes nothing.
use Prim.Native.Nat.{ℕ, ◌≤◌, ◌<◌}
use mathlib.Core.Path.{◌≡◌, refl}
use mathlib.Core.Logic.{⊎_elim}
use mathlib.Core.Bool.{Bool, true, false, not}
use mathlib.Core.Option.{Option, none, some}
use mathlib.Core.List.{List, [], ◌∷◌, ◌++◌}
use native.Mathlib.Omega.{arith}
use Rattle.meaning.specs.Numbers.{In}
use Rattle.meaning.specs.Market.{Market, Standing, Lawful, mutual?}
use Rattle.meaning.specs.Strikes.{Struck, fits, allowed, struck, AllowedRecord, start, more, left?}
use Rattle.meaning.specs.Answers.{reason_number, reason_witness}
use Rattle.meaning.specs.Solver.{lowest, choose, LowestReason, LowestRecord, begun, lower, strike_for, visit}
use Rattle.meaning.proofs.Booleans.{never, is_false, and_left, and_right, and_intro}
use Rattle.meaning.proofs.Numbers.{order, Smallest, least, no-least, smallest-is}
use Rattle.meaning.proofs.Pairs.{ahead-pair}
use Rattle.meaning.specs.declared.Reason.{Reason}
use Rattle.meaning.specs.declared.Reason.TheVariants.{Barred, HeldElsewhere, PostsGone, Passed}
use Rattle.meaning.specs.declared.Strike.{Strike}

pub data Choice (K : Market) (O : Standing) (S : Struck) (i j : ℕ) : Option Reason → Type 0 where
  chosen : (r : Reason) → LowestReason K O S i j r → Choice K O S i j (some r)
  no-reason : ((r : Reason) → fits K O S i j r ≡ false) → Choice K O S i j none

module _ (K : Market) (O : Standing) (lawful : Lawful K O) (S : Struck) (i j : ℕ) where
  -- the depot or the trainee that a reason names is one
  pub elsewhere-in : (j' : ℕ) → fits K O S i j (HeldElsewhere j') ≡ true → In K.m j'
  unfolding fits
  elsewhere-in j' t = lawful.orders.held_depot i j' (and_left _ _ t)

  pub passed-in : (k : ℕ) → fits K O S i j (Passed k) ≡ true → In K.n k
  unfolding fits
  passed-in k t = lawful.ranged.trainee_in_range k j (ahead-pair K i j k (and_left _ _ t)).ranks

  -- the least that fits is at most each that fits
  least-le : {n : ℕ} (f : ℕ → Bool) (k : ℕ) → ((k' : ℕ) → In n k' → k' < k → f k' ≡ false) → (k' : ℕ) → In n k' → f k' ≡ true → k ≤ k'
  least-le f k h k' r t = ⊎_elim (λ l. l) (λ (l : k' < k). absurd (never t (h k' r l))) (order k k')

  pub choice : Choice K O S i j (choose K O S i j)
  unfolding choose lowest reason_number reason_witness
  choice = go (fits K O S i j Barred) refl _ (smallest-is K.m (λ j'. fits K O S i j (HeldElsewhere j')))
      (fits K O S i j PostsGone) refl _ (smallest-is K.n (λ k. fits K O S i j (Passed k)))
    where
      go : (a : Bool) → fits K O S i j Barred ≡ a
          → (w : Option ℕ) → Smallest K.m (λ j'. fits K O S i j (HeldElsewhere j')) w
          → (b : Bool) → fits K O S i j PostsGone ≡ b
          → (v : Option ℕ) → Smallest K.n (λ k. fits K O S i j (Passed k)) v
          → Choice K O S i j (lowest a w b v)
      go true ea w vw b eb v vv = chosen Barred (record { fit = ea; number = number; witness = witness })
        where
          number : (r : Reason) → fits K O S i j r ≡ true → reason_number Barred ≤ reason_number r
          number Barred t = omega arith
          number (HeldElsewhere _) t = omega arith
          number PostsGone t = omega arith
          number (Passed _) t = omega arith

          witness : (r : Reason) → fits K O S i j r ≡ true → reason_number Barred ≡ reason_number r → reason_witness Barred ≤ reason_witness r
          witness r t e = omega arith
      go false ea _ (least k r t h) b eb v vv = chosen (HeldElsewhere k) (record { fit = t; number = number; witness = witness })
        where
          number : (r : Reason) → fits K O S i j r ≡ true → reason_number (HeldElsewhere k) ≤ reason_number r
          number Barred t = absurd (never t ea)
          number (HeldElsewhere _) t = omega arith
          number PostsGone t = omega arith
          number (Passed _) t = omega arith

          witness : (r : Reason) → fits K O S i j r ≡ true → reason_number (HeldElsewhere k) ≡ reason_number r → reason_witness (HeldElsewhere k) ≤ reason_witness r
          witness Barred t e = absurd (omega arith)
          witness (HeldElsewhere k') t e = least-le _ k h k' (elsewhere-in k' t) t
          witness PostsGone t e = absurd (omega arith)
          witness (Passed _) t e = absurd (omega arith)
      go false ea _ (no-least hw) true eb v vv = chosen PostsGone (record { fit = eb; number = number; witness = witness })
        where
          number : (r : Reason) → fits K O S i j r ≡ true → reason_number PostsGone ≤ reason_number r
          number Barred t = absurd (never t ea)
          number (HeldElsewhere k) t = absurd (never t (hw k (elsewhere-in k t)))
          number PostsGone t = omega arith
          number (Passed _) t = omega arith

          witness : (r : Reason) → fits K O S i j r ≡ true → reason_number PostsGone ≡ reason_number r → reason_witness PostsGone ≤ reason_witness r
          witness r t e = omega arith
      go false ea _ (no-least hw) false eb _ (least k r t h) = chosen (Passed k) (record { fit = t; number = number; witness = witness })
        where
          number : (r : Reason) → fits K O S i j r ≡ true → reason_number (Passed k) ≤ reason_number r
          number Barred t = absurd (never t ea)
          number (HeldElsewhere k') t = absurd (never t (hw k' (elsewhere-in k' t)))
          number PostsGone t = absurd (never t eb)
          number (Passed _) t = omega arith

          witness : (r : Reason) → fits K O S i j r ≡ true → reason_number (Passed k) ≡ reason_number r → reason_witness (Passed k) ≤ reason_witness r
          witness Barred t e = absurd (omega arith)
          witness (HeldElsewhere _) t e = absurd (omega arith)
          witness PostsGone t e = absurd (omega arith)
          witness (Passed k') t e = least-le _ k h k' (passed-in k' t) t
      go false ea _ (no-least hw) false eb _ (no-least hv) = no-reason each
        where
          each : (r : Reason) → fits K O S i j r ≡ false
          each Barred = ea
          each (HeldElsewhere k) = is_false _ (λ t. never t (hw k (elsewhere-in k t)))
          each PostsGone = eb
          each (Passed k) = is_false _ (λ t. never t (hv k (passed-in k t)))

-- what a visit of (i, j) leaves of the record
pub data Visited (K : Market) (O : Standing) (S₀ : Struck) (i j : ℕ) (rec : List Strike) : List Strike → Type 0 where
  kept : ((r : Reason) → allowed K O (struck S₀ rec) i j r ≡ false) → Visited K O S₀ i j rec rec
  made : (r : Reason) → left? K (struck S₀ rec) i j ≡ true → LowestReason K O (struck S₀ rec) i j r
      → Visited K O S₀ i j rec (rec ++ (record { trainee = i; depot = j; reason = r } ∷ []))

module _ (K : Market) (O : Standing) (lawful : Lawful K O) (S₀ : Struck) where
  pub visited : (i j : ℕ) (rec : List Strike) → Visited K O S₀ i j rec (visit K O S₀ i j rec)
  unfolding visit allowed left? strike_for
  visited i j rec = go (left? K (struck S₀ rec) i j) refl (choose K O (struck S₀ rec) i j) (choice K O lawful (struck S₀ rec) i j)
    where
      go : (b : Bool) → left? K (struck S₀ rec) i j ≡ b → (o : Option Reason) → Choice K O (struck S₀ rec) i j o
          → Visited K O S₀ i j rec (elim b [ true ↦ strike_for i j rec o | false ↦ rec ])
      go false e o c = kept (λ r. is_false _ (λ t. never (and_intro (and_left _ _ t) (and_left _ _ (and_right (mutual? K i j) _ t))) e))
      go true e none (no-reason h) = kept (λ r. is_false _ (λ t. never (and_right (not (struck S₀ rec i j)) _ (and_right (mutual? K i j) _ t)) (h r)))
      go true e (some r) (chosen s w) = made s e w

  -- what is struck by the lowest reason is allowed
  pub lowest-allowed : (S : Struck) (i j : ℕ) (r : Reason) → left? K S i j ≡ true → LowestReason K O S i j r → allowed K O S i j r ≡ true
  unfolding allowed left?
  lowest-allowed S i j r l w = and_intro (and_left _ _ l) (and_intro (and_right (mutual? K i j) _ l) w.fit)

  pub lowest-record : (rec : List Strike) → LowestRecord K O S₀ rec → AllowedRecord K O S₀ rec
  lowest-record rec begun = start
  lowest-record rec (lower {rec = old} x g l w) = more x (lowest-record old g) (lowest-allowed (struck S₀ old) x.trainee x.depot x.reason l w)
