-- Without held and barred pairs a stable matching exists, and the solver rules it: no depot that a pair was struck from keeps an open post.
-- Assumes nothing.
use Prim.Native.Nat.{ℕ, zero, suc, ◌≤◌, ◌<◌}
use mathlib.Core.Path.{◌≡◌, refl, subst}
use mathlib.Core.Logic.{⊎_elim}
use mathlib.Core.Bool.{Bool, true, false, false≢true}
use mathlib.Core.Option.{some}
use mathlib.Core.List.{List, [], ◌∷◌, ◌++◌}
use native.Mathlib.Omega.{arith}
use native.Mathlib.Nat.{le_trans}
use lib.Dec.{eqb}
use borrow.Author.Tests.{leb-true, eq-eqb}
use Rattle.meaning.specs.Numbers.{◌&◌, count}
use Rattle.meaning.specs.Lists.{each_none, some?}
use Rattle.meaning.specs.Full.{Full}
use Rattle.meaning.specs.Market.{Market, trainee_list, market, Standing, standing, Lawful, Table, Mutual, placed, Stable, Respecting}
use Rattle.meaning.specs.Strikes.{Struck, nothing, above_struck, ahead, fits, struck, AllowedRecord, start, more, Exhausted, Left}
use Rattle.meaning.specs.Endings.{placed_by, left_of, NoneRoom}
use Rattle.meaning.specs.Solver.{strikes_of, WholeRuling, solve}
use Rattle.meaning.proofs.Booleans.{true-or-false, never, and_left, and_right, and_intro}
use Rattle.meaning.proofs.Numbers.{same, count-mono, Find, found, none_found, find}
use Rattle.meaning.proofs.Pairs.{ahead-pair, ahead-less, ahead-intro, above-use, down-use}
use Rattle.meaning.proofs.Complete.{Fitting, respecting, room, fitting}
use Rattle.meaning.proofs.Full.{LegalFull, lawful-market, listed}
use Rattle.meaning.proofs.Left.{left-table}
use Rattle.meaning.proofs.Records.{struck-last, struck-keeps, allowed-fits, fits-mono}
use Rattle.meaning.proofs.Solver.{strikes-allowed, strikes-exhausted, exists-then-placed}
use Rattle.meaning.specs.declared.Reason.{Reason}
use Rattle.meaning.specs.declared.Reason.TheVariants.{Barred, HeldElsewhere, PostsGone, Passed}
use Rattle.meaning.specs.declared.Strike.{Strike}

-- ---- every struck pair still fits a reason

pub record StillFits (K : Market) (O : Standing) (S : Struck) (i j : ℕ) : Type 0 where
  pub reason : Reason
  pub fit : fits K O S i j reason ≡ true

pub record-fits : (K : Market) → (O : Standing) → Lawful K O → (rec : List Strike) → AllowedRecord K O nothing rec → (i j : ℕ) → struck nothing rec i j ≡ true → StillFits K O (struck nothing rec) i j
unfolding struck
record-fits K O lawful rec start i j h = absurd (false≢true h)
record-fits K O lawful rec (more {rec = old} x g a) i j h = ⊎_elim
    (λ t. let w = record-fits K O lawful old g i j t in
    record { reason = w.reason; fit = fits-mono K O lawful (struck nothing old) (struck nothing (old ++ (x ∷ []))) (λ i j u. struck-keeps nothing old x i j u) i j w.reason w.fit })
    (λ q. record {
      reason = x.reason;
      fit = fits-mono K O lawful (struck nothing old) (struck nothing (old ++ (x ∷ []))) (λ i j u. struck-keeps nothing old x i j u) i j x.reason
          (subst (λ y. fits K O (struck nothing old) i y x.reason ≡ true) q.1 (subst (λ y. fits K O (struck nothing old) y x.depot x.reason ≡ true) q.0 (allowed-fits K O (struck nothing old) _ _ _ a)));
    })
    (struck-last nothing old x i j h)

-- ---- without orders no depot that refused someone has an open post

module _ (K : Market) (O : Standing) (lawful : Lawful K O) (unheld : (i j : ℕ) → O.held i j ≡ false) (unbarred : (i j : ℕ) → O.barred i j ≡ false)
    (S : Struck) (still : (i j : ℕ) → S i j ≡ true → StillFits K O S i j) (L : Table) (left : Left K S L) where
  -- who is at j in L and ranked by j above_struck i
  at_ahead : ℕ → ℕ → ℕ → Bool
  at_ahead i j k = eqb (L k) j & ahead K i j k

  pass_on : (i j k : ℕ) → ahead K i j k ≡ true → count K.n (at_ahead k j) ≤ count K.n (at_ahead i j)
  unfolding at_ahead
  pass_on i j k a = count-mono K.n _ _ (λ k' _ t.
      let b = and_right (eqb (L k') j) _ t in
      and_intro (and_left _ _ t) (ahead-intro K i j k' (ahead-pair K k j k' b) (omega (arith, ahead-less K k j k' b, ahead-less K i j k a))))

  sits-at : (k j : ℕ) → Mutual K k j → above_struck K S k j ≡ true → S k j ≡ false → L k ≡ j
  sits-at k j p a u =
      let r = lawful.ranged.trainee_in_range k j p.ranks in
      let s = left.sits k j p u in
      let pl = left.pairs k r s in
      ⊎_elim
      (λ (e : K.trainee_rank k (L k) ≡ K.trainee_rank k j). lawful.strict.trainee_strict k (L k) j pl.ranks e)
      (λ ne. absurd (never (above-use K lawful.ranged S k j (L k) a pl (omega (arith, left.best k j p u))) (left.unstruck k r s)))
      (same (K.trainee_rank k (L k)) (K.trainee_rank k j))

  no-open-post : (d i j : ℕ) → K.depot_rank j i < d → S i j ≡ true → K.posts j ≤ count K.n (at_ahead i j)
  unfolding fits at_ahead
  no-open-post zero i j l h = absurd (omega arith)
  no-open-post (suc d) i j l h = go (still i j h).reason (still i j h).fit
      (λ k a u. le_trans (no-open-post d k j (omega (arith, ahead-less K i j k a)) u) (pass_on i j k a))
    where
      go : (r : Reason) → fits K O S i j r ≡ true
          → ((k : ℕ) → ahead K i j k ≡ true → S k j ≡ true → K.posts j ≤ count K.n (at_ahead i j))
          → K.posts j ≤ count K.n (at_ahead i j)
      go Barred f w = absurd (never f (unbarred i j))
      go (HeldElsewhere j') f w = absurd (never (and_left _ _ f) (unheld i j'))
      go (Passed k) f w =
          let a = and_left _ _ f in
          w k a (down-use K lawful.ranged S k j j (and_right (ahead K i j k) _ f) (ahead-pair K i j k a) (omega arith))
      go PostsGone f w = seek (find K.n (λ k. (ahead K i j k & above_struck K S k j) & S k j))
        where
          seek : Find K.n (λ k. (ahead K i j k & above_struck K S k j) & S k j) → K.posts j ≤ count K.n (at_ahead i j)
          seek (found k r t) = w k (and_left _ _ (and_left _ _ t)) (and_right (ahead K i j k & above_struck K S k j) _ t)
          seek (none_found n) = le_trans (leb-true _ _ f) (count-mono K.n (λ k. ahead K i j k & above_struck K S k j) (at_ahead i j) (λ k r t.
              let a = and_left _ _ t in
              and_intro (eq-eqb _ _ (sits-at k j (ahead-pair K i j k a) (and_right (ahead K i j k) _ t)
              (⊎_elim (λ u. absurd (never (and_intro t u) (n k r))) (λ v. v) (true-or-false (S k j))))) a))

  room-taken : (i j : ℕ) → NoneRoom K S L i j → ⊥
  unfolding placed at_ahead
  room-taken i j w =
      omega (arith, w.room, no-open-post (suc (K.depot_rank j i)) i j (omega arith) (down-use K lawful.ranged S i j j w.down w.pair (omega arith)), count-mono K.n (at_ahead i j) (λ k. eqb (L k) j) (λ k _ t. and_left _ _ t))

  -- so the left table of an exhausted record is a stable matching
  pub exists : Exhausted K O S → Respecting K O L
  exists done = go (fitting K O lawful S done L left (record { pair = λ i j h. absurd (never h (unheld i j)); unstruck = λ i j h. absurd (never h (unheld i j)) }))
    where
      go : Fitting K O S L → Respecting K O L
      go (respecting ok) = ok
      go (room i j w) = absurd (room-taken i j w)

-- ---- the solver without orders

module _ (F : Full) (legal : LegalFull F) where
  pub stable-exists : Respecting (market F) (standing []) (left_of (market F) (trainee_list F) (struck nothing (strikes_of F [])))
  unfolding standing some?
  stable-exists =
      exists (market F) (standing []) lawful (λ i j. refl) (λ i j. refl) (struck nothing (strikes_of F []))
      (record-fits (market F) (standing []) lawful (strikes_of F []) (strikes-allowed F legal [] each_none))
      (left_of (market F) (trainee_list F) (struck nothing (strikes_of F [])))
      (left-table (market F) lawful.ranged (trainee_list F) (listed F) (struck nothing (strikes_of F [])))
      (strikes-exhausted F legal [] each_none)
    where
      lawful : Lawful (market F) (standing [])
      lawful = lawful-market F legal [] each_none

  -- without orders a table is always ruled
  pub always-placed : (r : WholeRuling) → solve F [] ≡ some r → (l : List ℕ) × (r.outcome ≡ placed_by l)
  always-placed r h = exists-then-placed F legal [] each_none r h _ stable-exists

  -- without orders, respecting is stable
  pub stable-respecting : (M : Table) → Stable (market F) M → Respecting (market F) (standing []) M
  unfolding standing some?
  stable-respecting M s = record { stable = s; holds = λ i j h. absurd (false≢true h); avoids = λ i j h e. absurd (false≢true h) }
