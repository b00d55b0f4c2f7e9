-- The solver's ruling is true: every strike is in no respecting matching, the table is the best one or there is none, and there always is a ruling.
-- Assumes nothing.
use Prim.Native.Nat.{ℕ, suc, ◌≤◌, ◌<◌}
use mathlib.Core.Path.{◌≡◌, refl, sym, ap, ◌∙◌, subst}
use mathlib.Core.Bool.{true, false, false≢true}
use mathlib.Core.Option.{Option, none, some}
use mathlib.Core.List.{List, [], ◌∷◌, ◌++◌}
use native.Mathlib.Omega.{arith}
use lib.ListN.{length, length-append}
use Rattle.meaning.specs.Lists.{place, Each, each_none}
use Rattle.meaning.specs.Placement.{Order}
use Rattle.meaning.specs.Full.{Full}
use Rattle.meaning.specs.Market.{Market, trainee_list, market, Standing, standing, Lawful, Table, mutual?, Respecting}
use Rattle.meaning.specs.Strikes.{Struck, nothing, allowed, struck, AllowedRecord, start, more, Exhausted, mutual_pairs}
use Rattle.meaning.specs.Endings.{Outcome, placed_by, none_held, none_room, table_of, outcome_of, outcome_fits}
use Rattle.meaning.specs.Solver.{rows_by, sweeps_by, LowestRecord, begun, lower, visit, strikes_of, WholeRuling, ruling_by, solve}
use Rattle.meaning.specs.Truth.{TrueOutcome, TrueStrike, TrueRuling, FirstNamed}
use Rattle.meaning.proofs.Booleans.{never, is_false, some-own, none-some}
use Rattle.meaning.proofs.Lists.{each-end}
use Rattle.meaning.proofs.Pairs.{mutual-is}
use Rattle.meaning.proofs.Sound.{Clear, strike-sound}
use Rattle.meaning.proofs.Full.{LegalFull, LegalOrders, lawful-market, listed}
use Rattle.meaning.proofs.Records.{record-clear, allowed-pair, record-length, same-struck}
use Rattle.meaning.proofs.Sweeping.{Does, nothing-there, does, rows-inv, rows_grow, rows_same, sweeps-inv, sweeps-still, sweeps-same}
use Rattle.meaning.proofs.Visits.{Visited, kept, made, visited, lowest-record}
use Rattle.meaning.proofs.Endings.{first-named, outcome_fits_lem, fits-true, always-ends}
use Rattle.meaning.specs.declared.Reason.{Reason}
use Rattle.meaning.specs.declared.Strike.{Strike}

-- ---- the sweeps

one-longer : (rec : List Strike) (x : Strike) → length rec < length (rec ++ (x ∷ []))
one-longer rec x = omega (arith, length-append rec (x ∷ []))

module _ (K : Market) (O : Standing) (lawful : Lawful K O) (S₀ : Struck) (pairs₀ : (i j : ℕ) → S₀ i j ≡ true → mutual? K i j ≡ true)
    (lists : ℕ → List ℕ) (listed : (i j : ℕ) → K.trainee_rank i j ≡ place (lists i) j) where
  -- nothing may be struck at a place
  abbrev Idle : List Strike → ℕ → ℕ → Type 0
  Idle rec i j = (r : Reason) → allowed K O (struck S₀ rec) i j r ≡ false

  pub keeps : (i j : ℕ) (rec : List Strike) → LowestRecord K O S₀ rec → LowestRecord K O S₀ (visit K O S₀ i j rec)
  keeps i j rec g = go (visit K O S₀ i j rec) (visited K O lawful S₀ i j rec)
    where
      go : (v : List Strike) → Visited K O S₀ i j rec v → LowestRecord K O S₀ v
      go _ (kept h) = g
      go _ (made r l w) = lower (record { trainee = i; depot = j; reason = r }) g l w

  does-there : (i j : ℕ) (rec : List Strike) → LowestRecord K O S₀ rec → Does length Idle i j rec (visit K O S₀ i j rec)
  does-there i j rec g = go (visit K O S₀ i j rec) (visited K O lawful S₀ i j rec)
    where
      go : (v : List Strike) → Visited K O S₀ i j rec v → Does length Idle i j rec v
      go _ (kept h) = nothing-there h
      go _ (made r l w) = does _ (one-longer rec (record { trainee = i; depot = j; reason = r }))

  pub bound : (rec : List Strike) → LowestRecord K O S₀ rec → length rec ≤ mutual_pairs K
  bound rec g = omega (arith, record-length K O lawful S₀ pairs₀ rec (lowest-record K O lawful S₀ rec g))

  -- one sweep keeps the record, never shortens it, and leaves it as it is where it adds nothing
  pub sweep-keeps : (rec : List Strike) → LowestRecord K O S₀ rec → LowestRecord K O S₀ (rows_by (visit K O S₀) lists K.n 1 rec)
  sweep-keeps rec g = rows-inv (visit K O S₀) length Idle (LowestRecord K O S₀) keeps does-there lists K.n 1 rec g

  pub sweep-grows : (rec : List Strike) → LowestRecord K O S₀ rec → length rec ≤ length (rows_by (visit K O S₀) lists K.n 1 rec)
  sweep-grows rec g = rows_grow (visit K O S₀) length Idle (LowestRecord K O S₀) keeps does-there lists K.n 1 rec g

  pub sweep-same : (rec : List Strike) → LowestRecord K O S₀ rec → length (rows_by (visit K O S₀) lists K.n 1 rec) ≡ length rec → rows_by (visit K O S₀) lists K.n 1 rec ≡ rec
  sweep-same rec g h = rows_same (visit K O S₀) length Idle (LowestRecord K O S₀) keeps does-there lists K.n 1 rec g h

  -- the sweeps, from nothing on
  abbrev pub swept : List Strike
  swept = sweeps_by (visit K O S₀) length lists K.n (suc (mutual_pairs K)) []

  pub swept-lowest : LowestRecord K O S₀ swept
  swept-lowest = sweeps-inv (visit K O S₀) length Idle (LowestRecord K O S₀) keeps does-there lists K.n _ [] begun

  pub swept-allowed : AllowedRecord K O S₀ swept
  swept-allowed = lowest-record K O lawful S₀ swept swept-lowest

  pub swept-exhausted : Exhausted K O (struck S₀ swept)
  unfolding Exhausted
  swept-exhausted i j r = is_false _ (λ t.
      let p = mutual-is K i j (allowed-pair K O _ i j r t) in
      never t
      (sweeps-still (visit K O S₀) length Idle (LowestRecord K O S₀) keeps does-there lists K.n (mutual_pairs K) (suc (mutual_pairs K)) bound [] begun (omega arith)
      i (lawful.ranged.trainee_in_range i j p.ranks) j (rw listed at p.ranks) r))

  pub swept_same : rows_by (visit K O S₀) lists K.n 1 swept ≡ swept
  swept_same =
      sweeps-same (visit K O S₀) length Idle (LowestRecord K O S₀) keeps does-there lists K.n (mutual_pairs K) (suc (mutual_pairs K)) bound [] begun (omega arith)

-- ---- the strikes of a full placement

module _ (F : Full) (legal : LegalFull F) (os : List Order) (fine : LegalOrders F os) where
  lawful : Lawful (market F) (standing os)
  lawful = lawful-market F legal os fine

  nothing-pairs : (i j : ℕ) → nothing i j ≡ true → mutual? (market F) i j ≡ true
  nothing-pairs i j h = absurd (false≢true h)

  -- each strike is of a pair left and has the lowest reason and then the smallest witness
  pub strikes-lowest : LowestRecord (market F) (standing os) nothing (strikes_of F os)
  unfolding strikes_of
  strikes-lowest = swept-lowest (market F) (standing os) lawful nothing nothing-pairs (trainee_list F) (listed F)

  pub strikes-allowed : AllowedRecord (market F) (standing os) nothing (strikes_of F os)
  unfolding strikes_of
  strikes-allowed = swept-allowed (market F) (standing os) lawful nothing nothing-pairs (trainee_list F) (listed F)

  -- nothing more may be struck
  pub strikes-exhausted : Exhausted (market F) (standing os) (struck nothing (strikes_of F os))
  unfolding strikes_of
  strikes-exhausted = swept-exhausted (market F) (standing os) lawful nothing nothing-pairs (trainee_list F) (listed F)

  -- one more sweep adds nothing
  pub one-more-sweep : rows_by (visit (market F) (standing os) nothing) (trainee_list F) (market F).n 1 (strikes_of F os) ≡ strikes_of F os
  unfolding strikes_of
  one-more-sweep = swept_same (market F) (standing os) lawful nothing nothing-pairs (trainee_list F) (listed F)

  -- there are at most as many strikes as mutual pairs
  pub few_strikes : length (strikes_of F os) ≤ mutual_pairs (market F)
  few_strikes = omega (arith, record-length (market F) (standing os) lawful nothing nothing-pairs (strikes_of F os) strikes-allowed)

  clear : (rec : List Strike) → AllowedRecord (market F) (standing os) nothing rec → (M : Table) → Respecting (market F) (standing os) M
      → Clear (market F) (struck nothing rec) M
  clear rec g M ok = record-clear (market F) (standing os) lawful nothing M ok (λ i j r h e. absurd (false≢true h)) rec g

  -- every strike of an allowed record is in no respecting matching
  pub record-true : (rec : List Strike) → AllowedRecord (market F) (standing os) nothing rec → Each (TrueStrike (market F) (standing os)) rec
  record-true rec start = each_none
  record-true rec (more {rec = old} x g a) = each-end (record-true old g)
      (λ M ok e. strike-sound (market F) (standing os) lawful (struck nothing old) M ok (clear old g M ok) x.trainee x.depot x.reason a e)

  -- a ruling that the checker's tests allow is true
  pub allowed-true : (r : WholeRuling) → AllowedRecord (market F) (standing os) nothing r.strikes
      → outcome_fits (market F) (trainee_list F) (standing os) os (struck nothing r.strikes) r.outcome ≡ true → TrueRuling (market F) (standing os) r
  allowed-true r g h = record {
    strikes = record-true r.strikes g;
    outcome = fits-true (market F) os lawful (trainee_list F) (listed F) (struck nothing r.strikes) (clear r.strikes g) r.outcome h;
  }

  -- ---- the ruling

  -- an ending always fits: the solver always rules
  pub always-ruled : (r : WholeRuling) × (solve F os ≡ some r)
  unfolding solve ruling_by
  always-ruled =
      let e = always-ends (market F) os lawful (trainee_list F) (listed F) (struck nothing (strikes_of F os)) strikes-exhausted in
      (record { trainees = (market F).n; strikes = strikes_of F os; outcome = e.0 }, ap (ruling_by (market F).n (strikes_of F os)) e.1)

  -- what the solver's ruling is made of
  pub record Solved (r : WholeRuling) : Type 0 where
    pub trainees : r.trainees ≡ (market F).n
    pub strikes : r.strikes ≡ strikes_of F os
    pub outcome : outcome_of (market F) (trainee_list F) os (struck nothing (strikes_of F os)) ≡ some r.outcome

  pub solved : (r : WholeRuling) → solve F os ≡ some r → Solved r
  unfolding solve ruling_by
  solved r h = go (outcome_of (market F) (trainee_list F) os (struck nothing (strikes_of F os))) refl h
    where
      go : (o : Option Outcome) → outcome_of (market F) (trainee_list F) os (struck nothing (strikes_of F os)) ≡ o
          → ruling_by (market F).n (strikes_of F os) o ≡ some r → Solved r
      go none e q = none-some q
      go (some x) e q =
          let w : record { trainees = (market F).n; strikes = strikes_of F os; outcome = x } ≡ r = some-own q in
          record {
            trainees = sym (ap (λ (v : WholeRuling). v.trainees) w);
            strikes = sym (ap (λ (v : WholeRuling). v.strikes) w);
            outcome = e ∙ ap (λ (v : WholeRuling). some v.outcome) w;
          }

  -- the solver's ruling is one that the checker's tests allow
  pub solved-allowed : (r : WholeRuling) → solve F os ≡ some r → AllowedRecord (market F) (standing os) nothing r.strikes
  solved-allowed r h = rw (solved r h).strikes strikes-allowed

  pub solved-fits : (r : WholeRuling) → solve F os ≡ some r
      → outcome_fits (market F) (trainee_list F) (standing os) os (struck nothing r.strikes) r.outcome ≡ true
  solved-fits r h =
      let w = solved r h in
      rw w.strikes (outcome_fits_lem (market F) (trainee_list F) os (struck nothing (strikes_of F os)) r.outcome w.outcome)

  -- the ruling is true
  pub solved-true : (r : WholeRuling) → solve F os ≡ some r → TrueRuling (market F) (standing os) r
  solved-true r h = allowed-true r (solved-allowed r h) (solved-fits r h)

  -- the pair that a none names is the first of its kind
  pub solved-first : (r : WholeRuling) → solve F os ≡ some r → FirstNamed (market F) (trainee_list F) os (struck nothing (strikes_of F os)) r.outcome
  solved-first r h = first-named (market F) (trainee_list F) os (struck nothing (strikes_of F os)) r.outcome (solved r h).outcome

  -- a table is ruled exactly if some respecting matching exists
  pub placed-then-exists : (r : WholeRuling) → solve F os ≡ some r → (l : List ℕ) → r.outcome ≡ placed_by l → Respecting (market F) (standing os) (table_of l)
  placed-then-exists r h l e =
      let t : TrueOutcome (market F) (standing os) (placed_by l) = subst (TrueOutcome (market F) (standing os)) e (solved-true r h).outcome in
      t.respecting

  pub exists-then-placed : (r : WholeRuling) → solve F os ≡ some r → (M : Table) → Respecting (market F) (standing os) M → (l : List ℕ) × (r.outcome ≡ placed_by l)
  exists-then-placed r h M ok = go r.outcome refl (solved-true r h).outcome
    where
      go : (e : Outcome) → r.outcome ≡ e → TrueOutcome (market F) (standing os) e → (l : List ℕ) × (r.outcome ≡ placed_by l)
      go (placed_by l) q t = (l, q)
      go (none_held i j) q t = absurd (t M ok)
      go (none_room i j) q t = absurd (t M ok)

  -- ---- any order, the same pairs left

  -- an allowed record after which nothing may be struck has struck what the solver strikes
  pub same-as-solver : (rec : List Strike) → AllowedRecord (market F) (standing os) nothing rec → Exhausted (market F) (standing os) (struck nothing rec)
      → struck nothing rec ≡ struck nothing (strikes_of F os)
  same-as-solver rec g e = same-struck (market F) (standing os) lawful nothing rec (strikes_of F os) g strikes-allowed e strikes-exhausted
