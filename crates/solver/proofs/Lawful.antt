-- Full tables and their order rows mean a lawful market.
-- Assumes nothing.
use Prim.Native.Nat.{ℕ, ◌≤◌}
use mathlib.Core.Path.{◌≡◌, refl}
use mathlib.Core.Bool.{true, false≢true}
use mathlib.Core.List.{List}
use native.Mathlib.Nat.{le_trans}
use Rattle.meaning.specs.Numbers.{In}
use Rattle.meaning.specs.Lists.{place}
use Rattle.meaning.specs.Market.{Market, Lawful, mutual?}
use Rattle.meaning.specs.Strikes.{nothing, mutual_pairs}
use Rattle.meaning.proofs.Booleans.{and_left, and_right}
use Rattle.meaning.proofs.Entries.{pairs-listed}
use Rattle.tables.specs.Decode.{within}
use Rattle.tables.proofs.Tests.{within_in}
use Rattle.ranks.specs.View.{n_of, m_of, wishes_of, market_of, FullTables}
use Rattle.ranks.proofs.Tables.{ranged-tables, strict-tables}
use Rattle.reasons.specs.Rows.{row_pairs, standing_of}

module _ (h e holds bars : List ℕ) (ft : FullTables h e) where
  pair-trainee : (rows : List ℕ) (i j : ℕ) → row_pairs (n_of h) (m_of h) rows i j ≡ true → In (n_of h) i
  unfolding row_pairs
  pair-trainee rows i j t = within_in (n_of h) i (and_left _ _ t)

  pair-depot : (rows : List ℕ) (i j : ℕ) → row_pairs (n_of h) (m_of h) rows i j ≡ true → In (m_of h) j
  unfolding row_pairs
  pair-depot rows i j t = within_in (m_of h) j (and_left _ _ (and_right (within (n_of h) i) _ t))

  pub lawful-tables : Lawful (market_of h e) (standing_of h holds bars)
  unfolding market_of standing_of
  lawful-tables = record {
    ranged = ranged-tables h e ft;
    strict = strict-tables h e ft;
    orders = record {
      held_trainee = pair-trainee holds;
      held_depot = pair-depot holds;
      barred_trainee = pair-trainee bars;
      barred_depot = pair-depot bars;
    };
  }

pub listed-tables : (h e : List ℕ) (i j : ℕ) → (market_of h e).trainee_rank i j ≡ place (wishes_of h e i) j
unfolding market_of
listed-tables h e i j = refl

pub nothing-mutual : (K : Market) (i j : ℕ) → nothing i j ≡ true → mutual? K i j ≡ true
nothing-mutual K i j t = absurd (false≢true t)

-- no more mutual pairs than entries of the trainees' lists
pub pairs-few : (h e : List ℕ) → FullTables h e → mutual_pairs (market_of h e) ≤ 4096
unfolding market_of
pairs-few h e ft = le_trans (pairs-listed (market_of h e) (wishes_of h e) (listed-tables h e)) ft.few_entries
