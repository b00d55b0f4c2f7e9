-- Where everything was received, the tables' market is the market of the placement that they hold, and full tables they are.
-- Assumes nothing.
use Prim.Native.Nat.{ℕ, ◌+◌}
use mathlib.Core.Path.{◌≡◌, sym, ap, fun_ext}
use mathlib.Core.Logic.{◌⊎◌, inl, inr}
use mathlib.Core.Bool.{true, false}
use mathlib.Core.List.{List}
use native.Mathlib.Omega.{arith}
use lib.ListN.{length, get_or}
use Rattle.ranks.specs.View.{n_of, m_of, list_if, number_if, wishes_of, ranking_of, posts_of, market_of, FullTables}
use Rattle.meaning.specs.Lists.{place}
use Rattle.meaning.specs.Full.{FullDepot, Full}
use Rattle.meaning.specs.Market.{Market, trainee_list, depot_of, market}
use Rattle.meaning.proofs.Booleans.{true-or-false, never}
use Rattle.meaning.proofs.Numbers.{sum-cong}
use Rattle.meaning.proofs.Full.{trainee-legal, depot-legal}
use Rattle.tables.specs.Cells.{trainee_start, depot_start, part}
use Rattle.tables.specs.Decode.{within}
use Rattle.tables.proofs.Tests.{in_within, within_in}
use Rattle.tables.proofs.Views.{names_in, distinct-place, FullSeen, no-trainee, no-depot}

module _ (h e : List ℕ) (F : Full) (seen : FullSeen h e F) where
  -- the trainees' lists, the depots' lists and the posts, in range and out of it
  pub wishes-held : (i : ℕ) → trainee_list F i ≡ wishes_of h e i
  unfolding wishes_of
  wishes-held i = go (true-or-false (within (n_of h) i))
    where
      go : (within (n_of h) i ≡ true) ⊎ (within (n_of h) i ≡ false) → trainee_list F i ≡ list_if (within (n_of h) i) (part h e (trainee_start i))
      go (inl t) = rw t (sym (seen.trainee i (within_in _ _ t)).is)
      go (inr u) = rw u (no-trainee F i (λ r. never (in_within (n_of h) i (rw seen.trainees r)) u))

  pub ranking-held : (j : ℕ) → (depot_of F j).list ≡ ranking_of h e j
  unfolding ranking_of
  ranking-held j = go (true-or-false (within (m_of h) j))
    where
      go : (within (m_of h) j ≡ true) ⊎ (within (m_of h) j ≡ false) → (depot_of F j).list ≡ list_if (within (m_of h) j) (part h e (depot_start (n_of h) j))
      go (inl t) = rw t (sym (seen.depot j (within_in _ _ t)).is)
      go (inr u) = rw u (ap (λ (d : FullDepot). d.list) (no-depot F j (λ r. never (in_within (m_of h) j (rw seen.depots r)) u)))

  pub posts-held : (j : ℕ) → (depot_of F j).posts ≡ posts_of h j
  unfolding posts_of
  posts-held j = go (true-or-false (within (m_of h) j))
    where
      go : (within (m_of h) j ≡ true) ⊎ (within (m_of h) j ≡ false) → (depot_of F j).posts ≡ number_if (within (m_of h) j) (get_or h (depot_start (n_of h) j + 2) 0)
      go (inl t) = rw t (sym (seen.posts j (within_in _ _ t)))
      go (inr u) = rw u (ap (λ (d : FullDepot). d.posts) (no-depot F j (λ r. never (in_within (m_of h) j (rw seen.depots r)) u)))

  -- a market by its parts
  made : ℕ → ℕ → (ℕ → List ℕ) → (ℕ → List ℕ) → (ℕ → ℕ) → Market
  made n m tl dl ps = record { n = n; m = m; trainee_rank = λ i j. place (tl i) j; depot_rank = λ j i. place (dl j) i; posts = ps }

  pub market-held : market F ≡ market_of h e
  unfolding market market_of made
  market-held =
      let a : length F.trainees ≡ n_of h = sym seen.trainees in
      let b : length F.depots ≡ m_of h = sym seen.depots in
      λ t. made (a t) (b t) (fun_ext wishes-held t) (fun_ext ranking-held t) (fun_ext posts-held t)

  pub lists-held : trainee_list F ≡ wishes_of h e
  lists-held = fun_ext wishes-held

  pub full-tables : FullTables h e
  full-tables = record {
    heads_long = seen.room.cells;
    few_trainees = seen.room.few_trainees;
    few_depots = seen.room.few_depots;
    trainee_part = λ i r. (seen.trainee i r).fits;
    depot_part = λ j r. (seen.depot j r).fits;
    trainee_short = λ i. rw (← wishes-held i) (let w = (trainee-legal F seen.legal i).short in omega (arith, w, seen.depots, seen.room.few_depots));
    depot_short = λ j. rw (← ranking-held j) (let w = (depot-legal F seen.legal j).short in omega (arith, w, seen.trainees, seen.room.few_trainees));
    few_posts = λ j. rw (← posts-held j) (seen.few_posts j);
    few_entries = rw seen.trainees (omega (arith, sum-cong (length F.trainees) _ _ (λ i _. ap length (wishes-held i)), seen.trainee_entries));
    trainee_names = λ i. rw (← wishes-held i, seen.depots) (names_in _ (trainee_list F i) (trainee-legal F seen.legal i).range);
    depot_names = λ j. rw (← ranking-held j, seen.trainees) (names_in _ (depot_of F j).list (depot-legal F seen.legal j).range);
    trainee_once = λ i. rw (← wishes-held i) (distinct-place (trainee_list F i) (trainee-legal F seen.legal i).distinct);
    depot_once = λ j. rw (← ranking-held j) (distinct-place (depot_of F j).list (depot-legal F seen.legal j).distinct);
  }
