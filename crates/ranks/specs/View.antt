-- The market that tables mean where everything was received, read from their cells. That it is the market of the placement that they hold is proved.
-- Assumes nothing.
use Rattle.std.specs.Prelude.{ℕ, suc, ◌+◌, ◌*◌, ◌≤◌, ◌<◌, ◌≡◌, Bool, true, false, List, [], length, get_or}
use Rattle.std.specs.Prelude.{Option, None, Some}
use Rattle.meaning.specs.Numbers.{In, sum}
use Rattle.meaning.specs.Lists.{place}
use Rattle.meaning.specs.Market.{Market}
use Rattle.tables.specs.Cells.{trainee_start, depot_start, part}
use Rattle.tables.specs.Decode.{within}

abbrev pub n_of : List ℕ → ℕ
n_of h = get_or h 1 0

abbrev pub m_of : List ℕ → ℕ
m_of h = get_or h 2 0

abbrev pub list_if : Bool → List ℕ → List ℕ
list_if true l = l
list_if false l = []

abbrev pub number_if : Bool → ℕ → ℕ
number_if true k = k
number_if false k = 0

-- the list of trainee i, the list and the posts of depot j; nothing where there is no such trainee or depot
unfoldable pub wishes_of : List ℕ → List ℕ → ℕ → List ℕ
wishes_of h e i = list_if (within (n_of h) i) (part h e (trainee_start i))

unfoldable pub ranking_of : List ℕ → List ℕ → ℕ → List ℕ
ranking_of h e j = list_if (within (m_of h) j) (part h e (depot_start (n_of h) j))

unfoldable pub posts_of : List ℕ → ℕ → ℕ
posts_of h j = number_if (within (m_of h) j) (get_or h (depot_start (n_of h) j + 2) 0)

unfoldable pub market_of : List ℕ → List ℕ → Market
market_of h e = record {
  n = n_of h;
  m = m_of h;
  trainee_rank = λ i j. place (wishes_of h e i) j;
  depot_rank = λ j i. place (ranking_of h e j) i;
  posts = posts_of h;
}

-- a place counted from 0, as a place counted from 1: 0 for none
abbrev pub place_of : Option ℕ → ℕ
place_of None = 0
place_of (Some p) = suc p

-- ---- what full tables meet

-- each number on a list stands at its first place: the list names nobody twice
abbrev pub Once : List ℕ → Type 0
Once l = (p : ℕ) → p < length l → place l (get_or l p 0) ≡ suc p

abbrev pub Names : ℕ → List ℕ → Type 0
Names n l = (p : ℕ) → p < length l → In n (get_or l p 0)

pub record FullTables (h e : List ℕ) : Type 0 where
  pub heads_long : 3 + 2 * n_of h + 3 * m_of h ≤ length h
  pub few_trainees : n_of h ≤ 256
  pub few_depots : m_of h ≤ 64
  pub trainee_part : (i : ℕ) → In (n_of h) i → get_or h (trainee_start i) 0 + get_or h (trainee_start i + 1) 0 ≤ length e
  pub depot_part : (j : ℕ) → In (m_of h) j → get_or h (depot_start (n_of h) j) 0 + get_or h (depot_start (n_of h) j + 1) 0 ≤ length e
  pub trainee_short : (i : ℕ) → length (wishes_of h e i) ≤ 64
  pub depot_short : (j : ℕ) → length (ranking_of h e j) ≤ 256
  pub few_posts : (j : ℕ) → posts_of h j ≤ 256
  pub few_entries : sum (n_of h) (λ i. length (wishes_of h e i)) ≤ 4096
  pub trainee_names : (i : ℕ) → Names (m_of h) (wishes_of h e i)
  pub depot_names : (j : ℕ) → Names (n_of h) (ranking_of h e j)
  pub trainee_once : (i : ℕ) → Once (wishes_of h e i)
  pub depot_once : (j : ℕ) → Once (ranking_of h e j)
