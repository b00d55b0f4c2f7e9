-- The lines of the trainees and of the depots, there and back.
-- Assumes nothing.
use Prim.Native.Nat.{ℕ, ◌+◌, ◌≤◌}
use mathlib.Core.Path.{◌≡◌, refl, sym, ap, ◌∙◌, subst}
use mathlib.Core.Option.{Option}
use mathlib.Core.List.{List, ◌∷◌, ◌++◌, append_assoc}
use native.Mathlib.Omega.{arith}
use lib.Dec.{lit<}
use Rattle.meaning.specs.Lists.{each_none, each_more}
use Rattle.meaning.specs.Placement.{Depot, LegalList, LegalPosts, no_posts, some_posts, LegalDepot, legal_depot, size, depot_size}
use Rattle.fields.specs.Bytes.{LF, stop?}
use Rattle.fields.specs.Reader.{got, numbered}
use Rattle.fields.specs.Writer.{write_number}
use Rattle.fields.proofs.Steps.{went, got-value, got-rest, on_line_lem}
use Rattle.fields.proofs.Words.{Word, numbered-there, numbered-back}
use Rattle.fields.proofs.Lines.{Line}
use Rattle.placement_text.specs.Words.{word_T, word_D}
use Rattle.placement_text.specs.Writer.{write_received, write_list, write_trainee, write_depot}
use Rattle.placement_text.specs.Reader.{received, MOST, list, trainee_fields, trainee_line, depot_of, depot_fields, depot_line}
use Rattle.placement_text.proofs.Marks.{AtMost, missing, at_most, received-there, received-back, received-stops}
use Rattle.placement_text.proofs.Lists.{list-stops, list-there, list_back}

-- ---- a trainee

T-word : Word word_T
unfolding stop?
T-word = each_more refl each_none

pub trainee-there : (m : ℕ) → m ≤ 64 → (i total : ℕ) (l : Option (List ℕ)) (r : List ℕ) → i ≤ 256 → LegalList m l → total + size l ≤ MOST
    → trainee_line m i total (write_trainee i l ++ r) ≡ got l r
unfolding trainee_line trainee_fields write_trainee
trainee-there m hm i total l r hi g t =
    simp append_assoc
    (rw (
      numbered-there word_T i (write_list l ++ LF ∷ r) T-word (omega arith) (list-stops l (LF ∷ r)),
      list-there 3 m total l r (omega arith) g t,
    ))

abbrev pub TraineeLine : ℕ → ℕ → ℕ → List ℕ → Option (List ℕ) → List ℕ → Type 0
TraineeLine m = Line (trainee_line m) size write_trainee (LegalList m) MOST

pub trainee-fields : (m i total : ℕ) (s : List ℕ) {l : Option (List ℕ)} {r : List ℕ} → trainee_fields m i total s ≡ got l r → TraineeLine m i total s l r
unfolding trainee_fields write_trainee
trainee-fields m i total s {l} {r} h =
    let a = went (numbered word_T i s) _ h in
    let c = list_back 3 m total a.rest a.on in
    record {
      legal = c.legal;
      fits = c.fits;
      text =
          numbered-back word_T i s a.here
          ∙ ap (λ x. word_T ++ (write_number i ++ x)) c.text
          ∙ sym (simp append_assoc);
    }

pub trainee-back : (m i total : ℕ) (s : List ℕ) (l : Option (List ℕ)) (r : List ℕ) → trainee_line m i total s ≡ got l r → TraineeLine m i total s l r
unfolding trainee_line
trainee-back m i total s l r h = trainee-fields m i total s (on_line_lem (i + 1) (trainee_fields m i total s) h)

-- ---- a depot

D-word : Word word_D
unfolding stop?
D-word = each_more refl each_none

posts-at-most : (o : Option ℕ) → LegalPosts o → AtMost 256 o
posts-at-most _ no_posts = missing
posts-at-most _ (some_posts h) = at_most h

at-most-posts : (o : Option ℕ) → AtMost 256 o → LegalPosts o
at-most-posts _ missing = no_posts
at-most-posts _ (at_most h) = some_posts h

pub depot-there : (n : ℕ) → n ≤ 256 → (j total : ℕ) (d : Depot) (r : List ℕ) → j ≤ 64 → LegalDepot n d → total + depot_size d ≤ MOST
    → depot_line n j total (write_depot j d ++ r) ≡ got d r
unfolding depot_line depot_fields depot_of write_depot depot_size
depot-there n hn j total _ r hj (legal_depot {p = ps} {l = l} g e) t =
    let tail : List ℕ = write_list l ++ LF ∷ r in
    simp append_assoc
    (rw (
      numbered-there word_D j (write_received ps ++ tail) D-word (omega arith) (received-stops ps tail),
      received-there 3 256 ps tail (posts-at-most ps g) (lit< tt) (list-stops l (LF ∷ r)),
      list-there 4 n total l r (omega arith) e t,
    ))

abbrev pub DepotLine : ℕ → ℕ → ℕ → List ℕ → Depot → List ℕ → Type 0
DepotLine n = Line (depot_line n) depot_size write_depot (LegalDepot n) MOST

pub depot-fields : (n j total : ℕ) (s : List ℕ) {d : Depot} {r : List ℕ} → depot_fields n j total s ≡ got d r → DepotLine n j total s d r
unfolding depot_fields depot_of write_depot depot_size
depot-fields n j total s {d} {r} h =
    let a = went (numbered word_D j s) _ h in
    let p = went (received 3 256 a.rest) _ a.on in
    let q = received-back 3 256 a.rest p.here in
    let x = went (list 4 n total p.rest) _ p.on in
    let c = list_back 4 n total p.rest x.here in
    subst (λ z. DepotLine n j total s z r) (got-value x.on)
    (record {
      legal = legal_depot (at-most-posts p.value q.legal) c.legal;
      fits = c.fits;
      text =
          numbered-back word_D j s a.here
          ∙ ap (λ z. word_D ++ (write_number j ++ z))
          (q.text ∙ ap (λ z. write_received p.value ++ z) (c.text ∙ ap (λ z. write_list x.value ++ LF ∷ z) (got-rest x.on)))
          ∙ sym (simp append_assoc);
    })

pub depot-back : (n j total : ℕ) (s : List ℕ) (d : Depot) (r : List ℕ) → depot_line n j total s ≡ got d r → DepotLine n j total s d r
unfolding depot_line
depot-back n j total s d r h = depot-fields n j total s (on_line_lem (n + j + 1) (depot_fields n j total s) h)
