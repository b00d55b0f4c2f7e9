-- A text refused at line l agrees with some legal text on the lines above it.
-- Assumes nothing.
use Prim.Native.Nat.{ℕ, zero, suc, ◌+◌, ◌≤◌}
use mathlib.Core.Path.{◌≡◌, refl, sym, ◌∙◌, subst}
use mathlib.Core.Logic.{◌⊎◌, inl, inr}
use mathlib.Core.Bool.{true, false}
use mathlib.Core.Option.{none}
use mathlib.Core.List.{List, [], ◌∷◌, ◌++◌}
use native.Mathlib.Omega.{arith}
use lib.ListN.{length}
use Rattle.meaning.specs.Lists.{each_none, each_more, weigh}
use Rattle.meaning.specs.Placement.{Order, depot, Placement, Legal, no_list, no_posts, legal_depot, size, depot_size}
use Rattle.meaning.proofs.Booleans.{true-or-false}
use Rattle.fields.specs.Bytes.{stop?, word_of, rest_of}
use Rattle.fields.specs.Reader.{Step, got, refusal, Reader, next, on_line, line, at_end}
use Rattle.fields.proofs.Steps.{went, on_line_lem}
use Rattle.fields.proofs.Words.{Word, stops, word-there, rest-there, word-rest}
use Rattle.placement_text.specs.Writer.{write_trainee, write_depot, write_orders, write_end, text_of}
use Rattle.placement_text.specs.Reader.{trainee_fields, trainee_line, depot_fields, depot_line, Opening, order, ending, other, opening_of, order_fields, end_fields, finish, orders, Head, head_fields, body, placement, refused, read_text}
use Rattle.placement_text.proofs.Sides.{trainee-there, trainee-fields, depot-there, depot-fields}
use Rattle.placement_text.proofs.Pairs.{orders-there}
use Rattle.placement_text.proofs.Round.{head-back, placement-there, placement-back}
use Rattle.placement_reader.specs.Agree.{Agree, both_end, line_ends, same_byte}
use Rattle.placement_reader.proofs.Alike.{trainee-alike, depot-alike, pair-alike, last-alike, head-alike}
use Rattle.placement_reader.proofs.Tails.{behind, not-stop, trainee-ends, depot-ends, pair_ends, last-ends, head-ends}
use Rattle.placement_reader.proofs.Keeps.{follow, follows, step_of}
use Rattle.placement_reader.proofs.Completes.{swap, Completion, Can, can-as, can-at, at_first, replaced, line-got, can-line, can-lines}

-- ---- the word that a line begins with

word-is : (s : List ℕ) → Word (word_of s)
unfolding word_of
word-is [] = each_none
word-is (b ∷ s) = go (word-is s) (true-or-false (stop? b))
  where
    go : Word (word_of s) → (stop? b ≡ true) ⊎ (stop? b ≡ false) → Word (word_of (b ∷ s))
    go h (inl t) = rw (t, word_of) each_none
    go h (inr f) = rw (f, word_of) (each_more f h)

rest-stops : (s : List ℕ) → stops (rest_of s) ≡ true
unfolding rest_of stops
rest-stops [] = refl
rest-stops (b ∷ s) = go (rest-stops s) (true-or-false (stop? b))
  where
    go : stops (rest_of s) ≡ true → (stop? b ≡ true) ⊎ (stop? b ≡ false) → stops (rest_of (b ∷ s)) ≡ true
    go h (inl t) = rw (t, rest_of) t
    go h (inr f) = rw (f, rest_of) h

stops-kept : (k : ℕ) (r u : List ℕ) → Agree (suc k) r u → stops r ≡ true → stops u ≡ true
unfolding stops
stops-kept k _ _ both_end h = refl
stops-kept k _ _ (line_ends e w) h = h
stops-kept k _ _ (same_byte n w) h = h

agree-word : (k : ℕ) (v r u : List ℕ) → Word v → Agree (suc k) r u → Agree (suc k) (v ++ r) (v ++ u)
agree-word k _ r u each_none h = h
agree-word k _ r u (each_more {x = x} {xs = xs} f fs) h = same_byte (not-stop x f) (agree-word k xs r u fs h)

-- ---- pairs and the end

module _ (l : ℕ) (K : Opening → Reader (List Order)) (t : List ℕ) (v : List Order) (r : List ℕ) (T : K (opening_of (word_of t)) (rest_of t) ≡ got v r)
    (each : (w : Opening) (q : List ℕ) (x k f : ℕ) → K w q ≡ refusal x k f → (l ≡ k) ⊎ Completion l (K w) q k) where
  opening-more : (s : List ℕ) (x k f : ℕ) → K (opening_of (word_of s)) (rest_of s) ≡ refusal x k f → Completion l (λ q. K (opening_of (word_of q)) (rest_of q)) s k
  opening-more s x k f e = go (each (opening_of (word_of s)) (rest_of s) x k f e)
    where
      lift : (m : Completion l (K (opening_of (word_of s))) (rest_of s) k) (n : ℕ) → m.above ≡ n → Completion l (λ q. K (opening_of (word_of q)) (rest_of q)) s k
      lift m zero q = at_first t v r T s k (let a = m.at in omega arith)
      lift m (suc n) q =
          let A : Agree (suc n) (rest_of s) m.text = subst (λ z. Agree z (rest_of s) m.text) q m.agrees in
          let S : stops m.text ≡ true = stops-kept n (rest_of s) m.text A (rest-stops s) in
          let a = m.at in
          record {
            above = suc n;
            at = omega arith;
            text = word_of s ++ m.text;
            value = m.value;
            left = m.left;
            agrees = subst (λ z. Agree (suc n) z (word_of s ++ m.text)) (word-rest s) (agree-word n (word_of s) (rest_of s) m.text (word-is s) A);
            takes = rw (word-there (word_of s) m.text (word-is s) S, rest-there (word_of s) m.text (word-is s) S) m.takes;
          }

      go : (l ≡ k) ⊎ Completion l (K (opening_of (word_of s))) (rest_of s) k → Completion l (λ q. K (opening_of (word_of q)) (rest_of q)) s k
      go (inl q) = at_first t v r T s k q
      go (inr m) = lift m m.above refl

  can-opening : Can l (λ q. K (opening_of (word_of q)) (rest_of q))
  can-opening = record { text = t; value = v; left = r; takes = T; more = opening-more }

finish-more : (l : ℕ) (os : List Order) (q : List ℕ) (x k f : ℕ) → finish l os q ≡ refusal x k f → (l ≡ k) ⊎ Completion l (finish l os) q k
unfolding finish at_end
finish-more l os q x k f e = go (end_fields q) refl e
  where
    nothing : (r : List ℕ) → next (at_end (l + 1) r) (λ _ z. got os z) ≡ refusal x k f → l + 1 ≡ k
    nothing [] e = let z : ◌≡◌ {A = ℕ} 0 1 = cc in absurd (omega arith)
    nothing (b ∷ r) e = cc

    go : (t : Step (Unit {0})) → end_fields q ≡ t → next (on_line l t) (λ _ r. next (at_end (l + 1) r) (λ _ z. got os z)) ≡ refusal x k f → (l ≡ k) ⊎ Completion l (finish l os) q k
    go (refusal y i h) d e = inl cc
    go (got a r) d e =
        inr (line-got l end_fields (λ _ r. next (at_end (l + 1) r) (λ _ z. got os z)) last-alike (λ s. last-ends (behind s) s refl) q k a r d
        (at_first [] os [] refl r k (nothing r e)))

can-orders : (c n m l : ℕ) (os : List Order) → n ≤ 256 → m ≤ 64 → Can l (orders c n m l os)
unfolding follow
can-orders zero n m l os hn hm =
    can-as _ _ (follows zero n m l os)
    (can-opening l (follow zero n m l os) (write_orders [] ++ write_end) (os ++ []) [] (follows zero n m l os (write_orders [] ++ write_end) ∙ orders-there n m zero l [] os hn hm (omega arith) each_none) each)
  where
    each : (w : Opening) (q : List ℕ) (x k f : ℕ) → follow zero n m l os w q ≡ refusal x k f → (l ≡ k) ⊎ Completion l (follow zero n m l os w) q k
    each (order b) q x k f e = inl cc
    each ending q x k f e = finish-more l os q x k f e
    each other q x k f e = inl cc
can-orders (suc c) n m l os hn hm =
    can-as _ _ (follows (suc c) n m l os)
    (can-opening l (follow (suc c) n m l os) (write_orders [] ++ write_end) (os ++ []) [] (follows (suc c) n m l os (write_orders [] ++ write_end) ∙ orders-there n m (suc c) l [] os hn hm (omega arith) each_none)
    (each (λ o. can-orders c n m (l + 1) (os ++ o ∷ []) hn hm)))
  where
    each : ((o : Order) → Can (l + 1) (orders c n m (l + 1) (os ++ o ∷ []))) → (w : Opening) (q : List ℕ) (x k f : ℕ) → follow (suc c) n m l os w q ≡ refusal x k f
        → (l ≡ k) ⊎ Completion l (follow (suc c) n m l os w) q k
    each more (order b) q x k f e = go (order_fields n m b q) refl e
      where
        go : (t : Step Order) → order_fields n m b q ≡ t → next (on_line l t) (λ o. orders c n m (l + 1) (os ++ o ∷ [])) ≡ refusal x k f
            → (l ≡ k) ⊎ Completion l (follow (suc c) n m l os (order b)) q k
        go (refusal y i h) d e = inl cc
        go (got o r) d e =
            inr (line-got l (order_fields n m b) (λ o. orders c n m (l + 1) (os ++ o ∷ [])) (λ j s s' w. pair-alike j n m b s s' w) (λ s. pair_ends (behind s) n m b s refl) q k o r d
            ((more o).more r x k f e))
    each more ending q x k f e = finish-more l os q x k f e
    each more other q x k f e = inl cc

-- ---- the whole text

can-value : {A B : Type 0} (c : ℕ) (F : Reader A) (k : A → B) → Can c F → Can c (λ s. next (F s) (λ a r. got (k a) r))
can-value {A} {B} c F k C =
    record {
      text = C.text;
      value = k C.value;
      left = C.left;
      takes = rw C.takes;
      more = λ s x l f e.
          let m = C.more s x l f (back (F s) x l f e) in
          record { above = m.above; at = m.at; text = m.text; value = k m.value; left = m.left; agrees = m.agrees; takes = rw m.takes };
    }
  where
    back : (t : Step A) (x l f : ℕ) → next t (λ a r. got (k a) r) ≡ refusal x l f → t ≡ refusal x l f
    back (got a r) x l f e = let z : ◌≡◌ {A = ℕ} 0 1 = cc in absurd (omega arith)
    back (refusal y i g) x l f e = cc

trainee-opened : (m : ℕ) → m ≤ 64 → (i total : ℕ) → i ≤ 256 → total ≤ 4096 → (u : List ℕ) → trainee_fields m i total (write_trainee i none ++ u) ≡ got none u
unfolding trainee_line size
trainee-opened m hm i total hi ht u = on_line_lem (i + 1) (trainee_fields m i total (write_trainee i none ++ u)) (trainee-there m hm i total none u hi no_list (omega arith))

depot-opened : (n : ℕ) → n ≤ 256 → (j total : ℕ) → j ≤ 64 → total ≤ 4096 → (u : List ℕ) → depot_fields n j total (write_depot j (depot none none) ++ u) ≡ got (depot none none) u
unfolding depot_line depot_size size
depot-opened n hn j total hj ht u =
    on_line_lem (n + j + 1) (depot_fields n j total (write_depot j (depot none none) ++ u)) (depot-there n hn j total (depot none none) u hj (legal_depot no_posts no_list) (omega arith))

can-body : (h : Head) → h.n ≤ 256 → h.m ≤ 64 → Can 2 (body h)
unfolding body trainee_line depot_line
can-body h hn hm =
    let n : ℕ = h.n in
    let m : ℕ = h.m in
    let e : n + m + 2 ≡ n + (1 + m) + 1 = omega arith in
    let d : n + 1 + 1 ≡ 1 + n + 1 = omega arith in
    can-lines (λ i. i + 1) (λ i. refl) (trainee_fields m) size (λ i total j s s' w. trainee-alike j m i total s s' w) (λ i total s. trainee-ends (behind s) m i total s refl)
    256 none (λ i u. write_trainee i none ++ u) (trainee-opened m hm) (λ i total a s r q t. (trainee-fields m i total s q).fits t) _ n 1 0 [] (omega arith) (omega arith)
    (λ ts. can-at d
    (can-lines (λ i. n + i + 1) (λ i. omega arith) (depot_fields n) depot_size (λ i total j s s' w. depot-alike j n i total s s' w) (λ i total s. depot-ends (behind s) n i total s refl)
    64 (depot none none) (λ j u. write_depot j (depot none none) ++ u) (depot-opened n hn) (λ i total a s r q t. (depot-fields n i total s q).fits t) _ m 1 0 [] (omega arith) (omega arith)
    (λ ds. can-at e (can-value (n + m + 2) (orders 1024 n m (n + m + 2) []) _ (can-orders 1024 n m (n + m + 2) [] hn hm)))))

no_one : Placement
no_one = record { edition = 1; trainees = []; depots = []; orders = [] }

no-one-legal : Legal no_one
unfolding no_one weigh
no-one-legal =
    record {
      edition = refl;
      n = omega arith;
      m = omega arith;
      trainees = each_none;
      trainee_entries = omega arith;
      depots = each_none;
      depot_entries = omega arith;
      orders = each_none;
      few_orders = omega arith;
    }

can-placement : Can 1 placement
unfolding placement
can-placement =
    let t : List ℕ = text_of no_one in
    let a = went (line 1 head_fields t) body (placement-there no_one no-one-legal) in
    let q = on_line_lem 1 (head_fields t) a.here in
    can-line 1 head_fields body head-alike (λ s. head-ends (behind s) s refl) (swap t) a.value
    (λ u. replaced 1 head_fields body head-alike (λ s. head-ends (behind s) s refl) t u q)
    (λ h s r d. let b = head-back s d in can-body h b.n b.m)

pub record LegalAbove (s : List ℕ) (l : ℕ) : Type 0 where
  pub above : ℕ
  pub one_less : above + 1 ≡ l
  pub it : Placement
  pub legal : Legal it
  pub agrees : Agree above s (text_of it)

-- some legal text agrees with a refused one on the lines above the one refused; none does so down to it (`no-legal-agrees`)
pub legal-above : (s : List ℕ) {x l f : ℕ} → length s ≤ 65536 → read_text s ≡ refused x l f → LegalAbove s l
legal-above s {x} {l} {f} h e =
    let m = can-placement.more s x l f (step_of s h e) in
    let b = placement-back m.text m.takes in
    let a = m.at in
    record { above = m.above; one_less = omega arith; it = m.value; legal = b.legal; agrees = subst (Agree m.above s) (sym b.text) m.agrees }
