-- Lists, there and back.
-- Assumes nothing.
use Prim.Native.Nat.{ℕ, zero, suc, ◌+◌, ◌≤◌, ◌<◌}
use mathlib.Core.Path.{◌≡◌, refl, sym, ap, ap₂, ◌∙◌, subst}
use mathlib.Core.Bool.{true, false, not}
use mathlib.Core.Option.{Option, none, some}
use mathlib.Core.List.{List, [], ◌∷◌, ◌++◌, append_assoc, append-nil}
use native.Mathlib.Omega.{arith}
use lib.ListN.{length}
use lib.Dec.{leb}
use borrow.Author.Tests.{leb-true, le-leb, not-true}
use Rattle.meaning.specs.Numbers.{In}
use Rattle.meaning.specs.Lists.{member}
use Rattle.meaning.specs.Placement.{LegalList, no_list, a_list, size}
use Rattle.fields.specs.Bytes.{LF}
use Rattle.fields.specs.Reader.{got, unless, line_end, number}
use Rattle.fields.specs.Writer.{write_number}
use Rattle.fields.proofs.Steps.{went, got-value, got-rest, unless-back, unless-there}
use Rattle.fields.proofs.Words.{stops, end-there, end_back, number-stops, lf-stops, number-there, number-back}
use Rattle.placement_text.specs.Writer.{write_received, write_entries, write_list}
use Rattle.placement_text.specs.Reader.{received, entry, entries, MOST, listed, list}
use Rattle.placement_text.proofs.Marks.{AtMost, missing, at_most, received-there, received-back, received-stops}
use Rattle.placement_text.proofs.Repeats.{Fresh, fresh-none, fresh-more, legal-fresh, fresh-legal}

-- ---- entries

pub entries-stop : (es r : List ℕ) → stops r ≡ true → stops (write_entries es ++ r) ≡ true
unfolding write_entries
entries-stop [] r h = h
entries-stop (e ∷ es) r h = rw append_assoc (number-stops e (write_entries es ++ r))

entry-there : (k hi : ℕ) (seen : List ℕ) (e : ℕ) (r : List ℕ) → hi < 100000 → In hi e → member e seen ≡ false → stops r ≡ true
    → entry k hi seen (write_number e ++ r) ≡ got e r
unfolding entry
entry-there k hi seen e r h b m t =
    rw (number-there k 1 hi e r b.low b.high h t)
    (rw (unless-there 5 k (not (member e seen)) r (ap not m)))

record Entry (hi : ℕ) (seen s : List ℕ) (e : ℕ) (r : List ℕ) : Type 0 where
  range : In hi e
  new : member e seen ≡ false
  text : s ≡ write_number e ++ r

entry-back : (k hi : ℕ) (seen s : List ℕ) {e : ℕ} {r : List ℕ} → entry k hi seen s ≡ got e r → Entry hi seen s e r
unfolding entry
entry-back k hi seen s {e} {r} h =
    let a = went (number k 1 hi s) _ h in
    let b = number-back k 1 hi s a.here in
    let c = went (unless 5 k (not (member a.value seen)) a.rest) _ a.on in
    let u = unless-back 5 k (not (member a.value seen)) a.rest c.here in
    subst (λ x. Entry hi seen s x r) (got-value c.on)
    (record {
      range = record { low = b.low; high = b.high };
      new = not-true (member a.value seen) u.0;
      text = b.text ∙ ap (λ y. write_number a.value ++ y) (u.1 ∙ got-rest c.on);
    })

pub entries-there : (hi k : ℕ) (seen es r : List ℕ) → hi < 100000 → Fresh hi seen es → stops r ≡ true
    → entries (length es) k hi seen (write_entries es ++ r) ≡ got (seen ++ es) r
unfolding entries write_entries
entries-there hi k seen _ r h fresh-none t = rw append-nil
entries-there hi k seen _ r h (fresh-more {e = e} {es = es} b m f) t =
    rw (append_assoc (write_number e) (write_entries es) r, entry-there k hi seen e (write_entries es ++ r) h b m (entries-stop es r t))
    (entries-there hi (k + 1) (seen ++ e ∷ []) es r h f t ∙ ap (λ x. got x r) (append_assoc seen (e ∷ []) es))

pub record Entries (c hi : ℕ) (seen s out r : List ℕ) : Type 0 where
  pub es : List ℕ
  pub all : out ≡ seen ++ es
  pub count : length es ≡ c
  pub fresh : Fresh hi seen es
  pub text : s ≡ write_entries es ++ r

pub entries-back : (c k hi : ℕ) (seen s : List ℕ) {out r : List ℕ} → entries c k hi seen s ≡ got out r → Entries c hi seen s out r
unfolding entries write_entries
entries-back zero k hi seen s h =
    record { es = []; all = sym (got-value h) ∙ sym (append-nil seen); count = refl; fresh = fresh-none; text = got-rest h }
entries-back (suc c) k hi seen s {out} {r} h =
    let a = went (entry k hi seen s) _ h in
    let b = entry-back k hi seen s a.here in
    let i = entries-back c (k + 1) hi (seen ++ a.value ∷ []) a.rest a.on in
    record {
      es = a.value ∷ i.es;
      all = i.all ∙ append_assoc seen (a.value ∷ []) i.es;
      count = ap suc i.count;
      fresh = fresh-more b.range b.new i.fresh;
      text = b.text ∙ ap (λ x. write_number a.value ++ x) i.text ∙ sym (append_assoc (write_number a.value) (write_entries i.es) r);
    }

-- ---- length, entries, line end

pub list-stops : (l : Option (List ℕ)) (r : List ℕ) → stops (write_list l ++ r) ≡ true
unfolding write_list
list-stops none r = received-stops none r
list-stops (some es) r = rw append_assoc (received-stops (some (length es)) (write_entries es ++ r))

pub list-there : (k hi total : ℕ) (l : Option (List ℕ)) (r : List ℕ) → hi < 100000 → LegalList hi l → total + size l ≤ MOST
    → list k hi total (write_list l ++ LF ∷ r) ≡ got l r
unfolding list listed write_list size
list-there k hi total _ r h no_list t =
    rw (received-there k hi none (LF ∷ r) missing h (lf-stops r))
    (rw (end-there (k + 1) r))
list-there k hi total _ r h (a_list {l = es} g) t =
    rw (
      append_assoc (write_received (some (length es))) (write_entries es) (LF ∷ r),
      received-there k hi (some (length es)) (write_entries es ++ LF ∷ r) (at_most g.short) h (entries-stop es (LF ∷ r) (lf-stops r)),
    )
    (rw (
      unless-there 6 k (leb (total + length es) MOST) (write_entries es ++ LF ∷ r) (le-leb (total + length es) MOST t),
      entries-there hi (k + 1) [] es (LF ∷ r) h (legal-fresh hi es g) (lf-stops r),
      end-there (k + 1 + length es) r,
    ))

-- what a list says that was read
pub record Listed (hi total : ℕ) (s r : List ℕ) (l : Option (List ℕ)) : Type 0 where
  pub legal : LegalList hi l
  pub fits : total ≤ MOST → total + size l ≤ MOST
  pub text : s ≡ write_list l ++ LF ∷ r

pub list_back : (k hi total : ℕ) (s : List ℕ) {l : Option (List ℕ)} {r : List ℕ} → list k hi total s ≡ got l r → Listed hi total s r l
unfolding list listed write_list size
list_back k hi total s {l} {r} h =
    let a = went (received k hi s) (listed k hi total) h in
    let b = received-back k hi s a.here in
    go a.value a.rest b.legal a.on b.text
  where
    go : (o : Option ℕ) (q : List ℕ) → AtMost hi o → listed k hi total o q ≡ got l r → s ≡ write_received o ++ q → Listed hi total s r l
    go _ q missing e f =
        let c = went (line_end (k + 1) q) _ e in
        subst (Listed hi total s r) (got-value c.on)
        (record {
          legal = no_list;
          fits = λ z. omega arith;
          text = f ∙ ap (λ x. write_received none ++ x) (end_back (k + 1) q c.here ∙ ap (λ x. LF ∷ x) (got-rest c.on));
        })
    go _ q (at_most {v = v} g) e f =
        let c = went (unless 6 k (leb (total + v) MOST) q) _ e in
        let u = unless-back 6 k (leb (total + v) MOST) q c.here in
        let d = went (entries v (k + 1) hi [] c.rest) _ c.on in
        let i = entries-back v (k + 1) hi [] c.rest d.here in
        let x = went (line_end (k + 1 + v) d.rest) _ d.on in
        let n = i.count in
        let t = leb-true (total + v) MOST u.0 in
        subst (Listed hi total s r) (ap some (sym i.all) ∙ got-value x.on)
        (record {
          legal = a_list (fresh-legal hi i.es (omega arith) i.fresh);
          fits = λ z. omega arith;
          text =
              f
              ∙ ap₂ (λ y w. write_received (some y) ++ w) (sym n)
              (u.1 ∙ i.text ∙ ap (λ w. write_entries i.es ++ w) (end_back (k + 1 + v) d.rest x.here ∙ ap (λ w. LF ∷ w) (got-rest x.on)))
              ∙ sym (append_assoc (write_received (some (length i.es))) (write_entries i.es) (LF ∷ r));
        })
