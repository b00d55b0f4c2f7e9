-- The two walks' ends are the sums that the decoder tests, and the posts decide alone.
use Rattle.std.proofs.Common.{arith, sym, ◌∙◌}
use Rattle.std.proofs.lemmas.Bool.Decides.{nat_tests}
use lib.ListN.{get_or}
use Rattle.meaning.specs.Numbers.{◌&◌}
use Rattle.tables.proofs.Walk.{lists-wrong, lists-long, lists-shut, lists-none, lists-end}
use Rattle.tables.proofs.lists_ok.Goals.{then-s-gt4096-via-then-s-gt4096, then-s-gt4096-via-else-s-gt4096+then-not-all_posts_ok}
use Rattle.tables.proofs.lists_ok.Goals as goal

pub returns-in_default : goal.returns-in_default
returns-in_default c = let a = c.args in lists-wrong (get_or a.heads.now 0 0) a.n a.m a.heads.now a.entries.now c.in_default.ensures

pub returns-in_default-end : goal.returns-in_default-end
returns-in_default-end c =
    let a = c.args in
    lists-none (get_or a.heads.now 0 0) a.n a.m a.heads.now a.entries.now c.in-Some.s c.in-Some.ensures.0 (omega arith) c.in_default-end.ensures

pub returns-then-s-gt4096 : goal.returns-then-s-gt4096
returns-then-s-gt4096 c =
    let a = c.args in
    elim c.then-s-gt4096.branch [
      | then-s-gt4096-via-then-s-gt4096 w ↦ lists-long (get_or a.heads.now 0 0) a.n a.m a.heads.now a.entries.now c.in-Some.s c.in-Some.ensures.0 (omega arith) w.if-s-gt4096.true
      | then-s-gt4096-via-else-s-gt4096+then-not-all_posts_ok w ↦
          lists-shut (get_or a.heads.now 0 0) a.n a.m a.heads.now a.entries.now c.in-Some.s c.in-Some.ensures.0 (omega arith) (sym w.all_posts_ok.ensures ∙ w.if-not-all_posts_ok.true)
    ]

pub returns : goal.returns
unfolding ◌&◌
returns c =
    let a = c.args in
    let e = lists-end (get_or a.heads.now 0 0) a.n a.m a.heads.now a.entries.now c.in-Some.s c.in-Some.ensures.0 (omega arith) c.in-Some-end.f c.in-Some-end.ensures.0 in
    let p = sym c.all_posts_ok.ensures ∙ c.if-not-all_posts_ok.false in
    rw (e, p) (grind (arith, nat_tests))
