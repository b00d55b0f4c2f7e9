-- The trainees' lines come first; where none of them lacks anything the depots' decide, as in the full placement.
use Prim.Native.Nat.{◌+◌}
use mathlib.Core.Path.{refl, sym, ap, ap₂, ◌∙◌}
use Rattle.std.proofs.Common.{Some, arith, rules, tests}
use Rattle.tables.specs.Walk.{first_line, trainee_missing, depot_missing}
use Rattle.tables.proofs.Seen.{sides-seen}
use Rattle.tables.proofs.Lines.{Found, line-found, line-of-trainee, line-of-depot}
use Rattle.tables.proofs.first_missing_line.Goals as goal

trainee-found : (c : goal.In-Some) → Found 1 (1 + c.trainees_of-n.result) (first_line (trainee_missing c.args.heads.now) 1 c.trainees_of-n.result 1) (Some c.in-Some.i)
trainee-found c =
    let h = c.args.heads.now in
    let n = c.trainees_of-n.result in
    line-found (trainee_missing h) 1 n _ c.find.ensures.ran refl (λ x b q k. search (rules, tests)) c.in-Some.is

pub overflow_add-result : goal.overflow_add-result
overflow_add-result c = let p = c.requires in let f = trainee-found c in omega (arith, f.1)

pub overflow_cast-result : goal.overflow_cast-result
overflow_cast-result c = let p = c.requires in let f = trainee-found c in omega (arith, f.1)

pub returns-in-Some : goal.returns-in-Some
returns-in-Some c =
    λ e b q.
    let h = c.args.heads.now in
    let f = trainee-found c in
    let g = f.0 ∙ ap (λ n. first_line (trainee_missing h) 1 n 1) c.trainees_of-n.ensures in
    (sym (g ∙ line-of-trainee h e b (sides-seen h e b q) (λ z. omega (arith, g))), omega arith)

depot-found : (c : goal.In_ok-j) → Found (c.trainees_of-n.result + 1) (1 + c.depots_of.result) (first_line (depot_missing c.args.heads.now c.trainees_of-n.result) (c.trainees_of-n.result + 1) c.depots_of.result 1) (Some c.in_ok-j.j)
depot-found c =
    let h = c.args.heads.now in
    let n = c.trainees_of-n.result in
    let m = c.depots_of.result in
    line-found (depot_missing h n) (n + 1) m _ c.find-2.ensures.ran refl (λ x b q k. search (rules, tests)) c.in_ok-j.was

pub overflow_add-result-3 : goal.overflow_add-result-3
overflow_add-result-3 c = let p = c.requires in let f = depot-found c in omega (arith, f.1)

pub overflow_cast-result-2 : goal.overflow_cast-result-2
overflow_cast-result-2 c = let p = c.requires in let f = depot-found c in omega (arith, f.1)

pub returns : goal.returns
returns c =
    λ e b q.
    let h = c.args.heads.now in
    let n = c.trainees_of-n.result in
    let t = line-found (trainee_missing h) 1 n _ c.find.ensures.ran refl (λ x b q k. search (rules, tests)) c.in_default.is in
    let f = depot-found c in (
      sym (f.0 ∙ ap₂ (λ n m. first_line (depot_missing h n) (n + 1) m 1) c.trainees_of-n.ensures c.depots_of.ensures
          ∙ line-of-depot h e b (sides-seen h e b q) (sym (t ∙ ap (λ n. first_line (trainee_missing h) 1 n 1) c.trainees_of-n.ensures))),
      omega arith,
    )

pub returns-in_err-j : goal.returns-in_err-j
returns-in_err-j c =
    λ e b q.
    let h = c.args.heads.now in
    let n = c.trainees_of-n.result in
    let m = c.depots_of.result in
    let t = line-found (trainee_missing h) 1 n _ c.find.ensures.ran refl (λ x b q k. search (rules, tests)) c.in_default.is in
    let f = line-found (depot_missing h n) (n + 1) m _ c.find-2.ensures.ran refl (λ x b q k. search (rules, tests)) c.in_err-j.was in
    rw c.from_residual.ensures
    (sym (f ∙ ap₂ (λ n m. first_line (depot_missing h n) (n + 1) m 1) c.trainees_of-n.ensures c.depots_of.ensures
    ∙ line-of-depot h e b (sides-seen h e b q) (sym (t ∙ ap (λ n. first_line (trainee_missing h) 1 n 1) c.trainees_of-n.ensures))))
