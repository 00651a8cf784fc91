use Rattle.writer.specs.Rows.{part}
use Rattle.writer.proofs.Parts.{parts_end, part_length, windows_differ, windows_same}
use Prim.Native.Nat.{◌+◌, ◌-◌}
use mathlib.Core.Path.{refl, sym, ◌∙◌}
use native.Mathlib.Omega.{arith}
use Rattle.writer.proofs.same_parts.Goals as goal

pub returns-then-n-eq0 : goal.returns-then-n-eq0
returns-then-n-eq0 c = let a = c.args in let T = a.tables.now in
    let lp = part_length T a.p a.n c.requires.0 in let lq = part_length T a.q a.n c.requires.1 in
    sym (parts_end (part T a.p a.n) (part T a.q a.n) 0 (omega arith) (omega arith))

pub returns-then-tables-p : goal.returns-then-tables-p
returns-then-tables-p c = let a = c.args in
    windows_differ a.tables.now a.p a.q a.n c.requires.0 c.requires.1 (a.n - 1) (a.p + (a.n - 1)) (a.q + (a.n - 1)) (omega arith) refl refl c.if-tables-p.true

pub returns-then-tables-p-2 : goal.returns-then-tables-p-2
returns-then-tables-p-2 c = let a = c.args in let j = c.fours.j in
    windows_differ a.tables.now a.p a.q a.n c.requires.0 c.requires.1 j (a.p + j) (a.q + j) (omega arith) refl refl c.if-tables-p-2.true

pub returns-then-tables-p-3 : goal.returns-then-tables-p-3
returns-then-tables-p-3 c = let a = c.args in let j = c.fours.j in
    windows_differ a.tables.now a.p a.q a.n c.requires.0 c.requires.1 (j + 1) (a.p + j + 1) (a.q + j + 1) (omega arith) (omega arith) (omega arith) c.if-tables-p-3.true

pub returns-then-tables-p-4 : goal.returns-then-tables-p-4
returns-then-tables-p-4 c = let a = c.args in let j = c.fours.j in
    windows_differ a.tables.now a.p a.q a.n c.requires.0 c.requires.1 (j + 2) (a.p + j + 2) (a.q + j + 2) (omega arith) (omega arith) (omega arith) c.if-tables-p-4.true

pub returns-then-tables-p-5 : goal.returns-then-tables-p-5
returns-then-tables-p-5 c = let a = c.args in let j = c.fours.j in
    windows_differ a.tables.now a.p a.q a.n c.requires.0 c.requires.1 (j + 3) (a.p + j + 3) (a.q + j + 3) (omega arith) (omega arith) (omega arith) c.if-tables-p-5.true

pub fours-preserved : goal.fours-preserved
fours-preserved c = let a = c.args in let j = c.fours.j in
    let step = windows_same a.tables.now a.p a.q a.n c.requires.0 c.requires.1 in (
      omega arith,
      c.fours.invariant.1
          ∙ step j (a.p + j) (a.q + j) (omega arith) refl refl (j + 1) refl c.if-tables-p-2.false
          ∙ step (j + 1) (a.p + j + 1) (a.q + j + 1) (omega arith) (omega arith) (omega arith) (j + 2) (omega arith) c.if-tables-p-3.false
          ∙ step (j + 2) (a.p + j + 2) (a.q + j + 2) (omega arith) (omega arith) (omega arith) (j + 3) (omega arith) c.if-tables-p-4.false
          ∙ step (j + 3) (a.p + j + 3) (a.q + j + 3) (omega arith) (omega arith) (omega arith) (j + 4) (omega arith) c.if-tables-p-5.false,
    )

pub returns-then-tables-p-6 : goal.returns-then-tables-p-6
returns-then-tables-p-6 c = let a = c.args in let j = c.loop-j.j in
    windows_differ a.tables.now a.p a.q a.n c.requires.0 c.requires.1 j (a.p + j) (a.q + j) (omega arith) refl refl c.if-tables-p-6.true

pub loop-j-preserved : goal.loop-j-preserved
loop-j-preserved c = let a = c.args in let j = c.loop-j.j in
    (omega arith, c.loop-j.invariant.1 ∙ windows_same a.tables.now a.p a.q a.n c.requires.0 c.requires.1 j (a.p + j) (a.q + j) (omega arith) refl refl (j + 1) refl c.if-tables-p-6.false)

pub returns : goal.returns
returns c = let a = c.args in let T = a.tables.now in let j = c.loop-j.j in
    let lp = part_length T a.p a.n c.requires.0 in let lq = part_length T a.q a.n c.requires.1 in
    sym (c.loop-j.invariant.1 ∙ parts_end (part T a.p a.n) (part T a.q a.n) j (omega arith) (omega arith))
