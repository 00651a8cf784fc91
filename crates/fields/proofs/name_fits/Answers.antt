-- `fields::name_fits`: where the length byte is not 255 the part that was taken is the definition's name; a plain one passes the
-- definition's two tests, and of another the code's two tests are those.
use Prim.Native.Nat.{ℕ, ◌+◌}
use mathlib.Core.Path.{◌≡◌, refl, sym, ◌∙◌}
use mathlib.Core.Bool.{Bool, true, false, ◌&&◌}
use mathlib.Core.List.{List}
use lib.ListN.{take, drop}
use borrow.Author.Tests.{eq-eqb, ne_eqb}
use Rattle.definition.specs.Bytes.{u8_at, name_at}
use Rattle.definition.specs.Utf8.{utf8, no_zero, name_fits}
use Rattle.fields.proofs.Octets.{plain_fits}
use Rattle.fields.proofs.name_fits.Goals as goal

-- a name that is not none, of n bytes: t says whether it is UTF-8, and u whether no byte of it is 0
judged : (s : List ℕ) (i n : ℕ) (name : List ℕ) (t u : Bool) → n ≡ u8_at s i → (n ≡ 255 → ⊥)
    → name ≡ take n (drop (i + 1) s) → t ≡ utf8 name → u ≡ no_zero name → (t && u) ≡ name_fits (name_at s i)
unfolding name_at
judged s i n name t u e f g p q = simp (← e, ne_eqb n 255 f, ← g, ← p, ← q)

pub returns-then-n : goal.returns-then-n
unfolding name_at
returns-then-n c = simp (← c.u8_at-n.ensures, eq-eqb _ _ c.if-n.true)

pub returns-then-is_plain : goal.returns-then-is_plain
returns-then-is_plain c =
    let passes = plain_fits _ (c.is_plain.ensures c.if-is_plain.true) in
    c.if-is_plain.true ∙ judged _ _ _ _ true true c.u8_at-n.ensures c.if-n.false c.part-name.ensures (sym passes.0) (sym passes.1)

pub returns-then-is_utf8 : goal.returns-then-is_utf8
returns-then-is_utf8 c =
    judged _ _ _ _ true _ c.u8_at-n.ensures c.if-n.false c.part-name.ensures (sym c.if-is_utf8.true ∙ c.is_utf8.ensures) c.no_zero.ensures

pub returns-else-is_utf8 : goal.returns-else-is_utf8
returns-else-is_utf8 c =
    c.if-is_utf8.false
    ∙ judged _ _ _ _ false _ c.u8_at-n.ensures c.if-n.false c.part-name.ensures (sym c.if-is_utf8.false ∙ c.is_utf8.ensures) refl
