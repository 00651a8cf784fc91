-- A constant that was found is entered as the definition enters it: under its type's id, and with its kind. The table has a kind as a
-- code, from which a Splat's type is read.
use Prim.Native.Nat.{ℕ, ◌+◌, ◌*◌, ◌-◌, ◌<◌, ◌%◌, ◌/◌}
use mathlib.Core.Path.{◌≡◌, refl, ap, ◌∙◌, subst}
use mathlib.Core.List.{List}
use Rattle.std.specs.Prelude.{Option, Some, None}
use native.Mathlib.Nat.{mod-eq_of_lt as mod-of-lt}
use native.Mathlib.Omega.{arith}
use Rattle.definition.specs.Choice.{or_else}
use Rattle.definition.specs.Shapes.{Kind, Key, sint, uint, float, bool, kind_of, vector, shape}
use Rattle.definition.specs.State.{State}
use Rattle.definition.specs.Finding.{composite_of}
use Rattle.definition.specs.Rules.{got_value, enter_value}
use Rattle.lookup.specs.Packed.{code}
use Rattle.writer.specs.declared.Writer.{Writer}
use Rattle.writer.specs.Cost.{Cost}
use Rattle.writer.specs.Held.{kind_code, SmallKind, HeldIn, Held}
use Rattle.writer.specs.Staged.{Staged}
use Rattle.writer.specs.Steps.{Gives, FoundBy, EnteredValue, staged}
use Rattle.writer_constants.specs.Entered.{TypeId, EnteredFound, SplatType}

-- ---- a Splat's type

-- a kind, of its code's last digit to base 4 and what is before it
decoded : (k : Kind) → kind_of (code k % 4) (code k / 4) ≡ k
unfolding kind_of
decoded (sint w) = let a : 4 * w % 4 ≡ 0 = omega arith in let b : 4 * w / 4 ≡ w = omega arith in rw (a, b)
decoded (uint w) = let a : (1 + 4 * w) % 4 ≡ 1 = omega arith in let b : (1 + 4 * w) / 4 ≡ w = omega arith in rw (a, b)
decoded (float w) = let a : (2 + 4 * w) % 4 ≡ 2 = omega arith in let b : (2 + 4 * w) / 4 ≡ w = omega arith in rw (a, b)
decoded bool = refl

pub splat_none : (size kind : ℕ) → kind ≡ 0 → SplatType size kind (shape (vector size (kind_of 3 0)))
unfolding kind_of
splat_none size kind e = record { cost = refl; is = go }
  where
    go : (o : Option Kind) → kind ≡ kind_code o → SmallKind o → shape (vector size bool) ≡ shape (vector size (or_else bool o))
    go None q m = refl
    go (Some k) q m = absurd (omega arith)

pub splat_some : (size kind x y : ℕ) → (kind ≡ 0 → ⊥) → x ≡ (kind - 1) % 4 → y ≡ (kind - 1) / 4 % 256 → SplatType size kind (shape (vector size (kind_of x y)))
splat_some size kind x y n ex ey = record { cost = refl; is = go }
  where
    go : (o : Option Kind) → kind ≡ kind_code o → SmallKind o → shape (vector size (kind_of x y)) ≡ shape (vector size (or_else bool o))
    go None q m = absurd (n q)
    go (Some k) q m =
        let z : kind - 1 ≡ code k = omega arith in
        let c : x ≡ code k % 4 = ex ∙ ap (λ (i : ℕ). i % 4) z in
        let u : code k / 4 < 256 = omega arith in
        let d : y ≡ code k / 4 = ey ∙ ap (λ (i : ℕ). i / 4 % 256) z ∙ mod-of-lt u in
        ap (λ (z : Kind). shape (vector size z)) ((λ j. kind_of (c j) (d j)) ∙ decoded k)

-- ---- what was found

pub found_entered : {k : Key} {kind ty id : ℕ} {w v : Writer} → TypeId k w ty → EnteredValue id ty kind w v → EnteredFound k kind id w v
found_entered {k = k} {w = w} {v = v} t x = record {
  grown = x.grown;
  sections = x.sections;
  held = λ o e small y h.
      let p = h.named in
      let q = t y.state (w.sections.now, h.held) in
      subst (Held v) (λ j. enter_value (record { id = p j; type = q j; kind = o }) y.state) (x.held o e small y.state h.held);
  apart = λ o e small y p S h.
      let q = t y.state (S, h) in
      subst (HeldIn v.used v.tables.now S) (λ j. enter_value (record { id = p j; type = q j; kind = o }) y.state) (x.apart o e small S y.state h);
}

-- a composite whose parts were put behind those in use
pub composite_entered : {k : Key} {n : ℕ} {ps : State → List ℕ} {c : Cost} {id : ℕ} {w a b v : Writer} → Staged n ps w a → FoundBy c (composite_of k (staged n a)) a id b → EnteredFound k 0 id b v
    → (s : State) → Held w s → Held v (enter_value (got_value k None (composite_of k (ps s) s)).value (composite_of k (ps s) s).state)
composite_entered {k = k} {ps = ps} {id = id} {w = w} {b = b} p q x s h =
    x.held None refl (omega arith) (composite_of k (ps s) s) (subst (λ (l : List ℕ). Gives (composite_of k l s) id b) (p.parts s (w.sections.now, h)) (q.gives s (p.held s h)))
