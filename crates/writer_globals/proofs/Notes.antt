-- The name, and Block on the base, from what the callees leave. A step is the definition's where the definition has been told the case.
use Prim.Native.Nat.{ℕ, ◌+◌, ◌≤◌}
use mathlib.Core.Path.{◌≡◌, sym, ap, ◌∙◌}
use mathlib.Core.Bool.{Bool, true}
use mathlib.Core.List.{List}
use Rattle.std.specs.Prelude.{Option, Some, None}
use native.Mathlib.Omega.{arith}
use borrow.Author.Tests.{eq-eqb, ne_eqb}
use lib.ListN.{length, take, drop, length-take}
use Rattle.definition.specs.Bytes.{u8_at, name_at, name_end}
use Rattle.definition.specs.Instructions.{name}
use Rattle.definition.specs.Shapes.{entry}
use Rattle.definition.specs.State.{State}
use Rattle.definition.specs.Finding.{find}
use Rattle.definition.specs.Rules.{label_if, block_base, block_once}
use Rattle.writer.specs.declared.Writer.{Writer}
use Rattle.writer.specs.Regions.{names}
use Rattle.writer.specs.Cost.{no_cost, naming, a_block}
use Rattle.writer.specs.Steps.{Kept, Added, GotBy, Puts}
use Rattle.writer.proofs.Turns.{kept_as, added_as, got_then}

module _ (debug : Bool) (id : ℕ) (b : List ℕ) where
  module _ (e : debug ≡ true) {k : ℕ} (ek : k ≡ u8_at b 0) where
    pub nameless : k ≡ 255 → (s : State) → label_if debug (name id) (name_at b 0) s ≡ s
    unfolding name_at
    nameless z s =
        let n : name_at b 0 ≡ None = rw (eq-eqb (u8_at b 0) 255 (sym ek ∙ z)) in
        λ j. label_if (e j) (name id) (n j) s

    module _ (nz : k ≡ 255 → ⊥) {bs : List ℕ} (eb : bs ≡ take k (drop 1 b)) where
      is_number : u8_at b 0 ≡ 255 → ⊥
      is_number q = nz (ek ∙ q)

      -- the name is no longer than its length byte says
      pub short : (length bs ≤ k) × (name_end b 0 ≡ 1 + k)
      unfolding name_end
      short =
          let l : length bs ≡ length (take k (drop 1 b)) = ap length eb in
          let m = length-take k (drop 1 b) in
          let n : name_end b 0 ≡ 0 + 1 + u8_at b 0 = rw (ne_eqb (u8_at b 0) 255 is_number) in
          (omega arith, omega arith)

      pub labelled : {w v : Writer} → Puts names (length bs + 3) (name id bs) w v → Added (naming (name_end b 0 + 2)) (label_if debug (name id) (name_at b 0)) w v
      unfolding name_at
      labelled p =
          let n : name_at b 0 ≡ Some bs = rw (ne_eqb (u8_at b 0) 255 is_number) (ap Some (sym (eb ∙ ap (λ (i : ℕ). take i (drop 1 b)) ek))) in
          added_as p (omega (arith, short)) (λ s. sym (λ j. label_if (e j) (name id) (n j) s))

-- ---- Block on the base

module _ (storage : Bool) (o : Option ℕ) (e : storage ≡ true) where
  pub on_base : {b : ℕ} → o ≡ Some b → {w v u : Writer} {i : ℕ} → GotBy no_cost (find (entry b)) w i v → Kept a_block (block_once i) v u → Kept a_block (block_base storage o) w u
  on_base z p q = kept_as (got_then block_once p q) (omega arith) (λ s h. sym (λ j. block_base (e j) (z j) s))
