-- By the variant of the expression: the definition finds the constant and enters it with its type's id and its kind, and so do the
-- calls, in their order.
use mathlib.Core.Path.{subst}
use Rattle.std.specs.Prelude.{ℕ, Some, None}
use native.Mathlib.Omega.{arith}
use lib.ListN.{replicate}
use Rattle.definition.specs.Shapes.{entry}
use Rattle.definition.specs.Finding.{literal_kind, literal, find, null_of, composite_of}
use Rattle.definition.specs.Rules.{inner_at, kind_of_scalar, value_at, got_value, constant_of, enter_value, declare_constant}
use Rattle.fields.proofs.Numbers.{u16s_length}
use Rattle.literals.specs.Forms.{literal_of}
use Rattle.records.specs.Places.{types_in}
use Rattle.writer.specs.Held.{Held}
use Rattle.writer.specs.Steps.{Gives}
use Rattle.finding.proofs.Entries.{entry_got}
use Rattle.writer.proofs.Staged.{staged_grown}
use Rattle.writer_constants.proofs.Entering.{composite_entered}
use Rattle.writer_constants.proofs.expressions.write_constant_expr.Goals as goal

pub returns-in-Literal : goal.returns-in-Literal
unfolding declare_constant constant_of
returns-in-Literal c =
    let L = literal_of c.in-Literal.l in
    let g = c.get_constant_scalar-id.ensures in
    let k = c.literal_code.ensures in
    let x = rw c.literal_type.ensures at c.enter_found.ensures in
    rw c.in-Literal.is (record {
      grown = omega (arith, g.grown, x.grown);
      held = λ s h. x.held (Some (literal_kind L)) k.0 (omega (arith, k)) (literal L s) (g.gives s h);
    })

pub returns-in-Constant : goal.returns-in-Constant
unfolding declare_constant constant_of
returns-in-Constant c =
    let e = c.in-Constant in
    let x = c.enter_value in
    rw e.is (record {
      grown = x.ensures.grown;
      held = λ s h.
          let i = c.value_at-v.ensures.held s (c.args.w.now.sections.now, h) in
          let a = i.id in
          let b = i.type in
          subst (Held x.new.self) (λ j. enter_value (record { id = a j; type = b j; kind = (value_at s e.c).kind }) s) (x.ensures.held (value_at s e.c).kind i.kind i.small s h);
    })

pub returns-in-ZeroValue : goal.returns-in-ZeroValue
unfolding declare_constant constant_of
returns-in-ZeroValue c =
    let a = c.args in
    let e = c.in-ZeroValue in
    let f = c.type_id-ty in
    let z = c.get_constant_null-id in
    let k = c.scalar_kind.ensures in
    let x = c.enter_found-in-ZeroValue.ensures in
    rw e.is (record {
      grown = omega (arith, z.ensures.grown, x.grown);
      held = λ s h.
          let y = find (entry e.t) s in
          let t = (entry_got e.t a.w.now f.result f.ensures).gives s h in
          let b = subst (λ (i : ℕ). Gives (null_of i y.state) z.result z.new.w) t.named (z.ensures.gives y.state t.held) in
          x.held (kind_of_scalar (inner_at (types_in a.types) e.t)) k.0 (omega (arith, k)) (null_of y.id y.state) b;
    })

pub returns-in-Compose : goal.returns-in-Compose
unfolding declare_constant constant_of
returns-in-Compose c =
    let p = c.stage_parts.ensures in
    let g = c.get_constant_composite-id.ensures in
    let x = c.enter_found-in-Compose.ensures in
    rw c.in-Compose.is (record {
      grown = omega (arith, u16s_length c.args.body.now 4 c.in-Compose.count, staged_grown p, g.grown, x.grown);
      held = composite_entered p g x;
    })

pub returns-in-Splat : goal.returns-in-Splat
unfolding declare_constant constant_of
returns-in-Splat c =
    let e = c.in-Splat in
    let t = c.splat_type-t.ensures in
    let p = c.stage_splat.ensures in
    let g = c.get_constant_composite-id-in-Splat.ensures in
    let x = c.enter_found-in-Splat in
    rw e.is (record {
      grown = omega (arith, staged_grown p, rw t.cost at g.grown, x.ensures.grown);
      held = λ s h.
          let i = c.value_at-v-in-Splat.ensures.held s (c.args.w.now.sections.now, h) in
          let k = t.is (value_at s e.value).kind i.kind i.small in
          let q = i.id in
          subst (Held x.new.w) (λ j. enter_value (got_value (k j) None (composite_of (k j) (replicate e.size (q j)) s)).value (composite_of (k j) (replicate e.size (q j)) s).state)
          (composite_entered p g x.ensures s h);
    })
