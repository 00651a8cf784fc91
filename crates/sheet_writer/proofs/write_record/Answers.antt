-- Tests 5 to 12, and where they pass what the record's kind comes to: the definition's `record_test` and `declare_entry` (Turns).
use native.Mathlib.Omega.{arith}
use mathlib.Core.Path.{◌≡◌, refl, sym, ap, ◌∙◌}
use Rattle.std.proofs.Common.{rules}
use Rattle.std.specs.Prelude.{Some, Err}
use Rattle.definition.specs.Sheet.{tag_rank}
use Rattle.records.specs.declared.Rank.{Rank}
use Rattle.records.specs.Ranks.{rank_number}
use Rattle.records.specs.Flags.{options_from}
use Rattle.refusals.specs.Numbers.{number_of, test_number}
use Rattle.refusals.proofs.Tests.{not_zero, no_answer}
use Rattle.sheet_writer.proofs.Turns.{read_first, type_asks, function_asks, constant_asks, global_asks, type_comes, function_comes, constant_comes, global_comes, other_comes}
use Rattle.sheet_writer.proofs.write_record.Goals as goal

pub returns-in_err-record_test : goal.returns-in_err-record_test
returns-in_err-record_test c =
    let r = c.in_err-record_test.field-0.0 in
    let q : test_number c.from_residual.result ≡ number_of r = search rules in
    let f : c.from_residual.result ≡ Err r = search rules in
    record {
      memo = c.requires.memo;
      told = λ n b x h. q ∙ read_first c.requires c.in_err-record_test.ensures c.args.available (not_zero r) n b x h;
      refused = λ y z. refl;
      written = λ z. absurd (no_answer (sym f ∙ z));
    }

pub write_type-requires : goal.write_type-requires
write_type-requires c = rw (c.types.ensures.1, c.tag_of-tag.ensures, c.body_of-body.ensures) (type_asks c.requires c.in_ok-record_test.ensures refl (ap tag_rank (sym c.tag_of-tag.ensures) ∙ sym c.rank_of.ensures ∙ ap rank_number c.in-Some-Types.is ∙ ap (λ (r : Rank). rank_number (Some r)) c.in-Some-Types.field-0-is))

pub write_function_type-requires : goal.write_function_type-requires
write_function_type-requires c = rw c.body_of-body.ensures (function_asks c.requires c.in_ok-record_test.ensures refl (ap tag_rank (sym c.tag_of-tag.ensures) ∙ sym c.rank_of.ensures ∙ ap rank_number c.in-Some-Functions.is ∙ ap (λ (r : Rank). rank_number (Some r)) c.in-Some-Functions.field-0-is))

pub write_constant-requires : goal.write_constant-requires
write_constant-requires c = rw (c.types-in-Some-Constants.ensures.0, c.types-in-Some-Constants.ensures.1, c.tag_of-tag.ensures, c.body_of-body.ensures) (constant_asks c.requires c.in_ok-record_test.ensures refl (ap tag_rank (sym c.tag_of-tag.ensures) ∙ sym c.rank_of.ensures ∙ ap rank_number c.in-Some-Constants.is ∙ ap (λ (r : Rank). rank_number (Some r)) c.in-Some-Constants.field-0-is))

pub write_global-requires : goal.write_global-requires
write_global-requires c = rw (c.types-in-Some-Globals.ensures.0, c.types-in-Some-Globals.ensures.1, c.body_of-body.ensures) (global_asks c.requires c.in_ok-record_test.ensures refl (ap tag_rank (sym c.tag_of-tag.ensures) ∙ sym c.rank_of.ensures ∙ ap rank_number c.in-Some-Globals.is ∙ ap (λ (r : Rank). rank_number (Some r)) c.in-Some-Globals.field-0-is))

pub returns-in-Some-Types : goal.returns-in-Some-Types
returns-in-Some-Types c = type_comes c.requires c.in_ok-record_test.ensures refl (options_from c.args.options) c.args.available (ap tag_rank (sym c.tag_of-tag.ensures) ∙ sym c.rank_of.ensures ∙ ap rank_number c.in-Some-Types.is ∙ ap (λ (r : Rank). rank_number (Some r)) c.in-Some-Types.field-0-is) c.requires.memo (rw (c.types.ensures.0, c.types.ensures.1, c.tag_of-tag.ensures, c.body_of-body.ensures) at c.write_type.ensures)

pub returns-in-Some-Functions : goal.returns-in-Some-Functions
returns-in-Some-Functions c = function_comes c.requires c.in_ok-record_test.ensures refl (options_from c.args.options) c.args.available (ap tag_rank (sym c.tag_of-tag.ensures) ∙ sym c.rank_of.ensures ∙ ap rank_number c.in-Some-Functions.is ∙ ap (λ (r : Rank). rank_number (Some r)) c.in-Some-Functions.field-0-is) c.requires.memo (rw c.body_of-body.ensures at c.write_function_type.ensures)

pub returns-in-Some-Constants : goal.returns-in-Some-Constants
returns-in-Some-Constants c = constant_comes c.requires c.in_ok-record_test.ensures refl (options_from c.args.options) c.args.available (ap tag_rank (sym c.tag_of-tag.ensures) ∙ sym c.rank_of.ensures ∙ ap rank_number c.in-Some-Constants.is ∙ ap (λ (r : Rank). rank_number (Some r)) c.in-Some-Constants.field-0-is) (rw (c.types-in-Some-Constants.ensures.0, c.types-in-Some-Constants.ensures.1) at c.write_constant.ensures.1) (rw (c.types-in-Some-Constants.ensures.0, c.types-in-Some-Constants.ensures.1, c.tag_of-tag.ensures, c.body_of-body.ensures) at c.write_constant.ensures.0)

pub returns-in-Some-Globals : goal.returns-in-Some-Globals
returns-in-Some-Globals c = global_comes c.requires c.in_ok-record_test.ensures refl (options_from c.args.options) c.args.available (ap tag_rank (sym c.tag_of-tag.ensures) ∙ sym c.rank_of.ensures ∙ ap rank_number c.in-Some-Globals.is ∙ ap (λ (r : Rank). rank_number (Some r)) c.in-Some-Globals.field-0-is) (rw (c.types-in-Some-Globals.ensures.0, c.types-in-Some-Globals.ensures.1) at c.write_global.ensures.1) (rw (c.types-in-Some-Globals.ensures.0, c.types-in-Some-Globals.ensures.1, c.remaps.ensures.0, c.remaps.ensures.1, c.body_of-body.ensures) at c.write_global.ensures.0)

pub returns-in-Some-Available : goal.returns-in-Some-Available
returns-in-Some-Available c = other_comes c.requires c.in_ok-record_test.ensures refl (options_from c.args.options) c.args.available _ (sym (ap tag_rank (sym c.tag_of-tag.ensures) ∙ sym c.rank_of.ensures ∙ ap rank_number c.in-Some-Available.is ∙ ap (λ (r : Rank). rank_number (Some r)) c.in-Some-Available.field-0-is)) (λ e. omega (arith, e)) (λ e. omega (arith, e)) (λ e. omega (arith, e)) (λ e. omega (arith, e))

pub returns-in-Some-Remaps : goal.returns-in-Some-Remaps
returns-in-Some-Remaps c = other_comes c.requires c.in_ok-record_test.ensures refl (options_from c.args.options) c.args.available _ (sym (ap tag_rank (sym c.tag_of-tag.ensures) ∙ sym c.rank_of.ensures ∙ ap rank_number c.in-Some-Remaps.is ∙ ap (λ (r : Rank). rank_number (Some r)) c.in-Some-Remaps.field-0-is)) (λ e. omega (arith, e)) (λ e. omega (arith, e)) (λ e. omega (arith, e)) (λ e. omega (arith, e))

pub returns-in-None : goal.returns-in-None
returns-in-None c = other_comes c.requires c.in_ok-record_test.ensures refl (options_from c.args.options) c.args.available _ (sym (ap tag_rank (sym c.tag_of-tag.ensures) ∙ sym c.rank_of.ensures ∙ ap rank_number c.in-None.is)) (λ e. omega (arith, e)) (λ e. omega (arith, e)) (λ e. omega (arith, e)) (λ e. omega (arith, e))
