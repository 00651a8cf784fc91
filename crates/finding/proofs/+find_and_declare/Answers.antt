-- Room is handed down by what a shape names costing less than the shape (Prices), and each way out is one law of Ways.
use native.Mathlib.Omega.{arith}
use mathlib.Core.Path.{sym, ap, ◌∙◌}
use Rattle.std.specs.Prelude.{option_map}
use Rattle.definition.specs.Shapes.{entry}
use Rattle.literals.specs.Forms.{literal_of}
use Rattle.lookup.specs.Local.{local_shape, key_of}
use Rattle.finding.proofs.Entries.{looked_up, entry_got}
use Rattle.finding.proofs.Prices.{inner_rank, inner_price}
use Rattle.finding.proofs.Ways.{type_old, type_new, declared_inner, declared_sized, literal_old, literal_new}
use Rattle.finding.proofs.+find_and_declare.Goals as goal

pub get_constant_scalar-returns-in-Some : goal.get_constant_scalar-returns-in-Some
get_constant_scalar-returns-in-Some t c = let a = c.args in
    literal_old (literal_of a.value) c.form-form.ensures c.bits-bits.ensures a.w.now c.find_literal.result c.find_literal.ensures c.in-Some.id c.in-Some.is

pub get_constant_scalar-returns-in-None : goal.get_constant_scalar-returns-in-None
get_constant_scalar-returns-in-None t c = let a = c.args in
    literal_new (literal_of a.value) c.form-form.ensures c.bits-bits.ensures a.w.now c.find_literal.result c.find_literal.ensures c.in-None.is
    c.take_id-id.ensures (rw c.literal_type.ensures at c.get_type_id-ty.ensures) c.write_literal.ensures c.enter_literal.ensures

pub get_type_id-returns-in-Handle : goal.get_type_id-returns-in-Handle
get_type_id-returns-in-Handle t c = let a = c.args in let h = c.in-Handle.h in let k = c.handle_key.ensures in
    rw c.in-Handle.is (entry_got h a.w.now c.unwrap_or.result (looked_up (entry h) k.1 k.0 a.w.now c.find_type.result c.find_type.ensures c.unwrap_or.ensures))

pub get_type_id-returns-in-Some : goal.get_type_id-returns-in-Some
get_type_id-returns-in-Some t c = let x = c.find_type-in-Local in let k = c.local_key-k.ensures in
    rw c.in-Local.is (type_old (local_shape c.in-Local.l) k.1 k.0 c.args.w.now x.result x.ensures c.in-Some.id c.in-Some.is)

pub get_type_id-returns-in-None : goal.get_type_id-returns-in-None
get_type_id-returns-in-None t c = let x = c.find_type-in-Local in let k = c.local_key-k.ensures in
    rw c.in-Local.is (type_new (local_shape c.in-Local.l) k.1 k.0 c.args.w.now x.result x.ensures c.in-None.is c.take_id-id.ensures c.enter_type.ensures c.write_type_declaration_local.ensures)

pub write_type_declaration_local-get_type_id-x-requires : goal.write_type_declaration_local-get_type_id-x-requires
write_type_declaration_local-get_type_id-x-requires t c = let i = sym c.inner_type.ensures ∙ ap (option_map key_of) c.in-Some.is in let l = local_shape c.args.l in let k = key_of c.in-Some.t in
    (omega (arith, c.decreases, inner_rank l k i), omega (arith, inner_price l k i, c.requires.1.rows, c.requires.1.words))

pub write_type_declaration_local-returns-in-None-length_of : goal.write_type_declaration_local-returns-in-None-length_of
write_type_declaration_local-returns-in-None-length_of t c = let i = sym c.inner_type.ensures ∙ ap (option_map key_of) c.in-Some.is in
    declared_inner (local_shape c.args.l) c.args.id (key_of c.in-Some.t) i c.get_type_id-x.ensures (sym c.length_of.ensures ∙ c.in-None-length_of.is) c.put_declaration-in-None-length_of.ensures

pub write_type_declaration_local-returns-in-Some-length_of : goal.write_type_declaration_local-returns-in-Some-length_of
write_type_declaration_local-returns-in-Some-length_of t c = let i = sym c.inner_type.ensures ∙ ap (option_map key_of) c.in-Some.is in
    declared_sized (local_shape c.args.l) c.args.id (key_of c.in-Some.t) i c.get_type_id-x.ensures c.in-Some-length_of.n (sym c.length_of.ensures ∙ c.in-Some-length_of.is) c.get_constant_scalar-y.ensures c.put_declaration-in-Some-length_of.ensures
