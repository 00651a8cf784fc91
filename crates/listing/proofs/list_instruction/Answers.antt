-- The form says what the list is, and how long (`list_shape`); it is put into the part that is lent (`lent`), or its end lies past
-- the buffer.
use native.Mathlib.Omega.{arith}
use Rattle.definition.specs.Listing.{list_body}
use Rattle.spirv.proofs.Puts.{lent}
use Rattle.listing.proofs.OneList.{list_shape}
use Rattle.listing.proofs.list_instruction.Goals as goal

pub returns-then-out-next : goal.returns-then-out-next
returns-then-out-next c =
    let s = list_shape c.args.op c.args.form c.args.body.now c.requires.1 c.requires.2 in
    record { place = omega (arith, s.size, c.words.ensures); put = λ h. absurd (omega (arith, c.if-out-next.true, h)) }

pub put_list-requires : goal.put_list-requires
put_list-requires c =
    let s = list_shape c.args.op c.args.form c.args.body.now c.requires.1 c.requires.2 in
    (s.enough, omega (arith, c.requires.2.few))

pub returns : goal.returns
returns c =
    let a = c.args in
    let p = c.put_list in
    let s = list_shape a.op a.form a.body.now c.requires.1 c.requires.2 in
    record {
      place = omega (arith, s.size, c.words.ensures);
      put = λ h. lent a.out.now a.to (list_body a.op a.body.now) p.new.left p.result (rw s.same p.ensures) (omega (arith, s.size, c.words.ensures, h));
    }
