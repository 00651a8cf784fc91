-- The loop's outcome and the last stage come to the definition's Declare (`declared`), and what was read is what its Wrapped asks
-- (`wrapped_as`): one reading for both.
use mathlib.Core.List.{List}
use Prim.Native.Nat.{ℕ}
use mathlib.Core.Path.{sym, subst}
use native.Mathlib.Omega.{arith}
use Rattle.sheet_writer.specs.Whole.{SheetWritten}
use Rattle.declarations.specs.Promise.{WrappedPromise}
use Rattle.declarations.proofs.Laws.{all_bytes, declared, standing, wrapped_as, lent, ample}
use Rattle.declarations.proofs.answers_in.Goals as goal

pub write_sheet-outcome-requires : goal.write_sheet-outcome-requires
write_sheet-outcome-requires c = (lent c.args.sheet.now c.args.w.now c.requires, ample)

pub wrapping_of-wrapping-requires : goal.wrapping_of-wrapping-requires
wrapping_of-wrapping-requires c = let w = c.write_sheet-outcome in
    standing w.new.held c.args.w.now w.result w.new.w (subst (λ (s : List ℕ). SheetWritten s w.new.held c.args.w.now w.result w.new.w) (sym w.ensures.same.sheet) w.ensures.written)

pub returns : goal.returns
returns c = let a = c.args in let s = a.sheet.now in let w = c.write_sheet-outcome in let f = c.finish-answer in let g = c.wrapping_of-wrapping in
    record {
      declares = declared s a.words.now f.result f.new.words w.new.held a.w.now w.result w.new.w (all_bytes s (λ i. omega (arith, c.type_inv.sheet i))) w.ensures.written f.ensures;
      wraps = subst (λ (t : List ℕ). WrappedPromise t a.index g.result) w.ensures.same.sheet
          (wrapped_as w.new.held a.w.now w.result w.new.w a.index g.result (subst (λ (t : List ℕ). SheetWritten t w.new.held a.w.now w.result w.new.w) (sym w.ensures.same.sheet) w.ensures.written) g.ensures);
    }
