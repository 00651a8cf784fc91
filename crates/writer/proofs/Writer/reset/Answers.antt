-- Nothing is in use from here on, and the slices are the same.
use mathlib.Core.Path.{refl}
use Rattle.writer.proofs.Empty.{fresh}
use Rattle.writer.proofs.Writer.reset.Goals as goal

pub returns : goal.returns
returns c = record {
  lent = record { tables = refl; sections = refl; tables_long = refl; sections_long = refl };
  tables = refl;
  sections = refl;
  fresh = fresh _ _ c.args.start _ c.unused-self.ensures;
}
