-- The program's options as the definition's.
use Rattle.definition.specs.Sheet as Defined
use Rattle.records.specs.declared.Options.{Options}

abbrev pub options_from : Options → Defined.Options
options_from o = record { debug = o.debug; zeroing = o.zeroing }
