-- What the declaration of a type has to know of its record, and the record's tests tell.
use Rattle.std.specs.Prelude.{ℕ, ◌≡◌, true, List, length}
use Rattle.definition.specs.Bytes.{name_at, name_end}
use Rattle.definition.specs.Sheet.{Record, TypeEntry, type_fields}
use Rattle.definition.specs.Tests.{inner_fits}
use Rattle.entries.specs.declared.types.TypeInner as Program
use Rattle.entries.specs.Types.{TypeTaken}
use Rattle.writer_types.specs.Inner.{inner_in}

-- tests 8 and 10
pub record TypeTested (r : Record) : Type 0 where
  pub whole : (type_fields r.tag r.body (name_end r.body 0)).end ≡ length r.body
  pub values : inner_fits (type_fields r.tag r.body (name_end r.body 0)).value ≡ true

-- a body of some tag passed them, and t was taken from it
pub record TypeRead (b : List ℕ) (t : Program.TypeInner) : Type 0 where
  pub tag : ℕ
  pub tested : TypeTested (record { tag = tag; body = b })
  pub taken : TypeTaken tag b (name_end b 0) t

-- the entry of such a type: the name in its body, and what was taken
pub record EntryOf (b : List ℕ) (t : Program.TypeInner) (x : TypeEntry) : Type 0 where
  pub name : x.name ≡ name_at b 0
  pub inner : x.inner ≡ inner_in b t
