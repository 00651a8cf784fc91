-- What an operation may add, so that room can be asked for and growth be told.
use Rattle.std.specs.Prelude.{ℕ, ◌+◌, ◌*◌}
use Rattle.writer.specs.Regions.{Section, names, annotations, declarations}

-- rows of each table, ids that carry Block, parts of composites, capabilities, words of each section, ids
pub record Cost : Type 0 where
  pub types : ℕ
  pub literals : ℕ
  pub nulls : ℕ
  pub values : ℕ
  pub composites : ℕ
  pub blocked : ℕ
  pub parts : ℕ
  pub capabilities : ℕ
  pub names : ℕ
  pub annotations : ℕ
  pub declarations : ℕ
  pub ids : ℕ

abbrev pub no_cost : Cost
no_cost = record { types = 0; literals = 0; nulls = 0; values = 0; composites = 0; blocked = 0; parts = 0; capabilities = 0; names = 0; annotations = 0; declarations = 0; ids = 0 }

-- what it has of the tables
abbrev pub rows_of : Cost → ℕ
rows_of c = c.types + c.literals + c.nulls + c.values + c.composites + c.blocked + c.parts

-- one after the other
infixl 6 ◌⊕◌
abbrev pub ◌⊕◌ : Cost → Cost → Cost
c ⊕ d = record {
  types = c.types + d.types;
  literals = c.literals + d.literals;
  nulls = c.nulls + d.nulls;
  values = c.values + d.values;
  composites = c.composites + d.composites;
  blocked = c.blocked + d.blocked;
  parts = c.parts + d.parts;
  capabilities = c.capabilities + d.capabilities;
  names = c.names + d.names;
  annotations = c.annotations + d.annotations;
  declarations = c.declarations + d.declarations;
  ids = c.ids + d.ids;
}

-- ---- one operation's cost

abbrev pub an_id : Cost
an_id = record { types = 0; literals = 0; nulls = 0; values = 0; composites = 0; blocked = 0; parts = 0; capabilities = 0; names = 0; annotations = 0; declarations = 0; ids = 1 }

abbrev pub a_type : Cost
a_type = record { types = 1; literals = 0; nulls = 0; values = 0; composites = 0; blocked = 0; parts = 0; capabilities = 0; names = 0; annotations = 0; declarations = 0; ids = 0 }

abbrev pub a_literal : Cost
a_literal = record { types = 0; literals = 1; nulls = 0; values = 0; composites = 0; blocked = 0; parts = 0; capabilities = 0; names = 0; annotations = 0; declarations = 0; ids = 0 }

abbrev pub a_null : Cost
a_null = record { types = 0; literals = 0; nulls = 1; values = 0; composites = 0; blocked = 0; parts = 0; capabilities = 0; names = 0; annotations = 0; declarations = 0; ids = 0 }

abbrev pub a_value : Cost
a_value = record { types = 0; literals = 0; nulls = 0; values = 1; composites = 0; blocked = 0; parts = 0; capabilities = 0; names = 0; annotations = 0; declarations = 0; ids = 0 }

abbrev pub a_blocked : Cost
a_blocked = record { types = 0; literals = 0; nulls = 0; values = 0; composites = 0; blocked = 1; parts = 0; capabilities = 0; names = 0; annotations = 0; declarations = 0; ids = 0 }

abbrev pub a_composite : ℕ → Cost
a_composite n = record { types = 0; literals = 0; nulls = 0; values = 0; composites = 1; blocked = 0; parts = n; capabilities = 0; names = 0; annotations = 0; declarations = 0; ids = 0 }

-- parts that wait for their composite
abbrev pub staging : ℕ → Cost
staging n = record { types = 0; literals = 0; nulls = 0; values = 0; composites = 0; blocked = 0; parts = n; capabilities = 0; names = 0; annotations = 0; declarations = 0; ids = 0 }

abbrev pub listing_cost : ℕ → Cost
listing_cost n = record { types = 0; literals = 0; nulls = 0; values = 0; composites = 0; blocked = 0; parts = 0; capabilities = n; names = 0; annotations = 0; declarations = 0; ids = 0 }

-- words of a section
abbrev pub naming : ℕ → Cost
naming n = record { types = 0; literals = 0; nulls = 0; values = 0; composites = 0; blocked = 0; parts = 0; capabilities = 0; names = n; annotations = 0; declarations = 0; ids = 0 }

abbrev pub annotating : ℕ → Cost
annotating n = record { types = 0; literals = 0; nulls = 0; values = 0; composites = 0; blocked = 0; parts = 0; capabilities = 0; names = 0; annotations = n; declarations = 0; ids = 0 }

-- Block on an id
abbrev pub a_block : Cost
a_block = annotating 3 ⊕ a_blocked

abbrev pub declaring : ℕ → Cost
declaring n = record { types = 0; literals = 0; nulls = 0; values = 0; composites = 0; blocked = 0; parts = 0; capabilities = 0; names = 0; annotations = 0; declarations = n; ids = 0 }

abbrev pub section_words : Section → ℕ → Cost
section_words names = naming
section_words annotations = annotating
section_words declarations = declaring

-- ---- a record of n bytes, whatever it is, by which b ids at most get Block

abbrev pub record_cost : ℕ → ℕ → Cost
record_cost b n = record { types = 4; literals = 1; nulls = 1; values = 1; composites = 1; blocked = b; parts = n; capabilities = n; names = n; annotations = 2 * n; declarations = 3 * n; ids = n }
