-- What an operation promises: whatever state is held before it, the state after it is held then.
use Rattle.std.specs.Prelude.{ℕ, suc, ◌+◌, ◌*◌, ◌≤◌, ◌≡◌, Bool, List, [], ◌∷◌, ◌++◌, map, ltb, length, get_or}
use Rattle.std.specs.Prelude.{Option}
use Rattle.std.proofs.Math.Decide.{ℕ_discrete}
use Rattle.definition.specs.Choice.{pick, among}
use Rattle.definition.specs.Literals.{Literal, same_literal}
use Rattle.definition.specs.Instructions.{Instruction, words}
use Rattle.definition.specs.Shapes.{Kind, Key, same_key}
use Rattle.definition.specs.State.{State, empty, Composite, same_composite, Valued, Got, take_id, enter, declare_alone, with_constants, listed, lookup}
use Rattle.definition.specs.Finding.{enter_literal, enter_composite, enter_null}
use Rattle.definition.specs.Rules.{value_at, enter_value, blocked_by, blocked}
use Rattle.literals.specs.Forms.{literal_form, bits_of}
use Rattle.lookup.specs.Packed.{packed_key, Small}
use Rattle.writer.specs.declared.Used.{Used}
use Rattle.writer.specs.declared.Writer.{Writer}
use Rattle.writer.specs.declared.WrittenConstant.{WrittenConstant}
use Rattle.std.specs.Fn.{FnOnceReturnsAtMut}
use denote.Param.Members.{Once}
use denote.Ref.{MutBor}
use Rattle.spirv.specs.Put.{Put}
use Rattle.spirv.specs.Ids.{low}
use Rattle.spirv.specs.Sections.{splice}
use Rattle.writer.specs.Rows.{part}
use Rattle.writer.specs.Regions.{values_at, parts_at, section_at, Section, names, annotations, declarations, add_to}
use Rattle.writer.specs.Cost.{Cost, rows_of, listing_cost, an_id, a_type, a_literal, a_null, a_value, a_composite, declaring, section_words}
use Rattle.writer.specs.Held.{kind_code, SmallKind, HeldIn, Held, HeldByTables, WordsFit, RoomFor, SameLent, Grown, SmallComposite, composite_key, parts_of_c}

-- nothing is in use
abbrev pub none_used : ℕ → ℕ → ℕ → Used
none_used records bytes start = record { records = records; bytes = bytes; idgen = record { last = start }; types = 0; literals = 0; nulls = 0; values = 0; composites = 0; blocked = 0; parts = 0; capabilities = 0; names = 0; annotations = 0; declarations = 0 }

-- .. whatever stands in the slices
pub record Fresh (records bytes start : ℕ) (w : Writer) : Type 0 where
  pub used : w.used ≡ none_used records bytes start
  pub held : Held w (empty start)

-- .. and the slices are as they were
pub record Emptied (start : ℕ) (w v : Writer) : Type 0 where
  pub lent : SameLent w v
  pub tables : v.tables.now ≡ w.tables.now
  pub sections : v.sections.now ≡ w.sections.now
  pub fresh : Fresh w.used.records w.used.bytes start v

-- the parts in use, and those that stand behind them, are as they were; and so are the tables, where the cost has nothing of theirs
pub record Tail (c : Cost) (w v : Writer) : Type 0 where
  pub parts : v.used.parts ≡ w.used.parts
  pub ids : (j : ℕ) → parts_at w.used ≤ j → get_or v.tables.now j 0 ≡ get_or w.tables.now j 0
  pub tables : rows_of c ≡ 0 → v.tables.now ≡ w.tables.now

-- ---- what an operation does, whatever it is made of

-- a change of the state
pub record Kept (c : Cost) (f : State → State) (w v : Writer) : Type 0 where
  pub grown : Grown c w v
  pub tail : Tail c w v
  pub held : (s : State) → Held w s → Held v (f s)

-- an id, and the state in which it is declared, are held
pub record Gives (g : Got) (id : ℕ) (w : Writer) : Type 0 where
  pub named : id ≡ g.id
  pub held : Held w g.state

-- an id is found
pub record GotBy (c : Cost) (f : State → Got) (w : Writer) (id : ℕ) (v : Writer) : Type 0 where
  pub grown : Grown c w v
  pub tail : Tail c w v
  pub gives : (s : State) → Held w s → Gives (f s) id v

-- the same of what may add parts
pub record FoundBy (c : Cost) (f : State → Got) (w : Writer) (id : ℕ) (v : Writer) : Type 0 where
  pub grown : Grown c w v
  pub gives : (s : State) → Held w s → Gives (f s) id v

-- ---- ids

-- and whatever the lists are
pub record Took (w : Writer) (id : ℕ) (v : Writer) : Type 0 where
  pub named : id ≡ suc w.used.idgen.last
  pub kept : Kept an_id take_id w v
  pub sections : v.sections.now ≡ w.sections.now
  pub apart : (T S : List ℕ) (s : State) → HeldIn w.used T S s → HeldIn v.used T S (take_id s)

-- ---- searches: each is the definition's lookup, whatever stands in the sections

abbrev pub FindsType : ℕ → Writer → Option ℕ → Type 0
FindsType key w r = (k : Key) → Small k → key ≡ packed_key k → (s : State) → HeldByTables w s → r ≡ lookup same_key k s.types

abbrev pub FindsLiteral : ℕ → ℕ → Writer → Option ℕ → Type 0
FindsLiteral form bits w r = (l : Literal) → form ≡ literal_form l → bits ≡ bits_of l → (s : State) → HeldByTables w s → r ≡ lookup same_literal l s.constants.literals

abbrev pub FindsNull : ℕ → Writer → Option ℕ → Type 0
FindsNull t w r = (s : State) → HeldByTables w s → r ≡ lookup ℕ_discrete t s.constants.nulls

-- the n parts that stand behind those in use
abbrev pub staged : ℕ → Writer → List ℕ
staged n w = part w.tables.now (parts_at w.used + w.used.parts) n

-- a composite's parts are those
abbrev pub FindsComposite : ℕ → ℕ → Writer → Option ℕ → Type 0
FindsComposite key n w r = (c : Composite) → SmallComposite c → key ≡ composite_key c → staged n w ≡ parts_of_c c → (s : State) → HeldByTables w s
    → r ≡ lookup same_composite c s.constants.composites

-- ---- entries, which leave the sections as they are; what is held stays held whatever those are (`apart`)

pub record EnteredType (key id : ℕ) (w v : Writer) : Type 0 where
  pub grown : Grown a_type w v
  pub tail : Tail a_type w v
  pub sections : v.sections.now ≡ w.sections.now
  pub held : (k : Key) → Small k → key ≡ packed_key k → (s : State) → Held w s → Held v (enter k id s)
  pub apart : (k : Key) → Small k → key ≡ packed_key k → (S : List ℕ) (s : State) → HeldIn w.used w.tables.now S s → HeldIn v.used v.tables.now S (enter k id s)

abbrev pub note_literal : Literal → ℕ → State → State
note_literal l id s = with_constants (enter_literal l id s.constants) s

pub record EnteredLiteral (form bits id : ℕ) (w v : Writer) : Type 0 where
  pub grown : Grown a_literal w v
  pub tail : Tail a_literal w v
  pub sections : v.sections.now ≡ w.sections.now
  pub held : (l : Literal) → form ≡ literal_form l → bits ≡ bits_of l → (s : State) → Held w s → Held v (note_literal l id s)
  pub apart : (l : Literal) → form ≡ literal_form l → bits ≡ bits_of l → (S : List ℕ) (s : State) → HeldIn w.used w.tables.now S s → HeldIn v.used v.tables.now S (note_literal l id s)

abbrev pub note_null : ℕ → ℕ → State → State
note_null t id s = with_constants (enter_null t id s.constants) s

pub record EnteredNull (t id : ℕ) (w v : Writer) : Type 0 where
  pub kept : Kept a_null (note_null t id) w v
  pub sections : v.sections.now ≡ w.sections.now
  pub apart : (S : List ℕ) (s : State) → HeldIn w.used w.tables.now S s → HeldIn v.used v.tables.now S (note_null t id s)

abbrev pub note_composite : Composite → ℕ → State → State
note_composite c id s = with_constants (enter_composite c id s.constants) s

-- the n parts that stand behind those in use are its parts
pub record EnteredComposite (key n id : ℕ) (w v : Writer) : Type 0 where
  pub grown : Grown (a_composite n) w v
  pub sections : v.sections.now ≡ w.sections.now
  pub held : (c : Composite) → SmallComposite c → key ≡ composite_key c → staged n w ≡ parts_of_c c → (s : State) → Held w s → Held v (note_composite c id s)
  pub apart : (c : Composite) → SmallComposite c → key ≡ composite_key c → staged n w ≡ parts_of_c c
      → (S : List ℕ) (s : State) → HeldIn w.used w.tables.now S s → HeldIn v.used v.tables.now S (note_composite c id s)

pub record EnteredValue (id type kind : ℕ) (w v : Writer) : Type 0 where
  pub grown : Grown a_value w v
  pub sections : v.sections.now ≡ w.sections.now
  pub held : (o : Option Kind) → kind ≡ kind_code o → SmallKind o → (s : State) → Held w s
      → Held v (enter_value (record { id = id; type = type; kind = o }) s)
  pub apart : (o : Option Kind) → kind ≡ kind_code o → SmallKind o → (S : List ℕ) (s : State) → HeldIn w.used w.tables.now S s
      → HeldIn v.used v.tables.now S (enter_value (record { id = id; type = type; kind = o }) s)

-- the id is part i of those that stand behind the parts in use
abbrev pub with_part : ℕ → ℕ → Writer → Writer
with_part i id w = record w { tables = record w.tables { now = splice w.tables.now (parts_at w.used + w.used.parts + i) (id ∷ []) } }

-- ---- the sheet's constants

-- the id of a constant of the sheet, as the tables have it
abbrev pub id_in : Writer → ℕ → ℕ
id_in w c = pick (ltb c w.used.values) (get_or w.tables.now (values_at w.used + 3 * c) 0) 0

pub record IsValue (r : WrittenConstant) (v : Valued) : Type 0 where
  pub id : r.id ≡ v.id
  pub type : r.ty ≡ v.type
  pub kind : r.kind ≡ kind_code v.kind
  pub small : SmallKind v.kind

pub record ValueAt (c : ℕ) (w : Writer) (r : WrittenConstant) : Type 0 where
  pub named : r.id ≡ id_in w c
  pub held : (s : State) → HeldByTables w s → IsValue r (value_at s c)

-- ---- instructions

-- an instruction whose words, its numbers taken as words, are the ones put
abbrev pub Spelt : Instruction → List ℕ → Type 0
Spelt i ws = map low (words i) ≡ ws

-- an instruction that needs no other change than that of its section: one that puts Block on an id is noted in a table too
abbrev pub Alone : Section → Instruction → Type 0
Alone names i = Unit
Alone annotations i = blocked_by i ≡ []
Alone declarations i = Unit

-- at most n words, which are an instruction's
pub record Spells (n : ℕ) (i : Instruction) (ws : List ℕ) : Type 0 where
  pub few : length ws ≤ n
  pub spelt : Spelt i ws

-- a call puts these words into what it is lent
abbrev pub PutsWords : {F : Type 0} → Once F (MutBor (List ℕ) × Unit {0}) (ℕ × (MutBor (List ℕ) × Unit {0})) → F → List ℕ → Type 0
PutsWords g f ws = (s : List ℕ) (n : ℕ) (t : List ℕ) → FnOnceReturnsAtMut g f s n t → Put ws s t n

-- a change of the state that touches the sections alone: what is held stays held, and so it does whatever the tables are
pub record Added (c : Cost) (f : State → State) (w v : Writer) : Type 0 where
  pub kept : Kept c f w v
  pub apart : (T : List ℕ) (s : State) → HeldIn w.used T w.sections.now s → HeldIn v.used T v.sections.now (f s)

-- an instruction of at most n words is put in its section
abbrev pub Puts : Section → ℕ → Instruction → Writer → Writer → Type 0
Puts b n i w v = Added (section_words b n) (add_to b i) w v

-- words behind the declarations in use, from place k of an instruction that is not whole yet on: what is held stays held, whatever the
-- tables are
pub record Pending (k : ℕ) (xs : List ℕ) (w v : Writer) : Type 0 where
  pub lent : SameLent w v
  pub used : v.used ≡ w.used
  pub tables : v.tables.now ≡ w.tables.now
  pub still : (s : State) → Held w s → Held v s
  pub apart : (T : List ℕ) (s : State) → HeldIn w.used T w.sections.now s → HeldIn w.used T v.sections.now s
  pub more : part v.sections.now (section_at declarations v.used + v.used.declarations) (k + length xs) ≡ part w.sections.now (section_at declarations w.used + w.used.declarations) k ++ xs

-- the n words pending are an instruction, whatever the lists are
pub record Committed (n : ℕ) (w v : Writer) : Type 0 where
  pub grown : Grown (declaring n) w v
  pub tail : Tail (declaring n) w v
  pub sections : v.sections.now ≡ w.sections.now
  pub held : (s : State) (i : Instruction) → Spelt i (part w.sections.now (section_at declarations w.used + w.used.declarations) n) → Held w s → Held v (declare_alone i s)
  pub apart : (T S : List ℕ) (s : State) (i : Instruction) → Spelt i (part S (section_at declarations w.used + w.used.declarations) n) → HeldIn w.used T S s → HeldIn v.used T S (declare_alone i s)

-- ---- Block

-- whether an id carries it
abbrev pub FindsBlock : ℕ → Writer → Bool → Type 0
FindsBlock id w r = (s : State) → HeldByTables w s → r ≡ among id (blocked s.annotations)

-- ---- capabilities, each at its first use

abbrev pub listing : List ℕ → State → State
listing cs s = record { last = s.last; types = s.types; constants = s.constants; capabilities = listed cs s.capabilities; names = s.names; annotations = s.annotations; declarations = s.declarations }

-- one is listed at most, and nothing but their count is another, whatever room there is; what is held stays held whatever the tables
-- are, and by any numbers in use that have as many capabilities as the writer's (`apart`)
pub record Listed (cs : List ℕ) (w v : Writer) : Type 0 where
  pub few : v.used.capabilities ≤ w.used.capabilities + 1
  pub used : v.used ≡ record w.used { capabilities = v.used.capabilities }
  pub lent : SameLent w v
  pub tables : v.tables.now ≡ w.tables.now
  pub kept : RoomFor (listing_cost 1) w → Kept (listing_cost 1) (listing cs) w v
  pub apart : (u : Used) → u.capabilities ≡ w.used.capabilities → WordsFit (listing_cost 1) u w.sections.now
      → (T : List ℕ) (s : State) → HeldIn u T w.sections.now s → HeldIn (record u { capabilities = v.used.capabilities }) T v.sections.now (listing cs s)
