-- Entering a row in a table: the row stands behind those of its table, and every other table and every section is as it was. One
-- law for all tables of rows; a composite also puts its parts behind those in use.
use Rattle.std.specs.Prelude.{Option}
use Prim.Native.Nat.{ℕ, ◌+◌, ◌*◌, ◌≤◌}
use mathlib.Core.Path.{◌≡◌, refl, sym, ap, ◌∙◌}
use mathlib.Core.List.{List, [], ◌∷◌, ◌++◌, append_assoc, append-nil, map}
use native.Mathlib.Omega.{arith}
use lib.ListN.{length, take, drop, length-drop}
use lib.Seq.{length-take-le, take-add, drop-drop}
use Rattle.literals.specs.Forms.{literal_form, bits_of}
use Rattle.definition.specs.Literals.{Literal}
use Rattle.definition.specs.Shapes.{Kind, Key}
use Rattle.definition.specs.State.{State, Composite, Valued, enter}
use Rattle.definition.specs.Rules.{enter_value}
use Rattle.lookup.specs.Packed.{Small, packed_key}
use Rattle.spirv.specs.Sections.{splice}
use Rattle.spirv.proofs.Splices.{splice-length}
use Rattle.writer.specs.declared.Used.{Used}
use Rattle.writer.specs.declared.Writer.{Writer}
use Rattle.writer.specs.Rows.{TableRow, table_row, RowKind, pair, triple, row_length, table_rows, part}
use Rattle.writer.specs.Regions.{literals_at, nulls_at, values_at, composites_at, blocked_at, parts_at}
use Rattle.writer.specs.Cost.{a_type, a_literal, a_null, a_value, a_composite}
use Rattle.writer.specs.Held.{Tables, tables_of, tables_in, key_row, literal_row, null_row, value_row, composite_row, SmallComposite, parts_of_c, all_parts, All, AllKinds, SmallKind, HeldIn, RowsFit, RoomIn, composite_key, kind_code}
use Rattle.writer.specs.Steps.{staged, note_literal, note_null, note_composite, EnteredType, EnteredLiteral, EnteredNull, EnteredComposite, EnteredValue}
use Rattle.writer.proofs.Regions.{left, right, behind, rows_agree, pair_put, triple_put, rows_more, part_right}

map_snoc : {A : Type 0} (f : A → TableRow) (xs : List A) (x : A) → map f xs ++ f x ∷ [] ≡ map f (xs ++ x ∷ [])
map_snoc f [] x = refl
map_snoc f (y ∷ ys) x = ap (λ (l : List TableRow). f y ∷ l) (map_snoc f ys x)

all_snoc : {A : Type 0} (P : A → Type 0) (t : List (A × ℕ)) (k : A) (id : ℕ) → P k → All P t → All P (t ++ (k, id) ∷ [])
all_snoc P [] k id p h = (p, tt)
all_snoc P (x ∷ xs) k id p h = (h.0, all_snoc P xs k id p h.1)

abbrev pub more_types : Used → Used
more_types u = record u { types = u.types + 1 }

abbrev pub more_literals : Used → Used
more_literals u = record u { literals = u.literals + 1 }

abbrev pub more_nulls : Used → Used
more_nulls u = record u { nulls = u.nulls + 1 }

abbrev pub more_values : Used → Used
more_values u = record u { values = u.values + 1 }

abbrev pub more_composites : Used → ℕ → Used
more_composites u n = record u { composites = u.composites + 1; parts = u.parts + n }

-- a table to the left of what is written, and one to the right
pub before : (k : RowKind) (T : List ℕ) (p : ℕ) (ws : List ℕ) (c n : ℕ) → p + length ws ≤ length T → c + row_length k * n ≤ p → table_rows k (splice T p ws) c n ≡ table_rows k T c n
before k T p ws c n l h = rows_agree k T (splice T p ws) c n (left T p ws l c (row_length k * n) h)

after : (k : RowKind) (T : List ℕ) (p : ℕ) (ws : List ℕ) (c n : ℕ) → p + length ws ≤ length T → p + length ws ≤ c → table_rows k (splice T p ws) c n ≡ table_rows k T c n
after k T p ws c n l h = rows_agree k T (splice T p ws) c n (right T p ws l c (row_length k * n) h)

module _ (u : Used) (T : List ℕ) where
  -- ---- types

  types_row : (a id : ℕ) → RowsFit a_type u T → tables_of (more_types u) (splice T (2 * u.types) (a ∷ id ∷ []))
      ≡ record (tables_of u T) { types = (tables_of u T).types ++ table_row a 0 id ∷ [] }
  types_row a id room =
      let p = 2 * u.types in
      let ws = a ∷ id ∷ [] in
      λ i. record {
        types = rows_more pair T 0 u.types p ws (table_row a 0 id) (omega arith) (omega arith) (pair_put T p a id (omega arith)) i;
        literals = after triple T p ws (literals_at u) u.literals (omega arith) (omega arith) i;
        nulls = after pair T p ws (nulls_at u) u.nulls (omega arith) (omega arith) i;
        values = after triple T p ws (values_at u) u.values (omega arith) (omega arith) i;
        composites = after triple T p ws (composites_at u) u.composites (omega arith) (omega arith) i;
        blocked = part_right T p ws (omega arith) (blocked_at u) u.blocked (omega arith) i;
        parts = part_right T p ws (omega arith) (parts_at u) u.parts (omega arith) i;
      }

  -- ---- literals

  literals_row : (a b id : ℕ) → RowsFit a_literal u T → tables_of (more_literals u) (splice T (literals_at u + 3 * u.literals) (a ∷ b ∷ id ∷ []))
      ≡ record (tables_of u T) { literals = (tables_of u T).literals ++ table_row a b id ∷ [] }
  literals_row a b id room =
      let p = literals_at u + 3 * u.literals in
      let ws = a ∷ b ∷ id ∷ [] in
      λ i. record {
        types = before pair T p ws 0 u.types (omega arith) (omega arith) i;
        literals = rows_more triple T (literals_at u) u.literals p ws (table_row a b id) (omega arith) (omega arith) (triple_put T p a b id (omega arith)) i;
        nulls = after pair T p ws (nulls_at u) u.nulls (omega arith) (omega arith) i;
        values = after triple T p ws (values_at u) u.values (omega arith) (omega arith) i;
        composites = after triple T p ws (composites_at u) u.composites (omega arith) (omega arith) i;
        blocked = part_right T p ws (omega arith) (blocked_at u) u.blocked (omega arith) i;
        parts = part_right T p ws (omega arith) (parts_at u) u.parts (omega arith) i;
      }

  -- ---- nulls

  nulls_row : (a id : ℕ) → RowsFit a_null u T → tables_of (more_nulls u) (splice T (nulls_at u + 2 * u.nulls) (a ∷ id ∷ []))
      ≡ record (tables_of u T) { nulls = (tables_of u T).nulls ++ table_row a 0 id ∷ [] }
  nulls_row a id room =
      let p = nulls_at u + 2 * u.nulls in
      let ws = a ∷ id ∷ [] in
      λ i. record {
        types = before pair T p ws 0 u.types (omega arith) (omega arith) i;
        literals = before triple T p ws (literals_at u) u.literals (omega arith) (omega arith) i;
        nulls = rows_more pair T (nulls_at u) u.nulls p ws (table_row a 0 id) (omega arith) (omega arith) (pair_put T p a id (omega arith)) i;
        values = after triple T p ws (values_at u) u.values (omega arith) (omega arith) i;
        composites = after triple T p ws (composites_at u) u.composites (omega arith) (omega arith) i;
        blocked = part_right T p ws (omega arith) (blocked_at u) u.blocked (omega arith) i;
        parts = part_right T p ws (omega arith) (parts_at u) u.parts (omega arith) i;
      }

  -- ---- values

  values_row : (a b id : ℕ) → RowsFit a_value u T → tables_of (more_values u) (splice T (values_at u + 3 * u.values) (a ∷ b ∷ id ∷ []))
      ≡ record (tables_of u T) { values = (tables_of u T).values ++ table_row a b id ∷ [] }
  values_row a b id room =
      let p = values_at u + 3 * u.values in
      let ws = a ∷ b ∷ id ∷ [] in
      λ i. record {
        types = before pair T p ws 0 u.types (omega arith) (omega arith) i;
        literals = before triple T p ws (literals_at u) u.literals (omega arith) (omega arith) i;
        nulls = before pair T p ws (nulls_at u) u.nulls (omega arith) (omega arith) i;
        values = rows_more triple T (values_at u) u.values p ws (table_row a b id) (omega arith) (omega arith) (triple_put T p a b id (omega arith)) i;
        composites = after triple T p ws (composites_at u) u.composites (omega arith) (omega arith) i;
        blocked = part_right T p ws (omega arith) (blocked_at u) u.blocked (omega arith) i;
        parts = part_right T p ws (omega arith) (parts_at u) u.parts (omega arith) i;
      }

-- ---- composites: a row, and the parts behind those in the parts are in use

module _ (u : Used) (T : List ℕ) (key n id : ℕ) (room : RowsFit (a_composite n) u T) where
  composites_row : tables_of (more_composites u n) (splice T (composites_at u + 3 * u.composites) (key ∷ n ∷ id ∷ []))
      ≡ record (tables_of u T) { composites = (tables_of u T).composites ++ table_row key n id ∷ []; parts = (tables_of u T).parts ++ part T (parts_at u + u.parts) n }
  composites_row =
      let p = composites_at u + 3 * u.composites in
      let ws = key ∷ n ∷ id ∷ [] in
      let d : part T (parts_at u) (u.parts + n) ≡ part T (parts_at u) u.parts ++ part T (parts_at u + u.parts) n =
      take-add u.parts n (drop (parts_at u) T) ∙ ap (λ (t : List ℕ). part T (parts_at u) u.parts ++ take n t) (drop-drop u.parts (parts_at u) T) in
      λ i. record {
        types = before pair T p ws 0 u.types (omega arith) (omega arith) i;
        literals = before triple T p ws (literals_at u) u.literals (omega arith) (omega arith) i;
        nulls = before pair T p ws (nulls_at u) u.nulls (omega arith) (omega arith) i;
        values = before triple T p ws (values_at u) u.values (omega arith) (omega arith) i;
        composites = rows_more triple T (composites_at u) u.composites p ws (table_row key n id) (omega arith) (omega arith) (triple_put T p key n id (omega arith)) i;
        blocked = part_right T p ws (omega arith) (blocked_at u) u.blocked (omega arith) i;
        parts = (part_right T p ws (omega arith) (parts_at u) (u.parts + n) (omega arith) ∙ d) i;
      }

parts_snoc : (cs : List (Composite × ℕ)) (c : Composite) (id : ℕ) → all_parts cs ++ parts_of_c c ≡ all_parts (cs ++ (c, id) ∷ [])
unfolding all_parts
parts_snoc [] c id = sym (append-nil (parts_of_c c))
parts_snoc (x ∷ cs) c id = append_assoc (parts_of_c x.0) (all_parts cs) (parts_of_c c) ∙ ap (λ (l : List ℕ). parts_of_c x.0 ++ l) (parts_snoc cs c id)

kinds_snoc : (vs : List Valued) (v : Valued) → SmallKind v.kind → AllKinds vs → AllKinds (vs ++ v ∷ [])
kinds_snoc [] v p h = (p, tt)
kinds_snoc (x ∷ xs) v p h = (h.0, kinds_snoc xs v p h.1)

-- the tables are T, and so much is in use
abbrev pub entered : Writer → Used → List ℕ → Writer
entered w u T = record w { tables = record w.tables { now = T }; used = u }

-- what was held is held with the row, whatever the sections are
module _ (w : Writer) (S : List ℕ) (s : State) (h : HeldIn w.used w.tables.now S s) where
  type_held : (key id : ℕ) → RoomIn a_type w → (k : Key) → Small k → key ≡ packed_key k
      → HeldIn (more_types w.used) (splice w.tables.now (2 * w.used.types) (key ∷ id ∷ [])) S (enter k id s)
  type_held key id room k sm e = record {
    last = h.last;
    tables = types_row w.used w.tables.now key id room
        ∙ ap (λ (t : Tables). record t { types = t.types ++ table_row key 0 id ∷ [] }) h.tables
        ∙ (λ i. record (tables_in s) { types = (ap (λ (n : ℕ). map key_row s.types ++ table_row n 0 id ∷ []) e ∙ map_snoc key_row s.types (k, id)) i });
    small = record { keys = all_snoc Small s.types k id sm h.small.keys; composed = h.small.composed; kinds = h.small.kinds };
    sections = h.sections;
  }

  literal_held : (form bits id : ℕ) → RoomIn a_literal w → (l : Literal) → form ≡ literal_form l → bits ≡ bits_of l
      → HeldIn (more_literals w.used) (splice w.tables.now (literals_at w.used + 3 * w.used.literals) (form ∷ bits ∷ id ∷ [])) S (note_literal l id s)
  literal_held form bits id room l e f = record {
    last = h.last;
    tables = literals_row w.used w.tables.now form bits id room
        ∙ ap (λ (t : Tables). record t { literals = t.literals ++ table_row form bits id ∷ [] }) h.tables
        ∙ (λ i. record (tables_in s) { literals = ((λ j. map literal_row s.constants.literals ++ table_row (e j) (f j) id ∷ []) ∙ map_snoc literal_row s.constants.literals (l, id)) i });
    small = h.small;
    sections = h.sections;
  }

  null_held : (t id : ℕ) → RoomIn a_null w → HeldIn (more_nulls w.used) (splice w.tables.now (nulls_at w.used + 2 * w.used.nulls) (t ∷ id ∷ [])) S (note_null t id s)
  null_held t id room = record {
    last = h.last;
    tables = nulls_row w.used w.tables.now t id room
        ∙ ap (λ (u : Tables). record u { nulls = u.nulls ++ table_row t 0 id ∷ [] }) h.tables
        ∙ (λ i. record (tables_in s) { nulls = map_snoc null_row s.constants.nulls (t, id) i });
    small = h.small;
    sections = h.sections;
  }

  value_held : (id ty kind : ℕ) → RoomIn a_value w → (o : Option Kind) → kind ≡ kind_code o → SmallKind o
      → HeldIn (more_values w.used) (splice w.tables.now (values_at w.used + 3 * w.used.values) (id ∷ ty ∷ kind ∷ [])) S (enter_value (record { id = id; type = ty; kind = o }) s)
  value_held id ty kind room o e sm =
      let v : Valued = record { id = id; type = ty; kind = o } in
      let vs = s.constants.values in
      record {
        last = h.last;
        tables = values_row w.used w.tables.now id ty kind room
            ∙ ap (λ (t : Tables). record t { values = t.values ++ table_row id ty kind ∷ [] }) h.tables
            ∙ (λ i. record (tables_in s) { values = (ap (λ (n : ℕ). map value_row vs ++ table_row id ty n ∷ []) e ∙ map_snoc value_row vs v) i });
        small = record { keys = h.small.keys; composed = h.small.composed; kinds = kinds_snoc vs v sm h.small.kinds };
        sections = h.sections;
      }

  composite_held : (key n id : ℕ) → RoomIn (a_composite n) w → (c : Composite) → SmallComposite c → key ≡ composite_key c → staged n w ≡ parts_of_c c
      → HeldIn (more_composites w.used n) (splice w.tables.now (composites_at w.used + 3 * w.used.composites) (key ∷ n ∷ id ∷ [])) S (note_composite c id s)
  composite_held key n id room c sm e f =
      let cs = s.constants.composites in
      let len : n ≡ length (parts_of_c c) = sym (length-take-le n (drop (parts_at w.used + w.used.parts) w.tables.now) (simp length-drop (omega arith))) ∙ ap length f in
      record {
        last = h.last;
        tables = composites_row w.used w.tables.now key n id room
            ∙ ap (λ (t : Tables). record t { composites = t.composites ++ table_row key n id ∷ []; parts = t.parts ++ staged n w }) h.tables
            ∙ (λ i. record (tables_in s) { composites = ((λ j. map composite_row cs ++ table_row (e j) (len j) id ∷ []) ∙ map_snoc composite_row cs (c, id)) i; parts = (ap (λ (l : List ℕ). all_parts cs ++ l) f ∙ parts_snoc cs c id) i });
        small = record { keys = h.small.keys; composed = all_snoc SmallComposite cs c id sm h.small.composed; kinds = h.small.kinds };
        sections = h.sections;
      }

module _ (w : Writer) where
  pub entered_composite : (key n id : ℕ) → RoomIn (a_composite n) w → (T : List ℕ) → T ≡ splice w.tables.now (composites_at w.used + 3 * w.used.composites) (key ∷ n ∷ id ∷ []) → EnteredComposite key n id w (entered w (more_composites w.used n) T)
  entered_composite key n id room T e = rw e (record {
    grown = omega (arith, splice-length w.tables.now (composites_at w.used + 3 * w.used.composites) (key ∷ n ∷ id ∷ []) (omega arith));
    sections = refl;
    held = λ c sm e f s h. composite_held w w.sections.now s h key n id room c sm e f;
    apart = λ c sm e f S s h. composite_held w S s h key n id room c sm e f;
  })

  pub entered_value : (id ty kind : ℕ) → RoomIn a_value w → (T : List ℕ) → T ≡ splice w.tables.now (values_at w.used + 3 * w.used.values) (id ∷ ty ∷ kind ∷ []) → EnteredValue id ty kind w (entered w (more_values w.used) T)
  entered_value id ty kind room T e = rw e (record {
    grown = omega (arith, splice-length w.tables.now (values_at w.used + 3 * w.used.values) (id ∷ ty ∷ kind ∷ []) (omega arith));
    sections = refl;
    held = λ o e sm s h. value_held w w.sections.now s h id ty kind room o e sm;
    apart = λ o e sm S s h. value_held w S s h id ty kind room o e sm;
  })

  pub entered_type : (key id : ℕ) → RoomIn a_type w → (T : List ℕ) → T ≡ splice w.tables.now (2 * w.used.types) (key ∷ id ∷ []) → EnteredType key id w (entered w (more_types w.used) T)
  entered_type key id room T e = rw e (record {
    grown = omega (arith, splice-length w.tables.now (2 * w.used.types) (key ∷ id ∷ []) (omega arith));
    tail = record { parts = refl; ids = λ j l. behind w.tables.now (2 * w.used.types) (key ∷ id ∷ []) (omega arith) j (omega arith); tables = λ z. absurd (omega (arith, z)) };
    sections = refl;
    held = λ k sm e s h. type_held w w.sections.now s h key id room k sm e;
    apart = λ k sm e S s h. type_held w S s h key id room k sm e;
  })

  pub entered_literal : (form bits id : ℕ) → RoomIn a_literal w → (T : List ℕ) → T ≡ splice w.tables.now (literals_at w.used + 3 * w.used.literals) (form ∷ bits ∷ id ∷ []) → EnteredLiteral form bits id w (entered w (more_literals w.used) T)
  entered_literal form bits id room T e = rw e (record {
    grown = omega (arith, splice-length w.tables.now (literals_at w.used + 3 * w.used.literals) (form ∷ bits ∷ id ∷ []) (omega arith));
    tail = record { parts = refl; ids = λ j l. behind w.tables.now (literals_at w.used + 3 * w.used.literals) (form ∷ bits ∷ id ∷ []) (omega arith) j (omega arith); tables = λ z. absurd (omega (arith, z)) };
    sections = refl;
    held = λ l e f s h. literal_held w w.sections.now s h form bits id room l e f;
    apart = λ l e f S s h. literal_held w S s h form bits id room l e f;
  })

  pub entered_null : (t id : ℕ) → RoomIn a_null w → (T : List ℕ) → T ≡ splice w.tables.now (nulls_at w.used + 2 * w.used.nulls) (t ∷ id ∷ []) → EnteredNull t id w (entered w (more_nulls w.used) T)
  entered_null t id room T e = rw e (record {
    kept = record {
      grown = omega (arith, splice-length w.tables.now (nulls_at w.used + 2 * w.used.nulls) (t ∷ id ∷ []) (omega arith));
      tail = record { parts = refl; ids = λ j l. behind w.tables.now (nulls_at w.used + 2 * w.used.nulls) (t ∷ id ∷ []) (omega arith) j (omega arith); tables = λ z. absurd (omega (arith, z)) };
      held = λ s h. null_held w w.sections.now s h t id room;
    };
    sections = refl;
    apart = λ S s h. null_held w S s h t id room;
  })
