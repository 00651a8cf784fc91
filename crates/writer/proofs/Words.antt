-- Words put behind those of a section, and capabilities listed. One law for every section: the state's words are those it had and
-- the instruction's behind them, and tables and other sections stay; each kind of instruction is then an instance.
use Prim.Native.Nat.{ℕ, zero, suc, ◌+◌, ◌≤◌, ◌<◌}
use mathlib.Core.Path.{◌≡◌, refl, sym, ap, ◌∙◌, subst}
use mathlib.Core.Bool.{Bool, true, false, ◌||◌}
use mathlib.Core.List.{List, [], ◌∷◌, ◌++◌, append_assoc, append-nil, map}
use native.Mathlib.Omega.{arith}
use lib.Dec.{eqb}
use lib.ListN.{length, take, drop, set, length-set}
use lib.Seq.{take-add, drop-drop, sets-eq}
use borrow.Author.Tests.{eq-eqb, ne_eqb, eqb-true}
use Rattle.std.specs.List.{list_any}
use Rattle.definition.specs.Choice.{pick}
use Rattle.definition.specs.Instructions.{Instruction, words, all_words}
use Rattle.definition.specs.State.{State, occurrences, same, list_one, listed, annotate, declare_alone}
use Rattle.definition.specs.Rules.{blocked_by, blocked}
use Rattle.spirv.specs.Put.{Put}
use Rattle.spirv.specs.Sections.{splice}
use Rattle.spirv.proofs.Puts as Puts
use Rattle.spirv.proofs.Splices.{splice-length}
use Rattle.spirv.specs.Ids.{low}
use Rattle.writer.specs.declared.Used.{Used}
use Rattle.writer.specs.declared.Writer.{Writer}
use Rattle.writer.specs.Rows.{part, is_listed}
use Rattle.writer.specs.Regions.{section_at, Section, names, annotations, declarations, used, more, add_to}
use Rattle.writer.specs.Cost.{declaring, listing_cost, section_words}
use Rattle.writer.specs.Held.{Sections, tables_in, sections_of, sections_in, words_of, HeldIn, Held, WordsFit, RoomFor, SameLent}
use Rattle.writer.specs.Steps.{Kept, Spelt, Alone, Spells, Puts as PutsOne, listing, Listed, Pending, Committed}
use Rattle.writer.proofs.Regions.{part_left, part_right, part_more}

map-append : (xs ys : List ℕ) → map low (xs ++ ys) ≡ map low xs ++ map low ys
map-append [] ys = refl
map-append (x ∷ xs) ys = ap (λ (l : List ℕ). low x ∷ l) (map-append xs ys)

all_snoc : (is : List Instruction) (i : Instruction) → all_words is ++ words i ≡ all_words (is ++ i ∷ [])
unfolding all_words
all_snoc [] i = sym (append-nil (words i))
all_snoc (j ∷ is) i = append_assoc (words j) (all_words is) (words i) ∙ ap (λ (l : List ℕ). words j ++ l) (all_snoc is i)

-- one instruction more
pub words_snoc : (is : List Instruction) (i : Instruction) → words_of is ++ map low (words i) ≡ words_of (is ++ i ∷ [])
words_snoc is i = sym (map-append (all_words is) (words i)) ∙ ap (map low) (all_snoc is i)

-- .. and the ids that carry Block with it
pub blocked_snoc : (is : List Instruction) (i : Instruction) → blocked is ++ blocked_by i ≡ blocked (is ++ i ∷ [])
unfolding blocked
blocked_snoc [] i = sym (append-nil (blocked_by i))
blocked_snoc (j ∷ is) i = append_assoc (blocked_by j) (blocked is) (blocked_by i) ∙ ap (λ (l : List ℕ). blocked_by j ++ l) (blocked_snoc is i)

blocked_alone : (is : List Instruction) (i : Instruction) → blocked_by i ≡ [] → blocked is ≡ blocked (is ++ i ∷ [])
blocked_alone is i e = sym (append-nil (blocked is)) ∙ ap (λ (l : List ℕ). blocked is ++ l) (sym e) ∙ blocked_snoc is i

-- ---- an instruction goes behind those in its section

-- words behind those of a section
abbrev pub append : Section → List ℕ → Sections → Sections
append names ws t = record t { names = t.names ++ ws }
append annotations ws t = record t { annotations = t.annotations ++ ws }
append declarations ws t = record t { declarations = t.declarations ++ ws }

-- what the words of one more instruction make of a state's sections
pub append_in : (b : Section) (i : Instruction) (ws : List ℕ) → Spelt i ws → (s : State) → append b ws (sections_in s) ≡ sections_in (add_to b i s)
unfolding listed
append_in names i ws e s = λ j. record (sections_in s) { names = (ap (λ (l : List ℕ). words_of s.names ++ l) (sym e) ∙ words_snoc s.names i) j }
append_in annotations i ws e s = λ j. record (sections_in s) { annotations = (ap (λ (l : List ℕ). words_of s.annotations ++ l) (sym e) ∙ words_snoc s.annotations i) j }
append_in declarations i ws e s = λ j. record (sections_in s) { declarations = (ap (λ (l : List ℕ). words_of s.declarations ++ l) (sym e) ∙ words_snoc s.declarations i) j }

-- an instruction in one section: the tables stay
added : (b : Section) (m : ℕ) (u : Used) (T S S' ws : List ℕ) (i : Instruction) → sections_of (more b u m) S' ≡ append b ws (sections_of u S)
    → Spelt i ws → Alone b i → (s : State) → HeldIn u T S s → HeldIn (more b u m) T S' (add_to b i s)
unfolding listed
added names m u T S S' ws i f e a s h = record { last = h.last; tables = h.tables; small = h.small; sections = f ∙ ap (append names ws) h.sections ∙ append_in names i ws e s }
added annotations m u T S S' ws i f e a s h =
    let t : tables_in s ≡ tables_in (annotate i s) = λ j. record (tables_in s) { blocked = blocked_alone s.annotations i a j } in
    record { last = h.last; tables = h.tables ∙ t; small = h.small; sections = f ∙ ap (append annotations ws) h.sections ∙ append_in annotations i ws e s }
added declarations m u T S S' ws i f e a s h = record { last = h.last; tables = h.tables; small = h.small; sections = f ∙ ap (append declarations ws) h.sections ∙ append_in declarations i ws e s }

-- where the words in use end
abbrev pub end_of : Section → Used → ℕ
end_of b u = section_at b u + used b u

module _ (u : Used) (S ws : List ℕ) (n : ℕ) (few : length ws ≤ n) where
  in_list : (b : Section) → WordsFit (section_words b n) u S → end_of b u + length ws ≤ length S
  in_list names room = omega arith
  in_list annotations room = omega arith
  in_list declarations room = omega arith

  appended : (b : Section) → WordsFit (section_words b n) u S → sections_of (more b u (length ws)) (splice S (end_of b u) ws) ≡ append b ws (sections_of u S)
  appended names room = λ i. record {
    capabilities = part_left S (end_of names u) ws (in_list names room) 0 u.capabilities (omega arith) i;
    names = part_more S (section_at names u) u.names (end_of names u) ws refl (in_list names room) i;
    annotations = part_right S (end_of names u) ws (in_list names room) (section_at annotations u) u.annotations (omega arith) i;
    declarations = part_right S (end_of names u) ws (in_list names room) (section_at declarations u) u.declarations (omega arith) i;
  }
  appended annotations room = λ i. record {
    capabilities = part_left S (end_of annotations u) ws (in_list annotations room) 0 u.capabilities (omega arith) i;
    names = part_left S (end_of annotations u) ws (in_list annotations room) (section_at names u) u.names (omega arith) i;
    annotations = part_more S (section_at annotations u) u.annotations (end_of annotations u) ws refl (in_list annotations room) i;
    declarations = part_right S (end_of annotations u) ws (in_list annotations room) (section_at declarations u) u.declarations (omega arith) i;
  }
  appended declarations room = λ i. record {
    capabilities = part_left S (end_of declarations u) ws (in_list declarations room) 0 u.capabilities (omega arith) i;
    names = part_left S (end_of declarations u) ws (in_list declarations room) (section_at names u) u.names (omega arith) i;
    annotations = part_left S (end_of declarations u) ws (in_list declarations room) (section_at annotations u) u.annotations (omega arith) i;
    declarations = part_more S (section_at declarations u) u.declarations (end_of declarations u) ws refl (in_list declarations room) i;
  }

  -- what a writer put into the part that it was lent
  module _ (b : Section) (z : List ℕ) (m : ℕ) (room : WordsFit (section_words b n) u S) (put : Put ws (Puts.part S (end_of b u)) z m) where
    lent : Puts.back S (end_of b u) z ≡ splice S (end_of b u) ws
    lent = Puts.lent S (end_of b u) ws z m put (in_list b room)

    pub adds_count : m ≡ length ws
    adds_count = Puts.lent_count S (end_of b u) ws z m put (in_list b room)

    pub put_long : length (Puts.back S (end_of b u) z) ≡ length S
    put_long = ap length lent ∙ splice-length S (end_of b u) ws (in_list b room)

    pub put_appended : sections_of (more b u m) (Puts.back S (end_of b u) z) ≡ append b ws (sections_of u S)
    put_appended = (λ j. sections_of (more b u (adds_count j)) (lent j)) ∙ appended b room

-- the writer, where m words more are in use in a section, and the sections are these
abbrev with_words : Section → ℕ → List ℕ → Writer → Writer
with_words b m S w = record w { used = more b w.used m; sections = record w.sections { now = S } }

kept_by : (b : Section) (n m : ℕ) (S : List ℕ) (w : Writer) (f : State → State) → m ≤ n → length S ≡ length w.sections.now
    → ((s : State) → Held w s → Held (with_words b m S w) (f s)) → Kept (section_words b n) f w (with_words b m S w)
kept_by names n m S w f few long h = record { grown = omega arith; tail = record { parts = refl; ids = λ j l. refl; tables = λ z. refl }; held = h }
kept_by annotations n m S w f few long h = record { grown = omega arith; tail = record { parts = refl; ids = λ j l. refl; tables = λ z. refl }; held = h }
kept_by declarations n m S w f few long h = record { grown = omega arith; tail = record { parts = refl; ids = λ j l. refl; tables = λ z. refl }; held = h }

-- an instruction's words, put into the part that was lent
module _ (b : Section) {n : ℕ} {i : Instruction} {ws : List ℕ} (k : Spells n i ws) (w : Writer) {z : List ℕ} {m : ℕ} (room : RoomFor (section_words b n) w)
    (put : Put ws (Puts.part w.sections.now (end_of b w.used)) z m) where
  pub put_few : m ≤ n
  put_few = omega (arith, k.few, adds_count w.used w.sections.now ws n k.few b z m room put)

  pub put_one : Alone b i → PutsOne b n i w (with_words b m (Puts.back w.sections.now (end_of b w.used) z) w)
  put_one a =
      let u = w.used in
      let S = w.sections.now in
      let back = Puts.back S (end_of b u) z in
      let apart : (T : List ℕ) (s : State) → HeldIn u T S s → HeldIn (more b u m) T back (add_to b i s) = λ T. added b m u T S back ws i (put_appended u S ws n k.few b z m room put) k.spelt a in
      record { kept = kept_by b n m back w (add_to b i) put_few (put_long u S ws n k.few b z m room put) (apart w.tables.now); apart = apart }

-- ---- capabilities

-- the search
pub is_any : (c : ℕ) (xs : List ℕ) → is_listed c xs ≡ list_any (λ x. eqb x c) xs
unfolding is_listed
is_any c [] = refl
is_any c (x ∷ xs) = go (eqb c x) refl (is_any c xs)
  where
    go : (t : Bool) → eqb c x ≡ t → is_listed c xs ≡ list_any (λ y. eqb y c) xs → pick (eqb c x) true (is_listed c xs) ≡ (eqb x c || list_any (λ y. eqb y c) xs)
    go true e r = rw (e, eq-eqb x c (sym (eqb-true c x e)))
    go false e r = rw (e, ne_eqb x c (λ q. no (sym e ∙ eq-eqb c x (sym q)))) r
      where
        no : false ≡ true → ⊥
        no z = cc

-- what the definition makes of its answer
old : (c : ℕ) (xs : List ℕ) → is_listed c xs ≡ true → list_one (occurrences c xs) c xs ≡ xs
unfolding is_listed occurrences
old c xs e = go (occurrences c xs) (count xs e)
  where
    count : (ys : List ℕ) → is_listed c ys ≡ true → 0 < occurrences c ys
    count [] e = let z : ◌≡◌ {A = ℕ} 0 1 = cc in omega arith
    count (y ∷ ys) e = by (eqb c y) refl (count ys)
      where
        by : (b : Bool) → eqb c y ≡ b → (is_listed c ys ≡ true → 0 < occurrences c ys) → 0 < same c y + occurrences c ys
        by true p f = rw p (omega arith)
        by false p f = rw p (omega (arith, f (rw (← e) (rw p))))

    go : (n : ℕ) → 0 < n → list_one n c xs ≡ xs
    go zero h = absurd (omega arith)
    go (suc n) h = refl

new : (c : ℕ) (xs : List ℕ) → is_listed c xs ≡ false → list_one (occurrences c xs) c xs ≡ xs ++ c ∷ []
unfolding is_listed occurrences
new c xs e = ap (λ (n : ℕ). list_one n c xs) (count xs e)
  where
    count : (ys : List ℕ) → is_listed c ys ≡ false → occurrences c ys ≡ 0
    count [] e = refl
    count (y ∷ ys) e = by (eqb c y) refl (count ys)
      where
        by : (b : Bool) → eqb c y ≡ b → (is_listed c ys ≡ false → occurrences c ys ≡ 0) → same c y + occurrences c ys ≡ 0
        by true p f = let z : is_listed c (y ∷ ys) ≡ true = rw p in let q : ◌≡◌ {A = ℕ} 0 1 = cc in absurd (omega arith)
        by false p f = rw p (omega (arith, f (rw (← e) (rw p))))

-- nothing to list
pub same_lent : (w : Writer) → SameLent w w
same_lent w = record { tables = refl; sections = refl; tables_long = refl; sections_long = refl }

-- the numbers in use, written with a count of capabilities that is theirs
counted : (u : Used) {n : ℕ} → u.capabilities ≡ n → {T S : List ℕ} {s : State} → HeldIn u T S s → HeldIn (record u { capabilities = n }) T S s
counted u q {T = T} {S = S} {s = s} h = subst (λ (m : ℕ). HeldIn (record u { capabilities = m }) T S s) q h

pub lists_none : (w : Writer) → Listed [] w w
unfolding listed
lists_none w = record {
  few = omega arith;
  used = refl;
  lent = same_lent w;
  tables = refl;
  kept = λ room. record { grown = omega arith; tail = record { parts = refl; ids = λ j l. refl; tables = λ z. refl }; held = λ s h. h };
  apart = λ u q room T s h. counted u q h;
}

module _ (S : List ℕ) (c : ℕ) where
  -- what the definition makes of the state's capabilities
  lists : (b : Bool) (u : Used) → is_listed c (part S 0 u.capabilities) ≡ b → {T : List ℕ} (s : State) → HeldIn u T S s → is_listed c s.capabilities ≡ b
  lists b u e s h = sym (ap (λ (t : Sections). is_listed c t.capabilities) h.sections) ∙ e

  old_held : (u : Used) → is_listed c (part S 0 u.capabilities) ≡ true → (T : List ℕ) (s : State) → HeldIn u T S s → HeldIn u T S (listing (c ∷ []) s)
  unfolding listed
  old_held u e T s h =
      let q : s.capabilities ≡ list_one (occurrences c s.capabilities) c s.capabilities = sym (old c s.capabilities (lists true u e s h)) in
      record {
        last = h.last;
        tables = h.tables;
        small = h.small;
        sections = h.sections ∙ (λ i. record (sections_in s) { capabilities = q i });
      }

  new_held : (u : Used) → is_listed c (part S 0 u.capabilities) ≡ false → WordsFit (listing_cost 1) u S → (T : List ℕ) (s : State) → HeldIn u T S s
      → HeldIn (record u { capabilities = u.capabilities + 1 }) T (set S u.capabilities c) (listing (c ∷ []) s)
  unfolding listed
  new_held u e room T s h =
      let p = u.capabilities in
      let ws = c ∷ [] in
      let inside : p + 1 ≤ length S = omega arith in
      let put : set S p c ≡ splice S p ws = sets-eq ws S p inside in
      let f : sections_of (record u { capabilities = p + 1 }) (splice S p ws) ≡ record (sections_of u S) { capabilities = (sections_of u S).capabilities ++ ws } = λ i. record {
        capabilities = part_more S 0 p p ws (omega arith) inside i;
        names = part_right S p ws inside (section_at names u) u.names (omega arith) i;
        annotations = part_right S p ws inside (section_at annotations u) u.annotations (omega arith) i;
        declarations = part_right S p ws inside (section_at declarations u) u.declarations (omega arith) i;
      } in
      let q : s.capabilities ++ ws ≡ list_one (occurrences c s.capabilities) c s.capabilities = sym (new c s.capabilities (lists false u e s h)) in
      record {
        last = h.last;
        tables = h.tables;
        small = h.small;
        sections = ap (sections_of (record u { capabilities = p + 1 })) put ∙ f
            ∙ ap (λ (t : Sections). record t { capabilities = t.capabilities ++ ws }) h.sections
            ∙ (λ i. record (sections_in s) { capabilities = q i });
      }

module _ (w : Writer) (c : ℕ) where
  -- numbers in use with as many capabilities as the writer's
  abbrev alike : Used → Used
  alike u = record u { capabilities = w.used.capabilities }

  pub lists_old : is_listed c (part w.sections.now 0 w.used.capabilities) ≡ true → Listed (c ∷ []) w w
  lists_old e = record {
    few = omega arith;
    used = refl;
    lent = same_lent w;
    tables = refl;
    kept = λ room. record { grown = omega arith; tail = record { parts = refl; ids = λ j l. refl; tables = λ z. refl }; held = old_held w.sections.now c w.used e w.tables.now };
    apart = λ u q room T s h. old_held w.sections.now c (alike u) e T s (counted u q h);
  }

  pub lists_new : is_listed c (part w.sections.now 0 w.used.capabilities) ≡ false
      → Listed (c ∷ []) w (record w { used = record w.used { capabilities = w.used.capabilities + 1 }; sections = record w.sections { now = set w.sections.now w.used.capabilities c } })
  lists_new e = record {
    few = omega arith;
    used = refl;
    lent = record { tables = refl; sections = refl; tables_long = refl; sections_long = length-set w.sections.now w.used.capabilities c };
    tables = refl;
    kept = λ room. record {
      grown = omega (arith, length-set {A = ℕ});
      tail = record { parts = refl; ids = λ j l. refl; tables = λ z. refl };
      held = new_held w.sections.now c w.used e room w.tables.now;
    };
    apart = λ u q room T s h. new_held w.sections.now c (alike u) e (omega (arith, q, room)) T s (counted u q h);
  }

-- ---- an instruction word by word

pub pending : (w : Writer) (k : ℕ) (ws S : List ℕ) (p : ℕ) → p ≡ end_of declarations w.used + k → S ≡ splice w.sections.now p ws → RoomFor (declaring (k + length ws)) w
    → Pending k ws w (record w { sections = record w.sections { now = S } })
pending w k ws S p at e room =
    let u = w.used in
    let R = w.sections.now in
    let q : sections_of u (splice R p ws) ≡ sections_of u R = λ i. record {
      capabilities = part_left R p ws (omega arith) 0 u.capabilities (omega arith) i;
      names = part_left R p ws (omega arith) (section_at names u) u.names (omega arith) i;
      annotations = part_left R p ws (omega arith) (section_at annotations u) u.annotations (omega arith) i;
      declarations = part_left R p ws (omega arith) (section_at declarations u) u.declarations (omega arith) i;
    } in
    let apart : (T : List ℕ) (s : State) → HeldIn u T R s → HeldIn u T (splice R p ws) s = λ T s h. record { last = h.last; tables = h.tables; small = h.small; sections = q ∙ h.sections } in
    rw e (record {
      lent = omega (arith, splice-length R p ws (omega arith));
      used = refl;
      tables = refl;
      still = apart w.tables.now;
      apart = apart;
      more = part_more R (end_of declarations u) k p ws at (omega arith);
    })

pub committed : (w : Writer) (n : ℕ) → Committed n w (record w { used = more declarations w.used n })
unfolding listed
committed w n =
    let u = w.used in
    let apart : (T S : List ℕ) (s : State) (i : Instruction) → Spelt i (part S (end_of declarations u) n) → HeldIn u T S s → HeldIn (more declarations u n) T S (declare_alone i s) = λ T S s i e h.
    let f = sym e in
    let d : part S (section_at declarations u) (u.declarations + n) ≡ part S (section_at declarations u) u.declarations ++ part S (end_of declarations u) n =
    take-add u.declarations n (drop (section_at declarations u) S) ∙ ap (λ (l : List ℕ). part S (section_at declarations u) u.declarations ++ take n l) (drop-drop u.declarations (section_at declarations u) S) in
    record {
      last = h.last;
      tables = h.tables;
      small = h.small;
      sections = (λ j. record (sections_of u S) { declarations = d j })
          ∙ (λ j. record (h.sections j) { declarations = (h.sections j).declarations ++ f j })
          ∙ (λ j. record (sections_in s) { declarations = words_snoc s.declarations i j });
    } in
    record {
      grown = omega arith;
      tail = record { parts = refl; ids = λ j l. refl; tables = λ z. refl };
      sections = refl;
      held = apart w.tables.now w.sections.now;
      apart = apart;
    }
