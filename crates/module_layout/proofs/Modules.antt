-- Under `Held` each region has the words of a section of the state, as words of 32 bits. Where the bound is small those are the
-- state's own words (`apart`), so what lies in the regions, one behind the other, is the module (`same_words`). `module_put` follows
-- the calls that write it; then a law for each answer.
use Prim.Native.Nat.{ℕ, ◌+◌, ◌*◌, ◌≤◌, ◌<◌}
use mathlib.Core.Path.{◌≡◌, refl, sym, ap, ◌∙◌}
use mathlib.Core.Bool.{true}
use mathlib.Core.List.{List, [], ◌∷◌, ◌++◌, map, append_assoc, append-nil}
use native.Mathlib.Omega.{arith}
use lib.ListN.{length, take, drop, length-append, length-drop}
use lib.Seq.{length-take-le}
use borrow.Author.Tests.{le-leb, lt-leb, ltb-true}
use Rattle.definition.specs.Choice.{every}
use Rattle.definition.specs.Instructions.{header, all_words, put}
use Rattle.definition.specs.Reader.{is_word}
use Rattle.definition.specs.State.{State, bound_of, capability_instructions, instructions, module_words}
use Rattle.definition.specs.Operations.{bound_most}
use Rattle.definition.proofs.Truth.{both}
use Rattle.spirv.specs.Put.{Put}
use Rattle.spirv.proofs.Puts.{Begun, more, part, back, behind}
use Rattle.spirv.specs.Ids.{low}
use Rattle.writer.specs.Regions.{Section, names, annotations, declarations, section_at, used}
use Rattle.writer.specs.Cost.{no_cost}
use Rattle.writer.specs.Held.{HeldIn, WordsFit}
use Rattle.writer.specs.declared.Used.{Used}
use Rattle.writer.specs.declared.Writer.{Writer}
use Rattle.std.specs.Prelude.{Ok, Err}
use Rattle.refusals.specs.declared.Refusal.TheVariants.{BufferLength}
use Rattle.module_layout.specs.Finished.{Front, module_count, laid_out, module_words_in, Finished}
use Rattle.module_layout.proofs.Capabilities.{all_append, caps-length}

-- ---- words of 32 bits

low_word : (x : ℕ) → is_word x ≡ true → low x ≡ x
low_word x h = let l : x < 4294967296 = ltb-true x 4294967296 h in omega arith

-- the first of two lists of words is itself as words, and the second is of words too
apart : (xs ys : List ℕ) → every is_word (xs ++ ys) ≡ true → (map low xs ≡ xs) × (every is_word ys ≡ true)
apart [] ys h = (refl, h)
apart (x ∷ xs) ys h =
    let b = both (is_word x) (every is_word (xs ++ ys)) h in
    let r = apart xs ys b.1 in
    (rw (low_word x b.0, r.0), r.1)

-- ---- the module's words, section by section

module_is : (s : State) → module_words s
    ≡ header (bound_of s) ++ (all_words (capability_instructions s.capabilities) ++ (all_words s.names ++ (all_words s.annotations ++ all_words s.declarations)))
unfolding module_words instructions
module_is s = simp all_append

pub same_words : (u : Used) (T S : List ℕ) (s : State) → HeldIn u T S s → every is_word (module_words s) ≡ true → module_words_in u S (bound_of s) ≡ module_words s
same_words u T S s h fits =
    let cs = all_words (capability_instructions s.capabilities) in
    let ns = all_words s.names in
    let xs = all_words s.annotations in
    let ds = all_words s.declarations in
    let e1 = apart (header (bound_of s)) (cs ++ (ns ++ (xs ++ ds))) (rw module_is at fits) in
    let e2 = apart cs (ns ++ (xs ++ ds)) e1.1 in
    let e3 = apart ns (xs ++ ds) e2.1 in
    let e4 = apart xs ds e3.1 in
    let e5 = apart ds [] (rw append-nil e4.1) in
    ap (laid_out (bound_of s)) h.sections
    ∙ rw (e3.0, e4.0, e5.0) (ap (λ (l : List ℕ). header (bound_of s) ++ l) (append_assoc (cs ++ ns) xs ds ∙ append_assoc cs ns (xs ++ ds)) ∙ sym (module_is s))

-- ---- how much lies in the regions

module _ (u : Used) (S : List ℕ) (room : WordsFit no_cost u S) where
  pub listed : length (take u.capabilities S) ≡ u.capabilities
  listed = length-take-le u.capabilities S (omega (arith, room.in_list, room.in_capabilities))

  in_region : (b : Section) → used b u ≤ length (drop (section_at b u) S)
  in_region names = simp length-drop (omega (arith, room.in_list, room.in_names))
  in_region annotations = simp length-drop (omega (arith, room.in_list, room.in_annotations))
  in_region declarations = simp length-drop (omega (arith, room.in_list, room.in_declarations))

  taken : (b : Section) → length (take (used b u) (drop (section_at b u) S)) ≡ used b u
  taken b = length-take-le (used b u) (drop (section_at b u) S) (in_region b)

  pub count_is : (bound : ℕ) → length (module_words_in u S bound) ≡ module_count u
  count_is bound = simp (length-append, caps-length, listed, taken names, taken annotations, taken declarations) (omega arith)

-- ---- one section behind the other

pub front_put : (bound : ℕ) (cs out : List ℕ) → 5 + 2 * length cs ≤ length out → (y z : List ℕ) (m k : ℕ) → Put (header bound) out y m
    → Put (all_words (capability_instructions cs)) (part y 5) z k → Front bound cs out (back y 5 z) (5 + 2 * length cs)
front_put bound cs out room y z m k p q = record {
  written = behind (header bound) (all_words (capability_instructions cs)) out y z m 5 k (5 + 2 * length cs) p refl q (omega (arith, caps-length cs)) room;
  next = refl;
}

pub module_put : (u : Used) (S : List ℕ) (bound : ℕ) (out : List ℕ) → WordsFit no_cost u S → module_count u ≤ length out
    → (y z3 z4 z5 : List ℕ) (at m3 m4 m5 : ℕ) → Front bound (take u.capabilities S) out y at
    → Put (take u.names (drop (section_at names u) S)) (part y at) z3 m3
    → Put (take u.annotations (drop (section_at annotations u) S)) (part (back y at z3) (at + u.names)) z4 m4
    → Put (take u.declarations (drop (section_at declarations u) S)) (part (back (back y at z3) (at + u.names) z4) (at + u.names + u.annotations)) z5 m5
    → Put (module_words_in u S bound) out (back (back (back y at z3) (at + u.names) z4) (at + u.names + u.annotations) z5) (at + u.names + u.annotations + u.declarations)
module_put u S bound out room fits y z3 z4 z5 at m3 m4 m5 f q3 q4 q5 =
    let cs = take u.capabilities S in
    let l = listed u S room in
    let b2 : Begun (header bound ++ all_words (capability_instructions cs)) out y at = record { written = f.written; size = simp length-append (omega (arith, f.next, caps-length cs)) } in
    let b3 = more _ _ out y z3 at m3 u.names b2 q3 (sym (taken u S room names)) (omega (arith, f.next)) in
    let b4 = more _ _ out _ z4 (at + u.names) m4 u.annotations b3 q4 (sym (taken u S room annotations)) (omega (arith, f.next)) in
    (more _ _ out _ z5 (at + u.names + u.annotations) m5 u.declarations b4 q5 (sym (taken u S room declarations)) (omega (arith, f.next))).written

-- ---- the answers

module _ (w : Writer) (out : List ℕ) (low : w.used.idgen.last < bound_most) (room : WordsFit no_cost w.used w.sections.now) where
  abbrev u : Used
  u = w.used

  abbrev S : List ℕ
  S = w.sections.now

  -- 16
  pub short : length out < module_count u → Finished w out (Err BufferLength) out
  short h = record {
    says = λ p T held fits.
        let e = same_words u T S p.state held (fits (omega (arith, held.last))) in
        let l : length out < length (module_words p.state) = omega (arith, ap length e, count_is u S room (bound_of p.state)) in
        simp (le-leb (bound_of p.state) bound_most (omega (arith, held.last)), lt-leb (length (module_words p.state)) (length out) l);
    counted = tt;
  }

  pub written : (bound n m : ℕ) (after : List ℕ) → bound ≡ u.idgen.last + 1 → n ≡ module_count u → n ≤ length out → u.bytes ≤ 65536 → Put (module_words_in u S bound) out after m
      → Finished w out (Ok (record { words = n; bound = bound })) after
  written bound n m after eb en h few q = record {
    says = λ p T held fits.
        let eq : bound ≡ bound_of p.state = omega (arith, held.last) in
        let e : module_words_in u S bound ≡ module_words p.state = rw eq (same_words u T S p.state held (fits (omega (arith, held.last)))) in
        let l : length (module_words p.state) ≡ n = omega (arith, ap length e, count_is u S room bound) in
        let f : after ≡ put (module_words p.state) out = q.words ∙ ap (λ (ws : List ℕ). put ws out) e in
        simp (le-leb (bound_of p.state) bound_most (omega (arith, held.last)), le-leb (length (module_words p.state)) (length out) (omega arith)) cc;
    counted = omega (arith, few, room.in_capabilities, room.in_names, room.in_annotations, room.in_declarations);
  }
