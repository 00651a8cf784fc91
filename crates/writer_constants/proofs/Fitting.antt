-- Test 13 of constants: parts of one type, and parts of a struct's members. Both loops go by what is left: a part that fits leaves the
-- same test of the rest, one that does not decides it.
use Prim.Native.Nat.{ℕ, zero, suc, ◌+◌, ◌*◌, ◌-◌, ◌<◌}
use mathlib.Core.Path.{◌≡◌, refl, sym, ap, ◌∙◌}
use mathlib.Core.Bool.{Bool, true, false, ◌&&◌}
use mathlib.Core.List.{List, [], ◌∷◌}
use native.Mathlib.Omega.{arith}
use lib.Dec.{eqb}
use lib.ListN.{length}
use borrow.Author.Tests.{eq-eqb, ne_eqb}
use Rattle.definition.specs.Choice.{or_else}
use Rattle.definition.specs.Bytes.{u16_at}
use Rattle.definition.specs.Sheet.{Member, u16s_at}
use Rattle.definition.specs.Tests.{member_types}
use Rattle.definition.specs.Shapes.{entry}
use Rattle.definition.specs.State.{State, id_of}
use Rattle.definition.specs.Rules.{value_at}
use Rattle.definition.specs.Unfit.{members, of_type, members_fit}
use Rattle.writer.specs.declared.Writer.{Writer}
use Rattle.writer.specs.declared.WrittenConstant.{WrittenConstant}
use Rattle.writer.specs.Held.{HeldByTables}
use Rattle.writer.specs.Steps.{ValueAt}
use Rattle.writer_constants.specs.Entered.{TypeId}
use Rattle.writer_constants.specs.Fitting.{all_of, TestsEachPart, TestsParts}

-- of whatever state the tables hold, two tests say the same
abbrev pub Alike : Writer → (State → Bool) → (State → Bool) → Type 0
Alike w f g = (s : State) → HeldByTables w s → f s ≡ g s

-- a part whose type was read, and the id that it has to be
module _ {w : Writer} (test next : State → Bool) (want : State → ℕ) {c : ℕ} (left : Alike w test (λ s. eqb (value_at s c).type (want s) && next s))
    {v : WrittenConstant} (read : ValueAt c w v) {id : ℕ} (is : (s : State) → HeldByTables w s → id ≡ want s) where
  passes : v.ty ≡ id → Alike w test next
  passes e s h = left s h ∙ rw (eq-eqb _ _ (sym (read.held s h).type ∙ e ∙ is s h))

  fails : (v.ty ≡ id → ⊥) → Alike w (λ s. false) test
  fails n s h = sym (left s h ∙ rw (ne_eqb _ _ (λ e. n ((read.held s h).type ∙ e ∙ sym (is s h)))))

-- ---- parts of one type

module _ (s : State) (id : ℕ) (b : List ℕ) (p : ℕ) where
  same_turn : (k m : ℕ) → k ≡ suc m → all_of s id (u16s_at b p k) ≡ (eqb (value_at s (u16_at b p)).type id && all_of s id (u16s_at b (p + 2) m))
  unfolding u16s_at
  same_turn k m e = ap (λ (j : ℕ). all_of s id (u16s_at b p j)) e

  pub none_left : (k : ℕ) → k ≡ 0 → all_of s id (u16s_at b p k) ≡ true
  unfolding u16s_at
  none_left k e = ap (λ (j : ℕ). all_of s id (u16s_at b p j)) e

-- of n parts those from the i-th on are left
pub record PartsLeft (w : Writer) (id : ℕ) (b : List ℕ) (n i : ℕ) : Type 0 where
  pub left : Alike w (λ s. all_of s id (u16s_at b 4 n)) (λ s. all_of s id (u16s_at b (4 + 2 * i) (n - i)))

module _ {w : Writer} {id : ℕ} {b : List ℕ} {n i : ℕ} (g : PartsLeft w id b n i) (lt : i < n) where
  abbrev all : State → Bool
  all s = all_of s id (u16s_at b 4 n)

  abbrev rest : State → Bool
  rest s = all_of s id (u16s_at b (4 + 2 * (i + 1)) (n - (i + 1)))

  part_turn : Alike w all (λ s. eqb (value_at s (u16_at b (4 + 2 * i))).type id && rest s)
  part_turn s h =
      let next : 4 + 2 * i + 2 ≡ 4 + 2 * (i + 1) = omega arith in
      g.left s h ∙ same_turn s id b (4 + 2 * i) (n - i) (n - (i + 1)) (omega arith)
      ∙ ap (λ (p : ℕ). eqb (value_at s (u16_at b (4 + 2 * i))).type id && all_of s id (u16s_at b p (n - (i + 1)))) next

  module _ {v : WrittenConstant} (read : ValueAt (u16_at b (4 + 2 * i)) w v) where
    pub same_part : v.ty ≡ id → PartsLeft w id b n (i + 1)
    same_part e = record { left = passes all rest (λ s. id) part_turn read (λ s h. refl) e }

    pub other_part : (v.ty ≡ id → ⊥) → TestsEachPart id (u16s_at b 4 n) w false
    other_part = fails all rest (λ s. id) part_turn read (λ s h. refl)

-- ---- parts of a struct's members

-- there are not as many
pub other_number : (s : State) (b : List ℕ) (ms : List Member) (p n : ℕ) → (n ≡ length ms → ⊥) → members_fit s (member_types ms) (u16s_at b p n) ≡ false
unfolding member_types u16s_at members_fit
other_number s b [] p zero h = absurd (h refl)
other_number s b [] p (suc n) h = refl
other_number s b (m ∷ ms) p zero h = refl
other_number s b (m ∷ ms) p (suc n) h = go (of_type s (entry m.type) (u16_at b p)) (other_number s b ms (p + 2) n (λ e. h (ap suc e)))
  where
    go : (x : Bool) {y : Bool} → y ≡ false → (x && y) ≡ false
    go true e = e
    go false e = refl

-- of all the members, ms are left, the first of which is for part i
pub record Matching (w : Writer) (b : List ℕ) (n : ℕ) (all ms : List Member) (i : ℕ) : Type 0 where
  pub count : i + length ms ≡ n
  pub left : Alike w (λ s. members_fit s (member_types all) (u16s_at b 4 n)) (λ s. members_fit s (member_types ms) (u16s_at b (4 + 2 * i) (length ms)))

pub unmatched : (w : Writer) (b : List ℕ) {n : ℕ} {all : List Member} → n ≡ length all → Matching w b n all all 0
unmatched w b {all = all} e = record { count = omega (arith, e); left = λ s h. ap (λ j. members_fit s (member_types all) (u16s_at b 4 j)) e }

module _ {w : Writer} {b : List ℕ} {n : ℕ} {all rest : List Member} {i : ℕ} (g : Matching w b n all rest i) where
  pub all_matched : rest ≡ [] → TestsParts (members (member_types all)) (u16s_at b 4 n) w true
  unfolding member_types u16s_at members_fit
  all_matched e s h = sym (g.left s h ∙ ap (λ (l : List Member). members_fit s (member_types l) (u16s_at b (4 + 2 * i) (length l))) e)

  module _ {m : Member} {ms : List Member} (e : rest ≡ m ∷ ms) {v : WrittenConstant} (read : ValueAt (u16_at b (4 + 2 * i)) w v) {id : ℕ} (is : TypeId (entry m.type) w id) where
    abbrev test : State → Bool
    test s = members_fit s (member_types all) (u16s_at b 4 n)

    abbrev next : State → Bool
    next s = members_fit s (member_types ms) (u16s_at b (4 + 2 * i + 2) (length ms))

    member_turn : Alike w test (λ s. of_type s (entry m.type) (u16_at b (4 + 2 * i)) && next s)
    unfolding member_types u16s_at members_fit
    member_turn s h = g.left s h ∙ ap (λ (l : List Member). members_fit s (member_types l) (u16s_at b (4 + 2 * i) (length l))) e

    pub matched : v.ty ≡ id → {k : ℕ} → k ≡ i + 1 → Matching w b n all ms k
    matched h {k = k} ek =
        let p : 4 + 2 * i + 2 ≡ 4 + 2 * k = omega arith in
        record {
          count = omega (arith, g.count, ap length e);
          left = λ s y. passes test next (λ s. or_else 0 (id_of s (entry m.type))) member_turn read is h s y
              ∙ ap (λ (q : ℕ). members_fit s (member_types ms) (u16s_at b q (length ms))) p;
        }

    pub other_member : (v.ty ≡ id → ⊥) → TestsParts (members (member_types all)) (u16s_at b 4 n) w false
    other_member = fails test next (λ s. or_else 0 (id_of s (entry m.type))) member_turn read is
