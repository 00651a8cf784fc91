-- The definition decides the types in their order, each given the flags of those before it. Here one type by itself: it is
-- zeroable as its fields say, where a part counts if it stands before it and is zeroable.
use Prim.Native.Nat.{ℕ, zero, suc, ◌+◌, ◌<◌}
use mathlib.Core.Path.{◌≡◌, refl, ap, sym, ◌∙◌, fun_ext}
use mathlib.Core.Bool.{Bool, false, ◌&&◌}
use mathlib.Core.List.{List, [], ◌∷◌, ◌++◌}
use native.Mathlib.Omega.{arith}
use native.Mathlib.Nat.{not-suc-le-zero}
use native.Mathlib.Decide.{dec_lt}
use borrow.Author.Tests.{lt-ltb, le-ltb}
use lib.Dec.{ltb}
use lib.ListN.{length, get_or, length-append, get_or-append, get_or-eq_default}
use lib.Seq.{get_or-append_seam}
use Rattle.definition.specs.Sheet.{TypeEntry}
use Rattle.definition.specs.Zeroable.{zeroable_over, zeroables, zeroable}
use Rattle.records.specs.declared.Earlier.{Earlier}
use Rattle.records.specs.Places.{type_from, types_in}
use Rattle.records.proofs.Entries.{count, placed}
use Rattle.zeroable.specs.Memo.{part_zeroable}

-- the flags that are there stay
stay : (ts : List TypeEntry) (done : List Bool) (j : ℕ) → j < length done → get_or (zeroables done ts) j false ≡ get_or done j false
unfolding zeroables
stay [] done j h = refl
stay (t ∷ ts) done j h =
    let x : Bool = zeroable_over (λ (k : ℕ). get_or done k false) t.inner in
    stay ts (done ++ x ∷ []) j (simp length-append (omega arith)) ∙ get_or-append done (x ∷ []) false j h

-- a flag is guarded by its index: what is not below i is not there yet
guard_at : (done all : List Bool) (i j : ℕ) → length done ≡ i → (j < i → get_or all j false ≡ get_or done j false) → Dec (j < i)
    → get_or done j false ≡ (ltb j i && get_or all j false)
guard_at done all i j e h (yes l) = rw (lt-ltb j i l) (sym (h l))
guard_at done all i j e h (no l) = rw (le-ltb j i (omega arith)) (get_or-eq_default done false (omega arith))

-- the flag of the type that stands k places behind those that are done
flag : (ts : List TypeEntry) (done : List Bool) (k i : ℕ) (d : TypeEntry) → k < length ts → i ≡ length done + k
    → get_or (zeroables done ts) i false ≡ zeroable_over (λ j. ltb j i && get_or (zeroables done ts) j false) (get_or ts k d).inner
unfolding zeroables
flag [] done k i d h e = absurd (not-suc-le-zero h)
flag (t ∷ ts) done zero i d h e =
    let x : Bool = zeroable_over (λ (j : ℕ). get_or done j false) t.inner in
    let all = zeroables (done ++ x ∷ []) ts in
    let longer : length (done ++ x ∷ []) ≡ length done + 1 = simp length-append in
    let kept : (j : ℕ) → j < i → get_or all j false ≡ get_or done j false =
    λ j l. stay ts (done ++ x ∷ []) j (omega arith) ∙ get_or-append done (x ∷ []) false j (omega arith) in
    let at_i : i ≡ length done = omega arith in
    stay ts (done ++ x ∷ []) i (omega arith) ∙ rw at_i (get_or-append_seam done x [] false)
    ∙ ap (λ (part : ℕ → Bool). zeroable_over part t.inner) (fun_ext (λ j. guard_at done all i j (sym at_i) (kept j) (dec_lt j i)))
flag (t ∷ ts) done (suc k) i d h e = flag ts (done ++ _ ∷ []) k i d (omega arith) (simp length-append (omega arith))

-- ---- types that come later change nothing

-- the flags of the first types, then those of the others
split : (ts us : List TypeEntry) (done : List Bool) → zeroables done (ts ++ us) ≡ zeroables (zeroables done ts) us
unfolding zeroables
split [] us done = refl
split (t ∷ ts) us done = split ts us _

flags : (ts : List TypeEntry) (done : List Bool) → length (zeroables done ts) ≡ length done + length ts
unfolding zeroables
flags [] done = omega arith
flags (t ∷ ts) done = flags ts _ ∙ simp length-append (omega arith)

pub before : (ts us : List TypeEntry) (k : ℕ) → k < length ts → zeroable (ts ++ us) k ≡ zeroable ts k
unfolding zeroable
before ts us k lt = ap (λ (l : List Bool). get_or l k false) (split ts us []) ∙ stay us (zeroables [] ts) k (omega (arith, flags ts []))

-- ---- a type among those at the places

module _ (e : Earlier) (i : ℕ) (lt : i < length e.places.now) where
  abbrev ts : List TypeEntry
  ts = types_in e

  pub one : zeroable ts i ≡ zeroable_over (part_zeroable ts i) (type_from e.sheet.now (get_or e.places.now i 0)).inner
  unfolding zeroable
  one =
      flag ts [] i i (type_from e.sheet.now 0) (rw (count e) lt) (omega arith)
      ∙ ap (λ (t : TypeEntry). zeroable_over (part_zeroable ts i) t.inner) (placed e i lt (type_from e.sheet.now 0))
