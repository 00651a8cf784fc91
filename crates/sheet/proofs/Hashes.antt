-- Equal records have one hash, so records with different hashes differ. A type that is noted has its hash behind the places, and the
-- types before it keep theirs: places and hashes lie apart. The slice of the hashes then has each type's, in the types' order.
use Prim.Native.Nat.{ℕ, ◌+◌, ◌/◌, ◌≤◌, ◌<◌}
use mathlib.Core.Path.{◌≡◌, refl, sym, ap, ◌∙◌, subst}
use mathlib.Core.Bool.{Bool, true, false, ◌&&◌}
use mathlib.Core.List.{List}
use native.Mathlib.Decide.{ℕ_discrete}
use native.Mathlib.Omega.{arith}
use borrow.Author.Tests.{eqb-true}
use lib.Dec.{T, eqb}
use Rattle.std.proofs.Common.{get_or-drop}
use lib.ListN.{length, get_or, set, take, drop, length-set, length-drop}
use lib.Seq.{get_or-set_same, get_or-set_other, get_or-take, length-take-le}
use Rattle.definition.specs.Sheet.{Record}
use Rattle.definition.specs.Tests.{same_bytes, same_record}
use Rattle.definition.proofs.Truth.{both}
use Rattle.definition.proofs.Same.{same_bytes_lem}
use Rattle.records.specs.Places.{record_from}
use Rattle.records.specs.declared.Earlier.{Earlier}
use Rattle.sheet.specs.Hash.{hash_words, hash_of, Hashed, HashesOf}
use Rattle.sheet.specs.Holding.{type_noted}

pub other_hash : (x r : Record) → (hash_of x ≡ hash_of r → ⊥) → same_record x r ≡ false
unfolding same_record
other_hash x r h = go (eqb x.tag r.tag && same_bytes x.body r.body) refl
  where
    go : (c : Bool) → (eqb x.tag r.tag && same_bytes x.body r.body) ≡ c → c ≡ false
    go false e = refl
    go true e =
        let d = both (eqb x.tag r.tag) (same_bytes x.body r.body) e in
        let t : x.tag ≡ r.tag = eqb-true x.tag r.tag d.0 in
        let b : x.body ≡ r.body = same_bytes_lem x.body r.body (subst T (sym d.1) tt) in
        absurd (h (ap (λ (n : ℕ). hash_words x.body n (length x.body / 4 + 1)) t ∙ ap (λ (l : List ℕ). hash_words l r.tag (length l / 4 + 1)) b))

pub hashed_more : (s ts : List ℕ) (n at h : ℕ) → n < 256 → 512 ≤ length ts → h ≡ hash_of (record_from s at) → Hashed s ts n → Hashed s (type_noted ts n at h) (n + 1)
hashed_more s ts n at h few long e hs i l = go (ℕ_discrete i n)
  where
    go : Dec (i ≡ n) → get_or (type_noted ts n at h) (256 + i) 0 ≡ hash_of (record_from s (get_or (type_noted ts n at h) i 0))
    go (yes q) = subst (λ (j : ℕ). get_or (type_noted ts n at h) (256 + j) 0 ≡ hash_of (record_from s (get_or (type_noted ts n at h) j 0))) (sym q)
        (get_or-set_same (set ts n at) (256 + n) h 0 (rw (length-set ts n at) (omega arith))
        ∙ e
        ∙ ap (λ (o : ℕ). hash_of (record_from s o)) (sym (get_or-set_other (set ts n at) (256 + n) n h 0 (λ z. omega arith) ∙ get_or-set_same ts n at 0 (omega arith))))
    go (no q) =
        get_or-set_other (set ts n at) (256 + n) (256 + i) h 0 (λ z. q (omega arith))
        ∙ get_or-set_other ts n (256 + i) at 0 (λ z. omega arith)
        ∙ hs i (omega arith)
        ∙ ap (λ (o : ℕ). hash_of (record_from s o)) (sym (get_or-set_other (set ts n at) (256 + n) i h 0 (λ z. omega arith) ∙ get_or-set_other ts n i at 0 q))

pub hashes_of : (e : Earlier) (s ts hs : List ℕ) (n : ℕ) → 256 + n ≤ length ts → Hashed s ts n → e.sheet.now ≡ s → e.places.now ≡ take n ts → hs ≡ take n (drop 256 ts) → HashesOf e hs
hashes_of e s ts hs n long h es ep eh =
    let l : length (take n (drop 256 ts)) ≡ n = length-take-le n (drop 256 ts) (simp length-drop (omega arith)) in
    record {
      long = ap length eh ∙ l ∙ sym (ap length ep ∙ length-take-le n ts (omega arith));
      each = λ i lt.
          let k : i < n = omega (arith, ap length eh, l) in
          ap (λ (x : List ℕ). get_or x i 0) eh ∙ get_or-take n (drop 256 ts) i 0 k ∙ get_or-drop 256 ts i 0
          ∙ h i k
          ∙ rw (es, ep, get_or-take n ts i 0 k);
    }
