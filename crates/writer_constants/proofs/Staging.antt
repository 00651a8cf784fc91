-- A constant's parts, put where they wait one by one: a Splat's repeat one id, a Compose's are the ids that the state has.
use Prim.Native.Nat.{ℕ, ◌+◌, ◌*◌}
use mathlib.Core.Path.{◌≡◌, refl, sym, ap, ◌∙◌, subst}
use mathlib.Core.List.{List, [], ◌∷◌, ◌++◌}
use native.Mathlib.Numerals.{add-one}
use lib.ListN.{replicate}
use Rattle.std.proofs.lemmas.List.{replicate-append-replicate}
use Rattle.definition.specs.Bytes.{u16_at}
use Rattle.definition.specs.Sheet.{u16s_at}
use Rattle.definition.specs.State.{State}
use Rattle.definition.specs.Rules.{ids_of, value_at}
use Rattle.fields.proofs.Numbers.{u16s_snoc}
use Rattle.writer.specs.declared.Writer.{Writer}
use Rattle.writer.specs.declared.WrittenConstant.{WrittenConstant}
use Rattle.writer.specs.Cost.{staging}
use Rattle.writer.specs.Held.{RoomIn}
use Rattle.writer.specs.Staged.{Staged}
use Rattle.writer.specs.Steps.{ValueAt, with_part}
use Rattle.writer.proofs.Staged.{staged_none, staged_more}

-- ---- a Splat's first i parts

abbrev pub repeated : ℕ → ℕ → State → List ℕ
repeated id i s = replicate i id

pub splat_more : (id : ℕ) {i : ℕ} {w v : Writer} → Staged i (repeated id i) w v → RoomIn (staging (i + 1)) w → Staged (i + 1) (repeated id (i + 1)) w (with_part i id v)
splat_more id {i = i} {w = w} {v = v} q room =
    subst (λ (ps : State → List ℕ). Staged (i + 1) ps w (with_part i id v)) (λ j s. replicate-append-replicate i 1 id j) (staged_more q room id (λ s. id) (λ s h. refl))

-- ---- a Compose's: the ids of the first i constants that its body names

abbrev pub ids_named : List ℕ → ℕ → State → List ℕ
ids_named b i s = ids_of s (u16s_at b 4 i)

ids_snoc : (s : State) (cs : List ℕ) (c : ℕ) → ids_of s cs ++ (value_at s c).id ∷ [] ≡ ids_of s (cs ++ c ∷ [])
unfolding ids_of
ids_snoc s [] c = refl
ids_snoc s (x ∷ cs) c = ap (λ (l : List ℕ). (value_at s x).id ∷ l) (ids_snoc s cs c)

pub parts_none : (b : List ℕ) (w : Writer) → Staged 0 (ids_named b 0) w w
unfolding ids_of u16s_at
parts_none b w = staged_none w

pub parts_more : (b : List ℕ) {i : ℕ} {w v : Writer} → Staged i (ids_named b i) w v → RoomIn (staging (i + 1)) w → {r : WrittenConstant} → ValueAt (u16_at b (4 + 2 * i)) v r
    → Staged (i + 1) (ids_named b (i + 1)) w (with_part i r.id v)
parts_more b {i = i} {w = w} {v = v} q room {r = r} read =
    let c = u16_at b (4 + 2 * i) in
    let one : (s : State) → ids_of s (u16s_at b 4 i) ++ (value_at s c).id ∷ [] ≡ ids_named b (i + 1) s =
    λ s. ids_snoc s (u16s_at b 4 i) c ∙ ap (ids_of s) (u16s_snoc b 4 i ∙ ap (u16s_at b 4) (sym (add-one i))) in
    subst (λ (ps : State → List ℕ). Staged (i + 1) ps w (with_part i r.id v)) (λ j s. one s j) (staged_more q room r.id (λ s. (value_at s c).id) (λ s h. (read.held s h).id))
