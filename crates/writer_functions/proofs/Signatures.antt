-- The ids of a signature, put where they wait: the return type's first, then the parameters' one by one. Whatever state is held, what
-- is there are the ids of the first i parameters as the state has them, and one more is put behind them (`staged_more`).
use Prim.Native.Nat.{ℕ, ◌+◌, ◌*◌}
use mathlib.Core.Path.{◌≡◌, refl, sym, ap, ◌∙◌, subst}
use mathlib.Core.List.{List, [], ◌∷◌, ◌++◌}
use native.Mathlib.Numerals.{add-one}
use Rattle.definition.specs.Bytes.{u16_at}
use Rattle.definition.specs.Choice.{or_else}
use Rattle.definition.specs.Sheet.{u16s_at}
use Rattle.definition.specs.Shapes.{entry}
use Rattle.definition.specs.State.{State, id_of, entry_id, entry_ids}
use Rattle.fields.proofs.Numbers.{u16s_snoc}
use Rattle.writer.specs.declared.Writer.{Writer}
use Rattle.writer.specs.Cost.{staging}
use Rattle.writer.specs.Held.{HeldByTables, RoomIn}
use Rattle.writer.specs.Staged.{Staged}
use Rattle.writer.specs.Steps.{with_part}
use Rattle.writer.proofs.Staged.{staged_none, staged_more}

entries_snoc : (s : State) (ts : List ℕ) (t : ℕ) → entry_ids s ts ++ entry_id s t ∷ [] ≡ entry_ids s (ts ++ t ∷ [])
unfolding entry_ids
entries_snoc s [] t = refl
entries_snoc s (x ∷ ts) t = ap (λ (l : List ℕ). entry_id s x ∷ l) (entries_snoc s ts t)

-- the return type's id, and those of the first i parameters of a body
abbrev pub signature : List ℕ → ℕ → ℕ → State → List ℕ
signature b res i s = res ∷ entry_ids s (u16s_at b 3 i)

pub signature_none : (b : List ℕ) (res : ℕ) (w : Writer) → RoomIn (staging 1) w → Staged 1 (signature b res 0) w (with_part 0 res w)
unfolding u16s_at entry_ids
signature_none b res w room = staged_more (staged_none w) room res (λ s. res) (λ s h. refl)

pub signature_more : (b : List ℕ) (res i : ℕ) {w v : Writer} → Staged (i + 1) (signature b res i) w v → RoomIn (staging (i + 1 + 1)) w
    → (x : ℕ) → ((s : State) → HeldByTables v s → x ≡ or_else 0 (id_of s (entry (u16_at b (3 + 2 * i))))) → Staged (i + 1 + 1) (signature b res (i + 1)) w (with_part (i + 1) x v)
signature_more b res i {w = w} {v = v} q room x e =
    let t = u16_at b (3 + 2 * i) in
    let one : (s : State) → entry_ids s (u16s_at b 3 i) ++ entry_id s t ∷ [] ≡ entry_ids s (u16s_at b 3 (i + 1)) =
    λ s. entries_snoc s (u16s_at b 3 i) t ∙ ap (entry_ids s) (u16s_snoc b 3 i ∙ ap (u16s_at b 3) (sym (add-one i))) in
    subst (λ (ps : State → List ℕ). Staged (i + 1 + 1) ps w (with_part (i + 1) x v)) (λ j s. res ∷ one s j) (staged_more q room x (λ s. entry_id s t) e)
