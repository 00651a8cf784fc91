-- Finding an entry changes nothing: it is there or not, and is never declared. So a lookup of its id is the definition's finding.
use Prim.Native.Nat.{ℕ}
use mathlib.Core.Path.{◌≡◌, refl, sym, ap, ◌∙◌}
use Rattle.std.specs.Prelude.{Option, Some, None, unwrap_or}
use Rattle.definition.specs.Choice.{or_else}
use Rattle.definition.specs.Shapes.{Key, same_key, entry}
use Rattle.definition.specs.State.{State, got, lookup, id_of}
use Rattle.definition.specs.Finding.{find, find_at, or_new_key}
use Rattle.lookup.specs.Packed.{packed_key, Small}
use Rattle.writer.specs.declared.Writer.{Writer}
use Rattle.writer.specs.Cost.{no_cost}
use Rattle.writer.specs.Held.{HeldByTables}
use Rattle.writer.specs.Steps.{GotBy, FindsType}
use Rattle.writer.proofs.Turns.{got_old}

-- what the table has under a key, or 0
pub looked_up : (k : Key) → Small k → {key : ℕ} → key ≡ packed_key k → (w : Writer) (r : Option ℕ) → FindsType key w r → {x : ℕ} → x ≡ unwrap_or r 0
    → (s : State) → HeldByTables w s → x ≡ or_else 0 (id_of s k)
looked_up k small ek w r er ex s h = ex ∙ ap (λ (o : Option ℕ). unwrap_or o 0) (er k small ek s h) ∙ alike (id_of s k)
  where
    alike : (o : Option ℕ) → unwrap_or o 0 ≡ or_else 0 o
    alike (Some i) = refl
    alike None = refl

pub entry_found : (h : ℕ) (s : State) → find (entry h) s ≡ got (or_else 0 (id_of s (entry h))) s
unfolding find find_at
entry_found h s = go (lookup same_key (entry h) s.types)
  where
    go : (o : Option ℕ) → or_new_key o (λ k s. got 0 s) (entry h) s ≡ got (or_else 0 o) s
    go (Some i) = refl
    go None = refl

pub entry_got : (h : ℕ) (w : Writer) (x : ℕ) → ((s : State) → HeldByTables w s → x ≡ or_else 0 (id_of s (entry h))) → GotBy no_cost (find (entry h)) w x w
entry_got h w x e = got_old no_cost (find (entry h)) w x (λ s y. entry_found h s ∙ ap (λ (i : ℕ). got i s) (sym (e s (w.sections.now, y))))
