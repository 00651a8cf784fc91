-- A memo for a walk to begin with, and for one type more.
use Prim.Native.Nat.{ℕ, ◌≤◌, ◌<◌}
use mathlib.Core.Path.{◌≡◌, ◌∙◌}
use mathlib.Core.Bool.{Bool, true, false}
use mathlib.Core.List.{List, [], ◌∷◌, ◌++◌}
use native.Mathlib.Omega.{arith}
use native.Mathlib.Decide.{dec_lt}
use lib.ListN.{length, get_or, length-append}
use Rattle.definition.specs.Sheet.{TypeEntry}
use Rattle.definition.specs.Zeroable.{zeroable}
use Rattle.zeroable.specs.Memo.{Memo}
use Rattle.zeroable.proofs.Order.{before}

pub empty : (ts : List TypeEntry) (m : List ℕ) → length ts ≤ length m → ((k : ℕ) → get_or m k 0 ≡ 0) → Memo ts m
empty ts m l z = record { long = l; yes = λ k e. absurd (omega (arith, z k, e)); no = λ k e. absurd (omega (arith, z k, e)); fresh = λ k l. z k }

one_more : (ts : List TypeEntry) (t : TypeEntry) (m : List ℕ) (k : ℕ) (b : Bool) → Memo ts m → (get_or m k 0 ≡ 0 → ⊥) → zeroable ts k ≡ b → Dec (k < length ts) → zeroable (ts ++ t ∷ []) k ≡ b
one_more ts t m k b h f e (yes lt) = before ts (t ∷ []) k lt ∙ e
one_more ts t m k b h f e (no l) = absurd (f (h.fresh k (omega arith)))

pub grows : (ts : List TypeEntry) (t : TypeEntry) (m : List ℕ) → length (ts ++ t ∷ []) ≤ length m → Memo ts m → Memo (ts ++ t ∷ []) m
grows ts t m room h = record {
  long = room;
  yes = λ k e. one_more ts t m k true h (λ z. omega (arith, z, e)) (h.yes k e) (dec_lt k (length ts));
  no = λ k e. one_more ts t m k false h (λ z. omega (arith, z, e)) (h.no k e) (dec_lt k (length ts));
  fresh = λ k l. h.fresh k (omega (arith, l, length-append ts (t ∷ [])));
}
