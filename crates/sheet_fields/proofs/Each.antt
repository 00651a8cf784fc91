-- Numbers of 16 bits that stand one after the other: what is asked of each, by its index among them.
use Rattle.std.proofs.Common.{◌≡◌, ℕ, suc, zero, ◌+◌, ◌*◌, List, refl, ap, sym, ◌∙◌, Bool, ◌&&◌, arith}
use Rattle.std.specs.List.{list_all, range_with_len}
use Rattle.definition.specs.Bytes.{u16_at}
use Rattle.definition.specs.Choice.{every}
use Rattle.definition.specs.Sheet.{u16s_at}

module _ (P : ℕ → Bool) (b : List ℕ) (first : ℕ) where
  abbrev at : ℕ → Bool
  at i = P (u16_at b (first + 2 * i))

  numbers_from : (j p n : ℕ) → p ≡ first + 2 * j → list_all at (range_with_len j n) ≡ every P (u16s_at b p n)
  unfolding u16s_at
  numbers_from j p zero e = refl
  numbers_from j p (suc n) e = ap (λ t. at j && t) (numbers_from (j + 1) (p + 2) n (omega arith)) ∙ ap (λ q. P (u16_at b q) && every P (u16s_at b (p + 2) n)) (sym e)

  pub numbers : (n : ℕ) → list_all at (range_with_len 0 n) ≡ every P (u16s_at b first n)
  numbers n = numbers_from 0 first n (omega arith)
