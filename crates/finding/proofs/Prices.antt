-- What a shape names costs less than the shape does, by a length and its own instruction at most.
use Prim.Native.Nat.{ℕ, suc}
use mathlib.Core.Path.{◌≡◌, refl}
use Rattle.std.specs.Prelude.{Some, None}
use native.Mathlib.Omega.{arith}
use Rattle.definition.specs.Shapes.{Shape, Key, inner, sized, rank, rank_of}
use Rattle.definition.specs.Shapes.{float, one, many, scalar, vector, matrix, pointer, value_pointer, image, sampler, acceleration_structure, ray_query, binding_array, binding_pointer, entry, shape}
use Rattle.writer.specs.Cost.{◌⊕◌}
use Rattle.writer.proofs.Turns.{AtMost}
use Rattle.finding.specs.Costs.{own_cost, declared_cost, cost_of, literal_cost}

-- a shape is one deeper than what it names
pub inner_rank : (l : Shape) (k : Key) → inner l ≡ Some k → rank_of l ≡ suc (rank k)
inner_rank (scalar a) k e = let z : ◌≡◌ {A = ℕ} 0 1 = cc in omega arith
inner_rank (vector n a) k e = let h : shape (scalar a) ≡ k = cc in rw (← h) refl
inner_rank (matrix c r w) k e = let h : shape (vector r (float w)) ≡ k = cc in rw (← h) refl
inner_rank (pointer b c) k e = let h : entry b ≡ k = cc in rw (← h) refl
inner_rank (value_pointer one a c) k e = let h : shape (scalar a) ≡ k = cc in rw (← h) refl
inner_rank (value_pointer (many n) a c) k e = let h : shape (vector n a) ≡ k = cc in rw (← h) refl
inner_rank (image a d p r m s f) k e = let h : shape (scalar a) ≡ k = cc in rw (← h) refl
inner_rank sampler k e = let z : ◌≡◌ {A = ℕ} 0 1 = cc in omega arith
inner_rank acceleration_structure k e = let z : ◌≡◌ {A = ℕ} 0 1 = cc in omega arith
inner_rank ray_query k e = let z : ◌≡◌ {A = ℕ} 0 1 = cc in omega arith
inner_rank (binding_array b n) k e = let h : entry b ≡ k = cc in rw (← h) refl
inner_rank (binding_pointer b n s a) k e = let h : shape (binding_array b n) ≡ k = cc in rw (← h) refl

-- its price has room for what it names and for its own instruction
pub inner_price : (l : Shape) (k : Key) → inner l ≡ Some k → AtMost (cost_of k ⊕ own_cost l) (declared_cost l)
inner_price (scalar a) k e = let z : ◌≡◌ {A = ℕ} 0 1 = cc in omega arith
inner_price (vector n a) k e = let h : shape (scalar a) ≡ k = cc in rw (← h) (omega arith)
inner_price (matrix c r w) k e = let h : shape (vector r (float w)) ≡ k = cc in rw (← h) (omega arith)
inner_price (pointer b c) k e = let h : entry b ≡ k = cc in rw (← h) (omega arith)
inner_price (value_pointer one a c) k e = let h : shape (scalar a) ≡ k = cc in rw (← h) (omega arith)
inner_price (value_pointer (many n) a c) k e = let h : shape (vector n a) ≡ k = cc in rw (← h) (omega arith)
inner_price (image a d p r m s f) k e = let h : shape (scalar a) ≡ k = cc in rw (← h) (omega arith)
inner_price sampler k e = let z : ◌≡◌ {A = ℕ} 0 1 = cc in omega arith
inner_price acceleration_structure k e = let z : ◌≡◌ {A = ℕ} 0 1 = cc in omega arith
inner_price ray_query k e = let z : ◌≡◌ {A = ℕ} 0 1 = cc in omega arith
inner_price (binding_array b n) k e = let h : entry b ≡ k = cc in rw (← h) (omega arith)
inner_price (binding_pointer b n s a) k e = let h : shape (binding_array b n) ≡ k = cc in rw (← h) (omega arith)

-- only an array names a length, and it names an entry
module _ (l : Shape) (n : ℕ) where
  none_sized : None ≡ Some n → ⊥
  none_sized e = let z : ◌≡◌ {A = ℕ} 0 1 = cc in omega arith

  pub sized_rank : sized l ≡ Some n → rank_of l ≡ 1
  sized_rank e = go l e
    where
      go : (l : Shape) → sized l ≡ Some n → rank_of l ≡ 1
      go (scalar a) e = absurd (none_sized e)
      go (vector m a) e = absurd (none_sized e)
      go (matrix c r w) e = absurd (none_sized e)
      go (pointer b c) e = absurd (none_sized e)
      go (value_pointer m a c) e = absurd (none_sized e)
      go (image a d p r m s f) e = absurd (none_sized e)
      go sampler e = absurd (none_sized e)
      go acceleration_structure e = absurd (none_sized e)
      go ray_query e = absurd (none_sized e)
      go (binding_array b m) e = refl
      go (binding_pointer b m s a) e = absurd (none_sized e)

  pub sized_price : (k : Key) → inner l ≡ Some k → sized l ≡ Some n → AtMost (cost_of k ⊕ literal_cost ⊕ own_cost l) (declared_cost l)
  sized_price k i e = go l i e
    where
      go : (l : Shape) → inner l ≡ Some k → sized l ≡ Some n → AtMost (cost_of k ⊕ literal_cost ⊕ own_cost l) (declared_cost l)
      go (scalar a) i e = absurd (none_sized e)
      go (vector m a) i e = absurd (none_sized e)
      go (matrix c r w) i e = absurd (none_sized e)
      go (pointer b c) i e = absurd (none_sized e)
      go (value_pointer m a c) i e = absurd (none_sized e)
      go (image a d p r m s f) i e = absurd (none_sized e)
      go sampler i e = absurd (none_sized e)
      go acceleration_structure i e = absurd (none_sized e)
      go ray_query i e = absurd (none_sized e)
      go (binding_array b m) i e = let h : entry b ≡ k = cc in rw (← h) (omega arith)
      go (binding_pointer b m s a) i e = absurd (none_sized e)

-- what names no type names no length
pub bare : (l : Shape) → inner l ≡ None → sized l ≡ None
bare (scalar a) e = refl
bare (vector n a) e = refl
bare (matrix c r w) e = refl
bare (pointer b c) e = refl
bare (value_pointer n a c) e = refl
bare (image a d p r m s f) e = refl
bare sampler e = refl
bare acceleration_structure e = refl
bare ray_query e = refl
bare (binding_array b n) e = let z : ◌≡◌ {A = ℕ} 0 1 = cc in absurd (omega arith)
bare (binding_pointer b n s a) e = refl
