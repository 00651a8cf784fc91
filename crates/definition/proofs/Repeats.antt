-- How often an id or a member carries a decoration (paper 5). One more instruction counts 1 if it begins with the operands asked about,
-- else 0; so if none began as it does, no count passes 1 (`Single`). Nothing begins with an id above all that are marked, and an id
-- that is not among the blocked carries no Block.
use Prim.Native.Nat.{ℕ, ◌+◌, ◌<◌, ◌≤◌}
use mathlib.Core.Path.{◌≡◌, refl, sym, ap, ◌∙◌}
use mathlib.Core.Logic.{◌⊎◌, inl, inr}
use mathlib.Core.List.Memᴰ
use mathlib.Core.List.{List, [], ◌∷◌, ◌++◌, Memᴰ}
use mathlib.Core.Bool.{Bool, true, false, ◌&&◌}
use native.Mathlib.Omega.{arith}
use lib.Dec.{eqb, T}
use lib.ListN.{length}
use borrow.Author.Tests.{eqb-true, eq-eqb, ne_eqb}
use Rattle.definition.specs.Choice.{pick, among}
use Rattle.definition.specs.Numbers.{OpName, OpMemberName, OpDecorate, OpMemberDecorate, DecorationBlock}
use Rattle.definition.specs.Instructions.{Instruction, plain}
use Rattle.definition.specs.Rules.{block_target, blocked_by, blocked}
use Rattle.definition.specs.WellDeclared.{targets, target_of, begins, carries, carried, times_decorated}
use Rattle.definition.proofs.Truth.{both}
use Rattle.definition.proofs.Lists.{snoc_cases}

pub carried-append : (o : ℕ) (ks : List ℕ) (xs ys : List Instruction) → carried o ks (xs ++ ys) ≡ carried o ks xs + carried o ks ys
unfolding carried
carried-append o ks [] ys = omega arith
carried-append o ks (x ∷ xs) ys = let h = carried-append o ks xs ys in omega arith

pub carried_snoc : (o : ℕ) (ks : List ℕ) (xs : List Instruction) (x : Instruction) → carried o ks (xs ++ x ∷ []) ≡ carried o ks xs + carries o ks x
unfolding carried
carried_snoc o ks xs x = omega (arith, carried-append o ks xs (x ∷ []))

-- instructions of other opcodes
pub none_carried : (o : ℕ) (ks : List ℕ) (xs : List Instruction) → ((d : Instruction) → Memᴰ d xs → d.opcode ≡ o → ⊥) → carried o ks xs ≡ 0
unfolding carried
none_carried o ks [] h = refl
none_carried o ks (x ∷ xs) h =
    let e = none_carried o ks xs (λ d m. h d (Memᴰ.tail m)) in
    let f : carries o ks x ≡ 0 = rw (ne_eqb x.opcode o (h x (Memᴰ.head refl))) refl in
    omega arith

-- ---- operands that begin otherwise

begins_other : (bs : List ℕ) (k j : ℕ) (ks ws : List ℕ) → eqb k j ≡ false → begins (bs ++ k ∷ ks) (bs ++ j ∷ ws) ≡ false
begins_other [] k j ks ws f = rw f refl
begins_other (b ∷ bs) k j ks ws f = rw (eq-eqb b b refl) (begins_other bs k j ks ws f)

pub carries_other : (o : ℕ) (bs : List ℕ) (k j : ℕ) (ks ws : List ℕ) → eqb k j ≡ false → carries o (bs ++ k ∷ ks) (plain o (bs ++ j ∷ ws)) ≡ 0
carries_other o bs k j ks ws f = rw (begins_other bs k j ks ws f) (neither (eqb o o))
  where
    neither : (b : Bool) → pick {A = ℕ} (b && false) 1 0 ≡ 0
    neither true = refl
    neither false = refl

pub carried_other : (o : ℕ) (bs : List ℕ) (k j : ℕ) (ks ws : List ℕ) (xs : List Instruction) → eqb k j ≡ false → carried o (bs ++ k ∷ ks) (xs ++ plain o (bs ++ j ∷ ws) ∷ []) ≡ carried o (bs ++ k ∷ ks) xs
carried_other o bs k j ks ws xs f = omega (arith, carried_snoc o (bs ++ k ∷ ks) xs (plain o (bs ++ j ∷ ws)), carries_other o bs k j ks ws f)

-- ---- as many operands that begin alike are the same

begins_alike : (ks js ws : List ℕ) → length ks ≡ length js → begins ks (js ++ ws) ≡ true → ks ≡ js
begins_alike [] [] ws l e = refl
begins_alike [] (j ∷ js) ws l e = absurd (omega (arith, l))
begins_alike (k ∷ ks) [] ws l e = absurd (omega (arith, l))
begins_alike (k ∷ ks) (j ∷ js) ws l e =
    let p = both (eqb k j) (begins ks (js ++ ws)) e in
    rw (eqb-true k j p.0, begins_alike ks js ws (omega (arith, l)) p.1) refl

-- how many first operands say what is decorated, and with what
abbrev pub firsts : ℕ → ℕ
firsts o = pick (eqb o OpMemberDecorate) 3 2

abbrev pub naming : ℕ → Bool
naming o = among o (OpName ∷ OpMemberName ∷ [])

-- no decoration among the names, and none twice among the annotations
pub record Single (names annotations : List Instruction) : Type 0 where
  pub named : (d : Instruction) → Memᴰ d names → T (naming d.opcode)
  pub at_most_once : (o : ℕ) (ks : List ℕ) → length ks ≡ firsts o → carried o ks annotations ≤ 1

pub annotate_single : (ns xs : List Instruction) (o : ℕ) (ks ws : List ℕ) → length ks ≡ firsts o → carried o ks xs ≡ 0 → Single ns xs → Single ns (xs ++ plain o (ks ++ ws) ∷ [])
annotate_single ns xs o ks ws l new h = record {
  named = h.named;
  at_most_once = λ p js m. omega (arith, carried_snoc p js xs (plain o (ks ++ ws)), still p js m (eqb o p && begins js (ks ++ ws)) refl);
}
  where
    still : (p : ℕ) (js : List ℕ) → length js ≡ firsts p → (b : Bool) → (eqb o p && begins js (ks ++ ws)) ≡ b → carried p js xs + pick b 1 0 ≤ 1
    still p js m false e = omega (arith, h.at_most_once p js m)
    still p js m true e =
        let q = both (eqb o p) (begins js (ks ++ ws)) e in
        let r = eqb-true o p q.0 in
        let z : carried p js xs ≡ 0 = rw (← r, begins_alike js ks ws (m ∙ sym (l ∙ ap firsts r)) q.1) new in
        omega arith

pub label_single : (ns xs : List Instruction) (x : Instruction) → T (naming x.opcode) → Single ns xs → Single (ns ++ x ∷ []) xs
label_single ns xs x t h = record { named = λ d m. named d (snoc_cases ns m); at_most_once = h.at_most_once }
  where
    named : (d : Instruction) → Memᴰ d ns ⊎ (d ≡ x) → T (naming d.opcode)
    named d (inl m) = h.named d m
    named d (inr q) = rw q t

-- ---- where nothing stands yet

-- an id above all that are marked, by an opcode whose first operand is what it marks
pub none_on : (o : ℕ) → ((t : ℕ) (ws : List ℕ) → Memᴰ t (target_of (plain o (t ∷ ws))))
    → (id : ℕ) (ks : List ℕ) (xs : List Instruction) → ((t : ℕ) → Memᴰ t (targets xs) → t < id) → carried o (id ∷ ks) xs ≡ 0
unfolding carried targets target_of
none_on o first id ks [] h = refl
none_on o first id ks (x ∷ xs) h =
    let e = none_on o first id ks xs (λ t m. h t (Memᴰ.append_right (target_of x) m)) in
    let f = here x.operands refl (eqb x.opcode o) refl in
    omega arith
  where
    above : (t : ℕ) (ws : List ℕ) → x.operands ≡ t ∷ ws → x.opcode ≡ o → id ≡ t → ⊥
    above t ws e p q = let m : Memᴰ t (target_of x) = rw (p, e) (first t ws) in omega (arith, h t (Memᴰ.append_left (targets xs) m))

    here : (zs : List ℕ) → x.operands ≡ zs → (b : Bool) → eqb x.opcode o ≡ b → pick {A = ℕ} (b && begins (id ∷ ks) zs) 1 0 ≡ 0
    here zs e false p = refl
    here [] e true p = refl
    here (t ∷ ws) e true p = rw (ne_eqb id t (above t ws e (eqb-true x.opcode o p))) refl

-- what is not among two lists is among neither
among_neither : (x : ℕ) (xs ys : List ℕ) → among x (xs ++ ys) ≡ false → (among x xs ≡ false) × (among x ys ≡ false)
among_neither x [] ys e = (refl, e)
among_neither x (k ∷ xs) ys e = go (eqb x k) e (among_neither x xs ys)
  where
    go : (b : Bool) → pick b true (among x (xs ++ ys)) ≡ false → (among x (xs ++ ys) ≡ false → (among x xs ≡ false) × (among x ys ≡ false)) → (pick b true (among x xs) ≡ false) × (among x ys ≡ false)
    go true e f = let z : ◌≡◌ {A = ℕ} 0 1 = cc in absurd (omega arith)
    go false e f = f e

-- an id that is not among the blocked: the reader's count against the writer's list
pub not_blocked : (id : ℕ) (xs : List Instruction) → among id (blocked xs) ≡ false → times_decorated id DecorationBlock xs ≡ 0
unfolding carried blocked
not_blocked id [] e = refl
not_blocked id (x ∷ xs) e =
    let p = among_neither id (blocked_by x) (blocked xs) e in
    let f = here x.operands (eqb x.opcode OpDecorate) p.0 in
    let g = not_blocked id xs p.1 in
    omega arith
  where
    onto : (t : ℕ) (b : Bool) → eqb id t ≡ b → (ws : List ℕ) → among id (block_target (t ∷ ws)) ≡ false → pick {A = ℕ} (b && begins (DecorationBlock ∷ []) ws) 1 0 ≡ 0
    onto t false p ws e = refl
    onto t true p [] e = refl
    onto t true p (d ∷ ws) e = rw (ne_eqb DecorationBlock d (λ q. let f : true ≡ false = rw (← q, p) at e in let z : ◌≡◌ {A = ℕ} 0 1 = cc in omega arith)) refl

    here : (zs : List ℕ) (b : Bool) → among id (pick b (block_target zs) []) ≡ false → pick {A = ℕ} (b && begins (id ∷ DecorationBlock ∷ []) zs) 1 0 ≡ 0
    here zs false e = refl
    here [] true e = refl
    here (t ∷ ws) true e = onto t (eqb id t) refl ws e
