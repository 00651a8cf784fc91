-- Words put into a buffer: word by word at its front, into a part of it that is lent, and one run behind the other.
-- A crate that calls the writers on `&mut buffer[at..]` reads what it then holds by `lent` and `lent_count`.
use Prim.Native.Nat.{ℕ, suc, ◌+◌, ◌-◌, ◌≤◌, ◌<◌}
use mathlib.Core.Path.{◌≡◌, refl, sym, ap, ◌∙◌}
use mathlib.Core.List.{List, [], ◌∷◌, ◌++◌, append_assoc, append-nil}
use native.Mathlib.Numerals.{add-one}
use native.Mathlib.Omega.{arith}
use lib.ListN.{length, get_or, take, drop, set, length-append, length-drop, drop_of_length-le}
use lib.Seq.{take-suc, take-length, take_all, take_at, drop_at, drop-cons, drop-drop, append_snoc, set_at, length-take-le}
use borrow.Author.Tests.{le-leb, lt-leb}
use Rattle.definition.specs.Instructions.{put, put_count}
use Rattle.spirv.specs.Put.{Put}
use Rattle.spirv.specs.Sections.{splice}

-- ---- there is room, or there is none

module _ (ws xs : List ℕ) where
  pub put_of : (ys : List ℕ) (n : ℕ) → ys ≡ ws ++ drop (length ws) xs → n ≡ length ws → n ≤ length xs → Put ws xs ys n
  unfolding put put_count
  put_of ys n e k h = let t = le-leb (length ws) (length xs) (omega arith) in record { words = rw t e; count = rw t k }

  pub nothing : length xs < length ws → Put ws xs xs 0
  unfolding put put_count
  nothing h = let t = lt-leb (length ws) (length xs) h in record { words = rw t; count = rw t }

module _ (ws xs ys : List ℕ) (m : ℕ) (p : Put ws xs ys m) (room : length ws ≤ length xs) where
  pub front : ys ≡ ws ++ drop (length ws) xs
  unfolding put
  front = let t = le-leb (length ws) (length xs) room in p.words ∙ rw t

  pub all_put : m ≡ length ws
  unfolding put_count
  all_put = let t = le-leb (length ws) (length xs) room in p.count ∙ rw t

  pub same_length : length ys ≡ length xs
  same_length = ap length front ∙ simp (length-append, length-drop) (omega arith)

  -- one more word behind them
  pub one_more : (w : ℕ) → length ws < length xs → Put (ws ++ w ∷ []) xs (set ys (length ws) w) (length ws + 1)
  one_more w more =
      let n = length ws in
      let e : suc n ≡ length (ws ++ w ∷ []) = simp length-append (omega arith) in
      put_of (ws ++ w ∷ []) xs (set ys n w) (n + 1)
      (ap (λ (z : List ℕ). set z n w) (front ∙ ap (λ (z : List ℕ). ws ++ z) (drop-cons xs n 0 more))
      ∙ set_at ws (get_or xs n 0) (drop (suc n) xs) w n refl
      ∙ sym (append_snoc ws w (drop (suc n) xs))
      ∙ ap (λ (j : ℕ). (ws ++ w ∷ []) ++ drop j xs) e)
      (simp length-append (omega arith)) (omega arith)

-- ---- word by word

-- the first i of the words stand at the front, and the rest of the buffer is as it was
abbrev pub laid : ℕ → List ℕ → List ℕ → List ℕ
laid i ws xs = take i ws ++ drop i xs

module _ (ws xs ys : List ℕ) (i : ℕ) (e : ys ≡ laid i ws xs) where
  -- a turn of the loop
  pub laid_more : (w : ℕ) → i < length ws → i < length xs → w ≡ get_or ws i 0 → set ys i w ≡ laid (i + 1) ws xs
  laid_more w h k f =
      ap (λ (z : List ℕ). set z i w) (e ∙ ap (λ (z : List ℕ). take i ws ++ z) (drop-cons xs i 0 k))
      ∙ set_at (take i ws) (get_or xs i 0) (drop (suc i) xs) w i (length-take-le i ws (omega arith))
      ∙ ap (λ (x : ℕ). take i ws ++ x ∷ drop (suc i) xs) f
      ∙ sym (append_snoc (take i ws) (get_or ws i 0) (drop (suc i) xs))
      ∙ ap (λ (z : List ℕ). z ++ drop (suc i) xs) (sym (take-suc ws i 0 h))
      ∙ ap (λ (j : ℕ). laid j ws xs) (sym (add-one i))

  -- its end
  pub laid_all : (n : ℕ) → i ≡ n → n ≡ length ws → n ≤ length xs → Put ws xs ys n
  laid_all n k l h =
      put_of ws xs ys n
      (e ∙ ap (λ (j : ℕ). laid j ws xs) (k ∙ l) ∙ ap (λ (z : List ℕ). z ++ drop (length ws) xs) (take-length ws)) l h

-- ---- a buffer that is lent from a place on

module _ (xs : List ℕ) (at : ℕ) where
  abbrev pub part : List ℕ
  part = take (length xs - at) (drop at xs)

  -- the buffer, when the part has come back as z
  abbrev pub back : List ℕ → List ℕ
  back z = take at xs ++ (z ++ drop (length xs - at) (drop at xs))

  module _ (ws z : List ℕ) (m : ℕ) (p : Put ws part z m) (room : at + length ws ≤ length xs) where
    part_all : part ≡ drop at xs
    part_all = take_all (length xs - at) (drop at xs) (simp length-drop (omega arith))

    in_part : length ws ≤ length part
    in_part = simp (part_all, length-drop) (omega arith)

    -- the words stand behind the place, and nothing else changed
    pub lent : back z ≡ splice xs at ws
    lent =
        let b : drop (length xs - at) (drop at xs) ≡ [] =
        drop_of_length-le (drop at xs) {i = length xs - at} (simp length-drop (omega arith)) in
        ap (λ (t : List ℕ). take at xs ++ (z ++ t)) b
        ∙ ap (λ (t : List ℕ). take at xs ++ t)
        (append-nil z ∙ front ws part z m p in_part ∙ ap (λ (t : List ℕ). ws ++ drop (length ws) t) part_all)
        ∙ ap (λ (t : List ℕ). take at xs ++ (ws ++ t)) (drop-drop (length ws) at xs)
        ∙ sym (append_assoc (take at xs) ws (drop (at + length ws) xs))

    -- all of them were put, and they end what is in use
    pub lent_count : m ≡ length ws
    lent_count = all_put ws part z m p in_part

-- ---- one run behind the other

joined : (hs bs xs ys : List ℕ) (k at : ℕ) → Put hs xs ys k → at ≡ length hs → at + length bs ≤ length xs
    → Put (hs ++ bs) xs (splice ys at bs) (at + length bs)
joined hs bs xs ys k at p e room =
    let f : ys ≡ hs ++ drop at xs = front hs xs ys k p (omega arith) ∙ ap (λ (j : ℕ). hs ++ drop j xs) (sym e) in
    let t : take at ys ≡ hs = ap (take at) f ∙ take_at hs (drop at xs) at (sym e) in
    let d : drop at ys ≡ drop at xs = ap (drop at) f ∙ drop_at hs (drop at xs) at (sym e) in
    let j : at + length bs ≡ length (hs ++ bs) = simp length-append (omega arith) in
    let r : drop (at + length bs) ys ≡ drop (length (hs ++ bs)) xs =
    sym (drop-drop (length bs) at ys) ∙ ap (drop (length bs)) d ∙ drop-drop (length bs) at xs ∙ ap (λ (i : ℕ). drop i xs) j in
    put_of (hs ++ bs) xs (splice ys at bs) (at + length bs)
    (ap (λ (l : List ℕ). l ++ bs ++ drop (at + length bs) ys) t ∙ ap (λ (l : List ℕ). hs ++ bs ++ l) r) j room

-- a writer's words, and another's in the part behind them that it was lent
pub behind : (hs bs xs ys z : List ℕ) (k at m n : ℕ) → Put hs xs ys k → at ≡ length hs → Put bs (part ys at) z m → n ≡ at + length bs → n ≤ length xs
    → Put (hs ++ bs) xs (back ys at z) n
behind hs bs xs ys z k at m n p e q s room =
    let l = same_length hs xs ys k p (omega arith) in
    let w = joined hs bs xs ys k at p e (omega arith) in
    record { words = lent ys at bs z m q (omega arith) ∙ w.words; count = s ∙ w.count }

-- some runs stand at the front
pub record Begun (ws xs ys : List ℕ) (at : ℕ) : Type 0 where
  pub written : Put ws xs ys at
  pub size : at ≡ length ws

pub start : (xs : List ℕ) → Begun [] xs xs 0
start xs = record { written = put_of [] xs xs 0 refl refl (omega arith); size = refl }

-- then one more, in what is left of the buffer behind them
pub more : (ws bs xs ys z : List ℕ) (at m n : ℕ) → Begun ws xs ys at → Put bs (part ys at) z m → n ≡ length bs → at + n ≤ length xs
    → Begun (ws ++ bs) xs (back ys at z) (at + n)
more ws bs xs ys z at m n b q e room = record {
  written = behind ws bs xs ys z at at m (at + n) b.written b.size q (ap (λ (j : ℕ). at + j) e) room;
  size = simp length-append (omega (arith, b.size));
}
