-- Names and decorations: each is an instruction that the reader takes (a computed test), on an id that is declared or pending, and a
-- decoration is one that does not stand there yet, so the state stays sound; and each adds to its own section alone.
use Prim.Native.Nat.{ℕ, suc, ◌+◌, ◌<◌, ◌≤◌}
use mathlib.Core.Path.{◌≡◌, refl}
use mathlib.Core.List.Memᴰ
use mathlib.Core.List.{List, [], ◌∷◌, Memᴰ}
use Rattle.std.specs.Prelude.{Some, None}
use mathlib.Core.Bool.{Bool, true, false}
use native.Mathlib.Omega.{arith}
use lib.Dec.{eqb, lit≤}
use lib.ListN.{length}
use Rattle.definition.specs.Choice.{pick, among}
use Rattle.definition.specs.Bytes.{Name}
use Rattle.definition.specs.Numbers.{OpDecorate, OpMemberDecorate, DecorationBlock}
use Rattle.definition.specs.Instructions.{Instruction, packed, name, member_name, decorate, member_decorate}
use Rattle.definition.specs.Reader.{is_string}
use Rattle.definition.specs.State.{State, take_id, annotate, label}
use Rattle.definition.specs.Rules.{label_if, annotate_if, block, blocked, block_once}
use Rattle.definition.specs.WellDeclared.{times, targets, target_of, carried, times_decorated, times_member_decorated}
use Rattle.definition.proofs.Truth.{pick_for}
use Rattle.definition.proofs.ByShape.{taken}
use Rattle.definition.proofs.Few.{one_few}
use Rattle.definition.proofs.Repeats.{annotate_single, label_single, carried_other, none_on, not_blocked}
use Rattle.definition.proofs.Sizes.{W, Under, under_more}
use Rattle.definition.proofs.Sound.{Sound, pending, mark_sound, name_sound, taken_range}
use Rattle.definition.proofs.Finding.{Grew, grew_refl}

-- a name whose words the reader takes for a string
pub record Spelled (bs : List ℕ) : Type 0 where
  pub string : is_string (packed bs) ≡ true
  pub words : Under W (packed bs)
  pub short : length (packed bs) ≤ 64

abbrev pub GoodName : Name → Type 0
GoodName None = Unit
GoodName (Some bs) = Spelled bs

-- the targets
decorate_target : (id d : ℕ) (xs : List ℕ) (t : ℕ) → Memᴰ t (targets (decorate id d xs ∷ [])) → t ≡ id
unfolding targets target_of
decorate_target id d xs t m = Memᴰ.eq_of_singleton m

member_target : (id i d : ℕ) (xs : List ℕ) (t : ℕ) → Memᴰ t (targets (member_decorate id i d xs ∷ [])) → t ≡ id
unfolding targets target_of
member_target id i d xs t m = Memᴰ.eq_of_singleton m

name_target : (id : ℕ) (bs : List ℕ) (t : ℕ) → Memᴰ t (targets (name id bs ∷ [])) → t ≡ id
unfolding targets target_of
name_target id bs t m = Memᴰ.eq_of_singleton m

member_name_target : (id i : ℕ) (bs : List ℕ) (t : ℕ) → Memᴰ t (targets (member_name id i bs ∷ [])) → t ≡ id
unfolding targets target_of
member_name_target id i bs t m = Memᴰ.eq_of_singleton m

-- what adds a name or a decoration changes nothing else
pub annotate_grew : (d : Instruction) (s : State) → Grew s (annotate d s)
annotate_grew d s = record { more = λ k i m. m; still = λ i. omega arith; up = omega arith; values = refl; fresh = λ h i m. m; shared = λ c i m. m; routines = λ c i t m. m }

pub label_grew : (d : Instruction) (s : State) → Grew s (label d s)
label_grew d s = record { more = λ k i m. m; still = λ i. omega arith; up = omega arith; values = refl; fresh = λ h i m. m; shared = λ c i m. m; routines = λ c i t m. m }

pub annotate_if_grew : (b : Bool) (d : Instruction) (s : State) → Grew s (annotate_if b d s)
annotate_if_grew false d s = grew_refl s
annotate_if_grew true d s = annotate_grew d s

pub once_grew : (id : ℕ) (s : State) → Grew s (block_once id s)
once_grew id s = pick_for (Grew s) (among id (blocked s.annotations)) s (annotate (block id) s) (grew_refl s) (annotate_grew (block id) s)

pub label_if_grew : (b : Bool) (write : List ℕ → Instruction) (n : Name) (s : State) → Grew s (label_if b write n s)
label_if_grew false write n s = grew_refl s
label_if_grew true write None s = grew_refl s
label_if_grew true write (Some bs) s = label_grew (write bs) s

-- an id that is declared, or taken and not yet declared
abbrev pub Taken : ℕ → List (ℕ × ℕ) → State → Type 0
Taken id P s = 1 ≤ times id s.declarations + pending id P

module _ (start : ℕ) (id : ℕ) (P : List (ℕ × ℕ)) where
  low : (s : State) → Taken id P s → Sound start P s → id ≤ s.last
  low s t h = (taken_range start P s h id t).1

  pub decorate_sound : (d : ℕ) (xs : List ℕ) (s : State) → d ≤ W → Under W xs → length xs ≤ 1 → Taken id P s → times_decorated id d s.annotations ≡ 0 → Sound start P s → Sound start P (annotate (decorate id d xs) s)
  decorate_sound d xs s dw xw short t new h =
      mark_sound start id (decorate id d xs) P s
      (record {
        formed = taken (rw (one_few xs short) tt);
        silent = refl;
        marking = tt;
        fits = record { words = λ B p q. (omega (arith, low s t h), (omega arith, under_more W B xs p xw)); short = omega arith };
      })
      (decorate_target id d xs) t (annotate_single s.names s.annotations OpDecorate (id ∷ d ∷ []) xs refl new h.single) h

  pub member_sound : (i d : ℕ) (xs : List ℕ) (s : State) → i ≤ W → d ≤ W → Under W xs → length xs ≤ 1 → Taken id P s → times_member_decorated id i d s.annotations ≡ 0 → Sound start P s → Sound start P (annotate (member_decorate id i d xs) s)
  member_sound i d xs s iw dw xw short t new h =
      mark_sound start id (member_decorate id i d xs) P s
      (record {
        formed = taken (rw (one_few xs short) tt);
        silent = refl;
        marking = tt;
        fits = record { words = λ B p q. (omega (arith, low s t h), (omega arith, (omega arith, under_more W B xs p xw))); short = omega arith };
      })
      (member_target id i d xs) t (annotate_single s.names s.annotations OpMemberDecorate (id ∷ i ∷ d ∷ []) xs refl new h.single) h

  pub decorate_if_sound : (b : Bool) (d : ℕ) (s : State) → d ≤ W → Taken id P s → times_decorated id d s.annotations ≡ 0 → Sound start P s → Sound start P (annotate_if b (decorate id d []) s)
  decorate_if_sound false d s dw t new h = h
  decorate_if_sound true d s dw t new h = decorate_sound d [] s dw tt (omega arith) t new h

  -- Block, where it is not yet
  pub once_sound : (s : State) → Taken id P s → Sound start P s → Sound start P (block_once id s)
  once_sound s t h = go (among id (blocked s.annotations)) refl
    where
      go : (b : Bool) → among id (blocked s.annotations) ≡ b → Sound start P (pick b s (annotate (block id) s))
      go true e = h
      go false e = decorate_sound DecorationBlock [] s (lit≤ tt) tt (omega arith) t (not_blocked id s.annotations e) h

  pub name_kept : (b : Bool) (n : Name) (s : State) → GoodName n → Taken id P s → Sound start P s → Sound start P (label_if b (name id) n s)
  name_kept false n s g t h = h
  name_kept true None s g t h = h
  name_kept true (Some bs) s g t h =
      name_sound start id (name id bs) P s
      (record {
        formed = taken (rw g.string tt);
        silent = refl;
        marking = tt;
        fits = record { words = λ B p q. (omega (arith, low s t h), under_more W B (packed bs) p g.words); short = omega (arith, g.short) };
      })
      (name_target id bs) t (label_single s.names s.annotations (name id bs) tt h.single) h

  pub member_name_kept : (b : Bool) (i : ℕ) (n : Name) (s : State) → i ≤ W → GoodName n → Taken id P s → Sound start P s → Sound start P (label_if b (member_name id i) n s)
  member_name_kept false i n s iw g t h = h
  member_name_kept true i None s iw g t h = h
  member_name_kept true i (Some bs) s iw g t h =
      name_sound start id (member_name id i bs) P s
      (record {
        formed = taken (rw g.string tt);
        silent = refl;
        marking = tt;
        fits = record { words = λ B p q. (omega (arith, low s t h), (omega arith, under_more W B (packed bs) p g.words)); short = omega (arith, g.short) };
      })
      (member_name_target id i bs) t (label_single s.names s.annotations (member_name id i bs) tt h.single) h

-- ---- what does not stand there yet

-- nothing on an id, and nothing on its members
pub record Bare (id : ℕ) (s : State) : Type 0 where
  pub on_id : (ks : List ℕ) → carried OpDecorate (id ∷ ks) s.annotations ≡ 0
  pub on_members : (ks : List ℕ) → carried OpMemberDecorate (id ∷ ks) s.annotations ≡ 0

-- the id taken last
pub fresh_bare : (start : ℕ) (P : List (ℕ × ℕ)) (s : State) → Sound start P s → Bare (suc s.last) (take_id s)
unfolding target_of
fresh_bare start P s h =
    let below : (t : ℕ) → Memᴰ t (targets s.annotations) → t < suc s.last = λ t m. omega (arith, (h.annotations.on t m).1) in
    record {
      on_id = λ ks. none_on OpDecorate (λ t ws. Memᴰ.head refl) (suc s.last) ks s.annotations below;
      on_members = λ ks. none_on OpMemberDecorate (λ t ws. Memᴰ.head refl) (suc s.last) ks s.annotations below;
    }

-- a name decorates nothing
pub label_if_notes : (b : Bool) (write : List ℕ → Instruction) (n : Name) (s : State) → (label_if b write n s).annotations ≡ s.annotations
label_if_notes false write n s = refl
label_if_notes true write None s = refl
label_if_notes true write (Some bs) s = refl

-- one decoration of an id leaves another open
pub decorate_if_other : (b : Bool) (id d e : ℕ) (s : State) → eqb d e ≡ false → times_decorated id d (annotate_if b (decorate id e []) s).annotations ≡ times_decorated id d s.annotations
decorate_if_other false id d e s f = refl
decorate_if_other true id d e s f = carried_other OpDecorate (id ∷ []) d e [] [] s.annotations f
