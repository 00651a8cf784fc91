-- What a constructor's words are of: its instruction, the ids taken as words. All its other numbers are words already.
use Prim.Native.Nat.{ℕ, suc, ◌+◌, ◌*◌, ◌-◌, ◌≤◌, ◌<◌}
use mathlib.Core.Path.{◌≡◌, sym, subst}
use mathlib.Core.List.{List, [], ◌∷◌, map}
use native.Mathlib.Omega.{arith}
use lib.ListN.{length, get_or, take, drop, length-drop}
use lib.Seq.{length-take-le}
use denote.MutBor.{MutBor}
use Rattle.definition.specs.Instructions.{Instruction, words, decorate, member_decorate, type_op, type_void, type_array, type_runtime_array, type_pointer, constant_true, constant_false, constant_null, constant_op, constant_composite, variable}
use Rattle.std.specs.Prelude.{Option, None, Some, option_map}
use Rattle.spirv.specs.Put.{Put}
use Rattle.spirv.specs.Ids.{low}
use Rattle.std.proofs.lemmas.List.{length-map}
use Rattle.spirv.proofs.Ids.{low_words}
use Rattle.spirv.proofs.Puts as Puts
use Rattle.writer.specs.declared.Used.{Used}
use Rattle.writer.specs.declared.Writer.{Writer}
use Rattle.writer.specs.Regions.{parts_at, Section, names, annotations, declarations, more}
use Rattle.writer.specs.Cost.{staging, declaring, section_words}
use Rattle.writer.specs.Held.{WordsFit, RoomIn, RoomFor}
use Rattle.writer.specs.Steps.{Spells, staged, Puts as PutsOne}
use Rattle.writer.proofs.Words.{end_of, put_few, put_one}

-- there is room for them
pub room_for : (b : Section) {n : ℕ} {i : Instruction} {ws : List ℕ} {u : Used} {S : List ℕ} → Spells n i ws → WordsFit (section_words b n) u S → WordsFit (section_words b (length ws)) u S
room_for names k room = let f = k.few in omega arith
room_for annotations k room = let f = k.few in omega arith
room_for declarations k room = let f = k.few in omega arith

-- ---- annotations

pub decorates : (t d : ℕ) (xs : List ℕ) {x : ℕ} → x ≡ low t → d < 4294967296 → length xs ≤ 8 → ((i : ℕ) → get_or xs i 0 < 4294967296) → Spells (length xs + 3) (decorate t d xs) (words (decorate x d xs))
unfolding words
decorates t d xs e hd few h =
    let f : low (65536 * suc (suc (suc (length xs))) + 71) ≡ 65536 * suc (suc (suc (length xs))) + 71 = omega arith in
    let p = sym e in
    let q : low d ≡ d = omega arith in
    let r = low_words xs h in
    record { few = omega arith; spelt = λ j. f j ∷ p j ∷ q j ∷ r j }

pub decorates_member : (t i d : ℕ) (xs : List ℕ) {x : ℕ} → x ≡ low t → i < 4294967296 → d < 4294967296 → length xs ≤ 8 → ((i : ℕ) → get_or xs i 0 < 4294967296) → Spells (length xs + 4) (member_decorate t i d xs) (words (member_decorate x i d xs))
unfolding words
decorates_member t i d xs e hi hd few h =
    let f : low (65536 * suc (suc (suc (suc (length xs)))) + 72) ≡ 65536 * suc (suc (suc (suc (length xs)))) + 72 = omega arith in
    let p = sym e in
    let o : low i ≡ i = omega arith in
    let q : low d ≡ d = omega arith in
    let r = low_words xs h in
    record { few = omega arith; spelt = λ j. f j ∷ p j ∷ o j ∷ q j ∷ r j }

-- ---- declarations

pub void : (id : ℕ) {id' : ℕ} → id' ≡ low id → Spells 2 (type_void id) (words (type_void id'))
unfolding words
void id hid =
    let eid = sym hid in
    record { few = omega arith; spelt = λ j. 131091 ∷ eid j ∷ [] }

pub array : (id element size : ℕ) {id' element' size' : ℕ} → id' ≡ low id → element' ≡ low element → size' ≡ low size → Spells 4 (type_array id element size) (words (type_array id' element' size'))
unfolding words
array id element size hid helement hsize =
    let eid = sym hid in
    let eelement = sym helement in
    let esize = sym hsize in
    record { few = omega arith; spelt = λ j. 262172 ∷ eid j ∷ eelement j ∷ esize j ∷ [] }

pub runtime_array : (id element : ℕ) {id' element' : ℕ} → id' ≡ low id → element' ≡ low element → Spells 3 (type_runtime_array id element) (words (type_runtime_array id' element'))
unfolding words
runtime_array id element hid helement =
    let eid = sym hid in
    let eelement = sym helement in
    record { few = omega arith; spelt = λ j. 196637 ∷ eid j ∷ eelement j ∷ [] }

pub pointer : (id class base : ℕ) {id' base' : ℕ} → id' ≡ low id → class < 4294967296 → base' ≡ low base → Spells 4 (type_pointer id class base) (words (type_pointer id' class base'))
unfolding words
pointer id class base hid hclass hbase =
    let eid = sym hid in
    let eclass : low class ≡ class = omega arith in
    let ebase = sym hbase in
    record { few = omega arith; spelt = λ j. 262176 ∷ eid j ∷ eclass j ∷ ebase j ∷ [] }

pub is_true : (ty id : ℕ) {ty' id' : ℕ} → ty' ≡ low ty → id' ≡ low id → Spells 3 (constant_true ty id) (words (constant_true ty' id'))
unfolding words
is_true ty id hty hid =
    let ety = sym hty in
    let eid = sym hid in
    record { few = omega arith; spelt = λ j. 196649 ∷ ety j ∷ eid j ∷ [] }

pub is_false : (ty id : ℕ) {ty' id' : ℕ} → ty' ≡ low ty → id' ≡ low id → Spells 3 (constant_false ty id) (words (constant_false ty' id'))
unfolding words
is_false ty id hty hid =
    let ety = sym hty in
    let eid = sym hid in
    record { few = omega arith; spelt = λ j. 196650 ∷ ety j ∷ eid j ∷ [] }

pub null : (ty id : ℕ) {ty' id' : ℕ} → ty' ≡ low ty → id' ≡ low id → Spells 3 (constant_null ty id) (words (constant_null ty' id'))
unfolding words
null ty id hty hid =
    let ety = sym hty in
    let eid = sym hid in
    record { few = omega arith; spelt = λ j. 196654 ∷ ety j ∷ eid j ∷ [] }

pub one_word : (ty id value : ℕ) {ty' id' : ℕ} → ty' ≡ low ty → id' ≡ low id → value < 4294967296 → Spells 4 (constant_op ty id (value ∷ [])) (words (constant_op ty' id' (value ∷ [])))
unfolding words
one_word ty id value hty hid hvalue =
    let ety = sym hty in
    let eid = sym hid in
    let evalue : low value ≡ value = omega arith in
    record { few = omega arith; spelt = λ j. 262187 ∷ ety j ∷ eid j ∷ evalue j ∷ [] }

pub two_words_lem : (ty id a b : ℕ) {ty' id' : ℕ} → ty' ≡ low ty → id' ≡ low id → a < 4294967296 → b < 4294967296 → Spells 5 (constant_op ty id (a ∷ b ∷ [])) (words (constant_op ty' id' (a ∷ b ∷ [])))
unfolding words
two_words_lem ty id a b hty hid ha hb =
    let ety = sym hty in
    let eid = sym hid in
    let ea : low a ≡ a = omega arith in
    let eb : low b ≡ b = omega arith in
    record { few = omega arith; spelt = λ j. 327723 ∷ ety j ∷ eid j ∷ ea j ∷ eb j ∷ [] }

-- a type whose operands are ids: a struct, a function type
pub type_of_lem : (op : ℕ) → op < 65536 → (id : ℕ) (xs : List ℕ) {x : ℕ} → x ≡ low id → length xs < 65000 → Spells (length xs + 2) (type_op op id xs) (words (type_op op x (map low xs)))
unfolding words
type_of_lem op small id xs e few =
    let l = length-map xs low in
    let f : low (65536 * suc (suc (length xs)) + op) ≡ 65536 * suc (suc (length (map low xs))) + op = omega (arith, l) in
    let p = sym e in
    record { few = omega (arith, l); spelt = λ j. f j ∷ p j ∷ map low xs }

pub composite_of_lem : (ty id : ℕ) (xs : List ℕ) {ty' id' : ℕ} → ty' ≡ low ty → id' ≡ low id → length xs < 65000 → Spells (length xs + 3) (constant_composite ty id xs) (words (constant_composite ty' id' (map low xs)))
unfolding words
composite_of_lem ty id xs e g few =
    let l = length-map xs low in
    let f : low (65536 * suc (suc (suc (length xs))) + 44) ≡ 65536 * suc (suc (suc (length (map low xs)))) + 44 = omega (arith, l) in
    let p = sym e in
    let q = sym g in
    record { few = omega (arith, l); spelt = λ j. f j ∷ p j ∷ q j ∷ map low xs }

pub variable_of : (ty id class : ℕ) (o : Option ℕ) {ty' id' : ℕ} → ty' ≡ low ty → id' ≡ low id → class < 4294967296 → Spells 5 (variable ty id class o) (words (variable ty' id' class (option_map low o)))
unfolding words
variable_of ty id class None e g h =
    let p = sym e in
    let q = sym g in
    let r : low class ≡ class = omega arith in
    record { few = omega arith; spelt = λ j. 262203 ∷ p j ∷ q j ∷ r j ∷ [] }
variable_of ty id class (Some x) e g h =
    let p = sym e in
    let q = sym g in
    let r : low class ≡ class = omega arith in
    record { few = omega arith; spelt = λ j. 327739 ∷ p j ∷ q j ∷ r j ∷ low x ∷ [] }

-- ---- an instruction of the n ids that stand behind the parts in use, lent from tables that were taken out and are put back

module _ (f : List ℕ → Instruction) (g : List ℕ → List ℕ) (k n : ℕ) (spells : (xs : List ℕ) → length xs < 65000 → Spells (length xs + k) (f xs) (g xs)) (w : Writer)
    (room : (n < 65000) × RoomIn (staging n) w × RoomFor (declaring (n + k)) w) {t : MutBor (List ℕ)} (same : t ≡ w.tables) {z : List ℕ} {m : ℕ}
    (put : Put (g (take (parts_at w.used + w.used.parts + n - (parts_at w.used + w.used.parts)) (drop (parts_at w.used + w.used.parts) t.now))) (Puts.part w.sections.now (end_of declarations w.used)) z m) where
  spells_staged : Spells (n + k) (f (staged n w)) (g (take (parts_at w.used + w.used.parts + n - (parts_at w.used + w.used.parts)) (drop (parts_at w.used + w.used.parts) t.now)))
  spells_staged =
      let at = parts_at w.used + w.used.parts in
      let xs = staged n w in
      let rows = room.1 in
      let l : length xs ≡ n = length-take-le n (drop at w.tables.now) (simp length-drop (omega arith)) in
      let e : at + n - at ≡ n = omega arith in
      let s : Spells (length xs + k) (f xs) (g xs) = spells xs (omega (arith, l, room.0)) in
      subst (λ (ys : List ℕ). Spells (n + k) (f xs) (g ys)) (sym (λ j. take (e j) (drop at (same j).now)))
      (subst (λ (i : ℕ). Spells (i + k) (f xs) (g xs)) l s)

  pub staged_few : m ≤ n + k
  staged_few = put_few declarations spells_staged w room.2 put

  pub put_staged : PutsOne declarations (n + k) (f (staged n w)) w (record w { tables = t; sections = record w.sections { now = Puts.back w.sections.now (end_of declarations w.used) z }; used = more declarations w.used m })
  put_staged =
      subst (λ (y : MutBor (List ℕ)). PutsOne declarations (n + k) (f (staged n w)) w (record w { tables = y; sections = record w.sections { now = Puts.back w.sections.now (end_of declarations w.used) z }; used = more declarations w.used m }))
      (sym same) (put_one declarations spells_staged w room.2 put tt)
