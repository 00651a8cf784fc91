-- Laws of the answers: the bytes that the program holds of an input decide the answer, as a longer input has more words than
-- there is room for; and the count of a list lies within the buffer.
use Prim.Native.Nat.{ℕ, ◌*◌, ◌≤◌, ◌<◌}
use mathlib.Core.Path.{◌≡◌, refl, sym, ap, ◌∙◌}
use mathlib.Core.Bool.{Bool, true, false}
use mathlib.Core.List.{List}
use Rattle.std.specs.Prelude.{Option, Some, None}
use native.Mathlib.Omega.{arith}
use lib.Dec.{leb}
use lib.ListN.{length, take, replicate, length-append, length-replicate}
use lib.Seq.{take_all, length-take-le}
use borrow.Author.Tests.{leb-true, leb-false, lt-leb, le-leb}
use Rattle.definition.specs.Choice.{pick}
use Rattle.definition.specs.Instructions.{put, fits}
use Rattle.definition.specs.Tests.{Judged, refused, fit}
use Rattle.definition.specs.Listing.{Listing, Listed, Relisted, relisted_of, list_of, list}
use Rattle.list_main.specs.Answers.{text_words, binary_words, is_binary, words_most, at_most, words_of, answer_of, answer_to, ListWithin}
use Rattle.list_main.specs.Words.{OfCount}
use Rattle.list_main.specs.Forms.{weaken, text_counted, binary_counted}

-- ---- an input by its length

too_many : (o : Option (List ℕ)) → OfCount (λ (n : ℕ). words_most < n) o → at_most words_most o ≡ None
too_many None h = refl
too_many (Some ws) h = simp (lt-leb (length ws) words_most h)

few : (o : Option (List ℕ)) → OfCount (λ (n : ℕ). n ≤ words_most) o → at_most words_most o ≡ o
few None h = refl
few (Some ws) h = simp (le-leb (length ws) words_most h)

module _ (s : List ℕ) where
  module _ (e : is_binary s ≡ true) where
    pub long_binary : 262144 < length s → words_of s ≡ None
    long_binary h = rw e (too_many (binary_words s) (weaken (λ (n : ℕ). length s ≡ 4 * n) (λ (n : ℕ). words_most < n) (λ n q. omega arith) (binary_words s) (binary_counted s)))

    pub short_binary : length s ≤ 262144 → words_of s ≡ binary_words s
    short_binary h = rw e (few (binary_words s) (weaken (λ (n : ℕ). length s ≡ 4 * n) (λ (n : ℕ). n ≤ words_most) (λ n q. omega arith) (binary_words s) (binary_counted s)))

  module _ (e : is_binary s ≡ false) where
    pub long_text : 589824 < length s → words_of s ≡ None
    long_text h = rw e (too_many (text_words s) (weaken (λ (n : ℕ). length s ≡ 9 * n) (λ (n : ℕ). words_most < n) (λ n q. omega arith) (text_words s) (text_counted s)))

    pub short_text : length s ≤ 589824 → words_of s ≡ text_words s
    short_text h = rw e (few (text_words s) (weaken (λ (n : ℕ). length s ≡ 9 * n) (λ (n : ℕ). n ≤ words_most) (λ n q. omega arith) (text_words s) (text_counted s)))

-- ---- the bytes that the program holds of an input decide the answer

long : (s : List ℕ) → 589824 < length s → words_of s ≡ None
long s h = by (is_binary s) refl
  where
    by : (t : Bool) → is_binary s ≡ t → words_of s ≡ None
    by true e = long_binary s e (omega arith)
    by false e = long_text s e h

-- however long the input is
abbrev pub held : List ℕ → List ℕ
held s = take 589825 s

words_held : (s : List ℕ) → words_of (held s) ≡ words_of s
words_held s = by (leb (length s) 589825) refl
  where
    by : (t : Bool) → leb (length s) 589825 ≡ t → words_of (held s) ≡ words_of s
    by true e = ap words_of (take_all 589825 s (leb-true (length s) 589825 e))
    by false e =
        let h = leb-false (length s) 589825 e in
        long (held s) (omega (arith, length-take-le 589825 s (omega arith))) ∙ sym (long s (omega arith))

pub answer_held : (s : List ℕ) → answer_to (held s) ≡ answer_to s
answer_held s = ap answer_of (words_held s)

-- ---- a buffer is as long as it is made

pub as_long : (n x : ℕ) → n ≤ length (replicate n x)
as_long n x = omega (arith, length-replicate n x)

-- ---- the list's words lie within the buffer

abbrev Within : Relisted → Type 0
Within d = ListWithin d.answer d.buffer

listed : (l b : List ℕ) (t : Bool) → fits l b ≡ t
    → Within (pick t (record { answer = Listed (length l); buffer = put l b }) (record { answer = Listing.Refused 16; buffer = b }))
unfolding put
listed l b true e =
    let h = leb-true (length l) (length b) e in
    simp (e, length-append) (omega arith)
listed l b false e = tt

judging : (b : List ℕ) (j : Judged (List ℕ)) → Within (relisted_of b j)
judging b (refused n) = tt
judging b (fit l) = listed l b (fits l b) refl

pub counted : (ws b : List ℕ) → Within (list ws b)
unfolding list
counted ws b = judging b (list_of ws)
