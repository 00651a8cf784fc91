-- Each number says the answer that it was made from, of the answers that the operations give: a bound is not 0, a word count has 32
-- bits, 0, 256 and 257 are no refusals, and
-- no refusal reaches 256.
use Prim.Native.Nat.{ℕ, ◌+◌, ◌*◌, ◌-◌, ◌/◌, ◌%◌, ◌<◌, ◌≤◌}
use mathlib.Core.Path.{◌≡◌, refl, sym, ap, ◌∙◌, subst}
use mathlib.Core.Bool.{Bool, true, false}
use mathlib.Core.Logic.{◌⊎◌, inl, inr}
use mathlib.Core.List.{List}
use native.Mathlib.Omega.{arith}
use borrow.Author.Tests.{lt-ltb, le-ltb, ne_eqb}
use lib.ListN.{length}
use Rattle.definition.specs.Answered.{Whole, Unchanged, Refusal}
use Rattle.definition.specs.Listing.{Listing, Listed, Relisted, WholeList, Unlisted, ListRefusal}
use Rattle.definition.specs.Operations.{Verdict, Answer, Written, Declared, Wrapping, Wraps}
use Rattle.std.specs.Prelude.{Result}
use Rattle.refusals.specs.declared.Refusal.{Refusal as RefusedBy}
use Rattle.module_layout.specs.declared.Module.{Module}
use Rattle.module_layout.specs.Finished.{answer_of, declared_as}
use Rattle.declarations.specs.Promise.{DeclarePromise, CheckPromise, WrappedPromise, verdict_as, wrapping_as}
use Rattle.listing.specs.Promise.{ListPromise, listing_as, relisted_as}
use Rattle.exports.specs.Numbers.{verdict_number, answer_number, wrapping_number, listing_number, LengthFits, verdict_in, answer_in, wrapping_in, listing_in, declared_in, relisted_in, CheckExported, DeclareExported, WrappedExported, ListExported}

-- ---- Check

check_says : (v : Verdict) → (v ≡ Verdict.Fit) ⊎ ((n : ℕ) × Refusal n × (v ≡ Verdict.Refused n)) → verdict_in (verdict_number v) ≡ v
check_says v (inl e) = rw e refl
check_says v (inr q) = rw (q.2, ne_eqb q.0 0 (λ e. omega (arith, q.1.0))) refl

pub check_exported : (s : List ℕ) (v : Result (Unit {0}) RefusedBy) (n : ℕ) → n ≡ verdict_number (verdict_as v) → CheckPromise s v → CheckExported s n
check_exported s v n e p =
    let q : verdict_in n ≡ verdict_as v = ap verdict_in e ∙ check_says (verdict_as v) p.answered in
    record { answered = rw q p.answered; same = q ∙ p.same }

-- ---- Declare

written_says : (count bound : ℕ) → count < 4294967296 → 1 ≤ bound → answer_in (answer_number (Written count bound)) ≡ Written count bound
written_says count bound c b =
    let n = 4294967296 * bound + count % 4294967296 in
    let l : 4294967296 ≤ n = omega arith in
    let lo : n % 4294967296 ≡ count = omega arith in
    let hi : n / 4294967296 ≡ bound = omega arith in
    rw (le-ltb n 4294967296 l, lo, hi) refl

refused_says : (n : ℕ) → n ≤ 16 → answer_in (answer_number (Answer.Refused n)) ≡ Answer.Refused n
refused_says n l = rw (lt-ltb n 4294967296 (omega arith)) refl

number_says : (s b : List ℕ) (r : Result Module RefusedBy) (after : List ℕ) → DeclarePromise s b r after → answer_in (answer_number (answer_of r)) ≡ answer_of r
number_says s b r after p = go p.answered
  where
    few : {n : ℕ} → Refusal n ⊎ (n ≡ 16) → n ≤ 16
    few (inl h) = omega (arith, h.1)
    few (inr e) = omega arith

    go : Whole s b (declared_as r after) ⊎ Unchanged b (declared_as r after) → answer_in (answer_number (answer_of r)) ≡ answer_of r
    go (inl w) = subst (λ (a : Answer). answer_in (answer_number a) ≡ a) (sym w.answer) (written_says _ _ (p.counted _ _ w.answer) (omega arith))
    go (inr u) = subst (λ (a : Answer). answer_in (answer_number a) ≡ a) (sym u.answer) (refused_says u.number (few u.known))

pub declare_exported : (s b : List ℕ) (r : Result Module RefusedBy) (n : ℕ) (after : List ℕ) → n ≡ answer_number (answer_of r) → DeclarePromise s b r after → DeclareExported s b n after
declare_exported s b r n after e p =
    let q : answer_in n ≡ answer_of r = ap answer_in e ∙ number_says s b r after p in
    let d : declared_in n after ≡ declared_as r after = λ i. record { answer = q i; buffer = after } in
    record {
      answered = subst (λ (x : Declared). Whole s b x ⊎ Unchanged b x) (sym d) p.answered;
      same = d ∙ p.same;
      accepted = λ count bound w. p.accepted count bound (sym q ∙ w);
    }

-- ---- Wrapped

yes_or_no : (y : Bool) → wrapping_in (wrapping_number (Wraps y)) ≡ Wraps y
yes_or_no true = refl
yes_or_no false = refl

wrapping_says : (w : Wrapping) → ((y : Bool) × (w ≡ Wraps y)) ⊎ ((n : ℕ) × (Refusal n ⊎ (n ≡ 17)) × (w ≡ Wrapping.Refused n)) → wrapping_in (wrapping_number w) ≡ w
wrapping_says w (inl q) = subst (λ (x : Wrapping). wrapping_in (wrapping_number x) ≡ x) (sym q.1) (yes_or_no q.0)
wrapping_says w (inr q) = let l : q.0 ≤ 17 = few q.1 in rw (q.2, ne_eqb q.0 256 (λ e. omega arith), ne_eqb q.0 257 (λ e. omega arith)) refl
  where
    few : {n : ℕ} → Refusal n ⊎ (n ≡ 17) → n ≤ 17
    few (inl h) = omega (arith, h.1)
    few (inr e) = omega arith

pub wrapped_exported : (s : List ℕ) (index : ℕ) (w : Result Bool RefusedBy) (n : ℕ) → n ≡ wrapping_number (wrapping_as w) → WrappedPromise s index w → WrappedExported s index n
wrapped_exported s index w n e p =
    let q : wrapping_in n ≡ wrapping_as w = ap wrapping_in e ∙ wrapping_says (wrapping_as w) p.answered in
    record { answered = rw q p.answered; same = q ∙ p.same }

-- ---- List

-- the list lies within the buffer, whose length has 61 bits
pub length_fits : (ws b : List ℕ) (r : Result ℕ RefusedBy) (after : List ℕ) → length b < 9223372036854775808 → ListPromise ws b r after → LengthFits (listing_as r)
length_fits ws b r after h p = go (listing_as r) p.answered
  where
    go : (a : Listing) → WholeList ws b (record { answer = a; buffer = after }) ⊎ Unlisted b (record { answer = a; buffer = after }) → LengthFits a
    go (Listed n) (inl w) = let q : n ≡ length w.whole = cc in omega (arith, w.room)
    go (Listed n) (inr u) = let z : ◌≡◌ {A = ℕ} 0 1 = cc in absurd (omega arith)
    go (Listing.Refused n) a = tt

listing_says : (a : Listing) → ((n : ℕ) × (a ≡ Listed n)) ⊎ ((n : ℕ) × (ListRefusal n ⊎ (n ≡ 16)) × (a ≡ Listing.Refused n)) → listing_in (listing_number a) ≡ a
listing_says a (inl q) = let e : 256 + q.0 - 256 ≡ q.0 = omega arith in rw (q.1, le-ltb (256 + q.0) 256 (omega arith), e) refl
listing_says a (inr q) = rw (q.2, lt-ltb q.0 256 (omega (arith, few q.1))) refl
  where
    few : {n : ℕ} → ListRefusal n ⊎ (n ≡ 16) → n ≤ 20
    few (inl (inl e)) = omega arith
    few (inl (inr (inl e))) = omega arith
    few (inl (inr (inr e))) = omega arith
    few (inr e) = omega arith

pub list_exported : (ws b : List ℕ) (r : Result ℕ RefusedBy) (n : ℕ) (after : List ℕ) → n ≡ listing_number (listing_as r) → ListPromise ws b r after → ListExported ws b n after
list_exported ws b r n after e p =
    let q : listing_in n ≡ listing_as r = ap listing_in e ∙ listing_says (listing_as r) (cases p.answered) in
    let d : relisted_in n after ≡ relisted_as r after = λ i. record { answer = q i; buffer = after } in
    record {
      answered = subst (λ (x : Relisted). WholeList ws b x ⊎ Unlisted b x) (sym d) p.answered;
      same = d ∙ p.same;
      joins = λ count w. p.joins count (sym q ∙ w);
      takes = p.takes;
    }
  where
    cases : WholeList ws b (relisted_as r after) ⊎ Unlisted b (relisted_as r after)
        → ((m : ℕ) × (listing_as r ≡ Listed m)) ⊎ ((m : ℕ) × (ListRefusal m ⊎ (m ≡ 16)) × (listing_as r ≡ Listing.Refused m))
    cases (inl w) = inl (length w.whole, w.answer)
    cases (inr u) = inr (u.number, u.known, u.answer)
