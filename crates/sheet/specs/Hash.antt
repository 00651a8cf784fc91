-- A type's hash: a number of 32 bits that equal types have in common, so that types whose hashes differ need not be compared. It is
-- kept beside the type's place. Which number it is decides nothing but how long test 12 takes.
use Rattle.std.specs.Prelude.{ℕ, zero, suc, ◌+◌, ◌*◌, ◌/◌, ◌%◌, ◌≤◌, ◌<◌, ◌≡◌, List, length, get_or}
use Rattle.definition.specs.Bytes.{u32_at}
use Rattle.definition.specs.Sheet.{Record, tag_rank}
use Rattle.definition.specs.Tests.{types_most}
use Rattle.records.specs.Places.{record_from}
use Rattle.records.specs.declared.Earlier.{Earlier}

-- one word more
abbrev pub hash_step : ℕ → ℕ → ℕ
hash_step h w = (h * 2654435761 + w) % 4294967296

-- the first n words of a body, behind h
unfoldable pub hash_words : List ℕ → ℕ → ℕ → ℕ
hash_words b h zero = h
hash_words b h (suc n) = hash_step (hash_words b h n) (u32_at b (4 * n))

-- the tag, then all words of the body, the last of them filled up with zeros
abbrev pub hash_of : Record → ℕ
hash_of r = hash_words r.body r.tag (length r.body / 4 + 1)

-- h is the hash of a record that is a type; of any other it says nothing
abbrev pub HashFor : Record → ℕ → Type 0
HashFor r h = tag_rank r.tag ≡ 3 → h ≡ hash_of r

-- behind the places of the first n types stand their hashes
abbrev pub Hashed : List ℕ → List ℕ → ℕ → Type 0
Hashed s ts n = (i : ℕ) → i < n → get_or ts (types_most + i) 0 ≡ hash_of (record_from s (get_or ts i 0))

-- hs are the hashes of the types of e, one of each
pub record HashesOf (e : Earlier) (hs : List ℕ) : Type 0 where
  pub long : length hs ≡ length e.places.now
  pub each : (i : ℕ) → i < length hs → get_or hs i 0 ≡ hash_of (record_from e.sheet.now (get_or e.places.now i 0))

-- none of the hashes from i to r is h
abbrev pub Unlike : List ℕ → ℕ → ℕ → ℕ → Type 0
Unlike hs h i r = (j : ℕ) → i ≤ j → j < r → get_or hs j 0 ≡ h → ⊥

-- two bodies are not the same
abbrev pub Differ : List ℕ → List ℕ → Type 0
Differ e b = e ≡ b → ⊥
