-- What is held of the records that were read, and what is held after one more.
use Rattle.std.specs.Prelude.{ℕ, ◌+◌, ◌<◌, ◌≡◌, List, eqb, length, set, Some, None}
use Rattle.definition.specs.Choice.{pick}
use Rattle.definition.specs.Sheet.{Function, tag_rank}
use Rattle.definition.specs.Tests.{reading_test, add_record, types_most}
use Rattle.records.specs.Places.{Places, places_of, seen_of, record_from, Ample, WithinLimits}
use Rattle.records.specs.declared.Counts.{Counts}
use Rattle.sheet.specs.Hash.{Hashed}
use Rattle.sheet.specs.declared.holding.Holding.{Holding}

-- the places that are held
abbrev pub places_in : Holding → Places
places_in h = places_of h.remaps.now h.types.now h.constants.now h.globals.now

-- it holds the same sheet, and its places in the same slices, which are as long as before
pub record SameHeld (h g : Holding) : Type 0 where
  pub sheet : g.sheet.now ≡ h.sheet.now
  pub remaps : g.remaps.ghost_name ≡ h.remaps.ghost_name
  pub types : g.types.ghost_name ≡ h.types.ghost_name
  pub constants : g.constants.ghost_name ≡ h.constants.ghost_name
  pub globals : g.globals.ghost_name ≡ h.globals.ghost_name
  pub remaps_long : length g.remaps.now ≡ length h.remaps.now
  pub types_long : length g.types.now ≡ length h.types.now
  pub constants_long : length g.constants.now ≡ length h.constants.now
  pub globals_long : length g.globals.now ≡ length h.globals.now

-- before the first record
abbrev pub no_counts : Counts
no_counts = record { rank = 0; available = None; remaps = 0; types = 0; functions = 0; constants = 0; globals = 0 }

-- a type's place and hash, as the n-th
abbrev pub type_noted : List ℕ → ℕ → ℕ → ℕ → List ℕ
type_noted ts n at h = set (set ts n at) (types_most + n) h

-- after a record of rank r and hash h at a place: the place is kept in the list of its kind, and a type's hash; of a function nothing
unfoldable pub noted_at : Places → Counts → ℕ → ℕ → ℕ → Places
noted_at p k r at h = record {
  remaps = pick (eqb r 2) (set p.remaps k.remaps at) p.remaps;
  types = pick (eqb r 3) (type_noted p.types k.types at h) p.types;
  constants = pick (eqb r 5) (set p.constants k.constants at) p.constants;
  globals = pick (eqb r 6) (set p.globals k.globals at) p.globals;
}

-- and its kind's count rises
unfoldable pub add_counts : Counts → ℕ → ℕ → Counts
add_counts k r at = record {
  rank = r;
  available = pick (eqb r 1) (Some at) k.available;
  remaps = pick (eqb r 2) (k.remaps + 1) k.remaps;
  types = pick (eqb r 3) (k.types + 1) k.types;
  functions = pick (eqb r 4) (k.functions + 1) k.functions;
  constants = pick (eqb r 5) (k.constants + 1) k.constants;
  globals = pick (eqb r 6) (k.globals + 1) k.globals;
}

-- the record at a place passed its tests, after what is held in p and k and some functions, as many as k says
pub record PassedAt (s : List ℕ) (p : Places) (k : Counts) (at : ℕ) : Type 0 where
  pub ample : Ample p
  pub few : WithinLimits k
  pub hashed : Hashed s p.types k.types
  pub small : at < 4294967296
  pub functions : List Function
  pub counted : length functions ≡ k.functions
  pub tested : reading_test (seen_of s p k functions) (record_from s at) ≡ 0

-- what is then held in p' and k' is what was held, with the record added, whichever functions were read before
pub record RecordHeld (s : List ℕ) (p : Places) (k : Counts) (at : ℕ) (p' : Places) (k' : Counts) : Type 0 where
  pub ample : Ample p'
  pub few : WithinLimits k'
  pub hashed : Hashed s p'.types k'.types
  pub counts : k' ≡ add_counts k (tag_rank (record_from s at).tag) at
  pub functions : (fs : List Function) → length fs ≡ k.functions → length (add_record (seen_of s p k fs) (record_from s at)).functions ≡ k'.functions
  pub seen : (fs : List Function) → seen_of s p' k' (add_record (seen_of s p k fs) (record_from s at)).functions ≡ add_record (seen_of s p k fs) (record_from s at)
