-- What the rules work on: the ids taken, the tables, and the module's sections. It is only added to.
use Rattle.std.specs.Prelude.{ℕ, suc, zero, ◌+◌, List, [], ◌∷◌, ◌++◌, ◌≡◌, refl, eqb}
use Rattle.std.specs.Prelude.{Option, Some, None}
use Rattle.std.proofs.Math.Decide.{ℕ_discrete}
use Rattle.std.proofs.Common.{arith}
use Rattle.definition.specs.Choice.{pick, or_else}
use Rattle.definition.specs.Literals.{Literal}
use Rattle.definition.specs.Instructions.{Instruction, capability, header, all_words}
use Rattle.definition.specs.Shapes.{Kind, Key, same_key, entry}

-- ---- constants: "A composite is shared by type key (entry index, or shape for a Splat) and parts; a null by type id"

-- what is shared by ids: a composite, and by paper 2 ("Two records with equal return id and equal parameter ids share one id") a
-- function type, its return id first, and void, of which there is one
pub data Composite : Type 0 where
  composite : Key → List ℕ → Composite
  function : List ℕ → Composite
  void : Composite
  deriving Discrete as Composite-discrete

unfoldable pub same_numbers : Discrete (List ℕ)
same_numbers [] [] = yes refl
same_numbers [] (y ∷ ys) = no (λ e. let z : ◌≡◌ {A = ℕ} 0 1 = cc in omega arith)
same_numbers (x ∷ xs) [] = no (λ e. let z : ◌≡◌ {A = ℕ} 0 1 = cc in omega arith)
same_numbers (x ∷ xs) (y ∷ ys) = both (ℕ_discrete x y) (same_numbers xs ys)
  where
    both : Dec (x ≡ y) → Dec (xs ≡ ys) → Dec (x ∷ xs ≡ y ∷ ys)
    both (yes p) (yes q) = yes (cc)
    both (yes p) (no q) = no (λ e. q (cc))
    both (no p) d = no (λ e. p (cc))

unfoldable pub same_composite : Discrete Composite
same_composite = Composite-discrete same_key same_numbers

-- a constant of the sheet: its id, its type's id, and its kind where a Splat may repeat it
pub record Valued : Type 0 where
  pub id : ℕ
  pub type : ℕ
  pub kind : Option Kind

-- literals, composites (function types and void among them) and nulls in order of entry, each with its id; the sheet's constants
-- in its order
pub record Constants : Type 0 where
  pub literals : List (Literal × ℕ)
  pub composites : List (Composite × ℕ)
  pub nulls : List (ℕ × ℕ)
  pub values : List Valued

-- ---- the state: types' keys with their ids in order of entry; "capabilities in order of first use, names, annotations, declarations"

pub record State : Type 0 where
  pub last : ℕ
  pub types : List (Key × ℕ)
  pub constants : Constants
  pub capabilities : List ℕ
  pub names : List Instruction
  pub annotations : List Instruction
  pub declarations : List Instruction

-- "counter at start", "Empty means that no capability is in use yet"
abbrev pub empty : ℕ → State
empty start = record { last = start; types = []; constants = record { literals = []; composites = []; nulls = []; values = [] }; capabilities = []; names = []; annotations = []; declarations = [] }

-- ---- what is done to it

abbrev pub take_id : State → State
take_id s = record { last = suc s.last; types = s.types; constants = s.constants; capabilities = s.capabilities; names = s.names; annotations = s.annotations; declarations = s.declarations }

abbrev pub enter : Key → ℕ → State → State
enter k id s = record { last = s.last; types = s.types ++ (k, id) ∷ []; constants = s.constants; capabilities = s.capabilities; names = s.names; annotations = s.annotations; declarations = s.declarations }

abbrev pub with_constants : Constants → State → State
with_constants cs s = record { last = s.last; types = s.types; constants = cs; capabilities = s.capabilities; names = s.names; annotations = s.annotations; declarations = s.declarations }

abbrev pub annotate : Instruction → State → State
annotate i s = record { last = s.last; types = s.types; constants = s.constants; capabilities = s.capabilities; names = s.names; annotations = s.annotations ++ i ∷ []; declarations = s.declarations }

abbrev pub label : Instruction → State → State
label i s = record { last = s.last; types = s.types; constants = s.constants; capabilities = s.capabilities; names = s.names ++ i ∷ []; annotations = s.annotations; declarations = s.declarations }

-- how often a number stands in a list
abbrev pub same : ℕ → ℕ → ℕ
same a b = pick (eqb a b) 1 0

unfoldable pub occurrences : ℕ → List ℕ → ℕ
occurrences c [] = 0
occurrences c (x ∷ xs) = same c x + occurrences c xs

-- a capability is listed at its first use
abbrev pub list_one : ℕ → ℕ → List ℕ → List ℕ
list_one zero c cs = cs ++ c ∷ []
list_one (suc n) c cs = cs

unfoldable pub listed : List ℕ → List ℕ → List ℕ
listed [] cs = cs
listed (x ∷ xs) cs = listed xs (list_one (occurrences x cs) x cs)

-- an instruction is declared, and uses capabilities
abbrev pub declare_with : List ℕ → Instruction → State → State
declare_with cs i s = record { last = s.last; types = s.types; constants = s.constants; capabilities = listed cs s.capabilities; names = s.names; annotations = s.annotations; declarations = s.declarations ++ i ∷ [] }

abbrev pub declare_alone : Instruction → State → State
declare_alone i s = declare_with [] i s

-- ---- what is looked up in it

-- the first entry under a key ("arrays searched in order of entry")
unfoldable pub lookup : {A : Type 0} → Discrete A → A → List (A × ℕ) → Option ℕ
lookup alike k [] = None
lookup alike k (x ∷ xs) = elim (alike k x.0) [ yes p ↦ Some x.1 | no p ↦ lookup alike k xs ]

-- the id of a key that is entered
abbrev pub id_of : State → Key → Option ℕ
id_of s k = lookup same_key k s.types

-- the ids of types that were read, by their indexes
abbrev pub entry_id : State → ℕ → ℕ
entry_id s t = or_else 0 (id_of s (entry t))

unfoldable pub entry_ids : State → List ℕ → List ℕ
entry_ids s [] = []
entry_ids s (t ∷ ts) = entry_id s t ∷ entry_ids s ts

-- an id, and the state in which it is declared
pub record Got : Type 0 where
  pub id : ℕ
  pub state : State

abbrev pub got : ℕ → State → Got
got i s = record { id = i; state = s }

-- ---- the module: "Header .. Then capabilities in order of first use, names, annotations, declarations."

unfoldable pub capability_instructions : List ℕ → List Instruction
capability_instructions [] = []
capability_instructions (c ∷ cs) = capability c ∷ capability_instructions cs

unfoldable pub instructions : State → List Instruction
instructions s = capability_instructions s.capabilities ++ (s.names ++ (s.annotations ++ s.declarations))

-- "bound (last id plus 1)"
abbrev pub bound_of : State → ℕ
bound_of s = suc s.last

unfoldable pub module_words : State → List ℕ
module_words s = header (bound_of s) ++ all_words (instructions s)
