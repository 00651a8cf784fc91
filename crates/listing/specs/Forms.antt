-- What the instructions of an opcode have in common, and the tests of an instruction by its parts.
use Rattle.std.specs.Prelude.{ℕ, zero, suc, ◌+◌, ◌≡◌, Bool, true, false, List, [], ◌∷◌}
use Rattle.std.specs.Prelude.{Option, Some, None, Result, Ok, Err}
use Rattle.definition.specs.Choice.{pick, unless, within}
use Rattle.definition.specs.Reader.{Layout, layout_of}
use Rattle.definition.specs.Listing.{More, exactly, or_one, or_any, least_of, more_of, words_before, is_written}
use Rattle.refusals.specs.declared.Refusal.{Refusal}
use Rattle.refusals.specs.declared.Refusal.TheVariants.{InstructionForm}
use Rattle.refusals.specs.Numbers.{number_of}
use Rattle.listing.specs.declared.forms.ResultId.{ResultId}
use Rattle.listing.specs.declared.forms.ResultId.TheVariants.{Missing, First, BehindType}
use Rattle.listing.specs.declared.forms.Form.{Form}

-- the fewest words
abbrev pub least_in : Layout → ℕ
least_in l = words_before l.typed l.declares + least_of l.operands

-- the most words, where so many are the fewest: any number more is the largest of a usize
abbrev pub most_as : More → ℕ → ℕ
most_as exactly least = least
most_as or_one least = least + 1
most_as or_any least = 18446744073709551615

-- by whether there is a result type, and an id
abbrev pub result_as : Bool → Bool → ResultId
result_as true true = BehindType
result_as false true = First
result_as true false = Missing
result_as false false = Missing

abbrev pub form_as : Layout → Form
form_as l = record { least = least_in l; most = most_as (more_of l.operands) (least_in l); result = result_as l.typed l.declares }

abbrev pub form_of : ℕ → Option Form
form_of o = pick (layout_of o).known (Some (form_as (layout_of o))) None

-- the forms of k opcodes, from one on
abbrev pub forms_from : ℕ → ℕ → List (Option Form)
forms_from zero o = []
forms_from (suc k) o = form_of o ∷ forms_from k (suc o)

-- those up to OpMemberDecorate
abbrev pub first_forms : List (Option Form)
first_forms = forms_from 73 0

abbrev pub id_words : ResultId → ℕ
id_words Missing = 0
id_words First = 1
id_words BehindType = 1

abbrev pub fits : Form → ℕ → Bool
fits f n = within f.least f.most n

-- tests 19 and 20 of an opcode with n words, where so many are left
abbrev pub instruction_refusal : ℕ → ℕ → ℕ → ℕ
instruction_refusal o n left = unless (within 1 left n) 19 (unless (is_written o n) 20 0)

-- test 20: the form of an opcode that Declare writes with n words
abbrev pub TestedForm : ℕ → ℕ → Result Form Refusal → Type 0
TestedForm o n (Ok f) = (Some f ≡ form_of o) × (is_written o n ≡ true)
TestedForm o n (Err r) = (r ≡ InstructionForm) × (is_written o n ≡ false)

-- both tests: the form where they are passed, or the refusal
abbrev pub Tested : ℕ → ℕ → ℕ → Result Form Refusal → Type 0
Tested o n left (Ok f) = (Some f ≡ form_of o) × (instruction_refusal o n left ≡ 0)
Tested o n left (Err r) = number_of r ≡ instruction_refusal o n left
