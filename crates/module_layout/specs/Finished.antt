-- What the last stage promises of any state that the writer holds.
use Rattle.std.specs.Prelude.{ℕ, ◌+◌, ◌*◌, ◌<◌, ◌≤◌, ◌≡◌, true, List, ◌++◌, length}
use Rattle.definition.specs.Choice.{every}
use Rattle.definition.specs.Instructions.{header, all_words}
use Rattle.definition.specs.Reader.{is_word}
use Rattle.definition.specs.State.{State, bound_of, capability_instructions, module_words}
use Rattle.definition.specs.Tests.{fit}
use Rattle.definition.specs.Operations.{Progress, Declared, bound_most, bound_test, declared_of}
use Rattle.definition.specs.Operations.{Answer as Meant}
use Rattle.spirv.specs.Put.{Put}
use Rattle.writer.specs.Cost.{no_cost}
use Rattle.writer.specs.Held.{HeldIn, WordsFit, Sections, sections_of}
use Rattle.writer.specs.declared.Used.{Used}
use Rattle.writer.specs.declared.Writer.{Writer}
use Rattle.std.specs.Prelude.{Result, Ok, Err}
use Rattle.refusals.specs.declared.Refusal.{Refusal}
use Rattle.refusals.specs.Numbers.{number_of}
use Rattle.module_layout.specs.declared.Module.{Module}

-- ---- document 01's values for each case of the answer

abbrev pub answer_of : Result Module Refusal → Meant
answer_of (Ok m) = Meant.Written m.words m.bound
answer_of (Err r) = Meant.Refused (number_of r)

-- the answer, and the buffer that is left
abbrev pub declared_as : Result Module Refusal → List ℕ → Declared
declared_as r b = record { answer = answer_of r; buffer = b }

-- ---- the module as it lies in the sections

-- how many words it has
abbrev pub module_count : Used → ℕ
module_count u = 5 + 2 * u.capabilities + u.names + u.annotations + u.declarations

-- the header and the four sections, one behind the other
abbrev pub laid_out : ℕ → Sections → List ℕ
laid_out bound c = (((header bound ++ all_words (capability_instructions c.capabilities)) ++ c.names) ++ c.annotations) ++ c.declarations

abbrev pub module_words_in : Used → List ℕ → ℕ → List ℕ
module_words_in u S bound = laid_out bound (sections_of u S)

-- the header and the capabilities were put at the front of a buffer, and n is the place behind them
pub record Front (bound : ℕ) (numbers before after : List ℕ) (n : ℕ) : Type 0 where
  pub written : Put (header bound ++ all_words (capability_instructions numbers)) before after n
  pub next : n ≡ 5 + 2 * length numbers

-- the sections lie in their regions, and these are so small that their lengths add up to a number of the machine's
pub record Roomy (u : Used) (S : List ℕ) : Type 0 where
  pub room : WordsFit no_cost u S
  pub few : u.bytes ≤ 65536

-- ---- the promise: whatever progress is held, answer and buffer are what the definition makes of it

-- once the bound is small, every number of the module has 32 bits; of a fit sheet demand 3 says so
abbrev pub Worded : State → Type 0
Worded s = bound_of s ≤ bound_most → every is_word (module_words s) ≡ true

-- a word count has 32 bits
abbrev pub CountFits : Result Module Refusal → Type 0
CountFits (Ok m) = m.words < 4294967296
CountFits (Err r) = Unit

pub record Finished (w : Writer) (before : List ℕ) (r : Result Module Refusal) (after : List ℕ) : Type 0 where
  pub says : (p : Progress) (T : List ℕ) → HeldIn w.used T w.sections.now p.state → Worded p.state → declared_as r after ≡ declared_of before (bound_test (fit p))
  pub counted : CountFits r
