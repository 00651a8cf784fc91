-- The documents' numbers of the refusals ("Operations and their refusals"; paper 3 has 18 to 20), and of what a test answers.
use Rattle.std.specs.Prelude.{ℕ, Result, Ok, Err}
use Rattle.refusals.specs.declared.Refusal.{Refusal}
use Rattle.refusals.specs.declared.Refusal.TheVariants.{SheetLength, Version, Flags, NoRecord, UnknownTag, OutOfOrder, TooMany, FieldsEnd, Name, Value, Reference, Repeated, Unfit, Unavailable, Bound, BufferLength, NoGlobal, ModuleFront, InstructionLength, InstructionForm}

abbrev pub number_of : Refusal → ℕ
-- "1 under 6 bytes or over 16,384"
number_of SheetLength = 1
-- "2 version byte not 1"
number_of Version = 2
-- "3 a flag bit above bit 1"
number_of Flags = 3
-- "4 fewer than 2 bytes left for a length, length 0, or length past the sheet's end"
number_of NoRecord = 4
-- "5 unknown tag"
number_of UnknownTag = 5
-- "6 a rank lower than the record before, or a second Available"
number_of OutOfOrder = 6
-- "7 one too many of its kind"
number_of TooMany = 7
-- "8 the body ends before its fields or after them"
number_of FieldsEnd = 8
-- "9 a name is not UTF-8 (RFC 3629) or holds a zero byte"
number_of Name = 9
-- "10 a field outside its values"
number_of Value = 10
-- "11 a reference to an entry not already read"
number_of Reference = 11
-- "12 a type equal to an earlier one in name and all fields, or a remap of a group and binding already remapped"
number_of Repeated = 12
-- "13 unfit"
number_of Unfit = 13
-- "14 a capability is needed that the rules check for availability, and it is not available"
number_of Unavailable = 14
-- "15 the bound would pass 4,194,303"
number_of Bound = 15
-- "16 when the buffer is shorter than the module", or "than the list"
number_of BufferLength = 16
-- "17 when there is no such global"
number_of NoGlobal = 17
-- "18 when there are fewer than five words, or the magic, version or last header word is not document 01's"
number_of ModuleFront = 18
-- "19 when an instruction's word count is 0 or passes the end"
number_of InstructionLength = 19
-- "20 when an opcode is none that Declare writes, or the count none that it writes for that opcode"
number_of InstructionForm = 20

-- what a test answers, as the definition's tests have it: 0 is no refusal
abbrev pub test_number : {A : Type 0} → Result A Refusal → ℕ
test_number (Ok a) = 0
test_number (Err r) = number_of r
