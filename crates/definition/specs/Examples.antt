-- P1 to P12 of "From sheet to words", with one row of "Seen in class" and three each of papers 2 and 5, as rows of one table, proved
-- together by one computed test. Paper 3's rows stand in two tables of their own: words with their lists, and opcodes with their counts.
use Rattle.std.specs.Prelude.{ℕ, ◌+◌, ◌-◌, Bool, true, false, ◌&&◌, not, List, [], ◌∷◌, ◌++◌, T, eqb, length, get_or, replicate}
use Rattle.std.specs.Bool.{beq}
use Rattle.std.proofs.Math.Decide.{ℕ_discrete}
use Rattle.definition.specs.Choice.{every}
use Rattle.definition.specs.Bytes.{u16_at, u32_at, u64_at, name_at, name_end}
use Rattle.definition.specs.Finding.{format_capabilities, dim_capabilities, literal_with, find_at, find, composite_of, null_of}
use Rattle.definition.specs.Instructions.{words, all_words, packed, put, put_count}
use Rattle.definition.specs.Literals.{same_literal}
use Rattle.definition.specs.Operations.{record_test, declare_record, judged, check, declare, wrapped}
use Rattle.definition.specs.Rules.{declare_members, any_dynamic, blocked, declare_type, ids_of, shared_type, declare_function, constant_of, declare_constant, ends_dynamic, needs_wrapper, remap_of, declare_global}
use Rattle.definition.specs.Shapes.{kind_of, formats, same_key, image_of}
use Rattle.definition.specs.Sheet.{record_at, after_record, tag_rank, u16s_at, u32s_at, members_at, members_end, type_fields, literal_fields, function_fields, constant_fields, global_fields, available_fields, remap_fields, entry_of}
use Rattle.definition.specs.State.{same_numbers, same_composite, occurrences, listed, lookup, capability_instructions, instructions, module_words, entry_ids}
use Rattle.definition.specs.Tests.{header_test, add, add_record, no_record, place_test, member_names, scalar_fits, space_fits, class_fits, binding_fits, member_types, same_bytes, same_record, type_read, remap_read, entry_test, reading_test, records}
use Rattle.definition.specs.Unfit.{members_fit, constant_fits, global_fits, fitness_test}
use Rattle.definition.specs.Utf8.{octets, utf8, no_zero}
use Rattle.definition.specs.Zeroable.{zeroables, zeroable}
use Rattle.definition.specs.Operations.{Answer, Written, Wrapping, Wraps}
use Rattle.definition.specs.Listing.{More, exactly, or_one, or_any, is_written, list_body, instruction_test, list_from, front_test, list_of, Listing, Listed, list, join_from, join}

-- P3's 28 words, which paper 3's rows list
abbrev pub words_of_p3 : List ℕ
words_of_p3 = 0x07230203 ∷ 0x00010300 ∷ 0x0000001c ∷ 0x00000006 ∷ 0x00000000 ∷ 0x00040047 ∷ 0x00000003 ∷ 0x00000006 ∷ 0x00000010 ∷ 0x00030016 ∷ 0x00000002 ∷ 0x00000020 ∷ 0x00040017 ∷ 0x00000001 ∷ 0x00000002 ∷ 0x00000003 ∷ 0x00040015 ∷ 0x00000005 ∷ 0x00000020 ∷ 0x00000000 ∷ 0x0004002b ∷ 0x00000005 ∷ 0x00000004 ∷ 0x00000004 ∷ 0x0004001c ∷ 0x00000003 ∷ 0x00000001 ∷ 0x00000004 ∷ []

-- a sheet, and what an operation answers
pub data Row : Type 0 where
  -- the module's words, whose number is the word count and whose fourth is the bound, and the rest of the buffer unchanged
  writes : List ℕ → List ℕ → Row
  -- word count and bound
  counts : List ℕ → ℕ → ℕ → Row
  refuses : List ℕ → ℕ → Row
  wraps : List ℕ → ℕ → Bool → Row

abbrev pub wrote_counts : ℕ → ℕ → Answer → Bool
wrote_counts n bound (Written m b) = eqb m n && eqb b bound
wrote_counts n bound (Answer.Refused m) = false

abbrev pub refused_with : ℕ → Answer → Bool
refused_with n (Written m b) = false
refused_with n (Answer.Refused m) = eqb m n

abbrev pub wraps_as : Bool → Wrapping → Bool
wraps_as b (Wraps c) = beq b c
wraps_as b (Wrapping.Refused m) = false

-- a buffer of so many words, each 7, so that a word that stays is told from a word that is written
abbrev pub sevens : ℕ → List ℕ
sevens n = replicate n 7

abbrev pub lent : List ℕ
lent = sevens 64

-- the buffer, once the words are written over its front
abbrev pub over : List ℕ → List ℕ → List ℕ
over [] b = b
over (w ∷ ws) [] = w ∷ over ws []
over (w ∷ ws) (x ∷ b) = w ∷ over ws b

unfoldable pub right : Row → Bool
right (writes s ws) = wrote_counts (length ws) (get_or ws 3 0) (declare s lent).answer && same_bytes (declare s lent).buffer (over ws lent)
right (counts s n bound) = wrote_counts n bound (declare s lent).answer
right (refuses s n) = refused_with n (declare s lent).answer
right (wraps s k b) = wraps_as b (wrapped s k)

unfoldable pub rows : List Row
rows =
    -- P1 no records: 5 words, bound 1
    counts (0x01 ∷ 0x00 ∷ 0x00 ∷ 0x00 ∷ 0x00 ∷ 0x00 ∷ []) 5 1
    -- P2 the vec3 alone: 12 words, bound 3
    ∷ counts (0x01 ∷ 0x00 ∷ 0x00 ∷ 0x00 ∷ 0x00 ∷ 0x00 ∷ 0x00 ∷ 0x05 ∷ 0x11 ∷ 0xff ∷ 0x03 ∷ 0x02 ∷ 0x04 ∷ []) 12 3
    -- P3, a vec3 and an array of four, word for word
    ∷ writes (0x01 ∷ 0x00 ∷ 0x00 ∷ 0x00 ∷ 0x00 ∷ 0x00 ∷ 0x00 ∷ 0x05 ∷ 0x11 ∷ 0xff ∷ 0x03 ∷ 0x02 ∷ 0x04 ∷ 0x00 ∷ 0x0c ∷ 0x16 ∷ 0xff ∷ 0x00 ∷ 0x00 ∷ 0x00 ∷ 0x00 ∷ 0x00 ∷ 0x04 ∷ 0x00 ∷ 0x00 ∷ 0x00 ∷ 0x10 ∷ []) words_of_p3
    -- P4 Scalar and Atomic Float 4: one id, bound 2
    ∷ counts (0x01 ∷ 0x00 ∷ 0x00 ∷ 0x00 ∷ 0x00 ∷ 0x00 ∷ 0x00 ∷ 0x04 ∷ 0x10 ∷ 0xff ∷ 0x02 ∷ 0x04 ∷ 0x00 ∷ 0x04 ∷ 0x13 ∷ 0xff ∷ 0x02 ∷ 0x04 ∷ []) 8 2
    -- P5 true, false: bound 4
    ∷ counts (0x01 ∷ 0x00 ∷ 0x00 ∷ 0x00 ∷ 0x00 ∷ 0x00 ∷ 0x00 ∷ 0x03 ∷ 0x40 ∷ 0x04 ∷ 0x01 ∷ 0x00 ∷ 0x03 ∷ 0x40 ∷ 0x04 ∷ 0x00 ∷ []) 13 4
    -- P6 names: empty gives 0
    ∷ writes (0x01 ∷ 0x00 ∷ 0x00 ∷ 0x00 ∷ 0x00 ∷ 0x01 ∷ 0x00 ∷ 0x04 ∷ 0x10 ∷ 0x00 ∷ 0x02 ∷ 0x04 ∷ []) (0x07230203 ∷ 0x00010300 ∷ 0x0000001c ∷ 0x00000002 ∷ 0x00000000 ∷ 0x00030005 ∷ 0x00000001 ∷ 0x00000000 ∷ 0x00030016 ∷ 0x00000001 ∷ 0x00000020 ∷ [])
    -- P6 abc 0x00636261
    ∷ writes (0x01 ∷ 0x00 ∷ 0x00 ∷ 0x00 ∷ 0x00 ∷ 0x01 ∷ 0x00 ∷ 0x07 ∷ 0x10 ∷ 0x03 ∷ 0x61 ∷ 0x62 ∷ 0x63 ∷ 0x02 ∷ 0x04 ∷ []) (0x07230203 ∷ 0x00010300 ∷ 0x0000001c ∷ 0x00000002 ∷ 0x00000000 ∷ 0x00030005 ∷ 0x00000001 ∷ 0x00636261 ∷ 0x00030016 ∷ 0x00000001 ∷ 0x00000020 ∷ [])
    -- P6 abcd 0x64636261, 0
    ∷ writes (0x01 ∷ 0x00 ∷ 0x00 ∷ 0x00 ∷ 0x00 ∷ 0x01 ∷ 0x00 ∷ 0x08 ∷ 0x10 ∷ 0x04 ∷ 0x61 ∷ 0x62 ∷ 0x63 ∷ 0x64 ∷ 0x02 ∷ 0x04 ∷ []) (0x07230203 ∷ 0x00010300 ∷ 0x0000001c ∷ 0x00000002 ∷ 0x00000000 ∷ 0x00040005 ∷ 0x00000001 ∷ 0x64636261 ∷ 0x00000000 ∷ 0x00030016 ∷ 0x00000001 ∷ 0x00000020 ∷ [])
    -- P7 strides: 2 rows width 4 gives 8
    ∷ writes (0x01 ∷ 0x00 ∷ 0x00 ∷ 0x00 ∷ 0x00 ∷ 0x00 ∷ 0x00 ∷ 0x05 ∷ 0x12 ∷ 0xff ∷ 0x02 ∷ 0x02 ∷ 0x04 ∷ 0x00 ∷ 0x0e ∷ 0x17 ∷ 0xff ∷ 0x00 ∷ 0x00 ∷ 0x00 ∷ 0x10 ∷ 0x01 ∷ 0x00 ∷ 0x00 ∷ 0x00 ∷ 0x00 ∷ 0x00 ∷ 0x00 ∷ 0xff ∷ []) (0x07230203 ∷ 0x00010300 ∷ 0x0000001c ∷ 0x00000005 ∷ 0x00000000 ∷ 0x00050048 ∷ 0x00000004 ∷ 0x00000000 ∷ 0x00000023 ∷ 0x00000000 ∷ 0x00040048 ∷ 0x00000004 ∷ 0x00000000 ∷ 0x00000005 ∷ 0x00050048 ∷ 0x00000004 ∷ 0x00000000 ∷ 0x00000007 ∷ 0x00000008 ∷ 0x00030016 ∷ 0x00000003 ∷ 0x00000020 ∷ 0x00040017 ∷ 0x00000002 ∷ 0x00000003 ∷ 0x00000002 ∷ 0x00040018 ∷ 0x00000001 ∷ 0x00000002 ∷ 0x00000002 ∷ 0x0003001e ∷ 0x00000004 ∷ 0x00000001 ∷ [])
    -- P7 3 rows 16
    ∷ writes (0x01 ∷ 0x00 ∷ 0x00 ∷ 0x00 ∷ 0x00 ∷ 0x00 ∷ 0x00 ∷ 0x05 ∷ 0x12 ∷ 0xff ∷ 0x02 ∷ 0x03 ∷ 0x04 ∷ 0x00 ∷ 0x0e ∷ 0x17 ∷ 0xff ∷ 0x00 ∷ 0x00 ∷ 0x00 ∷ 0x20 ∷ 0x01 ∷ 0x00 ∷ 0x00 ∷ 0x00 ∷ 0x00 ∷ 0x00 ∷ 0x00 ∷ 0xff ∷ []) (0x07230203 ∷ 0x00010300 ∷ 0x0000001c ∷ 0x00000005 ∷ 0x00000000 ∷ 0x00050048 ∷ 0x00000004 ∷ 0x00000000 ∷ 0x00000023 ∷ 0x00000000 ∷ 0x00040048 ∷ 0x00000004 ∷ 0x00000000 ∷ 0x00000005 ∷ 0x00050048 ∷ 0x00000004 ∷ 0x00000000 ∷ 0x00000007 ∷ 0x00000010 ∷ 0x00030016 ∷ 0x00000003 ∷ 0x00000020 ∷ 0x00040017 ∷ 0x00000002 ∷ 0x00000003 ∷ 0x00000003 ∷ 0x00040018 ∷ 0x00000001 ∷ 0x00000002 ∷ 0x00000002 ∷ 0x0003001e ∷ 0x00000004 ∷ 0x00000001 ∷ [])
    -- P7 3 rows width 8 gives 32
    ∷ writes (0x01 ∷ 0x00 ∷ 0x00 ∷ 0x00 ∷ 0x00 ∷ 0x00 ∷ 0x00 ∷ 0x05 ∷ 0x12 ∷ 0xff ∷ 0x02 ∷ 0x03 ∷ 0x08 ∷ 0x00 ∷ 0x0e ∷ 0x17 ∷ 0xff ∷ 0x00 ∷ 0x00 ∷ 0x00 ∷ 0x40 ∷ 0x01 ∷ 0x00 ∷ 0x00 ∷ 0x00 ∷ 0x00 ∷ 0x00 ∷ 0x00 ∷ 0xff ∷ []) (0x07230203 ∷ 0x00010300 ∷ 0x0000001c ∷ 0x00000005 ∷ 0x00000000 ∷ 0x00020011 ∷ 0x0000000a ∷ 0x00050048 ∷ 0x00000004 ∷ 0x00000000 ∷ 0x00000023 ∷ 0x00000000 ∷ 0x00040048 ∷ 0x00000004 ∷ 0x00000000 ∷ 0x00000005 ∷ 0x00050048 ∷ 0x00000004 ∷ 0x00000000 ∷ 0x00000007 ∷ 0x00000020 ∷ 0x00030016 ∷ 0x00000003 ∷ 0x00000040 ∷ 0x00040017 ∷ 0x00000002 ∷ 0x00000003 ∷ 0x00000003 ∷ 0x00040018 ∷ 0x00000001 ∷ 0x00000002 ∷ 0x00000002 ∷ 0x0003001e ∷ 0x00000004 ∷ 0x00000001 ∷ [])
    -- P8 F32 literals +0 and -0: bound 4
    ∷ counts (0x01 ∷ 0x00 ∷ 0x00 ∷ 0x00 ∷ 0x00 ∷ 0x00 ∷ 0x00 ∷ 0x06 ∷ 0x40 ∷ 0x01 ∷ 0x00 ∷ 0x00 ∷ 0x00 ∷ 0x00 ∷ 0x00 ∷ 0x06 ∷ 0x40 ∷ 0x01 ∷ 0x80 ∷ 0x00 ∷ 0x00 ∷ 0x00 ∷ []) 16 4
    -- P9 one scalar: start 4,194,301 fits
    ∷ counts (0x01 ∷ 0x00 ∷ 0x3f ∷ 0xff ∷ 0xfd ∷ 0x00 ∷ 0x00 ∷ 0x04 ∷ 0x10 ∷ 0xff ∷ 0x02 ∷ 0x04 ∷ []) 8 4194303
    -- P9 4,194,302 is 15
    ∷ refuses (0x01 ∷ 0x00 ∷ 0x3f ∷ 0xff ∷ 0xfe ∷ 0x00 ∷ 0x00 ∷ 0x04 ∷ 0x10 ∷ 0xff ∷ 0x02 ∷ 0x04 ∷ []) 15
    -- P10 vec2, F32 literal, Compose of it twice, Splat 2: bound 6, two composites
    ∷ counts (0x01 ∷ 0x00 ∷ 0x00 ∷ 0x00 ∷ 0x00 ∷ 0x00 ∷ 0x00 ∷ 0x05 ∷ 0x11 ∷ 0xff ∷ 0x02 ∷ 0x02 ∷ 0x04 ∷ 0x00 ∷ 0x06 ∷ 0x40 ∷ 0x01 ∷ 0x3f ∷ 0x80 ∷ 0x00 ∷ 0x00 ∷ 0x00 ∷ 0x09 ∷ 0x43 ∷ 0x00 ∷ 0x00 ∷ 0x00 ∷ 0x02 ∷ 0x00 ∷ 0x00 ∷ 0x00 ∷ 0x00 ∷ 0x00 ∷ 0x04 ∷ 0x44 ∷ 0x02 ∷ 0x00 ∷ 0x00 ∷ []) 26 6
    -- P11 a Uniform empty struct is not wrapped
    ∷ wraps (0x01 ∷ 0x00 ∷ 0x00 ∷ 0x00 ∷ 0x00 ∷ 0x00 ∷ 0x00 ∷ 0x07 ∷ 0x17 ∷ 0xff ∷ 0x00 ∷ 0x00 ∷ 0x00 ∷ 0x00 ∷ 0x00 ∷ 0x00 ∷ 0x11 ∷ 0x60 ∷ 0xff ∷ 0x00 ∷ 0x00 ∷ 0x03 ∷ 0x00 ∷ 0x00 ∷ 0x00 ∷ 0x00 ∷ 0x00 ∷ 0x00 ∷ 0x00 ∷ 0x00 ∷ 0x00 ∷ 0x00 ∷ 0xff ∷ 0xff ∷ []) 0 false
    -- P11 a float is
    ∷ wraps (0x01 ∷ 0x00 ∷ 0x00 ∷ 0x00 ∷ 0x00 ∷ 0x00 ∷ 0x00 ∷ 0x04 ∷ 0x10 ∷ 0xff ∷ 0x02 ∷ 0x04 ∷ 0x00 ∷ 0x11 ∷ 0x60 ∷ 0xff ∷ 0x00 ∷ 0x00 ∷ 0x03 ∷ 0x00 ∷ 0x00 ∷ 0x00 ∷ 0x00 ∷ 0x00 ∷ 0x00 ∷ 0x00 ∷ 0x00 ∷ 0x00 ∷ 0x00 ∷ 0xff ∷ 0xff ∷ []) 0 true
    -- P12 empty Available: Int8 fits
    ∷ counts (0x01 ∷ 0x00 ∷ 0x00 ∷ 0x00 ∷ 0x00 ∷ 0x00 ∷ 0x00 ∷ 0x01 ∷ 0x01 ∷ 0x00 ∷ 0x04 ∷ 0x10 ∷ 0xff ∷ 0x00 ∷ 0x01 ∷ []) 11 2
    -- P12 a sampled D1 image is 14
    ∷ refuses (0x01 ∷ 0x00 ∷ 0x00 ∷ 0x00 ∷ 0x00 ∷ 0x00 ∷ 0x00 ∷ 0x01 ∷ 0x01 ∷ 0x00 ∷ 0x07 ∷ 0x18 ∷ 0xff ∷ 0x00 ∷ 0x00 ∷ 0x00 ∷ 0x02 ∷ 0x00 ∷ []) 14
    -- Seen in class: a struct that ends in a dynamic array is not wrapped
    ∷ wraps (0x01 ∷ 0x00 ∷ 0x00 ∷ 0x00 ∷ 0x00 ∷ 0x00 ∷ 0x00 ∷ 0x04 ∷ 0x10 ∷ 0xff ∷ 0x02 ∷ 0x04 ∷ 0x00 ∷ 0x0c ∷ 0x16 ∷ 0xff ∷ 0x00 ∷ 0x00 ∷ 0x00 ∷ 0x00 ∷ 0x00 ∷ 0x00 ∷ 0x00 ∷ 0x00 ∷ 0x00 ∷ 0x04 ∷ 0x00 ∷ 0x0e ∷ 0x17 ∷ 0xff ∷ 0x00 ∷ 0x00 ∷ 0x00 ∷ 0x04 ∷ 0x01 ∷ 0x00 ∷ 0x01 ∷ 0x00 ∷ 0x00 ∷ 0x00 ∷ 0x00 ∷ 0xff ∷ 0x00 ∷ 0x11 ∷ 0x60 ∷ 0xff ∷ 0x00 ∷ 0x02 ∷ 0x04 ∷ 0x01 ∷ 0x00 ∷ 0x00 ∷ 0x00 ∷ 0x00 ∷ 0x00 ∷ 0x00 ∷ 0x00 ∷ 0x00 ∷ 0x00 ∷ 0xff ∷ 0xff ∷ []) 0 false
    -- paper 2: a float (1), one returned (2); void (3), then a float taken (4), which an atomic float shares; void again, nothing taken (5)
    ∷ writes (0x01 ∷ 0x00 ∷ 0x00 ∷ 0x00 ∷ 0x00 ∷ 0x00 ∷ 0x00 ∷ 0x04 ∷ 0x10 ∷ 0xff ∷ 0x02 ∷ 0x04 ∷ 0x00 ∷ 0x04 ∷ 0x13 ∷ 0xff ∷ 0x02 ∷ 0x04 ∷ 0x00 ∷ 0x04 ∷ 0x30 ∷ 0x00 ∷ 0x00 ∷ 0x00 ∷ 0x00 ∷ 0x06 ∷ 0x30 ∷ 0xff ∷ 0xff ∷ 0x01 ∷ 0x00 ∷ 0x00 ∷ 0x00 ∷ 0x06 ∷ 0x30 ∷ 0xff ∷ 0xff ∷ 0x01 ∷ 0x00 ∷ 0x01 ∷ 0x00 ∷ 0x04 ∷ 0x30 ∷ 0xff ∷ 0xff ∷ 0x00 ∷ []) (0x07230203 ∷ 0x00010300 ∷ 0x0000001c ∷ 0x00000006 ∷ 0x00000000 ∷ 0x00030016 ∷ 0x00000001 ∷ 0x00000020 ∷ 0x00030021 ∷ 0x00000002 ∷ 0x00000001 ∷ 0x00020013 ∷ 0x00000003 ∷ 0x00040021 ∷ 0x00000004 ∷ 0x00000003 ∷ 0x00000001 ∷ 0x00030021 ∷ 0x00000005 ∷ 0x00000003 ∷ [])
    -- paper 2: two equal records are no 12: bound 3
    ∷ counts (0x01 ∷ 0x00 ∷ 0x00 ∷ 0x00 ∷ 0x00 ∷ 0x00 ∷ 0x00 ∷ 0x04 ∷ 0x30 ∷ 0xff ∷ 0xff ∷ 0x00 ∷ 0x00 ∷ 0x04 ∷ 0x30 ∷ 0xff ∷ 0xff ∷ 0x00 ∷ []) 10 3
    -- paper 2: a constant above a function record is 6
    ∷ refuses (0x01 ∷ 0x00 ∷ 0x00 ∷ 0x00 ∷ 0x00 ∷ 0x00 ∷ 0x00 ∷ 0x03 ∷ 0x40 ∷ 0x04 ∷ 0x01 ∷ 0x00 ∷ 0x04 ∷ 0x30 ∷ 0xff ∷ 0xff ∷ 0x00 ∷ []) 6
    -- paper 5: two Storage globals over one binding array: Block on its base (1) once
    ∷ writes (0x01 ∷ 0x00 ∷ 0x00 ∷ 0x00 ∷ 0x00 ∷ 0x00 ∷ 0x00 ∷ 0x07 ∷ 0x17 ∷ 0xff ∷ 0x00 ∷ 0x00 ∷ 0x00 ∷ 0x00 ∷ 0x00 ∷ 0x00 ∷ 0x08 ∷ 0x1c ∷ 0xff ∷ 0x00 ∷ 0x00 ∷ 0x00 ∷ 0x00 ∷ 0x00 ∷ 0x01 ∷ 0x00 ∷ 0x11 ∷ 0x60 ∷ 0xff ∷ 0x00 ∷ 0x01 ∷ 0x04 ∷ 0x03 ∷ 0x00 ∷ 0x00 ∷ 0x00 ∷ 0x00 ∷ 0x00 ∷ 0x00 ∷ 0x00 ∷ 0x00 ∷ 0x00 ∷ 0xff ∷ 0xff ∷ 0x00 ∷ 0x11 ∷ 0x60 ∷ 0xff ∷ 0x00 ∷ 0x01 ∷ 0x04 ∷ 0x03 ∷ 0x00 ∷ 0x00 ∷ 0x00 ∷ 0x00 ∷ 0x00 ∷ 0x00 ∷ 0x00 ∷ 0x00 ∷ 0x00 ∷ 0xff ∷ 0xff ∷ []) (0x07230203 ∷ 0x00010300 ∷ 0x0000001c ∷ 0x00000008 ∷ 0x00000000 ∷ 0x00030047 ∷ 0x00000001 ∷ 0x00000002 ∷ 0x0002001e ∷ 0x00000001 ∷ 0x00040015 ∷ 0x00000004 ∷ 0x00000020 ∷ 0x00000000 ∷ 0x0004002b ∷ 0x00000004 ∷ 0x00000003 ∷ 0x00000001 ∷ 0x0004001c ∷ 0x00000002 ∷ 0x00000001 ∷ 0x00000003 ∷ 0x00040020 ∷ 0x00000006 ∷ 0x0000000c ∷ 0x00000002 ∷ 0x0004003b ∷ 0x00000006 ∷ 0x00000005 ∷ 0x0000000c ∷ 0x0004003b ∷ 0x00000006 ∷ 0x00000007 ∷ 0x0000000c ∷ [])
    -- paper 5: a struct (3) with a dynamic array has Block by itself, and no second as the base of a Storage global's binding array
    ∷ writes (0x01 ∷ 0x00 ∷ 0x00 ∷ 0x00 ∷ 0x00 ∷ 0x00 ∷ 0x00 ∷ 0x04 ∷ 0x10 ∷ 0xff ∷ 0x02 ∷ 0x04 ∷ 0x00 ∷ 0x0c ∷ 0x16 ∷ 0xff ∷ 0x00 ∷ 0x00 ∷ 0x00 ∷ 0x00 ∷ 0x00 ∷ 0x00 ∷ 0x00 ∷ 0x00 ∷ 0x00 ∷ 0x04 ∷ 0x00 ∷ 0x0e ∷ 0x17 ∷ 0xff ∷ 0x00 ∷ 0x00 ∷ 0x00 ∷ 0x04 ∷ 0x01 ∷ 0x00 ∷ 0x01 ∷ 0x00 ∷ 0x00 ∷ 0x00 ∷ 0x00 ∷ 0xff ∷ 0x00 ∷ 0x08 ∷ 0x1c ∷ 0xff ∷ 0x00 ∷ 0x02 ∷ 0x00 ∷ 0x00 ∷ 0x00 ∷ 0x01 ∷ 0x00 ∷ 0x11 ∷ 0x60 ∷ 0xff ∷ 0x00 ∷ 0x03 ∷ 0x04 ∷ 0x03 ∷ 0x00 ∷ 0x00 ∷ 0x00 ∷ 0x00 ∷ 0x00 ∷ 0x00 ∷ 0x00 ∷ 0x00 ∷ 0x00 ∷ 0xff ∷ 0xff ∷ []) (0x07230203 ∷ 0x00010300 ∷ 0x0000001c ∷ 0x00000009 ∷ 0x00000000 ∷ 0x00040047 ∷ 0x00000002 ∷ 0x00000006 ∷ 0x00000004 ∷ 0x00050048 ∷ 0x00000003 ∷ 0x00000000 ∷ 0x00000023 ∷ 0x00000000 ∷ 0x00030047 ∷ 0x00000003 ∷ 0x00000002 ∷ 0x00030016 ∷ 0x00000001 ∷ 0x00000020 ∷ 0x0003001d ∷ 0x00000002 ∷ 0x00000001 ∷ 0x0003001e ∷ 0x00000003 ∷ 0x00000002 ∷ 0x00040015 ∷ 0x00000006 ∷ 0x00000020 ∷ 0x00000000 ∷ 0x0004002b ∷ 0x00000006 ∷ 0x00000005 ∷ 0x00000001 ∷ 0x0004001c ∷ 0x00000004 ∷ 0x00000003 ∷ 0x00000005 ∷ 0x00040020 ∷ 0x00000008 ∷ 0x0000000c ∷ 0x00000004 ∷ 0x0004003b ∷ 0x00000008 ∷ 0x00000007 ∷ 0x0000000c ∷ [])
    -- paper 5: two bases (1, 2), and Block on each
    ∷ writes (0x01 ∷ 0x00 ∷ 0x00 ∷ 0x00 ∷ 0x00 ∷ 0x00 ∷ 0x00 ∷ 0x07 ∷ 0x17 ∷ 0xff ∷ 0x00 ∷ 0x00 ∷ 0x00 ∷ 0x00 ∷ 0x00 ∷ 0x00 ∷ 0x04 ∷ 0x10 ∷ 0xff ∷ 0x02 ∷ 0x04 ∷ 0x00 ∷ 0x08 ∷ 0x1c ∷ 0xff ∷ 0x00 ∷ 0x00 ∷ 0x00 ∷ 0x00 ∷ 0x00 ∷ 0x01 ∷ 0x00 ∷ 0x08 ∷ 0x1c ∷ 0xff ∷ 0x00 ∷ 0x01 ∷ 0x00 ∷ 0x00 ∷ 0x00 ∷ 0x01 ∷ 0x00 ∷ 0x11 ∷ 0x60 ∷ 0xff ∷ 0x00 ∷ 0x02 ∷ 0x04 ∷ 0x03 ∷ 0x00 ∷ 0x00 ∷ 0x00 ∷ 0x00 ∷ 0x00 ∷ 0x00 ∷ 0x00 ∷ 0x00 ∷ 0x00 ∷ 0xff ∷ 0xff ∷ 0x00 ∷ 0x11 ∷ 0x60 ∷ 0xff ∷ 0x00 ∷ 0x03 ∷ 0x04 ∷ 0x03 ∷ 0x00 ∷ 0x00 ∷ 0x00 ∷ 0x00 ∷ 0x00 ∷ 0x00 ∷ 0x00 ∷ 0x00 ∷ 0x00 ∷ 0xff ∷ 0xff ∷ []) (0x07230203 ∷ 0x00010300 ∷ 0x0000001c ∷ 0x0000000b ∷ 0x00000000 ∷ 0x00030047 ∷ 0x00000001 ∷ 0x00000002 ∷ 0x00030047 ∷ 0x00000002 ∷ 0x00000002 ∷ 0x0002001e ∷ 0x00000001 ∷ 0x00030016 ∷ 0x00000002 ∷ 0x00000020 ∷ 0x00040015 ∷ 0x00000005 ∷ 0x00000020 ∷ 0x00000000 ∷ 0x0004002b ∷ 0x00000005 ∷ 0x00000004 ∷ 0x00000001 ∷ 0x0004001c ∷ 0x00000003 ∷ 0x00000001 ∷ 0x00000004 ∷ 0x0004001c ∷ 0x00000006 ∷ 0x00000002 ∷ 0x00000004 ∷ 0x00040020 ∷ 0x00000008 ∷ 0x0000000c ∷ 0x00000003 ∷ 0x0004003b ∷ 0x00000008 ∷ 0x00000007 ∷ 0x0000000c ∷ 0x00040020 ∷ 0x0000000a ∷ 0x0000000c ∷ 0x00000006 ∷ 0x0004003b ∷ 0x0000000a ∷ 0x00000009 ∷ 0x0000000c ∷ [])
    ∷ []

-- all rows are right
pub examples : T (every right rows)
unfolding ℕ_discrete right rows u16_at u32_at u64_at name_at name_end format_capabilities dim_capabilities literal_with find_at find composite_of null_of words all_words packed put put_count same_literal record_test declare_record judged check declare wrapped declare_members any_dynamic blocked declare_type ids_of shared_type entry_ids declare_function constant_of declare_constant ends_dynamic needs_wrapper remap_of declare_global kind_of formats same_key image_of record_at after_record tag_rank u16s_at u32s_at members_at members_end type_fields literal_fields function_fields constant_fields global_fields available_fields remap_fields entry_of same_numbers same_composite occurrences listed lookup capability_instructions instructions module_words header_test add add_record no_record place_test member_names scalar_fits space_fits class_fits binding_fits member_types same_bytes same_record type_read remap_read entry_test reading_test records members_fit constant_fits global_fits fitness_test octets utf8 no_zero zeroables zeroable
examples = tt

-- ---- paper 3: words and their lists

-- words, how many sevens the second buffer holds, and what is answered
pub data ListRow : Type 0 where
  -- the list, whose length is the answer, the rest of the buffer unchanged; joined again the words
  lists : List ℕ → ℕ → List ℕ → ListRow
  -- the number, and the buffer unchanged
  unlisted : List ℕ → ℕ → ℕ → ListRow

abbrev pub listed_as : ℕ → Listing → Bool
listed_as n (Listed m) = eqb m n
listed_as n (Listing.Refused m) = false

abbrev pub unlisted_with : ℕ → Listing → Bool
unlisted_with n (Listed m) = false
unlisted_with n (Listing.Refused m) = eqb m n

unfoldable pub list_right : ListRow → Bool
list_right (lists ws n l) =
    let b = sevens n in
    listed_as (length l) (list ws b).answer && (same_bytes (list ws b).buffer (over l b) && same_bytes (join l) ws)
list_right (unlisted ws n k) =
    let b = sevens n in
    unlisted_with k (list ws b).answer && same_bytes (list ws b).buffer b

-- words behind a header that is document 01's
abbrev pub front : List ℕ → List ℕ
front ws = 0x07230203 ∷ 0x00010300 ∷ 28 ∷ 1 ∷ 0 ∷ ws

-- the header; ArrayStride 16 on 3; float 2; vec3 1; uint 5; the 4 (id 4) of type 5; array 3 of 1
abbrev pub list_of_p3 : List ℕ
list_of_p3 = 0x07230203 ∷ 0x00010300 ∷ 28 ∷ 6 ∷ 0 ∷ 71 ∷ 0 ∷ 3 ∷ 3 ∷ 6 ∷ 16 ∷ 22 ∷ 2 ∷ 1 ∷ 32 ∷ 23 ∷ 1 ∷ 2 ∷ 2 ∷ 3 ∷ 21 ∷ 5 ∷ 2 ∷ 32 ∷ 0 ∷ 43 ∷ 4 ∷ 2 ∷ 5 ∷ 4 ∷ 28 ∷ 3 ∷ 2 ∷ 1 ∷ 4 ∷ []

unfoldable pub list_rows : List ListRow
list_rows =
    -- "first the five header words, then for each instruction its opcode, its result id (0 if none), ..": P3, word by word
    lists words_of_p3 64 list_of_p3
    -- "the list joined again is the module": where nothing stands behind the header
    ∷ lists (front []) 5 (front [])
    -- "the magic, version or last header word" alone are tested: another generator and bound
    ∷ lists (0x07230203 ∷ 0x00010300 ∷ 9 ∷ 0xffffffff ∷ 0 ∷ []) 64 (0x07230203 ∷ 0x00010300 ∷ 9 ∷ 0xffffffff ∷ 0 ∷ [])
    -- "It doesn't judge ids": a vector of nothing declared, its own id 0
    ∷ lists (front (0x00040017 ∷ 0 ∷ 9 ∷ 4 ∷ [])) 64 (front (23 ∷ 0 ∷ 2 ∷ 9 ∷ 4 ∷ []))
    -- "18 when there are fewer than five words"
    ∷ unlisted (0x07230203 ∷ 0x00010300 ∷ 28 ∷ 1 ∷ []) 64 18
    -- 18: "the magic .. is not document 01's"
    ∷ unlisted (0x03022307 ∷ 0x00010300 ∷ 28 ∷ 1 ∷ 0 ∷ []) 64 18
    -- 18: "the .. version .. is not document 01's"
    ∷ unlisted (0x07230203 ∷ 0x00010000 ∷ 28 ∷ 1 ∷ 0 ∷ []) 64 18
    -- 18: "the .. last header word is not document 01's", whatever stands behind it
    ∷ unlisted (0x07230203 ∷ 0x00010300 ∷ 28 ∷ 1 ∷ 1 ∷ 0 ∷ []) 64 18
    -- "19 when an instruction's word count is 0"
    ∷ unlisted (front (0x00000013 ∷ [])) 64 19
    -- 19: "or passes the end"
    ∷ unlisted (front (0x00020013 ∷ [])) 64 19
    -- 19: a zero word behind a module
    ∷ unlisted (words_of_p3 ++ 0 ∷ []) 64 19
    -- "19 before 20 within each": an opcode that Declare never writes, whose count passes the end
    ∷ unlisted (front (0x00020000 ∷ [])) 64 19
    -- "20 when an opcode is none that Declare writes": OpNop
    ∷ unlisted (front (0x00010000 ∷ [])) 64 20
    -- 20: "or the count none that it writes for that opcode": an OpDecorate of two words
    ∷ unlisted (front (0x00020047 ∷ 1 ∷ [])) 64 20
    -- 20: an OpDecorate of five words
    ∷ unlisted (front (0x00050047 ∷ 1 ∷ 2 ∷ 3 ∷ 4 ∷ [])) 64 20
    -- 20: an OpTypeInt of three words
    ∷ unlisted (front (0x00030015 ∷ 1 ∷ 32 ∷ [])) 64 20
    -- "Instructions are taken in order": 20, then 19
    ∷ unlisted (front (0x00010000 ∷ 0 ∷ [])) 64 20
    -- "Instructions are taken in order": 19, then 20
    ∷ unlisted (front (0 ∷ 0x00010000 ∷ [])) 64 19
    -- "16 .. when the second buffer is shorter than the list": one word too short
    ∷ unlisted words_of_p3 34 16
    -- "It answers the list's length": a buffer just long enough
    ∷ lists words_of_p3 35 list_of_p3
    -- "words past the list keep their values": one word more
    ∷ lists words_of_p3 36 list_of_p3
    -- "16 comes last": behind 20
    ∷ unlisted (front (0x00010000 ∷ [])) 0 20
    ∷ []

-- all of them are right
pub list_examples : T (every list_right list_rows)
unfolding ℕ_discrete list_right list_rows same_bytes words put is_written instruction_test list_from front_test list_of list join_from join
list_examples = tt

-- ---- paper 3: "20 when an opcode is none that Declare writes, or the count none that it writes for that opcode"

-- an opcode, its fewest words, how many more it may have, and which word behind the first is its result id: 0 none, 1, 2
pub data Counted : Type 0 where
  counted : ℕ → ℕ → More → ℕ → Counted

abbrev pub one_more : More → Bool
one_more exactly = false
one_more or_one = true
one_more or_any = true

abbrev pub any_more : More → Bool
any_more exactly = false
any_more or_one = false
any_more or_any = true

-- so many words are written and not one fewer; one more, two more and 65,535, the most that a first word can say, where the row says
-- so; and of 1, 2, 3 .. behind the first word the result id is the one that the row says
unfoldable pub count_right : Counted → Bool
count_right (counted o n m r) =
    is_written o n
    && (not (is_written o (n - 1))
    && (beq (is_written o (n + 1)) (one_more m)
    && (beq (is_written o (n + 2)) (any_more m)
    && (beq (is_written o 65535) (any_more m)
    && eqb (get_or (list_body o (1 ∷ 2 ∷ 3 ∷ 4 ∷ 5 ∷ 6 ∷ 7 ∷ 8 ∷ [])) 1 0) r))))

-- the 26 opcodes that Declare writes
unfoldable pub count_rows : List Counted
count_rows =
    -- OpName: "a name of one word or more"
    counted 5 3 or_any 0
    -- OpMemberName: "a name of one word or more"
    ∷ counted 6 4 or_any 0
    -- OpCapability
    ∷ counted 17 2 exactly 0
    -- OpTypeVoid
    ∷ counted 19 2 exactly 1
    -- OpTypeBool
    ∷ counted 20 2 exactly 1
    -- OpTypeInt
    ∷ counted 21 4 exactly 1
    -- OpTypeFloat
    ∷ counted 22 3 exactly 1
    -- OpTypeVector
    ∷ counted 23 4 exactly 1
    -- OpTypeMatrix
    ∷ counted 24 4 exactly 1
    -- OpTypeImage
    ∷ counted 25 9 exactly 1
    -- OpTypeSampler
    ∷ counted 26 2 exactly 1
    -- OpTypeArray
    ∷ counted 28 4 exactly 1
    -- OpTypeRuntimeArray
    ∷ counted 29 3 exactly 1
    -- OpTypeStruct: "lists of members .. may be any length"
    ∷ counted 30 2 or_any 1
    -- OpTypePointer
    ∷ counted 32 4 exactly 1
    -- OpTypeFunction: "lists of .. parameters, may be any length"
    ∷ counted 33 3 or_any 1
    -- OpConstantTrue
    ∷ counted 41 3 exactly 2
    -- OpConstantFalse
    ∷ counted 42 3 exactly 2
    -- OpConstant: a value of one word or two
    ∷ counted 43 4 or_one 2
    -- OpConstantComposite: "lists of .. parts .. may be any length"
    ∷ counted 44 3 or_any 2
    -- OpConstantNull
    ∷ counted 46 3 exactly 2
    -- OpVariable: with an initializer or without
    ∷ counted 59 4 or_one 2
    -- OpDecorate: a decoration with a number or without
    ∷ counted 71 3 or_one 0
    -- OpMemberDecorate: a decoration with a number or without
    ∷ counted 72 4 or_one 0
    -- OpTypeRayQueryKHR
    ∷ counted 4472 2 exactly 1
    -- OpTypeAccelerationStructureKHR
    ∷ counted 5341 2 exactly 1
    ∷ []

-- all of them are right
pub count_examples : T (every count_right count_rows)
unfolding ℕ_discrete count_right count_rows is_written
count_examples = tt
