-- UTF-8 by RFC 3629, section 4, row by row ("a name is not UTF-8 (RFC 3629) or holds a zero byte"):
--   UTF8-octets = *( UTF8-char )
--   UTF8-char   = UTF8-1 / UTF8-2 / UTF8-3 / UTF8-4
--   UTF8-1      = %x00-7F
--   UTF8-2      = %xC2-DF UTF8-tail
--   UTF8-3      = %xE0 %xA0-BF UTF8-tail / %xE1-EC 2( UTF8-tail ) / %xED %x80-9F UTF8-tail / %xEE-EF 2( UTF8-tail )
--   UTF8-4      = %xF0 %x90-BF 2( UTF8-tail ) / %xF1-F3 3( UTF8-tail ) / %xF4 %x80-8F 2( UTF8-tail )
--   UTF8-tail   = %x80-BF
use Rattle.std.specs.Prelude.{ℕ, Bool, true, false, ◌&&◌, List, [], ◌∷◌, leb}
use Rattle.std.specs.Prelude.{Option, Some, None}
use Rattle.definition.specs.Bytes.{Name}
use Rattle.definition.specs.Choice.{pick, within}

-- %xLOW-HIGH
pub record Range : Type 0 where
  pub low : ℕ
  pub high : ℕ

abbrev pub range : ℕ → ℕ → Range
range l h = record { low = l; high = h }

abbrev pub in_range : Range → ℕ → Bool
in_range r b = within r.low r.high b

abbrev pub utf8_tail : Range
utf8_tail = range 0x80 0xBF

-- an alternative of utf8_char: the range of its first byte, and those of the bytes that follow
pub record Utf8Row : Type 0 where
  pub lead : Range
  pub follow : List Range

abbrev pub utf8_row : ℕ → ℕ → List Range → Utf8Row
utf8_row l h rs = record { lead = range l h; follow = rs }

abbrev pub utf8_char : List Utf8Row
utf8_char =
    utf8_row 0x00 0x7F []
    ∷ utf8_row 0xC2 0xDF (utf8_tail ∷ [])
    ∷ utf8_row 0xE0 0xE0 (range 0xA0 0xBF ∷ utf8_tail ∷ [])
    ∷ utf8_row 0xE1 0xEC (utf8_tail ∷ utf8_tail ∷ [])
    ∷ utf8_row 0xED 0xED (range 0x80 0x9F ∷ utf8_tail ∷ [])
    ∷ utf8_row 0xEE 0xEF (utf8_tail ∷ utf8_tail ∷ [])
    ∷ utf8_row 0xF0 0xF0 (range 0x90 0xBF ∷ utf8_tail ∷ utf8_tail ∷ [])
    ∷ utf8_row 0xF1 0xF3 (utf8_tail ∷ utf8_tail ∷ utf8_tail ∷ [])
    ∷ utf8_row 0xF4 0xF4 (range 0x80 0x8F ∷ utf8_tail ∷ utf8_tail ∷ [])
    ∷ []

-- what must follow a first byte: of the one alternative that it can begin, or of none
abbrev pub follow_of : List Utf8Row → ℕ → Option (List Range)
follow_of [] b = None
follow_of (r ∷ rs) b = pick (in_range r.lead b) (Some r.follow) (follow_of rs b)

-- the bytes are one for each range, and then whole characters
unfoldable pub octets : List ℕ → List Range → Bool
octets [] [] = true
octets [] (r ∷ rs) = false
octets (b ∷ bs) [] = elim (follow_of utf8_char b) [ None ↦ false | Some rs ↦ octets bs rs ]
octets (b ∷ bs) (r ∷ rs) = in_range r b && octets bs rs

unfoldable pub utf8 : List ℕ → Bool
utf8 bs = octets bs []

unfoldable pub no_zero : List ℕ → Bool
no_zero [] = true
no_zero (b ∷ bs) = leb 1 b && no_zero bs

-- a name passes test 9
abbrev pub name_fits : Name → Bool
name_fits None = true
name_fits (Some bs) = utf8 bs && no_zero bs
