-- The program's table of formats is the definition's: both lists are computed and compared whole (`all_formats`), so that each row
-- is the definition's format, and what is read past the end too.
use mathlib.Core.Path.{◌≡◌, refl, sym, ap, ◌∙◌}
use Rattle.std.specs.Prelude.{ℕ, ◌≤◌, List, map, get_or}
use lib.ListN.{get_or-map, get_or-eq_default}
use Rattle.definition.specs.Numbers.{ImageFormatUnknown}
use Rattle.definition.specs.Shapes.{Format, formats, format_at, floating, kind_of}
use Rattle.kinds.specs.declared.ScalarKind.TheVariants.{Float}
use Rattle.spirv.specs.declared.images.ImageFormat.TheVariants.{Unknown}
use Rattle.locals.specs.declared.TheConstants.{FORMATS}
use Rattle.locals.specs.Made.{described}

all_formats : map described FORMATS ≡ formats
unfolding formats kind_of
all_formats = refl

pub format_is : (f : ℕ) → described (get_or FORMATS f (Unknown, Float)) ≡ format_at f
unfolding kind_of
format_is f = sym (get_or-map described FORMATS f (Unknown, Float)) ∙ ap (λ (l : List Format). get_or l f (floating ImageFormatUnknown)) all_formats

-- past the end
pub past_end : (f : ℕ) → 40 ≤ f → described (Unknown, Float) ≡ format_at f
past_end f h = ap described (sym (get_or-eq_default FORMATS (Unknown, Float) h)) ∙ format_is f
