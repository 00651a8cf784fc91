-- What the program makes of an entry, as the definition has it.
use Rattle.definition.specs.Shapes.{Shape, Format, kind_of}
use Rattle.kinds.specs.declared.ScalarKind.{ScalarKind}
use Rattle.kinds.specs.Numbers.{kind_number}
use Rattle.spirv.specs.declared.images.ImageFormat.{ImageFormat}
use Rattle.spirv.specs.Images.{format_number}
use Rattle.lookup.specs.declared.LocalImageType.{LocalImageType}
use Rattle.lookup.specs.declared.LocalType.TheVariants.{Image}
use Rattle.lookup.specs.Local.{local_shape}

-- an image's shape
abbrev pub image_shape : LocalImageType → Shape
image_shape i = local_shape (Image i)

-- a storage format of a scalar kind, whose width is 4
abbrev pub described : ImageFormat × ScalarKind → Format
described (f, k) = record { number = format_number f; kind = kind_of (kind_number k) 4 }
