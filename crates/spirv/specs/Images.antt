-- The dimensions and the formats of images by the definition's names.
use Rattle.std.specs.Prelude.{ℕ}
use Rattle.definition.specs.Numbers as numbers
use Rattle.definition.specs.Numbers.{ImageFormatUnknown, ImageFormatRgba32f, ImageFormatRgba16f, ImageFormatR32f, ImageFormatRgba8, ImageFormatRgba8Snorm, ImageFormatRg32f, ImageFormatRg16f, ImageFormatR11fG11fB10f, ImageFormatR16f, ImageFormatRgba16, ImageFormatRgb10A2, ImageFormatRg16, ImageFormatRg8, ImageFormatR16, ImageFormatR8, ImageFormatRgba16Snorm, ImageFormatRg16Snorm, ImageFormatRg8Snorm, ImageFormatR16Snorm, ImageFormatR8Snorm, ImageFormatRgba32i, ImageFormatRgba16i, ImageFormatRgba8i, ImageFormatR32i, ImageFormatRg32i, ImageFormatRg16i, ImageFormatRg8i, ImageFormatR16i, ImageFormatR8i, ImageFormatRgba32ui, ImageFormatRgba16ui, ImageFormatRgba8ui, ImageFormatR32ui, ImageFormatRgb10a2ui, ImageFormatRg32ui, ImageFormatRg16ui, ImageFormatRg8ui, ImageFormatR16ui, ImageFormatR8ui}
use Rattle.spirv.specs.declared.images.Dim.{Dim}
use Rattle.spirv.specs.declared.images.Dim.TheVariants.{Dim1D, Dim2D, Dim3D, DimCube}
use Rattle.spirv.specs.declared.images.ImageFormat.{ImageFormat}
use Rattle.spirv.specs.declared.images.ImageFormat.TheVariants.{Unknown, Rgba32f, Rgba16f, R32f, Rgba8, Rgba8Snorm, Rg32f, Rg16f, R11fG11fB10f, R16f, Rgba16, Rgb10A2, Rg16, Rg8, R16, R8, Rgba16Snorm, Rg16Snorm, Rg8Snorm, R16Snorm, R8Snorm, Rgba32i, Rgba16i, Rgba8i, R32i, Rg32i, Rg16i, Rg8i, R16i, R8i, Rgba32ui, Rgba16ui, Rgba8ui, R32ui, Rgb10a2ui, Rg32ui, Rg16ui, Rg8ui, R16ui, R8ui}

abbrev pub dim_number : Dim → ℕ
dim_number Dim1D = numbers.Dim1D
dim_number Dim2D = numbers.Dim2D
dim_number Dim3D = numbers.Dim3D
dim_number DimCube = numbers.DimCube

abbrev pub format_number : ImageFormat → ℕ
format_number Unknown = ImageFormatUnknown
format_number Rgba32f = ImageFormatRgba32f
format_number Rgba16f = ImageFormatRgba16f
format_number R32f = ImageFormatR32f
format_number Rgba8 = ImageFormatRgba8
format_number Rgba8Snorm = ImageFormatRgba8Snorm
format_number Rg32f = ImageFormatRg32f
format_number Rg16f = ImageFormatRg16f
format_number R11fG11fB10f = ImageFormatR11fG11fB10f
format_number R16f = ImageFormatR16f
format_number Rgba16 = ImageFormatRgba16
format_number Rgb10A2 = ImageFormatRgb10A2
format_number Rg16 = ImageFormatRg16
format_number Rg8 = ImageFormatRg8
format_number R16 = ImageFormatR16
format_number R8 = ImageFormatR8
format_number Rgba16Snorm = ImageFormatRgba16Snorm
format_number Rg16Snorm = ImageFormatRg16Snorm
format_number Rg8Snorm = ImageFormatRg8Snorm
format_number R16Snorm = ImageFormatR16Snorm
format_number R8Snorm = ImageFormatR8Snorm
format_number Rgba32i = ImageFormatRgba32i
format_number Rgba16i = ImageFormatRgba16i
format_number Rgba8i = ImageFormatRgba8i
format_number R32i = ImageFormatR32i
format_number Rg32i = ImageFormatRg32i
format_number Rg16i = ImageFormatRg16i
format_number Rg8i = ImageFormatRg8i
format_number R16i = ImageFormatR16i
format_number R8i = ImageFormatR8i
format_number Rgba32ui = ImageFormatRgba32ui
format_number Rgba16ui = ImageFormatRgba16ui
format_number Rgba8ui = ImageFormatRgba8ui
format_number R32ui = ImageFormatR32ui
format_number Rgb10a2ui = ImageFormatRgb10a2ui
format_number Rg32ui = ImageFormatRg32ui
format_number Rg16ui = ImageFormatRg16ui
format_number Rg8ui = ImageFormatRg8ui
format_number R16ui = ImageFormatR16ui
format_number R8ui = ImageFormatR8ui
