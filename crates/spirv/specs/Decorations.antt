-- The decorations by the definition's names.
use Rattle.std.specs.Prelude.{ℕ}
use Rattle.definition.specs.Numbers.{DecorationBlock, DecorationColMajor, DecorationArrayStride, DecorationMatrixStride, DecorationNonWritable, DecorationNonReadable, DecorationBinding, DecorationDescriptorSet, DecorationOffset}
use Rattle.spirv.specs.declared.decorations.Decoration.{Decoration}
use Rattle.spirv.specs.declared.decorations.Decoration.TheVariants.{Block, ColMajor, ArrayStride, MatrixStride, NonWritable, NonReadable, Binding, DescriptorSet, Offset}

abbrev pub decoration_number : Decoration → ℕ
decoration_number Block = DecorationBlock
decoration_number ColMajor = DecorationColMajor
decoration_number ArrayStride = DecorationArrayStride
decoration_number MatrixStride = DecorationMatrixStride
decoration_number NonWritable = DecorationNonWritable
decoration_number NonReadable = DecorationNonReadable
decoration_number Binding = DecorationBinding
decoration_number DescriptorSet = DecorationDescriptorSet
decoration_number Offset = DecorationOffset
