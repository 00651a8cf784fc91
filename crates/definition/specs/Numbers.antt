-- Numbers of the SPIR-V Specification, each by the name that its registry and its C header give it.
-- tests/numbers compares this file with the registry's JSON.
use Rattle.std.specs.Prelude.{ℕ}

-- The module's first words
abbrev pub MagicNumber : ℕ
MagicNumber = 0x07230203

-- Opcodes
abbrev pub OpName : ℕ
OpName = 5

abbrev pub OpMemberName : ℕ
OpMemberName = 6

abbrev pub OpCapability : ℕ
OpCapability = 17

abbrev pub OpTypeVoid : ℕ
OpTypeVoid = 19

abbrev pub OpTypeBool : ℕ
OpTypeBool = 20

abbrev pub OpTypeInt : ℕ
OpTypeInt = 21

abbrev pub OpTypeFloat : ℕ
OpTypeFloat = 22

abbrev pub OpTypeVector : ℕ
OpTypeVector = 23

abbrev pub OpTypeMatrix : ℕ
OpTypeMatrix = 24

abbrev pub OpTypeImage : ℕ
OpTypeImage = 25

abbrev pub OpTypeSampler : ℕ
OpTypeSampler = 26

abbrev pub OpTypeArray : ℕ
OpTypeArray = 28

abbrev pub OpTypeRuntimeArray : ℕ
OpTypeRuntimeArray = 29

abbrev pub OpTypeStruct : ℕ
OpTypeStruct = 30

abbrev pub OpTypePointer : ℕ
OpTypePointer = 32

abbrev pub OpTypeFunction : ℕ
OpTypeFunction = 33

abbrev pub OpConstantTrue : ℕ
OpConstantTrue = 41

abbrev pub OpConstantFalse : ℕ
OpConstantFalse = 42

abbrev pub OpConstant : ℕ
OpConstant = 43

abbrev pub OpConstantComposite : ℕ
OpConstantComposite = 44

abbrev pub OpConstantNull : ℕ
OpConstantNull = 46

abbrev pub OpVariable : ℕ
OpVariable = 59

abbrev pub OpDecorate : ℕ
OpDecorate = 71

abbrev pub OpMemberDecorate : ℕ
OpMemberDecorate = 72

abbrev pub OpTypeRayQueryKHR : ℕ
OpTypeRayQueryKHR = 4472

abbrev pub OpTypeAccelerationStructureKHR : ℕ
OpTypeAccelerationStructureKHR = 5341

-- Decorations
abbrev pub DecorationBlock : ℕ
DecorationBlock = 2

abbrev pub DecorationColMajor : ℕ
DecorationColMajor = 5

abbrev pub DecorationArrayStride : ℕ
DecorationArrayStride = 6

abbrev pub DecorationMatrixStride : ℕ
DecorationMatrixStride = 7

abbrev pub DecorationNonWritable : ℕ
DecorationNonWritable = 24

abbrev pub DecorationNonReadable : ℕ
DecorationNonReadable = 25

abbrev pub DecorationBinding : ℕ
DecorationBinding = 33

abbrev pub DecorationDescriptorSet : ℕ
DecorationDescriptorSet = 34

abbrev pub DecorationOffset : ℕ
DecorationOffset = 35

-- Capabilities
abbrev pub CapabilityFloat16 : ℕ
CapabilityFloat16 = 9

abbrev pub CapabilityFloat64 : ℕ
CapabilityFloat64 = 10

abbrev pub CapabilityInt64 : ℕ
CapabilityInt64 = 11

abbrev pub CapabilityInt16 : ℕ
CapabilityInt16 = 22

abbrev pub CapabilityImageCubeArray : ℕ
CapabilityImageCubeArray = 34

abbrev pub CapabilityInt8 : ℕ
CapabilityInt8 = 39

abbrev pub CapabilitySampled1D : ℕ
CapabilitySampled1D = 43

abbrev pub CapabilityImage1D : ℕ
CapabilityImage1D = 44

abbrev pub CapabilitySampledCubeArray : ℕ
CapabilitySampledCubeArray = 45

abbrev pub CapabilityStorageImageExtendedFormats : ℕ
CapabilityStorageImageExtendedFormats = 49

abbrev pub CapabilityRayQueryKHR : ℕ
CapabilityRayQueryKHR = 4472

-- Storage classes
abbrev pub StorageClassUniformConstant : ℕ
StorageClassUniformConstant = 0

abbrev pub StorageClassUniform : ℕ
StorageClassUniform = 2

abbrev pub StorageClassWorkgroup : ℕ
StorageClassWorkgroup = 4

abbrev pub StorageClassPrivate : ℕ
StorageClassPrivate = 6

abbrev pub StorageClassFunction : ℕ
StorageClassFunction = 7

abbrev pub StorageClassPushConstant : ℕ
StorageClassPushConstant = 9

abbrev pub StorageClassStorageBuffer : ℕ
StorageClassStorageBuffer = 12

-- Dimensions of images
abbrev pub Dim1D : ℕ
Dim1D = 0

abbrev pub Dim2D : ℕ
Dim2D = 1

abbrev pub Dim3D : ℕ
Dim3D = 2

abbrev pub DimCube : ℕ
DimCube = 3

-- Formats of images
abbrev pub ImageFormatUnknown : ℕ
ImageFormatUnknown = 0

abbrev pub ImageFormatRgba32f : ℕ
ImageFormatRgba32f = 1

abbrev pub ImageFormatRgba16f : ℕ
ImageFormatRgba16f = 2

abbrev pub ImageFormatR32f : ℕ
ImageFormatR32f = 3

abbrev pub ImageFormatRgba8 : ℕ
ImageFormatRgba8 = 4

abbrev pub ImageFormatRgba8Snorm : ℕ
ImageFormatRgba8Snorm = 5

abbrev pub ImageFormatRg32f : ℕ
ImageFormatRg32f = 6

abbrev pub ImageFormatRg16f : ℕ
ImageFormatRg16f = 7

abbrev pub ImageFormatR11fG11fB10f : ℕ
ImageFormatR11fG11fB10f = 8

abbrev pub ImageFormatR16f : ℕ
ImageFormatR16f = 9

abbrev pub ImageFormatRgba16 : ℕ
ImageFormatRgba16 = 10

abbrev pub ImageFormatRgb10A2 : ℕ
ImageFormatRgb10A2 = 11

abbrev pub ImageFormatRg16 : ℕ
ImageFormatRg16 = 12

abbrev pub ImageFormatRg8 : ℕ
ImageFormatRg8 = 13

abbrev pub ImageFormatR16 : ℕ
ImageFormatR16 = 14

abbrev pub ImageFormatR8 : ℕ
ImageFormatR8 = 15

abbrev pub ImageFormatRgba16Snorm : ℕ
ImageFormatRgba16Snorm = 16

abbrev pub ImageFormatRg16Snorm : ℕ
ImageFormatRg16Snorm = 17

abbrev pub ImageFormatRg8Snorm : ℕ
ImageFormatRg8Snorm = 18

abbrev pub ImageFormatR16Snorm : ℕ
ImageFormatR16Snorm = 19

abbrev pub ImageFormatR8Snorm : ℕ
ImageFormatR8Snorm = 20

abbrev pub ImageFormatRgba32i : ℕ
ImageFormatRgba32i = 21

abbrev pub ImageFormatRgba16i : ℕ
ImageFormatRgba16i = 22

abbrev pub ImageFormatRgba8i : ℕ
ImageFormatRgba8i = 23

abbrev pub ImageFormatR32i : ℕ
ImageFormatR32i = 24

abbrev pub ImageFormatRg32i : ℕ
ImageFormatRg32i = 25

abbrev pub ImageFormatRg16i : ℕ
ImageFormatRg16i = 26

abbrev pub ImageFormatRg8i : ℕ
ImageFormatRg8i = 27

abbrev pub ImageFormatR16i : ℕ
ImageFormatR16i = 28

abbrev pub ImageFormatR8i : ℕ
ImageFormatR8i = 29

abbrev pub ImageFormatRgba32ui : ℕ
ImageFormatRgba32ui = 30

abbrev pub ImageFormatRgba16ui : ℕ
ImageFormatRgba16ui = 31

abbrev pub ImageFormatRgba8ui : ℕ
ImageFormatRgba8ui = 32

abbrev pub ImageFormatR32ui : ℕ
ImageFormatR32ui = 33

abbrev pub ImageFormatRgb10a2ui : ℕ
ImageFormatRgb10a2ui = 34

abbrev pub ImageFormatRg32ui : ℕ
ImageFormatRg32ui = 35

abbrev pub ImageFormatRg16ui : ℕ
ImageFormatRg16ui = 36

abbrev pub ImageFormatRg8ui : ℕ
ImageFormatRg8ui = 37

abbrev pub ImageFormatR16ui : ℕ
ImageFormatR16ui = 38

abbrev pub ImageFormatR8ui : ℕ
ImageFormatR8ui = 39
