-- The opcodes by the definition's names.
use Rattle.std.specs.Prelude.{ℕ}
use Rattle.definition.specs.Numbers.{OpName, OpMemberName, OpCapability, OpTypeVoid, OpTypeBool, OpTypeInt, OpTypeFloat, OpTypeVector, OpTypeMatrix, OpTypeImage, OpTypeSampler, OpTypeArray, OpTypeRuntimeArray, OpTypeStruct, OpTypePointer, OpTypeFunction, OpConstantTrue, OpConstantFalse, OpConstant, OpConstantComposite, OpConstantNull, OpVariable, OpDecorate, OpMemberDecorate, OpTypeRayQueryKHR, OpTypeAccelerationStructureKHR}
use Rattle.spirv.specs.declared.opcodes.Op.{Op}
use Rattle.spirv.specs.declared.opcodes.Op.TheVariants.{Name, MemberName, Capability, TypeVoid, TypeBool, TypeInt, TypeFloat, TypeVector, TypeMatrix, TypeImage, TypeSampler, TypeArray, TypeRuntimeArray, TypeStruct, TypePointer, TypeFunction, ConstantTrue, ConstantFalse, Constant, ConstantComposite, ConstantNull, Variable, Decorate, MemberDecorate, TypeRayQueryKhr, TypeAccelerationStructureKhr}

abbrev pub opcode_of : Op → ℕ
opcode_of Name = OpName
opcode_of MemberName = OpMemberName
opcode_of Capability = OpCapability
opcode_of TypeVoid = OpTypeVoid
opcode_of TypeBool = OpTypeBool
opcode_of TypeInt = OpTypeInt
opcode_of TypeFloat = OpTypeFloat
opcode_of TypeVector = OpTypeVector
opcode_of TypeMatrix = OpTypeMatrix
opcode_of TypeImage = OpTypeImage
opcode_of TypeSampler = OpTypeSampler
opcode_of TypeArray = OpTypeArray
opcode_of TypeRuntimeArray = OpTypeRuntimeArray
opcode_of TypeStruct = OpTypeStruct
opcode_of TypePointer = OpTypePointer
opcode_of TypeFunction = OpTypeFunction
opcode_of ConstantTrue = OpConstantTrue
opcode_of ConstantFalse = OpConstantFalse
opcode_of Constant = OpConstant
opcode_of ConstantComposite = OpConstantComposite
opcode_of ConstantNull = OpConstantNull
opcode_of Variable = OpVariable
opcode_of Decorate = OpDecorate
opcode_of MemberDecorate = OpMemberDecorate
opcode_of TypeRayQueryKhr = OpTypeRayQueryKHR
opcode_of TypeAccelerationStructureKhr = OpTypeAccelerationStructureKHR
