-- Document 01's number for each case.
use Rattle.std.specs.Prelude.{ℕ, Bool, true, false}
use Rattle.kinds.specs.declared.ScalarKind.{ScalarKind}
use Rattle.kinds.specs.declared.ScalarKind.TheVariants.{Sint, Uint, Float, Bool as Boolean}
use Rattle.kinds.specs.declared.AddressSpace.{AddressSpace}
use Rattle.kinds.specs.declared.AddressSpace.TheVariants.{Function, Private, WorkGroup, Uniform, Storage, Handle, PushConstant}
use Rattle.kinds.specs.declared.ImageDimension.{ImageDimension}
use Rattle.kinds.specs.declared.ImageDimension.TheVariants.{D1, D2, D3, Cube}
use Rattle.kinds.specs.declared.ImageClass.{ImageClass}
use Rattle.kinds.specs.declared.ImageClass.TheVariants.{Sampled, Depth, Storage as Stored}

abbrev pub flag_number : Bool → ℕ
flag_number false = 0
flag_number true = 1

-- "Kind: 0 Sint, 1 Uint, 2 Float, 3 Bool"
abbrev pub kind_number : ScalarKind → ℕ
kind_number Sint = 0
kind_number Uint = 1
kind_number Float = 2
kind_number Boolean = 3

-- "Space: 0 Function, 1 Private, 2 WorkGroup, 3 Uniform, 4 Storage, 5 Handle, 6 PushConstant, then an access byte"
abbrev pub space_number : AddressSpace → ℕ
space_number Function = 0
space_number Private = 1
space_number WorkGroup = 2
space_number Uniform = 3
space_number (Storage a) = 4
space_number Handle = 5
space_number PushConstant = 6

-- "0 unless Storage"
abbrev pub space_access : AddressSpace → ℕ
space_access Function = 0
space_access Private = 0
space_access WorkGroup = 0
space_access Uniform = 0
space_access (Storage a) = a
space_access Handle = 0
space_access PushConstant = 0

-- "dim (0 D1, 1 D2, 2 D3, 3 Cube)"
abbrev pub dimension_number : ImageDimension → ℕ
dimension_number D1 = 0
dimension_number D2 = 1
dimension_number D3 = 2
dimension_number Cube = 3

-- "0 sampled (kind 0 to 2, multi 0 or 1), 1 depth (0, multi), 2 storage (format 0 to 39, access 0 to 3)"
abbrev pub class_number : ImageClass → ℕ
class_number (Sampled k m) = 0
class_number (Depth m) = 1
class_number (Stored f a) = 2

abbrev pub class_first : ImageClass → ℕ
class_first (Sampled k m) = kind_number k
class_first (Depth m) = 0
class_first (Stored f a) = f

abbrev pub class_second : ImageClass → ℕ
class_second (Sampled k m) = flag_number m
class_second (Depth m) = flag_number m
class_second (Stored f a) = a
