-- A global and a remap of the program as the definition's.
use Rattle.std.specs.Prelude.{ℕ, ◌≡◌, true, List}
use Rattle.std.specs.Prelude.{Option, Some, None}
use Rattle.definition.specs.Bytes.{name_at, name_end}
use Rattle.definition.specs.Sheet.{global_fields, global}
use Rattle.definition.specs.Tests.{values_fit}
use Rattle.records.specs.Places.{record_from}
use Rattle.entries.specs.declared.globals.ResourceBinding.{ResourceBinding}
use Rattle.entries.specs.declared.globals.GlobalVariable.{GlobalVariable}
use Rattle.entries.specs.declared.globals.Remap.{Remap}
use Rattle.kinds.specs.Numbers.{space_number, space_access}
use Rattle.definition.specs.Sheet as Defined

-- "bound 0 or 1, group, binding (32 bits each, 0 if unbound)"
abbrev pub bound_number : Option ResourceBinding → ℕ
bound_number None = 0
bound_number (Some r) = 1

abbrev pub group_number : Option ResourceBinding → ℕ
group_number None = 0
group_number (Some r) = r.group

abbrev pub binding_number : Option ResourceBinding → ℕ
binding_number None = 0
binding_number (Some r) = r.binding

-- the binding is that of the global g
pub record Bindings (x : Option ResourceBinding) (g : Defined.Global) : Type 0 where
  pub bound : bound_number x ≡ g.bound
  pub group : group_number x ≡ g.group
  pub binding : binding_number x ≡ g.binding

-- of the body b: its name stands there
abbrev pub global_of : List ℕ → GlobalVariable → Defined.Global
global_of b g = record {
  name = name_at b 0;
  type = g.ty;
  space = space_number g.space;
  access = space_access g.space;
  bound = bound_number g.binding;
  group = group_number g.binding;
  binding = binding_number g.binding;
  init = g.init;
}

abbrev pub remap_as : Remap → Defined.Remap
remap_as m = record { group = m.group; binding = m.binding; size = m.size }

-- what was taken for the global of body b is that global, if its fields pass test 10
abbrev pub GlobalTaken : List ℕ → GlobalVariable → Type 0
GlobalTaken b g = values_fit (global (global_fields b (name_end b 0)).value) ≡ true → global_of b g ≡ (global_fields b (name_end b 0)).value

-- the same of the global whose record stands at a place of the sheet
abbrev pub GlobalTakenFrom : List ℕ → ℕ → GlobalVariable → Type 0
GlobalTakenFrom s at g = GlobalTaken (record_from s at).body g
