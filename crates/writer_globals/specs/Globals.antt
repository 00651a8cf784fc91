-- A global's declaration by what was read for it: the definition's rules, with their reading of the types done.
use Rattle.entries.specs.declared.globals.ResourceBinding.{ResourceBinding}
use Rattle.std.specs.Prelude.{ℕ, suc, ◌≡◌, Bool, ◌&&◌, ◌||◌, List, [], ◌∷◌, eqb, Some}
use Rattle.std.specs.Prelude.{Option, None}
use Rattle.definition.specs.Bytes.{name_end}
use Rattle.definition.specs.Choice.{pick}
use Rattle.definition.specs.Numbers.{DecorationOffset, DecorationBinding, DecorationDescriptorSet}
use Rattle.definition.specs.Instructions.{decorate, member_decorate, type_struct, type_pointer}
use Rattle.definition.specs.Sheet.{TypeEntry, Remap, Global, Options, private_space, work_group_space}
use Rattle.definition.specs.Shapes.{storage_class, pointer, binding_pointer, entry, shape}
use Rattle.definition.specs.State.{State, Got, got, take_id, annotate, declare_alone}
use Rattle.definition.specs.Tests.{Seen}
use Rattle.definition.specs.Finding.{find}
use Rattle.definition.specs.Rules.{GotInit, block, stride_member, needs_wrapper, is_bound, binding_base, remap_of, inner_at, access_of, pointer_of, remapped_form, direct, in_wrapper, declare_global}
use Rattle.definition.specs.Rules as Defined
use Rattle.kinds.specs.Numbers.{space_number, space_access}
use Rattle.entries.specs.Globals.{global_of}
use Rattle.entries.specs.declared.globals.GlobalVariable.{GlobalVariable}
use Rattle.writer.specs.declared.Writer.{Writer}
use Rattle.writer.specs.Cost.{Cost}
use Rattle.writer.specs.Held.{Held, Grown}
use Rattle.writer.specs.Steps.{Tail}
use Rattle.finding.specs.Costs.{null_cost}
use Rattle.writer_globals.specs.declared.pointers.PointerForm.{PointerForm}
use Rattle.writer_globals.specs.declared.pointers.PointerForm.TheVariants.{Direct, Wrapped, Remapped}
use Rattle.writer_globals.specs.declared.Plan.{Plan}
use Rattle.writer_globals.specs.Costs.{global_cost}

-- ---- the pointer

-- the wrapper of a type, by its column stride
abbrev pub wrap_in : Option ℕ → ℕ → ℕ → State → Got
wrap_in o t class s =
    let w = suc s.last in
    let g = find (entry t) (stride_member o w 0 (annotate (member_decorate w 0 DecorationOffset (0 ∷ [])) (annotate (block w) (take_id s)))) in
    let u = declare_alone (type_struct w (g.id ∷ [])) g.state in
    got (suc u.last) (declare_alone (type_pointer (suc u.last) class w) (take_id u))

-- the pointer of a global, by its form
abbrev pub pointer_by : PointerForm → GlobalVariable → State → Got
pointer_by Direct g s = find (shape (pointer g.ty (storage_class (space_number g.space)))) s
pointer_by (Wrapped d) g s = wrap_in d g.ty (storage_class (space_number g.space)) s
pointer_by (Remapped b n) g s = find (shape (binding_pointer b n (space_number g.space) (space_access g.space))) s

-- the size to which a binding is remapped
abbrev pub size_for : List Remap → Option ResourceBinding → Option ℕ
size_for rs None = None
size_for rs (Some r) = remap_of rs r.group r.binding

-- the definition's form, by the types and the remaps alone
abbrev pub pointer_form_in : List TypeEntry → List Remap → Global → Defined.PointerForm
pointer_form_in ts rs g =
    pick (needs_wrapper ts g) in_wrapper
    (pick (is_bound g) (remapped_form (binding_base (inner_at ts g.type)) (remap_of rs g.group g.binding)) direct)

-- ---- decorations

-- DescriptorSet and Binding, of a binding that is there
abbrev pub binding_decorated : Option ResourceBinding → ℕ → State → State
binding_decorated None id s = s
binding_decorated (Some r) id s = annotate (decorate id DecorationBinding (r.binding ∷ [])) (annotate (decorate id DecorationDescriptorSet (r.group ∷ [])) s)

-- ---- the init

-- the init, and the state in which it is declared, are held
pub record InitGiven (g : GotInit) (init : Option ℕ) (w : Writer) : Type 0 where
  pub named : init ≡ g.init
  pub held : Held w g.state

-- an init is come by
pub record Initialised (f : State → GotInit) (w : Writer) (init : Option ℕ) (v : Writer) : Type 0 where
  pub grown : Grown null_cost w v
  pub tail : Tail null_cost w v
  pub gives : (s : State) → Held w s → InitGiven (f s) init v

-- ---- the whole

-- a plan has what the rules read for a global, given the types, the remaps and whether memory is zeroed
pub record Planned (ts : List TypeEntry) (rs : List Remap) (zeroing : Bool) (b : List ℕ) (g : GlobalVariable) (p : Plan) : Type 0 where
  pub access : p.access ≡ access_of ts (global_of b g)
  pub form : (x : State) → pointer_by p.form g x ≡ pointer_of (pointer_form_in ts rs (global_of b g)) ts (global_of b g) x
  pub base : p.base ≡ binding_base (inner_at ts g.ty)
  pub null : p.null ≡ (eqb (space_number g.space) private_space || (eqb (space_number g.space) work_group_space && zeroing))

-- a global is declared, given the types and the remaps, whatever else was read
pub record GlobalKept (c : Cost) (o : Options) (ts : List TypeEntry) (rs : List Remap) (g : Global) (w v : Writer) : Type 0 where
  pub grown : Grown c w v
  pub tail : Tail c w v
  pub held : (d : Seen) → d.types ≡ ts → d.remaps ≡ rs → (s : State) → Held w s → Held v (declare_global o d g s)

-- a global is declared by its plan, whatever that was read of
abbrev pub WrittenBy : Plan → Bool → List ℕ → GlobalVariable → Writer → Writer → Type 0
WrittenBy p debug b g w v =
    (ts : List TypeEntry) (rs : List Remap) (zeroing : Bool) → Planned ts rs zeroing b g p
    → GlobalKept (global_cost (name_end b 0)) (record { debug = debug; zeroing = zeroing }) ts rs (global_of b g) w v
