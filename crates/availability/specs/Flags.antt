-- What is available, as the program keeps it: a flag for each capability that a rule checks.
use Rattle.std.specs.Prelude.{ℕ, ◌≡◌, Bool, true, List, eqb}
use Rattle.std.specs.Prelude.{Option}
use Rattle.definition.specs.Choice.{pick}
use Rattle.definition.specs.Numbers.{CapabilityImageCubeArray, CapabilitySampled1D, CapabilityImage1D, CapabilitySampledCubeArray, CapabilityStorageImageExtendedFormats, CapabilityRayQueryKHR}
use Rattle.definition.specs.Unfit.{is_available}
use Rattle.availability.specs.declared.Available.{Available}

-- each flag says whether its capability is available, where o is what an Available record lists, or none
pub record Flagged (o : Option (List ℕ)) (a : Available) : Type 0 where
  pub image_cube_array : a.image_cube_array ≡ is_available o CapabilityImageCubeArray
  pub sampled_1d : a.sampled_1d ≡ is_available o CapabilitySampled1D
  pub image_1d : a.image_1d ≡ is_available o CapabilityImage1D
  pub sampled_cube_array : a.sampled_cube_array ≡ is_available o CapabilitySampledCubeArray
  pub storage_image_extended_formats : a.storage_image_extended_formats ≡ is_available o CapabilityStorageImageExtendedFormats
  pub ray_query_khr : a.ray_query_khr ≡ is_available o CapabilityRayQueryKHR

-- a capability's flag; no rule checks any other number
abbrev pub flag_of : Available → ℕ → Bool
flag_of a c =
    pick (eqb c CapabilityImageCubeArray) a.image_cube_array
    (pick (eqb c CapabilitySampled1D) a.sampled_1d
    (pick (eqb c CapabilityImage1D) a.image_1d
    (pick (eqb c CapabilitySampledCubeArray) a.sampled_cube_array
    (pick (eqb c CapabilityStorageImageExtendedFormats) a.storage_image_extended_formats
    (pick (eqb c CapabilityRayQueryKHR) a.ray_query_khr true)))))
