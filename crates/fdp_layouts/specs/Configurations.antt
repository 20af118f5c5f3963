-- The layouts of the FDP Configurations log page.
use Rattle.std.specs.Prelude.{ℕ, ◌||◌, List, [], ◌∷◌, ◌==◌}
use Rattle.fdp_base.specs.declared.config.Class.{Class}
use Rattle.fdp_base.specs.Codes.{class_code}
use Rattle.fdp_base.specs.EventCodes.{bit}
use Rattle.fdp_layouts.specs.Frame.{Part, Field, any, zeros, code, number}
use Rattle.fdp_layouts.specs.declared.configurations.ConfigHead.{ConfigHead}
use Rattle.fdp_layouts.specs.declared.configurations.ConfigDesc.{ConfigDesc}
use Rattle.fdp_layouts.specs.declared.configurations.Attributes.{Attributes}
use Rattle.fdp_layouts.specs.declared.configurations.RuhClass.{RuhClass}

-- ---- the head

-- number of configurations 0+2, version 2+1, size 4+4
abbrev pub config_head : List Field
config_head = number 0 2 ∷ record { at = 2; parts = zeros 8 ∷ [] } ∷ number 4 4 ∷ []

abbrev pub config_head_numbers : ConfigHead → List (List ℕ)
config_head_numbers h = (h.configurations ∷ []) ∷ (0 ∷ []) ∷ (h.size ∷ []) ∷ []

-- ---- a configuration

-- RGIF bits 3:0, volatile cache bit 4, bits 6:5 zero, valid bit 7
abbrev pub attributes_parts : List Part
attributes_parts = any 4 ∷ any 1 ∷ zeros 2 ∷ any 1 ∷ []

abbrev pub attributes_numbers : Attributes → List ℕ
attributes_numbers a = a.rgif ∷ bit a.volatile_cache ∷ 0 ∷ bit a.valid ∷ []

-- size 0+2, attributes 2+1, vendor size 3+1, NRG 4+4, NRUH 8+2, MAXPIDS 10+2, NNSS 12+4, RUNS 16+8, ERUTL 24+4
abbrev pub config_desc : List Field
config_desc =
    number 0 2 ∷ record { at = 2; parts = attributes_parts } ∷ record { at = 3; parts = zeros 8 ∷ [] } ∷ number 4 4
    ∷ number 8 2 ∷ number 10 2 ∷ number 12 4 ∷ number 16 8 ∷ number 24 4 ∷ []

abbrev pub config_desc_numbers : ConfigDesc → List (List ℕ)
config_desc_numbers c =
    (c.size ∷ []) ∷ attributes_numbers c.attributes ∷ (0 ∷ []) ∷ (c.nrg ∷ []) ∷ (c.nruh ∷ []) ∷ (c.max_pids ∷ []) ∷ (c.nnss ∷ []) ∷ (c.runs ∷ []) ∷ (c.erutl ∷ []) ∷ []

-- ---- a handle

abbrev pub class_parts : List Part
class_parts = code (λ n. (n == 1) || (n == 2)) ∷ []

abbrev pub class_numbers : Class → List ℕ
class_numbers c = class_code c ∷ []

-- class 0+1
abbrev pub ruh_class : List Field
ruh_class = record { at = 0; parts = class_parts } ∷ []

abbrev pub ruh_class_numbers : RuhClass → List (List ℕ)
ruh_class_numbers r = class_numbers r.class ∷ []
