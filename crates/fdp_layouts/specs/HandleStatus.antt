-- The layouts of the Reclaim Unit Handle Status.
use Rattle.std.specs.Prelude.{ℕ, List, [], ◌∷◌}
use Rattle.fdp_layouts.specs.Frame.{Field, number}
use Rattle.fdp_layouts.specs.declared.handle_status.RuhStatusHead.{RuhStatusHead}
use Rattle.fdp_layouts.specs.declared.handle_status.RuhStatusDesc.{RuhStatusDesc}

-- count 14+2
abbrev pub ruh_status_head : List Field
ruh_status_head = number 14 2 ∷ []

abbrev pub ruh_status_head_numbers : RuhStatusHead → List (List ℕ)
ruh_status_head_numbers h = (h.descriptors ∷ []) ∷ []

-- PID 0+2, RUHID 2+2, EARUTR 4+4, RUAMW 8+8
abbrev pub ruh_status_desc : List Field
ruh_status_desc = number 0 2 ∷ number 2 2 ∷ number 4 4 ∷ number 8 8 ∷ []

abbrev pub ruh_status_desc_numbers : RuhStatusDesc → List (List ℕ)
ruh_status_desc_numbers d = (d.pid ∷ []) ∷ (d.ruhid ∷ []) ∷ (d.earutr ∷ []) ∷ (d.ruamw ∷ []) ∷ []
