-- Rows of pages whose sites are changed: each has as many places as before.
use Rattle.std.proofs.Common.{◌≡◌, ℕ, List, length, slice_get, Option, None, Some, refl, ◌∙◌, ap, map}
use Rattle.std.specs.Prelude.{option_map}
use Rattle.std.proofs.lemmas.List.{length-map}
use Rattle.std.proofs.lemmas.Option.{slice_get-map}
use Rattle.fdp_base.specs.declared.entry.Spot.{Spot}

-- how many places a row has
abbrev pub count_at : List (List (Option Spot)) → ℕ → Option ℕ
count_at rows ticket = option_map (λ pages. length pages) (slice_get rows ticket)

-- a table whose rows were all changed in place
pub count-changed : (f : Option Spot → Option Spot) (rows : List (List (Option Spot))) (ticket : ℕ) → count_at (map (map f) rows) ticket ≡ count_at rows ticket
count-changed f rows ticket =
    ap (λ (o : Option (List (Option Spot))). option_map (λ pages. length pages) o) (slice_get-map (map f) rows ticket)
    ∙ elim (slice_get rows ticket) as (λ o. option_map (λ (pages : List (Option Spot)). length pages) (option_map (map f) o) ≡ option_map (λ pages. length pages) o) [ None ↦ refl | Some pages ↦ ap Some (length-map pages f) ]
