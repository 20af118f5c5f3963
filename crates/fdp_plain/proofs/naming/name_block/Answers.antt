use Rattle.std.proofs.Common.{◌≡◌, ◌∙◌, ◌<◌, ℕ, List, None, Option, ap, get_or, length, set, sym}
use Rattle.std.specs.Option.{option_flatten}
use Rattle.std.specs.Prelude.{option_map}
use Rattle.std.proofs.lemmas.List.{set-get_or}
use Rattle.std.proofs.lemmas.Option.{slice_get-get_or}
use Rattle.fdp_tables.specs.State.{row}
use Rattle.fdp_plain.specs.Reopening.{named_block}
use Rattle.fdp_plain.proofs.naming.name_block.Goals as goal

-- where there is no block, none is put there
none-put : {X : Type 0} (f : X → X) (xs : List (Option X)) (i : ℕ) → i < length xs → row xs i ≡ None → xs ≡ set xs i (option_map f (row xs i))
none-put f xs i low none =
    let here : get_or xs i None ≡ row xs i = sym (ap option_flatten (slice_get-get_or xs i None low)) in
    let there : option_map f (row xs i) ≡ get_or xs i None = ap (option_map f) none ∙ sym none ∙ sym here in
    sym (ap (set xs i) there ∙ set-get_or xs i None)

pub returns-in_default : goal.returns-in_default
returns-in_default c = none-put (named_block (record { written_rows = c.args.sites.now.rows; found_rows = c.args.found.now.rows })) c.args.blocks.now c.args.place c.requires (sym c.in_default.ensures)
