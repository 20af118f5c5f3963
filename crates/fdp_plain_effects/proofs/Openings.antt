-- Rows that are all forgotten as a drive is opened.
use Rattle.std.proofs.Common.{◌≡◌, ◌∙◌, ℕ, Bool, false, List, map, slice_get, Option, None, refl, ap}
use Rattle.std.specs.Prelude.{option_map, unwrap_or}
use Rattle.std.specs.Option.{option_flatten}
use Rattle.fdp_rules.specs.PlainState.{Going, PlainState}
use Rattle.fdp_tables.specs.declared.state.KeptGoing.{KeptGoing}
use Rattle.fdp_tables.specs.State.{going_of, row}
use Rattle.fdp_plain_effects.proofs.Features.{read_same}

-- the writes that are going in a table
abbrev pub writes_in : List (Option KeptGoing) → ℕ → Option Going
writes_in xs queue = option_map going_of (row xs queue)

pub writes_cleared : (s : PlainState) (xs ys : List (Option KeptGoing)) → ys ≡ map (λ (z : Option KeptGoing). None) xs
    → (let now : PlainState = record s { going = writes_in ys } in now) ≡ record s { going = λ queue. None }
writes_cleared s xs ys e =
    let each : (queue : ℕ) → writes_in (map (λ (z : Option KeptGoing). None) xs) queue ≡ None = λ queue.
    read_same (λ o. option_map going_of (option_flatten o)) xs None None queue refl refl in
    ap (λ zs. let now : PlainState = record s { going = writes_in zs } in now) e
    ∙ (λ d. record s { going = λ queue. each queue d })

marks_cleared : (xs : List Bool) (i : ℕ) → unwrap_or (slice_get (map (λ (z : Bool). false) xs) i) false ≡ false
marks_cleared xs i = read_same (λ o. unwrap_or o false) xs false false i refl refl

pub lost_cleared : (s : PlainState) (xs ys : List Bool) → ys ≡ map (λ (z : Bool). false) xs
    → (let now : PlainState = record s { is_lost = λ unit. unwrap_or (slice_get ys unit) false } in now) ≡ record s { is_lost = λ unit. false }
lost_cleared s xs ys e =
    ap (λ zs. let now : PlainState = record s { is_lost = λ unit. unwrap_or (slice_get zs unit) false } in now) e
    ∙ (λ d. record s { is_lost = λ unit. marks_cleared xs unit d })

pub worn_cleared : (s : PlainState) (xs ys : List Bool) → ys ≡ map (λ (z : Bool). false) xs
    → (let now : PlainState = record s { is_worn = λ rg. unwrap_or (slice_get ys rg) false } in now) ≡ record s { is_worn = λ rg. false }
worn_cleared s xs ys e =
    ap (λ zs. let now : PlainState = record s { is_worn = λ rg. unwrap_or (slice_get zs rg) false } in now) e
    ∙ (λ d. record s { is_worn = λ rg. marks_cleared xs rg d })
