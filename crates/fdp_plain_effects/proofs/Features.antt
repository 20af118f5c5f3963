-- References and kinds of event that are all forgotten, or set for a handle.
use Rattle.std.proofs.Common.{◌≡◌, ℕ, ◌+◌, ◌*◌, ◌<◌, Bool, true, false, List, length, map, set, get_or, slice_get, Option, None, Some, refl, ap, sym, ◌∙◌, cond}
use Rattle.std.specs.Prelude.{◌==◌, ◌&&◌, nat_lt, if◌then◌else◌, option_map}
use Rattle.std.specs.List.{list_any}
use Rattle.std.specs.Option.{option_map_or}
use Rattle.std.proofs.lemmas.Option.{slice_get-get_or, slice_get-map}
use Rattle.fdp_base.specs.declared.config.DriveConfig.{DriveConfig}
use Rattle.fdp_base.specs.declared.event.EventKind.{EventKind}
use Rattle.fdp_base.specs.declared.event.EventKind.TheVariants as kinds
use Rattle.fdp_rules.specs.Effect.{no_reference, reporting, without_references}
use Rattle.fdp_base.specs.EventCodes.{kind_code}
use Rattle.fdp_base.specs.Numbers.{with_at}
use Rattle.fdp_rules.specs.PlainState.{PlainState, Reference}
use Rattle.fdp_tables.specs.declared.state.KeptReference.{KeptReference}
use Rattle.fdp_tables.specs.declared.state.KeptReports.{KeptReports}
use Rattle.fdp_tables.specs.Reports.{no_reports}
use Rattle.fdp_tables.specs.State.{keeps, reference_of}
use Rattle.fdp_tables.proofs.Spaces.{with_at_if}
use Rattle.fdp_tables.proofs.Tables.{read-set}

-- what is read of a table in which each row is the same
pub read_same : {X Y : Type 0} (f : Option X → Y) (xs : List X) (x : X) (y : Y) (i : ℕ) → f None ≡ y → f (Some x) ≡ y → f (slice_get (map (λ (z : X). x) xs) i) ≡ y
read_same {X} f xs x y i none some =
    ap f (slice_get-map (λ (z : X). x) xs i)
    ∙ elim (slice_get xs i) as (λ o. f (option_map (λ (z : X). x) o) ≡ y) [ None ↦ none | Some z ↦ some ]

-- the references of a table
abbrev pub references_in : DriveConfig → List KeptReference → ℕ → ℕ → Reference
references_in c xs rg ruh = if nat_lt ruh 16 then option_map_or reference_of (slice_get xs (16 * rg + ruh)) (no_reference c) else no_reference c

pub references_cleared : (s : PlainState) (c : DriveConfig) (xs ys : List KeptReference) (x : KeptReference) → reference_of x ≡ no_reference c → ys ≡ map (λ (z : KeptReference). x) xs
    → (let now : PlainState = record s { references = references_in c ys } in now) ≡ without_references c s
references_cleared s c xs ys x none e =
    let row : (i : ℕ) → option_map_or reference_of (slice_get (map (λ (z : KeptReference). x) xs) i) (no_reference c) ≡ no_reference c = λ i.
    read_same (λ o. option_map_or reference_of o (no_reference c)) xs x (no_reference c) i refl none in
    let each : (rg ruh : ℕ) → references_in c (map (λ (z : KeptReference). x) xs) rg ruh ≡ no_reference c = λ rg ruh.
    elim (nat_lt ruh 16) as (λ b. cond b (option_map_or reference_of (slice_get (map (λ (z : KeptReference). x) xs) (16 * rg + ruh)) (no_reference c)) (no_reference c) ≡ no_reference c) [ true ↦ row (16 * rg + ruh) | false ↦ refl ] in
    ap (λ zs. let now : PlainState = record s { references = references_in c zs } in now) e
    ∙ (λ d. record s { references = λ rg ruh. each rg ruh d })

-- the kinds of event of a table
abbrev pub reports_in : List KeptReports → ℕ → EventKind → Bool
reports_in xs ruh kind = option_map_or (keeps kind) (slice_get xs ruh) false

keeps_none : (kind : EventKind) → keeps kind no_reports ≡ false
keeps_none kinds.NotFullyWritten = refl
keeps_none kinds.TimeLimitExceeded = refl
keeps_none kinds.HandlesModified = refl
keeps_none kinds.InvalidPlacementIdentifier = refl
keeps_none kinds.MediaReallocated = refl
keeps_none kinds.ImplicitlyModified = refl

pub reports_cleared : (s : PlainState) (xs ys : List KeptReports) → ys ≡ map (λ (z : KeptReports). no_reports) xs
    → (let now : PlainState = record s { reports = reports_in ys } in now) ≡ record s { reports = λ ruh kind. false }
reports_cleared s xs ys e =
    let each : (ruh : ℕ) (kind : EventKind) → reports_in (map (λ (z : KeptReports). no_reports) xs) ruh kind ≡ false = λ ruh kind.
    read_same (λ o. option_map_or (keeps kind) o false) xs no_reports false ruh refl (keeps_none kind) in
    ap (λ zs. let now : PlainState = record s { reports = reports_in zs } in now) e
    ∙ (λ d. record s { reports = λ ruh kind. each ruh kind d })

pub reports_set : (s : PlainState) (xs : List KeptReports) (place : ℕ) (x y : KeptReports) (enable : Bool) (types : List ℕ) → place < length xs → x ≡ get_or xs place x
    → ((kind : EventKind) → keeps kind y ≡ (if list_any (λ code. code == kind_code kind) types then enable else keeps kind x))
    → (let now : PlainState = record s { reports = reports_in (set xs place y) } in now) ≡ reporting (record s { reports = reports_in xs }) place enable types
reports_set s xs place x y enable types there at set_to =
    let before : (kind : EventKind) → keeps kind x ≡ reports_in xs place kind = λ kind.
    ap (keeps kind) at ∙ ap (λ o. option_map_or (keeps kind) o false) (sym (slice_get-get_or xs place x there)) in
    let each : (ruh : ℕ) (kind : EventKind) → reports_in (set xs place y) ruh kind ≡ (if ruh == place && list_any (λ code. code == kind_code kind) types then enable else reports_in xs ruh kind) = λ ruh kind.
    read-set (λ o. option_map_or (keeps kind) o false) xs place y there ruh
    ∙ ap (λ b. with_at (λ r. reports_in xs r kind) place b ruh) (set_to kind ∙ ap (λ b. if list_any (λ code. code == kind_code kind) types then enable else b) (before kind))
    ∙ with_at_if (λ r. reports_in xs r kind) place enable (list_any (λ code. code == kind_code kind) types) ruh in
    λ d. record s { reports = λ ruh kind. each ruh kind d }

-- the answer for each kind
pub each_kind : (f : EventKind → Type 0) → f kinds.NotFullyWritten → f kinds.TimeLimitExceeded → f kinds.HandlesModified → f kinds.InvalidPlacementIdentifier → f kinds.MediaReallocated → f kinds.ImplicitlyModified → (kind : EventKind) → f kind
each_kind f a b c d e g kinds.NotFullyWritten = a
each_kind f a b c d e g kinds.TimeLimitExceeded = b
each_kind f a b c d e g kinds.HandlesModified = c
each_kind f a b c d e g kinds.InvalidPlacementIdentifier = d
each_kind f a b c d e g kinds.MediaReallocated = e
each_kind f a b c d e g kinds.ImplicitlyModified = g
