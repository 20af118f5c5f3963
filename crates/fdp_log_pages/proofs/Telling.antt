-- What is told of the usage of the handles is that of what stands.
use Rattle.std.proofs.Common.{◌≡◌, ◌≢◌, ◌%◌, ℕ, zero, suc, ◌+◌, ◌-◌, ◌<◌, ◌≤◌, Bool, true, false, List, [], ◌∷◌, ◌++◌, length, get_or, Option, Some, None, refl, sym, ap, ◌∙◌, arith}
use Rattle.std.specs.Prelude.{◌==◌, ◌&&◌, ◌||◌, flat_map, option_map, slice_get, if◌then◌else◌}
use Rattle.std.specs.Int.{to_le_bytes, w16}
use Rattle.std.specs.List.{list_any}
use Rattle.std.specs.Option.{option_and_then, option_map_or}
use Rattle.std.proofs.lemmas.Bool.Decides.{nat_tests}
use Rattle.std.proofs.lemmas.Option.{slice_get-get_or}
use Rattle.fdp_base.specs.Numbers.{numbers_below, numbers_from}
use Rattle.fdp_base.specs.Placement.{handle_count}
use Rattle.fdp_base.specs.declared.config.DriveConfig.{DriveConfig}
use Rattle.fdp_base.specs.declared.event.Event.{Event}
use Rattle.fdp_image.specs.Checkpoint.{in_place, namespace_of}
use Rattle.fdp_image.specs.CheckpointRows.{is_namespace_id}
use Rattle.fdp_rules.specs.LogPages.{configurations_log, events_log, gives_handle, lists_handle, log_page, statistics_log, usage_log, usage_of, zeros}
use Rattle.fdp_rules.specs.PlainState.{Namespace, PlainState}
use Rattle.fdp_rules.specs.Point.{Point}
use Rattle.fdp_rules.specs.Room.{handles_of, namespace_ids}
use Rattle.fdp_snapshot.specs.declared.space.Space.{Space}
use Rattle.fdp_log_pages.specs.Told.{Tells, Told}
use Rattle.fdp_log_pages.specs.Usages.{gives, lists, usage_in, usages_log}

-- ---- a test of each identifier is a test of each place

any_from : (g : ℕ → Bool) (f : Option Space → Bool) (first : ℕ) (places : List (Option Space)) → ((i : ℕ) → i < length places → g (first + i) ≡ f (get_or places i None)) → list_any g (numbers_from first (length places)) ≡ list_any f places
unfolding numbers_from
any_from g f first [] same = refl
any_from g f first (x ∷ xs) same =
    let here : g first ≡ f x = ap g (omega arith) ∙ same 0 (omega arith) in
    let rest = any_from g f (first + 1) xs (λ i below. ap g (omega arith) ∙ same (suc i) (omega (arith, below))) in
    ap (λ (b : Bool). b || list_any g (numbers_from (first + 1) (length xs))) here ∙ ap (λ (b : Bool). f x || b) rest

-- the place of an identifier
place_is : (places : List (Option Space)) (i : ℕ) → length places ≡ 16 → i < length places → in_place places (1 + i) ≡ get_or places i None
place_is places i sixteen below =
    let named : is_namespace_id (1 + i) ≡ true = grind (arith, nat_tests) in
    let place : 1 + i - 1 ≡ i = omega arith in
    ap (λ (b : Bool). if b then option_and_then (λ (x : Option Space). x) (slice_get places (1 + i - 1)) else None) named
    ∙ ap (λ (n : ℕ). option_and_then (λ (x : Option Space). x) (slice_get places n)) place
    ∙ ap (option_and_then (λ (x : Option Space). x)) (slice_get-get_or places i None below)

-- a namespace lists a handle where its place does
lists_same : (s : PlainState) (places : List (Option Space)) (ruh nsid : ℕ) → option_map namespace_of (in_place places nsid) ≡ s.namespaces nsid → lists_handle s ruh nsid ≡ lists ruh (in_place places nsid)
lists_same s places ruh nsid same =
    ap (λ (x : Option Namespace). list_any (λ listed. listed == ruh) (option_map_or (λ y. y.handles) x [])) (sym same) ∙ by_place (in_place places nsid)
  where
    by_place : (x : Option Space) → list_any (λ listed. listed == ruh) (option_map_or (λ (y : Namespace). y.handles) (option_map namespace_of x) []) ≡ lists ruh x
    by_place None = refl
    by_place (Some x) = refl

gives_same : (s : PlainState) (places : List (Option Space)) (ruh nsid : ℕ) → option_map namespace_of (in_place places nsid) ≡ s.namespaces nsid → gives_handle s ruh nsid ≡ gives ruh (in_place places nsid)
gives_same s places ruh nsid same =
    ap (λ (x : Option Namespace). option_map_or (λ y. y.given) x false && list_any (λ listed. listed == ruh) (option_map_or (λ y. y.handles) x [])) (sym same) ∙ by_place (in_place places nsid)
  where
    by_place : (x : Option Space) → option_map_or (λ (y : Namespace). y.given) (option_map namespace_of x) false && list_any (λ listed. listed == ruh) (option_map_or (λ (y : Namespace). y.handles) (option_map namespace_of x) []) ≡ gives ruh x
    by_place None = refl
    by_place (Some x) = refl

any_same : (g : ℕ → Bool) (f : Option Space → Bool) (places : List (Option Space)) → length places ≡ 16 → ((nsid : ℕ) → g nsid ≡ f (in_place places nsid)) → list_any g namespace_ids ≡ list_any f places
unfolding namespace_ids
any_same g f places sixteen same =
    ap (λ (n : ℕ). list_any g (numbers_from 1 n)) (sym sixteen)
    ∙ any_from g f 1 places (λ i below. same (1 + i) ∙ ap f (place_is places i sixteen below))

pub usage_same : (s : PlainState) (places : List (Option Space)) (ruh : ℕ) → length places ≡ 16 → ((nsid : ℕ) → option_map namespace_of (in_place places nsid) ≡ s.namespaces nsid) → usage_in places ruh ≡ usage_of s ruh
usage_same s places ruh sixteen same =
    let given = any_same (gives_handle s ruh) (gives ruh) places sixteen (λ nsid. gives_same s places ruh nsid (same nsid)) in
    let listed = any_same (lists_handle s ruh) (lists ruh) places sixteen (λ nsid. lists_same s places ruh nsid (same nsid)) in
    ap (λ (b : Bool). if b then 1 else if list_any (lists ruh) places then 2 else 0) (sym given)
    ∙ ap (λ (b : Bool). if list_any (gives_handle s ruh) namespace_ids then 1 else if b then 2 else 0) (sym listed)

-- how many handles there are
pub handles_told : (t : Told) (p : Point) → Tells t p → handle_count t.config t.summary.enabled t.summary.index ≡ handle_count t.config p.state.enabled p.state.index
handles_told t p tells = ap (λ (b : Bool). handle_count t.config b t.summary.index) tells.enabled ∙ ap (handle_count t.config p.state.enabled) tells.index

pub usages_told : (t : Told) (p : Point) → length t.summary.spaces ≡ 16 → Tells t p → usages_log (handle_count t.config t.summary.enabled t.summary.index) t.summary.spaces ≡ usage_log t.config p.state
usages_told t p sixteen tells =
    let each : usage_in t.summary.spaces ≡ usage_of p.state = λ i. λ ruh. usage_same p.state t.summary.spaces ruh sixteen tells.namespaces i in
    ap (λ (n : ℕ). usages_log n t.summary.spaces) (handles_told t p tells)
    ∙ ap (λ (f : ℕ → ℕ). to_le_bytes w16 (handle_count t.config p.state.enabled p.state.index) ++ zeros 6 ++ flat_map (λ ruh. f ruh ∷ zeros 7) (numbers_below (handle_count t.config p.state.enabled p.state.index))) each

-- ---- which page it is

pub page_usages : (c : DriveConfig) (p : Point) (lid lsp : ℕ) → lid ≡ 0x21 → log_page c p lid lsp ≡ usage_log c p.state
page_usages c p lid lsp is = ap (λ (n : ℕ). log_page c p n lsp) is

pub page_statistics : (c : DriveConfig) (p : Point) (lid lsp : ℕ) → lid ≡ 0x22 → log_page c p lid lsp ≡ statistics_log c p.totals
page_statistics c p lid lsp is = ap (λ (n : ℕ). log_page c p n lsp) is

pub page_events : (c : DriveConfig) (p : Point) (lid lsp : ℕ) → lid ≢ 0x20 → lid ≢ 0x21 → lid ≢ 0x22 → log_page c p lid lsp ≡ events_log (if lsp % 2 == 1 then p.host_events else p.controller_events)
page_events c p lid lsp no_20 no_21 no_22 =
    let a : (lid == 0x20) ≡ false = grind (arith, nat_tests) in
    let b : (lid == 0x21) ≡ false = grind (arith, nat_tests) in
    let d : (lid == 0x22) ≡ false = grind (arith, nat_tests) in
    let last : List ℕ = events_log (if lsp % 2 == 1 then p.host_events else p.controller_events) in
    ap (λ (t : Bool). if t then configurations_log c else if lid == 0x21 then usage_log c p.state else if lid == 0x22 then statistics_log c p.totals else last) a
    ∙ ap (λ (t : Bool). if t then usage_log c p.state else if lid == 0x22 then statistics_log c p.totals else last) b
    ∙ ap (λ (t : Bool). if t then statistics_log c p.totals else last) d

-- the events that a page tells
pub events_told : (t : Told) (p : Point) (lsp : ℕ) → Tells t p → (if lsp % 2 == 1 then t.summary.host_events else t.summary.controller_events) ≡ (if lsp % 2 == 1 then p.host_events else p.controller_events)
events_told t p lsp tells =
    ap (λ (es : List Event). if lsp % 2 == 1 then es else t.summary.controller_events) tells.host_events
    ∙ ap (λ (es : List Event). if lsp % 2 == 1 then p.host_events else es) tells.controller_events
