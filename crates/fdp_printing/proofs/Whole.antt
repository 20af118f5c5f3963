-- The whole output of a run, and its record, as they are printed.
use Rattle.std.proofs.Common.{◌≡◌, ℕ, zero, suc, ◌+◌, ◌-◌, Bool, true, false, List, [], ◌++◌, length, map, flat_map, codes, Option, Some, None, refl, sym, ap, ◌∙◌, arith}
use Rattle.std.specs.Prelude.{if◌then◌else◌}
use Rattle.std.specs.Option.{option_map_or}
use Rattle.fdp_base.specs.declared.config.DriveConfig.{DriveConfig}
use Rattle.fdp_base.specs.declared.entry.Entry.{Entry}
use Rattle.fdp_base.specs.declared.entry.Totals.{Totals}
use Rattle.fdp_base.specs.Numbers.{numbers_below, numbers_from}
use Rattle.fdp_output.specs.HistoryText.{history_text, record_of}
use Rattle.fdp_output.specs.Output.{queue_text}
use Rattle.fdp_output.specs.RunOutput.{closing_text, event_line, output_of, placement_text, totals_line, usage_line}
use Rattle.fdp_rules.specs.History.{Found, point_of, totals_of}
use Rattle.fdp_rules.specs.LogPages.{usage_of}
use Rattle.fdp_rules.specs.PlainState.{PlainState}
use Rattle.fdp_rules.specs.Point.{Point}
use Rattle.fdp_rules.specs.Room.{handles_in_force}
use Rattle.fdp_printing.specs.declared.closing.Closing.{Closing}
use Rattle.fdp_printing.specs.declared.closing.Placement.{Placement}
use Rattle.fdp_printing.specs.Closing.{IsClosing, IsPlacementAt, TellsPlacement}
use Rattle.fdp_printing.specs.Lines.{closing_lines, placement_lines, run_lines, usage_lines}

-- the usages of handles that follow one another
usages_are : (s : PlainState) (first count : ℕ) → usage_lines first (map (usage_of s) (numbers_from first count)) ≡ flat_map (λ ruh. usage_line ruh (usage_of s ruh)) (numbers_from first count)
unfolding numbers_from
usages_are s first zero = refl
usages_are s first (suc count) = ap (λ t. usage_line first (usage_of s first) ++ t) (usages_are s (first + 1) count)

placement_is : (c : DriveConfig) (p : Point) (x : Placement) → IsPlacementAt c p x → placement_lines x ≡ placement_text c p
placement_is c p x at =
    let host = flat_map (event_line (codes "host")) in
    let controller = flat_map (event_line (codes "ctrl")) in
    ap (λ us. usage_lines 0 us ++ host x.host_events.items ++ controller x.controller_events.items) at.usages
    ∙ ap (λ t. t ++ host x.host_events.items ++ controller x.controller_events.items) (usages_are p.state 0 (handles_in_force c p.state))
    ∙ ap (λ es. flat_map (λ ruh. usage_line ruh (usage_of p.state ruh)) (numbers_below (handles_in_force c p.state)) ++ host es ++ controller x.controller_events.items) at.host_events
    ∙ ap (λ es. flat_map (λ ruh. usage_line ruh (usage_of p.state ruh)) (numbers_below (handles_in_force c p.state)) ++ host p.host_events ++ controller es) at.controller_events

if_true : (b : Bool) (x y : List ℕ) → b ≡ true → (if b then x else y) ≡ x
if_true true x y is = refl
if_true false x y is = absurd (cc)

if_false : (b : Bool) (x y : List ℕ) → b ≡ false → (if b then x else y) ≡ y
if_false true x y is = absurd (cc)
if_false false x y is = refl

-- what is told of placement, or nothing
told_is : (c : DriveConfig) (p : Point) (told : Option Placement) → TellsPlacement c p told →
    option_map_or placement_lines told [] ≡ (if p.state.enabled then placement_text c p else [])
told_is c p None off = sym (if_false p.state.enabled (placement_text c p) [] off)
told_is c p (Some x) on = placement_is c p x on.1 ∙ sym (if_true p.state.enabled (placement_text c p) [] on.0)

-- what is printed behind the completions
closing_is : (c : DriveConfig) (p : Point) (x : Closing) → IsClosing c p x → closing_lines c x ≡ closing_text c p
closing_is c p x closing =
    ap (λ t. totals_line c t ++ option_map_or placement_lines x.placement []) closing.totals
    ∙ ap (λ t. totals_line c p.totals ++ t) (told_is c p x.placement closing.placement)

-- the whole output
pub output_is : (c : DriveConfig) (f : Found) (traces : ℕ) (es : List Entry) (x : Closing) → IsClosing c (point_of c f es) x → run_lines c traces es x ≡ output_of c f traces es
unfolding output_of
output_is c f traces es x closing = ap (λ t. flat_map (queue_text es) (numbers_from 1 traces) ++ t) (closing_is c (point_of c f es) x closing)

-- the position in front of the entries
position_is : (c : DriveConfig) (f : Found) (es : List Entry) (x : Closing) → IsClosing c (point_of c f es) x → x.totals.position ≡ f.totals.position + length es
unfolding point_of totals_of
position_is c f es x closing = ap (λ (t : Totals). t.position) closing.totals

-- the whole record
pub record_is : (c : DriveConfig) (f : Found) (traces found : ℕ) (es : List Entry) (x : Closing) → IsClosing c (point_of c f es) x → found ≡ x.totals.position - length es →
    run_lines c traces es x ++ history_text c.block (found + 1) es ≡ record_of c f traces es
unfolding record_of
record_is c f traces found es x closing is =
    let same : found ≡ f.totals.position = omega (arith, is, position_is c f es x closing) in
    ap (λ n. run_lines c traces es x ++ history_text c.block (n + 1) es) same
    ∙ ap (λ t. t ++ history_text c.block (f.totals.position + 1) es) (output_is c f traces es x closing)
