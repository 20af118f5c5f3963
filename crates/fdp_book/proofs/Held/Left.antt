-- What a command leaves of the pages that closes units and changes no owner.
use Rattle.std.proofs.Common.{◌≡◌, ℕ, Bool, List, [], Option, Some, refl, sym, ◌∙◌, ap, subst, arith, inl}
use Rattle.std.specs.Option.{option_map_or}
use Rattle.fdp_base.specs.declared.command.Command.{Command}
use Rattle.fdp_base.specs.declared.config.DriveConfig.{DriveConfig}
use Rattle.fdp_base.specs.declared.entry.Copied.{Copied}
use Rattle.fdp_base.specs.declared.entry.Entry.{Entry}
use Rattle.fdp_base.specs.declared.entry.Reply.{Reply}
use Rattle.fdp_base.specs.declared.entry.Spot.{Spot}
use Rattle.fdp_book.specs.declared.flight.Flight.{Flight}
use Rattle.fdp_book.specs.Held.{ArePagesOf}
use Rattle.fdp_book.proofs.Leading.{leads-same}
use Rattle.fdp_history.specs.Orderly.{IsOrderly}
use Rattle.fdp_readings.specs.fdp_locations.Located.{AreAlike, AreLed}
use Rattle.fdp_readings.specs.fdp_locations.Written.{Written}
use Rattle.fdp_readings.proofs.fdp_locations.Ended.{host}
use Rattle.fdp_readings.proofs.fdp_locations.Kept.{WasNamed, holds-same, led-still}
use Rattle.fdp_readings.proofs.fdp_locations.Left.{left-next}
use Rattle.fdp_map.specs.MapTable.{MapTable}
use Rattle.fdp_owners.specs.Owned.{AreOwners}
use Rattle.fdp_owners.specs.OwnerTable.{OwnerTable, owner_at}
use Rattle.fdp_readings.specs.fdp_pages.PageTables.{PageTables, passes_at}
use Rattle.fdp_readings.specs.fdp_pages.Steps.{LeavesUnits}
use Rattle.fdp_passes.specs.GroupPasses.{Pass}
use Rattle.fdp_pointers.specs.Contents.{ended_by}
use Rattle.fdp_pointers.specs.Pointers.{Pointer, renamed}
use Rattle.fdp_rules.specs.Next.{next}
use Rattle.fdp_rules.specs.PlainState.{Going}
use Rattle.fdp_rules.specs.Point.{Point}
use Rattle.fdp_rules.specs.Step.{Follows}
use Rattle.fdp_readings.proofs.fdp_trails.Grouping.{all-renamed}

pub pages-left : (told : Bool) (c : DriveConfig) (p : Point) (queue number : ℕ) (command : Command) (reply : Reply) (moment : ℕ) (written : Spot → Option Written) (map : MapTable) (flights : List (Option Flight)) (t now : PageTables) →
    IsOrderly c p → Follows told c p (host queue number command reply moment) → ended_by p.state queue reply.applied command ≡ Some →
    (next c p (host queue number command reply moment)).state.going ≡ p.state.going → (next c p (host queue number command reply moment)).state.namespaces ≡ p.state.namespaces → LeavesUnits t now →
    ArePagesOf c p written map flights t → ArePagesOf c (next c p (host queue number command reply moment)) written map flights now
pages-left told c p queue number command reply moment written map flights t now orderly follows is going spaces leaves h =
    let e : Entry = host queue number command reply moment in
    let q : Point = next c p e in
    let r : Pointer → Option Pointer = ended_by p.state queue reply.applied command in
    record {
      at = h.at;
      led = subst (λ (r : Pointer → Option Pointer). AreLed c q written (renamed r h.at) now) is
          (led-still told c p e written written h.at t now orderly.state follows refl
          (holds-same written (renamed r h.at))
          (subst (λ (k : Pointer → Option Pointer). AreOwners (owner_at now.owners) (renamed k h.at)) (sym is) (subst (λ (o : OwnerTable). AreOwners (owner_at o) h.at) (sym leaves.owners) h.led.owned))
          (subst (λ (k : Pointer → Option Pointer). WasNamed p.state q.state h.at (renamed k h.at)) (sym is) (λ k index g y is_going there. (g, sym (ap (λ (f : ℕ → Option Going). f k) going) ∙ is_going, refl, there)))
          (λ unit. omega (arith, left-next t now leaves unit))
          (all-renamed c p e h.at c.groups (passes_at t) (passes_at now) refl (λ rg low. inl (leaves.passes rg)) (λ rg low ends. absurd cc) h.led.passes)
          (λ rg low. subst (λ (copies : List Copied). AreAlike written copies) (sym (ap (λ (o : Option Pass). option_map_or (λ (x : Pass). x.copies) o []) (leaves.passes rg))) (h.led.copies rg low))
          h.led);
      leads = leads-same p.state q.state map flights h.at spaces h.leads;
    }
